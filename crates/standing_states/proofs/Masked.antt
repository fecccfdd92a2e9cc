-- Registers that can be restored are the values with their masks.
use Rattle.std.proofs.Common.{◌≡◌, ℕ, Bool, true, false, nat_lt, Ok}
use Rattle.gits_regs.specs.Registers.{Registers, masked, restored, base_allowed, queue_size}
use Rattle.gits_regs.specs.Registers as registers
use Rattle.gits_regs.specs.declared.values.Register.{Register}
use Rattle.gits_regs.specs.declared.values.RegValues.{RegValues}

five : (a b c d e : Bool) (v w x y z : Register) (r s : Registers)
    → registers.◌>>=◌ (registers.ensure a v)
    (λ _. registers.◌>>=◌ (registers.ensure b w)
    (λ _. registers.◌>>=◌ (registers.ensure c x) (λ _. registers.◌>>=◌ (registers.ensure d y) (λ _. registers.◌>>=◌ (registers.ensure e z) (λ _. Ok r)))))
    ≡ Ok s → s ≡ r
five true true true true true v w x y z r s h = cc
five true true true true false v w x y z r s h = absurd cc
five true true true false e v w x y z r s h = absurd cc
five true true false d e v w x y z r s h = absurd cc
five true false c d e v w x y z r s h = absurd cc
five false b c d e v w x y z r s h = absurd cc

pub are_masked : (values : RegValues) (n : ℕ) (s : Registers) → restored values n ≡ Ok s → s ≡ masked values n
unfolding restored
are_masked values n s h =
    let r = masked values n in
    five (base_allowed r.enabled r.cbaser) (nat_lt r.creadr (queue_size r)) (nat_lt r.cwriter (queue_size r)) (base_allowed r.enabled r.baser0)
    (base_allowed r.enabled r.baser1) _ _ _ _ _ r s h
