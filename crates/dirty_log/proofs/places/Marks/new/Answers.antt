use Rattle.std.proofs.Common.{ℕ, ◌+◌, ◌*◌, ◌/◌, List, sym, ap, subst, ◌∙◌, arith}
use Rattle.dirty_log.specs.Bits.{flags, IsCounted}
use Rattle.dirty_log.proofs.Flags.{flags_zero, none_counted}
use Rattle.dirty_log.proofs.places.Marks.new.Goals as goal

pub invariant_of-result : goal.invariant_of-result
invariant_of-result c =
    let n = c.args.places in
    subst (λ (ws : List ℕ). IsCounted ws 0 c.args.places) (sym c.in_ok-bits.ensures) (none_counted (64 * (n / 4096 + 1)) n (omega arith) c.requires)

pub returns : goal.returns
returns c =
    let n = c.args.places in
    ap (λ (ws : List ℕ). flags ws c.args.places) c.in_ok-bits.ensures ∙ flags_zero (64 * (n / 4096 + 1)) n
