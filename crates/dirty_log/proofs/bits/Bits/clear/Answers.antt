use Rattle.std.proofs.Common.{◌≡◌, ℕ, length, get_or, replicate, inl, inr, sym, ◌∙◌, arith}
use Rattle.std.proofs.lemmas.Bool.{cases_lt}
use Rattle.std.proofs.lemmas.List.{ext_get_or, length-replicate, get_or-replicate}
use Rattle.dirty_log.proofs.Nexts.{is_nonzero-false}
use Rattle.dirty_log.proofs.bits.Bits.clear.Goals as goal

pub returns : goal.returns
returns c =
    let l = c.loop-used in
    let n = length c.args.self.now in
    ext_get_or 0 l.self (replicate {A = ℕ} n 0) (l.invariant.size ∙ sym (length-replicate {A = ℕ} n 0)) (λ k lt.
    let zero : get_or l.self k 0 ≡ 0 = (elim (cases_lt k l.from) [
      | inl done ↦ l.invariant.zero k done
      | inr left ↦ is_nonzero-false (get_or l.self k 0) (c.in_default.ensures.first k left lt)
    ]) in
    zero ∙ sym (get_or-replicate n k 0 0 (omega (arith, lt, l.invariant.size))))
