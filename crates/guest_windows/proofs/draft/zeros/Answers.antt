use Rattle.std.proofs.Common.{◌≡◌, ℕ, get_or, replicate, inl, inr, arith}
use Rattle.std.proofs.lemmas.Bool.{cases_lt}
use Rattle.std.proofs.lemmas.List.{get_or-replicate, get_or_past, length-replicate}
use Rattle.guest_windows.proofs.draft.zeros.Goals as goal

zero_of : (z n k : ℕ) → get_or (replicate n z) k z ≡ z
zero_of z n k =
    elim (cases_lt k n) [
      | inl lt ↦ get_or-replicate n k z z lt
      | inr past ↦ get_or_past (replicate n z) k z (omega (arith, past, length-replicate n z))
    ]

pub returns-clause-zero : goal.returns-clause-zero
returns-clause-zero c k = zero_of 0 4096 k
