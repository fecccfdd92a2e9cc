-- Pending sets.
use Rattle.std.proofs.Common.{◌≡◌, ℕ, List, [], ◌∷◌, ◌++◌, refl, ap}
use Rattle.its_types.specs.Lpis.{with_lpi, with_lpis}

-- with some LPIs and one more behind them
pub with_lpis_push : (xs : List ℕ) (x : ℕ) (pending : List ℕ) → with_lpis (xs ++ x ∷ []) pending ≡ with_lpis xs (with_lpi x pending)
with_lpis_push [] x pending = refl
with_lpis_push (y ∷ ys) x pending = ap (with_lpi y) (with_lpis_push ys x pending)
