-- Where no LPI is enabled none is found.
use Rattle.std.proofs.Common.{◌≡◌, ℕ, zero, suc, ◌-◌, false, List, [], ◌∷◌, refl}
use Rattle.std.specs.Prelude.{replicate, slice_index, None}
use Rattle.its_types.specs.Lpis.{is_enabled, first_enabled, first_by_priority}

zero_at : (n k : ℕ) → slice_index (replicate n 0) k ≡ 0
zero_at zero k = refl
zero_at (suc n) zero = refl
zero_at (suc n) (suc k) = zero_at n k

disabled : (n intid : ℕ) → is_enabled (replicate n 0) intid ≡ false
disabled n intid = rw (zero_at n (intid - 8192)) refl

pub none_enabled : (n : ℕ) (lpis : List ℕ) → first_enabled (replicate n 0) lpis ≡ None
none_enabled n [] = refl
none_enabled n (x ∷ xs) = rw (disabled n x) (none_enabled n xs)

pub none_first : (n mask : ℕ) (lpis : List ℕ) → first_by_priority (replicate n 0) mask lpis ≡ None
none_first n mask [] = refl
none_first n mask (x ∷ xs) = rw (disabled n x) (none_first n mask xs)
