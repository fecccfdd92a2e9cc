-- Ranges of requesters in rising order.
use Rattle.std.specs.Prelude.{◌≡◌, ℕ, ◌+◌, Bool, true, ◌&&◌, nat_le, List, [], ◌∷◌, IsPermutation}
use Rattle.its_plain.specs.declared.desc.Requesters.{Requesters}

-- there are some in each range, the first of which begins at a number or after it, and each other after the end of the one before
abbrev pub rise_from : ℕ → List Requesters → Bool
rise_from low [] = true
rise_from low (r ∷ rs) = nat_le low r.first && nat_le r.first r.last && rise_from (r.last + 1) rs

-- the same ranges in rising order
pub record AreRisingOf (lines rising : List Requesters) : Type 0 where
  pub same : IsPermutation lines rising
  pub rise : rise_from 0 rising ≡ true
