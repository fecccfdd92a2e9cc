-- The next collection that an event names.
use Rattle.std.specs.Prelude.{◌≡◌, ◌≤◌, ◌<◌, ℕ, Option, Some, None, IfSome}
use Rattle.its_types.specs.declared.ids.Icid.{Icid}

-- where the ICIDs end that stand before it: there are 2^16
abbrev pub end_of : Option Icid → ℕ
end_of None = 65536
end_of (Some icid) = icid.0

-- the first number from one on whose count isn't zero
pub record IsNext (count : ℕ → ℕ) (from : ℕ) (next : Option Icid) : Type 0 where
  pub most : end_of next ≤ 65536
  pub low : IfSome next (λ icid. icid.0 < 65536)
  pub here : IfSome next (λ icid. (from ≤ icid.0) × (0 < count icid.0))
  pub before : (n : ℕ) → from ≤ n → n < end_of next → count n ≡ 0
