-- The first number of a range that passes a test, and how many pass it.
use Rattle.std.specs.Prelude.{ℕ, Bool, count_by}
use Rattle.std.specs.List.{range_with_len}
pub use Rattle.lpi_config.specs.Searches.{NoneIn, IsFirstIn, FirstIn}

-- how many of the n numbers from low on
unfoldable pub count_in : (ℕ → Bool) → ℕ → ℕ → ℕ
count_in test low n = count_by test (range_with_len low n)
