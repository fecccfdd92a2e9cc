-- The first number of a range that passes a test.
use Rattle.std.specs.Prelude.{◌≡◌, ℕ, ◌≤◌, ◌<◌, Bool, true, false, Option, MatchOption}

-- none from low on, below high
abbrev pub NoneIn : (ℕ → Bool) → ℕ → ℕ → Type 0
NoneIn test low high = (y : ℕ) → low ≤ y → y < high → test y ≡ false

pub record IsFirstIn (test : ℕ → Bool) (low high x : ℕ) : Type 0 where
  pub from : low ≤ x
  pub below : x < high
  pub met : test x ≡ true
  pub before : NoneIn test low x

abbrev pub FirstIn : (ℕ → Bool) → ℕ → ℕ → Option ℕ → Type 0
FirstIn test low high found = MatchOption found (NoneIn test low high) (λ x. IsFirstIn test low high x)
