-- What the outcome of a search says.
use Rattle.std.specs.Prelude.{ℕ, List}
use Rattle.front_search.specs.declared.outcome.Outcome.{Outcome}
use Rattle.front_search.specs.declared.outcome.Outcome.TheVariants.{Fits, Nowhere, Undecided}

abbrev pub IfFits : Outcome → (List ℕ → Type 0) → Type 0
IfFits (Fits order) P = P order.items
IfFits (Nowhere reached) P = Unit {0}
IfFits (Undecided states) P = Unit {0}

abbrev pub IfNowhere : Outcome → (List ℕ → Type 0) → Type 0
IfNowhere (Fits order) P = Unit {0}
IfNowhere (Nowhere reached) P = P reached.items
IfNowhere (Undecided states) P = Unit {0}

abbrev pub IfUndecided : Outcome → (ℕ → Type 0) → Type 0
IfUndecided (Fits order) P = Unit {0}
IfUndecided (Nowhere reached) P = Unit {0}
IfUndecided (Undecided states) P = P states
