-- Pages as stretches of consecutive numbers, and a list that says which are dirty.
use Rattle.std.specs.Prelude.{◌≡◌, ℕ, ◌+◌, ◌-◌, ◌<◌, ◌≤◌, ◌^◌, Bool, List, [], ◌∷◌, ◌++◌, length, get_or, ⊤}
use Rattle.std.specs.List.{range_with_len}
use Rattle.std.specs.List.Sorted.{IsStrictlyIncreasing}
use Rattle.dirty_log.specs.Pages.{page}
use Rattle.dirty_log.specs.declared.page.Page.{Page}
use Rattle.dirty_log.specs.declared.stretch.Stretch.{Stretch}

-- the numbers of a stretch's pages
abbrev pub run : Stretch → List ℕ
run s = range_with_len s.first (s.end - s.first)

abbrev pub numbers : List Stretch → List ℕ
numbers [] = []
numbers (s ∷ ss) = run s ++ numbers ss

-- each stretch's places begin where those before it end; the first begin at `place`
abbrev pub AreLaid : ℕ → List Stretch → Type 0
AreLaid place [] = ⊤
AreLaid place (s ∷ ss) = (s.place ≡ place) × (s.first < s.end) × AreLaid (place + (s.end - s.first)) ss

-- the pages of these numbers, each dirty where the list at its place says so
abbrev pub paged : List ℕ → List Bool → List Page
paged (n ∷ ns) (b ∷ bs) = page b n ∷ paged ns bs
paged ns bs = []

-- all numbers lie below 2 ^ 40
abbrev pub AreSmall : List ℕ → Type 0
AreSmall ns = (k : ℕ) → k < length ns → get_or ns k 0 < 2 ^ 40

pub record IsLog (ss : List Stretch) (marks : List Bool) : Type 0 where
  pub laid : AreLaid 0 ss
  pub rise : IsStrictlyIncreasing (numbers ss)
  pub small : AreSmall (numbers ss)
  pub size : length marks ≡ length (numbers ss)
  pub few : length marks ≤ 2 ^ 40
