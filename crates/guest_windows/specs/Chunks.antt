-- The pages of one chunk.
use Rattle.std.specs.Prelude.{◌≡◌, ℕ, zero, suc, ◌<◌, ◌≤◌, List, [], ◌∷◌, length, map, slice_index, slice_index_or}
use Rattle.guest_windows.specs.declared.page.Page.{Page}

abbrev pub page_rows : List Page → List (List ℕ)
page_rows pages = map (λ p. p.bytes.items) pages

-- one that is held, of pages that aren't
abbrev pub IsBlankChunk : List (List ℕ) → Type 0
IsBlankChunk chunk = (length chunk ≡ 4096) × ((k : ℕ) → slice_index_or chunk k [] ≡ [])

-- ---- pages that have numbers, counted from one on: 0 for one that has none

-- how many have one
abbrev pub used : List ℕ → ℕ
used [] = 0
used (zero ∷ numbers) = used numbers
used (suc n ∷ numbers) = suc (used numbers)

-- the numbers are those from one to a count, no two pages with the same
abbrev pub IsNumbering : List ℕ → ℕ → Type 0
IsNumbering numbers count =
    (used numbers ≡ count)
    × ((k : ℕ) → slice_index numbers k ≤ count)
    × ((k j : ℕ) → 0 < slice_index numbers k → slice_index numbers j ≡ slice_index numbers k → j ≡ k)
