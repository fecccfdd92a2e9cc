-- Pages of places, as the map from numbers that they show.
use Rattle.std.specs.Prelude.{ℕ, suc, ◌+◌, ◌*◌, ◌<◌, ◌≤◌, List, [], ◌∷◌, length, take, Option, Some, None, IsSome, slice_index_or, ◌≡◌}
use Rattle.std.specs.List.{flat_map, AllByRecursion}
use Rattle.std.specs.Ordering.{nat_cmp}
use Rattle.std.specs.FinMap as finmap
use Rattle.std.specs.FinMap.{FinMap, from_sorted}
use Rattle.its_maps.specs.declared.page.TheConstants.{PLACES}

-- a place's entry, if it has one, and then others
abbrev pub with_slot : {V : Type 0} → ℕ → Option V → List (ℕ × V) → List (ℕ × V)
with_slot key None rest = rest
with_slot key (Some value) rest = (key, value) ∷ rest

-- the entries of places, the first of which is that of a key
abbrev pub slots_from : {V : Type 0} → ℕ → List (Option V) → List (ℕ × V)
slots_from key [] = []
slots_from key (slot ∷ slots) = with_slot key slot (slots_from (suc key) slots)

-- those of pages, by page number
abbrev pub paged : {V : Type 0} → List (ℕ × List (Option V)) → List (ℕ × V)
paged = flat_map (λ p. slots_from (p.0 * PLACES) (take PLACES p.1))

abbrev pub paged_map : {V : Type 0} → FinMap nat_cmp (List (Option V)) → FinMap nat_cmp V
paged_map pages = from_sorted (paged (finmap.entries pages))

-- no place has an entry
abbrev pub IsBlank : {V : Type 0} → List (Option V) → Type 0
IsBlank {V} page = (i : ℕ) → i < PLACES → slice_index_or page i None ≡ None

-- each page holds keys of 32 bits
abbrev pub NumbersFit : {P : Type 0} → FinMap nat_cmp P → Type 0
NumbersFit pages = (number : ℕ) → IsSome (finmap.get pages number) → number * PLACES < 4294967296

-- the same of a list of pages
abbrev pub EachNumberFits : {P : Type 0} → List (ℕ × P) → Type 0
EachNumberFits {P} pages = (i : ℕ) (d : ℕ × P) → i < length pages → (slice_index_or pages i d).0 * PLACES < 4294967296

-- pages follow each other, and their keys are from one on
abbrev pub FollowFrom : {P : Type 0} → ℕ → List (ℕ × P) → Type 0
FollowFrom key [] = Unit {0}
FollowFrom key (page ∷ pages) = (key ≤ page.0 * PLACES) × FollowFrom (page.0 * PLACES + PLACES) pages

-- no entry is of an earlier key
abbrev pub AllFrom : {V : Type 0} → ℕ → List (ℕ × V) → Type 0
AllFrom key entries = AllByRecursion (λ e. key ≤ e.0) entries
