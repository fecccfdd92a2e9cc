-- What fills, drops and emptying leave to be found.
use Rattle.std.specs.Prelude.{◌≡◌, ◌<◌, ℕ, ◌+◌, ◌/◌, false, true, ◌⊎◌, Option, Some, None, MatchOption, List, slice_index_or}
use Rattle.xlate_cache.specs.declared.entry.Entry.{Entry}
use Rattle.xlate_cache.specs.Pairs.{set_number}
use Rattle.xlate_cache.specs.Ways.{is_of, has_stamp, holds, target_in, found, first_way, way_taken, filled, dropped, IsShard}

-- the entry that a fill takes away, if there was one
abbrev pub taken : List (Option Entry) → Entry → Option Entry
taken ways e = slice_index_or ways (way_taken ways e.dev.0 e.ev.0 e.stamp) None

-- right after a fill its translation is found
abbrev pub FindsFill : List (Option Entry) → Entry → Type 0
FindsFill ways e = found (filled ways e) e.dev.0 e.ev.0 e.stamp ≡ Some e.target

-- a fill leaves every other translation found as it was, but the one that it takes away
abbrev pub LeavesOthers : List (Option Entry) → Entry → Type 0
LeavesOthers ways e =
    (dev ev stamp : ℕ) → holds dev ev stamp (Some e) ≡ false → holds dev ev stamp (taken ways e) ≡ false
    → found (filled ways e) dev ev stamp ≡ found ways dev ev stamp

-- it takes from its own set
abbrev pub TakesFromSet : List (Option Entry) → Entry → Type 0
TakesFromSet ways e = way_taken ways e.dev.0 e.ev.0 e.stamp / 4 ≡ set_number e.dev.0 e.ev.0

-- it takes an entry of another pair and of its own stamp only where the set holds four such
abbrev pub TakesCurrentIfFull : List (Option Entry) → Entry → Type 0
TakesCurrentIfFull ways e =
    is_of e.dev.0 e.ev.0 (taken ways e) ≡ false → has_stamp e.stamp (taken ways e) ≡ true
    → (n : ℕ) → n < 4 → let way = slice_index_or ways (first_way e.dev.0 e.ev.0 + n) None in (is_of e.dev.0 e.ev.0 way ≡ false) × (has_stamp e.stamp way ≡ true)

-- the entries after a fill are the new one and old ones
abbrev pub AddsOne : List (Option Entry) → Entry → Type 0
AddsOne ways e = (i : ℕ) (f : Entry) → slice_index_or (filled ways e) i None ≡ Some f → (f ≡ e) ⊎ (slice_index_or ways i None ≡ Some f)

-- all of these
pub record IsLawfulFill (ways : List (Option Entry)) (e : Entry) : Type 0 where
  pub found : FindsFill ways e
  pub others : LeavesOthers ways e
  pub set : TakesFromSet ways e
  pub current : TakesCurrentIfFull ways e
  pub entries : AddsOne ways e
  pub shard : IsShard (filled ways e)

-- fills of shards are lawful
abbrev pub FillsAreLawful : Type 0
FillsAreLawful = (ways : List (Option Entry)) (e : Entry) → IsShard ways → IsLawfulFill ways e

-- the entries after a drop are old ones, and none is the pair's
abbrev pub KeepsOthers : List (Option Entry) → ℕ → ℕ → Type 0
KeepsOthers ways dev ev = (i : ℕ) (f : Entry) → slice_index_or (dropped ways dev ev) i None ≡ Some f → (slice_index_or ways i None ≡ Some f)
    × (is_of dev ev (Some f) ≡ false)

-- what is found is an entry of the pair and the stamp
abbrev pub FindsEntry : List (Option Entry) → ℕ → ℕ → ℕ → Type 0
FindsEntry ways dev ev stamp =
    MatchOption (found ways dev ev stamp) ((i : ℕ) → holds dev ev stamp (slice_index_or ways i None) ≡ false)
    (λ target. (i : ℕ) × (holds dev ev stamp (slice_index_or ways i None) ≡ true) × (target_in (slice_index_or ways i None) ≡ Some target))

-- a pair that is dropped is not found, and every other is found as it was
pub record Drops (ways : List (Option Entry)) (dev ev : ℕ) : Type 0 where
  pub pair : (stamp : ℕ) → found (dropped ways dev ev) dev ev stamp ≡ None
  pub others : (d e stamp : ℕ) → (d ≡ dev → e ≡ ev → ⊥) → found (dropped ways dev ev) d e stamp ≡ found ways d e stamp

-- drops from shards are lawful
abbrev pub DropsAreLawful : Type 0
DropsAreLawful = (ways : List (Option Entry)) (dev ev : ℕ) → IsShard ways → record {
  found : Drops ways dev ev;
  entries : KeepsOthers ways dev ev;
  shard : IsShard (dropped ways dev ev);
}

-- nothing is found
abbrev pub FindsNothing : List (Option Entry) → Type 0
FindsNothing ways = (dev ev stamp : ℕ) → found ways dev ev stamp ≡ None
