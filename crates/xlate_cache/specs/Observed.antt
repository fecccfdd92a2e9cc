-- What can be asked of all the ways of a shard.
use Rattle.std.specs.Prelude.{◌≡◌, ℕ, Bool, true, false, ◌&&◌, ◌==◌, Option, Some, None, List, slice_index_or}
use Rattle.std.specs.List.{list_any, list_all}
use Rattle.xlate_cache.specs.declared.entry.Entry.{Entry}
use Rattle.xlate_cache.specs.Ways.{is_of}

-- some way has an entry of the pair
abbrev pub has_entry_of : List (Option Entry) → ℕ → ℕ → Bool
has_entry_of ways dev ev = list_any (is_of dev ev) ways

-- every field is the same
abbrev pub is_same : Entry → Entry → Bool
is_same e f = e.dev.0 == f.dev.0 && e.ev.0 == f.ev.0 && e.stamp == f.stamp && e.target.vcpu.0 == f.target.vcpu.0 && e.target.intid.0 == f.target.intid.0

-- the way has no entry but the given one
abbrev pub is_only : Option Entry → Option Entry → Bool
is_only given None = true
is_only None (Some e) = false
is_only (Some g) (Some e) = is_same e g

abbrev pub holds_only : List (Option Entry) → Option Entry → Bool
holds_only ways given = list_all (is_only given) ways

-- each entry is the given one; where none is given there is no entry
abbrev pub HoldsOnly : List (Option Entry) → Option Entry → Type 0
HoldsOnly ways given = (k : ℕ) (e : Entry) → slice_index_or ways k None ≡ Some e → given ≡ Some e
