-- A shard of a cache of translations: 64 sets of four ways, one set after another. A way has an entry or none.
use Rattle.std.specs.Prelude.{◌≡◌, ℕ, ◌+◌, ◌*◌, ◌/◌, Bool, false, not, ◌&&◌, ◌==◌, if◌then◌else◌, Option, Some, None, unwrap_or, List, [], ◌∷◌, length, map}
use Rattle.std.specs.Prelude.{position, replicate, slice_index_or, slice_range, slice_set}
use Rattle.std.specs.Option.{is_none, option_or}
use Rattle.its_types.specs.declared.ids.DeviceId.{DeviceId}
use Rattle.its_types.specs.declared.ids.EventId.{EventId}
use Rattle.its_types.specs.declared.ids.Target.{Target}
use Rattle.xlate_cache.specs.declared.entry.Entry.{Entry}
use Rattle.xlate_cache.specs.Pairs.{set_number}

-- a translation of a pair
abbrev pub entry : DeviceId → EventId → ℕ → Target → Entry
entry dev ev stamp target = record { dev = dev; ev = ev; stamp = stamp; target = target }

-- the way has an entry of the pair
abbrev pub is_of : ℕ → ℕ → Option Entry → Bool
is_of dev ev None = false
is_of dev ev (Some e) = e.dev.0 == dev && e.ev.0 == ev

-- it has one of the stamp
abbrev pub has_stamp : ℕ → Option Entry → Bool
has_stamp stamp None = false
has_stamp stamp (Some e) = e.stamp == stamp

-- it has one of both
abbrev pub holds : ℕ → ℕ → ℕ → Option Entry → Bool
holds dev ev stamp way = is_of dev ev way && has_stamp stamp way

-- the target of the entry, if the way has it
abbrev pub target_in : Option Entry → Option Target
target_in None = None
target_in (Some e) = Some e.target

-- what a pair's translation of a stamp is in some ways
abbrev pub found : List (Option Entry) → ℕ → ℕ → ℕ → Option Target
found [] dev ev stamp = None
found (way ∷ ways) dev ev stamp = if holds dev ev stamp way then target_in way else found ways dev ev stamp

-- which of the ways of a set an entry takes: that of its pair, else an empty one, else one of another stamp, else the first
abbrev pub chosen : List (Option Entry) → ℕ → ℕ → ℕ → ℕ
chosen set dev ev stamp = unwrap_or (option_or (option_or (position (is_of dev ev) set) (position is_none set))
    (position (λ way. not (has_stamp stamp way)) set)) 0

-- the first way of a pair's set
abbrev pub first_way : ℕ → ℕ → ℕ
first_way dev ev = 4 * set_number dev ev

-- the way that an entry takes
abbrev pub way_taken : List (Option Entry) → ℕ → ℕ → ℕ → ℕ
way_taken ways dev ev stamp = first_way dev ev + chosen (slice_range ways (first_way dev ev) (first_way dev ev + 4)) dev ev stamp

-- with an entry
abbrev pub filled : List (Option Entry) → Entry → List (Option Entry)
filled ways e = slice_set ways (way_taken ways e.dev.0 e.ev.0 e.stamp) (Some e)

-- without the entries of a pair
abbrev pub dropped : List (Option Entry) → ℕ → ℕ → List (Option Entry)
dropped ways dev ev = map (λ way. if is_of dev ev way then None else way) ways

-- a shard without any
unfoldable pub no_entries : List (Option Entry)
no_entries = replicate 256 None

-- there are 64 sets, and each entry stands in its pair's
pub record IsShard (ways : List (Option Entry)) : Type 0 where
  pub size : length ways ≡ 256
  pub placed : (i : ℕ) (e : Entry) → slice_index_or ways i None ≡ Some e → i / 4 ≡ set_number e.dev.0 e.ev.0
