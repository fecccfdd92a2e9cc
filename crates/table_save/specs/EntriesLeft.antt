-- What is still to be written of a collection table, from an ICID on.
use Rattle.std.specs.Prelude.{◌≡◌, ◌≤◌, ℕ, ◌+◌, Bool, true, false, ◌&&◌, nat_lt, if◌then◌else◌, List, [], ◌∷◌, Option, Some, None, is_none, IfSome}
use Rattle.std.specs.Ordering.{nat_cmp}
use Rattle.std.specs.FinMap as finmap
use Rattle.its_types.specs.Maps.{Maps, collection_of}
use Rattle.its_types.specs.declared.ids.Icid.{Icid}
use Rattle.its_types.specs.declared.ids.Vcpu.{Vcpu}
use Rattle.its_types.specs.declared.machine.Shape.{Shape}
use Rattle.gits_regs.specs.Registers.{Registers, collection_places}
use Rattle.its_maps.specs.Counting.{has_events}
use Rattle.its_plain.specs.Saved.{never_mapped}
use Rattle.standing_states.specs.Rises.{RisesFrom}
use Rattle.table_save.specs.declared.entry_front.EntryFront.{EntryFront}

-- below which ICID collections that aren't mapped have entries
abbrev pub named_places : Shape → Registers → ℕ
named_places s r = if s.linux then collection_places r else 0

-- one taken from a walk, before the others; at the walk's end there are none
abbrev pub collections_with : Option (Icid × Vcpu) → List (ℕ × Vcpu) → List (ℕ × Vcpu)
collections_with None rest = []
collections_with (Some c) rest = (c.0.0, c.1) ∷ rest

-- the first one stands before an ICID
abbrev pub begins_below : ℕ → Option (Icid × Vcpu) → Bool
begins_below icid None = false
begins_below icid (Some c) = nat_lt c.0.0 icid

-- an event names it, and it has a place
abbrev pub is_named : Maps → ℕ → ℕ → Bool
is_named m places icid = nat_lt icid places && has_events m icid

-- so, and it isn't mapped
abbrev pub awaits : Maps → ℕ → ℕ → Bool
awaits m places icid = is_named m places icid && is_none (collection_of m icid)

-- the first ICID stands after another
abbrev pub stands_before : ℕ → Option Icid → Bool
stands_before icid None = true
stands_before icid (Some k) = nat_lt icid k.0

-- the next one that awaits a collection, from one on
pub record IsNextNamed (m : Maps) (places from : ℕ) (named : Option Icid) : Type 0 where
  pub here : IfSome named (λ k. (from ≤ k.0) × (awaits m places k.0 ≡ true))
  pub before : (icid : ℕ) → from ≤ icid → stands_before icid named ≡ true → awaits m places icid ≡ false

-- what an entry has: what the collection is mapped to, or else, where an event names it, no processor
abbrev pub target : Bool → Option Vcpu → Option Vcpu
target named (Some v) = Some v
target named None = if named then Some never_mapped else None

-- these entries are left from an ICID on, where these collections are left of a walk, and this one awaits its entry next
pub record LeavesFrom (m : Maps) (places from : ℕ) (walk : List (ℕ × Vcpu)) (named : Option Icid) (es : List (ℕ × Vcpu)) : Type 0 where
  pub rises : RisesFrom from es
  pub entries : (icid : ℕ) → from ≤ icid → finmap.find nat_cmp icid es ≡ target (is_named m places icid) (collection_of m icid)
  pub mapped_rise : RisesFrom from walk
  pub mapped : (icid : ℕ) → from ≤ icid → finmap.find nat_cmp icid walk ≡ collection_of m icid
  pub next : IsNextNamed m places from named

-- these entries are left
abbrev pub Leaves : EntryFront → List (ℕ × Vcpu) → Type 0
Leaves f es = LeavesFrom f.maps.now.maps f.places f.from (collections_with f.first f.rest) f.named es
