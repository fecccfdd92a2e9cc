-- The first state of a described machine, which may be restored from its memory (KVM document arm-vgic-its, "ITS Restore
-- Sequence"), or why there is none.
use Rattle.std.specs.Prelude.{◌≡◌, ℕ, suc, Bool, true, false, ◌&&◌, ◌==◌, if◌then◌else◌, List, [], ◌∷◌, map, filter, Option, Some, None, is_some, Result, Ok, Err}
use Rattle.std.specs.FinMap.{entries}
use Rattle.std.specs.List.{list_any}
use Rattle.gits_regs.specs.declared.values.RegValues.{RegValues}
use Rattle.its_types.specs.Maps.{Maps, collection_of}
use Rattle.its_types.specs.declared.translation.Bases.{Bases}
use Rattle.its_types.specs.declared.translation.Event.{Event}
use Rattle.its_types.specs.declared.ids.Vcpu.{Vcpu}
use Rattle.its_plain.specs.Plain.{Plain, Translator, Redistributor}
use Rattle.its_plain.specs.Machine.{made, bases_given}
use Rattle.its_plain.specs.Stands.{Stands, IsFirstFault}
use Rattle.its_plain.specs.declared.desc.Desc.{Desc}
use Rattle.its_plain.specs.declared.desc.DescFault.{DescFault}
use Rattle.its_plain.specs.declared.desc.DescFault.TheVariants.{Restore}
use Rattle.its_plain.specs.declared.fault.RestoreFault.{RestoreFault}
use Rattle.its_plain.specs.declared.make.MakeError.{MakeError}
use Rattle.its_plain.specs.declared.make.MakeError.TheVariants as errors

-- the register values that each translator is restored with, if it is
abbrev pub values_of : Desc → List (Option RegValues)
values_of d = map (λ t. t.restore) d.translators

-- some translator is restored
abbrev pub is_restored : Desc → Bool
is_restored d = list_any is_some (values_of d)

-- where register values are given, the state that they and the memory of the machine as made stand for
abbrev pub StartsAt : Bool → List (Option RegValues) → List Bases → Plain → Plain → Type 0
StartsAt false values bases base u = u ≡ base
StartsAt true values bases base u = Stands base.memory values base.layout bases u

-- where the tables of the redistributors are that a restore reads
abbrev pub restored_bases : Desc → List Bases
restored_bases d = bases_given d.shape.vcpus d.tables

-- ---- bits that no event leads to

-- what a collection is mapped to is this virtual processor
abbrev pub is_target : ℕ → Option Vcpu → Bool
is_target vcpu None = false
is_target vcpu (Some v) = v.0 == vcpu

-- an event of an LPI, whose collection is mapped to a virtual processor
abbrev pub leads_to : Maps → ℕ → ℕ → (ℕ × ℕ) × Event → Bool
leads_to m intid vcpu e = e.1.intid.0 == intid && is_target vcpu (collection_of m e.1.icid.0)

-- an event of some translator leads there
abbrev pub is_led_to : List Translator → ℕ → ℕ → Bool
is_led_to translators vcpu intid = list_any (λ t. list_any (leads_to t.maps intid vcpu) (entries t.maps.events)) translators

-- redistributors, from that of a virtual processor on, with those of their pending LPIs alone that an event leads to
abbrev pub led_to : List Translator → ℕ → List Redistributor → List Redistributor
led_to translators vcpu [] = []
led_to translators vcpu (r ∷ rs) = record r { pending = filter (is_led_to translators vcpu) r.pending } ∷ led_to translators (suc vcpu) rs

-- the state that tables of KVM stand for: it writes an LPI's bit in the pending table of its present target, leaves older bits in other tables as they are,
-- and reads none of these
unfoldable pub without_stale : Plain → Plain
without_stale u = record u { redistributors = led_to u.translators 0 u.redistributors }

-- what a restored state comes to, where KVM saved it or not
abbrev pub kept_of : Bool → Plain → Plain
kept_of from_kvm u = if from_kvm then without_stale u else u

-- the machine is made, and starts in this state
pub record IsFirstState (d : Desc) (u : Plain) : Type 0 where
  pub base : Plain
  pub made_is : made d ≡ Ok base
  -- with every pending bit that the tables have
  pub read : Plain
  pub starts : StartsAt (is_restored d) (values_of d) (restored_bases d) base read
  pub kept : u ≡ kept_of d.from_kvm read

-- the first thing that is wrong with the description, or else the first fault of what is to be restored
pub data IsRefused (d : Desc) : DescFault → Type 0 where
  of_description : (f : DescFault) → made d ≡ Err f → IsRefused d f
  of_restore : (base : Plain) (i : ℕ) (f : RestoreFault) → made d ≡ Ok base → is_restored d ≡ true
      → IsFirstFault base.memory (values_of d) base.layout.shape (restored_bases d) i f → IsRefused d (Restore i f)

-- the outcome of making the machine, unless memory ran out
abbrev pub IsMadeFrom : Desc → Result Plain MakeError → Type 0
IsMadeFrom d (Ok u) = IsFirstState d u
IsMadeFrom d (Err (errors.Fault f)) = IsRefused d f
IsMadeFrom d (Err errors.NoMemory) = Unit {0}
