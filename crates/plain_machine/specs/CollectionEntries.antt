-- The entries of a saved collection table, as plain lists.
use Rattle.std.specs.Prelude.{ℕ, not, ◌&&◌, nat_lt, if◌then◌else◌, List, [], ◌∷◌, is_some, slice_get}
use Rattle.std.specs.Ordering.{nat_cmp}
use Rattle.std.specs.FinMap.{find, put}
use Rattle.gits_regs.specs.Registers.{Registers, collection_places}
use Rattle.its_types.specs.declared.ids.Vcpu.{Vcpu}
use Rattle.its_types.specs.declared.translation.Event.{Event}
use Rattle.its_plain.specs.Saved.{never_mapped, collection_entry}

-- a collection with a place in the table has an entry
abbrev pub with_entry : Registers → ℕ → List (ℕ × Vcpu) → List (ℕ × Vcpu)
with_entry r icid list = if nat_lt icid (collection_places r) && not (is_some (find nat_cmp icid list)) then put nat_cmp icid never_mapped list else list

-- each collection has one that an event names
abbrev pub with_entries : Registers → List (ℕ × Vcpu) → List ((ℕ × ℕ) × Event) → List (ℕ × Vcpu)
with_entries r list [] = list
with_entries r list (e ∷ es) = with_entry r e.1.icid.0 (with_entries r list es)

-- the word at a place
abbrev pub entry_word : List (ℕ × Vcpu) → ℕ → ℕ
entry_word list i = collection_entry (slice_get list i)
