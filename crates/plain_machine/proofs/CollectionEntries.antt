-- The entries of the collections that events name are those of the map that a save writes.
use Rattle.std.proofs.Common.{◌≡◌, ◌∙◌, ℕ, Bool, true, false, List, [], ◌∷◌, Option, refl, sym, ap}
use Rattle.std.specs.Prelude.{not, ◌&&◌, nat_lt, if◌then◌else◌, is_some}
use Rattle.std.specs.Ordering.{nat_cmp}
use Rattle.std.specs.Cmp.{nat_cmp_total}
use Rattle.std.specs.FinMap.{FinMap, entries, insert, put, get-entries, entries-insert}
use Rattle.gits_regs.specs.Registers.{Registers, collection_places}
use Rattle.its_types.specs.declared.ids.Vcpu.{Vcpu}
use Rattle.its_types.specs.declared.translation.Event.{Event}
use Rattle.its_types.specs.declared.machine.Shape.{Shape}
use Rattle.its_plain.specs.Plain.{Translator}
use Rattle.its_plain.specs.Saved.{never_mapped, is_awaited, with_named, saved_collections}
use Rattle.plain_machine.specs.CollectionEntries.{with_entry, with_entries}

module _ (r : Registers) where
  -- one collection
  added : (m : FinMap nat_cmp Vcpu) (icid : ℕ) → with_entry r icid (entries m) ≡ entries (if is_awaited r m icid then insert m icid never_mapped else m)
  added m icid =
      ap (λ (o : Option Vcpu). if nat_lt icid (collection_places r) && not (is_some o) then put nat_cmp icid never_mapped (entries m) else entries m)
      (sym (get-entries m icid))
      ∙ either (is_awaited r m icid)
    where
      either : (b : Bool) → (if b then put nat_cmp icid never_mapped (entries m) else entries m)
          ≡ entries (if b then insert m icid never_mapped else m)
      either true = sym (entries-insert nat_cmp_total m icid never_mapped)
      either false = refl

  pub named_entries : (m : FinMap nat_cmp Vcpu) (es : List ((ℕ × ℕ) × Event)) → with_entries r (entries m) es ≡ entries (with_named r m es)
  named_entries m [] = refl
  named_entries m (e ∷ es) = ap (with_entry r e.1.icid.0) (named_entries m es) ∙ added (with_named r m es) e.1.icid.0

abbrev pub list_where : Bool → Registers → List (ℕ × Vcpu) → List ((ℕ × ℕ) × Event) → List (ℕ × Vcpu)
list_where linux r list es = if linux then with_entries r list es else list

pub saved_list : (s : Shape) (t : Translator) → list_where s.linux t.regs (entries t.maps.collections) (entries t.maps.events) ≡ entries (saved_collections s t)
unfolding saved_collections
saved_list s t =
    elim s.linux as (λ (b : Bool). list_where b t.regs (entries t.maps.collections) (entries t.maps.events)
    ≡ entries (if b then with_named t.regs t.maps.collections (entries t.maps.events) else t.maps.collections)) [
      | true ↦ named_entries t.regs t.maps.collections (entries t.maps.events)
      | false ↦ refl
    ]
