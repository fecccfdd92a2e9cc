-- The walk over the collection table.
use Rattle.std.proofs.Common.{◌≡◌, ℕ, ◌+◌, ◌<◌, Bool, true, false, cond, eqb, List, Option, Some, None, is_some, refl, sym, subst, ap, ◌∙◌, arith}
use Rattle.std.proofs.Common.{add-one}
use Rattle.std.specs.Prelude.{◌||◌}
use Rattle.std.specs.Option.{option_and_then}
use Rattle.std.proofs.lemmas.Bool.{eqb-true, eq-eqb, ne_eqb}
use Rattle.guest_windows.specs.Windows.{Window, number_at}
use Rattle.gits_regs.specs.Registers.{Registers, collection_places}
use Rattle.table_entries.specs.Fields.{CollectionFields}
use Rattle.table_entries.specs.Words.{unpacked_collection}
use Rattle.its_types.specs.Maps.{Maps, collection_of, no_maps}
use Rattle.its_types.specs.declared.ids.Vcpu.{Vcpu}
use Rattle.its_types.specs.declared.machine.Shape.{Shape}
use Rattle.its_plain.specs.CollectionTables.{collection_address, collection_entry, collection_leads, next_collection, is_of, stands_before}
use Rattle.standing_states.specs.Found.{put_collection, AreThoseBefore}
use Rattle.standing_states.proofs.Walks.{Rises}
use Rattle.standing_states.proofs.EventsWalked.{within_is}
use Rattle.standing_states.proofs.Filled.{collection-mapped, no_collection}

-- where a place leads is told by its entry
leads_by : (r : Registers) (i : ℕ) (o : Option ℕ) → option_and_then (λ word. collection_leads r i (unpacked_collection word)) o ≡ collection_leads r i
    (option_and_then unpacked_collection o)
leads_by r i None = refl
leads_by r i (Some word) = refl

pub next_is : (memory : List Window) (r : Registers) (i : ℕ) → next_collection memory r i ≡ collection_leads r i (option_and_then unpacked_collection
    (number_at memory (collection_address r i)))
next_is memory r i = leads_by r i (number_at memory (collection_address r i))

leads_up : (r : Registers) (i q : ℕ) (o : Option CollectionFields) → collection_leads r i o ≡ Some q → (q ≡ i + 1) × (i + 1 < collection_places r)
leads_up r i q None e = absurd cc
leads_up r i q (Some c) e = within_is (collection_places r) (i + 1) q e

step_up : (memory : List Window) (r : Registers) (i q : ℕ) → next_collection memory r i ≡ Some q → (q ≡ i + 1) × (i + 1 < collection_places r)
step_up memory r i q e = leads_up r i q (option_and_then unpacked_collection (number_at memory (collection_address r i))) (sym (next_is memory r i) ∙ e)

pub collections_rise : (memory : List Window) (r : Registers) → Rises (next_collection memory r) (λ i. i) (collection_places r) (λ i. i < collection_places r)
collections_rise memory r = record {
  up = λ p q g e. let w = step_up memory r p q e in let is = w.0 in omega arith;
  good = λ p q g e. let w = step_up memory r p q e in subst (λ (k : ℕ). k < collection_places r) (sym w.0) w.1;
  below = λ p g. g;
}

-- ---- the collections that are mapped

pub none_before : (s : Shape) (memory : List Window) (r : Registers) (m : Maps) → m ≡ no_maps → AreThoseBefore s memory r m 0
none_before s memory r m is icid = ap (λ (n : Maps). is_some (collection_of n icid)) is ∙ ap is_some (no_collection icid)

turned : (a b : ℕ) → eqb a b ≡ eqb b a
turned a b = elim (eqb a b) as (λ t. eqb a b ≡ t → t ≡ eqb b a) [
  | true ↦ λ e. sym (eq-eqb b a (sym (eqb-true a b e)))
  | false ↦ λ e. sym (ne_eqb b a (λ s. absurd (let no : true ≡ false = sym (eq-eqb a b (sym s)) ∙ e in cc)))
] refl

some_either : {X : Type 0} (t : Bool) (x : X) (o : Option X) → is_some (cond t (Some x) o) ≡ (t || is_some o)
some_either true x o = refl
some_either false x o = refl

pub one_more : (s : Shape) (memory : List Window) (r : Registers) (m n : Maps) (i : ℕ) (c : CollectionFields) (v : Vcpu) → AreThoseBefore s memory r m i
    → collection_entry s memory r i ≡ Some c → n ≡ put_collection m (c.icid, v) → AreThoseBefore s memory r n (i + 1)
one_more s memory r m n i c v before at got icid =
    ap (λ (u : Maps). is_some (collection_of u icid)) got
    ∙ ap is_some (collection-mapped m c.icid v icid)
    ∙ some_either (eqb icid c.icid) v (collection_of m icid)
    ∙ ap (λ t. t || is_some (collection_of m icid)) (turned icid c.icid)
    ∙ ap (λ t. eqb c.icid icid || t) (before icid)
    ∙ ap (λ o. is_of icid o || stands_before s memory r i icid) (sym at)
    ∙ ap (λ k. stands_before s memory r k icid) (sym (add-one i))
