-- A collection table that was saved holds just the collections that are mapped: other entries don't count.
use Rattle.std.proofs.Common.{◌≡◌, ℕ, zero, suc, ◌+◌, ◌*◌, ◌^◌, ◌<◌, ◌≤◌, Bool, true, false, not, cond, eqb, nat_lt, List, Option, Some, None, Ok, refl, sym}
use Rattle.std.proofs.Common.{subst, ap, ◌∙◌, inl, inr, arith, ◌↔◌, add-one}
use Rattle.std.specs.Prelude.{◌||◌, ◌&&◌, slice_get}
use Rattle.std.specs.Option.{option_and_then, option_map, ok_or}
use Rattle.std.specs.Ordering.{nat_cmp}
use Rattle.std.specs.FinMap.{entries, entries_sorted, is_sorted}
use lib.Dec.{T}
use Rattle.std.proofs.lemmas.Bool.{eq-eqb, ne_eqb, lt-ltb, ltb-true}
use Rattle.std.proofs.lemmas.Option.{same_Some}
use Rattle.its_types.specs.Bits.{field, bit_of}
use Rattle.its_types.specs.Ranges.{most_vcpus}
use Rattle.guest_windows.specs.Windows.{Window, number_at}
use Rattle.gits_regs.specs.Registers.{Registers, is_valid, collection_places}
use Rattle.table_entries.specs.Fields.{CollectionFields}
use Rattle.table_entries.specs.Words.{packed_collection, unpacked_collection}
use Rattle.its_types.specs.Maps.{collection_of}
use Rattle.its_types.specs.declared.ids.Vcpu.{Vcpu}
use Rattle.its_types.specs.declared.machine.Shape.{Shape}
use Rattle.its_plain.specs.Plain.{Translator}
use Rattle.its_plain.specs.Sound.{IsTranslator}
use Rattle.its_plain.specs.Walks.{within, ensure, ◌>>=◌}
use Rattle.its_plain.specs.CollectionTables.{collection_address, collection_entry, collection_leads, next_collection, counted, is_of, stands_before}
use Rattle.its_plain.specs.CollectionTables.{collection_entry_check, collection_check, CollectionReached, AreCollectionsClear, HasCollection}
use Rattle.its_plain.specs.declared.fault.RestoreFault.{RestoreFault}
use Rattle.its_plain.specs.declared.fault.RestoreFault.TheVariants.{OutsideTable}
use Rattle.its_plain.specs.Saved as saved
use Rattle.its_plain.specs.Saved.{never_mapped, saved_collections, collection_word}
use Rattle.saved_state.specs.Laws.{HasEntryOf}
use Rattle.saved_state.proofs.Keyed.{rising, place_low, taken_before}
use Rattle.saved_state.proofs.Entered.{IsEntered, entered, target_low, has_place, is_mapped}
use Rattle.saved_state.proofs.Paths.{further, at_start, stays_good}

-- ---- an entry

abbrev fields_of : ℕ × Vcpu → CollectionFields
fields_of c = record { vcpu_number = c.1.0; icid = c.0 }

abbrev seen : Option (ℕ × Vcpu) → Option CollectionFields
seen o = option_map fields_of o

pub unpacks : (v icid : ℕ) → v < 2 ^ 36 → icid < 2 ^ 16 → unpacked_collection (packed_collection (record { vcpu_number = v; icid = icid })) ≡ Some
    (record { vcpu_number = v; icid = icid })
unpacks v icid low small =
    let word : ℕ = 2 ^ 63 + v * 2 ^ 16 + icid in
    let valid : bit_of word 63 ≡ true = eq-eqb (field word 63 1) 1 (omega arith) in
    let number : field word 16 36 ≡ v = omega arith in
    let name : field word 0 16 ≡ icid = omega arith in
    ap (λ (b : Bool). cond b (Some (record { vcpu_number = field word 16 36; icid = field word 0 16 })) None) valid
    ∙ ap (λ (n : ℕ). Some (record { vcpu_number = n; icid = field word 0 16 })) number
    ∙ ap (λ (n : ℕ). Some (record { vcpu_number = v; icid = n })) name

entry_is : (o : Option (ℕ × Vcpu)) → ((c : ℕ × Vcpu) → o ≡ Some c → (c.1.0 < 2 ^ 36) × (c.0 < 2 ^ 16)) → unpacked_collection (saved.collection_entry o) ≡ seen o
entry_is None fits = refl
entry_is (Some c) fits = let f = fits c refl in unpacks c.1.0 c.0 f.0 f.1

pub within_some : (n i : ℕ) → i < n → within n i ≡ Some i
within_some n i lt = ap (λ (b : Bool). cond b (Some i) None) (lt-ltb i n lt)

pub within_is : (n i q : ℕ) → within n i ≡ Some q → (q ≡ i) × (i < n)
within_is n i q e =
    elim (nat_lt i n) as (λ b. nat_lt i n ≡ b → cond b (Some i) None ≡ Some q → (q ≡ i) × (i < n)) [
      | true ↦ λ lt s. (let k : q ≡ i = cc in k, ltb-true i n lt)
      | false ↦ λ ge s. absurd cc
    ] refl e

-- an entry of a processor that a machine can have counts
one_counts : (s : Shape) (c : ℕ × Vcpu) → c.1.0 < most_vcpus → counted s (Some (fields_of c)) ≡ Some (fields_of c)
one_counts s c low =
    ap (λ (b : Bool). cond (s.linux && b) None (Some (fields_of c))) (ne_eqb c.1.0 0xFFFFFFFF (λ e. omega arith))
    ∙ (elim s.linux as (λ b. cond (b && false) None (Some (fields_of c)) ≡ Some (fields_of c)) [ true ↦ refl | false ↦ refl ])

-- and one of a collection that was never mapped doesn't, where the shape has such entries
never_counts : (s : Shape) (c : ℕ × Vcpu) → s.linux ≡ true → c.1 ≡ never_mapped → counted s (Some (fields_of c)) ≡ None
never_counts s c linux never =
    ap (λ (b : Bool). cond (b && eqb c.1.0 0xFFFFFFFF) None (Some (fields_of c))) linux
    ∙ ap (λ (b : Bool). cond b None (Some (fields_of c))) (eq-eqb c.1.0 0xFFFFFFFF (ap (λ (v : Vcpu). v.0) never))

-- what counts of an entry is the entry
counted_is : (s : Shape) (c : ℕ × Vcpu) (f : CollectionFields) → counted s (Some (fields_of c)) ≡ Some f → fields_of c ≡ f
counted_is s c f =
    elim (s.linux && eqb c.1.0 0xFFFFFFFF) as (λ b. cond b None (Some (fields_of c)) ≡ Some f → fields_of c ≡ f) [
      | true ↦ λ e. absurd cc
      | false ↦ λ e. same_Some (fields_of c) f e
    ]

module _ (s : Shape) (memory : List Window) (t : Translator) (sound : IsTranslator s t) (valid : is_valid t.regs.baser1 ≡ true) (few : s.vcpus ≤ most_vcpus)
    (found : (i : ℕ) → i < collection_places t.regs → number_at memory (collection_address t.regs i) ≡ Some (collection_word s t i)) where
  abbrev r : Registers
  r = t.regs

  abbrev es : List (ℕ × Vcpu)
  es = entries (saved_collections s t)

  rises : T (is_sorted nat_cmp es)
  rises = entries_sorted (saved_collections s t)

  stand : (i : ℕ) (c : ℕ × Vcpu) → slice_get es i ≡ Some c → IsEntered s r c
  stand = entered s t sound

  -- each is packed whole
  fits : (i : ℕ) (c : ℕ × Vcpu) → slice_get es i ≡ Some c → (c.1.0 < 2 ^ 36) × (c.0 < 2 ^ 16)
  fits i c at =
      let w = stand i c at in
      let place = w.in_table in
      (target_low s r c few w, omega arith)

  some_places : 0 < collection_places r
  some_places = omega arith

  word_is : (i : ℕ) → unpacked_collection (collection_word s t i) ≡ seen (slice_get es i)
  unfolding collection_word
  word_is i = entry_is (slice_get es i) (fits i)

  counted_word : (i : ℕ) → counted s (unpacked_collection (collection_word s t i)) ≡ counted s (seen (slice_get es i))
  counted_word i = ap (counted s) (word_is i)

  entry_at : (i : ℕ) → i < collection_places r → collection_entry s memory r i ≡ counted s (seen (slice_get es i))
  entry_at i lt = ap (option_and_then (λ word. counted s (unpacked_collection word))) (found i lt) ∙ counted_word i

  next_at : (i : ℕ) → i < collection_places r → next_collection memory r i ≡ collection_leads r i (seen (slice_get es i))
  next_at i lt = ap (option_and_then (λ word. collection_leads r i (unpacked_collection word))) (found i lt) ∙ ap (collection_leads r i) (word_is i)

  -- ---- places

  leads_within : (i q : ℕ) (o : Option CollectionFields) → collection_leads r i o ≡ Some q → q < collection_places r
  leads_within i q None e = absurd cc
  leads_within i q (Some c) e = let w = within_is (collection_places r) (i + 1) q e in subst (λ (k : ℕ). k < collection_places r) (sym w.0) w.1

  reached_low : (i : ℕ) → CollectionReached memory r i → i < collection_places r
  reached_low i h =
      stays_good (next_collection memory r) (λ k. k < collection_places r) (λ p q low e. leads_within p q (seen (slice_get es p)) (sym (next_at p low) ∙ e)) 0 i
      some_places h

  reached_taken : (i : ℕ) (c : ℕ × Vcpu) → slice_get es i ≡ Some c → CollectionReached memory r i
  reached_taken zero c at = at_start (next_collection memory r) 0
  reached_taken (suc i) c at =
      let before = taken_before es i (suc i) c (omega arith) at in
      let low = place_low es rises (suc i) c at in
      let in_table = (stand (suc i) c at).in_table in
      further (next_collection memory r) 0 i (suc i) (reached_taken i before.0 before.1)
      (next_at i (omega arith) ∙ ap (λ (o : Option (ℕ × Vcpu)). collection_leads r i (seen o)) before.1 ∙ ap (within (collection_places r)) (add-one i)
      ∙ within_some (collection_places r) (suc i) (omega arith))

  -- ---- each collection has one entry

  none_before : (n icid : ℕ) → n ≤ collection_places r → ((j : ℕ) (d : ℕ × Vcpu) → j < n → slice_get es j ≡ Some d → d.0 ≡ icid → ⊥)
      → stands_before s memory r n icid ≡ false
  none_before zero icid le apart = refl
  none_before (suc n) icid le apart =
      ap (λ (o : Option CollectionFields). is_of icid o || stands_before s memory r n icid) (entry_at n (omega arith))
      ∙ ap (λ (b : Bool). b || stands_before s memory r n icid) (other (slice_get es n) (λ d at. apart n d (omega arith) at))
      ∙ none_before n icid (omega arith) (λ j d lt at. apart j d (omega arith) at)
    where
      other : (o : Option (ℕ × Vcpu)) → ((d : ℕ × Vcpu) → o ≡ Some d → d.0 ≡ icid → ⊥) → is_of icid (counted s (seen o)) ≡ false
      other None ne = refl
      other (Some d) ne =
          elim (s.linux && eqb d.1.0 0xFFFFFFFF) as (λ b. is_of icid (cond b None (Some (fields_of d))) ≡ false) [
            | true ↦ refl
            | false ↦ ne_eqb d.0 icid (ne d refl)
          ]

  all_tests : (a b d : Bool) (f g h : RestoreFault) → a ≡ true → b ≡ true → d ≡ false → (ensure a f >>= λ _. ensure b g >>= λ _. ensure (not d) h) ≡ Ok tt
  all_tests a b d f g h pa pb pd =
      ap (λ (x : Bool). ensure x f >>= λ _. ensure b g >>= λ _. ensure (not d) h) pa ∙ ap (λ (x : Bool). ensure x g >>= λ _. ensure (not d) h) pb
      ∙ ap (λ (x : Bool). ensure (not x) h) pd

  mapped_check : (i : ℕ) (c : ℕ × Vcpu) → i < collection_places r → slice_get es i ≡ Some c → c.1.0 < s.vcpus
      → collection_entry_check s memory r i (Some (fields_of c)) ≡ Ok tt
  mapped_check i c lt at target =
      all_tests (nat_lt c.0 (collection_places r)) (nat_lt c.1.0 s.vcpus) (stands_before s memory r i c.0) _ _ _
      (lt-ltb c.0 (collection_places r) (stand i c at).in_table) (lt-ltb c.1.0 s.vcpus target)
      (none_before i c.0 (omega arith) (λ j d below there same. let up = rising es rises j i d c below there at in omega arith))

  check_at : (i : ℕ) (o : Option (ℕ × Vcpu)) → i < collection_places r → slice_get es i ≡ o
      → collection_entry_check s memory r i (counted s (seen o)) ≡ Ok tt
  check_at i None lt at = refl
  check_at i (Some c) lt at =
      elim (stand i c at).target [
        | inl target ↦ ap (collection_entry_check s memory r i) (one_counts s c (omega (arith, target, few))) ∙ mapped_check i c lt at target
        | inr never ↦ ap (collection_entry_check s memory r i) (never_counts s c never.0 never.1)
      ]

  clear_at : (i : ℕ) → i < collection_places r → collection_check s memory r i ≡ Ok tt
  clear_at i lt =
      ap (λ (o : Option ℕ). ok_or o (OutsideTable (record { 0 = collection_address r i })) >>= λ word. collection_entry_check s memory r i
      (counted s (unpacked_collection word))) (found i lt)
      ∙ ap (collection_entry_check s memory r i) (counted_word i)
      ∙ check_at i (slice_get es i) lt refl

  pub collections_clear : AreCollectionsClear s memory r
  collections_clear is i h = clear_at i (reached_low i h)

  -- an entry stands at its place, whichever its processor
  pub entry_stands : (i icid : ℕ) (v : Vcpu) → slice_get es i ≡ Some (icid, v) → HasEntryOf memory r icid
  entry_stands i icid v at =
      let low = place_low es rises i (icid, v) at in
      let in_table = (stand i (icid, v) at).in_table in
      record {
        place = i;
        reached = reached_taken i (icid, v) at;
        fields = record { vcpu_number = v.0; icid = icid };
        valid = ap (option_and_then unpacked_collection) (found i (omega arith)) ∙ word_is i ∙ ap seen at;
        is_of = refl;
      }

  -- ---- content

  -- an entry that counts has a processor
  has_processor : (i : ℕ) (c : ℕ × Vcpu) (f : CollectionFields) → slice_get es i ≡ Some c → counted s (Some (fields_of c)) ≡ Some f → c.1 ≡ never_mapped → ⊥
  has_processor i c f at counts never =
      elim (stand i c at).target [
        | inl target ↦ let number : c.1.0 ≡ 0xFFFFFFFF = ap (λ (v : Vcpu). v.0) never in omega (arith, target, few, number)
        | inr both ↦ let none = sym (never_counts s c both.0 both.1) ∙ counts in absurd cc
      ]

  mapped_at : (i : ℕ) (o : Option (ℕ × Vcpu)) (icid : ℕ) (v : Vcpu) → slice_get es i ≡ o
      → counted s (seen o) ≡ Some (record { vcpu_number = v.0; icid = icid }) → collection_of t.maps icid ≡ Some v
  mapped_at i None icid v at e = absurd cc
  mapped_at i (Some c) icid v at e =
      let same : fields_of c ≡ record { vcpu_number = v.0; icid = icid } = counted_is s c (record { vcpu_number = v.0; icid = icid }) e in
      let there : c ≡ (icid, v) = ap (λ (f : CollectionFields). (f.icid, record { 0 = f.vcpu_number })) same in
      is_mapped s t i icid v (at ∙ ap (λ (x : ℕ × Vcpu). Some x) there)
      (λ never. has_processor i c (record { vcpu_number = v.0; icid = icid }) at e (ap (λ (x : ℕ × Vcpu). x.1) there ∙ never))

  pub collections_are : (icid : ℕ) (v : Vcpu) → (collection_of t.maps icid ≡ Some v) ↔ HasCollection s memory r icid v
  collections_are icid v = (
    λ e.
        let at = has_place s t icid v e in
        let h = sound.collections icid v e in
        let low = place_low es rises at.0 (icid, v) at.1 in
        let in_table = h.in_table in
        let target = h.target in (
          valid,
          at.0,
          reached_taken at.0 (icid, v) at.1,
          entry_at at.0 (omega arith) ∙ ap (λ (o : Option (ℕ × Vcpu)). counted s (seen o)) at.1
              ∙ one_counts s (icid, v) (omega (arith, target, few)),
        ),
    λ h. mapped_at h.1 (slice_get es h.1) icid v refl (sym (entry_at h.1 (reached_low h.1 h.2)) ∙ h.3),
  )
