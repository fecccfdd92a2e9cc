-- An interrupt translation table that was saved holds just the events that are mapped.
use Rattle.std.proofs.Common.{◌≡◌, ℕ, ◌+◌, ◌*◌, ◌^◌, ◌<◌, ◌≤◌, Bool, true, false, cond, nat_lt, nat_le, List, Option, Some, None, Ok, refl, sym, subst, ap}
use Rattle.std.proofs.Common.{◌∙◌, arith, ◌↔◌}
use Rattle.std.specs.Prelude.{◌==◌}
use Rattle.std.specs.Option.{option_and_then, option_map, ok_or}
use Rattle.std.proofs.lemmas.Bool.{ne_eqb, lt-ltb, leb-true, and_parts}
use Rattle.its_types.specs.Bits.{field}
use Rattle.guest_windows.specs.Windows.{Window, number_at}
use Rattle.table_entries.specs.Fields.{EventFields}
use Rattle.table_entries.specs.Words.{packed_event, unpacked_event}
use Rattle.its_types.specs.Maps.{Maps, event_of}
use Rattle.its_types.specs.Ranges.{is_lpi}
use Rattle.its_types.specs.declared.translation.Event.{Event}
use Rattle.its_plain.specs.Walks.{Reached, within, ensure, ◌>>=◌}
use Rattle.its_plain.specs.EventTables.{Itt, event_address, event_entry, event_of_fields, event_in, event_leads, next_event, event_entry_check, event_check}
use Rattle.its_plain.specs.EventTables.{IsIttClear, HasEvent}
use Rattle.its_plain.specs.declared.fault.RestoreFault.{RestoreFault}
use Rattle.its_plain.specs.declared.fault.RestoreFault.TheVariants.{OutsideTable}
use Rattle.its_plain.specs.Saved as saved
use Rattle.its_plain.specs.Saved.{event_word, event_after, distance}
use Rattle.saved_state.proofs.Small.{distance_most}
use Rattle.saved_state.proofs.Collections.{within_some, within_is}
use Rattle.saved_state.proofs.Paths.{stays_good}
use Rattle.saved_state.proofs.Chains.{IsChain, arrives}

-- ---- an entry

pub unpacks_event : (next intid icid : ℕ) → next < 2 ^ 16 → 0 < intid → intid < 2 ^ 32 → icid < 2 ^ 16
    → unpacked_event (packed_event (record { next = next; intid = intid; icid = icid })) ≡ Some (record { next = next; intid = intid; icid = icid })
unpacks_event next intid icid pn some pi pc =
    let word : ℕ = next * 2 ^ 48 + intid * 2 ^ 16 + icid in
    let far : field word 48 16 ≡ next = omega arith in
    let lpi : field word 16 32 ≡ intid = omega arith in
    let name : field word 0 16 ≡ icid = omega arith in
    let valid : (field word 16 32 == 0) ≡ false = ne_eqb (field word 16 32) 0 (λ e. omega arith) in
    ap (λ (b : Bool). cond b None (Some (record { next = field word 48 16; intid = field word 16 32; icid = field word 0 16 }))) valid
    ∙ ap (λ (n : ℕ). Some (record { next = n; intid = field word 16 32; icid = field word 0 16 })) far
    ∙ ap (λ (n : ℕ). Some (record { next = next; intid = n; icid = field word 0 16 })) lpi
    ∙ ap (λ (n : ℕ). Some (record { next = next; intid = intid; icid = n })) name

-- how far the next one is, where there is one
pub distance_up : (cap i j : ℕ) → 0 < cap → i < j → (0 < distance cap i (Some j)) × (i + distance cap i (Some j) ≤ j)
distance_up cap i j some lt = (omega arith, omega arith)

-- what is asked of an event that is mapped
pub record Fits (lpi_bits : ℕ) (t : Itt) (ev : ℕ) (e : Event) : Type 0 where
  pub in_table : ev < t.places
  pub lpi : is_lpi lpi_bits e.intid.0 ≡ true
  pub intid : e.intid.0 < 2 ^ 20
  pub icid : e.icid.0 < 65536

module _ (memory : List Window) (lpi_bits : ℕ) (m : Maps) (dev : ℕ) (t : Itt) (some_places : 0 < t.places)
    (found : (ev : ℕ) → ev < t.places → number_at memory (event_address t ev) ≡ Some (event_word m dev ev))
    (fits : (ev : ℕ) (e : Event) → event_of m dev ev ≡ Some e → Fits lpi_bits t ev e) (linked : IsChain (event_of m dev) (event_after m dev)) where
  fields : ℕ → Event → EventFields
  fields ev e = record { next = distance 65535 ev (event_after m dev ev); intid = e.intid.0; icid = e.icid.0 }

  seen : ℕ → Option Event → Option EventFields
  seen ev o = option_map (fields ev) o

  entry_is : (ev : ℕ) (o : Option Event) → ((e : Event) → o ≡ Some e → Fits lpi_bits t ev e) → unpacked_event (saved.event_entry ev o (event_after m dev ev))
      ≡ seen ev o
  unfolding seen fields
  entry_is ev None fit = refl
  entry_is ev (Some e) fit =
      let f = fit e refl in
      let far = distance_most 65535 ev (event_after m dev ev) in
      let small = f.intid in let name = f.icid in
      let low = leb-true 8192 e.intid.0 (and_parts (nat_le 8192 e.intid.0) (nat_lt e.intid.0 (2 ^ lpi_bits)) f.lpi).0 in
      unpacks_event (distance 65535 ev (event_after m dev ev)) e.intid.0 e.icid.0 (omega arith) (omega arith) (omega arith) (omega arith)

  word_is : (ev : ℕ) → unpacked_event (event_word m dev ev) ≡ seen ev (event_of m dev ev)
  unfolding event_word
  word_is ev = entry_is ev (event_of m dev ev) (fits ev)

  entry_at : (ev : ℕ) → ev < t.places → event_entry memory t ev ≡ seen ev (event_of m dev ev)
  entry_at ev lt = ap (option_and_then unpacked_event) (found ev lt) ∙ word_is ev

  next_at : (ev : ℕ) → ev < t.places → next_event memory t ev ≡ event_leads t ev (seen ev (event_of m dev ev))
  next_at ev lt = ap (option_and_then (λ word. event_leads t ev (unpacked_event word))) (found ev lt) ∙ ap (event_leads t ev) (word_is ev)

  back_again : (ev : ℕ) (o : Option Event) → option_map event_of_fields (seen ev o) ≡ o
  unfolding seen fields
  back_again ev None = refl
  back_again ev (Some e) = refl

  event_at : (ev : ℕ) → ev < t.places → event_in memory t ev ≡ event_of m dev ev
  event_at ev lt = ap (option_map event_of_fields) (entry_at ev lt) ∙ back_again ev (event_of m dev ev)

  -- ---- places

  leads_within : (ev q : ℕ) (o : Option EventFields) → event_leads t ev o ≡ Some q → q < t.places
  leads_within ev q None e = let w = within_is t.places (ev + 1) q e in subst (λ (k : ℕ). k < t.places) (sym w.0) w.1
  leads_within ev q (Some f) e =
      elim (f.next == 0) as (λ b. cond b None (within t.places (ev + f.next)) ≡ Some q → q < t.places) [
        | true ↦ λ s. absurd cc
        | false ↦ λ s. let w = within_is t.places (ev + f.next) q s in subst (λ (k : ℕ). k < t.places) (sym w.0) w.1
      ] e

  reached_low : (ev : ℕ) → Reached (next_event memory t) 0 ev → ev < t.places
  reached_low ev h =
      stays_good (next_event memory t) (λ k. k < t.places) (λ p q low e. leads_within p q (seen p (event_of m dev p)) (sym (next_at p low) ∙ e)) 0 ev
      some_places h

  goes_far : (p d : ℕ) → 0 < d → p + d < t.places → cond (d == 0) None (within t.places (p + d)) ≡ Some (p + d)
  goes_far p d some lt = ap (λ (b : Bool). cond b None (within t.places (p + d))) (ne_eqb d 0 (λ e. omega arith)) ∙ within_some t.places (p + d) lt

  Step : ℕ → ℕ → Type 0
  Step q p = (s : ℕ) × (next_event memory t p ≡ Some s) × (s < t.places) × (p < s) × (s ≤ q)

  step_after : (q : ℕ) (x : Event) → event_of m dev q ≡ Some x → (p : ℕ) (e : Event) → p < t.places → p < q → event_of m dev p ≡ Some e → (o : Option ℕ)
      → event_after m dev p ≡ o → Step q p
  unfolding Step seen fields
  step_after q x at p e low lt is None none = absurd (linked.last p q x none at lt)
  step_after q x at p e low lt is (Some j) after =
      let up = linked.up p j after in
      let least = linked.least p j q x after at lt in
      let high = (fits q x at).in_table in
      let d = distance_up 65535 p j (omega arith) up in
      let some = d.0 in let most = d.1 in
      let far : ℕ = distance 65535 p (Some j) in
      (p + distance 65535 p (Some j), next_at p low ∙ leads ∙ goes_far p (distance 65535 p (Some j)) some (omega arith), omega arith, omega arith, omega arith)
    where
      leads : event_leads t p (seen p (event_of m dev p)) ≡ cond (distance 65535 p (Some j) == 0) None (within t.places (p + distance 65535 p (Some j)))
      leads = ap (λ (o : Option Event). event_leads t p (seen p o)) is
          ∙ ap (λ (o : Option ℕ). cond (distance 65535 p o == 0) None (within t.places (p + distance 65535 p o))) after

  step : (q : ℕ) (x : Event) → event_of m dev q ≡ Some x → (p : ℕ) → p < t.places → p < q → Step q p
  unfolding Step seen
  step q x at p low lt =
      elim (event_of m dev p) as (λ o. event_of m dev p ≡ o → (s : ℕ) × (next_event memory t p ≡ Some s) × (s < t.places) × (p < s) × (s ≤ q)) [
        | None ↦ λ e.
            let high = (fits q x at).in_table in (
              p + 1,
              next_at p low ∙ ap (λ (o : Option Event). event_leads t p (option_map (fields p) o)) e ∙ within_some t.places (p + 1)
                  (omega arith),
              omega arith,
              omega arith,
              omega arith,
            )
        | Some e ↦ λ is. step_after q x at p e low lt is (event_after m dev p) refl
      ] refl

  reached : (q : ℕ) (x : Event) → event_of m dev q ≡ Some x → Reached (next_event memory t) 0 q
  unfolding Step
  reached q x at = arrives (next_event memory t) (λ k. k) (λ k. k < t.places) q (λ p good same. same) (λ p good lt. step q x at p good lt) q 0 some_places
      (omega arith) (omega arith)

  -- ---- offences

  two_tests : (a b : Bool) (f g : RestoreFault) → a ≡ true → b ≡ true → (ensure a f >>= λ _. ensure b g) ≡ Ok tt
  two_tests a b f g pa pb = ap (λ (x : Bool). ensure x f >>= λ _. ensure b g) pa ∙ ap (λ (x : Bool). ensure x g) pb

  next_low : (ev : ℕ) → ev < t.places → (o : Option ℕ) → event_after m dev ev ≡ o → ev + distance 65535 ev o < t.places
  next_low ev lt None is = omega arith
  next_low ev lt (Some j) is =
      let up = linked.up ev j is in
      let at = linked.there ev j is in
      let high = (fits j at.0 at.1).in_table in
      let d = distance_up 65535 ev j (omega arith) up in let most = d.1 in
      omega arith

  entry_clear : (ev : ℕ) (o : Option Event) → ev < t.places → event_of m dev ev ≡ o → event_entry_check lpi_bits t ev (seen ev o) ≡ Ok tt
  unfolding seen fields
  entry_clear ev None lt is = refl
  entry_clear ev (Some e) lt is =
      let low = next_low ev lt (event_after m dev ev) refl in
      two_tests (is_lpi lpi_bits e.intid.0) (nat_lt (ev + distance 65535 ev (event_after m dev ev)) t.places) _ _ (fits ev e is).lpi
      (lt-ltb (ev + distance 65535 ev (event_after m dev ev)) t.places low)

  clear_at : (ev : ℕ) → ev < t.places → event_check memory lpi_bits t ev ≡ Ok tt
  clear_at ev lt =
      ap (λ (o : Option ℕ). ok_or o (OutsideTable (record { 0 = event_address t ev })) >>= λ word. event_entry_check lpi_bits t ev (unpacked_event word))
      (found ev lt)
      ∙ ap (event_entry_check lpi_bits t ev) (word_is ev)
      ∙ entry_clear ev (event_of m dev ev) lt refl

  pub itt_clear : IsIttClear memory lpi_bits t
  itt_clear ev h = clear_at ev (reached_low ev h)

  pub events_are : (ev : ℕ) (e : Event) → (event_of m dev ev ≡ Some e) ↔ HasEvent memory t ev e
  events_are ev e = (λ is. (reached ev e is, event_at ev (fits ev e is).in_table ∙ is), λ h. sym (event_at ev (reached_low ev h.0)) ∙ h.1)
