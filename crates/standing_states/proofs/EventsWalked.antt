-- The walk over a device's interrupt translation table.
use Rattle.std.proofs.Common.{◌≡◌, ℕ, ◌+◌, ◌-◌, ◌<◌, true, false, cond, nat_lt, List, Option, Some, None, Result, Ok, Err, refl, sym, subst, ap, ◌∙◌, inl}
use Rattle.std.proofs.Common.{inr}
use Rattle.std.proofs.Common.{arith, ◌↔◌}
use Rattle.std.specs.Prelude.{◌==◌}
use Rattle.std.specs.Option.{option_and_then}
use Rattle.std.proofs.lemmas.Bool.{ltb-true, eqb-false}
use Rattle.guest_windows.specs.Windows.{Window, number_at}
use Rattle.table_entries.specs.Fields.{EventFields}
use Rattle.table_entries.specs.Words.{unpacked_event}
use Rattle.its_types.specs.declared.translation.Event.{Event}
use Rattle.its_plain.specs.Walks.{Reached, within, ◌>>=◌}
use Rattle.its_plain.specs.EventTables.{Itt, event_address, event_leads, next_event, event_check, event_in, IsIttClear, IttOffends, HasEvent}
use Rattle.its_plain.specs.declared.fault.RestoreFault.{RestoreFault}
use Rattle.standing_states.specs.Walked.{Among, HasAt}
use Rattle.standing_states.specs.Found.{one_event, look_event, events_read}
use Rattle.standing_states.proofs.Walks.{Rises, walk_found, walk_clear, walk_has, walk_err}

pub within_is : (n i q : ℕ) → within n i ≡ Some q → (q ≡ i) × (i < n)
within_is n i q e =
    elim (nat_lt i n) as (λ b. nat_lt i n ≡ b → cond b (Some i) None ≡ Some q → (q ≡ i) × (i < n)) [
      | true ↦ λ lt s. (let k : q ≡ i = cc in k, ltb-true i n lt)
      | false ↦ λ ge s. absurd cc
    ] refl e

leads_up : (t : Itt) (i q : ℕ) (o : Option EventFields) → event_leads t i o ≡ Some q → (i < q) × (q < t.places)
leads_up t i q None e = let w = within_is t.places (i + 1) q e in (omega arith, omega arith)
leads_up t i q (Some d) e =
    elim (d.next == 0) as (λ b. (d.next == 0) ≡ b → cond b None (within t.places (i + d.next)) ≡ Some q → (i < q) × (q < t.places)) [
      | true ↦ λ z s. absurd cc
      | false ↦ λ z s. let w = within_is t.places (i + d.next) q s in let n = eqb-false d.next 0 z in (omega arith, omega arith)
    ] refl e

word_up : (t : Itt) (i q : ℕ) (o : Option ℕ) → option_and_then (λ word. event_leads t i (unpacked_event word)) o ≡ Some q → (i < q) × (q < t.places)
word_up t i q None e = absurd cc
word_up t i q (Some word) e = leads_up t i q (unpacked_event word) e

pub events_rise : (memory : List Window) (t : Itt) → Rises (next_event memory t) (λ i. i) t.places (λ i. i < t.places)
events_rise memory t = record {
  up = λ p q g e. (word_up t p q (number_at memory (event_address t p)) e).0;
  good = λ p q g e. (word_up t p q (number_at memory (event_address t p)) e).1;
  below = λ p g. g;
}

-- ---- what a place has

-- a check, and then what there is
pub checked : {X : Type 0} (r : Result (Unit {0}) RestoreFault) (x y : X) → (r >>= λ _. Ok x) ≡ Ok y → (r ≡ Ok tt) × (y ≡ x)
checked (Ok done) x y e = (refl, cc)
checked (Err f) x y e = absurd cc

pub checked_err : {X : Type 0} (r : Result (Unit {0}) RestoreFault) (x : X) (f : RestoreFault) → (r >>= λ _. Ok x) ≡ Err f → r ≡ Err f
checked_err (Ok done) x f e = absurd cc
checked_err (Err g) x f e = cc

pub then_ok : {X : Type 0} (r : Result (Unit {0}) RestoreFault) (x : X) → r ≡ Ok tt → (r >>= λ _. Ok x) ≡ Ok x
then_ok (Ok done) x e = refl
then_ok (Err f) x e = absurd cc

pub then_err : {X : Type 0} (r : Result (Unit {0}) RestoreFault) (x : X) (f : RestoreFault) → r ≡ Err f → (r >>= λ _. Ok x) ≡ Err f
then_err (Ok done) x f e = absurd cc
then_err (Err g) x f e = cc

among_one : (q i : ℕ) (d : Event) (o : Option Event) → Among (q, d) (one_event i o) → (q ≡ i) × (o ≡ Some d)
among_one q i d None h = absurd h
among_one q i d (Some b) (inl e) = (ap (λ x. x.0) e, ap (λ x. Some x.1) (sym e))
among_one q i d (Some b) (inr h) = absurd h

one_among : (i : ℕ) (d : Event) (o : Option Event) → o ≡ Some d → Among (i, d) (one_event i o)
one_among i d o e = subst (λ (p : Option Event). Among (i, d) (one_event i p)) (sym e) (inl refl)

has_event : (memory : List Window) (n : ℕ) (t : Itt) (i q : ℕ) (d : Event) → HasAt (look_event memory n t) i (q, d) → (q ≡ i) × (event_in memory t i ≡ Some d)
has_event memory n t i q d h =
    let w = checked (event_check memory n t i) (one_event i (event_in memory t i)) h.0 h.1 in
    among_one q i d (event_in memory t i) (subst (Among (q, d)) w.1 h.2)

event_has : (memory : List Window) (n : ℕ) (t : Itt) (i : ℕ) (d : Event) → event_check memory n t i ≡ Ok tt → event_in memory t i ≡ Some d
    → HasAt (look_event memory n t) i (i, d)
event_has memory n t i d ok is = (
  one_event i (event_in memory t i),
  then_ok (event_check memory n t i) (one_event i (event_in memory t i)) ok,
  one_among i d
      (event_in memory t i) is,
)

-- ---- the whole

pub events_clear : (memory : List Window) (n : ℕ) (t : Itt) (es : List (ℕ × Event)) → 0 < t.places → events_read memory n t ≡ Ok es → IsIttClear memory n t
events_clear memory n t es some e i r =
    let w = walk_clear (look_event memory n t) (next_event memory t) (λ j. j) t.places (λ j. j < t.places) (events_rise memory t) (t.places - 0) 0 es e some
    (omega arith) r.0 i r.1 in
    (checked (event_check memory n t i) (one_event i (event_in memory t i)) w.0 w.1).0

pub events_among : (memory : List Window) (n : ℕ) (t : Itt) (es : List (ℕ × Event)) → 0 < t.places → events_read memory n t ≡ Ok es → (i : ℕ) (d : Event)
    → Among (i, d) es ↔ HasEvent memory t i d
events_among memory n t es some e i d =
    let l = look_event memory n t in let s = next_event memory t in (
      λ a.
          let w = walk_found l s (t.places - 0) 0 es (i, d) e a in
          let h = has_event memory n t w.0 i d w.2 in
          (subst (Reached s 0) (sym h.0) w.1, ap (event_in memory t) h.0 ∙ h.1),
      λ h. walk_has l s (λ j. j) t.places (λ j. j < t.places) (events_rise memory t) (t.places - 0) 0 es e some (omega arith) h.0.0 i (i, d) h.0.1
          (event_has memory n t i d (events_clear memory n t es some e i h.0) h.1),
    )

pub events_fault : (memory : List Window) (n : ℕ) (t : Itt) (f : RestoreFault) → events_read memory n t ≡ Err f → IttOffends memory n t f
events_fault memory n t f e =
    walk_err (look_event memory n t) (next_event memory t) (λ i. event_check memory n t i ≡ Ok tt) (λ i g. event_check memory n t i ≡ Err g)
    (λ i xs ok. (checked (event_check memory n t i) (one_event i (event_in memory t i)) xs ok).0)
    (λ i g is. checked_err (event_check memory n t i) (one_event i (event_in memory t i)) g is) (t.places - 0) 0 f e
