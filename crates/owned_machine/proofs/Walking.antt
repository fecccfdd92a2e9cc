-- A walk over some, each of which adds LPIs to the sets.
use Rattle.std.proofs.Common.{◌≡◌, ℕ, Bool, true, List, [], ◌∷◌, Option, Some, None, sym, ap, subst, ◌∙◌}
use Rattle.std.specs.Prelude.{◌==◌, ◌||◌, ◌&&◌}
use Rattle.std.specs.List.{AllByRecursion, list_any}
use Rattle.std.specs.FinMap.{entries}
use Rattle.std.proofs.Math.Bool.{or_assoc}
use Rattle.its_types.specs.Maps.{Maps, collection_of}
use Rattle.its_types.specs.Ranges.{is_lpi}
use Rattle.its_types.specs.declared.ids.Vcpu.{Vcpu}
use Rattle.its_types.specs.declared.translation.Event.{Event}
use Rattle.its_plain.specs.Described.{is_target, is_led_to}
use Rattle.its_plain.specs.Plain.{Translator}
use Rattle.lpi_pending.specs.PendingSets.{PendingSet}
use Rattle.owned_parts.specs.Owned.{one_or_two}
use Rattle.owned_parts.specs.declared.parts.Parts.{Parts}
use Rattle.owned_machine.proofs.Led.{nothing, or_false, and_false, adds_nothing, adds_both, adds_same}
use Rattle.owned_machine.specs.Stale.{Test, or_by, leads, any_leads, only, AddsBy}

abbrev pub any_by : {X : Type 0} → (X → Test) → List X → Test
any_by one xs v x = list_any (λ e. one e v x) xs

-- those that were passed are added, and those that are left are the rest of all
pub record IsOnTheWay {X : Type 0} (p : Parts) (one : X → Test) (left all : List X) (old new : List PendingSet) : Type 0 where
  pub done : Test
  pub added : AddsBy p done old new
  pub rest : (v x : ℕ) → (done v x || any_by one left v x) ≡ any_by one all v x

module _ {X : Type 0} (p : Parts) (one : X → Test) where
  pub way_begins : (left all : List X) (sets : List PendingSet) → left ≡ all → IsOnTheWay p one left all sets sets
  way_begins left all sets same = record {
    done = nothing;
    added = adds_nothing p sets;
    rest = λ v x. ap (λ (xs : List X). any_by one xs v x) same;
  }

  pub way_on : (left next all : List X) (e : X) (old now new : List PendingSet) → left ≡ e ∷ next → AddsBy p (one e) now new
      → IsOnTheWay p one left all old now → IsOnTheWay p one next all old new
  way_on left next all e old now new steps adds w = record {
    done = or_by w.done (one e);
    added = adds_both p w.done (one e) old now new w.added adds;
    rest = λ v x. or_assoc (w.done v x) (one e v x) (any_by one next v x)
        ∙ ap (λ (xs : List X). w.done v x || any_by one xs v x) (sym steps) ∙ w.rest v x;
  }

  pub way_ends : (left all : List X) (old new : List PendingSet) → left ≡ [] → IsOnTheWay p one left all old new → AddsBy p (any_by one all) old new
  way_ends left all old new none w =
      adds_same p w.done (any_by one all) old new (λ v x.
      sym (or_false (w.done v x)) ∙ ap (λ (xs : List X). w.done v x || any_by one xs v x) (sym none) ∙ w.rest v x) w.added

-- ---- one event

pub leads_nowhere : (p : Parts) (m : Maps) (e : Event) (sets : List PendingSet) → collection_of m e.icid.0 ≡ None → AddsBy p (leads m e) sets sets
leads_nowhere p m e sets none =
    adds_same p nothing (leads m e) sets sets (λ v x.
    sym (ap (λ (o : Option Vcpu). e.intid.0 == x && is_target v o) none ∙ and_false (e.intid.0 == x))) (adds_nothing p sets)

pub leads_there : (p : Parts) (m : Maps) (e : Event) (t : Vcpu) (old new : List PendingSet) → collection_of m e.icid.0 ≡ Some t
    → AddsBy p (only t e.intid.0) old new → AddsBy p (leads m e) old new
leads_there p m e t old new is adds =
    adds_same p (only t e.intid.0) (leads m e) old new (λ v x. ap (λ (o : Option Vcpu). e.intid.0 == x && is_target v o) (sym is)) adds

-- ---- one or two translators

abbrev pub those_of : Translator → Test
those_of t = any_leads t.maps (entries t.maps.events)

pub led_by_one : (p : Parts) (f : Translator) (o : Option Translator) (old new : List PendingSet) → o ≡ None → AddsBy p (those_of f) old new
    → AddsBy p (λ v x. is_led_to (one_or_two f o) v x) old new
led_by_one p f o old new none h =
    adds_same p (those_of f) (λ v x. is_led_to (one_or_two f o) v x) old new (λ v x.
    sym (or_false (those_of f v x)) ∙ ap (λ (s : Option Translator). is_led_to (one_or_two f s) v x) (sym none)) h

pub led_by_two : (p : Parts) (f s : Translator) (o : Option Translator) (old mid new : List PendingSet) → o ≡ Some s → AddsBy p (those_of f) old mid
    → AddsBy p (those_of s) mid new → AddsBy p (λ v x. is_led_to (one_or_two f o) v x) old new
led_by_two p f s o old mid new is first second =
    adds_same p (or_by (those_of f) (those_of s)) (λ v x. is_led_to (one_or_two f o) v x) old new (λ v x.
    ap (λ (b : Bool). those_of f v x || b) (sym (or_false (those_of s v x)))
    ∙ ap (λ (t : Option Translator). is_led_to (one_or_two f t) v x) (sym is)) (adds_both p (those_of f) (those_of s) old mid new first second)

-- the first one of those that are left, and the others
pub first_lpi : (bits : ℕ) (left next : List (ℕ × Event)) (e : ℕ × Event) → left ≡ e ∷ next
    → AllByRecursion {X = ℕ × Event} (λ x. is_lpi bits x.1.intid.0 ≡ true) left
    → (is_lpi bits e.1.intid.0 ≡ true) × AllByRecursion {X = ℕ × Event} (λ x. is_lpi bits x.1.intid.0 ≡ true) next
first_lpi bits left next e steps all =
    subst (λ (es : List (ℕ × Event)). AllByRecursion {X = ℕ × Event} (λ x. is_lpi bits x.1.intid.0 ≡ true) es) steps all
