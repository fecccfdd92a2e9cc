-- What holds of each mapped event holds of each entry of the map.
use Rattle.std.proofs.Common.{◌≡◌, ℕ, ◌+◌, Bool, true, false, cond, List, [], ◌∷◌, map, filter, Some, None, inl, inr, refl, sym, ◌∙◌, arith}
use Rattle.std.specs.Prelude.{◌==◌}
use Rattle.std.specs.List.{AllByRecursion}
use Rattle.std.specs.Ordering.{nat_cmp}
use Rattle.std.specs.FinMap as finmap
use Rattle.std.specs.FinMap.{get-entries}
use Rattle.std.proofs.lemmas.Bool.{cases_lt, eq-eqb}
use Rattle.its_types.specs.Maps.{Maps, event_of, events_at}
use Rattle.its_types.specs.declared.translation.Event.{Event}
use Rattle.standing_states.proofs.EventsOf.{Entries, of_device, events_rise, find_of_device}
use Rattle.standing_states.proofs.Rises.{find_skips, find_here, rises_none}
use Rattle.standing_states.specs.Rises.{RisesFrom}

-- what holds of each that is found holds of each entry of a list that rises
pub each_found : {X : Type 0} (P : ℕ → X → Type 0) (i : ℕ) (es : List (ℕ × X)) → RisesFrom i es → ((k : ℕ) (x : X) → finmap.find nat_cmp k es ≡ Some x → P k x)
    → AllByRecursion (λ e. P e.0 e.1) es
each_found P i [] r h = tt
each_found {X} P i (e ∷ es) r h = (
  h e.0 e.1 (find_here e.0 e es refl),
  each_found P (e.0 + 1) es r.1 (λ k x is. elim (cases_lt k (e.0 + 1)) [
    | inl lt ↦ absurd (let none : finmap.find nat_cmp k es ≡ None = rises_none k (e.0 + 1) es r.1 lt in cc)
    | inr le ↦ h k x (find_skips k e es (λ same. omega arith) ∙ is)
  ]),
)

-- what holds of each device's entries holds of all
first_of_device : (Q : ℕ → ℕ → Event → Type 0) (e : (ℕ × ℕ) × Event) (es : Entries)
    → AllByRecursion {X = ℕ × Event} (λ x. Q e.0.0 x.0 x.1) (of_device e.0.0 (e ∷ es)) → Q e.0.0 e.0.1 e.1
first_of_device Q e es h =
    let here : (e.0.0 == e.0.0) ≡ true = eq-eqb e.0.0 e.0.0 refl in
    (by (e.0.0 == e.0.0) here h)
  where
    by : (b : Bool) → b ≡ true
        → AllByRecursion {X = ℕ × Event} (λ x. Q e.0.0 x.0 x.1) (map (λ (x : (ℕ × ℕ) × Event). (x.0.1, x.1)) (cond b (e ∷ filter (λ x. x.0.0 == e.0.0) es)
        (filter (λ x. x.0.0 == e.0.0) es)))
        → Q e.0.0 e.0.1 e.1
    by true is all = all.0
    by false is all = absurd cc

rest_of_device : (Q : ℕ → ℕ → Event → Type 0) (dev : ℕ) (e : (ℕ × ℕ) × Event) (es : Entries)
    → AllByRecursion {X = ℕ × Event} (λ x. Q dev x.0 x.1) (of_device dev (e ∷ es))
    → AllByRecursion {X = ℕ × Event} (λ x. Q dev x.0 x.1) (of_device dev es)
rest_of_device Q dev e es h =
    elim (e.0.0 == dev) as (λ b. AllByRecursion {X = ℕ × Event} (λ x. Q dev x.0 x.1) (map (λ (x : (ℕ × ℕ) × Event). (x.0.1, x.1))
    (cond b (e ∷ filter (λ x. x.0.0 == dev) es)
    (filter (λ x. x.0.0 == dev) es))) → AllByRecursion {X = ℕ × Event} (λ x. Q dev x.0 x.1) (of_device dev es)) [ true ↦ λ all. all.1 | false ↦ λ all. all ] h

all_of_devices : (Q : ℕ → ℕ → Event → Type 0) (es : Entries) → ((dev : ℕ) → AllByRecursion {X = ℕ × Event} (λ x. Q dev x.0 x.1) (of_device dev es))
    → AllByRecursion (λ e. Q e.0.0 e.0.1 e.1) es
all_of_devices Q [] h = tt
all_of_devices Q (e ∷ es) h = (first_of_device Q e es (h e.0.0), all_of_devices Q es (λ dev. rest_of_device Q dev e es (h dev)))

pub all_entries : (Q : ℕ → ℕ → Event → Type 0) (m : Maps) → ((dev ev : ℕ) (event : Event) → event_of m dev ev ≡ Some event → Q dev ev event)
    → AllByRecursion (λ e. Q e.0.0 e.0.1 e.1) (finmap.entries m.events)
all_entries Q m h =
    all_of_devices Q (finmap.entries m.events) (λ dev.
    each_found (Q dev) 0 (events_at m dev) (events_rise m dev) (λ ev event is.
    h dev ev event (get-entries m.events (dev, ev) ∙ sym (find_of_device dev ev (finmap.entries m.events)) ∙ is)))
