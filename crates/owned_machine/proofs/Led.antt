-- Sets of pending LPIs to which events lead, as a walk over the events makes them.
use Rattle.std.proofs.Common.{◌≡◌, ℕ, zero, suc, ◌<◌, Bool, true, false, cond, eqb, List, [], ◌∷◌, length, length-set, replicate, get_or, set, map, filter, Option, Some, None, refl, sym, ap, subst, ◌∙◌, inl, inr, arith}
use Rattle.std.specs.Prelude.{◌==◌, ◌||◌, ◌&&◌, IsSome, slice_get}
use Rattle.std.specs.List.{AllByRecursion, list_any}
use Rattle.std.specs.Ordering.{nat_cmp}
use Rattle.std.specs.FinMap as finmap
use Rattle.std.specs.FinMap.{get-entries}
use Rattle.std.proofs.Math.Bool.{or_assoc}
use Rattle.std.proofs.lemmas.Bool.{cases_eq, eq-eqb, ne_eqb}
use Rattle.std.proofs.lemmas.List.{length-replicate}
use Rattle.std.proofs.lemmas.Option.{get_or_from_slice_get}
use Rattle.std.specs.List.Sorted.{IsStrictlyIncreasing}
use Rattle.cmd_exec.proofs.Places.{set_get, set_get_other}
use Rattle.its_maps.specs.MapsRoom.{EventsHaveDevices}
use Rattle.its_types.specs.Lpis.{is_pending, with_lpi}
use Rattle.its_types.specs.Ranges.{is_lpi}
use Rattle.its_types.specs.Maps.{Maps, device_of, event_of, events_at}
use Rattle.its_types.specs.declared.ids.Vcpu.{Vcpu}
use Rattle.its_types.specs.declared.translation.Device.{Device}
use Rattle.its_types.specs.declared.translation.Event.{Event}
use Rattle.its_plain.specs.Plain.{Translator}
use Rattle.its_plain.specs.Sound.{IsTranslator}
use Rattle.its_types.specs.declared.machine.Shape.{Shape}
use Rattle.cmd_exec.specs.InHand.{held_lpis, lpis_in}
use Rattle.lpi_pending.specs.InHand.{pend_in}
use Rattle.lpi_pending.specs.Pend.{Pend}
use Rattle.owned_parts.specs.Owned.{pend_or, redistributor_in}
use Rattle.owned_parts.proofs.Places.{place_is}
use Rattle.owned_machine.specs.Whole.{IsMachine}
use Rattle.lpi_pending.specs.PendingSets.{PendingSet, none_pending}
use Rattle.owned_parts.specs.declared.parts.Parts.{Parts}
use Rattle.standing_states.proofs.EventsOf.{Entries, of_device, events_rise, find_of_device}
use Rattle.standing_states.proofs.Rises.{find_skips}
use Rattle.owned_machine.proofs.AllEvents.{each_found, all_entries}
use Rattle.owned_machine.proofs.Chosen.{filter_alike, filter_none, chosen_else, with_chosen}
use Rattle.owned_machine.specs.Stale.{Test, or_by, leads, some_leads, any_leads, only, LeadInside, set_by, AreSetsBy, AreSets, AddsBy}

-- ---- what is added

pub same_sets : (p : Parts) (a b : Test) (sets : List PendingSet) → ((v x : ℕ) → a v x ≡ b v x) → AreSetsBy p a sets → AreSetsBy p b sets
same_sets p a b sets same h = record {
  as_many = h.as_many;
  each = λ v lt. h.each v lt ∙ ap (λ (xs : List ℕ). Some (record { lpi_bits = p.layout.shape.lpi_bits; lpis = xs }))
      (filter_alike (a v) (b v) (same v) (lpis_in p.redists v));
}

pub or_false : (b : Bool) → (b || false) ≡ b
or_false true = refl
or_false false = refl

abbrev pub nothing : Test
nothing v x = false

pub adds_nothing : (p : Parts) (sets : List PendingSet) → AddsBy p nothing sets sets
adds_nothing p sets test h = same_sets p test (or_by test nothing) sets (λ v x. sym (or_false (test v x))) h

pub adds_both : (p : Parts) (a b : Test) (old mid new : List PendingSet) → AddsBy p a old mid → AddsBy p b mid new → AddsBy p (or_by a b) old new
adds_both p a b old mid new first second test h =
    same_sets p (or_by (or_by test a) b) (or_by test (or_by a b)) new (λ v x. or_assoc (test v x) (a v x) (b v x)) (second (or_by test a) (first test h))

pub adds_same : (p : Parts) (a b : Test) (old new : List PendingSet) → ((v x : ℕ) → a v x ≡ b v x) → AddsBy p a old new → AddsBy p b old new
adds_same p a b old new same h test sets =
    same_sets p (or_by test a) (or_by test b) new (λ v x. ap (λ (t : Bool). test v x || t) (same v x)) (h test sets)

pub still_sets : (p : Parts) (a : Test) (old new : List PendingSet) → AddsBy p a old new → AreSets p old → AreSets p new
still_sets p a old new h sets = (or_by sets.0 a, h sets.0 sets.1)

-- ---- one LPI

and_true : (b : Bool) → (b && true) ≡ b
and_true true = refl
and_true false = refl

pub and_false : (b : Bool) → (b && false) ≡ false
and_false true = refl
and_false false = refl

only_here : (t : Bool) (v : Vcpu) (x y : ℕ) → (t || only v x v.0 y) ≡ (t || eqb x y)
only_here t v x y = ap (λ (b : Bool). t || (eqb x y && b)) (eq-eqb v.0 v.0 refl) ∙ ap (λ (b : Bool). t || b) (and_true (eqb x y))

only_elsewhere : (t : Bool) (v : Vcpu) (x w y : ℕ) → (v.0 ≡ w → ⊥) → (t || only v x w y) ≡ t
only_elsewhere t v x w y apart =
    ap (λ (b : Bool). t || (eqb x y && b)) (ne_eqb v.0 w apart) ∙ ap (λ (b : Bool). t || b) (and_false (eqb x y)) ∙ or_false t

module _ (p : Parts) (v : Vcpu) (x : ℕ) where
  abbrev at : ℕ → List ℕ
  at w = lpis_in p.redists w

  abbrev as_set : List ℕ → Option PendingSet
  as_set xs = Some (record { lpi_bits = p.layout.shape.lpi_bits; lpis = xs })

  elsewhere_same : (test : Test) (w : ℕ) → (v.0 ≡ w → ⊥) → filter (or_by test (only v x) w) (at w) ≡ filter (test w) (at w)
  elsewhere_same test w apart = filter_alike (or_by test (only v x) w) (test w) (λ y. only_elsewhere (test w y) v x w y apart) (at w)

  here_is : (test : Test) → filter (or_by test (only v x) v.0) (at v.0) ≡ filter (λ y. test v.0 y || eqb x y) (at v.0)
  here_is test = filter_alike (or_by test (only v x) v.0) (λ y. test v.0 y || eqb x y) (λ y. only_here (test v.0 y) v x y) (at v.0)

  none_chosen : is_pending x (at v.0) ≡ false → (test : Test) (w : ℕ) → filter (or_by test (only v x) w) (at w) ≡ filter (test w) (at w)
  none_chosen none test w =
      elim (cases_eq v.0 w) [
        | inl same ↦
            subst (λ (k : ℕ). filter (or_by test (only v x) k) (at k) ≡ filter (test k) (at k)) same
            (here_is test ∙ chosen_else (test v.0) x (at v.0) none)
        | inr apart ↦ elsewhere_same test w apart
      ]

  -- that isn't pending there
  pub adds_none : (sets : List PendingSet) → is_pending x (at v.0) ≡ false → AddsBy p (only v x) sets sets
  adds_none sets none test h = record {
    as_many = h.as_many;
    each = λ w lt. h.each w lt ∙ ap as_set (sym (none_chosen none test w));
  }

  -- that is
  pub adds_one : (old new : List PendingSet) (d : PendingSet) → v.0 < p.layout.shape.vcpus → IsStrictlyIncreasing (at v.0) → is_pending x (at v.0) ≡ true
      → new ≡ set old v.0 (record (get_or old v.0 d) { lpis = with_lpi x (get_or old v.0 d).lpis }) → AddsBy p (only v x) old new
  adds_one old new d lt rising is made test h = record {
    as_many = ap (λ (xs : List PendingSet). length xs) made ∙ length-set old v.0 (changed (get_or old v.0 d)) ∙ h.as_many;
    each = λ w less. ap (λ (xs : List PendingSet). slice_get xs w) made ∙ elim (cases_eq v.0 w) [
      | inl same ↦ subst (λ (k : ℕ). slice_get (set old v.0 (changed (get_or old v.0 d))) k ≡ Some (set_by p (or_by test (only v x)) k)) same here
      | inr apart ↦
          let other : (w ≡ v.0 → ⊥) = λ e. apart (sym e) in
          set_get_other old v.0 w (changed (get_or old v.0 d)) other ∙ h.each w less ∙ ap as_set (sym (elsewhere_same test w apart))
    ];
  }
    where
      changed : PendingSet → PendingSet
      changed s = record s { lpis = with_lpi x s.lpis }

      there : slice_get old v.0 ≡ Some (set_by p test v.0)
      there = h.each v.0 lt

      here : slice_get (set old v.0 (changed (get_or old v.0 d))) v.0 ≡ Some (set_by p (or_by test (only v x)) v.0)
      here =
          set_get old v.0 (set_by p test v.0) (changed (get_or old v.0 d)) there
          ∙ ap (λ (s : PendingSet). Some (changed s)) (get_or_from_slice_get old v.0 (set_by p test v.0) d there)
          ∙ ap as_set (with_chosen (test v.0) x (at v.0) rising is ∙ sym (here_is test))

-- ---- the events of devices

-- what those of some devices lead to
abbrev pub devices_lead : Maps → List (ℕ × Device) → Test
devices_lead m ds v x = list_any (λ d. some_leads m (events_at m d.0) v x) ds

-- some device has the number
has : ℕ → List (ℕ × Device) → Bool
has k ds = list_any (λ d. k == d.0) ds

shuffled : (a h f A B : Bool) → (((a && f) || A) || ((h && f) || B)) ≡ (((a || h) && f) || (A || B))
shuffled true true true A B = refl
shuffled true false true A B = refl
shuffled false true true true B = refl
shuffled false true true false B = refl
shuffled false false true A B = refl
shuffled true true false A B = refl
shuffled true false false A B = refl
shuffled false true false A B = refl
shuffled false false false A B = refl

module _ (f : Event → Bool) where
  abbrev any_of : List (ℕ × Event) → Bool
  any_of es = list_any (λ e. f e.1) es

  abbrev any_in : List (ℕ × Device) → Entries → Bool
  any_in ds es = list_any (λ d. any_of (of_device d.0 es)) ds

  one_more : (dev : ℕ) (e : (ℕ × ℕ) × Event) (es : Entries) → any_of (of_device dev (e ∷ es)) ≡ ((e.0.0 == dev && f e.1) || any_of (of_device dev es))
  one_more dev e es =
      elim (e.0.0 == dev) as (λ b. any_of (map (λ (x : (ℕ × ℕ) × Event). (x.0.1, x.1)) (cond b (e ∷ filter (λ x. x.0.0 == dev) es)
      (filter (λ x. x.0.0 == dev) es))) ≡ ((b && f e.1) || any_of (of_device dev es))) [ true ↦ refl | false ↦ refl ]

  none_yet : (ds : List (ℕ × Device)) → any_in ds [] ≡ false
  none_yet [] = refl
  none_yet (d ∷ ds) = none_yet ds

  more_in : (ds : List (ℕ × Device)) (e : (ℕ × ℕ) × Event) (es : Entries) → any_in ds (e ∷ es) ≡ ((has e.0.0 ds && f e.1) || any_in ds es)
  unfolding has
  more_in [] e es = refl
  more_in (d ∷ ds) e es =
      rw (one_more d.0 e es, more_in ds e es) (shuffled (e.0.0 == d.0) (has e.0.0 ds) (f e.1) (any_of (of_device d.0 es)) (any_in ds es))

  all_in : (ds : List (ℕ × Device)) (es : Entries) → AllByRecursion (λ e. has e.0.0 ds ≡ true) es → any_in ds es ≡ list_any (λ e. f e.1) es
  all_in ds [] h = none_yet ds
  all_in ds (e ∷ es) h =
      more_in ds e es ∙ ap (λ (b : Bool). (b && f e.1) || any_in ds es) h.0 ∙ ap (λ (b : Bool). f e.1 || b) (all_in ds es h.1)

found_has : (k : ℕ) (ds : List (ℕ × Device)) → IsSome (finmap.find nat_cmp k ds) → has k ds ≡ true
unfolding has
found_has k [] some = absurd cc
found_has k (d ∷ ds) some =
    elim (cases_eq k d.0) [
      | inl same ↦ ap (λ (b : Bool). b || has k ds) (eq-eqb k d.0 same)
      | inr apart ↦
          ap (λ (b : Bool). b || has k ds) (ne_eqb k d.0 apart) ∙ found_has k ds
          (subst (λ (o : Option Device). IsSome o) (find_skips k d ds apart) some)
    ]

-- those of all devices are all events
pub all_lead : (m : Maps) → EventsHaveDevices m → (v x : ℕ) → devices_lead m (finmap.entries m.devices) v x ≡ any_leads m (finmap.entries m.events) v x
all_lead m have v x =
    let ds = finmap.entries m.devices in
    all_in (λ e. leads m e v x) ds (finmap.entries m.events)
    (all_entries (λ dev ev event. has dev ds ≡ true) m (λ dev ev event is. found_has dev ds
    (subst (λ (o : Option Device). IsSome o) (get-entries m.devices dev) (have dev ev (subst (λ (o : Option Event). IsSome o) (sym is) refl)))))

-- each event of a device is of an LPI
pub lpis_at : (s : Shape) (m : Maps) (dev : ℕ) → LeadInside s m → AllByRecursion {X = ℕ × Event} (λ e. is_lpi s.lpi_bits e.1.intid.0 ≡ true) (events_at m dev)
lpis_at s m dev h =
    each_found (λ ev event. is_lpi s.lpi_bits event.intid.0 ≡ true) 0 (events_at m dev) (events_rise m dev) (λ ev event is.
    h.lpis dev ev event (get-entries m.events (dev, ev) ∙ sym (find_of_device dev ev (finmap.entries m.events)) ∙ is))

pub lead_inside : (s : Shape) (t : Translator) → IsTranslator s t → LeadInside s t.maps
lead_inside s t h = record {
  lpis = λ dev ev e is. (h.events dev ev e is).lpi;
  targets = λ icid v is. (h.collections icid v is).target;
  have_devices = λ dev ev some. has_device dev ev (event_of t.maps dev ev) some refl;
}
  where
    has_device : (dev ev : ℕ) (o : Option Event) → IsSome o → event_of t.maps dev ev ≡ o → IsSome (device_of t.maps dev)
    has_device dev ev None some is = absurd cc
    has_device dev ev (Some e) some is = subst (λ (o : Option Device). IsSome o) (sym (h.events dev ev e is).device_is) refl

-- ---- what is in hand

or_held : (o : Option Pend) → (pend_or o).pending ≡ held_lpis o
or_held None = refl
or_held (Some q) = refl

pub rising_in : (p : Parts) (v : ℕ) → IsMachine p → v < p.layout.shape.vcpus → IsStrictlyIncreasing (lpis_in p.redists v)
rising_in p v m lt =
    subst IsStrictlyIncreasing (or_held (pend_in p.redists v))
    (m.sound.redistributors v (redistributor_in p.redists v) (place_is p.redists p.layout.shape.vcpus v lt)).rising

pub pending_in_hand : (p : Parts) (v x : ℕ) (q : Pend) → pend_in p.redists v ≡ Some q → is_pending x (lpis_in p.redists v) ≡ is_pending x q.pending.lpis
pending_in_hand p v x q is = ap (λ (o : Option Pend). is_pending x (held_lpis o)) is

pub set_bits : (p : Parts) (sets : List PendingSet) (v i : ℕ) (d : PendingSet) → AreSets p sets → v < p.layout.shape.vcpus → i ≡ v
    → (get_or sets i d).lpi_bits ≡ p.layout.shape.lpi_bits
set_bits p sets v i d h lt same =
    ap (λ (k : ℕ). (get_or sets k d).lpi_bits) same
    ∙ ap (λ (s : PendingSet). s.lpi_bits) (get_or_from_slice_get sets v (set_by p h.0 v) d (h.1.each v lt))

-- ---- no set has anything

replicated : {X : Type 0} (n v : ℕ) (x : X) → v < n → slice_get (replicate n x) v ≡ Some x
replicated zero v x lt = absurd (omega arith)
replicated (suc n) zero x lt = refl
replicated (suc n) (suc v) x lt = replicated n v x (omega (arith, lt))

pub none_yet_in : (p : Parts) (sets : List PendingSet) → sets ≡ replicate p.layout.shape.vcpus (none_pending p.layout.shape.lpi_bits) → AreSetsBy p nothing sets
none_yet_in p sets is =
    let n = p.layout.shape.vcpus in
    let s = none_pending p.layout.shape.lpi_bits in
    record {
      as_many = ap (λ (xs : List PendingSet). length xs) is ∙ length-replicate n s;
      each = λ v lt. ap (λ (xs : List PendingSet). slice_get xs v) is ∙ replicated n v s lt
          ∙ ap (λ (xs : List ℕ). Some (record { lpi_bits = p.layout.shape.lpi_bits; lpis = xs })) (sym (filter_none (lpis_in p.redists v)));
    }
