-- What maps have after a walk's devices, events and collections were put into them.
use Rattle.std.proofs.Common.{◌≡◌, ℕ, Bool, true, false, cond, not, ◌&&◌, eqb, List, [], ◌∷◌, Option, Some, None, IsSome, refl, sym, subst, ap, ◌∙◌, inl, inr}
use Rattle.std.proofs.Common.{◌⊎◌}
use Rattle.std.specs.Ordering.{nat_cmp}
use Rattle.std.specs.Cmp.{nat_cmp_total, unsigned_tied}
use Rattle.std.specs.FinMap as map
use Rattle.std.specs.FinMap.{get-insert, get-retain_keys, get-empty}
use Rattle.std.proofs.lemmas.Bool.{eq-eqb, eqb-true, eqb-false}
use Rattle.its_types.specs.declared.ids.Vcpu.{Vcpu}
use Rattle.its_types.specs.declared.translation.Device.{Device}
use Rattle.its_types.specs.declared.translation.Event.{Event}
use Rattle.its_types.specs.Maps.{Maps, pair_cmp, device_of, event_of, collection_of, device_mapped, event_mapped, collection_mapped, no_maps}
use Rattle.its_types.proofs.PairOrder.{pair_total, pair_same, pair_tied}
use Rattle.standing_states.specs.Walked.{Among, after_all}
use Rattle.standing_states.specs.Found.{Found, put_event, put_found, put_collection}

pub device-mapped : (m : Maps) (dev : ℕ) (d : Device) (q : ℕ) → device_of (device_mapped m dev d) q ≡ cond (eqb q dev) (Some d) (device_of m q)
device-mapped m dev d q = get-insert nat_cmp_total m.devices dev d q ∙ ap (λ t. cond t (Some d) (map.get m.devices q)) (unsigned_tied q dev)

pub event-device_mapped : (m : Maps) (dev : ℕ) (d : Device) (q ev : ℕ) → event_of (device_mapped m dev d) q ev ≡ cond (not (eqb q dev)) (event_of m q ev) None
event-device_mapped m dev d q ev = get-retain_keys m.events (λ k. not (eqb k.0 dev)) (q, ev)
    (λ y same. ap (λ (k : ℕ × ℕ). not (eqb k.0 dev)) (sym (pair_same (q, ev) y same)))

pub event-mapped : (m : Maps) (dev ev : ℕ) (e : Event) (q w : ℕ) → event_of (event_mapped m dev ev e) q w ≡ cond (eqb q dev && eqb w ev) (Some e)
    (event_of m q w)
event-mapped m dev ev e q w = get-insert pair_total m.events (dev, ev) e (q, w) ∙ ap (λ t. cond t (Some e) (map.get m.events (q, w)))
    (pair_tied (q, w) (dev, ev))

pub collection-mapped : (m : Maps) (icid : ℕ) (v : Vcpu) (q : ℕ) → collection_of (collection_mapped m icid v) q ≡ cond (eqb q icid) (Some v) (collection_of m q)
collection-mapped m icid v q = get-insert nat_cmp_total m.collections icid v q ∙ ap (λ t. cond t (Some v) (map.get m.collections q)) (unsigned_tied q icid)

pub no_device : (q : ℕ) → device_of no_maps q ≡ None
no_device q = get-empty nat_cmp q

pub no_event : (q w : ℕ) → event_of no_maps q w ≡ None
no_event q w = get-empty pair_cmp (q, w)

pub no_collection : (q : ℕ) → collection_of no_maps q ≡ None
no_collection q = get-empty nat_cmp q

pub is_mapped : (m n : Maps) (dev : ℕ) (d : Device) → n ≡ device_mapped m dev d → IsSome (device_of n dev)
is_mapped m n dev d e = subst IsSome (sym (ap (λ (u : Maps). device_of u dev) e ∙ device-mapped m dev d dev ∙ ap (λ t. cond t (Some d) (device_of m dev))
    (eq-eqb dev dev refl))) refl

-- ---- what is put into maps one after another: at each key the last value stays

module _ {X V : Type 0} (get : Maps → ℕ → Option V) (put : Maps → X → Maps) (key : X → ℕ) (val : X → Option V) (law : (m : Maps) (x : X) (q : ℕ)
    → get (put m x) q ≡ cond (eqb q (key x)) (val x) (get m q)) where
  -- an element of this key
  Source : List X → ℕ → V → Type 0
  Source xs q v = (x : X) × Among x xs × (q ≡ key x) × (val x ≡ Some v)

  at_key : (m : Maps) (x : X) (q : ℕ) (v : V) → get (put m x) q ≡ Some v → ((q ≡ key x) × (val x ≡ Some v)) ⊎ (get m q ≡ Some v)
  at_key m x q v e =
      elim (eqb q (key x)) as (λ t. eqb q (key x) ≡ t → cond t (val x) (get m q) ≡ Some v → ((q ≡ key x) × (val x ≡ Some v)) ⊎ (get m q ≡ Some v)) [
        | true ↦ λ is s. inl (eqb-true q (key x) is, s)
        | false ↦ λ is s. inr s
      ] refl (sym (law m x q) ∙ e)

  -- what is found was put there, or was there before
  pub put_before : (m : Maps) (xs : List X) (q : ℕ) (v : V) → get (after_all put m xs) q ≡ Some v → ((x : X) × Among x xs × (q ≡ key x) × (val x ≡ Some v))
      ⊎ (get m q ≡ Some v)
  put_before m [] q v e = inr e
  put_before m (x ∷ xs) q v e =
      elim (put_before (put m x) xs q v e) [
        | inl s ↦ inl (s.0, inr s.1, s.2, s.3)
        | inr there ↦ elim (at_key m x q v there) [
          | inl here ↦ inl (x, inl refl, here.0, here.1)
          | inr old ↦ inr old
        ]
      ]

  -- where all elements of a key have one value it is found
  pub stays_put : (m : Maps) (xs : List X) (q : ℕ) (v : V) → ((x : X) → Among x xs → q ≡ key x → val x ≡ Some v) → ((x : X) × Among x xs × (q ≡ key x))
      ⊎ (get m q ≡ Some v) → get (after_all put m xs) q ≡ Some v
  stays_put m [] q v one (inl none) = absurd none.1
  stays_put m [] q v one (inr e) = e
  stays_put m (x ∷ xs) q v one there =
      elim (eqb q (key x)) as (λ t. eqb q (key x) ≡ t → get (after_all put (put m x) xs) q ≡ Some v) [
        | true ↦ λ is. stays_put (put m x) xs q v (λ y a. one y (inr a))
            (inr (law m x q ∙ ap (λ t. cond t (val x) (get m q)) is ∙ one x (inl refl) (eqb-true q (key x) is)))
        | false ↦ λ is. stays_put (put m x) xs q v (λ y a. one y (inr a)) (elim there [
          | inl s ↦ elim s.1 [
            | inl same ↦ absurd (eqb-false q (key x) is (s.2 ∙ ap key same))
            | inr a ↦ inl (s.0, a, s.2)
          ]
          | inr old ↦ inr (law m x q ∙ ap (λ t. cond t (val x) (get m q)) is ∙ old)
        ])
      ] refl

-- ---- events of one device

and_true : (a b : Bool) → a ≡ true → (a && b) ≡ b
and_true a b e = ap (λ t. t && b) e

pub event-put : (dev : ℕ) (m : Maps) (e : ℕ × Event) (q : ℕ) → event_of (put_event dev m e) dev q ≡ cond (eqb q e.0) (Some e.1) (event_of m dev q)
event-put dev m e q = event-mapped m dev e.0 e.1 dev q ∙ ap (λ t. cond t (Some e.1) (event_of m dev q))
    (and_true (eqb dev dev) (eqb q e.0) (eq-eqb dev dev refl))

-- those of another one stay
pub event-others : (dev : ℕ) (es : List (ℕ × Event)) (m : Maps) (q w : ℕ) → eqb q dev ≡ false → event_of (after_all (put_event dev) m es) q w ≡ event_of m q w
event-others dev [] m q w apart = refl
event-others dev (e ∷ es) m q w apart =
    event-others dev es (put_event dev m e) q w apart ∙ event-mapped m dev e.0 e.1 q w ∙ ap (λ t. cond (t && eqb w e.0) (Some e.1) (event_of m q w)) apart

-- what is found doesn't depend on other events
pub event-alike : (dev : ℕ) (es : List (ℕ × Event)) (m n : Maps) (q : ℕ) → event_of m dev q ≡ event_of n dev q → event_of (after_all (put_event dev) m es) dev q
    ≡ event_of (after_all (put_event dev) n es) dev q
event-alike dev [] m n q same = same
event-alike dev (e ∷ es) m n q same =
    event-alike dev es (put_event dev m e) (put_event dev n e) q (event-put dev m e q ∙ ap (λ o. cond (eqb q e.0) (Some e.1) o) same
    ∙ sym (event-put dev n e q))

-- ---- devices with their events

devices-events : (dev : ℕ) (es : List (ℕ × Event)) (m : Maps) (q : ℕ) → device_of (after_all (put_event dev) m es) q ≡ device_of m q
devices-events dev [] m q = refl
devices-events dev (e ∷ es) m q = devices-events dev es (put_event dev m e) q

pub device-put : (m : Maps) (x : Found) (q : ℕ) → device_of (put_found m x) q ≡ cond (eqb q x.dev) (Some x.device) (device_of m q)
device-put m x q = devices-events x.dev x.events (device_mapped m x.dev x.device) q ∙ device-mapped m x.dev x.device q

-- an event of a device that was found
abbrev pub event_found : ℕ → Found → Option Event
event_found ev x = event_of (after_all (put_event x.dev) no_maps x.events) x.dev ev

pub events-put : (ev : ℕ) (m : Maps) (x : Found) (q : ℕ) → event_of (put_found m x) q ev ≡ cond (eqb q x.dev) (event_found ev x) (event_of m q ev)
events-put ev m x q =
    elim (eqb q x.dev) as (λ t. eqb q x.dev ≡ t → event_of (put_found m x) q ev ≡ cond t (event_found ev x) (event_of m q ev)) [
      | true ↦ λ is.
          ap (λ k. event_of (put_found m x) k ev) (eqb-true q x.dev is)
          ∙ event-alike x.dev x.events (device_mapped m x.dev x.device) no_maps ev
          (event-device_mapped m x.dev x.device x.dev ev ∙ ap (λ t. cond (not t) (event_of m x.dev ev) None) (eq-eqb x.dev x.dev refl)
          ∙ sym (no_event x.dev ev))
      | false ↦ λ is.
          event-others x.dev x.events (device_mapped m x.dev x.device) q ev is ∙ event-device_mapped m x.dev x.device q ev
          ∙ ap (λ t. cond (not t) (event_of m q ev) None) is
    ] refl

-- ---- what a walk doesn't put

collections-events : (dev : ℕ) (es : List (ℕ × Event)) (m : Maps) → (after_all (put_event dev) m es).collections ≡ m.collections
collections-events dev [] m = refl
collections-events dev (e ∷ es) m = collections-events dev es (put_event dev m e)

pub collections-devices : (xs : List Found) (m : Maps) → (after_all put_found m xs).collections ≡ m.collections
collections-devices [] m = refl
collections-devices (x ∷ xs) m = collections-devices xs (put_found m x) ∙ collections-events x.dev x.events (device_mapped m x.dev x.device)

pub devices-collections : (cs : List (ℕ × Vcpu)) (m : Maps) → (after_all put_collection m cs).devices ≡ m.devices
devices-collections [] m = refl
devices-collections (c ∷ cs) m = devices-collections cs (put_collection m c)

pub events-collections : (cs : List (ℕ × Vcpu)) (m : Maps) → (after_all put_collection m cs).events ≡ m.events
events-collections [] m = refl
events-collections (c ∷ cs) m = events-collections cs (put_collection m c)
