-- How the maps send an event, and what each change of them keeps of that.
use Rattle.std.proofs.Common.{◌≡◌, ◌≢◌, ℕ, Bool, true, false, not, eqb, ◌&&◌, Option, Some, None, is_some, Result, Ok, refl, ap, sym, ◌∙◌, eq-eqb, ne_eqb}
use Rattle.std.specs.Option.{ok_or}
use Rattle.std.specs.Ordering.{nat_cmp}
use Rattle.std.specs.Cmp.{nat_cmp_total}
use Rattle.std.specs.FinMap.{nat_cmp-IsAntisymmetric}
use mathlib.Core.Logic.{dite}
use native.Mathlib.Decide.{ℕ_discrete}
use Rattle.its_types.specs.Maps.{Maps, pair_cmp, is_pair, device_of, event_of, collection_of, device_mapped, device_unmapped, event_mapped, event_unmapped}
use Rattle.its_types.specs.Maps.{collection_mapped, collection_unmapped}
use Rattle.its_types.specs.declared.ids.Target.{Target}
use Rattle.its_types.specs.declared.ids.Vcpu.{Vcpu}
use Rattle.its_types.specs.declared.translation.Device.{Device}
use Rattle.its_types.specs.declared.translation.Event.{Event}
use Rattle.its_plain.specs.Plain.{Translator}
use Rattle.its_plain.specs.Translation.{◌>>=◌, ensure, located}
use Rattle.its_plain.specs.declared.call.Cause.{Cause}
use Rattle.its_plain.specs.declared.call.Cause.TheVariants.{Disabled, NoDevice, NoEvent, NoCollection}
use Rattle.its_types.proofs.PairOrder.{pair_total, pair_same}
use Rattle.plain_soundness.proofs.FiniteMaps.{not_inserted, still_there}

pub record Route (enabled : Bool) (m : Maps) (dev ev : ℕ) (t : Target) : Type 0 where
  pub on : enabled ≡ true
  pub device : Device
  pub device_is : device_of m dev ≡ Some device
  pub event : Event
  pub event_is : event_of m dev ev ≡ Some event
  pub vcpu : Vcpu
  pub vcpu_is : collection_of m event.icid.0 ≡ Some vcpu
  pub target_is : (let x : Target = record { vcpu = vcpu; intid = event.intid } in x) ≡ t

-- ---- a route is what is located

passed : {A : Type 0} (b : Bool) (cause : Cause) (f : Unit {0} → Result A Cause) (a : A) (P : Type 0) → (ensure b cause >>= f) ≡ Ok a
    → (b ≡ true → f tt ≡ Ok a → P) → P
passed true cause f a P e k = k refl e
passed false cause f a P e k = absurd cc

got_some : {A B : Type 0} (o : Option A) (cause : Cause) (f : A → Result B Cause) (b : B) (P : Type 0) → (ok_or o cause >>= f) ≡ Ok b
    → ((a : A) → o ≡ Some a → f a ≡ Ok b → P) → P
got_some None cause f b P e k = absurd cc
got_some (Some a) cause f b P e k = k a refl e

same_ok : (x y : Target) → (let r : Result Target Cause = Ok x in r) ≡ Ok y → x ≡ y
same_ok x y e = cc

pub route_of : (t : Translator) (dev ev : ℕ) (target : Target) → located t dev ev ≡ Ok target → Route t.regs.enabled t.maps dev ev target
unfolding located
route_of t dev ev target e =
    passed t.regs.enabled Disabled _ target _ e (λ on e1.
    got_some (device_of t.maps dev) NoDevice _ target _ e1 (λ device device_is e2.
    got_some (event_of t.maps dev ev) NoEvent _ target _ e2 (λ event event_is e3.
    got_some (collection_of t.maps event.icid.0) NoCollection _ target _ e3 (λ vcpu vcpu_is e4.
    record {
      on = on;
      device = device;
      device_is = device_is;
      event = event;
      event_is = event_is;
      vcpu = vcpu;
      vcpu_is = vcpu_is;
      target_is = same_ok (record { vcpu = vcpu; intid = event.intid }) target e4;
    }))))

pub located_by : (t : Translator) (dev ev : ℕ) (target : Target) → Route t.regs.enabled t.maps dev ev target → located t dev ev ≡ Ok target
unfolding located
located_by t dev ev target r =
    ap (λ (b : Bool). ensure b Disabled >>= λ _. ok_or (device_of t.maps dev) NoDevice >>= λ _. ok_or (event_of t.maps dev ev) NoEvent >>= λ e.
    ok_or (collection_of t.maps e.icid.0) NoCollection >>= λ v. Ok (record { vcpu = v; intid = e.intid })) r.on
    ∙ (ap (λ (o : Option Device). ok_or o NoDevice >>= λ _. ok_or (event_of t.maps dev ev) NoEvent >>= λ e. ok_or (collection_of t.maps e.icid.0) NoCollection
    >>= λ v. Ok (record { vcpu = v; intid = e.intid })) r.device_is
    ∙ (ap (λ (o : Option Event). ok_or o NoEvent >>= λ e. ok_or (collection_of t.maps e.icid.0) NoCollection >>= λ v. Ok (record { vcpu = v; intid = e.intid }))
    r.event_is
    ∙ (ap (λ (o : Option Vcpu). ok_or o NoCollection >>= λ v. Ok (record { vcpu = v; intid = r.event.intid })) r.vcpu_is
    ∙ ap (λ (x : Target). Ok x) r.target_is)))

-- ---- look-ups that a route makes, after a change

some_is : {A : Type 0} (o : Option A) (a : A) → o ≡ Some a → is_some o ≡ false → ⊥
some_is None a e f = cc
some_is (Some x) a e f = cc

not_same : (a b : ℕ) → a ≢ b → not (eqb a b) ≡ true
not_same a b ne = ap not (ne_eqb a b ne)

not_pair : (dev ev d e : ℕ) → ¬ ((d ≡ dev) × (e ≡ ev)) → not (is_pair dev ev (d, e)) ≡ true
not_pair dev ev d e ne = dite (ℕ_discrete d dev)
    (λ same. let other : e ≢ ev = λ f. ne (same, f) in ap not (ap (λ (b : Bool). b && eqb e ev) (eq-eqb d dev same) ∙ ne_eqb e ev other))
    (λ other. ap not (ap (λ (b : Bool). b && eqb e ev) (ne_eqb d dev other)))

module _ (b : Bool) (m : Maps) (dev ev : ℕ) (t : Target) (r : Route b m dev ev t) where
  apart_device : (d : ℕ) → is_some (device_of m d) ≡ false → dev ≢ d
  apart_device d none e = some_is (device_of m d) r.device (ap (device_of m) (sym e) ∙ r.device_is) none

  apart_icid : (icid : ℕ) → is_some (collection_of m icid) ≡ false → r.event.icid.0 ≢ icid
  apart_icid icid none e = some_is (collection_of m icid) r.vcpu (ap (collection_of m) (sym e) ∙ r.vcpu_is) none

  pub with_device : (d : ℕ) (x : Device) → is_some (device_of m d) ≡ false → Route b (device_mapped m d x) dev ev t
  with_device d x none = let ne = apart_device d none in record {
    on = r.on;
    device = r.device;
    device_is = not_inserted nat_cmp nat_cmp_total nat_cmp-IsAntisymmetric m.devices d x dev ne ∙ r.device_is;
    event = r.event;
    event_is = still_there pair_cmp pair_total pair_same m.events (λ k. not (eqb k.0 d)) (dev, ev) (not_same dev d ne) ∙ r.event_is;
    vcpu = r.vcpu;
    vcpu_is = r.vcpu_is;
    target_is = r.target_is;
  }

  pub without_device : (d : ℕ) → is_some (device_of m d) ≡ false → Route b (device_unmapped m d) dev ev t
  without_device d none = let ne = apart_device d none in record {
    on = r.on;
    device = r.device;
    device_is = still_there nat_cmp nat_cmp_total nat_cmp-IsAntisymmetric m.devices (λ k. not (eqb k d)) dev (not_same dev d ne) ∙ r.device_is;
    event = r.event;
    event_is = still_there pair_cmp pair_total pair_same m.events (λ k. not (eqb k.0 d)) (dev, ev) (not_same dev d ne) ∙ r.event_is;
    vcpu = r.vcpu;
    vcpu_is = r.vcpu_is;
    target_is = r.target_is;
  }

  pub with_other_event : (d e : ℕ) (x : Event) → ¬ ((dev ≡ d) × (ev ≡ e)) → Route b (event_mapped m d e x) dev ev t
  with_other_event d e x ne = record {
    on = r.on;
    device = r.device;
    device_is = r.device_is;
    event = r.event;
    event_is = not_inserted pair_cmp pair_total pair_same m.events (d, e) x (dev, ev) (λ same. ne (ap (λ (p : ℕ × ℕ). p.0) same, ap (λ (p : ℕ × ℕ). p.1) same))
        ∙ r.event_is;
    vcpu = r.vcpu;
    vcpu_is = r.vcpu_is;
    target_is = r.target_is;
  }

  pub with_event : (d e : ℕ) (x : Event) → is_some (event_of m d e) ≡ false → Route b (event_mapped m d e x) dev ev t
  with_event d e x none = with_other_event d e x (λ same. some_is (event_of m d e) r.event ((λ i. event_of m (sym same.0 i) (sym same.1 i)) ∙ r.event_is) none)

  pub without_event : (d e : ℕ) → ¬ ((dev ≡ d) × (ev ≡ e)) → Route b (event_unmapped m d e) dev ev t
  without_event d e ne = record {
    on = r.on;
    device = r.device;
    device_is = r.device_is;
    event = r.event;
    event_is = still_there pair_cmp pair_total pair_same m.events (λ k. not (is_pair d e k)) (dev, ev) (not_pair d e dev ev ne) ∙ r.event_is;
    vcpu = r.vcpu;
    vcpu_is = r.vcpu_is;
    target_is = r.target_is;
  }

  pub with_collection : (icid : ℕ) (x : Vcpu) → is_some (collection_of m icid) ≡ false → Route b (collection_mapped m icid x) dev ev t
  with_collection icid x none = record {
    on = r.on;
    device = r.device;
    device_is = r.device_is;
    event = r.event;
    event_is = r.event_is;
    vcpu = r.vcpu;
    vcpu_is = not_inserted nat_cmp nat_cmp_total nat_cmp-IsAntisymmetric m.collections icid x r.event.icid.0 (apart_icid icid none) ∙ r.vcpu_is;
    target_is = r.target_is;
  }

  pub without_collection : (icid : ℕ) → is_some (collection_of m icid) ≡ false → Route b (collection_unmapped m icid) dev ev t
  without_collection icid none = record {
    on = r.on;
    device = r.device;
    device_is = r.device_is;
    event = r.event;
    event_is = r.event_is;
    vcpu = r.vcpu;
    vcpu_is = still_there nat_cmp nat_cmp_total nat_cmp-IsAntisymmetric m.collections (λ k. not (eqb k icid)) r.event.icid.0
        (not_same r.event.icid.0 icid (apart_icid icid none)) ∙ r.vcpu_is;
    target_is = r.target_is;
  }
