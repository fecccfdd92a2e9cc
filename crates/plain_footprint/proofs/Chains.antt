-- Chains of steps that may refuse: what held where the last one ran.
use Rattle.std.proofs.Common.{◌≡◌, ℕ, ◌^◌, Bool, true, false, nat_lt, Option, Some, None, Result, Ok, Err, refl, ap, ◌∙◌}
use Rattle.std.specs.Option.{ok_or}
use Rattle.its_types.specs.Maps.{Maps, device_of, event_of, collection_of}
use Rattle.its_types.specs.declared.ids.Intid.{Intid}
use Rattle.its_types.specs.declared.ids.Vcpu.{Vcpu}
use Rattle.its_types.specs.declared.translation.Event.{Event}
use Rattle.its_plain.specs.Plain.{Plain, maps_of, is_on}
use Rattle.its_plain.specs.Commands.{◌>>=◌, ensure, event_at, target_at, lpi_at}
use Rattle.its_plain.specs.Parts.{target_of_event}
use Rattle.its_plain.specs.declared.call.Reason.{Reason}
use Rattle.its_plain.specs.declared.call.Reason.TheVariants.{NoDevice, EventRange, NoEvent, NoCollection, LpisOff}

-- the first step ran too
pub ran_first : {A B : Type 0} (x : Result A Reason) (f : A → Result B Reason) (b : B) (P : Type 0) → (x >>= f) ≡ Ok b → ((a : A) → x ≡ Ok a → f a ≡ Ok b → P)
    → P
ran_first (Ok a) f b P e h = h a refl e
ran_first (Err r) f b P e h = absurd cc

pub ok_or_is : {A : Type 0} (o : Option A) (r : Reason) (a : A) → ok_or o r ≡ Ok a → o ≡ Some a
ok_or_is None r a e = absurd cc
ok_or_is (Some x) r a e = cc

pub ensure_is : (b : Bool) (r : Reason) (a : Unit {0}) → ensure b r ≡ Ok a → b ≡ true
ensure_is true r a e = refl
ensure_is false r a e = absurd cc

-- ---- events and their targets

pub event_at_is : (m : Maps) (dev ev : ℕ) (event : Event) → event_at m dev ev ≡ Ok event → event_of m dev ev ≡ Some event
unfolding event_at
event_at_is m dev ev event e =
    ran_first (ok_or (device_of m dev) NoDevice) _ event _ e (λ device _ e1.
    ran_first (ensure (nat_lt ev (2 ^ device.bits)) EventRange) _ event _ e1 (λ _ _ e2. ok_or_is (event_of m dev ev) NoEvent event e2))

abbrev target_in : Maps → Option Event → Option Vcpu
target_in m None = None
target_in m (Some event) = collection_of m event.icid.0

pub target_of_event_is : (m : Maps) (dev ev : ℕ) (event : Event) (o : Option Vcpu) → event_at m dev ev ≡ Ok event → collection_of m event.icid.0 ≡ o
    → target_of_event m dev ev ≡ o
target_of_event_is m dev ev event o e c = ap (λ (x : Option Event). target_in m x) (event_at_is m dev ev event e) ∙ c

pub target_at_is : (m : Maps) (icid : ℕ) (vcpu : Vcpu) → target_at m icid ≡ Ok vcpu → collection_of m icid ≡ Some vcpu
target_at_is m icid vcpu e = ok_or_is (collection_of m icid) NoCollection vcpu e

pub lpi_at_is : (u : Plain) (i dev ev : ℕ) (lpi : Intid × Vcpu) → lpi_at u i dev ev ≡ Ok lpi → target_of_event (maps_of u i) dev ev ≡ Some lpi.1
unfolding lpi_at
lpi_at_is u i dev ev lpi e =
    ran_first (event_at (maps_of u i) dev ev) _ lpi _ e (λ event at e1.
    ran_first (target_at (maps_of u i) event.icid.0) _ lpi _ e1 (λ vcpu is e2.
    ran_first (ensure (is_on u vcpu.0) LpisOff) _ lpi _ e2 (λ _ _ e3.
    let pair : ◌≡◌ {A = Intid × Vcpu} (event.intid, vcpu) lpi = cc in
    target_of_event_is (maps_of u i) dev ev event (Some lpi.1) at (target_at_is (maps_of u i) event.icid.0 vcpu is
    ∙ ap (λ (p : Intid × Vcpu). Some p.1) pair))))
