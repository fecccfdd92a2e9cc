-- Chains of steps that may refuse.
use Rattle.std.proofs.Common.{◌≡◌, ℕ, ◌^◌, Bool, true, false, nat_lt, Option, Some, None, Result, Ok, Err, IfOk, refl, ap, ◌∙◌}
use Rattle.std.specs.Option.{ok_or}
use Rattle.its_types.specs.Maps.{Maps, device_of, event_of, collection_of}
use Rattle.its_types.specs.declared.ids.Vcpu.{Vcpu}
use Rattle.its_types.specs.declared.translation.Event.{Event}
use Rattle.its_plain.specs.Parts.{target_of_event}
use Rattle.its_plain.specs.Commands.{◌>>=◌, ensure, event_at}
use Rattle.its_plain.specs.declared.call.Reason.{Reason}
use Rattle.its_plain.specs.declared.call.Reason.TheVariants.{NoDevice, EventRange, NoEvent}

-- ---- two chains with the same steps, whose ends are one end by a function

abbrev pub by : {A B : Type 0} → (B → A) → Result B Reason → Result A Reason
by f (Ok x) = Ok (f x)
by f (Err e) = Err e

module _ {A B : Type 0} (end : B → A) where
  pub test_same : (t t' : Bool) (reason : Reason) (f : Unit {0} → Result A Reason) (g : Unit {0} → Result B Reason) → t ≡ t' → f tt ≡ by end (g tt)
      → (ensure t reason >>= f) ≡ by end (ensure t' reason >>= g)
  test_same t true reason f g e h = ap (λ (b : Bool). ensure b reason >>= f) e ∙ h
  test_same t false reason f g e h = ap (λ (b : Bool). ensure b reason >>= f) e

  pub test_when : (t : Bool) (reason : Reason) (f : Unit {0} → Result A Reason) (g : Unit {0} → Result B Reason) → (t ≡ true → f tt ≡ by end (g tt))
      → (ensure t reason >>= f) ≡ by end (ensure t reason >>= g)
  test_when true reason f g h = h refl
  test_when false reason f g h = refl

  pub option_same : {X : Type 0} (o : Option X) (reason : Reason) (f : X → Result A Reason) (g : X → Result B Reason)
      → ((x : X) → o ≡ Some x → f x ≡ by end (g x))
      → (ok_or o reason >>= f) ≡ by end (ok_or o reason >>= g)
  option_same None reason f g h = refl
  option_same (Some x) reason f g h = h x refl

  pub result_same : {X : Type 0} (r : Result X Reason) (f : X → Result A Reason) (g : X → Result B Reason) → ((x : X) → r ≡ Ok x → f x ≡ by end (g x))
      → (r >>= f) ≡ by end (r >>= g)
  result_same (Ok x) f g h = h x refl
  result_same (Err e) f g h = refl

abbrev pub itself : {A : Type 0} → A → A
itself x = x

pub by_itself : {A : Type 0} (r : Result A Reason) → by itself r ≡ r
by_itself (Ok x) = refl
by_itself (Err e) = refl

-- ---- what holds where the last one ran

pub passed : {B : Type 0} (P : B → Type 0) (test : Bool) (reason : Reason) (f : Unit {0} → Result B Reason) → (test ≡ true → IfOk (f tt) P)
    → IfOk (ensure test reason >>= f) P
passed P true reason f h = h refl
passed P false reason f h = tt

pub found : {A B : Type 0} (P : B → Type 0) (o : Option A) (reason : Reason) (f : A → Result B Reason) → ((x : A) → o ≡ Some x → IfOk (f x) P)
    → IfOk (ok_or o reason >>= f) P
found P None reason f h = tt
found P (Some x) reason f h = h x refl

pub ran : {A B : Type 0} (P : B → Type 0) (r : Result A Reason) (f : A → Result B Reason) → ((x : A) → r ≡ Ok x → IfOk (f x) P) → IfOk (r >>= f) P
ran P (Ok x) f h = h x refl
ran P (Err e) f h = tt

-- ---- events

then_is : {A B : Type 0} (Q : Type 0) (r : Result A Reason) (f : A → Result B Reason) (b : B) → (r >>= f) ≡ Ok b → ((a : A) → f a ≡ Ok b → Q) → Q
then_is Q (Ok a) f b e h = h a e
then_is Q (Err e') f b e h = absurd cc

some_is : {A : Type 0} (o : Option A) (r : Reason) (a : A) → ok_or o r ≡ Ok a → o ≡ Some a
some_is None r a e = absurd cc
some_is (Some x) r a e = cc

pub event_is : (m : Maps) (dev ev : ℕ) (event : Event) → event_at m dev ev ≡ Ok event → event_of m dev ev ≡ Some event
unfolding event_at
event_is m dev ev event e =
    let Q : Type 0 = event_of m dev ev ≡ Some event in
    then_is Q (ok_or (device_of m dev) NoDevice) _ event e (λ device e1.
    then_is Q (ensure (nat_lt ev (2 ^ device.bits)) EventRange) _ event e1 (λ _ e2. some_is (event_of m dev ev) NoEvent event e2))

abbrev target_in : Maps → Option Event → Option Vcpu
target_in m None = None
target_in m (Some event) = collection_of m event.icid.0

pub target_is : (m : Maps) (dev ev : ℕ) (event : Event) → event_at m dev ev ≡ Ok event → target_of_event m dev ev ≡ collection_of m event.icid.0
target_is m dev ev event e = ap (target_in m) (event_is m dev ev event e)
