-- Where a message goes: an LPI of the machine, at a virtual processor whose LPIs are on.
use Rattle.std.proofs.Common.{◌≡◌, ℕ, Bool, true, false, Option, Some, None, Result, Ok, Err, IfOk, refl, subst}
use Rattle.std.specs.Prelude.{ok_or}
use Rattle.its_types.specs.Maps.{device_of, event_of, collection_of}
use Rattle.its_types.specs.declared.ids.Target.{Target}
use Rattle.its_plain.specs.Plain.{Plain, translator, regs_of, maps_of, is_on}
use Rattle.its_plain.specs.Sound.{IsSound}
use Rattle.its_plain.specs.Translation.{translated, located, ensure, ◌>>=◌}
use Rattle.its_plain.specs.declared.call.Cause.{Cause}
use Rattle.its_plain.specs.declared.call.Cause.TheVariants.{Disabled, NoDevice, NoEvent, NoCollection, LpisOff}
use Rattle.plain_soundness.proofs.States.{IsLpi, translator_sound, enabled_within}

-- what holds of every value holds of this one
pub if_ok_at : {A E : Type 0} (P : A → Type 0) (r : Result A E) (x : A) → IfOk r P → r ≡ Ok x → P x
if_ok_at P r x h e = subst (λ q. IfOk q P) e h

-- behind a test that holds
passed : {B : Type 0} (P : B → Type 0) (test : Bool) (cause : Cause) (f : Unit {0} → Result B Cause) → (test ≡ true → IfOk (f tt) P)
    → IfOk (ensure test cause >>= f) P
passed P true cause f h = h refl
passed P false cause f h = tt

-- with a value that was found
found : {A B : Type 0} (P : B → Type 0) (o : Option A) (cause : Cause) (f : A → Result B Cause) → ((x : A) → o ≡ Some x → IfOk (f x) P)
    → IfOk (ok_or o cause >>= f) P
found P None cause f h = tt
found P (Some x) cause f h = h x refl

then_ok : {A B : Type 0} (Q : A → Type 0) (P : B → Type 0) (r : Result A Cause) (f : A → Result B Cause) → IfOk r Q → ((x : A) → Q x → IfOk (f x) P)
    → IfOk (r >>= f) P
then_ok Q P (Ok x) f q h = h x q
then_ok Q P (Err e) f q h = tt

located_lpi : (u : Plain) (i dev ev : ℕ) → IsSound u → IfOk (located (translator u i) dev ev) (λ target. IsLpi u target.intid.0)
unfolding located
located_lpi u i dev ev h =
    let P : Target → Type 0 = λ target. IsLpi u target.intid.0 in
    passed P (regs_of u i).enabled Disabled _ (λ on.
    found P (device_of (maps_of u i) dev) NoDevice _ (λ device _.
    found P (event_of (maps_of u i) dev ev) NoEvent _ (λ event is.
    found P (collection_of (maps_of u i) event.icid.0) NoCollection _ (λ vcpu _.
    ((translator_sound u i h (enabled_within u i on)).events dev ev event is).lpi))))

pub goes_to_lpi : (u : Plain) (i dev ev : ℕ) → IsSound u → IfOk (translated u i dev ev) (λ target. IsLpi u target.intid.0 × (is_on u target.vcpu.0 ≡ true))
unfolding translated
goes_to_lpi u i dev ev h =
    let P : Target → Type 0 = λ target. IsLpi u target.intid.0 × (is_on u target.vcpu.0 ≡ true) in
    then_ok (λ target. IsLpi u target.intid.0) P (located (translator u i) dev ev) _ (located_lpi u i dev ev h) (λ target lpi.
    passed P (is_on u target.vcpu.0) LpisOff _ (λ on. (lpi, on)))
