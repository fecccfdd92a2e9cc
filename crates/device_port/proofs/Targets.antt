-- Where translations of a sound machine lead: to a processor and an LPI that it has.
use Rattle.std.proofs.Common.{◌≡◌, ℕ, ◌<◌, Bool, true, false, Option, Some, None, Result, Ok, IfOk, List, refl, sym, subst}
use Rattle.std.specs.Prelude.{ok_or, slice_get}
use Rattle.its_types.specs.Maps.{device_of, event_of, collection_of}
use Rattle.its_types.specs.Ranges.{is_lpi}
use Rattle.its_types.specs.declared.ids.DeviceId.{DeviceId}
use Rattle.its_types.specs.declared.ids.EventId.{EventId}
use Rattle.its_types.specs.declared.ids.Target.{Target}
use Rattle.its_types.specs.declared.machine.Part.TheVariants as part
use Rattle.its_types.specs.declared.machine.Shape.{Shape}
use Rattle.its_plain.specs.Plain.{Plain, Translator}
use Rattle.its_plain.specs.Sound.{IsSound, IsTranslator}
use Rattle.its_plain.specs.Translation.{located, ensure, ◌>>=◌}
use Rattle.its_plain.specs.declared.call.Cause.{Cause}
use Rattle.its_plain.specs.declared.call.Cause.TheVariants.{Disabled, NoDevice, NoEvent, NoCollection}
use Rattle.xlate_cache.specs.Ways.{found, entry}
use Rattle.xlate_cache.specs.declared.entry.Entry.{Entry as Translation}
use Rattle.its_steps.proofs.Found.{found_at}
use Rattle.its_steps.specs.Contents.{Maps, Shard}
use Rattle.its_steps.specs.Parts.{Setup}
use Rattle.its_turns.specs.Told.{HasStood}

pub record IsTarget (s : Shape) (t : Target) : Type 0 where
  pub vcpu : t.vcpu.0 < s.vcpus
  pub lpi : is_lpi s.lpi_bits t.intid.0 ≡ true

passed : {B : Type 0} (P : B → Type 0) (test : Bool) (cause : Cause) (f : Unit {0} → Result B Cause) → (test ≡ true → IfOk (f tt) P)
    → IfOk (ensure test cause >>= f) P
passed P true cause f h = h refl
passed P false cause f h = tt

is_there : {A B : Type 0} (P : B → Type 0) (o : Option A) (cause : Cause) (f : A → Result B Cause) → ((x : A) → o ≡ Some x → IfOk (f x) P)
    → IfOk (ok_or o cause >>= f) P
is_there P None cause f h = tt
is_there P (Some x) cause f h = h x refl

located_targets : (s : Shape) (t : Translator) (dev ev : ℕ) → IsTranslator s t → IfOk (located t dev ev) (IsTarget s)
unfolding located
located_targets s t dev ev h =
    passed (IsTarget s) t.regs.enabled Disabled _ (λ on.
    is_there (IsTarget s) (device_of t.maps dev) NoDevice _ (λ device _.
    is_there (IsTarget s) (event_of t.maps dev ev) NoEvent _ (λ event is.
    is_there (IsTarget s) (collection_of t.maps event.icid.0) NoCollection _ (λ vcpu goes.
    record { vcpu = (h.collections event.icid.0 vcpu goes).target; lpi = (h.events dev ev event is).lpi }))))

located_target : (u : Plain) (i : ℕ) (t : Translator) (dev ev : ℕ) (target : Target) → IsSound u → slice_get u.translators i ≡ Some t
    → located t dev ev ≡ Ok target → IsTarget u.layout.shape target
located_target u i t dev ev target sound is goes = subst (λ (r : Result Target Cause). IfOk r (IsTarget u.layout.shape)) goes
    (located_targets u.layout.shape t dev ev (sound.translators i t is))

-- by the maps
pub target_in : (s : Setup) (its : ℕ) (t : Translator) (dev ev : ℕ) (target : Target) → HasStood s (part.Maps its) (Maps t) → located t dev ev ≡ Ok target
    → IsTarget s.start.layout.shape target
target_in s its t dev ev target stood goes = subst (λ l. IsTarget l.shape target) (sym stood.machine.layout)
    (located_target _ its t dev ev target stood.machine.sound stood.right goes)

-- by the cache
pub cached_target : (s : Setup) (its n : ℕ) (dev : DeviceId) (ev : EventId) (stamp : ℕ) (target : Target) (ways : List (Option Translation))
    → HasStood s (part.Shard its n) (Shard ways) → found ways dev.0 ev.0 stamp ≡ Some target → IsTarget s.start.layout.shape target
cached_target s its n dev ev stamp target ways stood finds =
    let f = found_at dev ev stamp target ways finds in
    let e = stood.right.entries f.0 (entry dev ev stamp target) f.1 in
    record { vcpu = e.vcpu; lpi = e.lpi }
