-- Where a message goes (IHI 0069, section 5.1 and 5.2).
use Rattle.std.specs.Prelude.{ℕ, Bool, if◌then◌else◌, Option, Result, Ok, Err}
use Rattle.std.specs.Option.{ok_or}
use Rattle.std.specs.Result.{result_ok}
use Rattle.its_types.specs.Maps.{device_of, event_of, collection_of}
use Rattle.its_types.specs.declared.ids.Target.{Target}
use Rattle.its_plain.specs.Plain.{Plain, Translator, translator, is_on}
use Rattle.its_plain.specs.declared.call.Cause.{Cause}
use Rattle.its_plain.specs.declared.call.Cause.TheVariants.{Disabled, NoDevice, NoEvent, NoCollection, LpisOff}

infixl 10 ◌>>=◌
abbrev pub ◌>>=◌ : {A B : Type 0} → Result A Cause → (A → Result B Cause) → Result B Cause
(Ok x) >>= f = f x
(Err e) >>= f = Err e

-- the cause, unless the test holds
abbrev pub ensure : Bool → Cause → Result (Unit {0}) Cause
ensure test cause = if test then Ok tt else Err cause

-- where a translator's maps send an event: the interrupt, and the virtual processor of its collection
unfoldable pub located : Translator → ℕ → ℕ → Result Target Cause
located t dev ev = do
  _ ← ensure t.regs.enabled Disabled
  _ ← ok_or (device_of t.maps dev) NoDevice
  event ← ok_or (event_of t.maps dev ev) NoEvent
  vcpu ← ok_or (collection_of t.maps event.icid.0) NoCollection
  Ok (record { vcpu = vcpu; intid = event.intid })

-- where it goes, if the target's LPIs are on
unfoldable pub translated : Plain → ℕ → ℕ → ℕ → Result Target Cause
translated u i dev ev = do
  target ← located (translator u i) dev ev
  _ ← ensure (is_on u target.vcpu.0) LpisOff
  Ok target

-- the virtual processor that it would go to
abbrev pub located_target : Plain → ℕ → ℕ → ℕ → Option Target
located_target u i dev ev = result_ok (located (translator u i) dev ev)
