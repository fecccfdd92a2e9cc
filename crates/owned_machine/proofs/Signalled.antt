-- What a signal and an acknowledgement leave.
use Rattle.std.proofs.Common.{◌≡◌, ℕ, ◌<◌, Bool, true, false, Option, Some, None, Result, Ok, Err, IfOk, refl, sym}
use Rattle.std.proofs.Common.{ap}
use Rattle.std.proofs.Common.{subst, ◌∙◌}
use Rattle.std.specs.Prelude.{ok_or, slice_get}
use Rattle.its_types.specs.Maps.{device_of, event_of, collection_of}
use Rattle.its_types.specs.Ranges.{is_lpi}
use Rattle.its_types.specs.declared.ids.DeviceId.{DeviceId}
use Rattle.its_types.specs.declared.ids.EventId.{EventId}
use Rattle.its_types.specs.declared.ids.Intid.{Intid}
use Rattle.its_types.specs.declared.ids.Target.{Target}
use Rattle.its_types.specs.declared.ids.Vcpu.{Vcpu}
use Rattle.its_types.specs.declared.machine.Shape.{Shape}
use Rattle.its_plain.specs.Plain.{Plain, Translator, Redistributor, no_translator, translator, redistributor, with_redistributor, is_on}
use Rattle.its_plain.specs.Sound.{IsTranslator}
use Rattle.its_plain.specs.Translation.{translated, located, ensure, ◌>>=◌}
use Rattle.its_plain.specs.Commands.{lpi_set}
use Rattle.its_plain.specs.Answer.{answer, reply_of, left, signal_reply, signal_left}
use Rattle.its_plain.specs.Answer.{ack_of, taken}
use Rattle.its_plain.specs.declared.call.Ack.TheVariants as ack
use Rattle.its_plain.specs.declared.call.Call.{Call}
use Rattle.its_plain.specs.declared.call.Call.TheVariants as call
use Rattle.its_plain.specs.declared.call.Cause.{Cause}
use Rattle.its_plain.specs.declared.call.Cause.TheVariants.{Disabled, NoDevice, NoEvent, NoCollection, LpisOff}
use Rattle.owned_parts.specs.declared.parts.Parts.{Parts}
use Rattle.cmd_exec.specs.InHand.{pend_changed, with_set, with_cleared}
use Rattle.owned_parts.specs.Owned.{state_of_parts}
use Rattle.owned_machine.specs.Whole.{IsMachine, GoesOn}
use Rattle.owned_machine.specs.Acks.{chosen, ack_at, left_at}
use Rattle.owned_machine.specs.declared.asked.Asked.{Asked}
use Rattle.owned_machine.specs.declared.asked.Asked.TheVariants as asked
use Rattle.owned_machine.proofs.Lists.{found_at, not_found}
use Rattle.owned_machine.proofs.Kept.{through, pend_goes}

-- ---- signals

passed : {B : Type 0} (P : B → Type 0) (test : Bool) (cause : Cause) (f : Unit {0} → Result B Cause) → (test ≡ true → IfOk (f tt) P)
    → IfOk (ensure test cause >>= f) P
passed P true cause f h = h refl
passed P false cause f h = tt

found : {A B : Type 0} (P : B → Type 0) (o : Option A) (cause : Cause) (f : A → Result B Cause) → ((x : A) → o ≡ Some x → IfOk (f x) P)
    → IfOk (ok_or o cause >>= f) P
found P None cause f h = tt
found P (Some x) cause f h = h x refl

-- a target is a virtual processor that there is, and an LPI
abbrev IsTarget : Shape → Target → Type 0
IsTarget s t = (t.vcpu.0 < s.vcpus) × (is_lpi s.lpi_bits t.intid.0 ≡ true)

goes_to : (s : Shape) (t : Translator) (dev ev : ℕ) → IsTranslator s t → IfOk (located t dev ev) (IsTarget s)
unfolding located
goes_to s t dev ev h =
    passed (IsTarget s) t.regs.enabled Disabled _ (λ on.
    found (IsTarget s) (device_of t.maps dev) NoDevice _ (λ device _.
    found (IsTarget s) (event_of t.maps dev ev) NoEvent _ (λ event is.
    found (IsTarget s) (collection_of t.maps event.icid.0) NoCollection _ (λ vcpu to.
    ((h.collections event.icid.0 vcpu to).target, (h.events dev ev event is).lpi)))))

pub target_is : (p : Parts) (i dev ev : ℕ) (t : Target) → IsMachine p → located (translator (state_of_parts p) i) dev ev ≡ Ok t
    → (t.vcpu.0 < p.layout.shape.vcpus) × (is_lpi p.layout.shape.lpi_bits t.intid.0 ≡ true)
unfolding located
target_is p i dev ev t m e =
    let ts = (state_of_parts p).translators in
    let s = p.layout.shape in
    elim (slice_get ts i) as (λ o. slice_get ts i ≡ o → IsTarget s t) [
      | None ↦ λ none.
          absurd (let is : located no_translator dev ev ≡ Ok t = ap (λ (x : Translator). located x dev ev) (sym (not_found ts i no_translator none)) ∙ e in cc)
      | Some x ↦ λ there.
          let is : located x dev ev ≡ Ok t = ap (λ (y : Translator). located y dev ev) (sym (found_at ts i x no_translator there)) ∙ e in
          subst (λ (r : Result Target Cause). IfOk r (IsTarget s)) is (goes_to s x dev ev (m.sound.translators i x there))
    ] refl

-- where it goes, if LPIs are on there
module _ (u : Plain) (i dev ev : ℕ) (t : Target) (e : located (translator u i) dev ev ≡ Ok t) where
  by_target : translated u i dev ev ≡ (ensure (is_on u t.vcpu.0) LpisOff >>= λ _. Ok t)
  unfolding translated
  by_target = ap (λ (r : Result Target Cause). r >>= λ (x : Target). ensure (is_on u x.vcpu.0) LpisOff >>= λ _. Ok x) e

  pub when_on : is_on u t.vcpu.0 ≡ true → Ok t ≡ translated u i dev ev
  when_on on = sym (by_target ∙ ap (λ (b : Bool). ensure b LpisOff >>= λ _. Ok t) on)

  pub when_off : is_on u t.vcpu.0 ≡ false → Err LpisOff ≡ translated u i dev ev
  when_off off = sym (by_target ∙ ap (λ (b : Bool). ensure b LpisOff >>= λ _. Ok t) off)

-- a translator that there isn't is disabled
pub none_located : (p : Parts) (i dev ev : ℕ) → slice_get (state_of_parts p).translators i ≡ None
    → Err Disabled ≡ located (translator (state_of_parts p) i) dev ev
unfolding located
none_located p i dev ev none =
    sym (ap (λ (x : Translator). located x dev ev) (not_found (state_of_parts p).translators i no_translator none))

pub signal_goes : (p : Parts) (its : ℕ) (dev : DeviceId) (ev : EventId) (t : Target) → IsMachine p → translated (state_of_parts p) its dev.0 ev.0 ≡ Ok t
    → GoesOn (record p { redists = pend_changed t.vcpu.0 (with_set t.intid.0) p.redists }) (lpi_set t.intid.0 t.vcpu.0 (state_of_parts p))
unfolding reply_of left
signal_goes p its dev ev t m e =
    let u = state_of_parts p in
    pend_goes p (call.Signal its dev ev) t.vcpu.0 (with_set t.intid.0) m (ap (λ (r : Result Target Cause). signal_left u (signal_reply r)) e)

-- ---- acknowledgements

acked : (r : Redistributor) (o : Option ℕ) (intid : Intid) (priority : ℕ) → ack_of r o ≡ ack.Some intid priority → o ≡ Some intid.0
acked r None intid priority e = absurd cc
acked r (Some x) intid priority e = cc

-- an LPI that was acknowledged by a call is no longer pending
acked_goes : (p : Parts) (c : Call) (vcpu : Vcpu) (a : Asked) (intid : Intid) (priority : ℕ) → IsMachine p
    → (answer (state_of_parts p) c).1 ≡ left_at (state_of_parts p) vcpu.0 a → ack_at (state_of_parts p) vcpu.0 a ≡ ack.Some intid priority
    → GoesOn (record p { redists = pend_changed vcpu.0 (with_cleared intid.0) p.redists }) (left_at (state_of_parts p) vcpu.0 a)
acked_goes p c vcpu a intid priority m left_is e =
    let u = state_of_parts p in let r = redistributor u vcpu.0 in
    let is : chosen r a ≡ Some intid.0 = acked r (chosen r a) intid priority e in
    let same : left_at u vcpu.0 a ≡ with_redistributor u vcpu.0 (through (with_cleared intid.0) r) = ap (λ (o : Option ℕ). with_redistributor u vcpu.0 (taken r o)) is in
    subst (GoesOn (record p { redists = pend_changed vcpu.0 (with_cleared intid.0) p.redists })) (sym same)
    (pend_goes p c vcpu.0 (with_cleared intid.0) m (left_is ∙ same))

pub take_goes : (p : Parts) (vcpu : Vcpu) (intid : Intid) (priority : ℕ) → IsMachine p → ack_at (state_of_parts p) vcpu.0 asked.Lowest ≡ ack.Some intid priority
    → GoesOn (record p { redists = pend_changed vcpu.0 (with_cleared intid.0) p.redists }) (left_at (state_of_parts p) vcpu.0 asked.Lowest)
unfolding left
take_goes p vcpu intid priority m e = acked_goes p (call.Take vcpu) vcpu asked.Lowest intid priority m refl e

pub claim_goes : (p : Parts) (vcpu : Vcpu) (which intid : Intid) (priority : ℕ) → IsMachine p
    → ack_at (state_of_parts p) vcpu.0 (asked.This which) ≡ ack.Some intid priority
    → GoesOn (record p { redists = pend_changed vcpu.0 (with_cleared intid.0) p.redists }) (left_at (state_of_parts p) vcpu.0 (asked.This which))
unfolding left
claim_goes p vcpu which intid priority m e = acked_goes p (call.Claim vcpu which) vcpu (asked.This which) intid priority m refl e
