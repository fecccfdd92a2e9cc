-- A step that keeps to the rule of the limits has room, or is full.
use Rattle.std.proofs.Common.{◌≡◌, ℕ, Bool, true, false, not, ◌&&◌, ◌||◌, List, Option, Some, None, refl, ap, sym, ◌∙◌, subst}
use Rattle.std.specs.Prelude.{is_ok}
use Rattle.its_command.specs.Commands.{decoded}
use Rattle.its_plain.specs.Answer.{is_idle, next_bytes}
use Rattle.its_plain.specs.Commands.{ran}
use Rattle.its_plain.specs.History.{after}
use Rattle.its_plain.specs.Plain.{Plain, maps_of}
use Rattle.its_plain.specs.declared.call.Entry.{Entry}
use Rattle.cmd_engine.specs.Rules.{KeepsTried, is_forbidden, met_forbidden}
use Rattle.cmd_engine.specs.declared.tried.Tried.{Tried}
use Rattle.cmd_engine.specs.declared.tried.Tried.TheVariants as tried
use Rattle.its_numbers.specs.Codes as codes
use Rattle.its_numbers.specs.Limits.{is_at, is_full, forbids}
use Rattle.its_numbers.specs.declared.limits.GuestLimits.{GuestLimits}
use Rattle.step_views.specs.Counts.{device_count, event_count, step_adds, met_adds, maps_event, maps_device}
use Rattle.step_views.specs.declared.counts.Addition.TheVariants.{NewDevice, NewEvent}
use Rattle.its_shared.specs.Answers.{answer_of_tried}
use Rattle.its_shared.specs.Knowing.{Known}
use Rattle.its_shared.specs.Limits.{HadRoom, KeepsWithin, StepsWithin}
use Rattle.its_shared.specs.Telling.{code_of, is_done}
use Rattle.its_shared.specs.declared.answer.Answer.{Answer}
use Rattle.its_shared.specs.declared.answer.Answer.TheVariants.{Made, Busy, Spent, NoMemory, Full}

-- ---- in a state

no_or : (e d : Bool) → ((e && false) || (d && false)) ≡ false
no_or false false = refl
no_or false true = refl
no_or true false = refl
no_or true true = refl

-- what both sides have in common comes first
shared : (e d a m n : Bool) → (a && ((e && m) || (d && n))) ≡ ((e && (a && m)) || (d && (a && n)))
shared e d true m n = refl
shared e d false m n = sym (no_or e d)

module _ (l : GuestLimits) (u : Plain) (its : ℕ) where
  abbrev e : Bool
  e = is_at l.events (event_count u its)

  abbrev d : Bool
  d = is_at l.devices (device_count u its)

  met : (bytes : Option (List ℕ)) → met_forbidden (λ m c. forbids l m c) u its bytes ≡ ((e && met_adds NewEvent u its bytes) || (d && met_adds NewDevice u its bytes))
  unfolding forbids
  met None = sym (no_or e d)
  met (Some bytes) = shared e d (is_ok (ran u its (decoded bytes))) (maps_event (maps_of u its) (decoded bytes)) (maps_device (maps_of u its) (decoded bytes))

  pub full_is : is_forbidden (λ m c. forbids l m c) u its ≡ is_full l u its
  unfolding is_forbidden is_full step_adds
  full_is = ap (λ (b : Bool). not (is_idle u its) && b) (met (next_bytes u its))
      ∙ shared e d (not (is_idle u its)) (met_adds NewEvent u its (next_bytes u its)) (met_adds NewDevice u its (next_bytes u its))

-- ---- of a try

pub keeps_within : {T : Type 0} (l : GuestLimits) (its : ℕ) (start : Plain) (seen : List Entry) (t : Tried T) → KeepsTried (λ m c. forbids l m c) start its seen t
    → KeepsWithin l its start seen (answer_of_tried t)
keeps_within l its start seen (tried.Done p) keeps = λ before last is. sym (full_is l (after start before) its) ∙ keeps before last is
keeps_within l its start seen (tried.Busy b) keeps = tt
keeps_within l its start seen (tried.Raced r) keeps = tt
keeps_within l its start seen tried.Late keeps = tt
keeps_within l its start seen tried.Spent keeps = tt
keeps_within l its start seen tried.NoMemory keeps = tt
keeps_within l its start seen tried.Full keeps = sym (full_is l (after start seen) its) ∙ keeps

-- ---- as a number

abbrev TellsSo : GuestLimits → ℕ → Plain → List Entry → ℕ → Type 0
TellsSo l its start seen code = (code ≡ codes.done → HadRoom l its start seen) × (code ≡ codes.full → is_full l (after start seen) its ≡ true)

tells_so : {T : Type 0} (l : GuestLimits) (its : ℕ) (start : Plain) (seen : List Entry) (a : Answer T) → KeepsWithin l its start seen a
    → TellsSo l its start seen (code_of is_done a)
tells_so l its start seen (Made p) keeps = (λ same. keeps, λ same. absurd cc)
tells_so l its start seen Busy keeps = (λ same. absurd cc, λ same. absurd cc)
tells_so l its start seen Spent keeps = (λ same. absurd cc, λ same. absurd cc)
tells_so l its start seen NoMemory keeps = (λ same. absurd cc, λ same. absurd cc)
tells_so l its start seen Full keeps = (λ same. absurd cc, λ same. keeps)

pub steps_within : {T : Type 0} (its : ℕ) (k l : Known) (code : ℕ) (a : Answer T) → code ≡ code_of is_done a
    → KeepsWithin k.limits its k.view.setup.start l.view.seen a → StepsWithin its k l code
steps_within its k l code a is keeps =
    let so : TellsSo k.limits its k.view.setup.start l.view.seen code = subst (TellsSo k.limits its k.view.setup.start l.view.seen) (sym is)
    (tells_so k.limits its k.view.setup.start l.view.seen a keeps) in
    record { made = so.0; full = so.1 }
