-- How a step through a pass keeps to the limits of what is mapped.
use Rattle.std.specs.Prelude.{◌≡◌, ℕ, true, false, List, [], ◌∷◌, ◌++◌}
use Rattle.its_plain.specs.History.{after}
use Rattle.its_plain.specs.Plain.{Plain}
use Rattle.its_plain.specs.declared.call.Entry.{Entry}
use Rattle.its_numbers.specs.Codes as codes
use Rattle.its_numbers.specs.Limits.{is_full}
use Rattle.its_numbers.specs.declared.limits.GuestLimits.{GuestLimits}
use Rattle.its_shared.specs.Knowing.{Known}
use Rattle.its_shared.specs.declared.answer.Answer.{Answer}
use Rattle.its_shared.specs.declared.answer.Answer.TheVariants.{Made, Full}

-- the state before the last call that was seen is not full for it, where it is a step of a translator
abbrev pub HadRoom : GuestLimits → ℕ → Plain → List Entry → Type 0
HadRoom l its start seen = (before : List Entry) (last : Entry) → seen ≡ before ++ last ∷ [] → is_full l (after start before) its ≡ false

-- a step that was made had room; one that is full would have had none in the state that was seen
abbrev pub KeepsWithin : {T : Type 0} → GuestLimits → ℕ → Plain → List Entry → Answer T → Type 0
KeepsWithin l its start seen (Made p) = HadRoom l its start seen
KeepsWithin l its start seen Full = is_full l (after start seen) its ≡ true
KeepsWithin l its start seen other = Unit {0}

-- as a caller in another language is told it
pub record StepsWithin (its : ℕ) (k l : Known) (code : ℕ) : Type 0 where
  pub made : code ≡ codes.done → HadRoom k.limits its k.view.setup.start l.view.seen
  pub full : code ≡ codes.full → is_full k.limits (after k.view.setup.start l.view.seen) its ≡ true
