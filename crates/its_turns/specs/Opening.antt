-- The words and slots that a machine begins with.
use Rattle.std.specs.Prelude.{◌≡◌, ℕ, ◌+◌, ◌*◌, List, [], ◌∷◌, ◌++◌, map, replicate, None, false}
use Rattle.std.specs.List.{AllByRecursion}
use mathlib.Core.Option.{some}
use Rattle.its_plain.specs.Plain.{Translator}
use Rattle.its_plain.specs.declared.desc.Desc.{Desc}
use Rattle.its_plain.specs.declared.desc.Its.{Its}
use Rattle.owned_parts.specs.Owned.{state_of_parts}
use Rattle.owned_parts.specs.declared.parts.Parts.{Parts}
use Rattle.its_steps.specs.Contents.{Maps}
use Rattle.its_steps.specs.Parts.{Setup}
use Rattle.its_steps.specs.World.{first_slots}
use Rattle.its_turns.specs.Contents.{content_of, IsFit}
use Rattle.its_turns.specs.declared.value.Value.{Value}
use Rattle.its_turns.specs.declared.value.Value.TheVariants.{Vacant}

-- what a description and parts make
abbrev pub setup_from : Desc → Parts → Setup
setup_from d p = record { start = state_of_parts p; limits = d.limits; shards = d.shards }

-- what a translator was restored with is done with
abbrev pub kept_its : Its → Its
kept_its t = record t { restore = None }

-- what a machine keeps of its description: what bytes were put into memory, and what it was restored with, is done with
abbrev pub kept_of : Desc → Desc
kept_of d = record d { fills = []; translators = map kept_its d.translators; from_kvm = false }

-- the values of translators, in their order
pub record AreMaps (translators : List Translator) (values : List Value) : Type 0 where
  pub contents : map content_of values ≡ map (λ t. some (Maps t)) translators
  pub fit : (s : Setup) → AllByRecursion (IsFit s) values

-- the values of all parts, in the order of their numbers
pub record AreFirst (s : Setup) (values : List Value) : Type 0 where
  pub contents : map content_of values ≡ first_slots s
  pub fit : AllByRecursion (IsFit s) values

-- each value with seven empty slots after it
abbrev pub apart : List Value → List Value
apart [] = []
apart (x ∷ xs) = x ∷ (replicate 7 Vacant ++ apart xs)

-- the values of all parts, each with its empty slots
abbrev pub AreSlots : Setup → List Value → Type 0
AreSlots s slots = (values : List Value) × AreFirst s values × (slots ≡ apart values)

abbrev pub first_words : ℕ → List ℕ
first_words parts = replicate (16 * (parts + 1)) 0
