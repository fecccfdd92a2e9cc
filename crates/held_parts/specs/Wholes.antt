-- All parts of a machine but shards, in the hands of one pass.
use Rattle.std.specs.Prelude.{◌≡◌, ◌≤◌, ℕ, List, [], ◌∷◌, length, Option, Some, None}
use Rattle.std.specs.Option.{option_map}
use mathlib.Core.List.{IsPrefix}
use Rattle.its_types.specs.declared.machine.Part.{Part}
use Rattle.its_types.specs.declared.machine.Part.TheVariants as part
use Rattle.its_plain.specs.History.{after}
use Rattle.its_plain.specs.Plain.{Plain, Translator}
use Rattle.its_plain.specs.declared.layout.Layout.{Layout}
use Rattle.lpi_pending.specs.InHand.{RedistParts}
use Rattle.owned_parts.specs.Owned.{AreAllInHand, translator_of, translators_of, state_of}
use Rattle.owned_parts.specs.Places.{AreNotInHand}
use Rattle.owned_parts.specs.declared.parts.Translator.{Translator as InHand}
use Rattle.its_steps.specs.Contents.{Maps, Mem, Held}
use Rattle.its_steps.specs.Parts.{Setup, IsOfMachine, translator_count, vcpu_count}
use Rattle.its_steps.specs.World.{View, out}
use Rattle.its_turns.specs.Calls.{GotOnly}
use Rattle.its_turns.specs.Told.{IsLone}
use Rattle.held_parts.specs.Redists.{confs_held, pends_held}
use Rattle.held_parts.specs.Taking.{LostNone}
use Rattle.held_parts.specs.declared.whole.Whole.{Whole}

-- ---- what they stand for

abbrev pub second_of : Whole → Option InHand
second_of x = option_map (λ b. b.value) x.second

abbrev pub translators_in : Whole → List Translator
translators_in x = translators_of x.first.value (second_of x)

abbrev pub redists_in : Whole → RedistParts
redists_in x = x.memory.value.redists

-- the state that they are the parts of
abbrev pub state_of_whole : Layout → Whole → Plain
state_of_whole l x = state_of l (translators_in x) x.memory.value.memory x.memory.value.track (redists_in x)

-- these are all that a machine has: its translators, and both parts of the redistributors of its virtual processors
pub record IsWholeOf (s : Setup) (x : Whole) : Type 0 where
  pub translators : length (translators_in x) ≡ translator_count s
  pub all_in_hand : AreAllInHand s.start.layout.shape (redists_in x)
  pub no_others : (vcpu : ℕ) → vcpu_count s ≤ vcpu → AreNotInHand (redists_in x) vcpu
  -- with a place for each
  pub conf_room : length (redists_in x).confs ≡ vcpu_count s
  pub pend_room : length (redists_in x).pends ≡ vcpu_count s

-- ---- as they are held

abbrev pub maps_held : ℕ → InHand → Held
maps_held its t = out (part.Maps its) (Maps (translator_of t))

-- the second translator's maps before other parts, if there are any
abbrev pub second_held : Option InHand → List Held → List Held
second_held None others = others
second_held (Some t) others = maps_held 1 t ∷ others

-- each was got after the one that follows it here
abbrev pub held_whole : Setup → Whole → List Held
held_whole s x = pends_held (redists_in x) (vcpu_count s) (confs_held (redists_in x) (vcpu_count s)
    (out part.Mem (Mem x.memory.value.memory x.memory.value.track) ∷ second_held (second_of x) (maps_held 0 x.first.value ∷ [])))

-- it is not a shard
abbrev pub IsNoShard : Part → Type 0
IsNoShard (part.Shard its number) = ⊥
IsNoShard p = Unit {0}

-- All of them were taken, and then the word was read: they are the parts of the state that the history leaves which was seen.
-- Alone nothing was added to that, and no try was lost
pub record TakesWhole (s : Setup) (v : View) (x : Whole) (w : View) : Type 0 where
  pub same : w ≡ record v { seen = w.seen; last = w.last; held = held_whole s x; cache = w.cache; tries = w.tries }
  pub longer : IsPrefix v.seen w.seen
  pub got : GotOnly IsNoShard v w
  pub still : IsLone v → (w.seen ≡ v.seen) × (w.last ≡ v.last)
  pub alone : IsLone v → LostNone v w
  pub machine : IsOfMachine s (after s.start w.seen)
  pub whole : IsWholeOf s x
  pub state : state_of_whole s.start.layout x ≡ after s.start w.seen
