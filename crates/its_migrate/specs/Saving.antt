-- The outcome of a save that is made while other passes go on.
use Rattle.std.specs.Prelude.{◌≡◌, length, Box, List, Option, Result, Ok, Err}
use Rattle.std.specs.Option.{option_map}
use Rattle.dirty_log.specs.declared.tracked.Tracked.{Tracked}
use Rattle.guest_windows.specs.Windows.{Window}
use Rattle.guest_windows.specs.Drafts.{Laid, laid}
use Rattle.its_types.specs.declared.machine.Placed.{Placed}
use Rattle.its_types.specs.declared.machine.Word.{Word}
use Rattle.its_plain.specs.Answer.{save_reply}
use Rattle.its_plain.specs.Plain.{Plain, Translator}
use Rattle.owned_parts.specs.Owned.{translators_of}
use Rattle.owned_parts.specs.declared.parts.Translator.{Translator as InHand}
use Rattle.std.specs.Global.{Global}
use Rattle.its_plain.specs.Regions.{savable}
use Rattle.its_plain.specs.Saved.{saved, words_of, wrote_tables}
use Rattle.its_plain.specs.declared.call.Call.TheVariants as call
use Rattle.its_plain.specs.declared.call.Reply.{Reply}
use Rattle.its_plain.specs.declared.fault.SaveFault.{SaveFault}
use Rattle.its_steps.specs.Calls.{staying}
use Rattle.its_steps.specs.World.{View}
use Rattle.its_steps.specs.declared.change.ShardChange.TheVariants.{Keep}
use Rattle.its_turns.specs.Calls.{Stays, IsPlaced, Leaves, GoesOn, Makes, IsLost}
use Rattle.its_turns.specs.declared.attempts.Lost.TheVariants as lost
use Rattle.its_turns.specs.declared.attempts.NotMade.{NotMade}
use Rattle.its_turns.specs.declared.attempts.NotMade.TheVariants as none
use Rattle.its_turns.specs.declared.attempts.Spent.{Spent}

-- ---- what is left

-- the pages that guest memory has once a save is made, where the state can be saved, or why it can't be
abbrev pub LeavesMemory : Plain → Result (List Laid) SaveFault → Type 0
LeavesMemory u (Ok pages) = (savable u ≡ Ok tt) × (laid pages u.memory ≡ saved u)
LeavesMemory u (Err fault) = savable u ≡ Err fault

-- what the save answers
abbrev pub answered : Result (List Laid) SaveFault → Result (Unit {0}) SaveFault
answered (Ok pages) = Ok tt
answered (Err fault) = Err fault

-- memory with those pages, or else as it was
abbrev pub memory_or : List Window → Result (List Laid) SaveFault → List Window
memory_or old (Ok pages) = laid pages old
memory_or old (Err fault) = old

-- the translators that are held
abbrev pub translators_held : InHand → Option (Box InHand Global) → List Translator
translators_held first second = translators_of first (option_map (λ b. b.value) second)

-- the second memory, if there is one, once the pages of the tables are dirty
abbrev pub marked : Plain → Option Tracked
marked u = option_map (wrote_tables (words_of u)) u.track

-- they are where the tables were saved
abbrev pub track_or : Plain → Result (List Laid) SaveFault → Option Tracked
track_or u (Ok pages) = marked u
track_or u (Err fault) = u.track

-- ---- what is answered

-- no call was made, since all places are used
pub record FoundSpent (v w : View) : Type 0 where
  pub stays : Stays v w
  pub spent : length w.seen ≡ v.setup.limits.place_last

-- one call of the history, which writes no cache; or none, and nothing was written
abbrev pub IsSaved : View → Result (Placed (Result (Unit {0}) SaveFault)) NotMade → View → Type 0
IsSaved v (Ok x) w = IsPlaced v call.Save (save_reply x.reply) x.place w × Leaves Keep w
IsSaved v (Err none.Spent) w = FoundSpent v w
IsSaved v (Err none.NoMemory) w = Stays v w

-- ---- the commit

-- the word was read, maybe many times, and all that is held is held still
pub record Waits (v w : View) : Type 0 where
  pub on : GoesOn v v.tries w
  pub held : w.held ≡ v.held

-- then the call was made, or all places are used
abbrev pub Commits : View → Reply → Result Word Spent → View → Type 0
Commits v reply (Ok word) w = (mid : View) × Waits v mid × Makes mid (staying word call.Save reply Keep) w
Commits v reply (Err spent) w = (mid : View) × Waits v mid × IsLost mid lost.Spent w
