-- The outcome of the last steps of a signal by the maps: from the commit on.
use Rattle.std.specs.Prelude.{◌≡◌, []}
use Rattle.its_types.specs.declared.machine.Word.{Word}
use Rattle.its_plain.specs.declared.call.Call.{Call}
use Rattle.its_plain.specs.declared.call.Reply.TheVariants as reply
use Rattle.its_plain.specs.declared.call.Signal.{Signal}
use Rattle.its_steps.specs.Calls.{staying}
use Rattle.its_steps.specs.World.{View}
use Rattle.its_steps.specs.declared.change.ShardChange.{ShardChange}
use Rattle.its_turns.specs.Calls.{Makes, IsLost}
use Rattle.its_turns.specs.declared.attempts.Attempt.{Attempt}
use Rattle.its_turns.specs.declared.attempts.Attempt.TheVariants as attempt
use Rattle.its_turns.specs.declared.attempts.Lost.{Lost}
use Rattle.its_turns.specs.declared.attempts.Lost.TheVariants as lost

-- it was made at this word, and all parts were put back
pub record MadeAt (y : View) (c : Call) (s : Signal) (change : ShardChange) (w : Word) (x : View) : Type 0 where
  pub made : View
  pub makes : Makes y (staying w c (reply.Signal s) change) made
  pub home : x ≡ record made { held = [] }

-- it was not made, and all parts were put back
pub record LostFor (y : View) (l : Lost) (x : View) : Type 0 where
  pub left : View
  pub loses : IsLost y l left
  pub home : x ≡ record left { held = [] }

abbrev pub Finishes : View → Call → Signal → ShardChange → View → Attempt Signal → Type 0
Finishes y c s change x (attempt.Done p) = (p.reply ≡ s) × ((w : Word) × (p.place ≡ w.place) × MadeAt y c s change w x)
Finishes y c s change x (attempt.Busy b) = ⊥
Finishes y c s change x (attempt.Raced r) = LostFor y (lost.Raced r) x
Finishes y c s change x attempt.Spent = LostFor y lost.Spent x
