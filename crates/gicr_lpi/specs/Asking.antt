-- The last steps of a call that has the parts that it needs, and leaves the stamp and the shards as they were.
use Rattle.std.specs.Prelude.{◌≡◌, [], Result, Ok, Err}
use Rattle.its_types.specs.declared.machine.Placed.{Placed}
use Rattle.its_types.specs.declared.machine.Word.{Word}
use Rattle.its_plain.specs.declared.call.Call.{Call}
use Rattle.its_plain.specs.declared.call.Reply.{Reply}
use Rattle.its_steps.specs.Calls.{staying}
use Rattle.its_steps.specs.World.{View}
use Rattle.its_steps.specs.declared.change.ShardChange.TheVariants.{Keep}
use Rattle.its_turns.specs.Calls.{Makes, IsLost}
use Rattle.its_turns.specs.declared.attempts.Lost.{Lost}
use Rattle.held_parts.specs.Taking.{holding}

-- the parts were in hand: it was made at a word or not, and all of them were put back
abbrev pub Ends : {T : Type 0} → View → Call → (T → Reply) → View → Result (Placed T) Lost → Type 0
Ends v call reply w (Ok x) = (word : Word) × (made : View) × (x.place ≡ word.place) × Makes v (staying word call (reply x.reply) Keep) made
    × (w ≡ holding made [])
Ends v call reply w (Err l) = (left : View) × IsLost v l left × (w ≡ holding left [])
