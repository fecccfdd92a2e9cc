-- The outcome of a signal by the maps.
use Rattle.std.specs.Prelude.{◌≡◌, List}
use Rattle.std.specs.List.{AllByRecursion}
use Rattle.its_types.specs.declared.machine.Part.{Part}
use Rattle.its_types.specs.declared.machine.Part.TheVariants as part
use Rattle.its_plain.specs.declared.call.Call.{Call}
use Rattle.its_plain.specs.declared.call.Reply.TheVariants as reply
use Rattle.its_plain.specs.declared.call.Signal.{Signal}
use Rattle.its_steps.specs.World.{View}
use Rattle.its_turns.specs.Calls.{IsPlaced, got_all, WasBusy, WasRaced, WasSpent}
use Rattle.its_turns.specs.declared.attempts.Attempt.{Attempt}
use Rattle.its_turns.specs.declared.attempts.Attempt.TheVariants as attempt
use Rattle.device_port.specs.Signals.{IsOfSignal, Among, KeepsEarly, Sent}
use Rattle.device_port.specs.declared.message.Message.{Message}

-- when the maps were got, this was what had been looked at, and the word read
pub record EarlyIs (v x : View) : Type 0 where
  pub early : x.cache.early ≡ v.cache.looked
  pub word : x.cache.early_word ≡ v.last

-- such turns were got, the last one first
pub record MapsGot (v : View) (m : Message) (got : List Part) (x : View) : Type 0 where
  pub only : AllByRecursion (IsOfSignal v.setup m) got
  pub early : Among (part.Maps m.its) got → EarlyIs v x
  pub kept : ¬ Among (part.Maps m.its) got → KeepsEarly v x

abbrev pub AsksMaps : View → Call → Message → View → Attempt Signal → Type 0
AsksMaps v c m x (attempt.Done p) = (got : List Part) × MapsGot v m got x × IsPlaced v c (reply.Signal p.reply) p.place x
    × Sent m p.reply x × (x.tries ≡ got_all got v.tries)
AsksMaps v c m x (attempt.Busy b) = (got : List Part) × MapsGot v m got x × WasBusy v got b x × IsOfSignal v.setup m b.part
    × (x.seen ≡ v.seen)
AsksMaps v c m x (attempt.Raced r) = (got : List Part) × MapsGot v m got x × WasRaced v got r x
AsksMaps v c m x attempt.Spent = (got : List Part) × MapsGot v m got x × WasSpent v got x
