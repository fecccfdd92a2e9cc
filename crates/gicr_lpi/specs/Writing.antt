-- The outcome of a write of the LPI registers.
use Rattle.std.specs.Prelude.{◌≡◌, length, Result, Ok, Err}
use Rattle.its_types.specs.declared.machine.Placed.{Placed}
use Rattle.its_plain.specs.declared.call.Reply.TheVariants as reply
use Rattle.its_steps.specs.Parts.{Setup}
use Rattle.its_steps.specs.World.{View}
use Rattle.its_steps.specs.declared.change.ShardChange.TheVariants.{Keep}
use Rattle.its_turns.specs.Calls.{Stays, IsPlaced, Leaves, GotOnly}
use Rattle.its_turns.specs.declared.attempts.NotMade.{NotMade}
use Rattle.its_turns.specs.declared.attempts.NotMade.TheVariants as none
use Rattle.lpi_pending.specs.Rooms.{is_enable}
use Rattle.gicr_lpi.specs.Accesses.{IsOfWrite, WasAsked, write_call}
use Rattle.gicr_lpi.specs.declared.access.GicrAccess.{GicrAccess}

-- tried again and again until it was made. Memory can only run out where the write asked to turn LPIs on
abbrev pub Writes : Setup → GicrAccess → View → View → Result (Placed (Unit {0})) NotMade → Type 0
Writes s a v w (Ok x) = IsPlaced v (write_call a) reply.Ok x.place w × Leaves Keep w × GotOnly (IsOfWrite s a) v w
Writes s a v w (Err none.Spent) = Stays v w × (length w.seen ≡ v.setup.limits.place_last) × GotOnly (IsOfWrite s a) v w
Writes s a v w (Err none.NoMemory) = Stays v w × GotOnly (IsOfWrite s a) v w × WasAsked s a is_enable
