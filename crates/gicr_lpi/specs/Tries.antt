-- The outcome of a write of the LPI registers that waits for nobody.
use Rattle.std.specs.Prelude.{◌≡◌, List}
use Rattle.std.specs.List.{AllByRecursion}
use Rattle.its_types.specs.declared.machine.Part.{Part}
use Rattle.its_plain.specs.declared.call.Call.{Call}
use Rattle.its_plain.specs.declared.call.Reply.{Reply}
use Rattle.its_steps.specs.Parts.{Setup}
use Rattle.its_steps.specs.World.{View}
use Rattle.its_steps.specs.declared.change.ShardChange.TheVariants.{Keep}
use Rattle.its_turns.specs.Calls.{IsPlaced, Leaves, got_all, WasBusy, WasRaced, WasSpent, GaveUp, GoesOn}
use Rattle.its_turns.specs.declared.attempts.Attempt.{Attempt}
use Rattle.its_turns.specs.declared.attempts.Attempt.TheVariants as attempt
use Rattle.its_turns.specs.declared.turns.Busy.{Busy}
use Rattle.lpi_pending.specs.Rooms.{is_enable}
use Rattle.gicr_lpi.specs.Accesses.{IsOfWrite, WasAsked}
use Rattle.gicr_lpi.specs.declared.access.GicrAccess.{GicrAccess}

-- such turns were got, the last one first, and none was lost; no call was made
pub record GotAtOnce (P : Part → Type 0) (v w : View) : Type 0 where
  pub got : List Part
  pub only : AllByRecursion P got
  pub on : GoesOn v (got_all got v.tries) w

-- such turns had been got when one more was another pass's, so another is out. They were given back, and nothing else was done
pub record FoundTaken (P : Part → Type 0) (v : View) (b : Busy) (w : View) : Type 0 where
  pub got : List Part
  pub only : AllByRecursion P got
  pub part : P b.part
  pub busy : WasBusy v got b w

-- ---- a call that needs such parts, and tries their turns

abbrev pub TriesParts : {T : Type 0} → (Part → Type 0) → View → Call → (T → Reply) → View → Attempt T → Type 0
TriesParts P v call reply w (attempt.Done x) = (got : List Part) × AllByRecursion P got × IsPlaced v call (reply x.reply) x.place w × Leaves Keep w
    × (w.tries ≡ got_all got v.tries)
TriesParts P v call reply w (attempt.Busy b) = FoundTaken P v b w
TriesParts P v call reply w (attempt.Raced r) = (got : List Part) × AllByRecursion P got × WasRaced v got r w
TriesParts P v call reply w attempt.Spent = (got : List Part) × AllByRecursion P got × WasSpent v got w

-- There was no memory for the write, which can only be where it asked to turn LPIs on. What had been got was given back
pub record FoundNoMemory (s : Setup) (a : GicrAccess) (v w : View) : Type 0 where
  pub got : List Part
  pub only : AllByRecursion (IsOfWrite s a) got
  pub up : GaveUp v got w
  pub asked : WasAsked s a is_enable
