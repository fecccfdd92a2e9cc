-- What a call of a pass that waits for nobody says of its pass.
use Rattle.std.specs.Prelude.{◌≡◌, ◌⊎◌, ℕ, length, Result, Ok, Err}
use Rattle.its_plain.specs.History.{after}
use Rattle.its_plain.specs.declared.call.Call.{Call}
use Rattle.its_plain.specs.declared.call.Call.TheVariants as call
use Rattle.its_plain.specs.declared.call.Reply.{Reply}
use Rattle.its_plain.specs.declared.call.Reply.TheVariants as replies
use Rattle.its_plain.specs.declared.call.Route.TheVariants as route
use Rattle.its_steps.specs.Parts.{stamp_of}
use Rattle.its_steps.specs.World.{View}
use Rattle.its_turns.specs.Calls.{Stays, IsPlaced}
use Rattle.its_turns.specs.Told.{IsLone}
use Rattle.its_turns.specs.declared.attempts.Attempt.{Attempt}
use Rattle.its_turns.specs.declared.attempts.Attempt.TheVariants as attempt
use Rattle.cmd_engine.specs.Telling.{WantsMemory}
use Rattle.cmd_engine.specs.declared.tried.Tried.{Tried}
use Rattle.cmd_engine.specs.declared.tried.Tried.TheVariants as tried
use Rattle.gicr_lpi.specs.Accesses.{WasAsked, access}
use Rattle.guest_port.specs.declared.pages.Unheld.{Unheld}
use Rattle.guest_port.specs.declared.pages.Unheld.TheVariants as unheld
use Rattle.its_migrate.specs.declared.rule.Unsaved.{Unsaved}
use Rattle.its_migrate.specs.declared.rule.Unsaved.TheVariants as unsaved
use Rattle.lpi_pending.specs.Rooms.{is_enable}
use Rattle.std.specs.declared.alloc.AllocError.{AllocError}
use Rattle.its_shared.specs.declared.answer.Answer.{Answer}
use Rattle.its_shared.specs.declared.answer.Answer.TheVariants.{Made, Busy, Spent, NoMemory, Full}

-- ---- from what a port says

-- of an attempt
abbrev pub answer_of : {T : Type 0} → Attempt T → Answer T
answer_of (attempt.Done p) = Made p
answer_of (attempt.Busy b) = Busy
answer_of (attempt.Raced r) = Busy
answer_of attempt.Spent = Spent

-- of one for which there may have been no memory
abbrev pub answer_or_none : {T : Type 0} → Result (Attempt T) AllocError → Answer T
answer_or_none (Ok a) = answer_of a
answer_or_none (Err e) = NoMemory

-- of one whose pages may not be held
abbrev pub answer_or_unheld : {T : Type 0} → Result (Attempt T) Unheld → Answer T
answer_or_unheld (Ok a) = answer_of a
answer_or_unheld (Err unheld.NoMemory) = NoMemory
answer_or_unheld (Err unheld.Full) = Full

-- of a save whose pages may not be held
abbrev pub answer_or_unsaved : {T : Type 0} → Result (Attempt T) Unsaved → Answer T
answer_or_unsaved (Ok a) = answer_of a
answer_or_unsaved (Err unsaved.NoMemory) = NoMemory
answer_or_unsaved (Err unsaved.Full) = Full

-- of a step, or of a write of the translator's registers
abbrev pub answer_of_tried : {T : Type 0} → Tried T → Answer T
answer_of_tried (tried.Done p) = Made p
answer_of_tried (tried.Busy b) = Busy
answer_of_tried (tried.Raced r) = Busy
answer_of_tried tried.Late = Busy
answer_of_tried tried.Spent = Spent
answer_of_tried tried.NoMemory = NoMemory
answer_of_tried tried.Full = Full

-- ---- what it says

-- a call that ends all translations found that the translator's stamp is the last one, so that its next try takes every shard
abbrev pub IsLate : Call → View → View → Type 0
IsLate (call.Step its) v w = stamp_of v.setup w.last its ≡ v.setup.limits.stamp_last
IsLate (call.WriteReg its off size value) v w = stamp_of v.setup w.last its ≡ v.setup.limits.stamp_last
IsLate other v w = ⊥

-- which calls take memory of the host: a step that adds a device, an event or a collection, a write of guest memory, one that turns
-- LPIs on, and a save
abbrev pub Wants : Call → View → View → Type 0
Wants (call.Step its) v w = WantsMemory (after v.setup.start w.seen) its
Wants (call.WriteGicr vcpu off size value) v w = WasAsked v.setup (access vcpu off size value) is_enable
Wants (call.Poke addr bytes) v w = Unit {0}
Wants (call.Dma req addr bytes to) v w = to ≡ route.Poke
Wants call.Save v w = Unit {0}
Wants other v w = ⊥

-- which calls are held to a limit: a step, a write of guest memory, and a save
abbrev pub HasLimit : Call → Type 0
HasLimit (call.Step its) = Unit {0}
HasLimit (call.Poke addr bytes) = Unit {0}
HasLimit (call.Dma req addr bytes to) = to ≡ route.Poke
HasLimit call.Save = Unit {0}
HasLimit other = ⊥

-- Where a call was made, one entry came into the history of the machine: its own, at its place, with its reply, after all that the
-- pass had seen, and the history up to it is legal. Else none of the pass's came, and the pass is as it was, but that it may have
-- seen more and tried turns. A call is busy only where another pass is out, or where it is late; spent only where the history is
-- full; and wants memory, or has a limit, only where its kind says so
abbrev pub Answers : {T : Type 0} → Call → (T → Reply) → View → View → Answer T → Type 0
Answers c reply v w (Made p) = IsPlaced v c (reply p.reply) p.place w
Answers c reply v w Busy = Stays v w × ((¬ IsLone v) ⊎ IsLate c v w)
Answers c reply v w Spent = Stays v w × (length w.seen ≡ v.setup.limits.place_last)
Answers c reply v w NoMemory = Stays v w × Wants c v w
Answers c reply v w Full = Stays v w × HasLimit c

-- bytes that were read are so many
abbrev pub IsLong : ℕ → Reply → Type 0
IsLong n (replies.Bytes bytes) = length bytes ≡ n
IsLong n other = Unit {0}

abbrev pub HasCount : ℕ → Answer Reply → Type 0
HasCount n (Made p) = IsLong n p.reply
HasCount n other = Unit {0}
