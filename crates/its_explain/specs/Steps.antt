-- What a call changes of what the maps answer, and by which line.
use Rattle.std.specs.Prelude.{ℕ, Bool, not, ◌||◌, if◌then◌else◌, List, Option, None}
use Rattle.std.specs.Option.{option_map}
use Rattle.call_facts.specs.declared.answers.Key.{Key}
use Rattle.gits_regs.specs.Registers.{Registers, queue_place, is_queue_empty}
use Rattle.guest_windows.specs.Windows.{Window, read_at}
use Rattle.its_command.specs.Commands.{decoded}
use Rattle.its_command.specs.declared.command.Command.{Command}
use Rattle.its_plain.specs.Answer.{left, reply_of}
use Rattle.its_plain.specs.Plain.{Plain, regs_of}
use Rattle.its_plain.specs.declared.call.Call.{Call}
use Rattle.its_plain.specs.declared.call.Call.TheVariants as call
use Rattle.its_types.specs.declared.ids.Addr.{Addr}
use Rattle.its_explain.specs.Book.{line_by, is_among}
use Rattle.its_explain.specs.Watched.{maps_at, its_of, answers_in, changed_in}
use Rattle.its_explain.specs.declared.book.Book.{Book}
use Rattle.its_explain.specs.declared.facts.Taken.{Taken}

-- the command that a translator takes next, if it takes one (IHI 0069, section 5.3)
abbrev pub command_of : Registers → List Window → Option Command
command_of r memory = if not r.enabled || is_queue_empty r then None else option_map decoded (read_at memory (queue_place r) 32)

abbrev pub taken_of : Registers → ℕ → Command → Taken
taken_of r its c = record { its = its; addr = record { 0 = queue_place r }; command = c }

-- with where it stands
abbrev pub taken_at : Plain → ℕ → Option Taken
taken_at u its = option_map (taken_of (regs_of u its) its) (command_of (regs_of u its) u.memory)

-- the command that a call takes, if it is a step that takes one
abbrev pub taken_for : Plain → Call → Option Taken
taken_for u (call.Step its) = taken_at u its
taken_for u (call.WriteReg its off size value) = None
taken_for u (call.Signal its dev ev) = None
taken_for u (call.Take vcpu) = None
taken_for u (call.Show vcpu) = None
taken_for u (call.Best vcpu mask) = None
taken_for u (call.Claim vcpu intid) = None
taken_for u (call.Poke addr bytes) = None
taken_for u (call.Peek addr count) = None
taken_for u (call.ReadReg its off size) = None
taken_for u (call.ReadGicr vcpu off size) = None
taken_for u (call.WriteGicr vcpu off size value) = None
taken_for u call.Save = None
taken_for u call.Copy = None
taken_for u (call.Dma req addr bytes to) = None

abbrev pub command_in : Taken → Command
command_in t = t.command

abbrev pub place_in : Taken → Addr
place_in t = t.addr

-- the state after a call
abbrev pub after : Plain → Call → Plain
after u c = left u c (reply_of u c)

-- a call changes what the maps of a translator answer
abbrev pub changes : Plain → Call → ℕ → Key → Bool
changes u c = is_among (its_of c) (changed_in (maps_at (after u c) (its_of c)) (answers_in (maps_at u (its_of c)) c (option_map command_in (taken_for u c))))

-- the line by which it does
abbrev pub changing_line : Book → Plain → Call → ℕ → ℕ
changing_line b u c = line_by b (option_map place_in (taken_for u c))
