-- The script of N signals from each of T threads: one thread maps T devices; then each of T threads signals the events of its
-- device in turn while one more moves events to another collection; then the machine migrates.
use Rattle.std.specs.Prelude.{ℕ, ◌+◌, ◌*◌, ◌/◌, ◌%◌, List, [], ◌∷◌, ◌++◌, map}
use Rattle.std.specs.List.{range_with_len}
use Rattle.its_command.specs.Commands.{encoded}
use Rattle.its_command.specs.declared.command.Command.{Command}
use Rattle.its_plain.specs.declared.call.Call.{Call}
use Rattle.its_plain.specs.declared.call.Call.TheVariants.{Signal, Poke, WriteReg, Step}
use Rattle.its_plain.specs.Runs.{Thread, Phase, Leg}
use Rattle.event_script.specs.declared.script.Move.TheVariants.{Migrate}
use Rattle.event_script.specs.declared.script.Script.{Script}
use Rattle.script_gen.specs.Description.{description, at}
use Rattle.script_gen.specs.Commands.{setup_commands, move_commands}

-- ---- commands

-- where the k-th command stands in the queue, which has 128 places
abbrev pub offset_of : ℕ → ℕ
offset_of k = 32 * (k % 128)

abbrev pub queue : ℕ
queue = 0x80020000

-- a write of all of a register
abbrev pub write_call : ℕ → ℕ → Call
write_call off value = WriteReg 0 off 8 value

-- the k-th command is written to the queue, announced by GITS_CWRITER, and taken
abbrev pub command_calls : ℕ → Command → List Call
command_calls k c = Poke (at (queue + offset_of k)) (encoded c) ∷ write_call 0x88 (offset_of (k + 1)) ∷ Step 0 ∷ []

-- commands one after another, of which the first is the k-th
abbrev pub queued : ℕ → List Command → List Call
queued k [] = []
queued k (c ∷ cs) = command_calls k c ++ queued (k + 1) cs

-- ---- threads

-- GITS_BASER0, GITS_BASER1, GITS_CBASER and GITS_CTLR: flat tables of one page each, a queue of 4 KiB, enabled
abbrev pub register_writes : List Call
register_writes =
    write_call 0x100 0x8107000080000200 ∷ write_call 0x108 0x8407000080010200 ∷ write_call 0x80 0x8000000080020000 ∷ WriteReg 0 0x0 4 1 ∷ []

unfoldable pub setup_thread : ℕ → Thread
setup_thread threads = register_writes ++ queued 0 (setup_commands threads)

-- the 64 events of a device in turn
abbrev pub signal_call : ℕ → ℕ → Call
signal_call dev i = Signal 0 (record { 0 = dev }) (record { 0 = i % 64 })

unfoldable pub signal_thread : ℕ → ℕ → Thread
signal_thread signals dev = map (signal_call dev) (range_with_len 0 signals)

-- how many commands the setup has
abbrev pub setup_count : ℕ → ℕ
setup_count threads = 4 + 65 * threads

-- a tenth as many moves as a thread has signals
unfoldable pub move_thread : ℕ → ℕ → Thread
move_thread signals threads = queued (setup_count threads) (move_commands threads (signals / 10))

-- ---- the script

unfoldable pub setup_phase : ℕ → Phase
setup_phase threads = setup_thread threads ∷ []

unfoldable pub signal_phase : ℕ → ℕ → Phase
signal_phase signals threads = map (signal_thread signals) (range_with_len 1 threads) ++ move_thread signals threads ∷ []

abbrev pub first_leg : ℕ → ℕ → Leg
first_leg signals threads = setup_phase threads ∷ signal_phase signals threads ∷ []

abbrev pub generated : ℕ → ℕ → Script
generated signals threads = record {
  desc = description;
  fill_lines = [];
  requester_lines = [];
  legs = first_leg signals threads ∷ [] ∷ [];
  moves = Migrate ∷ [];
}
