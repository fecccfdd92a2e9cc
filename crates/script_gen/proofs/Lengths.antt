-- How many commands and calls the script has.
use Rattle.std.proofs.Common.{◌≡◌, ℕ, zero, suc, ◌+◌, ◌*◌, ◌/◌, List, [], ◌∷◌, length, refl, ap, arith}
use Rattle.std.specs.List.{flat_map, range_with_len}
use Rattle.std.proofs.lemmas.List.{length-append}
use Rattle.std.proofs.lemmas.List.FromFn.{length-map-range_with_len}
use Rattle.its_command.specs.declared.command.Command.{Command}
use Rattle.script_gen.specs.Commands.{map_event, move_event, event_commands, device_commands, setup_commands, move_commands}
use Rattle.script_gen.specs.Generated.{queued, setup_thread, signal_call, signal_thread, setup_count, move_thread}

event_length : (dev count : ℕ) → length (event_commands dev count) ≡ count
unfolding event_commands
event_length dev count = length-map-range_with_len (map_event dev) 0 count

device_length : (dev : ℕ) → length (device_commands dev) ≡ 65
unfolding device_commands
device_length dev = ap suc (event_length dev 64)

devices_length : (a n : ℕ) → length (flat_map device_commands (range_with_len a n)) ≡ 65 * n
devices_length a zero = refl
devices_length a (suc n) =
    let rest = flat_map device_commands (range_with_len (a + 1) n) in omega (
      arith,
      length-append (device_commands a) rest,
      device_length a,
      devices_length
          (a + 1) n,
    )

pub setup_length : (n : ℕ) → length (setup_commands n) ≡ 4 + 65 * n
unfolding setup_commands
setup_length n = omega (arith, devices_length 1 n)

pub move_length : (n count : ℕ) → length (move_commands n count) ≡ count
unfolding move_commands
move_length n count = length-map-range_with_len (move_event n) 0 count

queued_length : (k : ℕ) (cs : List Command) → length (queued k cs) ≡ 3 * length cs
queued_length k [] = refl
queued_length k (c ∷ cs) = omega (arith, queued_length (k + 1) cs)

pub setup_thread_length : (n : ℕ) → length (setup_thread n) ≡ 16 + 195 * n
unfolding setup_thread
setup_thread_length n = omega (arith, queued_length 0 (setup_commands n), setup_length n)

pub signal_thread_length : (signals dev : ℕ) → length (signal_thread signals dev) ≡ signals
unfolding signal_thread
signal_thread_length signals dev = length-map-range_with_len (signal_call dev) 0 signals

pub move_thread_length : (signals n : ℕ) → length (move_thread signals n) ≡ 3 * (signals / 10)
unfolding move_thread
move_thread_length signals n = omega (arith, queued_length (setup_count n) (move_commands n (signals / 10)), move_length n (signals / 10))
