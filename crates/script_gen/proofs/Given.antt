-- Each call of the script is one that keeps the invariant.
use Rattle.std.proofs.Common.{◌≡◌, ℕ, ◌+◌, ◌/◌, ◌%◌, ◌<◌, ◌≤◌, List, [], ◌∷◌, length, map, refl, sym, subst, arith}
use Rattle.std.specs.List.{AllByRecursion, flat_map, range_with_len}
use Rattle.its_command.specs.Commands.{encoded, IsWithinBits}
use Rattle.its_command.specs.declared.command.Command.{Command}
use Rattle.its_command.specs.declared.command.Command.TheVariants.{Movi, Int, Clear, Sync, Mapd, Mapc, Mapti, Mapi, Inv, Invall, Movall, Discard, Unknown}
use Rattle.its_command.proofs.Encoded.{decodes_back}
use Rattle.its_plain.specs.declared.call.Call.{Call}
use Rattle.script_gen.specs.Commands.{map_collection, map_device, map_event, move_event, event_commands, device_commands, setup_commands, move_commands}
use Rattle.script_gen.specs.Generated.{signal_call, queue, offset_of, queued, setup_thread, signal_thread, setup_count, move_thread, setup_phase, signal_phase}
use Rattle.script_gen.specs.Generated.{first_leg}
use Rattle.script_gen.proofs.Invariant.{IsGiven, IsAllowed, IsPut}
use Rattle.script_gen.proofs.Invariant.IsWrite.{ctlr, cbaser, cwriter, baser0, baser1}
use Rattle.script_gen.proofs.Lists.{all_append, all_map, all_flat_map, all_range}

-- ---- commands

-- its fields are within their bits, and it maps no device but the script's
pub record IsGood (n : ℕ) (c : Command) : Type 0 where
  pub within : IsWithinBits c
  pub allowed : IsAllowed n c

pub length-encoded : (c : Command) → length (encoded c) ≡ 32
unfolding encoded
length-encoded (Movi dev ev icid) = refl
length-encoded (Int dev ev) = refl
length-encoded (Clear dev ev) = refl
length-encoded (Sync target) = refl
length-encoded (Mapd dev bits itt valid) = refl
length-encoded (Mapc icid target valid) = refl
length-encoded (Mapti dev ev intid icid) = refl
length-encoded (Mapi dev ev icid) = refl
length-encoded (Inv dev ev) = refl
length-encoded (Invall icid) = refl
length-encoded (Movall from to) = refl
length-encoded (Discard dev ev) = refl
length-encoded (Unknown opcode) = refl

collection_good : (n icid : ℕ) → icid < 4 → IsGood n (map_collection icid)
collection_good n icid low = record { within = (omega arith, omega arith); allowed = tt }

device_good : (n dev : ℕ) → n ≤ 63 → 1 ≤ dev → dev ≤ n → IsGood n (map_device dev)
device_good n dev most first last = record {
  within = (omega arith, (omega arith, omega arith), (omega arith, omega arith));
  allowed = λ _. record { first = first; last = last; bits_are = refl; itt_is = refl };
}

event_good : (n dev ev : ℕ) → n ≤ 63 → 1 ≤ dev → dev ≤ n → ev < 64 → IsGood n (map_event dev ev)
event_good n dev ev most first last low = record { within = (omega arith, omega arith, omega arith, omega arith); allowed = tt }

move_good : (n j : ℕ) → 1 ≤ n → n ≤ 63 → IsGood n (move_event n j)
move_good n j some most = record { within = (omega arith, omega arith, omega arith); allowed = tt }

device_all_good : (n dev : ℕ) → n ≤ 63 → 1 ≤ dev → dev ≤ n → AllByRecursion (IsGood n) (device_commands dev)
unfolding device_commands event_commands
device_all_good n dev most first last = (
  device_good n dev most first last,
  all_map (IsGood n) (map_event dev) (range_with_len 0 64)
      (all_range (λ ev. IsGood n (map_event dev ev)) 0 64 (λ ev _ low. event_good n dev ev most first last low)),
)

setup_good : (n : ℕ) → n ≤ 63 → AllByRecursion (IsGood n) (setup_commands n)
unfolding setup_commands
setup_good n most =
    all_append (IsGood n) (map map_collection (range_with_len 0 4)) (flat_map device_commands (range_with_len 1 n))
    (all_map (IsGood n) map_collection (range_with_len 0 4) (all_range (λ icid. IsGood n (map_collection icid)) 0 4 (λ icid _ low. collection_good n icid low)))
    (all_flat_map (IsGood n) device_commands (range_with_len 1 n)
    (all_range (λ dev. AllByRecursion (IsGood n) (device_commands dev)) 1 n (λ dev first last. device_all_good n dev most first (omega arith))))

moves_good : (n count : ℕ) → 1 ≤ n → n ≤ 63 → AllByRecursion (IsGood n) (move_commands n count)
unfolding move_commands
moves_good n count some most = all_map (IsGood n) (move_event n) (range_with_len 0 count)
    (all_range (λ j. IsGood n (move_event n j)) 0 count (λ j _ _. move_good n j some most))

-- ---- calls

put_given : (n k : ℕ) (c : Command) → IsGood n c → IsPut n (queue + offset_of k) (encoded c)
put_given n k c good = record {
  place = k % 128;
  in_queue = omega arith;
  address_is = refl;
  count = length-encoded c;
  allowed = subst (IsAllowed n) (sym (decodes_back c good.within)) good.allowed;
}

queued_given : (n k : ℕ) (cs : List Command) → AllByRecursion (IsGood n) cs → AllByRecursion (IsGiven n) (queued k cs)
queued_given n k [] good = tt
queued_given n k (c ∷ cs) good = (put_given n k c good.0, ((refl, cwriter (offset_of (k + 1))), (refl, queued_given n (k + 1) cs good.1)))

setup_given : (n : ℕ) → n ≤ 63 → AllByRecursion (IsGiven n) (setup_thread n)
unfolding setup_thread
setup_given n most = ((refl, baser0), ((refl, baser1), ((refl, cbaser), ((refl, ctlr), queued_given n 0 (setup_commands n) (setup_good n most)))))

move_given : (signals n : ℕ) → 1 ≤ n → n ≤ 63 → AllByRecursion (IsGiven n) (move_thread signals n)
unfolding move_thread
move_given signals n some most = queued_given n (setup_count n) (move_commands n (signals / 10)) (moves_good n (signals / 10) some most)

signals_given : (signals n dev : ℕ) → AllByRecursion (IsGiven n) (signal_thread signals dev)
unfolding signal_thread
signals_given signals n dev =
    all_map (IsGiven n) (signal_call dev) (range_with_len 0 signals) (all_range (λ i. IsGiven n (signal_call dev i)) 0 signals (λ _ _ _. tt))

abbrev pub AllGiven : ℕ → List Call → Type 0
AllGiven n calls = AllByRecursion (IsGiven n) calls

setup_phase_given : (n : ℕ) → n ≤ 63 → AllByRecursion (AllGiven n) (setup_phase n)
unfolding setup_phase
setup_phase_given n most = (setup_given n most, tt)

signal_phase_given : (signals n : ℕ) → 1 ≤ n → n ≤ 63 → AllByRecursion (AllGiven n) (signal_phase signals n)
unfolding signal_phase
signal_phase_given signals n some most =
    all_append (AllGiven n) (map (signal_thread signals) (range_with_len 1 n)) (move_thread signals n ∷ [])
    (all_map (AllGiven n) (signal_thread signals) (range_with_len 1 n) (all_range (λ dev. AllGiven n (signal_thread signals dev)) 1 n
    (λ dev _ _. signals_given signals n dev)))
    (move_given signals n some most, tt)

pub leg_given : (signals n : ℕ) → 1 ≤ n → n ≤ 63 → AllByRecursion (λ threads. AllByRecursion (AllGiven n) threads) (first_leg signals n)
leg_given signals n some most = (setup_phase_given n most, (signal_phase_given signals n some most, tt))
