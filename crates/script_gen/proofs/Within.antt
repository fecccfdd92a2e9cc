-- The script has no more of anything than a script may have.
use Rattle.std.proofs.Common.{◌≡◌, ℕ, ◌+◌, ◌/◌, ◌<◌, ◌≤◌, ◌^◌, Bool, true, false, ◌&&◌, List, [], ◌∷◌, ◌++◌, length, map, refl, ap, ◌∙◌, arith}
use Rattle.std.proofs.Common.{inl, lit<, lit≤}
use Rattle.std.specs.Prelude.{nat_lt, nat_le}
use Rattle.std.specs.List.{AllByRecursion, range_with_len, list_all}
use Rattle.std.proofs.lemmas.Bool.{and_from, lt-ltb, le-leb}
use Rattle.std.proofs.lemmas.List.{length-append}
use Rattle.std.proofs.lemmas.List.FromFn.{length-map-range_with_len}
use Rattle.its_command.specs.Commands.{encoded}
use Rattle.its_command.specs.declared.command.Command.{Command}
use Rattle.its_plain.specs.Machine.{IsDescription}
use Rattle.its_plain.specs.Sound.{IsShape}
use Rattle.its_plain.specs.Runs.{Thread, Phase}
use Rattle.its_plain.specs.declared.call.Call.{Call}
use Rattle.event_script.specs.Limits.{are_bytes, has_bytes, is_call, is_thread, is_phase, is_leg}
use Rattle.event_script.proofs.Bytes.{encoded_bytes}
use Rattle.script_gen.specs.Description.{description}
use Rattle.script_gen.specs.Commands.{setup_commands, move_commands}
use Rattle.script_gen.specs.Generated.{queued, offset_of, signal_call, setup_count, setup_phase, signal_phase, setup_thread, signal_thread, move_thread}
use Rattle.script_gen.specs.Generated.{first_leg}
use Rattle.script_gen.specs.Laws.{StaysWithinLimits}
use Rattle.script_gen.proofs.Given.{length-encoded}
use Rattle.script_gen.proofs.Lengths.{setup_thread_length, signal_thread_length, move_thread_length}
use Rattle.script_gen.proofs.Lists.{all_append, all_map, all_range, list_all_true}

-- ---- calls

abbrev IsCall : Call → Type 0
IsCall c = is_call description c ≡ true

poke_is : (bytes : List ℕ) → length bytes ≡ 32 → are_bytes bytes ≡ true → has_bytes 64 bytes ≡ true
poke_is bytes e small = rw e small

offset_fits : (k : ℕ) → nat_lt (offset_of k) (2 ^ 64) ≡ true
offset_fits k = let low : offset_of k < 2 ^ 64 = omega arith in lt-ltb (offset_of k) (2 ^ 64) low

queued_are : (k : ℕ) (cs : List Command) → AllByRecursion IsCall (queued k cs)
unfolding description
queued_are k [] = tt
queued_are k (c ∷ cs) = (poke_is (encoded c) (length-encoded c) (encoded_bytes c), (offset_fits (k + 1), (refl, queued_are (k + 1) cs)))

-- ---- threads

a_thread : (calls : List Call) → length calls ≤ 65536 → AllByRecursion IsCall calls → is_thread description calls ≡ true
a_thread calls few are = and_from (nat_le (length calls) 65536) (list_all (is_call description) calls) (le-leb (length calls) 65536 few)
    (list_all_true (is_call description) calls are)

setup_is : (n : ℕ) → n ≤ 63 → is_thread description (setup_thread n) ≡ true
unfolding setup_thread description
setup_is n most = a_thread (setup_thread n) (omega (arith, setup_thread_length n)) (refl, (refl, (refl, (refl, queued_are 0 (setup_commands n)))))

signals_are : (signals dev : ℕ) → signals ≤ 20000 → is_thread description (signal_thread signals dev) ≡ true
unfolding signal_thread description
signals_are signals dev most =
    a_thread (signal_thread signals dev) (omega (arith, signal_thread_length signals dev))
    (all_map IsCall (signal_call dev) (range_with_len 0 signals) (all_range (λ i. IsCall (signal_call dev i)) 0 signals (λ _ _ _. refl)))

moves_are : (signals n : ℕ) → signals ≤ 20000 → is_thread description (move_thread signals n) ≡ true
unfolding move_thread
moves_are signals n most = a_thread (move_thread signals n) (omega (arith, move_thread_length signals n))
    (queued_are (setup_count n) (move_commands n (signals / 10)))

-- ---- phases and legs

both_and : (x y z : Bool) → x ≡ true → y ≡ true → z ≡ true → (x && y && z) ≡ true
both_and true true true p q r = refl
both_and true true false p q r = r
both_and true false z p q r = q
both_and false y z p q r = p

abbrev IsThread : Thread → Type 0
IsThread calls = is_thread description calls ≡ true

a_phase : (threads : Phase) → 0 < length threads → length threads ≤ 64 → AllByRecursion IsThread threads → is_phase description threads ≡ true
a_phase threads some few are =
    both_and (nat_lt 0 (length threads)) (nat_le (length threads) 64) (list_all (is_thread description) threads) (lt-ltb 0 (length threads) some)
    (le-leb (length threads) 64 few) (list_all_true (is_thread description) threads are)

signal_phase_is : (signals n : ℕ) → signals ≤ 20000 → n ≤ 63 → is_phase description (signal_phase signals n) ≡ true
unfolding signal_phase
signal_phase_is signals n most few =
    let signallers : Phase = map (signal_thread signals) (range_with_len 1 n) in
    let count : length (signallers ++ move_thread signals n ∷ []) ≡ n + 1 = length-append signallers (move_thread signals n ∷ [])
    ∙ ap (λ k. k + 1) (length-map-range_with_len (signal_thread signals) 1 n) in
    a_phase (signallers ++ move_thread signals n ∷ []) (omega arith) (omega arith)
    (all_append IsThread signallers (move_thread signals n ∷ [])
    (all_map IsThread (signal_thread signals) (range_with_len 1 n) (all_range (λ dev. IsThread (signal_thread signals dev)) 1 n
    (λ dev _ _. signals_are signals dev most)))
    (moves_are signals n most, tt))

setup_phase_is : (n : ℕ) → n ≤ 63 → is_phase description (setup_phase n) ≡ true
unfolding setup_phase
setup_phase_is n most = a_phase (setup_phase n) (lit< tt) (lit≤ tt) (setup_is n most, tt)

legs_are : (signals n : ℕ) → signals ≤ 20000 → n ≤ 63 → list_all (is_leg description) (first_leg signals n ∷ [] ∷ []) ≡ true
legs_are signals n most few =
    list_all_true (is_leg description) (first_leg signals n ∷ [] ∷ [])
    (list_all_true (is_phase description) (first_leg signals n) (setup_phase_is n few, (signal_phase_is signals n most few, tt)), (refl, tt))

shape_is : IsShape description.shape
unfolding description
shape_is = record {
  some_vcpus = lit≤ tt;
  most_vcpus = lit≤ tt;
  least_dev_bits = lit≤ tt;
  most_dev_bits = lit≤ tt;
  least_lpi_bits = lit≤ tt;
  most_lpi_bits = lit≤ tt;
}

pub description_is : IsDescription description
unfolding description
description_is = record { shape = shape_is; tables = refl; some_translator = lit≤ tt; most_translators = lit≤ tt }

pub within : StaysWithinLimits
unfolding description
within signals threads asked = record {
  description = description_is;
  shards = refl;
  limits = refl;
  stamps = inl refl;
  some_windows = lit< tt;
  most_windows = lit≤ tt;
  fills = refl;
  fill_lines = refl;
  registers = tt;
  frames = refl;
  requesters = lit≤ tt;
  requester_lines = refl;
  some_legs = lit< tt;
  most_legs = lit≤ tt;
  legs = legs_are signals threads asked.most_signals asked.most_threads;
  moves = refl;
  ways = refl;
}
