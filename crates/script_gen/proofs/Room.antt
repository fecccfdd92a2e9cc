-- A leg of the script has fewer calls than a history has places.
use Rattle.std.proofs.Common.{ℕ, zero, suc, ◌+◌, ◌*◌, ◌≤◌, [], ◌∷◌, length, map, arith, lit<}
use Rattle.std.specs.Prelude.{sum_by}
use Rattle.std.specs.List.{range_with_len}
use Rattle.std.proofs.lemmas.List.Sums.{sum_by-append, sum_by-cons}
use Rattle.its_plain.specs.Runs.{Thread}
use Rattle.script_gen.specs.Description.{description}
use Rattle.script_gen.specs.Generated.{setup_phase, signal_phase, signal_thread, move_thread}
use Rattle.script_gen.specs.Laws.{HasRoom}
use Rattle.script_gen.proofs.Lengths.{setup_thread_length, signal_thread_length, move_thread_length}

abbrev size : Thread → ℕ
size calls = length calls

signals_below : (signals a n : ℕ) → signals ≤ 20000 → sum_by size (map (signal_thread signals) (range_with_len a n)) ≤ 20000 * n
signals_below signals a zero most = omega arith
signals_below signals a (suc n) most =
    omega (
      arith,
      sum_by-cons size (signal_thread signals a) (map (signal_thread signals) (range_with_len (a + 1) n)),
      signal_thread_length signals a,
      signals_below signals (a + 1) n most,
    )

signal_phase_below : (signals n : ℕ) → signals ≤ 20000 → n ≤ 63 → sum_by size (signal_phase signals n) ≤ 1266000
unfolding signal_phase
signal_phase_below signals n most few =
    omega (
      arith,
      sum_by-append size (map (signal_thread signals) (range_with_len 1 n)) (move_thread signals n ∷ []),
      signals_below signals 1 n most,
      move_thread_length signals n,
    )

pub has_room : HasRoom
unfolding setup_phase description
has_room signals threads asked =
    (omega (arith, setup_thread_length threads, signal_phase_below signals threads asked.most_signals asked.most_threads), (lit< tt, tt))
