-- How many calls of a leg are left.
use Rattle.std.proofs.Common.{◌≡◌, ℕ, zero, suc, ◌+◌, ◌-◌, ◌<◌, List, [], ◌∷◌, length, Some, refl, inl, inr, arith}
use Rattle.std.specs.List.{sum_by}
use Rattle.std.proofs.lemmas.Bool.{cases_lt}
use Rattle.std.proofs.lemmas.List.Sums.{sum_by-cons}
use Rattle.its_plain.specs.Runs.{Thread, Phase, Leg, call_count}
use Rattle.its_plain.specs.declared.call.Call.{Call}
use Rattle.trace_check.specs.Cursors.{threads_of, later_of, zeros, one_if, open_count, call_of, more}
use Rattle.trace_check.proofs.Taken.{one_is, get_within}

-- of the threads of a phase, so many of whose calls are made
abbrev pub left_of : Phase → List ℕ → ℕ
left_of (calls ∷ threads) (n ∷ ns) = (length calls - n) + left_of threads ns
left_of _ _ = 0

-- of these phases, so many of the first one's calls being made
abbrev pub left : Leg → List ℕ → ℕ
left phases ns = left_of (threads_of phases) ns + call_count (later_of phases)

abbrev calls_of : Phase → ℕ
calls_of threads = sum_by (λ (calls : Thread). length calls) threads

calls_cons : (calls : Thread) (threads : Phase) → calls_of (calls ∷ threads) ≡ length calls + calls_of threads
calls_cons calls threads = sum_by-cons (λ (x : Thread). length x) calls threads

count_cons : (threads : Phase) (phases : Leg) → call_count (threads ∷ phases) ≡ calls_of threads + call_count phases
count_cons threads phases = sum_by-cons (λ (t : Phase). sum_by (λ (calls : Thread). length calls) t) threads phases

-- ---- none of a phase's calls is made, or all

zeros_left : (threads : Phase) → left_of threads (zeros threads) ≡ calls_of threads
zeros_left [] = refl
zeros_left (calls ∷ threads) = omega (arith, calls_cons calls threads, zeros_left threads)

pub first_left : (phases : Leg) → left phases (zeros (threads_of phases)) ≡ call_count phases
first_left [] = refl
first_left (threads ∷ later) = omega (arith, count_cons threads later, zeros_left threads)

pub closed_left : (threads : Phase) (ns : List ℕ) → open_count threads ns ≡ 0 → left_of threads ns ≡ 0
closed_left [] ns e = refl
closed_left (calls ∷ threads) [] e = refl
closed_left (calls ∷ threads) (n ∷ ns) e =
    elim (cases_lt n (length calls)) [
      | inl lt ↦ absurd (let one : one_if n (length calls) ≡ 1 = one_is n (length calls) lt in omega (arith, e, one))
      | inr le ↦ let rest : open_count threads ns ≡ 0 = omega (arith, e) in omega (arith, le, closed_left threads ns rest)
    ]

-- ---- one more is made

more_left : (threads : Phase) (ns : List ℕ) (i : ℕ) (c : Call) → call_of threads ns i ≡ Some c → suc (left_of threads (more ns i)) ≡ left_of threads ns
more_left [] ns i c e = absurd (cc e)
more_left (calls ∷ threads) [] i c e = absurd (cc e)
more_left (calls ∷ threads) (n ∷ ns) zero c e = let lt : n < length calls = get_within calls n c e in omega (arith, lt)
more_left (calls ∷ threads) (n ∷ ns) (suc i) c e = omega (arith, more_left threads ns i c e)

pub one_less : (phases : Leg) (ns : List ℕ) (i : ℕ) (c : Call) → call_of (threads_of phases) ns i ≡ Some c → suc (left phases (more ns i)) ≡ left phases ns
one_less phases ns i c e = omega (arith, more_left (threads_of phases) ns i c e)
