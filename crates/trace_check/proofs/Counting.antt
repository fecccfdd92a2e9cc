-- How the program's counts show which calls are left.
use Rattle.std.proofs.Common.{◌≡◌, ◌≢◌, ℕ, zero, suc, ◌+◌, ◌-◌, ◌<◌, ◌≤◌, cond, eqb, Bool, false, not, List, [], ◌∷◌, length, take, drop, set, get_or}
use Rattle.std.proofs.Common.{count_by, Some, None, refl, sym, ap, ◌∙◌, arith, eq-eqb, ne_eqb}
use Rattle.std.specs.Prelude.{slice_get}
use Rattle.std.proofs.lemmas.List.{take_all, get_or_read}
use Rattle.std.proofs.lemmas.List.Recursion.{is_count_by}
use Rattle.its_plain.specs.Runs.{Thread, Phase, Leg}
use Rattle.its_plain.specs.declared.call.Call.{Call}
use Rattle.trace_check.specs.Cursors.{at, threads_of, later_of, zeros, one_if, open_count, opened, call_of, more}
use Rattle.trace_check.proofs.Taken.{one_is, one_not, get_within}

-- ---- the next call of a thread

pub none_past : (threads : Phase) (ns : List ℕ) (i : ℕ) → length threads ≤ i → call_of threads ns i ≡ None
none_past [] ns i le = refl
none_past (calls ∷ threads) [] i le = refl
none_past (calls ∷ threads) (n ∷ ns) zero le = absurd (omega arith)
none_past (calls ∷ threads) (n ∷ ns) (suc i) le = none_past threads ns i (omega arith)

pub call_is : (threads : Phase) (ns : List ℕ) (i n : ℕ) (calls : Thread) → i < length threads → length ns ≡ length threads → calls ≡ get_or threads i calls
    → n ≡ get_or ns i n → call_of threads ns i ≡ slice_get calls n
call_is [] ns i n calls lt long at here = absurd (omega arith)
call_is (x ∷ threads) [] i n calls lt long at here = absurd (omega arith)
call_is (x ∷ threads) (m ∷ ns) zero n calls lt long at here = λ d. slice_get (sym at d) (sym here d)
call_is (x ∷ threads) (m ∷ ns) (suc i) n calls lt long at here = call_is threads ns i n calls (omega arith) (omega arith) at here

-- ---- threads that have calls left

abbrev pub has_calls : Thread → Bool
has_calls calls = not (eqb (length calls) 0)

abbrev pub opened_count : Phase → ℕ
opened_count threads = open_count threads (zeros threads)

count_one : (calls : Thread) (threads : Phase) → opened_count (calls ∷ threads) ≡ cond (has_calls calls) (1 + opened_count threads) (opened_count threads)
count_one [] threads = omega arith
count_one (c ∷ calls) threads =
    let some : one_if 0 (length (c ∷ calls)) ≡ 1 = one_is 0 (length (c ∷ calls)) (omega arith) in
    let other : eqb (length (c ∷ calls)) 0 ≡ false = ne_eqb (length (c ∷ calls)) 0 (λ e. absurd (omega (arith, e))) in
    ap (λ k. k + opened_count threads) some ∙ ap (λ b. cond (not b) (1 + opened_count threads) (opened_count threads)) (sym other)

pub zeros_open : (threads : Phase) → open_count threads (zeros threads) ≡ count_by has_calls threads
zeros_open threads = is_count_by opened_count has_calls refl count_one threads

-- one more call of a thread is answered, and the thread has more
pub count_left : (threads : Phase) (ns : List ℕ) (i : ℕ) → i < length threads → length ns ≡ length threads → get_or ns i 0 + 1 < length (get_or threads i [])
    → open_count threads (set ns i (get_or ns i 0 + 1)) ≡ open_count threads ns
count_left [] ns i lt long more = absurd (omega arith)
count_left (calls ∷ threads) [] i lt long more = absurd (omega arith)
count_left (calls ∷ threads) (n ∷ ns) zero lt long more =
    let now : one_if (n + 1) (length calls) ≡ 1 = one_is (n + 1) (length calls) more in
    let was : one_if n (length calls) ≡ 1 = one_is n (length calls) (omega arith) in
    omega (arith, now, was)
count_left (calls ∷ threads) (n ∷ ns) (suc i) lt long more = ap (λ k. one_if n (length calls) + k) (count_left threads ns i (omega arith) (omega arith) more)

-- or it was its last
pub count_last : (threads : Phase) (ns : List ℕ) (i : ℕ) → i < length threads → length ns ≡ length threads → get_or ns i 0 + 1 ≡ length (get_or threads i [])
    → open_count threads ns ≡ suc (open_count threads (set ns i (get_or ns i 0 + 1)))
count_last [] ns i lt long more = absurd (omega arith)
count_last (calls ∷ threads) [] i lt long more = absurd (omega arith)
count_last (calls ∷ threads) (n ∷ ns) zero lt long more =
    let now : one_if (n + 1) (length calls) ≡ 0 = one_not (n + 1) (length calls) (omega (arith, more)) in
    let was : one_if n (length calls) ≡ 1 = one_is n (length calls) (omega (arith, more)) in
    omega (arith, now, was)
count_last (calls ∷ threads) (n ∷ ns) (suc i) lt long more = omega (arith, count_last threads ns i (omega arith) (omega arith) more)

-- ---- phases

pub some_phase : (phases : Leg) (i : ℕ) → i < length (threads_of phases) → 0 < length phases
some_phase [] i lt = absurd (omega arith)
some_phase (threads ∷ later) i lt = omega arith

pub later_is : (phases : Leg) → take (length phases - 1) (drop 1 phases) ≡ later_of phases
later_is [] = refl
later_is (threads ∷ later) = take_all (suc (length later) - 1) later (omega arith)

pub opened_over : (n : ℕ) (phases : Leg) (threads : Phase) → 0 < length phases → threads ≡ get_or phases 0 threads → opened_count threads ≡ 0
    → opened n phases ≡ opened (n + 1) (later_of phases)
opened_over n [] threads some first none = absurd (omega arith)
opened_over n (x ∷ later) threads some first none =
    let count : opened_count x ≡ 0 = ap opened_count (sym first) ∙ none in
    ap (λ b. cond b (opened (n + 1) later) (at n (x ∷ later) (zeros x))) (eq-eqb (opened_count x) 0 count)

pub opened_here : (n : ℕ) (phases : Leg) (threads : Phase) (ns : List ℕ) → 0 < length phases → threads ≡ get_or phases 0 threads → 0 < opened_count threads
    → ns ≡ zeros threads → at n phases ns ≡ opened n phases
opened_here n [] threads ns some first left is = absurd (omega arith)
opened_here n (x ∷ later) threads ns some first left is =
    let count : opened_count x ≢ 0 = λ e. absurd (let same : opened_count threads ≡ opened_count x = ap opened_count first in omega (arith, e, same, left)) in
    ap (at n (x ∷ later)) (is ∙ ap zeros first) ∙ ap (λ b. cond b (opened (n + 1) later) (at n (x ∷ later) (zeros x))) (sym (ne_eqb (opened_count x) 0 count))

pub first_of : (phases : Leg) (threads : Phase) → 0 < length phases → threads ≡ get_or phases 0 threads → threads_of phases ≡ threads
first_of [] threads some first = absurd (omega arith)
first_of (x ∷ later) threads some first = sym first

-- ---- one more call is counted

module _ (threads : Phase) (ns : List ℕ) (i n len : ℕ) (calls : Thread) (below : i < length threads) (long : length ns ≡ length threads)
    (at_thread : calls ≡ get_or threads i calls) (here : n ≡ get_or ns i n) (long_is : len ≡ length calls) where
  n_is : n ≡ get_or ns i 0
  n_is = get_or_read ns i n (omega (arith, below, long)) here 0

  calls_are : calls ≡ get_or threads i []
  calls_are = get_or_read threads i calls below at_thread []

  pub counted_last : n + 1 ≡ len → open_count threads ns ≡ suc (open_count threads (set ns i (n + 1)))
  counted_last last =
      count_last threads ns i below long (omega (arith, sym n_is, last, long_is, ap length calls_are))
      ∙ ap (λ k. suc (open_count threads (set ns i (k + 1)))) (sym n_is)

  pub counted_left : get_or ns i 0 < length (get_or threads i []) → n + 1 ≢ len → open_count threads (set ns i (n + 1)) ≡ open_count threads ns
  counted_left left more =
      ap (λ k. open_count threads (set ns i (k + 1))) n_is
      ∙ count_left threads ns i below long (omega (arith, sym n_is, more, long_is, ap length calls_are, left))

pub later_fits : (phases : Leg) → 0 < length phases → suc (length (later_of phases)) ≡ length phases
later_fits [] some = absurd (omega arith)
later_fits (x ∷ later) some = refl

-- a thread that has a next call has a call left
pub has_left : (threads : Phase) (ns : List ℕ) (i : ℕ) (c : Call) → call_of threads ns i ≡ Some c → (i < length threads)
    × (get_or ns i 0 < length (get_or threads i []))
has_left [] ns i c e = absurd (cc e)
has_left (calls ∷ threads) [] i c e = absurd (cc e)
has_left (calls ∷ threads) (n ∷ ns) zero c e = (omega arith, get_within calls n c e)
has_left (calls ∷ threads) (n ∷ ns) (suc i) c e = let rest = has_left threads ns i c e in (omega (arith, rest.0), rest.1)
