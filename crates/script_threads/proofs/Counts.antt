-- How many entries there are of a phase's threads.
use Rattle.std.proofs.Common.{◌≡◌, ◌≢◌, ℕ, zero, suc, ◌+◌, ◌<◌, ◌≤◌, cond, List, [], ◌∷◌, length, get_or, refl, sym, ap, ◌∙◌, ⊎_elim, arith, eq-eqb, ne_eqb}
use Rattle.std.specs.List.{AllByRecursion, sum_by}
use Rattle.std.proofs.lemmas.List.Sums.{sum_by-cons}
use mathlib.Core.Logic.{dite}
use native.Mathlib.Decide.{ℕ_discrete}
use Rattle.its_types.specs.declared.machine.Placed.{Placed}
use Rattle.its_plain.specs.Runs.{Thread, Phase, Leg, IsOfPasses, call_count}
use Rattle.its_plain.specs.declared.call.Entry.{Entry}
use Rattle.its_plain.specs.declared.call.Reply.{Reply}
use Rattle.its_history.specs.Histories.{replies_by}
use Rattle.script_threads.specs.Phases.{IsCut, SomeThread, calls_of, replies_of}
use Rattle.script_threads.proofs.Threads.{HaveEntries, AreWhole}

abbrev Replies : Type 0
Replies = List (Placed Reply)

abbrev placed_reply : ℕ → Entry → Placed Reply
placed_reply n e = record { place = n; reply = e.reply }

replies_here : (m n : ℕ) (e : Entry) (h : List Entry) → e.pass ≡ m → replies_by m n (e ∷ h) ≡ placed_reply n e ∷ replies_by m (suc n) h
replies_here m n e h is = ap (λ b. cond b (placed_reply n e ∷ replies_by m (suc n) h) (replies_by m (suc n) h)) (eq-eqb e.pass m is)

replies_else : (m n : ℕ) (e : Entry) (h : List Entry) → e.pass ≢ m → replies_by m n (e ∷ h) ≡ replies_by m (suc n) h
replies_else m n e h ne = ap (λ b. cond b (placed_reply n e ∷ replies_by m (suc n) h) (replies_by m (suc n) h)) (ne_eqb e.pass m ne)

abbrev pub long : List Replies → ℕ
long lists = sum_by (λ (done : Replies). length done) lists

long_cons : (done : Replies) (lists : List Replies) → long (done ∷ lists) ≡ length done + long lists
long_cons done lists = sum_by-cons (λ (x : Replies). length x) done lists

calls_cons : (calls : Thread) (threads : Phase) → calls_of (calls ∷ threads) ≡ length calls + calls_of threads
calls_cons calls threads = sum_by-cons (λ (x : Thread). length x) calls threads

-- ---- the entries are those of all passes

none_long : (m count n : ℕ) → long (replies_of m count n []) ≡ 0
none_long m zero n = refl
none_long m (suc count) n = omega (arith, long_cons [] (replies_of (suc m) count n []), none_long (suc m) count n)

-- an entry of an earlier pass is in none of the lists
of_others : (m count n : ℕ) (e : Entry) (h : List Entry) → e.pass < m → replies_of m count n (e ∷ h) ≡ replies_of m count (suc n) h
of_others m zero n e h lt = refl
of_others m (suc count) n e h lt = let ne : e.pass ≢ m = λ s. absurd (omega arith) in
    λ d. replies_else m n e h ne d ∷ of_others (suc m) count n e h (omega arith) d

one_more : (m count n : ℕ) (e : Entry) (h : List Entry) → m ≤ e.pass → e.pass < m + count → long (replies_of m count n (e ∷ h)) ≡ suc
    (long (replies_of m count (suc n) h))
one_more m zero n e h le lt = absurd (omega arith)
one_more m (suc count) n e h le lt =
    let first = replies_by m (suc n) h in
    let rest = replies_of (suc m) count (suc n) h in
    dite (ℕ_discrete e.pass m)
    (λ is. (λ d. long (replies_here m n e h is d ∷ of_others (suc m) count n e h (omega arith) d))
    ∙ omega (arith, long_cons (placed_reply n e ∷ first) rest, long_cons first rest))
    (λ ne. ap (λ z. long (z ∷ replies_of (suc m) count n (e ∷ h))) (replies_else m n e h ne)
    ∙ omega (arith, long_cons first (replies_of (suc m) count n (e ∷ h)), long_cons first rest, one_more (suc m) count n e h (omega (arith, ne)) (omega arith)))

pub entries_long : (m count n : ℕ) (h : List Entry) → AllByRecursion (IsOfPasses m count) h → length h ≡ long (replies_of m count n h)
entries_long m count n [] of = sym (none_long m count n)
entries_long m count n (e ∷ h) of = ap suc (entries_long m count (suc n) h of.1) ∙ sym (one_more m count n e h of.0.0 of.0.1)

-- ---- threads and their replies

pub long_most : (m n : ℕ) (h : List Entry) (threads : Phase) (lists : List Replies) → HaveEntries m n h threads lists → long lists ≤ calls_of threads
long_most m n h [] [] e = omega arith
long_most m n h [] (done ∷ lists) e = absurd e
long_most m n h (calls ∷ threads) [] e = absurd e
long_most m n h (calls ∷ threads) (done ∷ lists) e = omega (arith, long_cons done lists, calls_cons calls threads, e.1, long_most (suc m) n h threads lists e.2)

pub long_cut : (m n : ℕ) (h : List Entry) (threads : Phase) (lists : List Replies) → HaveEntries m n h threads lists → SomeThread IsCut threads lists
    → long lists < calls_of threads
long_cut m n h [] [] e t = absurd t
long_cut m n h [] (done ∷ lists) e t = absurd t
long_cut m n h (calls ∷ threads) [] e t = absurd t
long_cut m n h (calls ∷ threads) (done ∷ lists) e t = ⊎_elim
    (λ (here : IsCut calls done). omega (arith, here, long_cons done lists, calls_cons calls threads, long_most (suc m) n h threads lists e.2))
    (λ (later : SomeThread IsCut threads lists). omega (
      arith,
      long_cons done lists,
      calls_cons calls threads,
      e.1,
      long_cut (suc m) n h threads lists e.2
          later,
    )) t

pub long_whole : (threads : Phase) (lists : List Replies) → AreWhole threads lists → long lists ≡ calls_of threads
long_whole [] [] w = refl
long_whole [] (done ∷ lists) w = absurd w
long_whole (calls ∷ threads) [] w = absurd w
long_whole (calls ∷ threads) (done ∷ lists) w = omega (arith, w.0, long_cons done lists, calls_cons calls threads, long_whole threads lists w.1)

-- ---- phases

-- the calls of the first k phases
abbrev pub calls_in : ℕ → Leg → ℕ
calls_in zero phases = 0
calls_in (suc k) [] = 0
calls_in (suc k) (threads ∷ phases) = calls_of threads + calls_in k phases

count_cons : (threads : Phase) (phases : Leg) → call_count (threads ∷ phases) ≡ calls_of threads + call_count phases
count_cons threads phases = sum_by-cons (λ (t : Phase). sum_by (λ (calls : Thread). length calls) t) threads phases

pub calls_more : (k : ℕ) (phases : Leg) (d : Phase) → k < length phases → calls_in (k + 1) phases ≡ calls_in k phases + calls_of (get_or phases k d)
calls_more k [] d lt = absurd (omega arith)
calls_more zero (threads ∷ phases) d lt = omega arith
calls_more (suc k) (threads ∷ phases) d lt = let z : suc k + 1 ≡ suc (k + 1) = omega arith in ap (λ n. calls_in n (threads ∷ phases)) z
    ∙ omega (arith, calls_more k phases d (omega arith))

pub calls_most : (k : ℕ) (phases : Leg) → calls_in k phases ≤ call_count phases
calls_most zero phases = omega arith
calls_most (suc k) [] = omega arith
calls_most (suc k) (threads ∷ phases) = omega (arith, count_cons threads phases, calls_most k phases)

pub calls_all : (k : ℕ) (phases : Leg) → length phases ≤ k → calls_in k phases ≡ call_count phases
calls_all zero [] le = refl
calls_all zero (threads ∷ phases) le = absurd (omega arith)
calls_all (suc k) [] le = refl
calls_all (suc k) (threads ∷ phases) le = omega (arith, count_cons threads phases, calls_all k phases (omega arith))
