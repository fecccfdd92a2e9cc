-- The lines of a leg's passes, phase by phase.
use Rattle.std.proofs.Common.{◌≡◌, ◌≢◌, ℕ, zero, suc, ◌+◌, ◌-◌, ◌*◌, ◌<◌, ◌≤◌, eqb, cond, Bool, true, false, List, [], ◌∷◌, ◌++◌, map, length, get_or, drop}
use Rattle.std.proofs.Common.{refl, ap, sym, ◌∙◌, arith, append_assoc, append-nil, ne_eqb, le-leb, drop-cons}
use Rattle.std.proofs.lemmas.Bool.{lt-leb}
use Rattle.std.specs.List.{AllByRecursion}
use Rattle.its_types.specs.declared.machine.Placed.{Placed}
use Rattle.its_plain.specs.Runs.{Thread, Phase, Leg, HasFirstCalls}
use Rattle.its_plain.specs.declared.call.Entry.{Entry}
use Rattle.its_plain.specs.declared.call.Reply.{Reply}
use Rattle.its_history.specs.declared.trace.EntryLine.{EntryLine}
use Rattle.its_history.specs.Histories.{Seat, seat_from, entry_line, pass_lines, passes_lines, replies_by}
use Rattle.its_history.specs.Merged.{thread_lines}
use Rattle.its_history.proofs.Merges.{thread_gives_it}
use Rattle.its_steps.proofs.Lists.{all_weaker}
use Rattle.script_threads.specs.Legs.{phase_lines, threads_in}
use Rattle.script_threads.specs.Phases.{replies_of}

-- ---- the lines of one pass

lines_else : (seat : ℕ → Seat) (m n : ℕ) (e : Entry) (h : List Entry) → e.pass ≢ m → pass_lines seat m n (e ∷ h) ≡ pass_lines seat m (suc n) h
lines_else seat m n e h ne = ap (λ b. cond b (entry_line seat n e ∷ pass_lines seat m (suc n) h) (pass_lines seat m (suc n) h)) (ne_eqb e.pass m ne)

choice_append : (b : Bool) (x : EntryLine) (xs ys zs : List EntryLine) → xs ≡ ys ++ zs → cond b (x ∷ xs) xs ≡ cond b (x ∷ ys) ys ++ zs
choice_append true x xs ys zs e = ap (λ w. x ∷ w) e
choice_append false x xs ys zs e = e

lines_append : (seat : ℕ → Seat) (m n : ℕ) (h k : List Entry) → pass_lines seat m n (h ++ k) ≡ pass_lines seat m n h ++ pass_lines seat m (n + length h) k
lines_append seat m n [] k = let z : n ≡ n + 0 = omega arith in ap (λ j. pass_lines seat m j k) z
lines_append seat m n (e ∷ h) k = let same : (suc n + length h) ≡ (n + suc (length h)) = omega arith in
    choice_append (eqb e.pass m) (entry_line seat n e) (pass_lines seat m (suc n) (h ++ k)) (pass_lines seat m (suc n) h)
    (pass_lines seat m (n + suc (length h)) k)
    (lines_append seat m (suc n) h k ∙ ap (λ j. pass_lines seat m (suc n) h ++ pass_lines seat m j k) same)

-- of earlier passes, and of later ones
lines_low : (seat : ℕ → Seat) (m n : ℕ) (h : List Entry) → AllByRecursion (λ e. m < e.pass) h → pass_lines seat m n h ≡ []
lines_low seat m n [] es = refl
lines_low seat m n (e ∷ h) es = let low = es.0 in let ne : e.pass ≢ m = λ s. absurd (omega arith) in lines_else seat m n e h ne ∙ lines_low seat m
    (suc n) h es.1

lines_high : (seat : ℕ → Seat) (m n : ℕ) (h : List Entry) → AllByRecursion (λ e. e.pass < m) h → pass_lines seat m n h ≡ []
lines_high seat m n [] es = refl
lines_high seat m n (e ∷ h) es = let high = es.0 in let ne : e.pass ≢ m = λ s. absurd (omega arith) in lines_else seat m n e h ne ∙ lines_high seat m
    (suc n) h es.1

-- ---- the lines of many

module _ (seat : ℕ → Seat) where
  passes_old : (m count n : ℕ) (h more : List Entry) → AllByRecursion (λ e. m + count ≤ e.pass) more → passes_lines seat m count n (h ++ more)
      ≡ passes_lines seat m count n h
  passes_old m zero n h more es = refl
  passes_old m (suc count) n h more es = λ d.
      (lines_append seat m n h more
      ∙ ((λ i. pass_lines seat m n h ++ lines_low seat m (n + length h) more
      (all_weaker (λ (e : Entry). m + suc count ≤ e.pass) (λ (e : Entry). m < e.pass) more (λ e t. omega (arith, t)) es) i)
      ∙ append-nil (pass_lines seat m n h))) d
      ++ passes_old (suc m) count n h more (all_weaker (λ (e : Entry). m + suc count ≤ e.pass) (λ (e : Entry). suc m + count ≤ e.pass) more
      (λ e t. omega (arith, t)) es) d

  passes_new : (m count n : ℕ) (h more : List Entry) → AllByRecursion (λ e. e.pass < m) h → passes_lines seat m count n (h ++ more) ≡ passes_lines seat m count
      (n + length h) more
  passes_new m zero n h more es = refl
  passes_new m (suc count) n h more es = λ d.
      (lines_append seat m n h more ∙ (λ i. lines_high seat m n h es i ++ pass_lines seat m (n + length h) more)) d
      ++ passes_new (suc m) count n h more (all_weaker (λ (e : Entry). e.pass < m) (λ (e : Entry). e.pass < suc m) h (λ e t. omega (arith, t)) es) d

  passes_split : (m a b n : ℕ) (h : List Entry) → passes_lines seat m (a + b) n h ≡ passes_lines seat m a n h ++ passes_lines seat (m + a) b n h
  passes_split m zero b n h = let z : m ≡ m + zero = omega arith in let y : zero + b ≡ b = omega arith in λ d. passes_lines seat (z d) (y d) n h
  passes_split m (suc a) b n h =
      let y : suc a + b ≡ suc (a + b) = omega arith in let z : suc m + a ≡ m + suc a = omega arith in
      let first : List EntryLine = pass_lines seat m n h in
      ap (λ k. passes_lines seat m k n h) y
      ∙ (ap (λ ls. first ++ ls) (passes_split (suc m) a b n h ∙ ap (λ k. passes_lines seat (suc m) a n h ++ passes_lines seat k b n h) z)
      ∙ sym (append_assoc first (passes_lines seat (suc m) a n h) (passes_lines seat (m + suc a) b n h)))

  -- the lines so far, and those of one more phase
  pub passes_more : (count t : ℕ) (h more : List Entry) → AllByRecursion (λ e. e.pass < 1 + count) h → AllByRecursion (λ e. 1 + count ≤ e.pass) more
      → passes_lines seat 1 count 0 h ++ passes_lines seat (1 + count) t (length h) more ≡ passes_lines seat 1 (count + t) 0 (h ++ more)
  passes_more count t h more low high =
      let z : 0 + length h ≡ length h = omega arith in
      sym (passes_split 1 count t 0 (h ++ more) ∙ ((λ d. passes_old 1 count 0 h more high d ++ passes_new (1 + count) t 0 h more low d)
      ∙ ap (λ k. passes_lines seat 1 count 0 h ++ passes_lines seat (1 + count) t k more) z))

  -- the lines of a phase's threads are those of its passes
  pub phase_passes : (phase t m n : ℕ) (threads : Phase) (h : List Entry) → HasFirstCalls m threads h
      → ((i : ℕ) → i < length threads → seat (m + i) ≡ (phase, t + i))
      → phase_lines phase t threads (replies_of m (length threads) n h) ≡ passes_lines seat m (length threads) n h
  phase_passes phase t m n [] h first at = refl
  phase_passes phase t m n (calls ∷ threads) h first at =
      let here : seat m ≡ (phase, t) = let z : m + 0 ≡ m = omega arith in let y : t + 0 ≡ t = omega arith in ap seat (sym z)
      ∙ (at 0 (omega arith) ∙ ap (λ k. (phase, k)) y) in
      let one : thread_lines phase t calls (replies_by m n h) ≡ pass_lines seat m n h =
      (λ d. thread_lines (sym here d).0 (sym here d).1 (sym first.0.1 d) (replies_by m n h)) ∙ thread_gives_it seat m n h first.0.0 in
      let rest = phase_passes phase (suc t) (suc m) n threads h first.1
      (λ i lt. let z : suc m + i ≡ m + suc i = omega arith in let y : t + suc i ≡ suc t + i = omega arith in ap seat z
      ∙ (at (suc i) (omega arith) ∙ ap (λ k. (phase, k)) y)) in
      λ d. one d ++ rest d

-- ---- which thread a pass is

if_true : {A : Type 0} (b : Bool) (x y : A) → b ≡ true → cond b x y ≡ x
if_true b x y e = ap (λ z. cond z x y) e

if_false : {A : Type 0} (b : Bool) (x y : A) → b ≡ false → cond b x y ≡ y
if_false b x y e = ap (λ z. cond z x y) e

pub seat_at : (phase k i : ℕ) (phases : Leg) (d : Phase) → k < length phases → i < length (get_or phases k d) → seat_from phase (map length phases)
    (1 + threads_in k phases + i) ≡ (phase + k, 1 + i)
seat_at phase k i [] d lt below = absurd (omega arith)
seat_at phase zero i (threads ∷ phases) d lt below =
    let count : ℕ = length threads in
    let le : 1 + 0 + i ≤ count = omega (arith, below) in
    let z : phase ≡ phase + 0 = omega arith in let y : 1 + 0 + i ≡ 1 + i = omega arith in
    if_true _ (phase, 1 + 0 + i) (seat_from (phase + 1) (map length phases) (1 + 0 + i - count)) (le-leb (1 + 0 + i) count le) ∙ (λ j. (z j, y j))
seat_at phase (suc k) i (threads ∷ phases) d lt below =
    let count : ℕ = length threads in
    let pass : ℕ = 1 + (count + threads_in k phases) + i in
    let high : count < pass = omega arith in
    let left : pass - count ≡ 1 + threads_in k phases + i = omega arith in
    let z : phase + 1 + k ≡ phase + suc k = omega arith in
    if_false _ (phase, pass) (seat_from (phase + 1) (map length phases) (pass - count)) (lt-leb pass count high)
    ∙ (ap (seat_from (phase + 1) (map length phases)) left ∙ (seat_at (phase + 1) k i phases d (omega arith) below ∙ ap (λ p. (p, 1 + i)) z))

-- ---- the threads so far

pub threads_more : (k : ℕ) (phases : Leg) (d : Phase) → k < length phases → threads_in (k + 1) phases ≡ threads_in k phases + length (get_or phases k d)
threads_more k [] d lt = absurd (omega arith)
threads_more zero (threads ∷ phases) d lt = omega arith
threads_more (suc k) (threads ∷ phases) d lt = let z : suc k + 1 ≡ suc (k + 1) = omega arith in ap (λ n. threads_in n (threads ∷ phases)) z
    ∙ omega (arith, threads_more k phases d (omega arith))

pub threads_most : (k : ℕ) (phases : Leg) → AllByRecursion (λ threads. length threads ≤ 64) phases → threads_in k phases ≤ 64 * k
threads_most zero phases all = omega arith
threads_most (suc k) [] all = omega arith
threads_most (suc k) (threads ∷ phases) all = omega (arith, all.0, threads_most k phases all.1)

pub length_replies : (m count n : ℕ) (h : List Entry) → length (replies_of m count n h) ≡ count
length_replies m zero n h = refl
length_replies m (suc count) n h = ap suc (length_replies (suc m) count n h)

-- what is left of a phase's lines
pub lines_next : (phase k : ℕ) (threads : Phase) (calls : Thread) (xs ys : List (List (Placed Reply))) (done : List (Placed Reply)) → xs ≡ done ∷ ys
    → calls ≡ get_or threads k calls → k < length threads
    → phase_lines phase (suc k) (drop k threads) xs ≡ thread_lines phase (suc k) calls done ++ phase_lines phase (suc (suc k)) (drop (k + 1) threads) ys
lines_next phase k threads calls xs ys done e is lt =
    let more : suc k ≡ k + 1 = omega arith in
    λ i. phase_lines phase (suc k) ((drop-cons threads k calls lt ∙ (λ j. sym is j ∷ drop (more j) threads)) i) (e i)

pub no_lines : (phase t : ℕ) (threads : Phase) → phase_lines phase t threads [] ≡ []
no_lines phase t [] = refl
no_lines phase t (calls ∷ threads) = refl
