-- What a merge by place gives.
use Rattle.std.proofs.Common.{◌≡◌, ◌≢◌, ℕ, zero, suc, ◌+◌, ◌<◌, ◌≤◌, cond, List, [], ◌∷◌, ◌++◌, refl, ap, sym, subst, ◌∙◌, arith, eq-eqb, ne_eqb}
use mathlib.Core.Logic.{dite}
use native.Mathlib.Decide.{ℕ_discrete}
use Rattle.std.specs.List.{AllByRecursion}
use Rattle.std.specs.List.Sorted.{IsPermutation}
use Rattle.std.proofs.lemmas.List.Sorted.{IsPermutation-refl, IsPermutation-cons, IsPermutation-append_right, IsPermutation-middle, IsPermutation-trans}
use Rattle.std.proofs.lemmas.List.Sorted.{IsPermutation-sym}
use Rattle.its_types.specs.declared.machine.Placed.{Placed}
use Rattle.its_plain.specs.declared.call.Call.{Call}
use Rattle.its_plain.specs.declared.call.Entry.{Entry}
use Rattle.its_plain.specs.declared.call.Reply.{Reply}
use Rattle.its_plain.specs.History.{calls_by}
use Rattle.its_plain.specs.Runs.{IsOfPasses}
use Rattle.its_history.specs.declared.trace.EntryLine.{EntryLine}
use Rattle.its_history.specs.Report.{line_of}
use Rattle.its_history.specs.Merged.{thread_lines}
use Rattle.its_history.specs.Histories.{Seat, entry_line, history_lines, pass_lines, passes_lines, replies_by, ThreadGives, MergeGives}
use Rattle.its_history.proofs.Unique.{Each, Increasing, sorted_unique}

-- ---- one pass

lines_here : (seat : ℕ → Seat) (m n : ℕ) (e : Entry) (h : List Entry) → e.pass ≡ m → pass_lines seat m n (e ∷ h) ≡ entry_line seat n e ∷ pass_lines seat m
    (suc n) h
lines_here seat m n e h is = ap (λ b. cond b (entry_line seat n e ∷ pass_lines seat m (suc n) h) (pass_lines seat m (suc n) h)) (eq-eqb e.pass m is)

lines_else : (seat : ℕ → Seat) (m n : ℕ) (e : Entry) (h : List Entry) → e.pass ≢ m → pass_lines seat m n (e ∷ h) ≡ pass_lines seat m (suc n) h
lines_else seat m n e h ne = ap (λ b. cond b (entry_line seat n e ∷ pass_lines seat m (suc n) h) (pass_lines seat m (suc n) h)) (ne_eqb e.pass m ne)

calls_here : (m : ℕ) (e : Entry) (h : List Entry) → e.pass ≡ m → calls_by m (e ∷ h) ≡ e.call ∷ calls_by m h
calls_here m e h is = ap (λ b. cond b (e.call ∷ calls_by m h) (calls_by m h)) (eq-eqb e.pass m is)

calls_else : (m : ℕ) (e : Entry) (h : List Entry) → e.pass ≢ m → calls_by m (e ∷ h) ≡ calls_by m h
calls_else m e h ne = ap (λ b. cond b (e.call ∷ calls_by m h) (calls_by m h)) (ne_eqb e.pass m ne)

abbrev placed : ℕ → Entry → Placed Reply
placed n e = record { place = n; reply = e.reply }

replies_here : (m n : ℕ) (e : Entry) (h : List Entry) → e.pass ≡ m → replies_by m n (e ∷ h) ≡ placed n e ∷ replies_by m (suc n) h
replies_here m n e h is = ap (λ b. cond b (placed n e ∷ replies_by m (suc n) h) (replies_by m (suc n) h)) (eq-eqb e.pass m is)

replies_else : (m n : ℕ) (e : Entry) (h : List Entry) → e.pass ≢ m → replies_by m n (e ∷ h) ≡ replies_by m (suc n) h
replies_else m n e h ne = ap (λ b. cond b (placed n e ∷ replies_by m (suc n) h) (replies_by m (suc n) h)) (ne_eqb e.pass m ne)

no_replies : (phase thread : ℕ) (cs : List Call) → thread_lines phase thread cs [] ≡ []
no_replies phase thread [] = refl
no_replies phase thread (c ∷ cs) = refl

pub thread_gives_it : ThreadGives
thread_gives_it seat m n [] later = no_replies (seat m).0 (seat m).1 later
thread_gives_it seat m n (e ∷ h) later =
    let lines : List Call → List (Placed Reply) → List EntryLine = λ cs rs. thread_lines (seat m).0 (seat m).1 (cs ++ later) rs in
    let rest = thread_gives_it seat m (suc n) h later in
    dite (ℕ_discrete e.pass m)
    (λ is. ap (λ cs. lines cs (replies_by m n (e ∷ h))) (calls_here m e h is) ∙ ap (lines (e.call ∷ calls_by m h)) (replies_here m n e h is)
    ∙ ap (λ (k : ℕ). line_of n (seat k).0 (seat k).1 e.call e.reply ∷ lines (calls_by m h) (replies_by m (suc n) h)) (sym is)
    ∙ ap (λ ls. entry_line seat n e ∷ ls) rest ∙ sym (lines_here seat m n e h is))
    (λ ne. ap (λ cs. lines cs (replies_by m n (e ∷ h))) (calls_else m e h ne) ∙ ap (lines (calls_by m h)) (replies_else m n e h ne) ∙ rest
    ∙ sym (lines_else seat m n e h ne))

-- ---- all passes

-- an entry of an earlier pass is in none of them
passes_else : (seat : ℕ → Seat) (m count n : ℕ) (e : Entry) (h : List Entry) → e.pass < m → passes_lines seat m count n (e ∷ h) ≡ passes_lines seat m count
    (suc n) h
passes_else seat m zero n e h lt = refl
passes_else seat m (suc count) n e h lt = let ne : e.pass ≢ m = λ s. absurd (omega arith) in
    λ d. lines_else seat m n e h ne d ++ passes_else seat (suc m) count n e h (omega arith) d

passes_nil : (seat : ℕ → Seat) (m count n : ℕ) → passes_lines seat m count n [] ≡ []
passes_nil seat m zero n = refl
passes_nil seat m (suc count) n = passes_nil seat (suc m) count n

-- an entry of one of the passes stands once among their lines
passes_one : (seat : ℕ → Seat) (m count n : ℕ) (e : Entry) (h : List Entry) → m ≤ e.pass → e.pass < m + count
    → IsPermutation (passes_lines seat m count n (e ∷ h)) (entry_line seat n e ∷ passes_lines seat m count (suc n) h)
passes_one seat m zero n e h le lt = absurd (omega arith)
passes_one seat m (suc count) n e h le lt =
    let line = entry_line seat n e in
    let mine = pass_lines seat m (suc n) h in
    let others = passes_lines seat (suc m) count n (e ∷ h) in
    let later = passes_lines seat (suc m) count (suc n) h in
    dite (ℕ_discrete e.pass m)
    (λ is. subst (λ (xs : List EntryLine). IsPermutation xs (line ∷ mine ++ later))
    (sym (λ d. lines_here seat m n e h is d ++ passes_else seat (suc m) count n e h (omega arith) d))
    (IsPermutation-refl (line ∷ mine ++ later)))
    (λ ne. subst (λ (xs : List EntryLine). IsPermutation (xs ++ others) (line ∷ mine ++ later))
    (sym (lines_else seat m n e h ne))
    (IsPermutation-trans (mine ++ others) (mine ++ line ∷ later) (line ∷ mine ++ later)
    (IsPermutation-append_right mine others (line ∷ later) (passes_one seat (suc m) count n e h (omega (arith, ne)) (omega arith)))
    (IsPermutation-middle mine line later)))

-- the lines of all passes are the history's in another order
pub passes_all : (seat : ℕ → Seat) (m count n : ℕ) (h : List Entry) → AllByRecursion (IsOfPasses m count) h → IsPermutation (passes_lines seat m count n h)
    (history_lines seat n h)
passes_all seat m count n [] of = subst (λ (xs : List EntryLine). IsPermutation xs []) (sym (passes_nil seat m count n)) (IsPermutation-refl [])
passes_all seat m count n (e ∷ h) of =
    let line = entry_line seat n e in
    IsPermutation-trans (passes_lines seat m count n (e ∷ h)) (line ∷ passes_lines seat m count (suc n) h) (history_lines seat n (e ∷ h))
    (passes_one seat m count n e h of.0.0 of.0.1) (IsPermutation-cons line (passes_lines seat m count (suc n) h) (history_lines seat (suc n) h)
    (passes_all seat m count (suc n) h of.1))

increasing : (seat : ℕ → Seat) (n : ℕ) (h : List Entry) → Increasing (λ (l : EntryLine). l.place) (history_lines seat n h)
increasing seat n [] = tt
increasing seat n (e ∷ h) = (above n (suc n) h (omega arith), increasing seat (suc n) h)
  where
    above : (k n : ℕ) (h : List Entry) → k < n → Each (λ (l : EntryLine). k < l.place) (history_lines seat n h)
    above k n [] lt = tt
    above k n (e ∷ h) lt = (lt, above k (suc n) h (omega arith))

pub merge_gives_it : MergeGives
merge_gives_it seat m count n h lines of same rises =
    let passes = passes_lines seat m count n h in
    let whole = history_lines seat n h in
    sorted_unique (λ (l : EntryLine). l.place) whole lines (increasing seat n h)
    (IsPermutation-trans whole passes lines (IsPermutation-sym passes whole (passes_all seat m count n h of)) same) rises
