-- The lines of all passes of a history are as many, and tell as much, as its entries.
use Rattle.std.proofs.Common.{◌≡◌, ℕ, zero, suc, ◌+◌, ◌<◌, ◌≤◌, Bool, true, false, ◌&&◌, cond, eqb, List, [], ◌∷◌, ◌++◌, length, refl, sym, ap, ◌∙◌, inl, inr}
use Rattle.std.proofs.Common.{zero-add, arith}
use Rattle.std.specs.Prelude.{count_by}
use Rattle.std.specs.List.{AllByRecursion}
use Rattle.std.proofs.lemmas.Bool.{cond_both, cases_eq, eqb-true, eqb-false}
use Rattle.std.proofs.lemmas.List.Sums.{sum_by-cons}
use Rattle.its_types.specs.Bits.{bit}
use Rattle.its_types.specs.declared.machine.Placed.{Placed}
use Rattle.its_plain.specs.Runs.{IsOfPasses}
use Rattle.its_plain.specs.declared.call.Call.{Call}
use Rattle.its_plain.specs.declared.call.Entry.{Entry}
use Rattle.its_plain.specs.declared.call.Reply.{Reply}
use Rattle.its_history.specs.Histories.{Seat, entry_line, pass_lines, passes_lines}
use Rattle.its_history.specs.Merged.{thread_lines, list_lines, all_lines}
use Rattle.its_history.specs.declared.threads.ThreadList.{ThreadList}
use Rattle.its_history.specs.declared.trace.EntryLine.{EntryLine}
use Rattle.script_gen.specs.Summary.{is_signal, is_step, is_delivered, has_run, none, with_call, with_replies, with_lists, counts_of, ListsTellCounts}
use Rattle.script_gen.specs.Summary.{ListsTellLength}
use Rattle.script_gen.specs.declared.counts.Counts.{Counts}
use Rattle.script_gen.proofs.Told.{IsTold, tells_signal, tells_delivered, tells_step, tells_ran, signals_told, deliveries_told, steps_told, runs_told, any_told}

module _ (p : Call → Reply → Bool) (q : List ℕ → Bool) (told : IsTold p q) where
  -- how many entries pass, and how many lines tell that theirs does
  abbrev entries_passing : List Entry → ℕ
  entries_passing [] = 0
  entries_passing (e ∷ h) = bit (p e.call e.reply) + entries_passing h

  abbrev lines_telling : List EntryLine → ℕ
  lines_telling [] = 0
  lines_telling (l ∷ lines) = bit (q l.text) + lines_telling lines

  telling-append : (xs ys : List EntryLine) → lines_telling (xs ++ ys) ≡ lines_telling xs + lines_telling ys
  telling-append [] ys = sym (zero-add (lines_telling ys))
  telling-append (x ∷ xs) ys = let rest = telling-append xs ys in omega arith

  -- ---- lists

  abbrev calls_passing : List Call → List (Placed Reply) → ℕ
  calls_passing [] rs = 0
  calls_passing (c ∷ cs) [] = 0
  calls_passing (c ∷ cs) (r ∷ rs) = bit (p c r.reply) + calls_passing cs rs

  abbrev lists_passing : List ThreadList → ℕ
  lists_passing [] = 0
  lists_passing (l ∷ lists) = calls_passing l.calls.now l.replies + lists_passing lists

  calls_told : (phase thread : ℕ) (cs : List Call) (rs : List (Placed Reply)) → lines_telling (thread_lines phase thread cs rs) ≡ calls_passing cs rs
  calls_told phase thread [] rs = refl
  calls_told phase thread (c ∷ cs) [] = refl
  calls_told phase thread (c ∷ cs) (r ∷ rs) = let here = ap bit (told.same c r.reply) in let rest = calls_told phase thread cs rs in omega arith

  lists_told : (lists : List ThreadList) → lines_telling (all_lines lists) ≡ lists_passing lists
  lists_told [] = refl
  lists_told (l ∷ lists) =
      let here = calls_told l.phase l.thread l.calls.now l.replies in
      let rest = lists_told lists in
      let both = telling-append (list_lines l) (all_lines lists) in
      omega arith

  -- ---- passes

  -- one more entry, if it is of the pass
  abbrev weight : Entry → ℕ
  weight e = bit (p e.call e.reply)

  module _ (seat : ℕ → Seat) where
    of_pass : (pass n : ℕ) (e : Entry) (h : List Entry) → e.pass ≡ pass
        → lines_telling (pass_lines seat pass n (e ∷ h)) ≡ weight e + lines_telling (pass_lines seat pass (suc n) h)
    of_pass pass n e h same =
        let told_here = ap bit (told.same e.call e.reply) in
        cond_both (eqb e.pass pass) (entry_line seat n e ∷ pass_lines seat pass (suc n) h) (pass_lines seat pass (suc n) h)
        (λ lines. lines_telling lines ≡ weight e + lines_telling (pass_lines seat pass (suc n) h))
        (λ _. omega arith)
        (λ other. absurd (eqb-false e.pass pass other same))

    not_of_pass : (pass n : ℕ) (e : Entry) (h : List Entry) → (e.pass ≡ pass → ⊥)
        → lines_telling (pass_lines seat pass n (e ∷ h)) ≡ lines_telling (pass_lines seat pass (suc n) h)
    not_of_pass pass n e h other =
        cond_both (eqb e.pass pass) (entry_line seat n e ∷ pass_lines seat pass (suc n) h) (pass_lines seat pass (suc n) h)
        (λ lines. lines_telling lines ≡ lines_telling (pass_lines seat pass (suc n) h))
        (λ same. absurd (other (eqb-true e.pass pass same)))
        (λ _. refl)

    -- those of a number of passes
    parts : (m count n : ℕ) (h : List Entry)
        → lines_telling (passes_lines seat m (suc count) n h) ≡ lines_telling (pass_lines seat m n h) + lines_telling (passes_lines seat (suc m) count n h)
    parts m count n h = telling-append (pass_lines seat m n h) (passes_lines seat (suc m) count n h)

    before : (m count n : ℕ) (e : Entry) (h : List Entry) → e.pass < m
        → lines_telling (passes_lines seat m count n (e ∷ h)) ≡ lines_telling (passes_lines seat m count (suc n) h)
    before m zero n e h lt = refl
    before m (suc count) n e h lt =
        let first = not_of_pass m n e h (λ same. omega arith) in
        let rest = before (suc m) count n e h (omega arith) in
        let whole = parts m count n (e ∷ h) in
        let less = parts m count (suc n) h in
        omega arith

    within : (m count n : ℕ) (e : Entry) (h : List Entry) → m ≤ e.pass → e.pass < m + count
        → lines_telling (passes_lines seat m count n (e ∷ h)) ≡ weight e + lines_telling (passes_lines seat m count (suc n) h)
    within m zero n e h low high = absurd (omega arith)
    within m (suc count) n e h low high =
        let whole = parts m count n (e ∷ h) in
        let less = parts m count (suc n) h in
        elim (cases_eq e.pass m) [
          | inl same ↦
              let first = of_pass m n e h same in
              let rest = before (suc m) count n e h (omega arith) in
              omega arith
          | inr other ↦
              let first = not_of_pass m n e h other in
              let rest = within (suc m) count n e h (omega (arith, other)) (omega arith) in
              omega arith
        ]

    nothing : (m count n : ℕ) → lines_telling (passes_lines seat m count n []) ≡ 0
    nothing m zero n = refl
    nothing m (suc count) n = nothing (suc m) count n

    passes_told : (m count n : ℕ) (h : List Entry) → AllByRecursion (IsOfPasses m count) h → lines_telling (passes_lines seat m count n h) ≡ entries_passing h
    passes_told m count n [] all = nothing m count n
    passes_told m count n (e ∷ h) all =
        let here = within m count n e h all.0.0 all.0.1 in
        let rest = passes_told m count (suc n) h all.1 in
        omega arith

  -- ---- counts

  passing_counted : (h : List Entry) → entries_passing h ≡ count_by (λ (e : Entry). p e.call e.reply) h
  passing_counted [] = refl
  passing_counted (e ∷ h) =
      let one : bit (p e.call e.reply) ≡ cond (p e.call e.reply) 1 0 = elim (p e.call e.reply) as (λ b. bit b ≡ cond b 1 0) [ true ↦ refl | false ↦ refl ] in
      let rest = passing_counted h in
      let both = sum_by-cons (λ (x : Entry). cond (p x.call x.reply) 1 0) e h in
      omega arith

  module _ (f : Counts → ℕ) (adds : (c : Call) (r : Reply) (n : Counts) → f (with_call c r n) ≡ f n + bit (p c r)) where
    replies_counted : (cs : List Call) (rs : List (Placed Reply)) (n : Counts) → f (with_replies cs rs n) ≡ f n + calls_passing cs rs
    replies_counted [] rs n = omega arith
    replies_counted (c ∷ cs) [] n = omega arith
    replies_counted (c ∷ cs) (r ∷ rs) n = let here = adds c r.reply n in let rest = replies_counted cs rs (with_call c r.reply n) in omega arith

    lists_counted : (lists : List ThreadList) (n : Counts) → f (with_lists lists n) ≡ f n + lists_passing lists
    lists_counted [] n = omega arith
    lists_counted (l ∷ lists) n =
        let here = replies_counted l.calls.now l.replies n in
        let rest = lists_counted lists (with_replies l.calls.now l.replies n) in
        omega arith

    -- lists with the lines of all passes have the history's count
    counted : (seat : ℕ → Seat) (m count n : ℕ) (h : List Entry) (lists : List ThreadList) → f none ≡ 0 → AllByRecursion (IsOfPasses m count) h
        → all_lines lists ≡ passes_lines seat m count n h
        → f (with_lists lists none) ≡ count_by (λ (e : Entry). p e.call e.reply) h
    counted seat m count n h lists zero_first all same =
        let made = lists_counted lists none in
        let lines = lists_told lists in
        let passes = passes_told seat m count n h all in
        let count_is = passing_counted h in
        let lines_same = ap lines_telling same in
        omega arith

same_counts : (a b : Counts) → a.signals ≡ b.signals → a.delivered ≡ b.delivered → a.commands ≡ b.commands → a.ran ≡ b.ran → a ≡ b
same_counts a b p q r s = λ i. record { signals = p i; delivered = q i; commands = r i; ran = s i }

pub tell_counts : ListsTellCounts
tell_counts seat pass count place h lists all same =
    same_counts (with_lists lists none) (counts_of h)
    (counted (λ c r. is_signal c) tells_signal signals_told (λ n. n.signals) (λ c r n. refl) seat pass count place h lists refl all same)
    (counted (λ c r. is_signal c && is_delivered r) tells_delivered deliveries_told (λ n. n.delivered) (λ c r n. refl) seat pass count place h lists refl all
    same)
    (counted (λ c r. is_step c) tells_step steps_told (λ n. n.commands) (λ c r n. refl) seat pass count place h lists refl all same)
    (counted (λ c r. is_step c && has_run r) tells_ran runs_told (λ n. n.ran) (λ c r n. refl) seat pass count place h lists refl all same)

all_tell : (lines : List EntryLine) → lines_telling (λ c r. true) (λ text. true) any_told lines ≡ length lines
all_tell [] = refl
all_tell (l ∷ lines) = let rest = all_tell lines in omega arith

all_pass : (h : List Entry) → entries_passing (λ c r. true) (λ text. true) any_told h ≡ length h
all_pass [] = refl
all_pass (e ∷ h) = let rest = all_pass h in omega arith

pub tell_length : ListsTellLength
tell_length seat pass count place h lists all same =
    let passes = passes_told (λ c r. true) (λ text. true) any_told seat pass count place h all in
    ap length same ∙ sym (all_tell (passes_lines seat pass count place h)) ∙ passes ∙ all_pass h
