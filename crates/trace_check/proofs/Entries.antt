-- The entries of a leg, one after another.
use Rattle.std.proofs.Common.{◌≡◌, ℕ, zero, suc, ◌+◌, ◌<◌, ◌≤◌, List, [], ◌∷◌, ◌++◌, length, take, drop, get_or, Some, None, refl, sym, ap, subst, ◌∙◌, inl}
use Rattle.std.proofs.Common.{inr, arith, length-append}
use Rattle.std.specs.Prelude.{codes}
use Rattle.std.proofs.lemmas.List.{take_more, take_all, take-append-drop, drop_more}
use Rattle.its_plain.specs.Plain.{Plain}
use Rattle.its_plain.specs.Answer.{answer}
use Rattle.its_plain.specs.History.{IsLegal, after}
use Rattle.its_plain.specs.Runs.{Leg}
use Rattle.its_plain.specs.declared.call.Call.{Call}
use Rattle.its_plain.specs.declared.call.Entry.{Entry}
use Rattle.its_history.specs.Histories.{Seat, history_lines, entry_line}
use Rattle.its_history.specs.ReadBack.{ArePlaced}
use Rattle.its_history.specs.Report.{told_text}
use Rattle.its_history.specs.Texts.{answered_text}
use Rattle.its_history.specs.declared.trace.EntryLine.{EntryLine}
use Rattle.trace_check.specs.Cursors.{threads_of, opened, more}
use Rattle.trace_check.specs.Fields.{progress, call_in, IsCounted, HasCall}
use Rattle.trace_check.specs.Differences.{seat, lines, IsOther, IsNone, entry_told, line_told}
use Rattle.trace_check.specs.Steps.{right_text, IsRight, HasOtherText, HasNoCall, IsWrong, AreEntries, EntriesDiffer}
use Rattle.trace_check.specs.declared.cursor.Cursor.{Cursor}
use Rattle.trace_check.specs.declared.verdict.Difference.{Difference}
use Rattle.trace_check.proofs.Lists.{after_more}
use Rattle.trace_check.proofs.Counting.{has_left}
use Rattle.trace_check.proofs.Going.{IsAt, IsSettled, at_first, at_opened, opened_settled, settled_settled, at_part, at_end}
use Rattle.trace_check.proofs.Following.{IsNext, next_means, none_follows, Goes, goes, all_answered}

-- ---- calls of the cursor

pub has_call : (c : Cursor) (i : ℕ) (call : Call) → call_in c i ≡ Some call → HasCall c i
has_call c i call e = let h = has_left (threads_of c.phases.now) c.answered.items i call e in record { below = h.0; left = h.1 }

-- ---- lines

pub placed_at : (n : ℕ) (ls : List EntryLine) (k : ℕ) (line : EntryLine) → ArePlaced n ls → k < length ls → line ≡ get_or ls k line → line.place ≡ n + k
placed_at n [] k line p lt is = absurd (omega arith)
placed_at n (l ∷ ls) zero line p lt is = (λ i. (is i).place) ∙ (p.0 ∙ omega arith)
placed_at n (l ∷ ls) (suc k) line p lt is = placed_at (n + 1) ls k line p.1 (omega arith) is ∙ omega arith

lines_more : (s : ℕ → Seat) (n : ℕ) (h : List Entry) (e : Entry) → history_lines s n (h ++ e ∷ []) ≡ history_lines s n h ++ entry_line s (n + length h) e ∷ []
lines_more s n [] e = let z : n ≡ n + 0 = omega arith in ap (λ k. entry_line s k e ∷ []) z
lines_more s n (x ∷ h) e =
    let z : suc n + length h ≡ n + suc (length h) = omega arith in
    ap (λ ls. entry_line s n x ∷ ls) (lines_more s (suc n) h e ∙ ap (λ k. history_lines s (suc n) h ++ entry_line s k e ∷ []) z)

cut_at : (ls : List EntryLine) (k : ℕ) (line : EntryLine) → k < length ls → line ≡ get_or ls k line → ls ≡ take k ls ++ line ∷ drop (k + 1) ls
cut_at ls k line lt is = sym (take-append-drop k ls) ∙ ap (λ rest. take k ls ++ rest) (drop_more ls k line lt ∙ ap (λ l. l ∷ drop (k + 1) ls) (sym is))

-- ---- the first k entries are right

pub record Went (first : Plain) (leg : Leg) (entries : List EntryLine) (k : ℕ) (now : Plain) (c : Cursor) : Type 0 where
  pub history : List Entry
  pub legal : IsLegal first history
  pub count : length history ≡ k
  pub now_is : now ≡ after first history
  pub lines_are : take k entries ≡ lines leg history
  pub is_at : IsAt leg history (progress c)
  pub is_settled : IsSettled (progress c)
  pub counted : IsCounted c

pub went_none : (first : Plain) (leg : Leg) (entries : List EntryLine) (c : Cursor) → progress c ≡ opened 1 leg → IsCounted c → Went first leg entries 0 first c
went_none first leg entries c new counted = record {
  history = [];
  legal = tt;
  count = refl;
  now_is = refl;
  lines_are = refl;
  is_at = subst (IsAt leg []) (sym new) (at_opened leg [] 1 leg (at_first leg));
  is_settled = subst IsSettled (sym new) (opened_settled 1 leg);
  counted = counted;
}

module _ (first : Plain) (leg : Leg) (entries : List EntryLine) (k : ℕ) (u : Plain) (c : Cursor) (went : Went first leg entries k u c) where
  -- ---- one entry more

  going : (i : ℕ) (call : Call) → call_in c i ≡ Some call → Goes first leg went.history (progress c) i call
  going i call e = goes first leg went.history (progress c) went.legal went.is_at i call e

  reply_is : (call : Call) → (answer (after first went.history) call).0 ≡ (answer u call).0
  reply_is call = ap (λ (x : Plain). (answer x call).0) (sym went.now_is)

  text_is : (i : ℕ) (call : Call) → (g : Goes first leg went.history (progress c) i call) → answered_text g.entry.call g.entry.reply ≡ right_text u call
  text_is i call g = (λ d. answered_text (g.is_entry d).call (g.is_entry d).reply) ∙ ap (answered_text call) (reply_is call)

  -- its line
  told_is : (i : ℕ) (call : Call) → (g : Goes first leg went.history (progress c) i call) → entry_told leg g.entry ≡ told_text c.number (suc i)
      (right_text u call)
  told_is i call g = (λ d. told_text (g.seat_is d).0 (g.seat_is d).1 (text_is i call g d))

  seat_line : (line : EntryLine) (i : ℕ) (call : Call) → (g : Goes first leg went.history (progress c) i call)
      → IsNext (progress c) line.phase line.thread i call → seat leg g.entry.pass ≡ (line.phase, line.thread)
  seat_line line i call g n = g.seat_is ∙ (λ d. (sym n.phase_is d, sym n.thread_is d))

  pub went_more : (line : EntryLine) (w : Plain) (d : Cursor) → ArePlaced 0 entries → k < length entries → line ≡ get_or entries k line
      → IsRight u (progress c) line w (progress d) → IsCounted d → Went first leg entries (k + 1) w d
  went_more line w d placed lt at_k right counted =
      let n = next_means (progress c) line.phase line.thread right.thread right.call right.next in
      let g = going right.thread right.call n.call_is in
      let place : line.place ≡ length went.history = placed_at 0 entries k line placed lt at_k ∙ omega (arith, went.count) in
      let here = seat_line line right.thread right.call g n in
      let text : line.text ≡ answered_text g.entry.call g.entry.reply = right.text ∙ sym (text_is right.thread right.call g) in
      let line_is : line ≡ entry_line (λ pass. seat leg pass) (length went.history) g.entry = λ j. record {
        place = place j;
        phase = (sym here j).0;
        thread = (sym here j).1;
        text = text j;
      } in
      let z : 0 + length went.history ≡ length went.history = omega arith in
      let call : g.entry.call ≡ right.call = λ j. (g.is_entry j).call in
      record {
        history = went.history ++ g.entry ∷ [];
        legal = g.next.legal;
        count = omega (arith, length-append went.history (g.entry ∷ []), went.count);
        now_is = right.state ∙ ((λ j. (answer (went.now_is j) (sym call j)).1) ∙ sym (after_more first went.history g.entry));
        lines_are = take_more entries k line lt
            ∙ ((λ j. went.lines_are j ++ (sym at_k ∙ line_is) j ∷ [])
            ∙ sym (lines_more (λ pass. seat leg pass) 0 went.history g.entry ∙ ap (λ m. lines leg went.history ++ entry_line (λ pass. seat leg pass) m g.entry
            ∷ []) z));
        is_at = subst (IsAt leg (went.history ++ g.entry ∷ [])) (sym right.progress) g.now;
        is_settled = subst IsSettled (sym right.progress) (settled_settled c.number c.phases.now (more c.answered.items right.thread));
        counted = counted;
      }

  -- ---- an entry that isn't right

  other : (line : EntryLine) (is : List ℕ) → HasOtherText u (progress c) line is → IsOther first leg went.history line is
  other line is o =
      let n = next_means (progress c) line.phase line.thread o.thread o.call o.next in
      let g = going o.thread o.call n.call_is in
      record {
        entry = g.entry;
        next = g.next;
        same_thread = seat_line line o.thread o.call g n;
        other_text = λ same. o.other (same ∙ text_is o.thread o.call g);
        is_entry = o.is_text ∙ ((λ j. told_text (n.phase_is j) (n.thread_is j) (right_text u o.call)) ∙ sym (told_is o.thread o.call g));
      }

  none : (line : EntryLine) (is : List ℕ) → HasNoCall (progress c) line is → IsNone first leg went.history line is
  none line is o = record {
    none = λ e here may. none_follows leg went.history (progress c) went.is_at went.is_settled line.phase line.thread o.next e here may.calls;
    is_nothing = o.is_nothing;
  }

  pub differs_here : (n : ℕ) (line : EntryLine) (d : Difference) → k < length entries → line ≡ get_or entries k line → IsWrong u (progress c) line d.is
      → d.leg ≡ n → d.place ≡ k → d.said ≡ line_told line → EntriesDiffer n first leg entries d
  differs_here n line d lt at_k wrong leg_is place said = record {
    leg_is = leg_is;
    differs = λ told same. inl (record {
      history = went.history;
      is_part = record { legal = went.legal; calls = at_part leg went.history (progress c) went.is_at };
      line = line;
      later = drop (k + 1) entries;
      entries = same ∙ (cut_at entries k line lt at_k ∙ ap (λ ls. ls ++ line ∷ drop (k + 1) entries) went.lines_are);
      place = place ∙ sym went.count;
      said = said;
      differs = elim wrong [ inl o ↦ inl (other line d.is o) | inr o ↦ inr (none line d.is o) ];
    });
  }

  -- ---- the end of the entries

  all_lines : length entries ≤ k → entries ≡ lines leg went.history
  all_lines le = sym (take_all k entries le) ∙ went.lines_are

  pub ends_early : (n i : ℕ) (call : Call) (d : Difference) → length entries ≤ k → k ≤ length entries → call_in c i ≡ Some call
      → ((j : ℕ) → j < i → call_in c j ≡ None)
      → d.leg ≡ n → d.place ≡ length entries → d.said ≡ codes "nothing" → d.is ≡ told_text c.number (suc i) (right_text u call)
      → EntriesDiffer n first leg entries d
  ends_early n i call d le ge found least leg_is place said is =
      let g = going i call found in
      record {
        leg_is = leg_is;
        differs = λ told same. inr (record {
          history = went.history;
          is_part = record { legal = went.legal; calls = at_part leg went.history (progress c) went.is_at };
          entries = same ∙ all_lines le;
          place = place ∙ omega (arith, went.count, le, ge);
          said = said;
          entry = g.entry;
          next = g.next;
          least = g.least least went.is_settled;
          is_entry = is ∙ sym (told_is i call g);
        });
      }

  pub all_right : length entries ≤ k → ((i : ℕ) → call_in c i ≡ None) → AreEntries first leg entries u
  all_right le gone =
      let over = all_answered leg went.history (progress c) went.is_at went.is_settled gone in
      record {
        history = went.history;
        is_run = record { legal = went.legal; calls = at_end leg went.history (progress c) went.is_at over };
        lines_are = all_lines le;
        now_is = went.now_is;
      }
