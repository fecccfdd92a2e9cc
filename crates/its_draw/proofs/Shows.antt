-- One line more is shown.
use Rattle.std.proofs.Common.{◌≡◌, ℕ, suc, ◌+◌, ◌<◌, ◌≤◌, List, [], ◌∷◌, ◌++◌, length, take, get_or, map, Some, refl, sym, ap, subst}
use Rattle.std.proofs.Common.{◌∙◌, arith, append_assoc}
use Rattle.std.proofs.lemmas.List.{take_more, take_all, map-append}
use Rattle.its_plain.specs.Answer.{answer}
use Rattle.its_plain.specs.History.{IsLegal, after}
use Rattle.its_plain.specs.Plain.{Plain}
use Rattle.its_plain.specs.Runs.{Leg, IsLegRun, ArePartOfPhases}
use Rattle.its_plain.specs.declared.call.Entry.{Entry}
use Rattle.its_history.specs.Histories.{Seat}
use Rattle.its_history.specs.declared.trace.EntryLine.{EntryLine}
use Rattle.trace_check.specs.Cursors.{Progress, next_call, opened, taken, more}
use Rattle.trace_check.specs.Differences.{seat, lines as run_lines}
use Rattle.trace_check.proofs.Exact.{run_part}
use Rattle.trace_check.proofs.Following.{HasNext, has_next}
use Rattle.trace_check.proofs.Going.{IsAt, IsSettled, at_first, at_opened, opened_settled, at_taken, settled_settled}
use Rattle.trace_check.proofs.LinesOf.{NthOf, many_lines, next_is, nth}
use Rattle.trace_check.proofs.Lists.{after_more, legal_reply}
use Rattle.trace_check.proofs.Parts.{part_front}
use Rattle.its_draw.specs.Marks.{mark_of}
use Rattle.its_draw.specs.Replays.{ShowsNext, ShowsRun, entry_mark, lines, marks, marks_of, shown_mark, shown_told, told, told_of}
use Rattle.its_draw.specs.declared.drawing.Shown.{Shown}

-- ---- lists

map_more : {A B : Type 0} (f : A → B) (xs : List A) (x : A) → map f (xs ++ x ∷ []) ≡ map f xs ++ f x ∷ []
map_more f xs x = map-append f xs (x ∷ [])

map_taken : {A B : Type 0} (f : A → B) (xs : List A) (k : ℕ) (x : A) → k < length xs → x ≡ get_or xs k x → map f (take (k + 1) xs) ≡ map f (take k xs) ++ f x ∷ []
map_taken f xs k x lt is = ap (map f) (take_more xs k x lt ∙ (λ i. take k xs ++ sym is i ∷ [])) ∙ map_more f (take k xs) x

-- ---- lines

pub told_more : (entries : List EntryLine) (k : ℕ) (line : EntryLine) → k < length entries → line ≡ get_or entries k line → (shown : List Shown) (s : Shown)
    → told shown ≡ lines (take k entries) → shown_told s ≡ told_of line → told (shown ++ s ∷ []) ≡ lines (take (k + 1) entries)
told_more entries k line lt is shown s before here =
    map_more shown_told shown s ∙ ((λ i. before i ++ here i ∷ []) ∙ sym (map_taken told_of entries k line lt is))

-- ---- runs of a leg

-- the first k calls of this one are made and shown
pub record StandsAt (first : Plain) (leg : Leg) (h : List Entry) (k : ℕ) (shown : List Shown) (now : Plain) (p : Progress) : Type 0 where
  pub marks_are : marks shown ≡ marks_of (take k h)
  pub now_is : now ≡ after first (take k h)
  pub is_at : IsAt leg (take k h) p
  pub is_settled : IsSettled p

-- those of each run that has these lines are
abbrev pub Going : Plain → Leg → List EntryLine → ℕ → List Shown → Plain → Progress → Type 0
Going first leg entries k shown now p = (h : List Entry) → IsLegRun first leg h → entries ≡ run_lines leg h → StandsAt first leg h k shown now p

pub going_none : (first : Plain) (leg : Leg) (entries : List EntryLine) (p : Progress) → p ≡ opened 1 leg → Going first leg entries 0 [] first p
going_none first leg entries p new = λ h run same. record {
  marks_are = refl;
  now_is = refl;
  is_at = subst (IsAt leg []) (sym new) (at_opened leg [] 1 leg (at_first leg));
  is_settled = subst IsSettled (sym new) (opened_settled 1 leg);
}

module _ (first : Plain) (leg : Leg) (entries : List EntryLine) (k : ℕ) (shown : List Shown) (u : Plain) (p : Progress)
    (g : Going first leg entries k shown u p) where
  pub going_more : (line : EntryLine) (s : Shown) (w : Plain) (q : Progress) → k < length entries → line ≡ get_or entries k line → ShowsNext u p line s w q
      → Going first leg entries (k + 1) (shown ++ s ∷ []) w q
  going_more line s w q lt at_k shows = λ h run same.
      let at = g h run same in
      let before : List Entry = take k h in
      let r : NthOf (λ pass. seat leg pass) h k line = nth (λ pass. seat leg pass) 0 h k line (subst (λ (ls : List EntryLine). k < length ls) same lt)
      (subst (λ (ls : List EntryLine). line ≡ get_or ls k line) same at_k) in
      let e : Entry = r.entry in
      let one : k + 1 ≡ suc k = omega arith in
      let front : take (k + 1) h ≡ before ++ e ∷ [] = ap (λ n. take n h) one ∙ r.front in
      let calls : ArePartOfPhases 1 leg ((before ++ e ∷ []) ++ r.rest) =
      subst (ArePartOfPhases 1 leg) (r.cut ∙ sym (append_assoc before (e ∷ []) r.rest)) (run_part first leg h run).calls in
      let n : HasNext leg before p at.is_at e = has_next leg before p at.is_at at.is_settled e (part_front 1 leg (before ++ e ∷ []) r.rest calls) in
      let phase : line.phase ≡ p.number = r.phase ∙ ap (λ (t : Seat). t.0) n.seat_is in
      let thread : line.thread ≡ suc n.thread = r.thread ∙ ap (λ (t : Seat). t.1) n.seat_is in
      let next : next_call p line.phase line.thread ≡ Some (n.thread, e.call) = (λ d. next_call p (phase d) (thread d)) ∙ next_is p n.thread e.call n.call in
      let made = shows n.thread e.call next in
      let reply : e.reply ≡ (answer (after first before) e.call).0 = legal_reply first before e r.rest (subst (IsLegal first) r.cut run.legal) in
      let replied : (answer u e.call).0 ≡ e.reply = ap (λ (x : Plain). (answer x e.call).0) at.now_is ∙ sym reply in
      let mark : s.mark ≡ entry_mark e = made.0 ∙ ap (mark_of e.call) replied in
      let is_at : IsAt leg (before ++ e ∷ []) (taken n.thread p) = at_taken leg before p n.thread e at.is_at n.call n.pass in
      record {
        marks_are = map_more shown_mark shown s
            ∙ ((λ d. at.marks_are d ++ mark d ∷ []) ∙ sym (ap marks_of front ∙ map_more entry_mark before e));
        now_is = made.1 ∙ (ap (λ (x : Plain). (answer x e.call).1) at.now_is ∙ sym (ap (after first) front ∙ after_more first before e));
        is_at = subst (λ (z : List Entry × Progress). IsAt leg z.0 z.1) (λ d. (sym front d, sym made.2 d)) is_at;
        is_settled = subst IsSettled (sym made.2) (settled_settled p.number p.phases (more p.answered n.thread));
      }

  pub going_all : length entries ≤ k → ShowsRun first leg entries [] shown u
  going_all le = λ h run same.
      let at = g h run same in
      let long : length entries ≡ length h = ap length same ∙ many_lines leg h in
      let all : take k h ≡ h = take_all k h (omega (arith, le, long)) in
      (at.marks_are ∙ ap marks_of all, at.now_is ∙ ap (after first) all)
