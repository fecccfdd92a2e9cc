-- One line more is followed, of a part of a leg.
use Rattle.std.proofs.Common.{◌≡◌, ℕ, suc, ◌+◌, ◌<◌, ◌≤◌, List, [], ◌∷◌, ◌++◌, length, take, get_or, Some, refl, sym, ap, subst}
use Rattle.std.proofs.Common.{◌∙◌, arith, append_assoc}
use Rattle.std.proofs.lemmas.List.{take_all}
use Rattle.its_plain.specs.Answer.{answer}
use Rattle.its_plain.specs.History.{after}
use Rattle.its_plain.specs.Plain.{Plain}
use Rattle.its_plain.specs.Runs.{Leg, IsPartOfLegRun, ArePartOfPhases}
use Rattle.its_plain.specs.declared.call.Entry.{Entry}
use Rattle.its_history.specs.Histories.{Seat}
use Rattle.its_history.specs.declared.trace.EntryLine.{EntryLine}
use Rattle.trace_check.specs.Cursors.{Progress, next_call, opened, taken, more}
use Rattle.trace_check.specs.Differences.{seat, lines}
use Rattle.report_places.specs.Reached.{Follows, Makes}
use Rattle.trace_check.proofs.Following.{HasNext, has_next}
use Rattle.trace_check.proofs.Going.{IsAt, IsSettled, at_first, at_opened, opened_settled, at_taken, settled_settled}
use Rattle.trace_check.proofs.LinesOf.{NthOf, many_lines, next_is, nth}
use Rattle.trace_check.proofs.Lists.{after_more}
use Rattle.trace_check.proofs.Parts.{part_front}

-- the first k calls of this history are made
pub record StandsAt (first : Plain) (leg : Leg) (h : List Entry) (k : ℕ) (now : Plain) (p : Progress) : Type 0 where
  pub now_is : now ≡ after first (take k h)
  pub is_at : IsAt leg (take k h) p
  pub is_settled : IsSettled p

-- those of each history that has these lines are
abbrev pub Going : Plain → Leg → List EntryLine → ℕ → Plain → Progress → Type 0
Going first leg entries k now p = (h : List Entry) → IsPartOfLegRun first leg h → entries ≡ lines leg h → StandsAt first leg h k now p

pub going_none : (first : Plain) (leg : Leg) (entries : List EntryLine) (p : Progress) → p ≡ opened 1 leg → Going first leg entries 0 first p
going_none first leg entries p new = λ h run same. record {
  now_is = refl;
  is_at = subst (IsAt leg []) (sym new) (at_opened leg [] 1 leg (at_first leg));
  is_settled = subst IsSettled (sym new) (opened_settled 1 leg);
}

module _ (first : Plain) (leg : Leg) (entries : List EntryLine) (k : ℕ) (u : Plain) (p : Progress) (g : Going first leg entries k u p) where
  pub going_more : (line : EntryLine) (w : Plain) (q : Progress) → k < length entries → line ≡ get_or entries k line → Makes u p line w q
      → Going first leg entries (k + 1) w q
  going_more line w q lt at_k makes = λ h run same.
      let at = g h run same in
      let before : List Entry = take k h in
      let r : NthOf (λ pass. seat leg pass) h k line = nth (λ pass. seat leg pass) 0 h k line (subst (λ (ls : List EntryLine). k < length ls) same lt)
      (subst (λ (ls : List EntryLine). line ≡ get_or ls k line) same at_k) in
      let e : Entry = r.entry in
      let one : k + 1 ≡ suc k = omega arith in
      let front : take (k + 1) h ≡ before ++ e ∷ [] = ap (λ n. take n h) one ∙ r.front in
      let calls : ArePartOfPhases 1 leg ((before ++ e ∷ []) ++ r.rest) =
      subst (ArePartOfPhases 1 leg) (r.cut ∙ sym (append_assoc before (e ∷ []) r.rest)) run.calls in
      let n : HasNext leg before p at.is_at e = has_next leg before p at.is_at at.is_settled e (part_front 1 leg (before ++ e ∷ []) r.rest calls) in
      let phase : line.phase ≡ p.number = r.phase ∙ ap (λ (t : Seat). t.0) n.seat_is in
      let thread : line.thread ≡ suc n.thread = r.thread ∙ ap (λ (t : Seat). t.1) n.seat_is in
      let next : next_call p line.phase line.thread ≡ Some (n.thread, e.call) = (λ d. next_call p (phase d) (thread d)) ∙ next_is p n.thread e.call n.call in
      let made = makes n.thread e.call next in
      let is_at : IsAt leg (before ++ e ∷ []) (taken n.thread p) = at_taken leg before p n.thread e at.is_at n.call n.pass in
      record {
        now_is = made.0 ∙ (ap (λ (x : Plain). (answer x e.call).1) at.now_is ∙ sym (ap (after first) front ∙ after_more first before e));
        is_at = subst (λ (z : List Entry × Progress). IsAt leg z.0 z.1) (λ d. (sym front d, sym made.1 d)) is_at;
        is_settled = subst IsSettled (sym made.1) (settled_settled p.number p.phases (more p.answered n.thread));
      }

  pub going_all : length entries ≤ k → Follows first leg entries u
  going_all le = λ h run same.
      let at = g h run same in
      let long : length entries ≡ length h = ap length same ∙ many_lines leg h in
      let all : take k h ≡ h = take_all k h (omega (arith, le, long)) in
      at.now_is ∙ ap (after first) all
