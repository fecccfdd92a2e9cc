-- A leg, call by call.
use Rattle.std.proofs.Common.{◌≡◌, ℕ, suc, ◌+◌, ◌<◌, ◌≤◌, true, false, List, [], ◌∷◌, ◌++◌, length, drop, get_or, Some, None, refl, sym, ap, subst, ◌∙◌, arith}
use Rattle.std.proofs.Common.{append_assoc, length-append}
use Rattle.std.proofs.lemmas.List.{drop_more, drop_all}
use mathlib.Core.Logic.{dite}
use native.Mathlib.Decide.{ℕ_discrete}
use Rattle.its_plain.specs.Plain.{Plain}
use Rattle.its_plain.specs.Answer.{answer}
use Rattle.its_plain.specs.History.{IsLegal, after}
use Rattle.its_plain.specs.Runs.{Phase, Leg, ArePhases, ArePartOfPhases, call_count}
use Rattle.its_plain.specs.declared.call.Call.{Call}
use Rattle.its_plain.specs.declared.call.Entry.{Entry}
use Rattle.its_history.specs.Histories.{Seat, history_lines, entry_line}
use Rattle.its_history.specs.Texts.{answered_text}
use Rattle.its_history.specs.declared.trace.EntryLine.{EntryLine}
use Rattle.trace_check.specs.Cursors.{Progress, at, threads_of, zeros, open_count, call_of, more}
use Rattle.trace_check.specs.Differences.{seat, lines}
use Rattle.trace_check.specs.Steps.{right_text}
use Rattle.trace_check.proofs.Lists.{after_more, legal_more}
use Rattle.trace_check.proofs.Taken.{some_open, taken_more}
use Rattle.trace_check.proofs.Following.{entry_of, seat_is_here}
use Rattle.trace_check.proofs.Going.{IsAt, at_first, at_later, at_part, at_end}
use Rattle.its_web.specs.Played.{IsPlayed, IsLine}
use Rattle.its_web.specs.declared.turns.Next.{Next}
use Rattle.its_web.proofs.Left.{left, first_left, closed_left, one_less}

-- ---- the phases from the i-th on, of which the first has made so many calls

abbrev from : Leg → ℕ → List ℕ → Progress
from leg i ns = at (i + 1) (drop i leg) ns

-- the lines are those of the calls so far
pub record Gone (last : ℕ) (first : Plain) (leg : Leg) (ls : List EntryLine) (now : Plain) (i : ℕ) (ns : List ℕ) : Type 0 where
  pub history : List Entry
  pub legal : IsLegal first history
  pub count : length ls ≡ length history
  pub now_is : now ≡ after first history
  pub lines_are : ls ≡ lines leg history
  pub is_at : IsAt leg history (from leg i ns)
  pub left_is : length history + left (drop i leg) ns ≡ call_count leg
  pub fits : length history ≤ last

-- none of that phase is made
abbrev pub Begins : ℕ → Plain → Leg → List EntryLine → Plain → ℕ → Type 0
Begins last first leg ls now i = Gone last first leg ls now i (zeros (threads_of (drop i leg)))

pub gone_none : (last : ℕ) (first : Plain) (leg : Leg) → Begins last first leg [] first 0
gone_none last first leg = record {
  history = [];
  legal = tt;
  count = refl;
  now_is = refl;
  lines_are = refl;
  is_at = at_first leg;
  left_is = omega (arith, first_left leg);
  fits = omega arith;
}

-- ---- one more call

lines_more : (s : ℕ → Seat) (n : ℕ) (h : List Entry) (e : Entry) → history_lines s n (h ++ e ∷ []) ≡ history_lines s n h ++ entry_line s (n + length h) e ∷ []
lines_more s n [] e = let z : n ≡ n + 0 = omega arith in ap (λ k. entry_line s k e ∷ []) z
lines_more s n (x ∷ h) e =
    let z : suc n + length h ≡ n + suc (length h) = omega arith in
    ap (λ ls. entry_line s n x ∷ ls) (lines_more s (suc n) h e ∙ ap (λ k. history_lines s (suc n) h ++ entry_line s k e ∷ []) z)

at_one : (leg : Leg) (h : List Entry) (n : ℕ) (phases : Leg) (ns : List ℕ) (i : ℕ) (e : Entry) → (a : IsAt leg h (at n phases ns))
    → call_of (threads_of phases) ns i ≡ Some e.call → e.pass ≡ suc a.base + i → IsAt leg (h ++ e ∷ []) (at n phases (more ns i))
at_one leg h n phases ns i e a call is =
    let one : (x g : List Entry) → (x ++ e ∷ []) ++ g ≡ x ++ (e ∷ g) = λ x g. append_assoc x (e ∷ []) g in
    record {
      now = a.now ++ e ∷ [];
      base = a.base;
      whole = λ g p. subst (ArePhases 1 leg) (sym (one h g)) (a.whole (e ∷ g) (subst (ArePhases (suc a.base) phases) (one a.now g) p));
      part = λ g p. subst (ArePartOfPhases 1 leg) (sym (one h g)) (a.part (e ∷ g) (subst (ArePartOfPhases (suc a.base) phases) (one a.now g) p));
      back = λ g p. subst (ArePartOfPhases (suc a.base) phases) (sym (one a.now g)) (a.back (e ∷ g) (subst (ArePartOfPhases 1 leg) (one h g) p));
      seats = a.seats;
      is_taken = taken_more (suc a.base) (threads_of phases) a.now ns i e a.is_taken call is;
    }

no_open : (threads : Phase) (ns : List ℕ) → ((t : ℕ) → call_of threads ns t ≡ None) → open_count threads ns ≡ 0
no_open threads ns none =
    dite (ℕ_discrete (open_count threads ns) 0) (λ closed. closed) (λ some.
    let s = some_open 0 threads [] ns (omega (arith, some)) in
    absurd (let z : None ≡ Some s.1 = sym (none s.0) ∙ s.2 in cc z))

module _ (last : ℕ) (first : Plain) (leg : Leg) (ls : List EntryLine) (u : Plain) (i : ℕ) (ns : List ℕ) (gone : Gone last first leg ls u i ns) where
  pub gone_more : (next : Next) (line : EntryLine) (w : Plain) → call_of (threads_of (drop i leg)) ns next.thread ≡ Some next.call → length ls < last
      → IsLine (length ls) i next (right_text u next.call) line → w ≡ (answer u next.call).1
      → Gone last first leg (ls ++ line ∷ []) w i (more ns next.thread)
  gone_more next line w found room told state =
      let h = gone.history in let t = next.thread in let a = gone.is_at in
      let e : Entry = entry_of (suc a.base + t) (after first h) next.call in
      let longer : length (h ++ e ∷ []) ≡ suc (length h) = length-append h (e ∷ []) ∙ omega arith in
      let text : answered_text e.call e.reply ≡ right_text u next.call = ap (λ (x : Plain). right_text x next.call) (sym gone.now_is) in
      let thread : line.thread ≡ suc t = told.thread_is ∙ omega arith in
      let here : (line.phase, line.thread) ≡ seat leg e.pass = (λ j. (told.phase_is j, thread j))
      ∙ sym (seat_is_here leg h (from leg i ns) a t next.call found) in
      let line_is : line ≡ entry_line (λ pass. seat leg pass) (length h) e = λ j. record {
        place = (told.place_is ∙ gone.count) j;
        phase = (here j).0;
        thread = (here j).1;
        text = (told.text_is ∙ sym text) j;
      } in
      let z : 0 + length h ≡ length h = omega arith in
      record {
        history = h ++ e ∷ [];
        legal = legal_more first h e gone.legal refl;
        count = omega (arith, length-append ls (line ∷ []), longer, gone.count);
        now_is = state ∙ (ap (λ (x : Plain). (answer x next.call).1) gone.now_is ∙ sym (after_more first h e));
        lines_are = (λ j. gone.lines_are j ++ line_is j ∷ [])
            ∙ sym (lines_more (λ pass. seat leg pass) 0 h e ∙ ap (λ m. lines leg h ++ entry_line (λ pass. seat leg pass) m e ∷ []) z);
        is_at = at_one leg h (i + 1) (drop i leg) ns t e a found refl;
        left_is = omega (arith, gone.left_is, longer, one_less (drop i leg) ns t next.call found);
        fits = omega (arith, longer, room, gone.count);
      }

  -- a call has no place
  pub gone_spent : (next : Next) → call_of (threads_of (drop i leg)) ns next.thread ≡ Some next.call → last ≤ length ls → IsPlayed last first leg ls true u
  gone_spent next found full = record {
    history = gone.history;
    part = record { legal = gone.legal; calls = at_part leg gone.history (from leg i ns) gone.is_at };
    lines_are = gone.lines_are;
    now_is = gone.now_is;
    whole = λ x. absurd cc;
    fits = λ x. absurd cc;
    full = λ _. omega (arith, gone.fits, gone.count, full);
    more = λ _. omega (arith, gone.left_is, gone.count, full, one_less (drop i leg) ns next.thread next.call found);
  }

  -- the phase is over
  pub gone_on : (threads : Phase) → i < length leg → threads ≡ get_or leg i threads → ((t : ℕ) → call_of threads ns t ≡ None)
      → Begins last first leg ls u (i + 1)
  gone_on threads lt here none =
      let later : Leg = drop (i + 1) leg in
      let cut : drop i leg ≡ threads ∷ later = drop_more leg i threads lt ∙ ap (λ (t : Phase). t ∷ later) (sym here) in
      let a : IsAt leg gone.history (at (i + 1) (threads ∷ later) ns) = subst (λ (phases : Leg). IsAt leg gone.history (at (i + 1) phases ns)) cut gone.is_at in
      let closed : open_count threads ns ≡ 0 = no_open threads ns none in
      record {
        history = gone.history;
        legal = gone.legal;
        count = gone.count;
        now_is = gone.now_is;
        lines_are = gone.lines_are;
        is_at = at_later leg gone.history (i + 1) threads later ns a closed;
        left_is = omega (arith, gone.left_is, ap (λ (phases : Leg). left phases ns) cut, closed_left threads ns closed, first_left later);
        fits = gone.fits;
      }

pub gone_whole : (last : ℕ) (first : Plain) (leg : Leg) (ls : List EntryLine) (u : Plain) (i : ℕ) → Begins last first leg ls u i → length leg ≤ i
    → IsPlayed last first leg ls false u
gone_whole last first leg ls u i gone over =
    let none : drop i leg ≡ [] = drop_all i leg over in
    let ns = zeros (threads_of (drop i leg)) in
    record {
      history = gone.history;
      part = record { legal = gone.legal; calls = at_part leg gone.history (from leg i ns) gone.is_at };
      lines_are = gone.lines_are;
      now_is = gone.now_is;
      whole = λ _. record { legal = gone.legal; calls = at_end leg gone.history (from leg i ns) gone.is_at none };
      fits = λ _. omega (arith, gone.left_is, first_left (drop i leg), ap (λ (phases : Leg). call_count phases) none, gone.fits);
      full = λ e. absurd cc;
      more = λ e. absurd cc;
    }
