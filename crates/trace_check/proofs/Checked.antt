-- The legs of a report, one after another.
use Rattle.std.proofs.Common.{◌≡◌, ℕ, zero, suc, ◌+◌, ◌<◌, ◌≤◌, Bool, List, [], ◌∷◌, length, drop, get_or, Option, Some, None, Result, Ok, Err, refl, sym, ap}
use Rattle.std.proofs.Common.{subst, ◌∙◌, inl, inr, arith, IfOk}
use Rattle.std.proofs.lemmas.Bool.{cases_lt}
use Rattle.std.proofs.lemmas.List.{drop_more, drop_all, drop-drop, get_or_read, length-map, length-drop}
use Rattle.its_plain.specs.Plain.{Plain}
use Rattle.its_plain.specs.Answer.{answer}
use Rattle.its_plain.specs.History.{after}
use Rattle.its_plain.specs.Regions.{savable}
use Rattle.its_plain.specs.Runs.{Leg, IsLegRun}
use Rattle.its_plain.specs.Saved.{IsSavable, moved, saved, reloaded}
use Rattle.its_plain.specs.declared.call.Entry.{Entry}
use Rattle.its_history.specs.Histories.{Seat, history_lines}
use Rattle.its_history.specs.ReadBack.{ArePlaced, EndsBefore, HasLegShape, HasShape}
use Rattle.its_history.specs.Reading.{Move, move_after}
use Rattle.its_history.specs.Report.{end_text}
use Rattle.its_history.specs.Reports.{ended, copies_first, moved_end, moved_leg}
use Rattle.its_history.specs.declared.trace.End.{End}
use Rattle.its_history.specs.declared.trace.End.TheVariants.{Done}
use Rattle.its_history.specs.declared.trace.Leg.{Leg as LegLines}
use Rattle.trace_check.specs.Differences.{seat, IsHere, IsAtEnd, DiffersFrom, IsDifference, pending_texts}
use Rattle.trace_check.specs.Steps.{AreEntries, EntriesDiffer, IsLegRight, IsOtherPending, IsMigrated, IsEndWrong, IsEndRight, IsWhole, IsNotWhole}
use Rattle.trace_check.specs.Verdicts.{IsReportOfRun, IsVerdictFrom, IfAgrees, IfDiffers}
use Rattle.trace_check.specs.declared.verdict.Difference.{Difference}
use Rattle.trace_check.specs.declared.verdict.Verdict.{Verdict}
use Rattle.trace_check.specs.declared.verdict.Verdict.TheVariants.{Agrees, Differs}
use Rattle.trace_check.proofs.Exact.{exact_from}
use Rattle.trace_check.proofs.Redistributors.{answer_many}

-- ---- how many virtual processors there are

pub after_vcpus : (u : Plain) (h : List Entry) → length (after u h).redistributors ≡ length u.redistributors
after_vcpus u [] = refl
after_vcpus u (e ∷ h) = after_vcpus (answer u e.call).1 h ∙ answer_many u e.call

moved_vcpus : (u : Plain) → length (moved u).redistributors ≡ length u.redistributors
unfolding moved
moved_vcpus u = length-map u.redistributors (reloaded u.layout.shape (saved u))

-- ---- a leg

lines_long : (s : ℕ → Seat) (n : ℕ) (h : List Entry) → length (history_lines s n h) ≡ length h
lines_long s n [] = refl
lines_long s n (e ∷ h) = ap suc (lines_long s (suc n) h)

module _ (u : Plain) (leg : Leg) (t : LegLines) where
  pub entries_long : (w : Plain) → (a : AreEntries u leg t.entries w) → length t.entries ≡ length a.history
  entries_long w a = ap length a.lines_are ∙ lines_long (seat leg) 0 a.history

  pub entries_differ : (n : ℕ) (d : Difference) → EntriesDiffer n u leg t.entries d → IsHere n u leg t d
  entries_differ n d e = record {
    leg_is = e.leg_is;
    lines = elim (e.differs t refl) [ inl x ↦ inl x | inr y ↦ inr (inl y) ];
  }

  pub pending_differs : (n : ℕ) (w : Plain) (d : Difference) → (a : AreEntries u leg t.entries w) → IsOtherPending w t.pending d.said d.is → d.leg ≡ n
      → d.place ≡ length t.entries → IsHere n u leg t d
  pending_differs n w d a o leg_is place = record {
    leg_is = leg_is;
    lines = inr (inr (record {
      history = a.history;
      is_run = a.is_run;
      entries = a.lines_are;
      place = place ∙ entries_long w a;
      before = o.before;
      said_text = o.said_text;
      said_later = o.said_later;
      pending_said = o.pending_said;
      is_text = o.is_text;
      is_later = o.is_later;
      pending_is = ap pending_texts (sym a.now_is) ∙ o.pending_is;
      differs = o.differs;
      said = o.said_line;
      is_line = o.is_line;
    }));
  }

  pub told_is : (w : Plain) (end : End) → (r : IsLegRight u leg t.entries t.pending w) → t.end ≡ Some end → t ≡ ended u leg r.are_entries.history (Some end)
  told_is w end r e =
      let pending : t.pending ≡ pending_texts (after u r.are_entries.history) = r.pending_is ∙ ap pending_texts r.are_entries.now_is in
      λ i. record { entries = r.are_entries.lines_are i; pending = pending i; end = e i }

  pub end_differs : (n : ℕ) (copies : List Bool) (w : Plain) (d : Difference) → (r : IsLegRight u leg t.entries t.pending w)
      → EndsBefore (Some (copies_first copies)) t.end → IsEndWrong n (length t.entries) (copies_first copies) t.end w d → IsAtEnd n u leg copies t d
  end_differs n copies w d r e wrong =
      let x = wrong.line in
      let leg_is : d.leg ≡ n = wrong.leg_is in
      let place : d.place ≡ length t.entries = wrong.place_is in
      let a = r.are_entries in
      let now : w ≡ after u a.history = a.now_is in
      let moved_now : moved_end (copies_first copies) w ≡ moved_end (copies_first copies) (after u a.history) = ap (moved_end (copies_first copies)) now in
      let ends : EndsBefore (Some (copies_first copies)) (Some x.end) = subst (EndsBefore (Some (copies_first copies))) x.told_is e in
      record {
        leg_is = leg_is;
        end = elim x.wrong [
          | inl f ↦ inl (record {
            history = a.history;
            is_run = a.is_run;
            end = x.end;
            ends = ends;
            right = told_is w x.end r x.told_is;
            place = place ∙ entries_long w a;
            said = x.said_is;
            fault = f.fault;
            not_savable = ap savable (sym now) ∙ f.not_savable;
            is_fault = f.is_fault;
          })
          | inr o ↦ inr (record {
            history = a.history;
            is_run = a.is_run;
            is_savable = subst IsSavable now o.is_savable;
            end = x.end;
            ends = ends;
            right = told_is w x.end r x.told_is;
            differs = λ same. o.differs (same ∙ sym moved_now);
            place = place ∙ entries_long w a;
            said = x.said_is;
            is_line = o.is_line ∙ ap end_text moved_now;
          })
        ];
      }

-- ---- a leg with its last line

module _ (n : ℕ) (first : Plain) (leg : Leg) (told : LegLines) where
  pub not_here : (copies : Option Bool) (d : Difference) → IsHere n first leg told d → IsNotWhole n first leg copies told d
  not_here None d h = h
  not_here (Some copies) d h = inl h

-- ---- legs

shape_long : (vcpus n : ℕ) (copies : List Bool) (told : List LegLines) → HasShape vcpus n copies told → length told ≡ n
shape_long vcpus zero copies [] s = refl
shape_long vcpus zero copies (t ∷ told) s = absurd s
shape_long vcpus (suc n) copies [] s = absurd s
shape_long vcpus (suc n) copies (t ∷ told) s = ap suc (shape_long vcpus n (drop 1 copies) told s.1)

module _ (n : ℕ) (u : Plain) (leg : Leg) (copies : List Bool) (t : LegLines) (told : List LegLines) (d : Difference) where
  here_is : (rest : List Leg) → IsHere n u leg t d → DiffersFrom n u (leg ∷ rest) copies (t ∷ told) d
  here_is [] h = h
  here_is (next ∷ rest) h = inl h

  end_is : (rest : List Leg) → 0 < length rest → IsAtEnd n u leg copies t d → DiffersFrom n u (leg ∷ rest) copies (t ∷ told) d
  end_is [] some e = absurd (omega arith)
  end_is (next ∷ rest) some e = inr (inl e)

-- a leg is right, the state after it was moved, and so it is for the legs that follow
module _ (n : ℕ) (u w : Plain) (leg : Leg) (copies : List Bool) (t : LegLines) (h : List Entry) (run : IsLegRun u leg h) (can : IsSavable (after u h))
    (now : w ≡ moved (after u h)) (right : t ≡ moved_leg u leg copies h) where
  goes_on : (rest : List Leg) (told : List LegLines) (v : Verdict) → 0 < length rest → IsVerdictFrom (n + 1) w rest (drop 1 copies) told v
      → IsVerdictFrom n u (leg ∷ rest) copies (t ∷ told) v
  goes_on [] told v some later = absurd (omega arith)
  goes_on (next ∷ rest) told Agrees some later =
      let moved_on : IsReportOfRun (moved (after u h)) (next ∷ rest) (drop 1 copies) told =
      subst (λ (x : Plain). IsReportOfRun x (next ∷ rest) (drop 1 copies) told) now later in
      record {
        histories = h ∷ moved_on.histories;
        is_run = (h, moved_on.histories, refl, run, can, moved_on.is_run);
        told_is = λ i. right i ∷ moved_on.told_is i;
      }
  goes_on (next ∷ rest) told (Differs d) some later =
      inr (inr (
        h,
        record { is_run = run; right = right; savable = can },
        subst (λ (x : Plain). DiffersFrom (n + 1) x (next ∷ rest) (drop 1 copies) told d) now later,
      ))

-- the last leg is right
ends : (n : ℕ) (u w : Plain) (leg : Leg) (copies after_it : List Bool) (t : LegLines) (h : List Entry) → IsLegRun u leg h → t ≡ ended u leg h (Some Done)
    → (v : Verdict) → IsVerdictFrom (n + 1) w [] after_it [] v → IsVerdictFrom n u (leg ∷ []) copies (t ∷ []) v
ends n u w leg copies after_it t h run right Agrees later = record { histories = h ∷ []; is_run = (h, refl, run); told_is = λ i. right i ∷ [] }
ends n u w leg copies after_it t h run right (Differs d) later = absurd later

-- whatever is right of the legs from the i-th on is right of all
pub record Checking (first : Plain) (legs : List Leg) (copies : List Bool) (told : List LegLines) (i : ℕ) (u : Plain) : Type 0 where
  pub vcpus : length u.redistributors ≡ length first.redistributors
  pub long : length told ≡ length legs
  pub shape : HasShape (length first.redistributors) (length (drop i legs)) (drop i copies) (drop i told)
  pub goes : (v : Verdict) → IsVerdictFrom (i + 1) u (drop i legs) (drop i copies) (drop i told) v → IsVerdictFrom 1 first legs copies told v

pub checking_none : (first : Plain) (legs : List Leg) (copies : List Bool) (told : List LegLines)
    → HasShape (length first.redistributors) (length legs) copies told → Checking first legs copies told 0 first
checking_none first legs copies told shape = record {
  vcpus = refl;
  long = shape_long (length first.redistributors) (length legs) copies told shape;
  shape = shape;
  goes = λ v h. h;
}

-- ---- what follows a leg before so many others

pub after_some : (n : ℕ) (copies : List Bool) → 0 < n → move_after n copies ≡ Some (copies_first copies)
after_some zero copies some = absurd (omega arith)
after_some (suc n) copies some = refl

pub after_none : (n : ℕ) (copies : List Bool) → n ≡ 0 → move_after n copies ≡ None
after_none zero copies none = refl
after_none (suc n) copies none = absurd (omega (arith, none))

-- the leg and its lines, as the program has them in hand
pub record InHand (legs : List Leg) (told : List LegLines) (i : ℕ) (leg : Leg) (t : LegLines) : Type 0 where
  pub below : i < length legs
  pub item : Leg
  pub leg_is : leg ≡ item
  pub item_at : item ≡ get_or legs i item
  pub lists : List LegLines
  pub lists_are : lists ≡ told
  pub lines_at : t ≡ get_or lists i t

module _ (first : Plain) (legs : List Leg) (copies : List Bool) (told : List LegLines) (i : ℕ) (u : Plain) (leg : Leg) (t : LegLines)
    (c : Checking first legs copies told i u) (has : InHand legs told i leg t) where
  lt : i < length legs
  lt = has.below

  leg_at : leg ≡ get_or legs i leg
  leg_at = has.leg_is ∙ get_or_read legs i has.item lt has.item_at leg

  t_at : t ≡ get_or told i t
  t_at = subst (λ (ts : List LegLines). t ≡ get_or ts i t) has.lists_are has.lines_at

  abbrev rest : List Leg
  rest = drop (i + 1) legs

  abbrev later : List LegLines
  later = drop (i + 1) told

  abbrev now_copies : List Bool
  now_copies = drop i copies

  left : drop i legs ≡ leg ∷ rest
  left = drop_more legs i leg lt ∙ ap (λ l. l ∷ rest) (sym leg_at)

  said : drop i told ≡ t ∷ later
  said = drop_more told i t (omega (arith, lt, c.long)) ∙ ap (λ l. l ∷ later) (sym t_at)

  next_copies : drop 1 now_copies ≡ drop (i + 1) copies
  next_copies = drop-drop 1 i copies

  both : HasLegShape (length first.redistributors) (move_after (length rest) now_copies) t
      × HasShape (length first.redistributors) (length rest) (drop 1 now_copies) later
  both = subst (λ (p : List Leg × List LegLines). HasShape (length first.redistributors) (length p.0) now_copies p.1) (λ j. (left j, said j)) c.shape

  later_shape : HasShape (length first.redistributors) (length rest) (drop (i + 1) copies) later
  later_shape = subst (λ (cs : List Bool). HasShape (length first.redistributors) (length rest) cs later) next_copies both.1

  pub placed : ArePlaced 0 t.entries
  placed = both.0.placed

  pub pending_long : length t.pending ≡ length u.redistributors
  pending_long = both.0.pending ∙ sym c.vcpus

  -- what is right of this leg and those after it
  whole : (v : Verdict) → IsVerdictFrom (i + 1) u (leg ∷ rest) now_copies (t ∷ later) v → IsVerdictFrom 1 first legs copies told v
  whole v h = c.goes v (subst (λ (p : List Leg × List LegLines). IsVerdictFrom (i + 1) u p.0 now_copies p.1 v) (λ j. (sym left j, sym said j)) h)

  differs_now : (d : Difference) → IsHere (i + 1) u leg t d → IsVerdictFrom 1 first legs copies told (Differs d)
  differs_now d h = whole (Differs d) (here_is (i + 1) u leg now_copies t later d rest h)

  rest_long : suc (length rest) + i ≡ length legs
  rest_long = omega (arith, length-drop (i + 1) legs, lt)

  -- the leg ends as one does before what follows it
  pub ends_before : EndsBefore (move_after (length rest) now_copies) t.end
  ends_before = both.0.ends

  goes_after : i + 1 < length legs → move_after (length rest) now_copies ≡ Some (copies_first now_copies)
  goes_after more = after_some (length rest) now_copies (omega (arith, rest_long, more))

  last_after : length legs ≤ i + 1 → move_after (length rest) now_copies ≡ None
  last_after le = after_none (length rest) now_copies (omega (arith, rest_long, le))

  moves_before : i + 1 < length legs → EndsBefore (Some (copies_first now_copies)) t.end
  moves_before more = subst (λ (m : Move). EndsBefore m t.end) (goes_after more) ends_before

  differs_after : (w : Plain) (d : Difference) → i + 1 < length legs → IsLegRight u leg t.entries t.pending w
      → IsEndWrong (i + 1) (length t.entries) (copies_first now_copies) t.end w d → IsVerdictFrom 1 first legs copies told (Differs d)
  differs_after w d more right wrong =
      whole (Differs d) (end_is (i + 1) u leg now_copies t later d rest (omega (arith, rest_long, more))
      (end_differs u leg t (i + 1) now_copies w d right (moves_before more) wrong))

  pub differs_so : (d : Difference) → IsNotWhole (i + 1) u leg (move_after (length rest) now_copies) t d → IsVerdictFrom 1 first legs copies told (Differs d)
  differs_so d wrong =
      let unlike = λ (m : Move). IsNotWhole (i + 1) u leg m t d in
      elim (cases_lt (i + 1) (length legs)) [
        | inl more ↦
            elim (subst unlike (goes_after more) wrong) [
              | inl here ↦ differs_now d here
              | inr end ↦ differs_after end.last d more end.lines end.end
            ]
        | inr le ↦ differs_now d (subst unlike (last_after le) wrong)
      ]

  checking_more : (w x : Plain) → i + 1 < length legs → IsLegRight u leg t.entries t.pending w → IsMigrated (copies_first now_copies) t.end w x
      → Checking first legs copies told (i + 1) x
  checking_more w x more right m =
      let a = right.are_entries in
      let now : x ≡ moved (after u a.history) = m.now ∙ ap moved a.now_is in
      let end : t.end ≡ Some (moved_end (copies_first now_copies) (after u a.history)) =
      m.end_is ∙ ap (λ (z : Plain). Some (moved_end (copies_first now_copies) z)) a.now_is in
      record {
        vcpus = ap (λ (z : Plain). length z.redistributors) now ∙ (moved_vcpus (after u a.history) ∙ (after_vcpus u a.history ∙ c.vcpus));
        long = c.long;
        shape = later_shape;
        goes = λ v h. whole v (goes_on (i + 1) u x leg now_copies t a.history a.is_run (subst IsSavable a.now_is m.is_savable) now
            (told_is u leg t w (moved_end (copies_first now_copies) (after u a.history)) right end) rest later v (omega (arith, rest_long, more))
            (subst (λ (cs : List Bool). IsVerdictFrom (i + 1 + 1) x rest cs later v) (sym next_copies) h));
      }

  checking_last : (w : Plain) → length legs ≤ i + 1 → IsLegRight u leg t.entries t.pending w → Checking first legs copies told (i + 1) w
  checking_last w le right =
      let a = right.are_entries in
      let none : rest ≡ [] = drop_all (i + 1) legs le in
      let gone : later ≡ [] = drop_all (i + 1) told (omega (arith, le, c.long)) in
      let done : t.end ≡ Some Done =
      subst (λ (m : Move). EndsBefore m t.end) (ap (λ (l : List Leg). move_after (length l) now_copies) none) both.0.ends in
      record {
        vcpus = ap (λ (z : Plain). length z.redistributors) a.now_is ∙ (after_vcpus u a.history ∙ c.vcpus);
        long = c.long;
        shape = later_shape;
        goes = λ v h. whole v (subst (λ (p : List Leg × List LegLines). IsVerdictFrom (i + 1) u (leg ∷ p.0) now_copies (t ∷ p.1) v)
            (λ j. (sym none j, sym gone j))
            (ends (i + 1) u w leg now_copies (drop (i + 1) copies) t a.history a.is_run (told_is u leg t w Done right done) v
            (subst (λ (p : List Leg × List LegLines). IsVerdictFrom (i + 1 + 1) w p.0 (drop (i + 1) copies) p.1 v) (λ j. (none j, gone j)) h)));
      }

  pub checking_next : (x : Plain) → IsWhole u leg (move_after (length rest) now_copies) t x → Checking first legs copies told (i + 1) x
  checking_next x right =
      let ends = λ (m : Move). IsEndRight m t.end right.last x in
      elim (cases_lt (i + 1) (length legs)) [
        | inl more ↦ checking_more right.last x more right.lines (subst ends (goes_after more) right.end)
        | inr le ↦ subst (Checking first legs copies told (i + 1)) (sym (subst ends (last_after le) right.end)) (checking_last right.last le right.lines)
      ]

pub checking_all : (first : Plain) (legs : List Leg) (copies : List Bool) (told : List LegLines) (i : ℕ) (u : Plain) → Checking first legs copies told i u
    → length legs ≤ i → IsReportOfRun first legs copies told
checking_all first legs copies told i u c le =
    let none : drop i legs ≡ [] = drop_all i legs le in
    let gone : drop i told ≡ [] = drop_all i told (omega (arith, le, c.long)) in
    let nothing : IsReportOfRun u [] (drop i copies) [] = record { histories = []; is_run = refl; told_is = refl } in
    c.goes Agrees (subst (λ (p : List Leg × List LegLines). IsReportOfRun u p.0 (drop i copies) p.1) (λ j. (sym none j, sym gone j)) nothing)

-- ---- what the verdict says

module _ {E : Type 0} (first : Plain) (legs : List Leg) (copies : List Bool) (told : List LegLines) where
  pub agrees_of : (r : Result Verdict E) → IfOk r (λ v. IsVerdictFrom 1 first legs copies told v)
      → IfOk r (λ v. IfAgrees v (IsReportOfRun first legs copies told))
  agrees_of (Ok Agrees) h = h
  agrees_of (Ok (Differs d)) h = tt
  agrees_of (Err e) h = tt

  pub differs_of : (r : Result Verdict E) → IfOk r (λ v. IsVerdictFrom 1 first legs copies told v)
      → IfOk r (λ v. IfDiffers v (λ d. IsDifference first legs copies told d))
  differs_of (Ok Agrees) h = tt
  differs_of (Ok (Differs d)) h = h
  differs_of (Err e) h = tt

  -- a difference leaves no run
  pub exact_of : (r : Result Verdict E) → IfOk r (λ v. IsVerdictFrom 1 first legs copies told v)
      → IfOk r (λ v. IfDiffers v (λ _. ¬ IsReportOfRun first legs copies told))
  exact_of (Ok Agrees) h = tt
  exact_of (Ok (Differs d)) h = λ run. exact_from 1 first legs copies told d h run
  exact_of (Err e) h = tt
