-- One leg more is shown.
use Rattle.std.proofs.Common.{◌≡◌, ℕ, zero, suc, ◌+◌, ◌<◌, ◌≤◌, Bool, List, [], ◌∷◌, ◌++◌, length, take, drop, get_or, Some, refl, sym, ap, subst, ◌∙◌, arith}
use Rattle.std.proofs.Common.{append_assoc, append-nil}
use Rattle.std.specs.List.{flat_map}
use Rattle.std.proofs.lemmas.List.{drop_more, drop_all, drop-drop, length-drop, take_more, take-append-drop}
use Rattle.its_plain.specs.History.{after}
use Rattle.its_plain.specs.Plain.{Plain}
use Rattle.its_plain.specs.Runs.{Leg, IsLegRun, IsRun}
use Rattle.its_plain.specs.Saved.{IsSavable, moved}
use Rattle.its_plain.specs.declared.call.Entry.{Entry}
use Rattle.event_script.specs.declared.script.Script.{Script}
use Rattle.its_history.specs.Reports.{ended, moved_leg, reported}
use Rattle.its_history.specs.declared.trace.End.TheVariants.{Done}
use Rattle.its_history.specs.declared.trace.Leg.{Leg as LegLines}
use Rattle.trace_check.specs.Differences.{lines as run_lines}
use Rattle.trace_check.specs.Verdicts.{copies_of}
use Rattle.trace_check.proofs.Lists.{head_is, tail_is}
use Rattle.its_draw.specs.Replays.{ShowsRun, ShowsRuns, all_lines, all_marks, leg_lines, lines, marks, marks_of, told}
use Rattle.its_draw.specs.declared.drawing.Shown.{Shown}

-- ---- lists

flat_more : {A B : Type 0} (f : A → List B) (xs : List A) (x : A) → flat_map f (xs ++ x ∷ []) ≡ flat_map f xs ++ f x
flat_more f [] x = append-nil (f x)
flat_more f (y ∷ xs) x = ap (λ rest. f y ++ rest) (flat_more f xs x) ∙ sym (append_assoc (f y) (flat_map f xs) (f x))

drop_one : {A : Type 0} (k : ℕ) (xs : List A) → drop 1 (drop k xs) ≡ drop (k + 1) xs
drop_one k xs = drop-drop 1 k xs

cut_one : {A : Type 0} (k : ℕ) (xs : List A) (x : A) (rest : List A) → drop k xs ≡ x ∷ rest → (take (suc k) xs ≡ take k xs ++ x ∷ []) × (drop (suc k) xs ≡ rest)
cut_one zero [] x rest e = absurd (cc e)
cut_one zero (y ∷ xs) x rest e = ((λ d. head_is e d ∷ []), tail_is e)
cut_one (suc k) [] x rest e = absurd (cc e)
cut_one {A = A} (suc k) (y ∷ xs) x rest e = let r = cut_one k xs x rest e in (ap (λ (l : List A). y ∷ l) r.0, r.1)

abbrev head_or : Leg → List Leg → Leg
head_or none [] = none
head_or none (leg ∷ legs) = leg

head_left : (k : ℕ) (legs : List Leg) → get_or legs k [] ≡ head_or [] (drop k legs)
head_left zero [] = refl
head_left zero (leg ∷ legs) = refl
head_left (suc k) [] = refl
head_left (suc k) (leg ∷ legs) = head_left k legs

-- ---- lines

pub told_none : (first : List Shown) → told first ≡ told first ++ []
told_none first = sym (append-nil (told first))

pub told_leg : (legs : List LegLines) (k : ℕ) (t : LegLines) → k < length legs → t ≡ get_or legs k t → (first before now : List Shown)
    → told before ≡ told first ++ all_lines (take k legs) → told now ≡ told before ++ lines t.entries → told now ≡ told first ++ all_lines (take (k + 1) legs)
told_leg legs k t lt is first before now so_far here =
    let front : take (k + 1) legs ≡ take k legs ++ t ∷ [] = take_more legs k t lt ∙ (λ d. take k legs ++ sym is d ∷ []) in
    here
    ∙ (ap (λ ls. ls ++ lines t.entries) so_far
    ∙ (append_assoc (told first) (all_lines (take k legs)) (lines t.entries)
    ∙ ap (λ ls. told first ++ ls) (sym (ap all_lines front ∙ flat_more leg_lines (take k legs) t))))

-- ---- the first of the legs that are left

record FirstLeft (now : Plain) (leg : Leg) (legs : List Leg) (copies : List Bool) (t : LegLines) (later : List LegLines) (hs : List (List Entry)) : Type 0 where
  history : List Entry
  rest : List (List Entry)
  are : hs ≡ history ∷ rest
  is_run : IsLegRun now leg history
  entries : t.entries ≡ run_lines leg history
  savable : 0 < length (drop 1 legs) → IsSavable (after now history)
  next : (x : Plain) → (0 < length (drop 1 legs) → x ≡ moved (after now history))
      → IsRun x (drop 1 legs) rest × (later ≡ reported x (drop 1 legs) (drop 1 copies) rest)

first_left : (now : Plain) (legs : List Leg) (copies : List Bool) (t : LegLines) (later : List LegLines) (hs : List (List Entry)) → IsRun now legs hs
    → t ∷ later ≡ reported now legs copies hs → FirstLeft now (head_or [] legs) legs copies t later hs
first_left now [] copies t later hs run same =
    let none : t ∷ later ≡ [] = same ∙ ap (reported now [] copies) run in absurd (cc none)
first_left now (leg ∷ []) copies t later hs run same =
    let whole : t ∷ later ≡ ended now leg run.0 (Some Done) ∷ [] = same ∙ ap (reported now (leg ∷ []) copies) run.1 in
    record {
      history = run.0;
      rest = [];
      are = run.1;
      is_run = run.2;
      entries = λ d. (head_is whole d).entries;
      savable = λ some. absurd (omega (arith, some));
      next = λ x is. (refl, tail_is whole);
    }
first_left now (leg ∷ (next ∷ legs)) copies t later hs run same =
    let whole : t ∷ later ≡ moved_leg now leg copies run.0 ∷ reported (moved (after now run.0)) (next ∷ legs) (drop 1 copies) run.1 = same
    ∙ ap (reported now (leg ∷ (next ∷ legs)) copies) run.2 in
    record {
      history = run.0;
      rest = run.1;
      are = run.2;
      is_run = run.3;
      entries = λ d. (head_is whole d).entries;
      savable = λ some. run.4;
      next = λ x is.
          let moves : moved (after now run.0) ≡ x = sym (is (omega arith)) in (
            subst (λ (u : Plain). IsRun u (next ∷ legs) run.1) moves run.5,
            tail_is whole ∙ ap (λ (u : Plain). reported u (next ∷ legs) (drop 1 copies) run.1) moves,
          );
    }

none_left : (now : Plain) (legs : List Leg) (copies : List Bool) (hs : List (List Entry)) → IsRun now legs hs → [] ≡ reported now legs copies hs → hs ≡ []
none_left now [] copies hs run same = run
none_left now (leg ∷ []) copies hs run same =
    let whole : [] ≡ ended now leg run.0 (Some Done) ∷ [] = same ∙ ap (reported now (leg ∷ []) copies) run.1 in absurd (cc whole)
none_left now (leg ∷ (next ∷ legs)) copies hs run same =
    let whole : [] ≡ moved_leg now leg copies run.0 ∷ reported (moved (after now run.0)) (next ∷ legs) (drop 1 copies) run.1 = same
    ∙ ap (reported now (leg ∷ (next ∷ legs)) copies) run.2 in
    absurd (cc whole)

-- ---- runs of a script

-- the first k legs of this one are made and shown
pub record ShownTo (legs : List Leg) (copies : List Bool) (said : List LegLines) (before : List Shown) (hs : List (List Entry)) (k : ℕ) (shown : List Shown)
    (now : Plain) : Type 0 where
  pub marks_are : marks shown ≡ marks before ++ all_marks (take k hs)
  pub run_left : IsRun now (drop k legs) (drop k hs)
  pub told_left : drop k said ≡ reported now (drop k legs) (drop k copies) (drop k hs)

-- those of each run that has these lines are
abbrev pub Showing : Plain → Script → List LegLines → List Shown → ℕ → List Shown → Plain → Type 0
Showing first script said before k shown now =
    (hs : List (List Entry)) → IsRun first script.legs hs → said ≡ reported first script.legs (copies_of script.moves) hs
    → ShownTo script.legs (copies_of script.moves) said before hs k shown now

pub showing_none : (first : Plain) (script : Script) (said : List LegLines) (before : List Shown) → Showing first script said before 0 before first
showing_none first script said before = λ hs run same. record {
  marks_are = sym (append-nil (marks before));
  run_left = run;
  told_left = same;
}

module _ (first : Plain) (script : Script) (said : List LegLines) (before : List Shown) (k : ℕ) (shown : List Shown) (u : Plain)
    (g : Showing first script said before k shown u) where
  abbrev legs : List Leg
  legs = script.legs

  abbrev copies : List Bool
  copies = copies_of script.moves

  pub showing_more : (leg : Leg) (t : LegLines) (now : List Shown) (w x : Plain) → leg ≡ get_or legs k [] → k < length said → t ≡ get_or said k t
      → ShowsRun u leg t.entries shown now w → (k + 1 < length legs → IsSavable w → x ≡ moved w) → Showing first script said before (k + 1) now x
  showing_more leg t now w x leg_is lt t_at shows moves = λ hs run same.
      let at = g hs run same in
      let left : drop k said ≡ t ∷ drop (k + 1) said = drop_more said k t lt ∙ ap (λ l. l ∷ drop (k + 1) said) (sym t_at) in
      let f : FirstLeft u (head_or [] (drop k legs)) (drop k legs) (drop k copies) t (drop (k + 1) said) (drop k hs) =
      first_left u (drop k legs) (drop k copies) t (drop (k + 1) said) (drop k hs) at.run_left (sym left ∙ at.told_left) in
      let is : head_or [] (drop k legs) ≡ leg = sym (leg_is ∙ head_left k legs) in
      let made = shows f.history (subst (λ (l : Leg). IsLegRun u l f.history) is f.is_run) (f.entries ∙ ap (λ (l : Leg). run_lines l f.history) is) in
      let one : k + 1 ≡ suc k = omega arith in
      let cut = cut_one k hs f.history f.rest f.are in
      let front : take (k + 1) hs ≡ take k hs ++ f.history ∷ [] = ap (λ n. take n hs) one ∙ cut.0 in
      let rest : f.rest ≡ drop (k + 1) hs = sym (ap (λ n. drop n hs) one ∙ cut.1) in
      let more : 0 < length (drop 1 (drop k legs)) → k + 1 < length legs = λ some. omega (arith, some, length-drop 1 (drop k legs), length-drop k legs) in
      let goes : 0 < length (drop 1 (drop k legs)) → x ≡ moved (after u f.history) = λ some.
      moves (more some) (subst IsSavable (sym made.1) (f.savable some)) ∙ ap moved made.1 in
      let n = f.next x goes in
      record {
        marks_are = made.0
            ∙ (ap (λ ms. ms ++ marks_of f.history) at.marks_are
            ∙ (append_assoc (marks before) (all_marks (take k hs)) (marks_of f.history)
            ∙ ap (λ ms. marks before ++ ms) (sym (ap all_marks front ∙ flat_more marks_of (take k hs) f.history))));
        run_left = subst (λ (z : List Leg × List (List Entry)). IsRun x z.0 z.1) (λ d. (drop_one k legs d, rest d)) n.0;
        told_left = n.1 ∙ (λ d. reported x (drop_one k legs d) (drop_one k copies d) (rest d));
      }

  pub showing_all : length said ≤ k → ShowsRuns first script said before shown
  showing_all le = λ hs run same.
      let at = g hs run same in
      let none : drop k hs ≡ [] = none_left u (drop k legs) (drop k copies) (drop k hs) at.run_left (sym (drop_all k said le) ∙ at.told_left) in
      let all : take k hs ≡ hs = sym (append-nil (take k hs)) ∙ (ap (λ (l : List (List Entry)). take k hs ++ l) (sym none) ∙ take-append-drop k hs) in
      at.marks_are ∙ ap (λ (l : List (List Entry)). marks before ++ all_marks l) all
