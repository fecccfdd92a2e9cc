-- One leg more is passed over.
use Rattle.std.proofs.Common.{◌≡◌, ℕ, zero, suc, ◌+◌, ◌<◌, ◌≤◌, cond, ltb, Bool, true, false, List, [], ◌∷◌, ◌++◌, length, take, drop, get_or, Some}
use Rattle.std.proofs.Common.{None, refl, sym, ap, subst, ◌∙◌, arith}
use Rattle.std.proofs.lemmas.Bool.{lt-ltb, le-ltb}
use Rattle.std.proofs.lemmas.List.{drop_more, drop-drop, length-drop, take-append-drop}
use Rattle.its_plain.specs.History.{IsLegal, after}
use Rattle.its_plain.specs.Plain.{Plain}
use Rattle.its_plain.specs.Runs.{Leg, ArePartOfPhases, IsLegRun, IsPartOfLegRun, IsRun}
use Rattle.its_plain.specs.Saved.{IsSavable, moved}
use Rattle.its_plain.specs.declared.call.Entry.{Entry}
use Rattle.its_history.specs.Histories.{Seat, history_lines}
use Rattle.its_history.specs.Reports.{ended, moved_leg, reported}
use Rattle.its_history.specs.declared.trace.End.TheVariants.{Done}
use Rattle.its_history.specs.declared.trace.EntryLine.{EntryLine}
use Rattle.its_history.specs.declared.trace.Leg.{Leg as LegLines}
use Rattle.trace_check.specs.Differences.{seat, lines}
use Rattle.report_places.specs.Reached.{Follows, PassesOver, Reaches, state_at}
use Rattle.trace_check.proofs.LinesOf.{many_lines}
use Rattle.trace_check.proofs.Lists.{head_is, tail_is, legal_front}
use Rattle.trace_check.proofs.Parts.{part_front, whole_part}

-- ---- lists

drop_one : {A : Type 0} (k : ℕ) (xs : List A) → drop 1 (drop k xs) ≡ drop (k + 1) xs
drop_one k xs = drop-drop 1 k xs

cut_one : {A : Type 0} (k : ℕ) (xs : List A) (x : A) (rest : List A) → drop k xs ≡ x ∷ rest → drop (suc k) xs ≡ rest
cut_one zero [] x rest e = absurd (cc e)
cut_one zero (y ∷ xs) x rest e = tail_is e
cut_one (suc k) [] x rest e = absurd (cc e)
cut_one (suc k) (y ∷ xs) x rest e = cut_one k xs x rest e

abbrev head_or : Leg → List Leg → Leg
head_or none [] = none
head_or none (leg ∷ legs) = leg

head_left : (k : ℕ) (legs : List Leg) → get_or legs k [] ≡ head_or [] (drop k legs)
head_left zero [] = refl
head_left zero (leg ∷ legs) = refl
head_left (suc k) [] = refl
head_left (suc k) (leg ∷ legs) = head_left k legs

-- ---- parts of a leg

lines_front : (s : ℕ → Seat) (n : ℕ) (k : ℕ) (h : List Entry) → take k (history_lines s n h) ≡ history_lines s n (take k h)
lines_front s n zero h = refl
lines_front s n (suc k) [] = refl
lines_front s n (suc k) (e ∷ h) = λ i. history_lines s n (e ∷ []) ++ lines_front s (suc n) k h i

-- the first calls of a run of a leg
first_calls : (first : Plain) (leg : Leg) (h : List Entry) (k : ℕ) → IsLegRun first leg h → IsPartOfLegRun first leg (take k h)
first_calls first leg h k run =
    let cut : h ≡ take k h ++ drop k h = sym (take-append-drop k h) in
    record {
      legal = legal_front first (take k h) (drop k h) (subst (IsLegal first) cut run.legal);
      calls = part_front 1 leg (take k h) (drop k h) (subst (ArePartOfPhases 1 leg) cut (whole_part 1 leg h run.calls));
    }

-- ---- the first of the legs that are left

record FirstLeft (now : Plain) (leg : Leg) (legs : List Leg) (copies : List Bool) (t : LegLines) (later : List LegLines) (hs : List (List Entry)) : Type 0 where
  history : List Entry
  rest : List (List Entry)
  are : hs ≡ history ∷ rest
  is_run : IsLegRun now leg history
  entries : t.entries ≡ lines leg history
  savable : 0 < length later → IsSavable (after now history)
  run_next : 0 < length later → IsRun (moved (after now history)) (drop 1 legs) rest
  told_next : 0 < length later → later ≡ reported (moved (after now history)) (drop 1 legs) (drop 1 copies) rest

first_left : (now : Plain) (legs : List Leg) (copies : List Bool) (t : LegLines) (later : List LegLines) (hs : List (List Entry)) → IsRun now legs hs
    → t ∷ later ≡ reported now legs copies hs → FirstLeft now (head_or [] legs) legs copies t later hs
first_left now [] copies t later hs run same =
    let none : t ∷ later ≡ [] = same ∙ ap (reported now [] copies) run in absurd (cc none)
first_left now (leg ∷ []) copies t later hs run same =
    let whole : t ∷ later ≡ ended now leg run.0 (Some Done) ∷ [] = same ∙ ap (reported now (leg ∷ []) copies) run.1 in
    let none : later ≡ [] = tail_is whole in
    record {
      history = run.0;
      rest = [];
      are = run.1;
      is_run = run.2;
      entries = λ d. (head_is whole d).entries;
      savable = λ some. absurd (omega (arith, some, ap length none));
      run_next = λ some. absurd (omega (arith, some, ap length none));
      told_next = λ some. absurd (omega (arith, some, ap length none));
    }
first_left now (leg ∷ (next ∷ legs)) copies t later hs run same =
    let whole : t ∷ later ≡ moved_leg now leg copies run.0 ∷ reported (moved (after now run.0)) (next ∷ legs) (drop 1 copies) run.1 = same
    ∙ ap (reported now (leg ∷ (next ∷ legs)) copies) run.2 in
    record {
      history = run.0;
      rest = run.1;
      are = run.2;
      is_run = run.3;
      entries = λ d. (head_is whole d).entries;
      savable = λ some. run.4;
      run_next = λ some. run.5;
      told_next = λ some. tail_is whole;
    }

-- a run has as many legs as its report
many_legs : (first : Plain) (legs : List Leg) (copies : List Bool) (hs : List (List Entry)) → IsRun first legs hs
    → length (reported first legs copies hs) ≡ length hs
many_legs first [] copies hs run = ap (λ (l : List (List Entry)). length (reported first [] copies l)) run ∙ sym (ap length run)
many_legs first (leg ∷ []) copies hs run =
    ap (λ (l : List (List Entry)). length (reported first (leg ∷ []) copies l)) run.1 ∙ sym (ap length run.1)
many_legs first (leg ∷ (next ∷ legs)) copies hs run =
    ap (λ (l : List (List Entry)). length (reported first (leg ∷ (next ∷ legs)) copies l)) run.2
    ∙ (ap suc (many_legs (moved (after first run.0)) (next ∷ legs) (drop 1 copies) run.1 run.5) ∙ sym (ap length run.2))

none_at : (first : Plain) (hs : List (List Entry)) (n place : ℕ) → length hs ≤ n → state_at first hs n place ≡ None
none_at first [] n place le = refl
none_at first (h ∷ hs) zero place le = absurd (omega (arith, le))
none_at first (h ∷ hs) (suc n) place le = none_at (moved (after first h)) hs n place (omega (arith, le))

-- ---- runs of legs

-- the first k legs of this one are passed over
pub record PassedTo (first : Plain) (legs : List Leg) (copies : List Bool) (told : List LegLines) (hs : List (List Entry)) (k : ℕ) (now : Plain) : Type 0 where
  pub run_left : IsRun now (drop k legs) (drop k hs)
  pub told_left : drop k told ≡ reported now (drop k legs) (drop k copies) (drop k hs)
  pub states : (m place : ℕ) → state_at first hs (k + m) place ≡ state_at now (drop k hs) m place

-- those of each run that has these lines are
abbrev pub Passing : Plain → List Leg → List LegLines → ℕ → Plain → Type 0
Passing first legs told k now =
    (copies : List Bool) (hs : List (List Entry)) → IsRun first legs hs → told ≡ reported first legs copies hs → PassedTo first legs copies told hs k now

pub passing_none : (first : Plain) (legs : List Leg) (told : List LegLines) → Passing first legs told 0 first
passing_none first legs told = λ copies hs run same. record {
  run_left = run;
  told_left = same;
  states = λ m place. let sum : 0 + m ≡ m = omega arith in ap (λ n. state_at first hs n place) sum;
}

-- the report has no such leg
pub none_there : (first : Plain) (legs : List Leg) (told : List LegLines) (n place : ℕ) → length told ≤ n → Reaches first legs told n place None
none_there first legs told n place le = λ copies hs run same.
    sym (none_at first hs n place (omega (arith, le, ap length same, many_legs first legs copies hs run)))

module _ (first : Plain) (legs : List Leg) (told : List LegLines) (k : ℕ) (u : Plain) (g : Passing first legs told k u) (leg : Leg) (t : LegLines)
    (leg_is : leg ≡ get_or legs k []) (lt : k < length told) (t_at : t ≡ get_or told k t) where
  -- of a run with these lines the first leg that is left
  abbrev Left : List Bool → List (List Entry) → Type 0
  Left copies hs = FirstLeft u leg (drop k legs) (drop k copies) t (drop (k + 1) told) (drop k hs)

  left : (copies : List Bool) (hs : List (List Entry)) → PassedTo first legs copies told hs k u → Left copies hs
  left copies hs at =
      let cut : drop k told ≡ t ∷ drop (k + 1) told = drop_more told k t lt ∙ ap (λ l. l ∷ drop (k + 1) told) (sym t_at) in
      let is : head_or [] (drop k legs) ≡ leg = sym (leg_is ∙ head_left k legs) in
      subst (λ (l : Leg). FirstLeft u l (drop k legs) (drop k copies) t (drop (k + 1) told) (drop k hs)) is
      (first_left u (drop k legs) (drop k copies) t (drop (k + 1) told) (drop k hs) at.run_left (sym cut ∙ at.told_left))

  pub passing_more : (w : Plain) → k + 1 < length told → PassesOver u leg t.entries w → Passing first legs told (k + 1) w
  passing_more w more passes = λ copies hs run same.
      let at = g copies hs run same in
      let f : Left copies hs = left copies hs at in
      let some : 0 < length (drop (k + 1) told) = omega (arith, more, length-drop (k + 1) told) in
      let now_is : moved (after u f.history) ≡ w = sym (passes f.history f.is_run f.entries (f.savable some)) in
      let one : k + 1 ≡ suc k = omega arith in
      let rest : f.rest ≡ drop (k + 1) hs = sym (ap (λ n. drop n hs) one ∙ cut_one k hs f.history f.rest f.are) in
      record {
        run_left = subst (λ (z : Plain × (List Leg × List (List Entry))). IsRun z.0 z.1.0 z.1.1) (λ d. (now_is d, (drop_one k legs d, rest d)))
            (f.run_next some);
        told_left = f.told_next some ∙ (λ d. reported (now_is d) (drop_one k legs d) (drop_one k copies d) (rest d));
        states = λ m place.
            let sum : k + 1 + m ≡ k + suc m = omega arith in
            ap (λ n. state_at first hs n place) sum
            ∙ (at.states (suc m) place
            ∙ (ap (λ (l : List (List Entry)). state_at u l (suc m) place) f.are ∙ (λ d. state_at (now_is d) (rest d) m place)));
      }

  -- the state at a place of the leg that is next
  here : (copies : List Bool) (hs : List (List Entry)) (place : ℕ) → (at : PassedTo first legs copies told hs k u) → (f : Left copies hs)
      → state_at first hs k place ≡ state_at u (f.history ∷ f.rest) 0 place
  here copies hs place at f =
      let sum : k ≡ k + 0 = omega arith in
      ap (λ n. state_at first hs n place) sum ∙ (at.states 0 place ∙ ap (λ (l : List (List Entry)). state_at u l 0 place) f.are)

  -- the leg has fewer lines
  pub none_here : (place : ℕ) → length t.entries < place → Reaches first legs told k place None
  none_here place past = λ copies hs run same.
      let at = g copies hs run same in
      let f : Left copies hs = left copies hs at in
      let long : length f.history < place = omega (arith, past, ap length f.entries, many_lines leg f.history) in
      let test : ltb (length f.history) place ≡ true = lt-ltb (length f.history) place long in
      sym (here copies hs place at f ∙ ap (λ b. cond b None (Some (after u (take place f.history)))) test)

  -- the calls before the place are made
  pub some_here : (place : ℕ) (w : Plain) → place ≤ length t.entries → Follows u leg (take place t.entries) w → Reaches first legs told k place (Some w)
  some_here place w le follows = λ copies hs run same.
      let at = g copies hs run same in
      let f : Left copies hs = left copies hs at in
      let long : place ≤ length f.history = omega (arith, le, ap length f.entries, many_lines leg f.history) in
      let test : ltb (length f.history) place ≡ false = le-ltb (length f.history) place long in
      let front : take place t.entries ≡ lines leg (take place f.history) = ap (take place) f.entries
      ∙ lines_front (λ pass. seat leg pass) 0 place f.history in
      let now_is : w ≡ after u (take place f.history) = follows (take place f.history) (first_calls u leg f.history place f.is_run) front in
      ap (λ (x : Plain). Some x) now_is
      ∙ sym (here copies hs place at f ∙ ap (λ b. cond b None (Some (after u (take place f.history)))) test)

-- ---- a leg that another follows

pub passes : (first : Plain) (leg : Leg) (entries : List EntryLine) (u w : Plain) → Follows first leg entries u → (IsSavable u → w ≡ moved u)
    → PassesOver first leg entries w
passes first leg entries u w follows moves = λ h run same savable.
    let part : IsPartOfLegRun first leg h = record { legal = run.legal; calls = whole_part 1 leg h run.calls } in
    let stands : u ≡ after first h = follows h part same in
    moves (subst IsSavable (sym stands) savable) ∙ ap moved stands
