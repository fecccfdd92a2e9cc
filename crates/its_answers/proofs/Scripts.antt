-- What a script's run came to, leg by leg.
use Rattle.std.proofs.Common.{◌≡◌, ℕ, zero, suc, ◌+◌, ◌-◌, ◌<◌, ◌≤◌, Bool, false, List, [], ◌∷◌, ◌++◌, length, get_or, take, drop, Some, None, Result, Ok, Err}
use Rattle.std.proofs.Common.{OnErr, add-one, refl, sym, ap, subst, ◌∙◌, arith}
use Rattle.std.proofs.lemmas.List.{append-nil, length-append, length-take, get_or-take, get_or-map, get_or-drop}
use Rattle.std.proofs.Math.Seq.{drop-cons, drop-length}
use Rattle.its_types.specs.declared.machine.Limits.{Limits}
use Rattle.its_plain.specs.History.{after}
use Rattle.its_plain.specs.Plain.{Plain}
use Rattle.its_plain.specs.Runs.{Leg, IsRun, IsPartialRun}
use Rattle.its_plain.specs.declared.call.Entry.{Entry}
use Rattle.event_script.specs.Limits.{IsWithinLimits}
use Rattle.event_script.specs.declared.script.Move.{Move}
use Rattle.event_script.specs.declared.script.Script.{Script}
use Rattle.its_history.specs.Report.{leg_text, report_text}
use Rattle.its_history.specs.declared.trace.End.TheVariants.{Done}
use Rattle.its_history.specs.declared.trace.Leg.{Leg as LegLines}
use Rattle.its_answers.specs.Legs.{HaveRun, first_told}
use Rattle.its_history.specs.Reports.{ended, moved_end, copies_first, cut_leg}
use Rattle.trace_check.specs.Verdicts.{copies_for, copies_of}
use Rattle.its_answers.specs.Refusals.{spent_refusal, migration_refusal}
use Rattle.its_answers.specs.Its.{IsReport, IsMigrationRefusal, IsSpentReport}
use Rattle.its_answers.specs.Answered.{IsLegSpent, IsLegMoved, IsLegRefused, IsLegDone, LegStops, LegEnds, RunEnds, IsSoFar}
use Rattle.its_answers.specs.declared.status.Status.{Status}
use Rattle.its_answers.specs.declared.status.Status.TheVariants as status
use Rattle.its_answers.proofs.Enabling.{run_lpis, partial_lpis}
use Rattle.its_answers.proofs.Migrations.{ran_more, migrated_more, as_many, report_more, whole_run, whole_places, whole_report, part_of_whole, partial_run}

-- the first i legs ran, and the report is theirs
pub record HasRunTo (script : Script) (first : Plain) (i : ℕ) (now : Plain) (report : List ℕ) : Type 0 where
  pub histories : List (List Entry)
  pub earlier : HaveRun script.desc.limits.place_last first script.legs histories now (drop i script.legs)
  pub count : length histories ≡ i
  pub same : report ≡ report_text (first_told script first histories)

pub at_start : (script : Script) (first : Plain) (report : List ℕ) → report ≡ [] → HasRunTo script first 0 first report
at_start script first report none = record { histories = []; earlier = (refl, refl); count = refl; same = none }

-- ---- the legs that are left

-- the next one, where the run goes over the first ones
pub next_leg : (legs : List Leg) (n i : ℕ) (leg phases : Leg) → i < n → n ≤ length legs → leg ≡ get_or (take n legs) i leg → phases ≡ leg
    → drop i legs ≡ phases ∷ drop (i + 1) legs
next_leg legs n i leg phases lt le at is =
    drop-cons legs i leg (omega (arith, lt, le)) ∙ ap (λ (l : Leg). l ∷ drop (suc i) legs) (sym (get_or-take n legs i leg lt) ∙ sym at ∙ sym is)
    ∙ ap (λ k. phases ∷ drop k legs) (sym (add-one i))

-- another behind it
pub leg_behind : (legs : List Leg) (i : ℕ) (leg : Leg) → i + 1 < length legs → drop i legs ≡ leg ∷ drop (i + 1) legs → (next : Leg) × (later : List Leg)
    × (drop i legs ≡ leg ∷ next ∷ later)
leg_behind legs i leg lt e = (get_or legs (i + 1) leg, drop (suc (i + 1)) legs, e ∙ ap (λ (ls : List Leg). leg ∷ ls) (drop-cons legs (i + 1) leg lt))

pub last_leg : (legs : List Leg) (i : ℕ) (leg phases : Leg) → i + 1 ≡ length legs → leg ≡ get_or legs i leg → phases ≡ leg → drop i legs ≡ phases ∷ []
last_leg legs i leg phases end at is =
    drop-cons legs i leg (omega (arith, end)) ∙ ap (λ (l : Leg). l ∷ drop (suc i) legs) (sym at ∙ sym is)
    ∙ ap (λ (ls : List Leg). phases ∷ ls) (ap (λ k. drop k legs) (sym (add-one i) ∙ end) ∙ drop-length legs)

-- what the loop over all but the last says of one
pub record IsEarlier (legs : List Leg) (i : ℕ) (leg phases : Leg) : Type 0 where
  pub lt : i < length legs
  pub at : leg ≡ get_or legs i leg
  pub left : drop i legs ≡ phases ∷ drop (i + 1) legs
  pub behind : i + 1 < length legs

pub earlier_leg : (legs slice : List Leg) (i : ℕ) (leg phases : Leg) → slice ≡ legs → i < length (take (length slice - 1) slice)
    → leg ≡ get_or (take (length slice - 1) slice) i leg → phases ≡ leg → IsEarlier legs i leg phases
earlier_leg legs slice i leg phases same lt at is =
    let low : i < length (take (length legs - 1) legs) = subst (λ (ls : List Leg). i < length (take (length ls - 1) ls)) same lt in
    let item : leg ≡ get_or (take (length legs - 1) legs) i leg = subst (λ (ls : List Leg). leg ≡ get_or (take (length ls - 1) ls) i leg) same at in
    let below : i < length legs - 1 = omega (arith, low, length-take (length legs - 1) legs) in
    record {
      lt = omega (arith, below);
      at = item ∙ get_or-take (length legs - 1) legs i leg below;
      left = next_leg legs (length legs - 1) i leg phases below (omega arith) item is;
      behind = omega (arith, below);
    }

-- a move stands after it
pub move_below : (script : Script) (slice : List Leg) (i : ℕ) → IsWithinLimits script → slice ≡ script.legs → i < length (take (length slice - 1) slice)
    → i < length script.moves
move_below script slice i within same lt =
    let low : i < length (take (length script.legs - 1) script.legs) = subst (λ (ls : List Leg). i < length (take (length ls - 1) ls)) same lt in
    omega (arith, low, length-take (length script.legs - 1) script.legs, within.moves)

same_at : (moves : List Move) (i : ℕ) (d e : Move) → i < length moves → get_or moves i d ≡ get_or moves i e
same_at [] i d e lt = absurd (omega (arith, lt))
same_at (m ∷ moves) zero d e lt = refl
same_at (m ∷ moves) (suc i) d e lt = same_at moves i d e (omega (arith, lt))

-- and it is the one that was looked up
way_at : (moves slice : List Move) (i k : ℕ) (d : Move) → slice ≡ moves → k ≡ i → i < length moves → get_or slice k d ≡ get_or moves i (get_or slice k d)
way_at moves slice i k d same at lt = (λ j. get_or (same j) (at j) d) ∙ same_at moves i d (get_or slice k d) lt

-- and of the last
pub record IsLast (legs : List Leg) (i : ℕ) (leg phases : Leg) : Type 0 where
  pub lt : i < length legs
  pub at : leg ≡ get_or legs i leg
  pub left : drop i legs ≡ phases ∷ []

pub final_leg : (legs slice : List Leg) (i : ℕ) (leg phases : Leg) → slice ≡ legs → 0 < length legs → length (take (length slice - 1) slice) ≤ i
    → i ≤ length (take (length slice - 1) slice)
    → leg ≡ get_or slice (length slice - 1) leg → phases ≡ leg → IsLast legs i leg phases
final_leg legs slice i leg phases same some ge le at is =
    let low : length (take (length legs - 1) legs) ≤ i = subst (λ (ls : List Leg). length (take (length ls - 1) ls) ≤ i) same ge in
    let high : i ≤ length (take (length legs - 1) legs) = subst (λ (ls : List Leg). i ≤ length (take (length ls - 1) ls)) same le in
    let item : leg ≡ get_or legs (length legs - 1) leg = subst (λ (ls : List Leg). leg ≡ get_or ls (length ls - 1) leg) same at in
    let end : i + 1 ≡ length legs = omega (arith, low, high, some, length-take (length legs - 1) legs) in
    let here : length legs - 1 ≡ i = omega (arith, end) in
    let stands : leg ≡ get_or legs i leg = item ∙ ap (λ k. get_or legs k leg) here in
    record { lt = omega (arith, end); at = stands; left = last_leg legs i leg phases end stands is }

-- ---- a report so far

pub on_err : {X Y : Type 0} (r : Result X Y) (P : Type 0) → P → OnErr r P
on_err (Ok x) P p = tt
on_err (Err e) P p = p

pub so_far : (script : Script) (first : Plain) (i : ℕ) (now : Plain) (report : List ℕ) (leg : Leg) (later : List Leg) → HasRunTo script first i now report
    → drop i script.legs ≡ leg ∷ later → IsSoFar script first report
so_far script first i now report leg later r e = record {
  histories = r.histories;
  now = now;
  leg = leg;
  later = later;
  earlier = subst (λ (left : List Leg). HaveRun script.desc.limits.place_last first script.legs r.histories now left) e r.earlier;
  same = r.same;
}

-- behind the report of the first legs stands the text of the next one
abbrev Placed : Script → Plain → List (List Entry) → LegLines → List ℕ → Type 0
Placed script first histories x new = new ≡ report_text (first_told script first histories ++ x ∷ [])

placed : (script : Script) (first : Plain) (i number : ℕ) (now : Plain) (old new : List ℕ) (x : LegLines) → (r : HasRunTo script first i now old)
    → number ≡ i + 1 → new ≡ old ++ leg_text number x → Placed script first r.histories x new
placed script first i number now old new x r n added =
    let count = as_many script.desc.limits.place_last first script.legs (copies_of script.moves) r.histories now (drop i script.legs) r.earlier in
    report_more number (first_told script first r.histories) x old new r.same (omega (arith, n, count, r.count)) added

-- the script says so of the next leg
way_is : (script : Script) (i n : ℕ) (way : Move) → n ≡ i → i < length script.moves → way ≡ get_or script.moves i way
    → copies_for way ≡ copies_first (drop n (copies_of script.moves))
way_is script i n way same lt at =
    let cs = copies_of script.moves in let here : i ≡ n + 0 = omega (arith, same) in
    ap copies_for at
    ∙ (sym (get_or-map copies_for script.moves i way false lt) ∙ (ap (λ (k : ℕ). get_or cs k false) here ∙ sym (get_or-drop n cs 0 false)))

goes_on : (script : Script) (first : Plain) (i number : ℕ) (now next : Plain) (old new : List ℕ) (leg : Leg) (way : Move) → HasRunTo script first i now old
    → number ≡ i + 1 → drop i script.legs ≡ leg ∷ drop (i + 1) script.legs → i < length script.moves → way ≡ get_or script.moves i way
    → IsLegMoved way script.desc.limits.place_last now next leg number old new → HasRunTo script first (i + 1) next new
goes_on script first i number now next old new leg way r n e lt at m =
    let last = script.desc.limits.place_last in
    let h = m.whole.history in
    let left = drop (i + 1) script.legs in
    let earlier = first_told script first r.histories in
    let ran : HaveRun last first script.legs r.histories now (leg ∷ left) = subst (λ (ls : List Leg). HaveRun last first script.legs r.histories now ls) e
    r.earlier in
    let more = ran_more last first script.legs r.histories now leg left h ran m.whole.places m.whole.is_run m.can in
    record {
      histories = r.histories ++ h ∷ [];
      earlier = subst (λ (u : Plain). HaveRun last first script.legs (r.histories ++ h ∷ []) u left) (sym m.now_is) more;
      count = length-append r.histories (h ∷ []) ∙ omega (arith, r.count);
      same = placed script first i number now old new (ended now leg h (Some (moved_end (copies_for way) (after now h)))) r n m.whole.added
          ∙ (ap (λ (b : Bool). report_text (earlier ++ ended now leg h (Some (moved_end b (after now h))) ∷ []))
          (way_is script i (length r.histories) way r.count lt at)
          ∙ ap report_text (sym (migrated_more last first script.legs (copies_of script.moves) r.histories now leg left h ran)));
    }

-- the move was looked up by the leg's number
pub goes_on_at : (script : Script) (first : Plain) (i number : ℕ) (now next : Plain) (old new : List ℕ) (leg : Leg) (slice : List Move) (limits : Limits)
    (d : Move) → HasRunTo script first i now old → number ≡ i + 1 → drop i script.legs ≡ leg ∷ drop (i + 1) script.legs → i < length script.moves
    → slice ≡ script.moves → limits ≡ script.desc.limits → IsLegMoved (get_or slice (number - 1) d) limits.place_last now next leg number old new
    → HasRunTo script first (i + 1) next new
goes_on_at script first i number now next old new leg slice limits d r n e lt same bounds m =
    let place : number - 1 ≡ i = omega (arith, n) in
    let way : Move = get_or slice (number - 1) d in
    goes_on script first i number now next old new leg way r n e lt (way_at script.moves slice i (number - 1) d same place lt)
    (subst (λ (x : Limits). IsLegMoved way x.place_last now next leg number old new) bounds m)

is_spent : (script : Script) (first : Plain) (i number : ℕ) (now : Plain) (old new line : List ℕ) (leg : Leg) (later : List Leg)
    → HasRunTo script first i now old → number ≡ i + 1 → drop i script.legs ≡ leg ∷ later
    → IsLegSpent script.desc.limits.place_last now leg number old new line → IsSpentReport script first (new ++ line)
is_spent script first i number now old new line leg later r n e s =
    let last = script.desc.limits.place_last in
    let ran : HaveRun last first script.legs r.histories now (leg ∷ later) = subst (λ (ls : List Leg). HaveRun last first script.legs r.histories now ls) e
    r.earlier in
    let number_is : number ≡ length r.histories + 1 = omega (arith, n, r.count) in
    let line_is : line ≡ spent_refusal (length r.histories + 1) = s.line_is ∙ ap spent_refusal number_is in
    let partial : IsPartialRun first script.legs (r.histories ++ s.history ∷ []) = partial_run last first script.legs r.histories now leg later s.history ran
    s.is_part in
    let here : new ≡ report_text (first_told script first r.histories ++ cut_leg leg s.history ∷ []) = placed script first i number now old new
    (cut_leg leg s.history) r n s.added in
    record {
      histories = r.histories;
      now = now;
      leg = leg;
      later = later;
      earlier = ran;
      history = s.history;
      is_part = s.is_part;
      partial = partial;
      lpis = partial_lpis script first (r.histories ++ s.history ∷ []) partial;
      all_places = s.all_places;
      more = s.more;
      same = ap (λ (t : List ℕ). t ++ line) here ∙ ap (λ (t : List ℕ). report_text (first_told script first r.histories ++ cut_leg leg s.history ∷ []) ++ t)
          line_is;
    }

is_refused : (script : Script) (first : Plain) (i number : ℕ) (now : Plain) (old new line : List ℕ) (leg next : Leg) (later : List Leg)
    → HasRunTo script first i now old → number ≡ i + 1 → drop i script.legs ≡ leg ∷ next ∷ later
    → IsLegRefused script.desc.limits.place_last now leg number old new line → IsMigrationRefusal script first (new ++ line)
is_refused script first i number now old new line leg next later r n e s =
    let last = script.desc.limits.place_last in
    let h = s.whole.history in
    let ran : HaveRun last first script.legs r.histories now (leg ∷ next ∷ later) = subst (λ (ls : List Leg). HaveRun last first script.legs r.histories now ls)
    e r.earlier in
    let number_is : number ≡ length r.histories + 1 = omega (arith, n, r.count) in
    let line_is : line ≡ migration_refusal (length r.histories + 1) s.fault = s.line_is ∙ ap (λ k. migration_refusal k s.fault) number_is in
    let partial : IsPartialRun first script.legs (r.histories ++ h ∷ []) = partial_run last first script.legs r.histories now leg (next ∷ later) h ran
    (part_of_whole now leg h s.whole.is_run) in
    let here : new ≡ report_text (first_told script first r.histories ++ ended now leg h None ∷ []) = placed script first i number now old new
    (ended now leg h None) r n s.whole.added in
    record {
      histories = r.histories;
      now = now;
      leg = leg;
      next = next;
      later = later;
      earlier = ran;
      history = h;
      is_run = s.whole.is_run;
      partial = partial;
      lpis = partial_lpis script first (r.histories ++ h ∷ []) partial;
      places = s.whole.places;
      fault = s.fault;
      refused = s.refused;
      same = ap (λ (t : List ℕ). t ++ line) here ∙ ap (λ (t : List ℕ). report_text (first_told script first r.histories ++ ended now leg h None ∷ []) ++ t)
          line_is;
    }

is_done : (script : Script) (first : Plain) (i number : ℕ) (now : Plain) (old new line : List ℕ) (leg : Leg) → HasRunTo script first i now old → number ≡ i + 1
    → drop i script.legs ≡ leg ∷ []
    → IsLegDone script.desc.limits.place_last now leg number old new line → IsReport script first (new ++ line)
is_done script first i number now old new line leg r n e d =
    let last = script.desc.limits.place_last in
    let h = d.whole.history in
    let ran : HaveRun last first script.legs r.histories now (leg ∷ []) = subst (λ (ls : List Leg). HaveRun last first script.legs r.histories now ls) e
    r.earlier in
    let run : IsRun first script.legs (r.histories ++ h ∷ []) = whole_run last first script.legs r.histories now leg h ran d.whole.is_run in
    let here : new ≡ report_text (first_told script first r.histories ++ ended now leg h (Some Done) ∷ []) = placed script first i number now old new
    (ended now leg h (Some Done)) r n d.whole.added in
    record {
      histories = r.histories ++ h ∷ [];
      is_run = run;
      lpis = run_lpis script first (r.histories ++ h ∷ []) run;
      places = whole_places last first script.legs r.histories now leg ran d.whole.places;
      same = ap (λ (t : List ℕ). new ++ t) d.line_is ∙ append-nil new ∙ here
          ∙ ap report_text (whole_report last first script.legs (copies_of script.moves) r.histories now leg h ran);
    }

-- a leg that isn't the last ended the run
pub stops_here : (script : Script) (first : Plain) (i number : ℕ) (now : Plain) (old new line : List ℕ) (leg next : Leg) (later : List Leg) (s : Status)
    → HasRunTo script first i now old → number ≡ i + 1
    → drop i script.legs ≡ leg ∷ next ∷ later → LegStops script.desc.limits.place_last now leg number old new s line → RunEnds script first s (new ++ line)
stops_here script first i number now old new line leg next later status.Ok r n e h = absurd h
stops_here script first i number now old new line leg next later status.ScriptRefused r n e h = absurd h
stops_here script first i number now old new line leg next later status.WordsRefused r n e h = absurd h
stops_here script first i number now old new line leg next later status.ReadFault r n e h = absurd h
stops_here script first i number now old new line leg next later status.WriteFault r n e h = absurd h
stops_here script first i number now old new line leg next later status.Memory r n e h = absurd h
stops_here script first i number now old new line leg next later status.MachineRefused r n e h = absurd h
stops_here script first i number now old new line leg next later status.MigrationRefused r n e h = is_refused script first i number now old new line leg next
    later r n e h
stops_here script first i number now old new line leg next later status.Spent r n e h = is_spent script first i number now old new line leg
    (next ∷ later) r n e h
stops_here script first i number now old new line leg next later status.TooLong r n e h = absurd h
stops_here script first i number now old new line leg next later status.TraceDiffers r n e h = absurd h
stops_here script first i number now old new line leg next later status.BadTrace r n e h = absurd h
stops_here script first i number now old new line leg next later status.Undecided r n e h = absurd h

-- the last one did
pub ends_here : (script : Script) (first : Plain) (i number : ℕ) (now : Plain) (old new line : List ℕ) (leg : Leg) (s : Status)
    → HasRunTo script first i now old → number ≡ i + 1
    → drop i script.legs ≡ leg ∷ [] → LegEnds script.desc.limits.place_last now leg number old new s line → RunEnds script first s (new ++ line)
ends_here script first i number now old new line leg status.Ok r n e h = is_done script first i number now old new line leg r n e h
ends_here script first i number now old new line leg status.ScriptRefused r n e h = absurd h
ends_here script first i number now old new line leg status.WordsRefused r n e h = absurd h
ends_here script first i number now old new line leg status.ReadFault r n e h = absurd h
ends_here script first i number now old new line leg status.WriteFault r n e h = absurd h
ends_here script first i number now old new line leg status.Memory r n e h = absurd h
ends_here script first i number now old new line leg status.MachineRefused r n e h = absurd h
ends_here script first i number now old new line leg status.MigrationRefused r n e h = absurd h
ends_here script first i number now old new line leg status.Spent r n e h = is_spent script first i number now old new line leg [] r n e h
ends_here script first i number now old new line leg status.TooLong r n e h = absurd h
ends_here script first i number now old new line leg status.TraceDiffers r n e h = absurd h
ends_here script first i number now old new line leg status.BadTrace r n e h = absurd h
ends_here script first i number now old new line leg status.Undecided r n e h = absurd h
