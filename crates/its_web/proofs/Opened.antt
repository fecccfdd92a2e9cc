-- What comes of a leg, by what was told of it.
use Rattle.std.proofs.Common.{◌≡◌, ℕ, true, false, List, ◌++◌, Option, Some, None, refl, sym, ap, subst, ◌∙◌}
use Rattle.std.specs.String.{string_bytes}
use Rattle.its_plain.specs.Plain.{Plain}
use Rattle.its_plain.specs.Saved.{moved, IsSavable}
use Rattle.its_plain.specs.Runs.{Leg}
use Rattle.event_script.specs.declared.script.Move.{Move}
use Rattle.its_history.specs.Merged.{open_leg}
use Rattle.its_history.specs.Report.{leg_text}
use Rattle.its_history.specs.declared.trace.EntryLine.{EntryLine}
use Rattle.trace_check.specs.Differences.{lines, pending_texts}
use Rattle.its_answers.specs.Answered.{IsLegSpent, IsSpentEnding, LegStops}
use Rattle.its_answers.specs.Moves.{pages_of, move_line}
use Rattle.its_answers.specs.Opened.{IsLegOpen}
use Rattle.its_answers.specs.declared.ending.Ending.{Ending}
use Rattle.its_answers.specs.declared.status.Status.{Status}
use Rattle.its_answers.proofs.Told.{whole_moved, whole_cut, is_refused}
use Rattle.its_web.specs.Legs.{LegGoes, LegIsLeft}
use Rattle.its_web.specs.Played.{IsPlayed}

module _ (last : ℕ) (before now : Plain) (leg : Leg) (number : ℕ) (told : List EntryLine) where
  pub is_open : (pending : List (List ℕ)) (text : List ℕ) → IsPlayed last before leg told false now → pending ≡ pending_texts now
      → text ≡ leg_text number (record { entries = told; pending = pending; end = None }) → IsLegOpen last before now leg number text
  is_open pending text p texts is = record {
    history = p.history;
    is_run = p.whole refl;
    places = p.fits refl;
    now_is = p.now_is;
    text_is = is
        ∙ ap (λ (ls : List EntryLine). leg_text number (record { entries = ls; pending = pending; end = None })) p.lines_are
        ∙ ap (λ (ts : List (List ℕ)). leg_text number (record { entries = lines leg p.history; pending = ts; end = None }))
        (texts ∙ ap pending_texts p.now_is);
  }

  pub is_spent : (old new : List ℕ) (e : Ending) → IsPlayed last before leg told true now → IsSpentEnding number told old new e
      → IsLegSpent last before leg number old new (string_bytes e.line)
  is_spent old new e p s = record {
    history = p.history;
    is_part = p.part;
    all_places = p.full refl;
    more = p.more refl;
    added = s.added ∙ ap (λ (ls : List EntryLine). old ++ leg_text number (open_leg ls)) p.lines_are;
    line_is = s.line_is;
  }

module _ (last : ℕ) (before now next : Plain) (leg : Leg) (number : ℕ) (text old held new : List ℕ) (o : IsLegOpen last before now leg number text)
    (same : held ≡ old) (way : Move) where
  pub is_left : (g : Option Ending) → LegIsLeft now next way number text held new g → LegGoes last before next leg number way old new g
  is_left None left =
      let w = whole_moved last before now leg number text old new o way
      (left.2 ∙ ap (λ (h : List ℕ). h ++ (text ++ move_line (pages_of way now))) same) in
      record { whole = w.0; can = subst (λ (u : Plain). IsSavable u) w.1 left.0; now_is = left.1 ∙ ap moved w.1 }
  is_left (Some e) left =
      let told = left.2 in
      let w = whole_cut last before now leg number text old new o (told.added ∙ ap (λ (h : List ℕ). h ++ text) same) in
      subst (λ (s : Status). LegStops last before leg number old new s (string_bytes e.line)) (sym told.status_is)
      (is_refused last before now leg number old new (string_bytes e.line) left.0 w.0 w.1 left.1 told.line_is)
