-- What comes of a leg, by what was told of it.
use Rattle.std.proofs.Common.{◌≡◌, ℕ, List, ◌++◌, Option, Some, None, Err, refl, sym, ap, subst, ◌∙◌, append-nil}
use Rattle.std.specs.Prelude.{codes}
use Rattle.std.specs.Fmt.{decimal}
use Rattle.std.specs.String.{string_bytes}
use Rattle.its_plain.specs.Plain.{Plain}
use Rattle.its_plain.specs.History.{after}
use Rattle.its_plain.specs.Regions.{savable}
use Rattle.its_plain.specs.Runs.{Leg}
use Rattle.its_plain.specs.declared.fault.SaveFault.{SaveFault}
use Rattle.event_script.specs.declared.script.Move.{Move}
use Rattle.event_script.specs.declared.script.Move.TheVariants.{Migrate, Precopy}
use Rattle.its_history.specs.Report.{leg_text, end_text, entry_lines, vcpu_lines_from}
use Rattle.its_history.specs.declared.trace.End.{End}
use Rattle.its_history.specs.declared.trace.End.TheVariants.{Migrated, Copied, Done}
use Rattle.its_history.specs.declared.trace.EntryLine.{EntryLine}
use Rattle.its_history.specs.Reports.{ended, moved_end}
use Rattle.its_answers.specs.Moves.{pages_of, move_line}
use Rattle.trace_check.specs.Verdicts.{copies_for}
use Rattle.its_answers.specs.Refusals.{migration_refusal}
use Rattle.its_answers.specs.Answered.{IsLegSpent, IsLegWhole, IsLegRefused, LegStops, LegEnds}
use Rattle.its_answers.specs.Opened.{IsLegOpen, IsDoneEnding}
use Rattle.its_answers.specs.declared.ending.Ending.{Ending}
use Rattle.its_answers.specs.declared.status.Status.{Status}
use Rattle.its_answers.specs.declared.status.Status.TheVariants as status

-- ---- a leg's text, but for its last line

-- how it ends by the pages that are told
abbrev pub end_by : Option ℕ → End
end_by None = Migrated
end_by (Some pages) = Copied (decimal pages)

pub end_is : (way : Move) (u : Plain) → end_by (pages_of way u) ≡ moved_end (copies_for way) u
end_is Migrate u = refl
end_is Precopy u = refl

text_moved : (number : ℕ) (lines : List EntryLine) (pending : List (List ℕ)) (pages : Option ℕ)
    → leg_text number (record { entries = lines; pending = pending; end = None }) ++ move_line pages
    ≡ leg_text number (record { entries = lines; pending = pending; end = Some (end_by pages) })
unfolding leg_text end_text
text_moved number lines pending None =
    ap (λ (text : List ℕ). text ++ codes "migrated\n")
    (append-nil (codes "leg " ++ decimal number ++ codes "\n" ++ entry_lines lines ++ vcpu_lines_from 0 pending))
text_moved number lines pending (Some pages) =
    ap (λ (text : List ℕ). text ++ (codes "migrated copied " ++ decimal pages ++ codes "\n"))
    (append-nil (codes "leg " ++ decimal number ++ codes "\n" ++ entry_lines lines ++ vcpu_lines_from 0 pending))

text_done : (number : ℕ) (lines : List EntryLine) (pending : List (List ℕ))
    → leg_text number (record { entries = lines; pending = pending; end = None }) ++ codes "done\n"
    ≡ leg_text number (record { entries = lines; pending = pending; end = Some Done })
unfolding leg_text end_text
text_done number lines pending =
    ap (λ (text : List ℕ). text ++ codes "done\n")
    (append-nil (codes "leg " ++ decimal number ++ codes "\n" ++ entry_lines lines ++ vcpu_lines_from 0 pending))

-- ---- a leg that is told but for its last line

module _ (last : ℕ) (before now : Plain) (leg : Leg) (number : ℕ) (text old new : List ℕ) (o : IsLegOpen last before now leg number text) where
  -- a line was added with it, or none
  whole : (end : Plain → Option End) (line : List ℕ) → new ≡ old ++ line
      → line ≡ leg_text number (ended before leg o.history (end now))
      → (w : IsLegWhole last before leg number end old new) × (now ≡ after before w.history)
  whole end line added is = (
    record {
      history = o.history;
      is_run = o.is_run;
      places = o.places;
      added = added ∙ ap (λ (t : List ℕ). old ++ t) (is ∙ ap (λ (u : Plain). leg_text number (ended before leg o.history (end u))) o.now_is);
    },
    o.now_is,
  )

  pub whole_moved : (way : Move) → new ≡ old ++ (text ++ move_line (pages_of way now))
      → (w : IsLegWhole last before leg number (λ u. Some (moved_end (copies_for way) u)) old new) × (now ≡ after before w.history)
  whole_moved way added =
      whole (λ u. Some (moved_end (copies_for way) u)) (text ++ move_line (pages_of way now)) added
      (ap (λ (t : List ℕ). t ++ move_line (pages_of way now)) o.text_is ∙ text_moved number _ _ (pages_of way now)
      ∙ ap (λ (e : End). leg_text number (ended before leg o.history (Some e))) (end_is way now))

  pub whole_done : new ≡ old ++ (text ++ codes "done\n") → IsLegWhole last before leg number (λ u. Some Done) old new
  whole_done added =
      (whole (λ u. Some Done) (text ++ codes "done\n") added (ap (λ (t : List ℕ). t ++ codes "done\n") o.text_is ∙ text_done number _ _)).0

  pub whole_cut : new ≡ old ++ text → (w : IsLegWhole last before leg number (λ u. None) old new) × (now ≡ after before w.history)
  whole_cut added = whole (λ u. None) text added o.text_is

pub spent_stops : (last : ℕ) (before : Plain) (leg : Leg) (number : ℕ) (old new line : List ℕ) (s : Status) → s ≡ status.Spent
    → IsLegSpent last before leg number old new line → LegStops last before leg number old new s line
spent_stops last before leg number old new line s is h = subst (λ (t : Status). LegStops last before leg number old new t line) (sym is) h

pub spent_ends : (last : ℕ) (before : Plain) (leg : Leg) (number : ℕ) (old new line : List ℕ) (s : Status) → s ≡ status.Spent
    → IsLegSpent last before leg number old new line → LegEnds last before leg number old new s line
spent_ends last before leg number old new line s is h = subst (λ (t : Status). LegEnds last before leg number old new t line) (sym is) h

-- the state can't be saved
pub is_refused : (last : ℕ) (before u : Plain) (leg : Leg) (number : ℕ) (old new line : List ℕ) (f : SaveFault)
    → (w : IsLegWhole last before leg number (λ v. None) old new) → u ≡ after before w.history → savable u ≡ Err f → line ≡ migration_refusal number f
    → IsLegRefused last before leg number old new line
is_refused last before u leg number old new line f w is none line_is =
    record { whole = w; fault = f; refused = sym (ap savable is) ∙ none; line_is = line_is }

-- ---- what comes of a leg that was told so

pub last_done : (last : ℕ) (before now : Plain) (leg : Leg) (number : ℕ) (text old held new : List ℕ) (e : Ending)
    → IsLegOpen last before now leg number text → held ≡ old → IsDoneEnding text held new e → LegEnds last before leg number old new e.status (string_bytes e.line)
last_done last before now leg number text old held new e o same told =
    subst (λ (s : Status). LegEnds last before leg number old new s (string_bytes e.line)) (sym told.status_is) (record {
      whole = whole_done last before now leg number text old new o (told.added ∙ ap (λ (h : List ℕ). h ++ (text ++ codes "done\n")) same);
      line_is = told.line_is;
    })
