-- The report of each run is read as it is.
use Rattle.std.proofs.Common.{◌≡◌, ℕ, ◌≤◌, Bool, true, ◌&&◌, nat_lt, nat_le, List, [], ◌∷◌, length, drop, Some, None, refl, sym, subst, ◌∙◌, arith}
use Rattle.std.specs.List.{AllByRecursion, list_all}
use Rattle.std.proofs.lemmas.Bool.{and_parts}
use Rattle.its_types.specs.Ranges.{most_vcpus}
use Rattle.its_plain.specs.Plain.{Plain}
use Rattle.its_plain.specs.History.{after}
use Rattle.its_plain.specs.Runs.{Leg, IsRun}
use Rattle.its_plain.specs.Saved.{moved}
use Rattle.its_plain.specs.declared.call.Entry.{Entry}
use Rattle.its_plain.specs.declared.desc.Desc.{Desc}
use Rattle.its_plain.specs.declared.desc.Fill.{Fill}
use Rattle.event_script.specs.Limits.{are_bytes, is_fill, is_leg}
use Rattle.its_history.specs.ReadBack.{HasShape, IsLegReadable}
use Rattle.its_history.specs.Reports.{copies_first, moved_end, reported}
use Rattle.its_history.specs.declared.trace.End.TheVariants.{Done}
use Rattle.its_history.specs.declared.trace.Leg.{Leg as LegLines}
use Rattle.its_history.proofs.ReadAgain.{reports_again}
use Rattle.report_reading.specs.Bytes.{HasBytes, FillBytes}
use Rattle.report_reading.specs.Laws.{RunReportsAreRead}
use Rattle.report_reading.proofs.Calls.{Goes, moved_goes}
use Rattle.report_reading.proofs.Entries.{leg_entries}
use Rattle.report_reading.proofs.Lines.{after_goes, moved_readable, moved_ends, leg_readable, leg_shape}
use Rattle.report_reading.proofs.Start.{start_bytes, start_count}

-- the legs have the shape of a report, and can be read
abbrev CanBeRead : ℕ → ℕ → List Bool → List LegLines → Type 0
CanBeRead vcpus legs copies told = HasShape vcpus legs copies told × AllByRecursion IsLegReadable told

module _ (d : Desc) where
  abbrev vcpus : ℕ
  vcpus = d.shape.vcpus

  runs_can : (first : Plain) (legs : List Leg) (copies : List Bool) (hs : List (List Entry)) → HasBytes first → length first.redistributors ≡ vcpus
      → list_all (is_leg d) legs ≡ true
      → IsRun first legs hs → CanBeRead vcpus (length legs) copies (reported first legs copies hs)
  runs_can first [] copies hs bytes count fit run =
      subst (λ (x : List (List Entry)). CanBeRead vcpus 0 copies (reported first [] copies x)) (sym run) (tt, tt)
  runs_can first (leg ∷ []) copies hs bytes count fit run =
      let h : List Entry = run.0 in
      let of = leg_entries d leg h (and_parts (is_leg d leg) true fit).0 run.2.calls in
      subst (λ (x : List (List Entry)). CanBeRead vcpus (length (leg ∷ [])) copies (reported first (leg ∷ []) copies x)) (sym run.1) (
        (leg_shape first leg h of.0 of.1 vcpus None Done refl count, tt),
        (leg_readable first leg h of.0 of.1 Done tt bytes run.2.legal, tt),
      )
  runs_can first (leg ∷ (next ∷ legs)) copies hs bytes count fit run =
      let h : List Entry = run.0 in
      let last : Plain = after first h in
      let copied : Bool = copies_first copies in
      let parts = and_parts (is_leg d leg) (list_all (is_leg d) (next ∷ legs)) fit in
      let of = leg_entries d leg h parts.0 run.3.calls in
      let ends : Goes first last = after_goes first h of.1.range in
      let goes_on : Goes last (moved last) = moved_goes last in
      let later : CanBeRead vcpus (length (next ∷ legs)) (drop 1 copies) (reported (moved last) (next ∷ legs) (drop 1 copies) run.1) =
      runs_can (moved last) (next ∷ legs) (drop 1 copies) run.1 (goes_on.0 (ends.0 bytes)) (goes_on.1 ∙ (ends.1 ∙ count)) parts.1 run.5 in
      subst (λ (x : List (List Entry)). CanBeRead vcpus (length (leg ∷ (next ∷ legs))) copies (reported first (leg ∷ (next ∷ legs)) copies x)) (sym run.2) (
        (leg_shape first leg h of.0 of.1 vcpus (Some copied) (moved_end copied last) (moved_ends copied last) count, later.0),
        (leg_readable first leg h of.0 of.1 (moved_end copied last) (moved_readable copied last) bytes run.3.legal, later.1),
      )

fills_small : (fills : List Fill) → list_all is_fill fills ≡ true → FillBytes fills
fills_small [] e = tt
fills_small (f ∷ fills) e =
    let parts = and_parts (is_fill f) (list_all is_fill fills) e in
    ((and_parts (nat_lt 0 (length f.bytes) && nat_le (length f.bytes) 4096) (are_bytes f.bytes) parts.0).1, fills_small fills parts.1)

pub run_reports : RunReportsAreRead
run_reports script first copies hs within starts run =
    let d = script.desc in
    let bytes : HasBytes first = start_bytes d first (fills_small d.fills within.fills) starts in
    let few : d.shape.vcpus ≤ most_vcpus = within.description.shape.most_vcpus in
    let count = start_count d first within.description.tables starts in
    let can = runs_can d first script.legs copies hs bytes count within.legs run in
    reports_again (length script.legs) copies d.shape.vcpus (reported first script.legs copies hs) (omega (arith, within.most_legs)) (omega (arith, few)) can.0
    can.1
