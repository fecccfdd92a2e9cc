-- An order that is confirmed explains the replies.
use Rattle.std.proofs.Common.{◌≡◌, ℕ, List, [], ◌∷◌, length, sym, ap, subst}
use Rattle.front_search.specs.Fronts.{Threads}
use Rattle.front_search.specs.Trails.{IsReached}
use Rattle.its_plain.specs.Plain.{Plain}
use Rattle.its_plain.specs.Described.{IsFirstState}
use Rattle.its_plain.specs.Runs.{Phase, Leg}
use Rattle.its_plain.specs.declared.desc.Desc.{Desc}
use Rattle.its_history.specs.ReadBack.{HasShape}
use Rattle.its_history.specs.declared.trace.Leg.{Leg as LegLines}
use Rattle.trace_check.specs.Verdicts.{IsReportOfRun}
use Rattle.its_fit.specs.Explained.{Line, report_of}
use Rattle.its_fit.specs.Ordered.{IsOrdered}
use Rattle.its_fit.specs.Replays.{Goes, spans_of}
use Rattle.its_fit.specs.Verdicts.{IsFit, IsStart}
use Rattle.its_fit.specs.declared.replay.Made.{Made}
use Rattle.its_fit.specs.declared.told.Answered.{Answered}
use Rattle.its_fit.specs.declared.told.Told.{Told}
use Rattle.its_fit.proofs.Once.{first_once}
use Rattle.its_fit.proofs.Reports.{has_shape}

-- the same by other names
pub names_by : {threads threads' : List (List Answered)} {made made' : List Made} → threads' ≡ threads → made ≡ made' → IsOrdered threads' made'
    → IsOrdered threads made
names_by {threads = threads} {made' = made'} t m o =
    subst (λ (x : List Made). IsOrdered threads x) (sym m) (subst (λ (x : List (List Answered)). IsOrdered x made') t o)

pub shape_of : (vcpus : ℕ) {calls : Phase} (legs : List Leg) (lines : List Line) (pending : List (List ℕ)) (told : List LegLines) → length pending ≡ vcpus
    → legs ≡ (calls ∷ []) ∷ [] → told ≡ report_of lines pending ∷ [] → HasShape vcpus (length legs) [] told
shape_of vcpus legs lines pending told long one e =
    subst (λ (n : ℕ). HasShape vcpus n [] told) (sym (ap length one)) (has_shape vcpus lines pending told long e)

pub fit_of : (d : Desc) (calls : Phase) (told : Told) (made : List Made) (u : Plain) (legs : List Leg) (lines : List LegLines) (o : IsOrdered told.threads made)
    → IsFirstState d u → legs ≡ (calls ∷ []) ∷ [] → lines ≡ report_of o.lines told.pending ∷ [] → IsReportOfRun u legs [] lines → IsFit d calls told lines
fit_of d calls told made u legs lines o starts one e run = record {
  made = (u, starts);
  lines = o.lines;
  explains = λ first is. record {
    merge = o.merge;
    times = o.times;
    is_run = subst (λ (ls : List LegLines). IsReportOfRun first ((calls ∷ []) ∷ []) [] ls) e
        (subst (λ (x : List Leg). IsReportOfRun first x [] lines) one
        (subst (λ (x : Plain). IsReportOfRun x legs [] lines) (first_once d u first starts is) run));
  };
  report = e;
}

pub reached_by : (d : Desc) (calls : Phase) (told : Told) (spans : Threads) (log : List Made) (order : List ℕ) → spans ≡ spans_of told.threads → log ≡ []
    → IsReached (Goes d calls told) spans log order → IsStart d calls told order
reached_by d calls told spans log order s l start =
    subst (λ (t : Threads). IsReached (Goes d calls told) t [] order) s (subst (λ (x : List Made). IsReached (Goes d calls told) spans x order) l start)
