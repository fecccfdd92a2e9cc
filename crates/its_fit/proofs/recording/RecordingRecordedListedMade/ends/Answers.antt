use Rattle.std.proofs.Common.{◌≡◌, ℕ, List, subst, Decides}
use Rattle.its_plain.specs.Plain.{Plain}
use Rattle.trace_check.specs.Differences.{pending_texts}
use Rattle.its_fit.specs.Replays.{IsAfter}
use Rattle.its_fit.specs.declared.replay.Made.{Made}
use Rattle.its_fit.proofs.Answering.{ends_after}
use Rattle.its_fit.proofs.recording.RecordingRecordedListedMade.ends.Goals as goal

pub returns-clause-ends : goal.returns-clause-ends
returns-clause-ends c =
    let self = c.args.self.now in let m = c.bring.new.self.machine in
    let here : IsAfter self.desc.now self.calls.now c.args.state.now m = subst (λ (log : List Made). IsAfter self.desc.now self.calls.now log m) c.as_slice.ensures
    c.in_ok-bring.ensures.after in
    let of : Decides c.in_ok-ends.ends (c.as_slice-2.result.now ≡ pending_texts m) =
    subst (λ (u : Plain). Decides c.in_ok-ends.ends (c.as_slice-2.result.now ≡ pending_texts u)) c.machine.ensures c.in_ok-ends.ensures in
    let ends : Decides c.in_ok-ends.ends (self.told.now.pending ≡ pending_texts m) =
    subst (λ (p : List (List ℕ)). Decides c.in_ok-ends.ends (p ≡ pending_texts m)) c.as_slice-2.ensures of in
    ends_after self.desc.now self.calls.now self.told.now c.args.state.now m c.in_ok-ends.ends here ends
