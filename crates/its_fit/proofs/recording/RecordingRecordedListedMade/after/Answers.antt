use Rattle.std.proofs.Common.{◌∙◌, List, [], ◌∷◌, ◌++◌, ap, subst}
use Rattle.std.proofs.lemmas.Bool.Decides.{not_from_Decides}
use Rattle.its_fit.specs.Replays.{IsAfter, made_at}
use Rattle.its_fit.specs.declared.replay.Made.{Made}
use Rattle.its_fit.proofs.Answering.{always_so}
use Rattle.its_fit.proofs.recording.RecordingRecordedListedMade.after.Goals as goal

pub returns-then-not-goes-clause-goes : goal.returns-then-not-goes-clause-goes
returns-then-not-goes-clause-goes c =
    let self = c.args.self.now in let m = c.bring.new.self.machine in
    let here : IsAfter self.desc.now self.calls.now c.args.state.now m = subst (λ (log : List Made). IsAfter self.desc.now self.calls.now log m) c.as_slice.ensures
    c.in_ok-bring.ensures.after in
    λ w g.
    not_from_Decides c.in_ok-goes.goes
    (always_so self.desc.now self.calls.now self.told.now c.args.state.now m c.args.thread c.args.call c.in_ok-goes.goes here c.in_ok-goes.ensures.goes)
    c.if-not-goes.true g.so

pub returns-clause-goes : goal.returns-clause-goes
returns-clause-goes c =
    let self = c.args.self.now in let m = c.bring.new.self.machine in
    let here : IsAfter self.desc.now self.calls.now c.args.state.now m = subst (λ (log : List Made). IsAfter self.desc.now self.calls.now log m) c.as_slice.ensures
    c.in_ok-bring.ensures.after in
    record {
      so = (always_so self.desc.now self.calls.now self.told.now c.args.state.now m c.args.thread c.args.call c.in_ok-goes.goes here c.in_ok-goes.ensures.goes).0
          c.if-not-goes.false;
      is_more = c.in_ok-with_one_more.ensures ∙ ap (λ (log : List Made). log ++ made_at c.args.thread c.args.call ∷ []) c.as_slice-2.ensures;
    }
