use Rattle.std.proofs.Common.{◌∙◌, ◌-◌, ◌+◌, List, ℕ, sym, ap}
use Rattle.its_history.specs.Reading.{pending_from}
use Rattle.fit_answers.specs.ToldText.{left}
use Rattle.its_history.proofs.ReadLegs.{in_front, pending_on}
use Rattle.fit_answers.proofs.left.Lines.pending_lists.Goals as goal

pub loop-vcpu-preserved : goal.loop-vcpu-preserved
loop-vcpu-preserved c =
    let l = c.loop-vcpu in
    let now = left c.pending.new.self in
    l.invariant ∙ pending_on l.lists c.in_ok-text.text l.vcpu c.args.vcpus (left l.self) now c.loop-vcpu-test.true c.in_ok-text.ensures
    ∙ ap (λ (ps : List (List ℕ)). in_front ps (pending_from (l.vcpu + 1) (c.args.vcpus - (l.vcpu + 1)) now)) (sym c.in_ok-push.ensures.ok)
