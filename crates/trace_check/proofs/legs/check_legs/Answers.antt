use Rattle.std.proofs.Common.{◌+◌, Bool, Option, subst, sym}
use Rattle.its_history.specs.ReadBack.{EndsBefore}
use Rattle.trace_check.specs.Steps.{IsWhole, IsNotWhole}
use Rattle.trace_check.specs.Verdicts.{copies_of}
use Rattle.trace_check.proofs.Checked.{InHand, checking_none, checking_next, checking_all, placed, pending_long, ends_before, differs_so}
use Rattle.trace_check.proofs.legs.check_legs.Goals as goal
use Rattle.trace_check.proofs.legs.check_legs.Goals.{After-as_slice-phases}

-- the leg at hand, and its lines
in_hand : (c : After-as_slice-phases) → InHand c.args.legs.now c.args.trace.now.legs c.loop-index.index c.as_slice-phases.result.now c.index-lines-index.result
in_hand c = record {
  below = c.loop-index-test.true;
  item = c.index-legs-index.result;
  leg_is = c.as_slice-phases.ensures;
  item_at = c.index-legs-index.is;
  lists = c.as_slice-lines.result.now;
  lists_are = c.as_slice-lines.ensures;
  lines_at = c.index-lines-index.is;
}

pub loop-index-init : goal.loop-index-init
loop-index-init c = checking_none c.args.machine.now c.args.legs.now (copies_of c.args.moves.now) c.args.trace.now.legs c.requires

pub check_whole-requires-clause-placed : goal.check_whole-requires-clause-placed
check_whole-requires-clause-placed c =
    let l = c.loop-index in
    placed c.args.machine.now c.args.legs.now (copies_of c.args.moves.now) c.args.trace.now.legs l.index l.machine c.as_slice-phases.result.now
    c.index-lines-index.result l.invariant (in_hand (goal.at.check_whole-requires-clause-placed c).After-as_slice-phases)

pub check_whole-requires-clause-vcpus : goal.check_whole-requires-clause-vcpus
check_whole-requires-clause-vcpus c =
    let l = c.loop-index in
    pending_long c.args.machine.now c.args.legs.now (copies_of c.args.moves.now) c.args.trace.now.legs l.index l.machine c.as_slice-phases.result.now
    c.index-lines-index.result l.invariant (in_hand (goal.at.check_whole-requires-clause-vcpus c).After-as_slice-phases)

pub check_whole-requires-clause-ends : goal.check_whole-requires-clause-ends
check_whole-requires-clause-ends c =
    let l = c.loop-index in let t = c.index-lines-index.result in
    subst (λ (m : Option Bool). EndsBefore m t.end) (sym c.copies_after-copies.ensures)
    (ends_before c.args.machine.now c.args.legs.now (copies_of c.args.moves.now) c.args.trace.now.legs l.index l.machine c.as_slice-phases.result.now
    t l.invariant (in_hand (goal.at.check_whole-requires-clause-ends c).After-as_slice-phases))

pub returns-in-Some : goal.returns-in-Some
returns-in-Some c =
    let l = c.loop-index in let t = c.index-lines-index.result in let leg = c.as_slice-phases.result.now in let d = c.in-Some.difference in
    let wrong : IsNotWhole (l.index + 1) l.machine leg c.copies_after-copies.result t d = rw c.in-Some.is at c.in_ok-difference.ensures.wrong in
    differs_so c.args.machine.now c.args.legs.now (copies_of c.args.moves.now) c.args.trace.now.legs l.index l.machine leg t l.invariant
    (in_hand (goal.at.returns-in-Some c).After-as_slice-phases) d
    (subst (λ (m : Option Bool). IsNotWhole (l.index + 1) l.machine leg m t d) c.copies_after-copies.ensures wrong)

pub loop-index-preserved : goal.loop-index-preserved
loop-index-preserved c =
    let l = c.loop-index in let t = c.index-lines-index.result in let leg = c.as_slice-phases.result.now in let w = c.check_whole.new.machine in
    let right : IsWhole l.machine leg c.copies_after-copies.result t w = rw c.in_default.is at c.in_ok-difference.ensures.right in
    checking_next c.args.machine.now c.args.legs.now (copies_of c.args.moves.now) c.args.trace.now.legs l.index l.machine leg t l.invariant
    (in_hand (goal.at.loop-index-preserved c).After-as_slice-phases) w
    (subst (λ (m : Option Bool). IsWhole l.machine leg m t w) c.copies_after-copies.ensures right)

pub returns : goal.returns
returns c =
    checking_all c.args.machine.now c.args.legs.now (copies_of c.args.moves.now) c.args.trace.now.legs c.loop-index.index c.loop-index.machine
    c.loop-index.invariant c.loop-index-test.false
