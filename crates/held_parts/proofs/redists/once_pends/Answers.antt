use Rattle.std.proofs.Common.{arith, ap, refl, ◌∙◌, ◌+◌}
use Rattle.its_plain.specs.Parts.{pend}
use Rattle.lpi_pending.specs.InHand.{pend_state}
use Rattle.lpi_pending.specs.InHand.{RedistParts, HasLpisOfPend}
use Rattle.its_steps.specs.Contents.{Pend}
use Rattle.its_steps.specs.World.{View}
use Rattle.its_turns.specs.Machines.{setup, view}
use Rattle.held_parts.specs.Redists.{pend_held, IsPendIn}
use Rattle.held_parts.proofs.Below.{taken_below}
use Rattle.held_parts.proofs.Once.{once_first, once_one, once_then, got_held, busy_one, busy_then}
use Rattle.held_parts.proofs.RedistLoops.{all_taken, none_taken, comes_next, not_taken, one_taken}
use Rattle.held_parts.proofs.RedistRows.{pend_kind}
use Rattle.held_parts.proofs.redists.once_pends.Goals as goal

pub loop-next-init : goal.loop-next-init
loop-next-init c = let s = setup c.args.machine.now in record {
  of = c.requires.of;
  takes = once_first (IsPendIn c.args.set) (view c.args.pass.now);
  within = omega arith;
  taken = none_taken pend_held (HasLpisOfPend s.start.layout.shape) s c.args.set c.args.redists.now.pends (view c.args.pass.now).held c.requires.empty;
  room = refl;
  confs = refl;
}

pub try_take_pend-requires-clause-order : goal.try_take_pend-requires-clause-order
try_take_pend-requires-clause-order c =
    let l = c.loop-next in let s = setup c.args.machine.now in let vcpu = c.in-Some.vcpu in
    comes_next pend_held (HasLpisOfPend s.start.layout.shape) s c.args.set l.next l.redists.pends (view c.args.pass.now).held (view l.pass).held l.invariant.taken
    pend pend_kind vcpu c.in-Some.ensures.least (c.requires.order (record { 0 = vcpu }))

pub put_first_pends-requires-clause-hand : goal.put_first_pends-requires-clause-hand
put_first_pends-requires-clause-hand c =
    let s = setup c.args.machine.now in let l = c.loop-next in let before = (view c.args.pass.now).held in
    let is = c.in-Some.ensures in let are = c.vcpus-vcpus.ensures.vcpus in
    taken_below pend_held (HasLpisOfPend s.start.layout.shape) s c.args.set c.in-Some.vcpu l.redists.pends before (view l.pass).held
    (omega (arith, is.below, are))
    (not_taken pend_held (HasLpisOfPend s.start.layout.shape) s c.args.set l.next l.redists.pends before (view l.pass).held l.invariant.taken c.in-Some.vcpu
    is.least is.none)

pub put_first_pends-requires-clause-held : goal.put_first_pends-requires-clause-held
put_first_pends-requires-clause-held c =
    let s = setup c.args.machine.now in let l = c.loop-next in let before = (view c.args.pass.now).held in let is = c.in-Some.ensures in (
      before,
      ap (λ (y : View). y.held) c.in-Err.ensures.result.view
          ∙ (not_taken pend_held (HasLpisOfPend s.start.layout.shape) s c.args.set l.next l.redists.pends before (view l.pass).held l.invariant.taken
          c.in-Some.vcpu is.least is.none).held,
    )

pub returns-in-Err-clause-result : goal.returns-in-Err-clause-result
returns-in-Err-clause-result c =
    let s = setup c.args.machine.now in let l = c.loop-next in let v = view c.args.pass.now in let x = view c.try_take_pend.new.pass in
    let is = c.in-Some.ensures in let want = c.args.set in (
      busy_then (IsPendIn want) v (view l.pass) x (view c.put_first_pends.new.pass) c.in-Err.busy l.invariant.takes
          (busy_one (IsPendIn want) (view l.pass) x (pend c.in-Some.vcpu) c.in-Err.busy is.has c.in-Err.ensures.result)
          (c.put_first_pends.ensures.home v.held (ap (λ (y : View). y.held) c.in-Err.ensures.result.view
          ∙ (not_taken pend_held (HasLpisOfPend s.start.layout.shape) s want l.next l.redists.pends v.held (view l.pass).held l.invariant.taken
          c.in-Some.vcpu is.least is.none).held)),
      c.put_first_pends.ensures.empty,
    )

pub loop-next-preserved : goal.loop-next-preserved
loop-next-preserved c =
    let s = setup c.args.machine.now in let l = c.loop-next in let before = (view c.args.pass.now).held in let want = c.args.set in
    let vcpu = c.in-Some.vcpu in let is = c.in-Some.ensures in let t = c.try_take_pend in let r = c.in-Ok.pend.value in let got = c.in-Ok.ensures.result in
    let are = c.vcpus-vcpus.ensures.vcpus in let room = c.requires.room in let kept = l.invariant.room in
    record {
      of = t.ensures.of;
      takes = once_then (IsPendIn want) (view c.args.pass.now) (view l.pass) (view t.new.pass) l.invariant.takes
          (once_one (IsPendIn want) (view l.pass) (view t.new.pass) (pend vcpu) (Pend (pend_state r)) is.has got.0);
      within = omega (arith, is.below);
      taken = rw (c.place_pend.ensures.placed) (one_taken pend_held (HasLpisOfPend s.start.layout.shape) s want vcpu l.redists.pends before (view l.pass).held
          (not_taken pend_held (HasLpisOfPend s.start.layout.shape) s want l.next l.redists.pends before (view l.pass).held l.invariant.taken vcpu is.least
          is.none)
          (vcpu + 1) (omega arith) r (view t.new.pass).held (omega (arith, is.below, are, room, kept)) is.has (omega (arith, is.below, are)) got.1
          (got_held (view l.pass) (view t.new.pass) (pend vcpu) (Pend (pend_state r)) got.0));
      room = c.place_pend.ensures.room ∙ l.invariant.room;
      confs = ap (λ (x : RedistParts). x.confs) c.place_pend.ensures.placed ∙ l.invariant.confs;
    }

pub returns-clause-result : goal.returns-clause-result
returns-clause-result c = let l = c.loop-next in let s = setup c.args.machine.now in
    let all = all_taken pend_held (HasLpisOfPend s.start.layout.shape) s c.args.set l.next c.vcpus-vcpus.result l.redists.pends (view c.args.pass.now).held
    (view l.pass).held c.vcpus-vcpus.ensures.vcpus l.invariant.within c.in_default.ensures l.invariant.taken in
    (l.invariant.takes, all.0, all.1)
