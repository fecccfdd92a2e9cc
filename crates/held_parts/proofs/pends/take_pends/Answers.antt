use Rattle.std.proofs.Common.{arith, ap, refl, ◌∙◌, ◌+◌}
use Rattle.its_plain.specs.Parts.{pend}
use Rattle.lpi_pending.specs.InHand.{pend_state}
use Rattle.lpi_pending.specs.InHand.{RedistParts, HasLpisOfPend}
use Rattle.its_steps.specs.Contents.{Pend}
use Rattle.its_turns.specs.Machines.{setup, view}
use Rattle.held_parts.specs.Redists.{pend_held, IsPendIn}
use Rattle.held_parts.proofs.Going.{takes_first, takes_one, takes_then, took_held}
use Rattle.held_parts.proofs.RedistLoops.{all_taken, none_taken, comes_next, not_taken, one_taken}
use Rattle.held_parts.proofs.RedistRows.{pend_kind}
use Rattle.held_parts.proofs.pends.take_pends.Goals as goal

pub loop-next-init : goal.loop-next-init
loop-next-init g c = let s = setup c.args.machine.now in record {
  of = c.requires.of;
  takes = takes_first (IsPendIn c.args.set) (view c.args.pass.now);
  within = omega arith;
  taken = none_taken pend_held (HasLpisOfPend s.start.layout.shape) s c.args.set c.args.redists.now.pends (view c.args.pass.now).held c.requires.empty;
  room = refl;
  confs = refl;
  allowed = c.requires.allowed;
}

pub take_pend-pend-requires-clause-order : goal.take_pend-pend-requires-clause-order
take_pend-pend-requires-clause-order g c =
    let l = c.loop-next in let s = setup c.args.machine.now in let vcpu = c.in-Some.vcpu in
    comes_next pend_held (HasLpisOfPend s.start.layout.shape) s c.args.set l.next l.redists.pends (view c.args.pass.now).held (view l.pass).held l.invariant.taken
    pend pend_kind vcpu c.in-Some.ensures.least (c.requires.order (record { 0 = vcpu }))

pub loop-next-preserved : goal.loop-next-preserved
loop-next-preserved g c =
    let s = setup c.args.machine.now in let l = c.loop-next in let before = (view c.args.pass.now).held in let want = c.args.set in
    let vcpu = c.in-Some.vcpu in let is = c.in-Some.ensures in let t = c.take_pend-pend in let r = t.result.value in
    let are = c.vcpus-vcpus.ensures.vcpus in let room = c.requires.room in let kept = l.invariant.room in
    record {
      of = t.ensures.of;
      takes = takes_then (IsPendIn want) (view c.args.pass.now) (view l.pass) (view t.new.pass) l.invariant.takes
          (takes_one (IsPendIn want) (view l.pass) (view t.new.pass) (pend vcpu) (Pend (pend_state r)) is.has t.ensures.takes);
      within = omega (arith, is.below);
      taken = rw (c.place_pend.ensures.placed) (one_taken pend_held (HasLpisOfPend s.start.layout.shape) s want vcpu l.redists.pends before (view l.pass).held
          (not_taken pend_held (HasLpisOfPend s.start.layout.shape) s want l.next l.redists.pends before (view l.pass).held l.invariant.taken vcpu is.least
          is.none)
          (vcpu + 1) (omega arith) r (view t.new.pass).held (omega (arith, is.below, are, room, kept)) is.has (omega (arith, is.below, are)) t.ensures.lpis
          (took_held (view l.pass) (view t.new.pass) (pend vcpu) (Pend (pend_state r)) t.ensures.takes));
      room = c.place_pend.ensures.room ∙ l.invariant.room;
      confs = ap (λ (x : RedistParts). x.confs) c.place_pend.ensures.placed ∙ l.invariant.confs;
      allowed = t.ensures.allowed;
    }

pub returns-clause-held : goal.returns-clause-held
returns-clause-held g c = let l = c.loop-next in let s = setup c.args.machine.now in
    (all_taken pend_held (HasLpisOfPend s.start.layout.shape) s c.args.set l.next c.vcpus-vcpus.result l.redists.pends (view c.args.pass.now).held
    (view l.pass).held c.vcpus-vcpus.ensures.vcpus l.invariant.within c.in_default.ensures l.invariant.taken).0

pub returns-clause-hand : goal.returns-clause-hand
returns-clause-hand g c = let l = c.loop-next in let s = setup c.args.machine.now in
    (all_taken pend_held (HasLpisOfPend s.start.layout.shape) s c.args.set l.next c.vcpus-vcpus.result l.redists.pends (view c.args.pass.now).held
    (view l.pass).held c.vcpus-vcpus.ensures.vcpus l.invariant.within c.in_default.ensures l.invariant.taken).1
