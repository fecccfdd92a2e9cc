use Rattle.std.proofs.Common.{arith, ap, refl, ◌∙◌, ◌+◌}
use Rattle.its_plain.specs.Parts.{conf}
use Rattle.lpi_config.specs.Conf.{conf_state}
use Rattle.lpi_pending.specs.InHand.{RedistParts, HasLpisOfConf}
use Rattle.its_steps.specs.Contents.{Conf}
use Rattle.its_turns.specs.Machines.{setup, view}
use Rattle.held_parts.specs.Redists.{conf_held, IsConfIn}
use Rattle.held_parts.proofs.Going.{takes_first, takes_one, takes_then, took_held}
use Rattle.held_parts.proofs.RedistLoops.{all_taken, none_taken, comes_next, not_taken, one_taken}
use Rattle.held_parts.proofs.RedistRows.{conf_kind}
use Rattle.held_parts.proofs.confs.take_confs.Goals as goal

pub loop-next-init : goal.loop-next-init
loop-next-init g c = let s = setup c.args.machine.now in record {
  of = c.requires.of;
  takes = takes_first (IsConfIn c.args.set) (view c.args.pass.now);
  within = omega arith;
  taken = none_taken conf_held (HasLpisOfConf s.start.layout.shape) s c.args.set c.args.redists.now.confs (view c.args.pass.now).held c.requires.empty;
  room = refl;
  pends = refl;
  allowed = c.requires.allowed;
}

pub take_conf-conf-requires-clause-order : goal.take_conf-conf-requires-clause-order
take_conf-conf-requires-clause-order g c =
    let l = c.loop-next in let s = setup c.args.machine.now in let vcpu = c.in-Some.vcpu in
    comes_next conf_held (HasLpisOfConf s.start.layout.shape) s c.args.set l.next l.redists.confs (view c.args.pass.now).held (view l.pass).held l.invariant.taken
    conf conf_kind vcpu c.in-Some.ensures.least (c.requires.order (record { 0 = vcpu }))

pub loop-next-preserved : goal.loop-next-preserved
loop-next-preserved g c =
    let s = setup c.args.machine.now in let l = c.loop-next in let before = (view c.args.pass.now).held in let want = c.args.set in
    let vcpu = c.in-Some.vcpu in let is = c.in-Some.ensures in let t = c.take_conf-conf in let r = t.result.value in
    let are = c.vcpus-vcpus.ensures.vcpus in let room = c.requires.room in let kept = l.invariant.room in
    record {
      of = t.ensures.of;
      takes = takes_then (IsConfIn want) (view c.args.pass.now) (view l.pass) (view t.new.pass) l.invariant.takes
          (takes_one (IsConfIn want) (view l.pass) (view t.new.pass) (conf vcpu) (Conf (conf_state r)) is.has t.ensures.takes);
      within = omega (arith, is.below);
      taken = rw (c.place_conf.ensures.placed) (one_taken conf_held (HasLpisOfConf s.start.layout.shape) s want vcpu l.redists.confs before (view l.pass).held
          (not_taken conf_held (HasLpisOfConf s.start.layout.shape) s want l.next l.redists.confs before (view l.pass).held l.invariant.taken vcpu is.least
          is.none)
          (vcpu + 1) (omega arith) r (view t.new.pass).held (omega (arith, is.below, are, room, kept)) is.has (omega (arith, is.below, are)) t.ensures.lpis
          (took_held (view l.pass) (view t.new.pass) (conf vcpu) (Conf (conf_state r)) t.ensures.takes));
      room = c.place_conf.ensures.room ∙ l.invariant.room;
      pends = ap (λ (x : RedistParts). x.pends) c.place_conf.ensures.placed ∙ l.invariant.pends;
      allowed = t.ensures.allowed;
    }

pub returns-clause-held : goal.returns-clause-held
returns-clause-held g c = let l = c.loop-next in let s = setup c.args.machine.now in
    (all_taken conf_held (HasLpisOfConf s.start.layout.shape) s c.args.set l.next c.vcpus-vcpus.result l.redists.confs (view c.args.pass.now).held
    (view l.pass).held c.vcpus-vcpus.ensures.vcpus l.invariant.within c.in_default.ensures l.invariant.taken).0

pub returns-clause-hand : goal.returns-clause-hand
returns-clause-hand g c = let l = c.loop-next in let s = setup c.args.machine.now in
    (all_taken conf_held (HasLpisOfConf s.start.layout.shape) s c.args.set l.next c.vcpus-vcpus.result l.redists.confs (view c.args.pass.now).held
    (view l.pass).held c.vcpus-vcpus.ensures.vcpus l.invariant.within c.in_default.ensures l.invariant.taken).1
