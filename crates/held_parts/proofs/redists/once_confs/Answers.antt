use Rattle.std.proofs.Common.{arith, ap, refl, ◌∙◌, ◌+◌}
use Rattle.its_plain.specs.Parts.{conf}
use Rattle.lpi_config.specs.Conf.{conf_state}
use Rattle.lpi_pending.specs.InHand.{RedistParts, HasLpisOfConf}
use Rattle.its_steps.specs.Contents.{Conf}
use Rattle.its_steps.specs.World.{View}
use Rattle.its_turns.specs.Machines.{setup, view}
use Rattle.held_parts.specs.Redists.{conf_held, IsConfIn}
use Rattle.held_parts.proofs.Below.{taken_below}
use Rattle.held_parts.proofs.Once.{once_first, once_one, once_then, got_held, busy_one, busy_then}
use Rattle.held_parts.proofs.RedistLoops.{all_taken, none_taken, comes_next, not_taken, one_taken}
use Rattle.held_parts.proofs.RedistRows.{conf_kind}
use Rattle.held_parts.proofs.redists.once_confs.Goals as goal

pub loop-next-init : goal.loop-next-init
loop-next-init c = let s = setup c.args.machine.now in record {
  of = c.requires.of;
  takes = once_first (IsConfIn c.args.set) (view c.args.pass.now);
  within = omega arith;
  taken = none_taken conf_held (HasLpisOfConf s.start.layout.shape) s c.args.set c.args.redists.now.confs (view c.args.pass.now).held c.requires.empty;
  room = refl;
  pends = refl;
}

pub try_take_conf-requires-clause-order : goal.try_take_conf-requires-clause-order
try_take_conf-requires-clause-order c =
    let l = c.loop-next in let s = setup c.args.machine.now in let vcpu = c.in-Some.vcpu in
    comes_next conf_held (HasLpisOfConf s.start.layout.shape) s c.args.set l.next l.redists.confs (view c.args.pass.now).held (view l.pass).held l.invariant.taken
    conf conf_kind vcpu c.in-Some.ensures.least (c.requires.order (record { 0 = vcpu }))

pub put_first_confs-requires-clause-hand : goal.put_first_confs-requires-clause-hand
put_first_confs-requires-clause-hand c =
    let s = setup c.args.machine.now in let l = c.loop-next in let before = (view c.args.pass.now).held in
    let is = c.in-Some.ensures in let are = c.vcpus-vcpus.ensures.vcpus in
    taken_below conf_held (HasLpisOfConf s.start.layout.shape) s c.args.set c.in-Some.vcpu l.redists.confs before (view l.pass).held
    (omega (arith, is.below, are))
    (not_taken conf_held (HasLpisOfConf s.start.layout.shape) s c.args.set l.next l.redists.confs before (view l.pass).held l.invariant.taken c.in-Some.vcpu
    is.least is.none)

pub put_first_confs-requires-clause-held : goal.put_first_confs-requires-clause-held
put_first_confs-requires-clause-held c =
    let s = setup c.args.machine.now in let l = c.loop-next in let before = (view c.args.pass.now).held in let is = c.in-Some.ensures in (
      before,
      ap (λ (y : View). y.held) c.in-Err.ensures.result.view
          ∙ (not_taken conf_held (HasLpisOfConf s.start.layout.shape) s c.args.set l.next l.redists.confs before (view l.pass).held l.invariant.taken
          c.in-Some.vcpu is.least is.none).held,
    )

pub returns-in-Err-clause-result : goal.returns-in-Err-clause-result
returns-in-Err-clause-result c =
    let s = setup c.args.machine.now in let l = c.loop-next in let v = view c.args.pass.now in let x = view c.try_take_conf.new.pass in
    let is = c.in-Some.ensures in let want = c.args.set in (
      busy_then (IsConfIn want) v (view l.pass) x (view c.put_first_confs.new.pass) c.in-Err.busy l.invariant.takes
          (busy_one (IsConfIn want) (view l.pass) x (conf c.in-Some.vcpu) c.in-Err.busy is.has c.in-Err.ensures.result)
          (c.put_first_confs.ensures.home v.held (ap (λ (y : View). y.held) c.in-Err.ensures.result.view
          ∙ (not_taken conf_held (HasLpisOfConf s.start.layout.shape) s want l.next l.redists.confs v.held (view l.pass).held l.invariant.taken
          c.in-Some.vcpu is.least is.none).held)),
      c.put_first_confs.ensures.empty,
    )

pub loop-next-preserved : goal.loop-next-preserved
loop-next-preserved c =
    let s = setup c.args.machine.now in let l = c.loop-next in let before = (view c.args.pass.now).held in let want = c.args.set in
    let vcpu = c.in-Some.vcpu in let is = c.in-Some.ensures in let t = c.try_take_conf in let r = c.in-Ok.conf.value in let got = c.in-Ok.ensures.result in
    let are = c.vcpus-vcpus.ensures.vcpus in let room = c.requires.room in let kept = l.invariant.room in
    record {
      of = t.ensures.of;
      takes = once_then (IsConfIn want) (view c.args.pass.now) (view l.pass) (view t.new.pass) l.invariant.takes
          (once_one (IsConfIn want) (view l.pass) (view t.new.pass) (conf vcpu) (Conf (conf_state r)) is.has got.0);
      within = omega (arith, is.below);
      taken = rw (c.place_conf.ensures.placed) (one_taken conf_held (HasLpisOfConf s.start.layout.shape) s want vcpu l.redists.confs before (view l.pass).held
          (not_taken conf_held (HasLpisOfConf s.start.layout.shape) s want l.next l.redists.confs before (view l.pass).held l.invariant.taken vcpu is.least
          is.none)
          (vcpu + 1) (omega arith) r (view t.new.pass).held (omega (arith, is.below, are, room, kept)) is.has (omega (arith, is.below, are)) got.1
          (got_held (view l.pass) (view t.new.pass) (conf vcpu) (Conf (conf_state r)) got.0));
      room = c.place_conf.ensures.room ∙ l.invariant.room;
      pends = ap (λ (x : RedistParts). x.pends) c.place_conf.ensures.placed ∙ l.invariant.pends;
    }

pub returns-clause-result : goal.returns-clause-result
returns-clause-result c = let l = c.loop-next in let s = setup c.args.machine.now in
    let all = all_taken conf_held (HasLpisOfConf s.start.layout.shape) s c.args.set l.next c.vcpus-vcpus.result l.redists.confs (view c.args.pass.now).held
    (view l.pass).held c.vcpus-vcpus.ensures.vcpus l.invariant.within c.in_default.ensures l.invariant.taken in
    (l.invariant.takes, all.0, all.1)
