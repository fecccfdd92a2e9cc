use Rattle.std.proofs.Common.{arith, ap, sym, ◌∙◌, refl, List, Option}
use Rattle.std.specs.Prelude.{is_some}
use Rattle.lpi_config.specs.Conf.{conf_state}
use Rattle.lpi_config.specs.Conf.{Conf as ConfInHand}
use Rattle.lpi_pending.specs.InHand.{RedistParts, HasLpisOfConf}
use Rattle.its_steps.specs.Contents.{Held, Conf}
use Rattle.its_steps.specs.World.{View}
use Rattle.its_turns.specs.Contents.{held_before}
use Rattle.its_turns.specs.Machines.{setup, view}
use Rattle.its_turns.specs.Told.{released}
use Rattle.held_parts.specs.Redists.{conf_held, confs_held}
use Rattle.held_parts.specs.Taking.{holding}
use Rattle.held_parts.proofs.Below.{sized}
use Rattle.held_parts.proofs.RedistLoops.{all_left, all_home, is_in_hand, none_before, highest_first, highest_left}
use Rattle.held_parts.proofs.confs.put_first_confs.Goals as goal

pub loop-vcpu-init : goal.loop-vcpu-init
loop-vcpu-init c = let s = sized c.args.count (setup c.args.machine.now) in
    record {
      of = c.requires.of;
      home = λ before is. ap (λ (h : List Held). holding (view c.args.pass.now) h) is;
      within = c.requires.count;
      below = omega arith;
      left = all_left conf_held (HasLpisOfConf s.start.layout.shape) s c.args.set c.args.count c.args.redists.now.confs refl c.requires.hand;
      room = refl;
      pends = refl;
    }

pub take_conf-conf-requires : goal.take_conf-conf-requires
take_conf-conf-requires c = let s = sized c.args.count (setup c.args.machine.now) in let l = c.loop-vcpu in let vcpu = c.in-Some.vcpu in let is = c.in-Some.ensures in
    ap (λ (o : Option ConfInHand). is_some o) (l.invariant.left.below vcpu is.below)
    ∙ is_in_hand conf_held (HasLpisOfConf s.start.layout.shape) s c.args.set c.args.redists.now.confs vcpu c.requires.hand is.has
    (omega (arith, is.below, l.invariant.below))

pub put-requires-clause-owed : goal.put-requires-clause-owed
put-requires-clause-owed c =
    let s = sized c.args.count (setup c.args.machine.now) in let old = c.args.redists.now in let before = c.requires.held.0 in let l = c.loop-vcpu in
    let vcpu = c.in-Some.vcpu in let is = c.in-Some.ensures in let r = c.take_conf-conf.result.value in
    record {
      content = Conf (conf_state r);
      content_is = refl;
      before = confs_held old vcpu before;
      last = ap (λ (y : View). y.held) (l.invariant.home before c.requires.held.1)
          ∙ highest_first conf_held (HasLpisOfConf s.start.layout.shape) s c.args.set old.confs l.end vcpu c.requires.hand is.below is.none before r
          (sym (l.invariant.left.below vcpu is.below) ∙ c.take_conf-conf.ensures.value);
    }

pub loop-vcpu-preserved : goal.loop-vcpu-preserved
loop-vcpu-preserved c =
    let s = sized c.args.count (setup c.args.machine.now) in let l = c.loop-vcpu in let old = c.args.redists.now in
    let vcpu = c.in-Some.vcpu in let is = c.in-Some.ensures in let r = c.take_conf-conf.result.value in
    record {
      of = c.put.ensures.of;
      home = λ before e. c.put.ensures.view ∙ (ap released (l.invariant.home before e)
          ∙ ap (λ (h : List Held). holding (view c.args.pass.now) (held_before h))
          (highest_first conf_held (HasLpisOfConf s.start.layout.shape) s c.args.set old.confs l.end vcpu c.requires.hand is.below is.none before r
          (sym (l.invariant.left.below vcpu is.below) ∙ c.take_conf-conf.ensures.value)));
      within = omega (arith, is.below, l.invariant.within);
      below = omega (arith, is.below, l.invariant.below);
      left = rw (c.take_conf-conf.ensures.taken) (highest_left conf_held (HasLpisOfConf s.start.layout.shape) s c.args.set old.confs l.end vcpu
          c.requires.hand is.below is.none l.redists.confs l.invariant.left);
      room = c.take_conf-conf.ensures.room ∙ l.invariant.room;
      pends = ap (λ (x : RedistParts). x.pends) c.take_conf-conf.ensures.taken ∙ l.invariant.pends;
    }

pub returns-clause-empty : goal.returns-clause-empty
returns-clause-empty c = let s = sized c.args.count (setup c.args.machine.now) in let l = c.loop-vcpu in
    all_home conf_held (HasLpisOfConf s.start.layout.shape) s c.args.set c.args.redists.now.confs l.redists.confs l.end c.requires.hand c.in_default.ensures
    l.invariant.left

pub returns-clause-home : goal.returns-clause-home
returns-clause-home c = let s = sized c.args.count (setup c.args.machine.now) in let l = c.loop-vcpu in λ before e. l.invariant.home before e
    ∙ ap (λ (h : List Held). holding (view c.args.pass.now) h)
    (none_before conf_held (HasLpisOfConf s.start.layout.shape) s c.args.set c.args.redists.now.confs before l.end c.requires.hand c.in_default.ensures)
