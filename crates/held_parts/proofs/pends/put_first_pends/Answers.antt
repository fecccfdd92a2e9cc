use Rattle.std.proofs.Common.{arith, ap, sym, ◌∙◌, refl, List, Option}
use Rattle.std.specs.Prelude.{is_some}
use Rattle.lpi_pending.specs.InHand.{pend_state}
use Rattle.lpi_pending.specs.Pend.{Pend as PendInHand}
use Rattle.lpi_pending.specs.InHand.{RedistParts, HasLpisOfPend}
use Rattle.its_steps.specs.Contents.{Held, Pend}
use Rattle.its_steps.specs.World.{View}
use Rattle.its_turns.specs.Contents.{held_before}
use Rattle.its_turns.specs.Machines.{setup, view}
use Rattle.its_turns.specs.Told.{released}
use Rattle.held_parts.specs.Redists.{pend_held, pends_held}
use Rattle.held_parts.specs.Taking.{holding}
use Rattle.held_parts.proofs.Below.{sized}
use Rattle.held_parts.proofs.RedistLoops.{all_left, all_home, is_in_hand, none_before, highest_first, highest_left}
use Rattle.held_parts.proofs.pends.put_first_pends.Goals as goal

pub loop-vcpu-init : goal.loop-vcpu-init
loop-vcpu-init c = let s = sized c.args.count (setup c.args.machine.now) in
    record {
      of = c.requires.of;
      home = λ before is. ap (λ (h : List Held). holding (view c.args.pass.now) h) is;
      within = c.requires.count;
      below = omega arith;
      left = all_left pend_held (HasLpisOfPend s.start.layout.shape) s c.args.set c.args.count c.args.redists.now.pends refl c.requires.hand;
      room = refl;
      confs = refl;
    }

pub take_pend-pend-requires : goal.take_pend-pend-requires
take_pend-pend-requires c = let s = sized c.args.count (setup c.args.machine.now) in let l = c.loop-vcpu in let vcpu = c.in-Some.vcpu in let is = c.in-Some.ensures in
    ap (λ (o : Option PendInHand). is_some o) (l.invariant.left.below vcpu is.below)
    ∙ is_in_hand pend_held (HasLpisOfPend s.start.layout.shape) s c.args.set c.args.redists.now.pends vcpu c.requires.hand is.has
    (omega (arith, is.below, l.invariant.below))

pub put-requires-clause-owed : goal.put-requires-clause-owed
put-requires-clause-owed c =
    let s = sized c.args.count (setup c.args.machine.now) in let old = c.args.redists.now in let before = c.requires.held.0 in let l = c.loop-vcpu in
    let vcpu = c.in-Some.vcpu in let is = c.in-Some.ensures in let r = c.take_pend-pend.result.value in
    record {
      content = Pend (pend_state r);
      content_is = refl;
      before = pends_held old vcpu before;
      last = ap (λ (y : View). y.held) (l.invariant.home before c.requires.held.1)
          ∙ highest_first pend_held (HasLpisOfPend s.start.layout.shape) s c.args.set old.pends l.end vcpu c.requires.hand is.below is.none before r
          (sym (l.invariant.left.below vcpu is.below) ∙ c.take_pend-pend.ensures.value);
    }

pub loop-vcpu-preserved : goal.loop-vcpu-preserved
loop-vcpu-preserved c =
    let s = sized c.args.count (setup c.args.machine.now) in let l = c.loop-vcpu in let old = c.args.redists.now in
    let vcpu = c.in-Some.vcpu in let is = c.in-Some.ensures in let r = c.take_pend-pend.result.value in
    record {
      of = c.put.ensures.of;
      home = λ before e. c.put.ensures.view ∙ (ap released (l.invariant.home before e)
          ∙ ap (λ (h : List Held). holding (view c.args.pass.now) (held_before h))
          (highest_first pend_held (HasLpisOfPend s.start.layout.shape) s c.args.set old.pends l.end vcpu c.requires.hand is.below is.none before r
          (sym (l.invariant.left.below vcpu is.below) ∙ c.take_pend-pend.ensures.value)));
      within = omega (arith, is.below, l.invariant.within);
      below = omega (arith, is.below, l.invariant.below);
      left = rw (c.take_pend-pend.ensures.taken) (highest_left pend_held (HasLpisOfPend s.start.layout.shape) s c.args.set old.pends l.end vcpu
          c.requires.hand is.below is.none l.redists.pends l.invariant.left);
      room = c.take_pend-pend.ensures.room ∙ l.invariant.room;
      confs = ap (λ (x : RedistParts). x.confs) c.take_pend-pend.ensures.taken ∙ l.invariant.confs;
    }

pub returns-clause-empty : goal.returns-clause-empty
returns-clause-empty c = let s = sized c.args.count (setup c.args.machine.now) in let l = c.loop-vcpu in
    all_home pend_held (HasLpisOfPend s.start.layout.shape) s c.args.set c.args.redists.now.pends l.redists.pends l.end c.requires.hand c.in_default.ensures
    l.invariant.left

pub returns-clause-home : goal.returns-clause-home
returns-clause-home c = let s = sized c.args.count (setup c.args.machine.now) in let l = c.loop-vcpu in λ before e. l.invariant.home before e
    ∙ ap (λ (h : List Held). holding (view c.args.pass.now) h)
    (none_before pend_held (HasLpisOfPend s.start.layout.shape) s c.args.set c.args.redists.now.pends before l.end c.requires.hand c.in_default.ensures)
