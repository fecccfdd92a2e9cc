use Rattle.std.proofs.Common.{List, Option, length, ap, sym, ◌∙◌, subst}
use Rattle.lpi_config.specs.Conf.{Conf as ConfInHand}
use Rattle.its_steps.specs.Parts.{vcpu_count}
use Rattle.its_turns.specs.Machines.{setup, view}
use Rattle.held_parts.specs.Redists.{conf_held, row_of, pends_held, AreBeforePends, IsConfIn, IsPendIn}
use Rattle.held_parts.specs.Rows.{in_row}
use Rattle.held_parts.proofs.Going.{takes_then, takes_wider}
use Rattle.cmd_engine.specs.Hands.{IsOfStep}
use Rattle.cmd_engine.proofs.Getting.{conf_of_step, pend_of_step}
use Rattle.cmd_engine.proofs.Held.{confs_before_pends}
use Rattle.cmd_engine.proofs.taking.take_redists.Goals as goal

pub take_pends-requires-clause-empty : goal.take_pends-requires-clause-empty
take_pends-requires-clause-empty g c = rw (c.take_confs.ensures.pends) c.requires.empty.1

pub take_pends-requires-clause-room : goal.take_pends-requires-clause-room
take_pends-requires-clause-room g c = ap length c.take_confs.ensures.pends ∙ c.requires.room.1

pub take_pends-requires-clause-order : goal.take_pends-requires-clause-order
take_pends-requires-clause-order g c = subst AreBeforePends (sym c.take_confs.ensures.held)
    (confs_before_pends (vcpu_count (setup c.args.machine.now)) c.take_confs.new.redists (view c.args.pass.now).held c.requires.order.1)

pub returns-clause-takes : goal.returns-clause-takes
returns-clause-takes g c = λ its.
    let n = c.args.needed in let v = view c.args.pass.now in let x = view c.take_confs.new.pass in let y = view c.take_pends.new.pass in
    takes_then (IsOfStep its) v x y (takes_wider (IsConfIn n.confs) (IsOfStep its) (conf_of_step its n.confs) v x c.take_confs.ensures.takes)
    (takes_wider (IsPendIn n.pends) (IsOfStep its) (pend_of_step its n.pends) x y c.take_pends.ensures.takes)

pub returns-clause-held : goal.returns-clause-held
returns-clause-held g c =
    let n = vcpu_count (setup c.args.machine.now) in
    c.take_pends.ensures.held ∙ ap (pends_held c.take_pends.new.redists n) (c.take_confs.ensures.held
    ∙ ap (λ (cs : List (Option ConfInHand)). in_row (row_of conf_held cs) n (view c.args.pass.now).held) (sym c.take_pends.ensures.confs))

pub returns-clause-confs : goal.returns-clause-confs
returns-clause-confs g c = rw (c.take_pends.ensures.confs) c.take_confs.ensures.hand

pub returns-clause-room : goal.returns-clause-room
returns-clause-room g c = (
  ap length c.take_pends.ensures.confs ∙ (c.take_confs.ensures.room ∙ c.requires.room.0),
  c.take_pends.ensures.room ∙ (ap length c.take_confs.ensures.pends ∙ c.requires.room.1),
)
