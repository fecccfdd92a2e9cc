use Rattle.std.proofs.Common.{refl, ap, ◌∙◌}
use Rattle.lpi_pending.specs.InHand.{RedistParts}
use Rattle.cmd_exec.specs.InHand.{is_on_in, takes_lpi, with_cleared}
use Rattle.cmd_exec.proofs.InHand.{pend_takes, pend_on}
use Rattle.cmd_exec.proofs.lpis.move_lpi.Goals as goal

pub set_lpi-requires-clause-takes : goal.set_lpi-requires-clause-takes
set_lpi-requires-clause-takes c =
    let intid = c.args.intid.0 in
    ap (λ (rs : RedistParts). takes_lpi rs c.args.to.0 intid) c.clear_lpi.ensures
    ∙ pend_takes c.args.from.0 c.args.to.0 intid (with_cleared intid) c.args.redists.now ∙ c.requires.to

pub set_lpi-requires-clause-on : goal.set_lpi-requires-clause-on
set_lpi-requires-clause-on c =
    ap (λ (rs : RedistParts). is_on_in rs c.args.to.0) c.clear_lpi.ensures
    ∙ pend_on c.args.from.0 c.args.to.0 (with_cleared c.args.intid.0) c.args.redists.now (λ _. refl) ∙ c.requires.on
