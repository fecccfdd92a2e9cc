use Rattle.std.proofs.Common.{inr}
use Rattle.its_types.specs.declared.machine.Part.TheVariants as part
use Rattle.lpi_config.specs.Conf.{conf_state}
use Rattle.its_steps.specs.Contents.{Conf}
use Rattle.its_turns.specs.Machines.{view}
use Rattle.redist_ack.proofs.TwoParts.{second_busy}
use Rattle.redist_ack.proofs.both.try_take_both.Goals as goal

pub returns-in-Err-clause-result : goal.returns-in-Err-clause-result
returns-in-Err-clause-result c =
    let vcpu = c.args.vcpu in
    inr (second_busy (view c.args.pass.now) (part.Conf vcpu) (part.Pend vcpu) (Conf (conf_state c.in_ok-conf.conf.value)) (view c.try_take_conf.new.pass)
    c.in_ok-conf.ensures.result.0.view c.in-Err.busy (view c.try_take_pend.new.pass) c.in-Err.ensures.result (view c.put.new.pass) c.put.ensures.view)
