use Rattle.std.proofs.Common.{sym, ap, ◌∙◌, arith}
use Rattle.its_plain.specs.Plain.{Redistributor}
use Rattle.its_plain.specs.Answer.{ack_of}
use Rattle.owned_machine.specs.Acks.{chosen}
use Rattle.owned_machine.proofs.Kept.{conf_there, pend_there, conf_lpis, pend_lpis, redistributor_here, ack_takes}
use Rattle.owned_machine.proofs.acks.look.Goals as goal

pub conf-requires : goal.conf-requires
conf-requires c = conf_there c.args.parts.now c.args.vcpu.0 c.requires (omega arith)

pub pend-requires : goal.pend-requires
pend-requires c = pend_there c.args.parts.now c.args.vcpu.0 c.requires (omega arith)

pub look_in-requires : goal.look_in-requires
look_in-requires c =
    pend_lpis c.args.parts.now c.args.vcpu.0 c.pend.result.now c.requires c.pend.ensures
    ∙ sym (conf_lpis c.args.parts.now c.args.vcpu.0 c.conf.result.now c.requires c.conf.ensures)

pub returns-clause-ack : goal.returns-clause-ack
returns-clause-ack c =
    c.look_in.ensures.ack
    ∙ ap (λ (r : Redistributor). ack_of r (chosen r c.args.asked))
    (sym (redistributor_here c.args.parts.now c.args.vcpu.0 c.conf.result.now c.pend.result.now c.requires
    (record { conf = c.conf.ensures; pend = c.pend.ensures })))

pub returns-clause-takes : goal.returns-clause-takes
returns-clause-takes c = ack_takes c.args.parts.now.redists c.args.vcpu.0 c.pend.result.now c.look_in.result c.pend.ensures c.look_in.ensures.lpi
