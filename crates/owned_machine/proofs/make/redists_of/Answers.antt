use Rattle.owned_machine.proofs.Started.{none_first, one_more}
use Rattle.owned_machine.proofs.make.redists_of.Goals as goal

pub loop-vcpu-init : goal.loop-vcpu-init
loop-vcpu-init c = none_first c.args.shape.now c.args.memory.now c.args.tables.now _ c.in_ok-redists.ensures

pub loop-vcpu-preserved : goal.loop-vcpu-preserved
loop-vcpu-preserved c =
    let conf = rw c.in_ok-new.ensures.ok at c.place_conf.ensures.placed in
    let pend = rw c.in_ok-new-2.ensures.ok at c.place_pend.ensures.placed in
    one_more c.args.shape.now c.args.memory.now c.args.tables.now c.loop-vcpu.redists c.place_pend.new.self c.loop-vcpu.vcpu
    (c.in_ok-conf.conf, c.in_ok-conf.pend) (rw conf at pend) c.loop-vcpu-test.true c.in_ok-conf.ensures c.loop-vcpu.invariant
