use Rattle.std.proofs.Common.{ap, arith}
use Rattle.std.specs.Prelude.{is_some}
use Rattle.owned_parts.specs.Owned.{pend_state}
use Rattle.table_save.proofs.Marked.{table_marked, tables_marked}
use Rattle.table_save.proofs.marks.mark_pending.Goals as goal

pub conf-requires : goal.conf-requires
conf-requires c = ap is_some (c.requires.in_hand c.loop-vcpu.vcpu c.loop-vcpu-test.true).0.1

pub loop-vcpu-preserved : goal.loop-vcpu-preserved
loop-vcpu-preserved c =
    let pend = (c.requires.in_hand c.loop-vcpu.vcpu c.loop-vcpu-test.true).1 in
    table_marked c.args.shape c.loop-vcpu.vcpu c.args.redists.now c.conf.result.now pend.0 c.loop-vcpu.track c.mark_table.new.track _ c.loop-vcpu-test.true
    (record { conf = c.conf.ensures; pend = pend.1 }) (c.mark_table.ensures (pend_state pend.0)) c.loop-vcpu.invariant

pub returns : goal.returns
returns c =
    tables_marked c.args.shape c.loop-vcpu.vcpu c.args.redists.now c.loop-vcpu.track _ (omega (arith, c.loop-vcpu-test.false)) c.loop-vcpu.invariant
