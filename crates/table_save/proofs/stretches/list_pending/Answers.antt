use Rattle.std.proofs.Common.{ap, arith}
use Rattle.std.specs.Prelude.{is_some}
use Rattle.guest_windows.specs.Fields.{pairs}
use Rattle.owned_parts.specs.Owned.{pend_state}
use Rattle.table_save.proofs.Listed.{table_listed, tables_listed}
use Rattle.table_save.proofs.stretches.list_pending.Goals as goal

pub conf-requires : goal.conf-requires
conf-requires c = ap is_some (c.requires.in_hand c.loop-vcpu.vcpu c.loop-vcpu-test.true).0.1

pub loop-vcpu-preserved : goal.loop-vcpu-preserved
loop-vcpu-preserved c =
    let pend = (c.requires.in_hand c.loop-vcpu.vcpu c.loop-vcpu-test.true).1 in
    table_listed c.args.shape c.loop-vcpu.vcpu c.args.redists.now c.conf.result.now pend.0 (pairs c.loop-vcpu.list.items) (pairs c.list_table.new.list.items) _
    c.loop-vcpu-test.true (record { conf = c.conf.ensures; pend = pend.1 }) (c.in_ok-list_table.ensures (pend_state pend.0)) c.loop-vcpu.invariant

pub returns : goal.returns
returns c =
    tables_listed c.args.shape c.loop-vcpu.vcpu c.args.redists.now (pairs c.loop-vcpu.list.items) _ (omega (arith, c.loop-vcpu-test.false))
    c.loop-vcpu.invariant
