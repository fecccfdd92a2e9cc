use Rattle.std.proofs.Common.{◌≡◌, ap, sym, subst, ◌∙◌, arith}
use Rattle.std.proofs.lemmas.Option.{same_Some}
use Rattle.std.specs.Prelude.{is_some}
use Rattle.owned_parts.specs.Owned.{HasLpisOfPend}
use Rattle.guest_windows.specs.Drafts.{laid}
use Rattle.table_save.proofs.Redistributors.{table_more, tables_done}
use Rattle.table_save.proofs.pending.put_pending.Goals as goal

pub conf-requires : goal.conf-requires
conf-requires c = ap is_some (c.requires.in_hand c.loop-vcpu.vcpu c.loop-vcpu-test.true).0.1

pub pend-requires : goal.pend-requires
pend-requires c = ap is_some (c.requires.in_hand c.loop-vcpu.vcpu c.loop-vcpu-test.true).1.1

pub put_table-requires-clause-lpis : goal.put_table-requires-clause-lpis
put_table-requires-clause-lpis c =
    let h = (c.requires.in_hand c.loop-vcpu.vcpu c.loop-vcpu-test.true).1 in
    let same : h.0 ≡ c.pend.result.now = same_Some h.0 c.pend.result.now (sym h.1 ∙ c.pend.ensures) in
    subst (HasLpisOfPend c.args.shape) same h.2

pub loop-vcpu-preserved : goal.loop-vcpu-preserved
loop-vcpu-preserved c =
    table_more c.args.shape c.loop-vcpu.vcpu c.args.redists.now c.conf.result.now c.pend.result.now (laid c.loop-vcpu.draft c.args.under.now)
    (laid c.put_table.new.draft c.args.under.now) _
    c.loop-vcpu-test.true (record { conf = c.conf.ensures; pend = c.pend.ensures }) c.in_ok-put_table.ensures c.loop-vcpu.invariant

pub returns : goal.returns
returns c =
    tables_done c.args.shape c.loop-vcpu.vcpu c.args.redists.now (laid c.loop-vcpu.draft c.args.under.now) _
    (omega (arith, c.loop-vcpu-test.false)) c.loop-vcpu.invariant
