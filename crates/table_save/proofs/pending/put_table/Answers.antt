use Rattle.std.proofs.Common.{◌≡◌, ◌+◌, ◌-◌, ◌/◌, rules, true, sym, ap, ◌∙◌}
use Rattle.its_types.specs.declared.translation.Bases.{Bases}
use Rattle.lpi_pending.specs.PendingSets.{PendingSet}
use Rattle.guest_windows.specs.Drafts.{laid}
use Rattle.table_save.proofs.Redistributors.{table_none}
use Rattle.table_save.proofs.pending.put_table.Goals as goal

pub returns-in-None : goal.returns-in-None
returns-in-None c =
    let on : c.args.conf.now.bases.on ≡ true = ap (λ (b : Bases). b.on) (sym c.bases.ensures) ∙ c.if-not-bases.false in
    table_none c.put_zeros.result c.args.shape (laid c.args.draft.now c.args.under.now) (laid c.put_zeros.new.draft c.args.under.now) c.args.conf.now
    c.args.pend.now (c.bases-2.result.now.pend.table.0 + 1024) ((c.pending_bytes.result - 1024) / 8) c.put_zeros.ensures on
    (ap (λ (s : PendingSet). s.lpis) c.in-None.ensures.1) (search rules) (search rules)
