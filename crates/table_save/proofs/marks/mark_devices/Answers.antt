use Rattle.std.proofs.Common.{sym, ◌∙◌}
use Rattle.table_save.proofs.Marked.{pages_marked}
use Rattle.table_save.proofs.marks.mark_devices.Goals as goal

pub returns-then-indirect : goal.returns-then-indirect
returns-then-indirect c =
    λ m. pages_marked (record { regs = c.args.regs.now; maps = m }) c.args.from.now c.args.track.now c.mark_pages.new.track
    (sym c.table_valid.ensures ∙ c.if-not-table_valid.false) (sym c.indirect.ensures ∙ c.if-indirect.true) (c.mark_pages.ensures m)
