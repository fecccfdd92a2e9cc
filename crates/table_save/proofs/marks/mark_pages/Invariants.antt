use Rattle.std.proofs.Common.{◌≡◌}
use Rattle.its_plain.specs.Saved.{wrote_tables, pages_words}
use Rattle.its_types.specs.Maps.{Maps}
use Rattle.table_save.proofs.marks.mark_pages.Given as goal

abbrev pub invariant-loop-k : goal.invariant-loop-k
invariant-loop-k l = (m : Maps) → l.track ≡ wrote_tables (pages_words (record { regs = l.regs; maps = m }) l.from l.k) l.fn.track
