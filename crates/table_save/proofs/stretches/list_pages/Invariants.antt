use Rattle.std.proofs.Common.{◌≡◌, ◌++◌}
use Rattle.guest_windows.specs.Fields.{pairs}
use Rattle.its_plain.specs.Saved.{pages_words}
use Rattle.its_types.specs.Maps.{Maps}
use Rattle.table_save.specs.Stretches.{stretches_of}
use Rattle.table_save.proofs.stretches.list_pages.Given as goal

abbrev pub invariant-loop-k : goal.invariant-loop-k
invariant-loop-k l = (m : Maps) → pairs l.list.items
    ≡ pairs l.fn.list.items ++ stretches_of (pages_words (record { regs = l.regs; maps = m }) l.from l.k)
