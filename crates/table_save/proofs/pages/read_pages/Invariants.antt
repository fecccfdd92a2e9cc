use Rattle.table_save.specs.Tables.{AreFirstPages}
use Rattle.table_save.proofs.pages.read_pages.Given as goal

abbrev pub invariant-loop-k : goal.invariant-loop-k
invariant-loop-k l = AreFirstPages l.regs l.memory l.k l.pages
