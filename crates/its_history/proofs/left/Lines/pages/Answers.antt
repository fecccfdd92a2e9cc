use Rattle.std.proofs.Common.{sym}
use Rattle.its_history.proofs.ReadTexts.{pages_printed}
use Rattle.its_history.proofs.left.Lines.pages.Goals as goal

pub copied-requires : goal.copied-requires
copied-requires c = pages_printed c.in-Some.line.now c.in-Some-pages_in.pages.now (sym c.in-Some-pages_in.ensures) c.in-Some.ensures.printed
