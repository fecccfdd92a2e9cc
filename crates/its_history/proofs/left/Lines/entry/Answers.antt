use Rattle.std.proofs.Common.{sym}
use Rattle.its_history.proofs.ReadTexts.{entry_printed}
use Rattle.its_history.proofs.left.Lines.entry.Goals as goal

pub copied-requires : goal.copied-requires
copied-requires c = entry_printed c.args.place c.in-Some.line.now _ (sym c.in-Some-entry_in.ensures) c.in-Some.ensures.printed
