use Rattle.std.proofs.Common.{sym}
use Rattle.its_history.proofs.ReadTexts.{pending_printed}
use Rattle.fit_answers.proofs.left.Lines.pending.Goals as goal

pub copied-requires : goal.copied-requires
copied-requires c = pending_printed c.args.vcpu c.in-Some.line.now c.in-Some-pending_in.pending.now (sym c.in-Some-pending_in.ensures) c.in-Some.ensures.printed
