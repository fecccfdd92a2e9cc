use Rattle.its_history.proofs.ReadNumbers.{printed_is_text}
use Rattle.fit_answers.proofs.lines.copied.Goals as goal

pub unreachable-requires : goal.unreachable-requires
unreachable-requires c = c.in-Err.ensures.cases.0 (printed_is_text c.args.bytes.now c.requires)
