use Rattle.std.proofs.Common.{rules}
use Rattle.its_explain.specs.Book.{writer}
use Rattle.its_explain.proofs.book.Book.writer.Goals as goal

pub returns : goal.returns
unfolding writer
returns c = search rules
