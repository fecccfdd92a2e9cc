use Rattle.std.proofs.Common.{rules}
use Rattle.its_explain.specs.Book.{changer}
use Rattle.its_explain.proofs.book.Book.changer.Goals as goal

pub returns : goal.returns
unfolding changer
returns c = search rules
