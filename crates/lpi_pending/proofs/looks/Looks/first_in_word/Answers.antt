use Rattle.std.proofs.Common.{◌≢◌, arith}
use Rattle.lpi_pending.proofs.Searching.{first_in_word, none_in_word}
use Rattle.lpi_pending.proofs.looks.Looks.first_in_word.Goals as goal

pub returns-then-ready-eq0-clause-found : goal.returns-then-ready-eq0-clause-found
returns-then-ready-eq0-clause-found g c =
    none_in_word c.args.self.now.words c.args.self.now.config c.args.at c.ready-ready.result c.ready-ready.ensures.bits c.if-ready-eq0.true

pub returns-else-ready-eq0-clause-found : goal.returns-else-ready-eq0-clause-found
returns-else-ready-eq0-clause-found g c =
    let some : c.ready-ready.result ≢ 0 = omega (arith, c.if-ready-eq0.false) in
    first_in_word c.args.self.now.words c.args.self.now.config c.args.at c.ready-ready.result c.ready-ready.ensures.bits some (omega arith)
