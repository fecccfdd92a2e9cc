use Rattle.std.proofs.Common.{subst, sym}
use Rattle.lpi_pending.specs.Looks.{Looked}
use Rattle.lpi_pending.proofs.Bests.{ReadyWord, next_lpi_is, no_next_lpi}
use Rattle.lpi_pending.proofs.looks.Looks.next_lpi.Goals as goal

pub returns-in_default-clause-found : goal.returns-in_default-clause-found
returns-in_default-clause-found g c =
    let words = c.self.inside.words.now in
    let config = c.self.inside.config.now.bytes in
    let bits : ReadyWord words config c.args.at c.ready-ready.result =
    subst (λ (l : Looked). ReadyWord l.words l.config c.args.at c.ready-ready.result) (sym c.self.view_is) c.ready-ready.ensures.bits in
    rw (← c.self.view_is) (no_next_lpi words config c.args.limit c.args.at c.ready-ready.result c.args.from bits c.in_default.ensures)

pub returns-clause-found : goal.returns-clause-found
returns-clause-found g c =
    let words = c.self.inside.words.now in
    let config = c.self.inside.config.now.bytes in
    let bits : ReadyWord words config c.args.at c.ready-ready.result =
    subst (λ (l : Looked). ReadyWord l.words l.config c.args.at c.ready-ready.result) (sym c.self.view_is) c.ready-ready.ensures.bits in
    rw (← c.self.view_is)
    (next_lpi_is words config c.args.limit c.args.at c.ready-ready.result c.args.from c.in-Some.bit c.priority.result bits c.in-Some.ensures c.priority.ensures)
