use Rattle.std.proofs.Common.{◌≡◌, ◌∙◌, Some, sym}
use Rattle.trace_check.proofs.Ends.{ends_so}
use Rattle.trace_check.proofs.Texts.{texts_same}
use Rattle.trace_check.proofs.end.compare_end.Goals as goal

pub returns-clause-right : goal.returns-clause-right
returns-clause-right c =
    let u = c.args.machine.now in let copies = c.args.copies in let end = c.in-Some.end in
    let said = c.in_ok-said.said in let is = c.in_ok-is-in-Ok.is' in
    let told : c.args.told.now ≡ Some end = c.in-Some.is in
    let same : said ≡ is = texts_same said is c.as_str.result.now c.as_str-2.result.now c.ne.result c.as_str.ensures c.as_str-2.ensures c.ne.ensures
    c.if-ne.false in
    ends_so copies u c.migrate.new.machine c.args.told.now end c.in-Ok.now told c.requires (rw c.in-Ok.is at c.migrate.ensures)
    (sym c.in_ok-said.ensures ∙ (same ∙ c.in_ok-is-in-Ok.ensures))
