use Rattle.std.proofs.Common.{◌<◌, length, ◌∙◌, ap, sym, arith}
use Rattle.std.specs.FinMap.{put}
use Rattle.plain_machine.proofs.Rising.{put_again}
use Rattle.plain_machine.proofs.tables.put.Goals as goal

pub returns-in-Equal-clause-ok : goal.returns-in-Equal-clause-ok
returns-in-Equal-clause-ok g c =
    let inside : c.loop-at.at < length c.loop-at.entries.items = omega (arith, ap length c.loop-at.invariant.same, c.args.entries.now.ok.0) in
    put_again g.K.Ord.cmp c.args.key c.args.value c.loop-at.entries.items c.loop-at.at c.index.result.now c.index.ensures inside
    (sym {b = g.K.Ord.cmp c.args.key c.index.result.now.0} c.in-Equal.ensures) c.loop-at.invariant.rest
    ∙ ap (put g.K.Ord.cmp c.args.key c.args.value) c.loop-at.invariant.same
