use Rattle.std.proofs.Common.{sym, subst, arith}
use Rattle.its_turns.specs.Machines.{setup, view}
use Rattle.its_turns.proofs.Telling.{looked_held}
use Rattle.held_parts.specs.Shards.{AreBeforeShards}
use Rattle.cmd_engine.proofs.Getting.{goes_shards, read_low}
use Rattle.cmd_engine.proofs.taking.take_any.Goals as goal

pub take_shards-requires-clause-order : goal.take_shards-requires-clause-order
take_shards-requires-clause-order g c = subst (AreBeforeShards c.args.its)
    (sym (looked_held (view c.args.pass.now) (view c.look-word.new.pass) c.look-word.result c.look-word.ensures.looks)) c.requires.order

pub returns-clause-goes : goal.returns-clause-goes
returns-clause-goes g c = goes_shards c.args.its (view c.args.pass.now) (view c.look-word.new.pass) (view c.take_shards.new.pass) c.look-word.result
    c.look-word.ensures.looks c.take_shards.ensures.takes

pub returns-then-stamp_of-stamp_last-clause-low : goal.returns-then-stamp_of-stamp_last-clause-low
returns-then-stamp_of-stamp_last-clause-low g c any =
    let n = c.stamp_of.ensures in let last = c.stamp_last.ensures in let less = c.if-stamp_of-stamp_last.true in
    read_low (setup c.args.machine.now) (view c.args.pass.now) (view c.look-word.new.pass) c.look-word.result c.args.its c.requires.of.1
    c.look-word.ensures.looks (omega (arith, n, last, less))
