use Rattle.std.proofs.Common.{sym, ◌∙◌}
use Rattle.its_plain.specs.declared.call.Reply.TheVariants as reply
use Rattle.its_turns.specs.Machines.{setup, view}
use Rattle.cmd_engine.specs.Cached.{IsAny}
use Rattle.cmd_engine.specs.Hands.{IsOfTranslator}
use Rattle.cmd_engine.specs.Registers.{write_call}
use mathlib.Core.List.{IsPrefix}
use Rattle.cmd_engine.specs.Telling.{ReadLow}
use Rattle.cmd_engine.proofs.Came.{late_comes, low_from}
use Rattle.cmd_engine.proofs.Kept.{kept_in_hand, shards_in_hand, own_order}
use Rattle.cmd_engine.proofs.Trying.{at_once_goes, at_once_got, at_once_then, gave_then}
use Rattle.cmd_engine.proofs.tries.write_with.Goals as goal

pub once_cached-requires-clause-order : goal.once_cached-requires-clause-order
once_cached-requires-clause-order g c =
    own_order (setup c.args.machine.now) (view c.args.pass.now) c.args.hands.now c.requires.hands c.requires.own c.requires.nothing

pub make_write-requires-clause-hands : goal.make_write-requires-clause-hands
make_write-requires-clause-hands g c = let got = c.in-Ok.ensures.result in
    shards_in_hand (setup c.args.machine.now) (view c.args.pass.now) (view c.once_cached.new.pass) c.args.hands.now c.once_cached.new.cached
    c.requires.hands c.requires.own c.requires.nothing got.held got.whole

pub make_write-requires-clause-ends : goal.make_write-requires-clause-ends
make_write-requires-clause-ends g c = c.in-Ok.ensures.result.ends ∙ (rw (c.deref.ensures) at c.ending-ends.ensures)

pub returns-in-Ok-clause-comes : goal.returns-in-Ok-clause-comes
returns-in-Ok-clause-comes g c v bare goes =
    let i = c.args.hands.now.its in let y = view c.args.pass.now in let x = view c.once_cached.new.pass in let z = view c.make_write.new.pass in
    let got = c.in-Ok.ensures.result in let P = IsOfTranslator i in let all = at_once_then P v y x goes got.goes in (
      late_comes (IsAny c.once_cached.new.cached × IsPrefix x.seen z.seen) (ReadLow v i z) P v z (write_call i c.args.write)
          (λ (u : Unit {0}). reply.Ok) c.make_write.result
          (λ l. low_from P v y x z i (at_once_goes P v y goes) bare (got.low l.0) l.1)
          (c.make_write.ensures.comes v bare (at_once_goes P v x all)),
      at_once_got P v x z all c.make_write.ensures.tries,
    )

pub returns-in-Err-clause-hands : goal.returns-in-Err-clause-hands
returns-in-Err-clause-hands g c = let lacks = c.in-Err.ensures.result in
    kept_in_hand (setup c.args.machine.now) (view c.args.pass.now) (view c.once_cached.new.pass) c.args.hands.now c.once_cached.new.cached
    c.requires.hands (c.requires.nothing ∙ sym lacks.none) lacks.held

pub returns-in-Err-clause-comes : goal.returns-in-Err-clause-comes
returns-in-Err-clause-comes g c v bare goes = gave_then (IsOfTranslator c.args.hands.now.its) v (view c.args.pass.now) (view c.once_cached.new.pass)
    c.in-Err.busy goes c.in-Err.ensures.result.gives_up
