use Rattle.std.proofs.Common.{rules, arith, ◌≡◌, ◌<◌, ◌+◌, length, ◌++◌, ◌∷◌, [], List, Ok, Err, subst, sym}
use Rattle.its_types.specs.declared.machine.Placed.{Placed}
use Rattle.its_plain.specs.declared.call.Call.{Call}
use Rattle.its_plain.specs.declared.call.Reply.{Reply}
use Rattle.its_turns.specs.Machines.{view}
use Rattle.script_threads.specs.Asks.{Answers}
use Rattle.script_threads.specs.Jobs.{Doing}
use Rattle.script_threads.proofs.Runs.{doing_none, doing_more, doing_all, doing_cut}
use Rattle.script_threads.proofs.job.ask_all.Goals as goal

pub loop-index-init : goal.loop-index-init
loop-index-init g c = (
  c.requires.of,
  doing_none (view c.args.pass.now) c.args.calls.now c.args.done.now.items c.requires.free c.requires.empty,
  c.requires.room,
  omega arith,
)

pub loop-index-preserved : goal.loop-index-preserved
loop-index-preserved g c =
    let v = view c.args.pass.now in let w = view c.loop-index.pass in let x = view c.call_once.new.pass in
    let below : c.loop-index.index < length c.args.calls.now = omega (arith, c.loop-index-test.true, c.len-index-end.ensures) in
    let done = c.loop-index.done.items in let p = c.in-Ok.placed in let one = c.at-call.result in
    let pushed : c.push.new.self.items ≡ done ++ p ∷ [] = search rules in (
      c.call_once.ensures.of,
      subst (λ (z : List (Placed Reply)). Doing v c.args.calls.now (c.loop-index.index + 1) z x) (sym pushed)
          (doing_more v w x c.args.calls.now c.loop-index.index one done p c.loop-index.invariant.1
          (subst (λ (z : Call). Answers w z x (Ok p)) c.at-call.ensures c.in-Ok.ensures.answer) below),
      omega (arith, c.loop-index.invariant.2, c.push.ensures.capacity),
      omega (arith, below),
    )

pub returns-in-Err-clause-ran : goal.returns-in-Err-clause-ran
returns-in-Err-clause-ran g c =
    let below : c.loop-index.index < length c.args.calls.now = omega (arith, c.loop-index-test.true, c.len-index-end.ensures) in
    let one = c.at-call.result in let stop = c.in-Err.stop in let w = view c.loop-index.pass in let x = view c.call_once.new.pass in
    doing_cut (view c.args.pass.now) w x c.args.calls.now c.loop-index.index one c.loop-index.done.items stop c.loop-index.invariant.1
    (subst (λ (z : Call). Answers w z x (Err stop)) c.at-call.ensures c.in-Err.ensures.answer) below

pub returns-clause-ran : goal.returns-clause-ran
returns-clause-ran g c =
    doing_all (view c.args.pass.now) (view c.loop-index.pass) c.args.calls.now c.loop-index.index c.loop-index.done.items c.loop-index.invariant.1
    c.loop-index.invariant.3 (omega (arith, c.loop-index-test.false, c.len-index-end.ensures))
