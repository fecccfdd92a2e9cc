use Rattle.std.proofs.Common.{List, subst, sym}
use Rattle.its_plain.specs.declared.call.Call.TheVariants as call
use Rattle.its_steps.specs.Calls.{staying}
use Rattle.its_steps.specs.Contents.{Held}
use Rattle.its_steps.specs.MayCall.{MayCall}
use Rattle.its_steps.specs.declared.change.ShardChange.TheVariants.{Keep}
use Rattle.its_turns.specs.Calls.{IsLost}
use Rattle.its_turns.specs.Machines.{setup, view}
use Rattle.its_turns.specs.declared.attempts.Lost.{Lost}
use Rattle.its_migrate.proofs.Savings.{waits_more, waits_first}
use Rattle.its_migrate.proofs.saving.commit_save.Goals as goal

pub loop-init : goal.loop-init
loop-init g c = (tt, tt, c.requires.of, waits_first (view c.args.pass.now))

pub try_commit-requires-clause-may : goal.try_commit-requires-clause-may
try_commit-requires-clause-may g c w room = subst (λ (hs : List Held). MayCall (setup c.args.machine.now) (staying w call.Save c.args.reply.now Keep) hs)
    (sym c.loop.invariant.3.held) (c.requires.may w room)

pub returns-in-Ok-clause-result : goal.returns-in-Ok-clause-result
returns-in-Ok-clause-result g c = (view c.loop.pass, c.loop.invariant.3, c.in-Ok.ensures.result)

pub returns-in-Err-Spent-clause-result : goal.returns-in-Err-Spent-clause-result
returns-in-Err-Spent-clause-result g c = (
  view c.loop.pass,
  c.loop.invariant.3,
  subst (λ (k : Lost). IsLost (view c.loop.pass) k (view c.try_commit.new.pass)) c.in-Err-Spent.field-0-is c.in-Err-Spent.ensures.result,
)

pub loop-preserved : goal.loop-preserved
loop-preserved g c = (
  tt,
  tt,
  c.try_commit.ensures.of,
  waits_more (view c.args.pass.now) (view c.loop.pass) (view c.try_commit.new.pass) _ c.loop.invariant.3
      (subst (λ (k : Lost). IsLost (view c.loop.pass) k (view c.try_commit.new.pass)) c.in-Err-Raced.field-0-is c.in-Err-Raced.ensures.result).0,
)
