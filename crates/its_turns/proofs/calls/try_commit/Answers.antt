use Rattle.std.proofs.Common.{List, sym, subst}
use Rattle.its_steps.specs.Calls.{staying}
use Rattle.its_steps.specs.declared.commit.Commit.{Commit}
use Rattle.its_steps.specs.MayCall.{MayCall}
use Rattle.its_steps.specs.Contents.{Held}
use Rattle.its_turns.specs.Machines.{setup, view}
use Rattle.its_turns.proofs.Coming.{stays_at, makes_at, makes_after, lost_at}
use Rattle.its_turns.proofs.Steps.{looked_held}
use Rattle.its_turns.proofs.calls.try_commit.Goals as goal

pub commit_again-requires-clause-may : goal.commit_again-requires-clause-may
commit_again-requires-clause-may g c z stamp room = let w = c.in-Ok.word in
    subst (λ (k : Commit × List Held). MayCall (setup c.args.machine.now) k.0 k.1)
    (let at = sym (stays_at c.args.call.now c.args.reply.now c.args.change w z stamp) in
    let has = sym (looked_held (view c.args.pass.now) (view c.begin.new.pass) w c.in-Ok.ensures.word.0) in λ d. (at d, has d)) (c.requires.may z room)

pub returns-in-Ok-commit_again-clause-result : goal.returns-in-Ok-commit_again-clause-result
returns-in-Ok-commit_again-clause-result g c =
    let v = view c.args.pass.now in let x = view c.begin.new.pass in let y = view c.commit_again.new.pass in
    let w = c.in-Ok.word in let z = c.in-Ok-commit_again.word in let call = c.args.call.now in let reply = c.args.reply.now in
    let looks = c.in-Ok.ensures.word.0 in
    makes_after v x y w (staying z call reply c.args.change) looks (makes_at x call reply c.args.change w z y looks.place c.in-Ok-commit_again.ensures.result)

pub returns-in-Err-clause-result : goal.returns-in-Err-clause-result
returns-in-Err-clause-result g c =
    lost_at (view c.args.pass.now) (view c.begin.new.pass) (view c.commit_again.new.pass) c.in-Ok.word c.in-Err.raced c.in-Ok.ensures.word.0
    c.in-Err.ensures.result
