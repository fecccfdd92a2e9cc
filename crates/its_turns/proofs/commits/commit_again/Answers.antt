use Rattle.std.proofs.Common.{List, refl, ap, sym, ◌∙◌, subst}
use Rattle.its_steps.specs.Contents.{Held}
use Rattle.its_steps.specs.MayCall.{MayCall}
use Rattle.its_steps.specs.declared.commit.Commit.{Commit}
use Rattle.its_turns.specs.Machines.{setup, view}
use Rattle.its_turns.specs.Steps.{at_word}
use Rattle.its_turns.proofs.Steps.{looked_held}
use Rattle.its_turns.proofs.commits.commit_again.Goals as goal

pub commit-requires-clause-may : goal.commit-requires-clause-may
commit-requires-clause-may c = c.requires.may c.args.made.now.expected refl c.requires.room

pub commit_further-requires-clause-may : goal.commit_further-requires-clause-may
commit_further-requires-clause-may c w stamp room =
    subst (λ (k : Commit × List Held). MayCall (setup c.args.machine.now) (at_word k.0 w) k.1)
    (let of = sym c.of.ensures in
    let held = sym (looked_held (view c.args.pass.now) (view c.commit.new.pass) c.in-Err.raced.found c.in-Err.ensures.result.looks) in λ d. (of d, held d))
    (c.requires.may w (stamp ∙ ap (λ (a : Commit). a.expected.stamp) c.of.ensures) room)
