use Rattle.std.proofs.Common.{◌≡◌, MatchResult, ap, subst}
use Rattle.its_steps.specs.declared.commit.Commit.{Commit}
use Rattle.its_turns.specs.Machines.{view}
use Rattle.its_turns.specs.Steps.{IsRaced, at_word}
use Rattle.its_turns.specs.Told.{Commits}
use Rattle.its_turns.proofs.commits.commit.Goals as goal

pub returns-clause-result : goal.returns-clause-result
returns-clause-result c =
    let v = view c.args.pass.now in let w = view c.exchange_at.new.pass in
    subst (λ (a : Commit). MatchResult c.exchange_at.result (λ place. (place ≡ a.expected.place) × Commits v a w) (λ raced. IsRaced v a.expected raced w))
    (ap (λ (a : Commit). at_word a c.args.commit.now.expected) c.of.ensures) c.exchange_at.ensures.result
