use Rattle.its_turns.specs.Steps.{at_word}
use Rattle.its_turns.proofs.commits.commit.Given as goal

abbrev pub ghosts-exchange_at : goal.ghosts-exchange_at
ghosts-exchange_at a = record { what = at_word a.made.now.value a.expected }
