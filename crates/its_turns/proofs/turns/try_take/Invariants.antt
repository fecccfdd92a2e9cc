use Rattle.its_turns.proofs.turns.try_take.Given as goal

abbrev pub ghosts-try_turn : goal.ghosts-try_turn
ghosts-try_turn a = record { part = a.part }
