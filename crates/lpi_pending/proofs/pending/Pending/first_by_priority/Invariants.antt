use Rattle.lpi_pending.proofs.pending.Pending.first_by_priority.Given as goal

abbrev pub ghosts-first_by_priority_from : goal.ghosts-first_by_priority_from
ghosts-first_by_priority_from a = record { name = a.blank.name; parts = a.blank.parts }
