use Rattle.lpi_pending.proofs.pending.Pending.first_enabled.Given as goal

abbrev pub ghosts-first_enabled_from : goal.ghosts-first_enabled_from
ghosts-first_enabled_from a = record { name = a.blank.name; parts = a.blank.parts }
