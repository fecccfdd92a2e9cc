use Rattle.its_migrate.proofs.saving.mark_saved.Goals as goal

pub mark_memory-requires-clause-hand : goal.mark_memory-requires-clause-hand
mark_memory-requires-clause-hand c = rw (c.deref_mut.ensures.value) c.requires.hand
