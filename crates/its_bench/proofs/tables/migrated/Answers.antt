use Rattle.its_bench.proofs.tables.migrated.Goals as goal

pub migrate-requires-clause-lone : goal.migrate-requires-clause-lone
migrate-requires-clause-lone c = c.out.ensures.lone c.if-out-ne0.false
