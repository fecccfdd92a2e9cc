use Rattle.ports_together.proofs.passes.closed.Goals as goal

pub close-parts-requires-clause-lone : goal.close-parts-requires-clause-lone
close-parts-requires-clause-lone c = c.out.ensures.lone c.if-out-ne0.false
