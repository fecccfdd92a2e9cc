use Rattle.std.proofs.Common.{rules, ◌∙◌, sym, ⊎_elim}
use Rattle.its_explain.specs.Book.{changer, writer}
use Rattle.its_explain.proofs.Steps.{no_fills, no_lines}
use Rattle.its_explain.proofs.book.Book.of_fills.Goals as goal

pub loop-fill-init : goal.loop-fill-init
unfolding changer writer
loop-fill-init c = search rules

pub returns-clause-writers : goal.returns-clause-writers
returns-clause-writers c =
    λ a.
    let w = writer c.loop-fill.book a in
    let fs = c.loop-fill.fill-iterator.a.rest.now in
    let ls = c.loop-fill.fill-iterator.b.rest.now in
    ⊎_elim (λ s. sym (no_fills w fs ls a s.1.0) ∙ c.loop-fill.invariant.writers a) (λ s. sym (no_lines w fs ls a s.1.0) ∙ c.loop-fill.invariant.writers a) c.in-None.ensures.steps
