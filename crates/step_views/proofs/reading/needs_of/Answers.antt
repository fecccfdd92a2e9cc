use Rattle.std.proofs.Common.{ℕ, List, [], ◌∷◌, ap, ◌∙◌}
use Rattle.owned_parts.specs.Owned.{state_of_parts}
use Rattle.step_views.specs.Pairs.{all_told}
use Rattle.step_views.specs.Reads.{command_reads}
use Rattle.step_views.proofs.Meeting.{reads_still, reads_met}
use Rattle.step_views.proofs.reading.needs_of.Goals as goal

pub returns-in-Still-clause-needs : goal.returns-in-Still-clause-needs
returns-in-Still-clause-needs c =
    λ i at. c.needs_still.ensures.needs ∙ reads_still c.args.parts.now c.args.parts.now.memory c.args.translator c.requires i at c.in-Still.reply c.in-Still.ensures

pub returns-in-Command-clause-needs : goal.returns-in-Command-clause-needs
returns-in-Command-clause-needs c =
    let p = c.args.parts.now in let t = c.args.translator in
    let rest : List (ℕ × ℕ) = command_reads p.layout.shape t.regs.now t.maps.now.maps (state_of_parts p).redistributors c.in-Command.command in
    λ i at. c.command_needs.ensures.needs ∙ ap (λ (n : ℕ). all_told ((n, 32) ∷ []) rest) c.queue_place.ensures
    ∙ reads_met p p.memory t c.requires i at c.in-Command.command c.in-Command.ensures
