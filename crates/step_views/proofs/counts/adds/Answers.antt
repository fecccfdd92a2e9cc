use Rattle.std.proofs.Common.{◌∙◌, ap, sym}
use Rattle.std.specs.Prelude.{◌&&◌, is_ok, Bool}
use Rattle.its_plain.specs.Commands.{ran}
use Rattle.owned_machine.specs.Lent.{on}
use Rattle.owned_parts.specs.Owned.{state_of_parts}
use Rattle.step_views.proofs.Meeting.{adds_still, adds_met}
use Rattle.step_views.proofs.counts.adds.Goals as goal

pub returns-in-Still : goal.returns-in-Still
returns-in-Still c = λ i at. adds_still c.args.parts.now c.args.memory.now c.args.translator c.requires.whole i at c.args.what c.in-Still.field-0 c.in-Still.ensures

pub returns-then-maps_new : goal.returns-then-maps_new
returns-then-maps_new c =
    let p = c.args.parts.now in
    λ i at. c.runs.ensures i at
    ∙ ap (λ (b : Bool). b && is_ok (ran (on c.args.memory.now (state_of_parts p)) i c.in-Command.command)) (sym c.if-maps_new.true ∙ c.maps_new.ensures)
    ∙ adds_met p c.args.memory.now c.args.translator c.requires.whole i at c.args.what c.in-Command.command c.in-Command.ensures

pub returns-else-maps_new : goal.returns-else-maps_new
returns-else-maps_new c =
    let p = c.args.parts.now in
    λ i at. ap (λ (b : Bool). b && is_ok (ran (on c.args.memory.now (state_of_parts p)) i c.in-Command.command)) (sym c.if-maps_new.false ∙ c.maps_new.ensures)
    ∙ adds_met p c.args.memory.now c.args.translator c.requires.whole i at c.args.what c.in-Command.command c.in-Command.ensures
