use Rattle.std.proofs.Common.{ℕ, List, [], ◌∷◌, sym, ap, ◌∙◌}
use Rattle.gits_regs.specs.Registers.{queue_place}
use Rattle.its_command.specs.declared.command.Command.{Command}
use Rattle.owned_parts.specs.Owned.{state_of_parts}
use Rattle.step_views.specs.Pairs.{all_told}
use Rattle.step_views.specs.Reads.{command_reads}
use Rattle.step_views.proofs.Meeting.{by_idle, by_bytes}
use Rattle.step_views.proofs.reading.needs_of_bytes.Goals as goal

pub returns-then-is_idle-clause-needs : goal.returns-then-is_idle-clause-needs
returns-then-is_idle-clause-needs c =
    let p = c.args.parts.now in
    λ i at. c.none.ensures ∙ by_idle p p.memory c.args.translator c.requires i at c.args.command.now (sym c.is_idle.ensures ∙ c.if-is_idle.true)

pub returns-clause-needs : goal.returns-clause-needs
returns-clause-needs c =
    let p = c.args.parts.now in let t = c.args.translator in
    let reads : Command → List (ℕ × ℕ) = λ x. command_reads p.layout.shape t.regs.now t.maps.now.maps (state_of_parts p).redistributors x in
    λ i at. c.command_needs.ensures.needs
    ∙ ap (λ (n : ℕ). all_told ((n, 32) ∷ []) (reads c.decode.result)) c.queue_place.ensures
    ∙ ap (λ (x : Command). all_told ((queue_place t.regs.now, 32) ∷ []) (reads x)) c.decode.ensures.decoded
    ∙ by_bytes p p.memory t c.requires i at c.args.command.now (sym c.is_idle.ensures ∙ c.if-is_idle.false)
