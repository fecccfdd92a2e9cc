use Rattle.std.proofs.Common.{[], ◌∷◌, sym, ◌∙◌}
use Rattle.step_views.specs.Pairs.{all_told}
use Rattle.its_shared.proofs.Needing.{met_known, still_known}
use Rattle.its_shared.proofs.step_reads.step_reads.Goals as goal

pub returns-in-Still : goal.returns-in-Still
returns-in-Still c u its has =
    still_known u its c.args.shape c.args.regs.now c.args.maps.now.maps c.args.memory.now has c.in-Still.reply c.in-Still.ensures ∙ sym c.missing.ensures

pub returns-in-Command : goal.returns-in-Command
returns-in-Command c u its has =
    met_known u its c.args.shape c.args.regs.now c.args.maps.now.maps c.args.memory.now has c.in-Command.command c.in-Command.ensures
    ∙ (λ d. all_told ((sym c.queue_place.ensures d, 32) ∷ []) (c.read_besides.ensures u.redistributors d))
