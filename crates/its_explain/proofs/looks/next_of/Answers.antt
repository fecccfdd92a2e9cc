use Rattle.std.proofs.Common.{ℕ, Some, sym, ap, ◌∙◌}
use Rattle.std.specs.Option.{option_map}
use Rattle.its_explain.specs.Steps.{taken_of}
use Rattle.its_explain.proofs.NextCommand.{met_none, met_some}
use Rattle.its_explain.proofs.looks.next_of.Goals as goal

pub returns-in-Still : goal.returns-in-Still
returns-in-Still c =
    sym (ap (option_map (taken_of c.args.translator.regs.now c.args.its)) (met_none c.args.translator.regs.now c.args.memory.now c.in-Still.field-0 c.in-Still.ensures))

pub returns-in-Command : goal.returns-in-Command
returns-in-Command c =
    ap (λ (n : ℕ). Some (record { its = c.args.its; addr = record { 0 = n }; command = c.in-Command.command })) c.queue_place.ensures
    ∙ sym
    (ap (option_map (taken_of c.args.translator.regs.now c.args.its)) (met_some c.args.translator.regs.now c.args.memory.now c.in-Command.command c.in-Command.ensures))
