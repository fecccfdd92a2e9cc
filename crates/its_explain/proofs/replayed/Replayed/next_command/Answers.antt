use Rattle.std.proofs.Common.{List, sym, ap, ◌∙◌}
use Rattle.std.specs.Option.{option_map}
use Rattle.guest_windows.specs.Windows.{Window}
use Rattle.its_plain.specs.Plain.{Translator}
use Rattle.its_explain.specs.Steps.{command_of, taken_of}
use Rattle.its_explain.proofs.NextCommand.{here, nowhere}
use Rattle.its_explain.proofs.replayed.Replayed.next_command.Goals as goal

pub returns-in-Some : goal.returns-in-Some
returns-in-Some c =
    let t = c.in-Some.translator in
    let u = c.args.self.now in
    let its = c.args.its in
    c.next_of.ensures ∙ ap (λ (m : List Window). option_map (taken_of t.regs.now its) (command_of t.regs.now m)) c.memory.ensures
    ∙ ap (λ (x : Translator). option_map (taken_of x.regs its) (command_of x.regs u.memory)) (sym (here u its c.translator.result c.translator.ensures t c.in-Some.is))

pub returns-in-None : goal.returns-in-None
returns-in-None c =
    let u = c.args.self.now in
    let its = c.args.its in
    sym (ap (λ (x : Translator). option_map (taken_of x.regs its) (command_of x.regs u.memory)) (nowhere u its c.translator.result c.translator.ensures c.in-None.is))
