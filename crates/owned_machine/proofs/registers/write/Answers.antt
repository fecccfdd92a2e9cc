use Rattle.std.proofs.Common.{◌∙◌, ap, ℕ}
use Rattle.std.specs.Option.{option_map}
use Rattle.std.specs.Prelude.{slice_get}
use Rattle.owned_parts.specs.Owned.{translator_of, state_of_parts}
use Rattle.owned_machine.proofs.RegisterWrites.{first_written, second_written, none_written}
use Rattle.owned_machine.proofs.Lists.{no_second, no_third}
use Rattle.owned_machine.proofs.registers.write.Goals as goal

pub returns-then-its-eq0 : goal.returns-then-its-eq0
returns-then-its-eq0 c =
    first_written c.args.parts.now c.args.its c.args.off c.args.size c.args.value c.write_to.new.translator c.requires c.if-its-eq0.true c.write_to.ensures

pub returns-in-Some : goal.returns-in-Some
returns-in-Some c =
    second_written c.args.parts.now c.args.its c.args.off c.args.size c.args.value c.in-Some.second c.write_to-in-Some.new.translator c.requires
    c.if-its-eq1.true c.in-Some.is c.write_to-in-Some.ensures

pub returns-in_default : goal.returns-in_default
returns-in_default c =
    let p = c.args.parts.now in
    none_written p c.args.its c.args.off c.args.size c.args.value c.requires
    (ap (λ (i : ℕ). slice_get (state_of_parts p).translators i) c.if-its-eq1.true
    ∙ no_second (translator_of p.first) (option_map translator_of p.second) (ap (option_map translator_of) c.in_default.is))

pub returns-else-its-eq1 : goal.returns-else-its-eq1
returns-else-its-eq1 c =
    let p = c.args.parts.now in
    none_written p c.args.its c.args.off c.args.size c.args.value c.requires
    (no_third (translator_of p.first) (option_map translator_of p.second) c.args.its c.if-its-eq0.false c.if-its-eq1.false)
