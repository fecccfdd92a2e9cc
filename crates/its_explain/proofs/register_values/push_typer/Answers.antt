use Rattle.std.specs.String.{string_bytes}
use Rattle.its_explain.specs.RegisterValues.{typer_text}
use Rattle.its_explain.proofs.Texts.{joined, onto, pushed}
use Rattle.its_explain.proofs.register_values.push_typer.Goals as goal

pub returns : goal.returns
unfolding typer_text
returns c =
    rw c.field.ensures at (rw c.field-2.ensures at (rw c.field-3.ensures at (
    onto c.push_str.result _ (string_bytes c.push_numbered-3.new.out) (string_bytes c.args.out.now) _ _
    (joined (string_bytes c.push_numbered-3.new.out) (string_bytes c.push_numbered-2.new.out) (string_bytes c.args.out.now) _ _
    (joined (string_bytes c.push_numbered-2.new.out) (string_bytes c.push_numbered.new.out) (string_bytes c.args.out.now) _ _
    c.in_ok-push_numbered.ensures
    c.in_ok-push_numbered-2.ensures)
    c.in_ok-push_numbered-3.ensures)
    (pushed c.push_str.result _ (string_bytes c.push_numbered-3.new.out) _ c.push_str.ensures.bytes))))
