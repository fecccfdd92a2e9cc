use Rattle.std.specs.String.{string_bytes}
use Rattle.its_explain.specs.RegisterValues.{config_table_text}
use Rattle.its_explain.proofs.Texts.{onto}
use Rattle.its_explain.proofs.register_values.push_config_table.Goals as goal

pub returns : goal.returns
unfolding config_table_text
returns c =
    rw c.field.ensures at (rw c.field-2.ensures at (
    onto c.push_numbered.result _ (string_bytes c.push_in_hexadecimal.new.out) (string_bytes c.args.out.now) _ _
    c.in_ok-push_in_hexadecimal.ensures
    c.push_numbered.ensures))
