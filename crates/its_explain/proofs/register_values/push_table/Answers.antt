use Rattle.std.specs.String.{string_bytes}
use Rattle.its_explain.specs.RegisterValues.{table_text}
use Rattle.its_explain.proofs.Texts.{joined, onto}
use Rattle.its_explain.proofs.register_values.push_table.Goals as goal

pub returns : goal.returns
unfolding table_text
returns c =
    rw c.table_base.ensures at (rw c.table_pages.ensures at (
    onto c.push_validity.result _ (string_bytes c.push_levels.new.out) (string_bytes c.args.out.now) _ _
    (joined (string_bytes c.push_levels.new.out) (string_bytes c.push_str.new.self) (string_bytes c.args.out.now) _ _
    (joined (string_bytes c.push_str.new.self) (string_bytes c.push_numbered.new.out) (string_bytes c.args.out.now) _ _
    (joined (string_bytes c.push_numbered.new.out) (string_bytes c.push_in_hexadecimal.new.out) (string_bytes c.args.out.now) _ _
    c.in_ok-push_in_hexadecimal.ensures
    c.in_ok-push_numbered.ensures)
    c.in_ok-push_str.ensures.bytes)
    c.in_ok-push_levels.ensures)
    c.push_validity.ensures))
