use Rattle.std.specs.String.{string_bytes}
use Rattle.its_explain.specs.RegisterWrites.{not_valid_text}
use Rattle.its_explain.proofs.Texts.{joined, onto}
use Rattle.its_explain.proofs.register_writes.push_not_valid.Goals as goal

pub returns : goal.returns
unfolding not_valid_text
returns c =
    rw c.bit_of.ensures at (rw c.are_valid.ensures at (
    onto c.push_if_not_valid-3.result _ (string_bytes c.push_if_not_valid-2.new.out) (string_bytes c.args.out.now) _ _
    (joined (string_bytes c.push_if_not_valid-2.new.out) (string_bytes c.push_if_not_valid.new.out) (string_bytes c.args.out.now) _ _
    c.in_ok-push_if_not_valid.ensures
    c.in_ok-push_if_not_valid-2.ensures)
    c.push_if_not_valid-3.ensures))
