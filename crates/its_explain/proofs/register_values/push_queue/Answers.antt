use Rattle.std.specs.String.{string_bytes}
use Rattle.its_explain.specs.RegisterValues.{queue_text}
use Rattle.its_explain.proofs.Texts.{joined, onto}
use Rattle.its_explain.proofs.register_values.push_queue.Goals as goal

pub returns : goal.returns
unfolding queue_text
returns c =
    rw c.field.ensures at (rw c.queue_bytes.ensures at (onto c.push_validity.result _ (string_bytes c.push_str.new.self) (string_bytes c.args.out.now) _ _
    (joined (string_bytes c.push_str.new.self) (string_bytes c.push_in_hexadecimal-2.new.out) (string_bytes c.args.out.now) _ _
    (joined (string_bytes c.push_in_hexadecimal-2.new.out) (string_bytes c.push_in_hexadecimal.new.out) (string_bytes c.args.out.now) _ _
    c.in_ok-push_in_hexadecimal.ensures
    c.in_ok-push_in_hexadecimal-2.ensures)
    c.in_ok-push_str.ensures.bytes)
    c.push_validity.ensures))
