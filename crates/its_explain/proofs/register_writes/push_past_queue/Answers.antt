use Rattle.std.specs.String.{string_bytes}
use Rattle.its_explain.specs.RegisterWrites.{past_queue_text}
use Rattle.its_explain.proofs.Texts.{joined, onto}
use Rattle.its_explain.proofs.register_writes.push_past_queue.Goals as goal

pub returns : goal.returns
unfolding past_queue_text
returns c =
    rw c.queue_size.ensures at (onto c.push_in_hexadecimal-3.result _ (string_bytes c.push_in_hexadecimal-2.new.out) (string_bytes c.args.out.now) _ _
    (joined (string_bytes c.push_in_hexadecimal-2.new.out) (string_bytes c.push_in_hexadecimal.new.out) (string_bytes c.args.out.now) _ _
    c.in_ok-push_in_hexadecimal.ensures
    c.in_ok-push_in_hexadecimal-2.ensures)
    c.push_in_hexadecimal-3.ensures)
