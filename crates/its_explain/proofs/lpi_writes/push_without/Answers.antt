use Rattle.std.specs.String.{string_bytes}
use Rattle.its_explain.specs.LpiWrites.{without_text}
use Rattle.its_explain.proofs.Texts.{joined, onto}
use Rattle.its_explain.proofs.lpi_writes.push_without.Goals as goal

pub returns : goal.returns
unfolding without_text
returns c =
    onto c.push_pending.result _ (string_bytes c.push_count.new.out) (string_bytes c.args.out.now) _ _
    (joined (string_bytes c.push_count.new.out) (string_bytes c.push_str.new.self) (string_bytes c.args.out.now) _ _
    c.in_ok-push_str.ensures.bytes
    c.in_ok-push_count.ensures)
    c.push_pending.ensures
