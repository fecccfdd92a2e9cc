use Rattle.std.specs.String.{string_bytes}
use Rattle.its_explain.specs.LpiWrites.{on_text}
use Rattle.its_explain.proofs.Texts.{onto}
use Rattle.its_explain.proofs.lpi_writes.push_on.Goals as goal

pub returns : goal.returns
unfolding on_text
returns c =
    onto c.push_count.result _ (string_bytes c.push_str.new.self) (string_bytes c.args.out.now) _ _ c.in_ok-push_str.ensures.bytes c.push_count.ensures
