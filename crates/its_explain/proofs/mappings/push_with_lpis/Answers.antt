use Rattle.std.specs.String.{string_bytes}
use Rattle.its_explain.specs.Mappings.{with_lpis_text}
use Rattle.its_explain.proofs.Texts.{onto}
use Rattle.its_explain.proofs.mappings.push_with_lpis.Goals as goal

pub returns : goal.returns
unfolding with_lpis_text
returns c =
    onto c.push_count.result _ (string_bytes c.push_str.new.self) (string_bytes c.args.out.now) _ _ c.in_ok-push_str.ensures.bytes c.push_count.ensures
