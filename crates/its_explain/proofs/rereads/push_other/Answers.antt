use Rattle.std.specs.String.{string_bytes}
use Rattle.its_explain.specs.Rereads.{other_text}
use Rattle.its_explain.proofs.Texts.{onto}
use Rattle.its_explain.proofs.rereads.push_other.Goals as goal

pub returns : goal.returns
unfolding other_text
returns c =
    onto c.push_configuration.result _ (string_bytes c.push_str.new.self) (string_bytes c.args.out.now) _ _
    c.in_ok-push_str.ensures.bytes
    c.push_configuration.ensures
