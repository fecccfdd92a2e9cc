use Rattle.std.specs.String.{string_bytes}
use Rattle.its_explain.specs.RegisterWrites.{gone_text}
use Rattle.its_explain.proofs.Texts.{onto}
use Rattle.its_explain.proofs.register_writes.push_gone.Goals as goal

pub returns : goal.returns
unfolding gone_text
returns c =
    onto c.push_lost.result _ (string_bytes c.push_str.new.self) (string_bytes c.args.out.now) _ _ c.in_ok-push_str.ensures.bytes c.push_lost.ensures
