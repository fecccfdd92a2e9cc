use Rattle.std.specs.String.{string_bytes}
use Rattle.its_explain.proofs.Texts.{onto}
use Rattle.its_explain.proofs.replies.push_refused_command.Goals as goal

pub returns : goal.returns
returns c =
    onto c.push_reason.result _ (string_bytes c.push_refused_by.new.out) (string_bytes c.args.out.now) _ _ c.in_ok-push_refused_by.ensures c.push_reason.ensures
