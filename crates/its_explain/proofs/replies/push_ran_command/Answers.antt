use Rattle.std.specs.String.{string_bytes}
use Rattle.its_explain.proofs.Texts.{onto}
use Rattle.its_explain.proofs.replies.push_ran_command.Goals as goal

pub returns : goal.returns
returns c =
    onto c.push_effect.result _ (string_bytes c.push_ran_by.new.out) (string_bytes c.args.out.now) _ _ c.in_ok-push_ran_by.ensures c.push_effect.ensures
