use Rattle.std.specs.String.{string_bytes}
use Rattle.its_explain.specs.Refusals.{no_collection_text}
use Rattle.its_explain.proofs.Texts.{onto, pushed}
use Rattle.its_explain.proofs.refused.push_no_collection.Goals as goal

pub returns : goal.returns
unfolding no_collection_text
returns c =
    onto c.push_str.result _ (string_bytes c.push_missing_if.new.out) (string_bytes c.args.out.now) _ _
    c.in_ok-push_missing_if.ensures
    (pushed c.push_str.result _ (string_bytes c.push_missing_if.new.out) _ c.push_str.ensures.bytes)
