use Rattle.std.specs.String.{string_bytes}
use Rattle.its_explain.specs.RegisterWrites.{separated}
use Rattle.its_explain.proofs.Texts.{onto, pushed}
use Rattle.its_explain.proofs.register_writes.push_separated.Goals as goal

pub returns : goal.returns
unfolding separated
returns c =
    onto c.push_str.result _ (string_bytes c.push_separator.new.out) (string_bytes c.args.out.now) _ _
    c.in_ok-push_separator.ensures
    (pushed c.push_str.result _ (string_bytes c.push_separator.new.out) _ c.push_str.ensures.bytes)
