use Rattle.std.specs.String.{string_bytes}
use Rattle.its_explain.specs.RegisterWrites.{taken_text}
use Rattle.its_explain.proofs.Texts.{joined, onto}
use Rattle.its_explain.proofs.register_writes.push_taken.Goals as goal

pub returns : goal.returns
unfolding taken_text
returns c =
    onto c.push_unmapped.result _ (string_bytes c.push_kept_if.new.out) (string_bytes c.args.out.now) _ _
    (joined (string_bytes c.push_kept_if.new.out) (string_bytes c.push_translator_value.new.out) (string_bytes c.args.out.now) _ _
    c.in_ok-push_translator_value.ensures
    c.in_ok-push_kept_if.ensures)
    c.push_unmapped.ensures
