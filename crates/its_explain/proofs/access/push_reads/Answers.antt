use Rattle.std.specs.String.{string_bytes}
use Rattle.its_explain.specs.Accesses.{reads_text}
use Rattle.its_explain.proofs.Texts.{onto}
use Rattle.its_explain.proofs.access.push_reads.Goals as goal

pub returns : goal.returns
unfolding reads_text
returns c =
    onto c.push_in_hexadecimal-2.result _ (string_bytes c.push_in_hexadecimal.new.out) (string_bytes c.args.out.now) _ _
    c.in_ok-push_in_hexadecimal.ensures
    c.push_in_hexadecimal-2.ensures
