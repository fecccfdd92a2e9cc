use Rattle.std.specs.String.{string_bytes}
use Rattle.its_explain.specs.LpiWrites.{base_text}
use Rattle.its_explain.proofs.Texts.{onto}
use Rattle.its_explain.proofs.lpi_writes.push_base.Goals as goal

pub returns : goal.returns
unfolding base_text
returns c =
    onto c.push_kept.result _ (string_bytes c.push_lpi_value.new.out) (string_bytes c.args.out.now) _ _ c.in_ok-push_lpi_value.ensures c.push_kept.ensures
