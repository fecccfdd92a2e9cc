use Rattle.std.specs.String.{string_bytes}
use Rattle.its_explain.specs.Rereads.{configuration_text}
use Rattle.its_explain.proofs.Texts.{onto}
use Rattle.its_explain.proofs.rereads.push_configuration.Goals as goal

pub returns : goal.returns
unfolding configuration_text
returns c =
    onto c.push_hex_byte.result _ (string_bytes c.push_enabled.new.out) (string_bytes c.args.out.now) _ _ c.in_ok-push_enabled.ensures c.push_hex_byte.ensures
