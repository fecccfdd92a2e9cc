use Rattle.std.specs.String.{string_bytes}
use Rattle.its_explain.specs.RegisterWrites.{devices_text}
use Rattle.its_explain.proofs.Texts.{joined, onto}
use Rattle.its_explain.proofs.register_writes.push_devices.Goals as goal

pub returns : goal.returns
unfolding devices_text
returns c =
    onto c.push_count-2.result _ (string_bytes c.push_str.new.self) (string_bytes c.args.out.now) _ _
    (joined (string_bytes c.push_str.new.self) (string_bytes c.push_count.new.out) (string_bytes c.args.out.now) _ _
    c.in_ok-push_count.ensures
    c.in_ok-push_str.ensures.bytes)
    c.push_count-2.ensures
