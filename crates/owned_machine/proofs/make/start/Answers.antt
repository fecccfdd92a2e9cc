use Rattle.std.proofs.Common.{List, length, replicate, ap, ◌∙◌}
use Rattle.std.specs.Option.{option_map}
use Rattle.its_plain.specs.Plain.{Translator}
use Rattle.its_plain.specs.declared.desc.Its.{Its}
use Rattle.owned_parts.specs.Owned.{one_or_two, translator_of}
use Rattle.owned_machine.specs.Start.{reset_translator}
use Rattle.owned_machine.proofs.Started.{started_are}
use Rattle.owned_machine.proofs.make.start.Goals as goal

pub returns : goal.returns
returns c =
    let d = c.args.desc.now in
    let bits = d.shape.dev_bits in
    started_are d _ c.requires c.in_ok-memory.ensures (c.if-not-has_config.ensures.has) c.in-Ok.ensures c.in-Ok-layout.ensures
    (ap (λ (t : Translator). one_or_two t (option_map translator_of c.second_at_reset.result)) c.at_reset.ensures ∙ c.second_at_reset.ensures
    ∙ ap (λ (ts : List Its). replicate (length ts) (reset_translator bits)) c.as_slice.ensures)
    c.in-Ok-fresh_track.ensures
