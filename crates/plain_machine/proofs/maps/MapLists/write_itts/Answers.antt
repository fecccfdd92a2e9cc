use Rattle.std.proofs.Common.{ap, sym, ◌∙◌}
use Rattle.std.proofs.lemmas.Result.{on_ok_weaker}
use Rattle.plain_machine.proofs.Entries.{listed_devices}
use Rattle.std.proofs.Common.{[], ◌∷◌, ◌^◌}
use Rattle.std.specs.List.{flat_map}
use Rattle.std.specs.FinMap.{entries}
use Rattle.its_types.specs.Maps.{Maps}
use Rattle.its_plain.specs.Saved.{event_word}
use Rattle.plain_machine.specs.Memories.{put_all}
use Rattle.plain_machine.proofs.maps.MapLists.write_itts.Goals as goal

pub returns : goal.returns
returns c =
    on_ok_weaker c.write_itts.result (λ is. is
    ∙ ap (λ es. put_all c.args.memory.now (flat_map (λ d. record { base = d.1.itt.0; count = 2 ^ d.1.bits; word = event_word c.args.self.now d.0 } ∷ []) es))
    (c.deref.ensures.value ∙ sym (listed_devices c.self.inside c.self.invariant) ∙ ap (λ (m : Maps). entries m.devices) c.self.view_is)) c.write_itts.ensures
