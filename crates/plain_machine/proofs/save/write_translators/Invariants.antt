use Rattle.std.proofs.Common.{◌≡◌, drop}
use Rattle.std.specs.List.{flat_map}
use Rattle.its_plain.specs.Saved as spec
use Rattle.plain_machine.specs.Memories.{put_all}
use Rattle.plain_machine.proofs.save.write_translators.Given as goal

abbrev pub invariant-loop-translator : goal.invariant-loop-translator
invariant-loop-translator l = put_all l.memory (flat_map (spec.translator_words l.shape l.before) (drop l.translator-index l.translators))
    ≡ put_all l.initial.memory (flat_map (spec.translator_words l.shape l.before) l.translators)
