use Rattle.std.proofs.Common.{◌≡◌, drop}
use Rattle.std.specs.List.{flat_map}
use Rattle.its_plain.specs.Saved as spec
use Rattle.plain_machine.specs.Memories.{put_all}
use Rattle.plain_machine.proofs.save.write_pending.Given as goal

abbrev pub invariant-loop-redist : goal.invariant-loop-redist
invariant-loop-redist l = put_all l.memory (flat_map (spec.pending_words l.shape) (drop l.redist-index l.redists)) ≡ put_all l.initial.memory
    (flat_map (spec.pending_words l.shape) l.redists)
