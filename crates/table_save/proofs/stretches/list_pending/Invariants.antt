use Rattle.std.proofs.Common.{◌≡◌, ◌++◌, drop}
use Rattle.std.specs.List.{flat_map}
use Rattle.guest_windows.specs.Fields.{pairs}
use Rattle.its_plain.specs.Saved.{pending_words}
use Rattle.table_save.specs.Areas.{redistributors_of}
use Rattle.table_save.specs.Stretches.{stretches_of}
use Rattle.table_save.proofs.stretches.list_pending.Given as goal

abbrev pub invariant-loop-vcpu : goal.invariant-loop-vcpu
invariant-loop-vcpu l =
    pairs l.list.items ++ stretches_of (flat_map (pending_words l.shape) (drop l.vcpu (redistributors_of l.shape l.redists)))
    ≡ pairs l.fn.list.items ++ stretches_of (flat_map (pending_words l.shape) (redistributors_of l.shape l.redists))
