use Rattle.std.proofs.Common.{◌≡◌, drop}
use Rattle.std.specs.List.{flat_map}
use Rattle.its_plain.specs.Saved.{wrote_tables, pending_words}
use Rattle.table_save.specs.Areas.{redistributors_of}
use Rattle.table_save.proofs.marks.mark_pending.Given as goal

abbrev pub invariant-loop-vcpu : goal.invariant-loop-vcpu
invariant-loop-vcpu l =
    wrote_tables (flat_map (pending_words l.shape) (drop l.vcpu (redistributors_of l.shape l.redists))) l.track
    ≡ wrote_tables (flat_map (pending_words l.shape) (redistributors_of l.shape l.redists)) l.fn.track
