use Rattle.std.proofs.Common.{◌≡◌, drop}
use Rattle.std.specs.List.{flat_map}
use Rattle.its_plain.specs.Saved.{put_tables, pending_words}
use Rattle.guest_windows.specs.Drafts.{laid}
use Rattle.table_save.specs.Areas.{redistributors_of}
use Rattle.table_save.proofs.pending.put_pending.Given as goal

abbrev pub invariant-loop-vcpu : goal.invariant-loop-vcpu
invariant-loop-vcpu l =
    put_tables (laid l.draft l.under) (flat_map (pending_words l.shape) (drop l.vcpu (redistributors_of l.shape l.redists)))
    ≡ put_tables (laid l.fn.draft l.under) (flat_map (pending_words l.shape) (redistributors_of l.shape l.redists))
