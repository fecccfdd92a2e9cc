use Rattle.std.proofs.Common.{◌≡◌}
use Rattle.std.specs.FinMap.{entries}
use Rattle.std.specs.List.{AllByRecursion}
use Rattle.its_plain.specs.Saved.{put_tables}
use Rattle.guest_windows.specs.Drafts.{laid}
use Rattle.table_save.specs.Pass.{FitsDevice}
use Rattle.table_save.specs.Tables.{itt_tables}
use Rattle.table_save.proofs.events.put_itts.Given as goal

abbrev pub invariant-loop-dev : goal.invariant-loop-dev
invariant-loop-dev l = record {
  can_next : (goal.iterator-loop-dev).can_next l.dev-iterator;
  is_finite : (goal.iterator-loop-dev).is_finite l.dev-iterator;
  fit : AllByRecursion FitsDevice l.dev-iterator;
  written : put_tables (laid l.draft l.under) (itt_tables l.maps.maps l.dev-iterator) ≡ put_tables (laid l.fn.draft l.under)
      (itt_tables l.maps.maps (entries l.fn.maps.maps.devices));
}
