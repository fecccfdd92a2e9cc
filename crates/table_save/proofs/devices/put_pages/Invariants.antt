use Rattle.std.proofs.Common.{◌≡◌, ◌*◌}
use Rattle.std.specs.FinMap.{entries}
use Rattle.its_plain.specs.Saved.{put_tables}
use Rattle.guest_windows.specs.Drafts.{laid}
use Rattle.table_save.specs.Pass.{PassedDevices}
use Rattle.table_save.specs.Tables.{page_tables}
use Rattle.table_save.proofs.devices.put_pages.Given as goal

abbrev pub invariant-loop-k : goal.invariant-loop-k
invariant-loop-k l = record {
  written : (laid l.draft l.under) ≡ put_tables (laid l.fn.draft l.under) (page_tables (entries l.maps.maps.devices) l.per_page l.pages l.k);
  passed : PassedDevices (l.per_page * l.k) (entries l.maps.maps.devices) l.front;
}
