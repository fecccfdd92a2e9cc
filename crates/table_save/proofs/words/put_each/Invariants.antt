use Rattle.std.proofs.Common.{◌≡◌}
use Rattle.std.specs.Prelude.{slice_index}
use Rattle.its_plain.specs.Saved.{put_words}
use Rattle.guest_windows.specs.Drafts.{laid}
use Rattle.table_save.proofs.words.put_each.Given as goal

abbrev pub invariant-loop-i : goal.invariant-loop-i
invariant-loop-i l = (laid l.draft l.under) ≡ put_words (laid l.fn.draft l.under) l.base (slice_index l.words) l.i
