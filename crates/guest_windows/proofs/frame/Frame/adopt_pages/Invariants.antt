use Rattle.std.proofs.Common.{◌≡◌, ℕ, ◌+◌, ◌/◌, ◌%◌, ◌<◌, ◌≤◌, ◌≢◌, [], None, length, get_or}
use Rattle.guest_windows.specs.Chunks.{page_rows}
use Rattle.guest_windows.specs.Drafts.{own_rows, byte_over}
use Rattle.guest_windows.specs.Pages.{rows, byte_in, chunk_row}
use Rattle.guest_windows.proofs.frame.Frame.adopt_pages.Given as goal

abbrev pub invariant-loop-at : goal.invariant-loop-at
invariant-loop-at l = record {
  left : (j k : ℕ) → l.at ≤ j → get_or l.numbers j 0 ≡ k + 1 → get_or (page_rows l.laid) k [] ≡ get_or (page_rows l.fn.laid) k [];
  count : length l.laid ≡ length l.fn.laid;
  done : (i : ℕ) → i < l.self.len → i / 65536 / 4096 ≡ l.first / 4096 → i / 65536 % 4096 < l.at
      → byte_in (rows l.self.groups.items) i
      ≡ byte_over (get_or (own_rows l.numbers l.fn.laid) (i / 65536 % 4096) None) (i % 65536) (byte_in (rows l.fn.self.groups.items) i);
  coming : (i : ℕ) → i / 65536 / 4096 ≡ l.first / 4096 → l.at ≤ i / 65536 % 4096
      → byte_in (rows l.self.groups.items) i ≡ byte_in (rows l.fn.self.groups.items) i;
  others : (i : ℕ) → i / 65536 / 4096 ≢ l.first / 4096 → byte_in (rows l.self.groups.items) i ≡ byte_in (rows l.fn.self.groups.items) i;
  held : length (chunk_row (rows l.self.groups.items) l.first) ≡ 4096;
  base : l.self.base ≡ l.fn.self.base;
  len : l.self.len ≡ l.fn.self.len;
}
