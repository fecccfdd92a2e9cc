-- Guest memory with a copy of it, and which of its pages differ at most.
use Rattle.std.specs.Prelude.{◌≡◌, ℕ, Bool, true, false, List, map, length, Some}
use Rattle.guest_windows.specs.Windows.{Window, extent, zeros, byte_at, write_at, share_no_byte}
use Rattle.guest_windows.specs.Mixed.{mixed_windows}
use Rattle.dirty_log.specs.Pages.{page_of, pages_of, is_dirty, is_clean, set_all, marked, all_pages}
use Rattle.dirty_log.specs.declared.page.Page.{Page}
use Rattle.dirty_log.specs.declared.tracked.Tracked.{Tracked}

-- ---- what a copy leaves

abbrev pub in_dirty : List Page → ℕ → Bool
in_dirty pages address = is_dirty pages (page_of address)

-- the copy, once the bytes of each dirty page went there
abbrev pub copied : List Window → List Page → List Window → List Window
copied memory pages copy = mixed_windows (in_dirty pages) memory copy

abbrev pub number_of : Page → ℕ
number_of p = p.number

-- ---- memory that is tracked

-- after so many bytes were written from an address on
abbrev pub wrote : ℕ → ℕ → Tracked → Tracked
wrote address len t = record t { log = marked address len t.log }

-- after a copy: no page is dirty
abbrev pub caught_up : List Window → Tracked → Tracked
caught_up memory t = record { copy = copied memory t.log t.copy; log = set_all false t.log }

-- at first: the copy is zero, and every page is dirty
abbrev pub untouched : List (ℕ × ℕ) → Tracked
untouched windows = record { copy = map zeros windows; log = all_pages true windows }

-- The copy has the same windows, and the same byte at each address whose page is clean. The pages are those of the windows
pub record IsTracked (memory : List Window) (t : Tracked) : Type 0 where
  pub windows : map extent t.copy ≡ map extent memory
  pub pages : map number_of t.log ≡ pages_of (map extent memory)
  pub agree : (address : ℕ) → is_clean t.log (page_of address) ≡ true → byte_at t.copy address ≡ byte_at memory address

-- ---- what is claimed

-- a write of memory whose pages are marked keeps this
abbrev pub WritesKeepTracked : Type 0
WritesKeepTracked = (memory now : List Window) (address : ℕ) (bytes : List ℕ) (t : Tracked) → write_at memory address bytes ≡ Some now → IsTracked memory t
    → IsTracked now (wrote address (length bytes) t)

-- so does a copy
abbrev pub CopiesKeepTracked : Type 0
CopiesKeepTracked = (memory : List Window) (t : Tracked) → IsTracked memory t → IsTracked memory (caught_up memory t)

-- at first it holds, whatever the memory has
abbrev pub UntouchedIsTracked : Type 0
UntouchedIsTracked = (memory : List Window) → IsTracked memory (untouched (map extent memory))

-- a copy leaves the memory's bytes at each address
abbrev pub CopyHasAllBytes : Type 0
CopyHasAllBytes = (memory : List Window) (t : Tracked) (address : ℕ) → IsTracked memory t → byte_at (caught_up memory t).copy address ≡ byte_at memory address

-- so it is the memory
abbrev pub CopyIsMemory : Type 0
CopyIsMemory = (memory : List Window) (t : Tracked) → share_no_byte (map extent memory) ≡ true → IsTracked memory t → (caught_up memory t).copy ≡ memory
