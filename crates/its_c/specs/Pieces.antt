-- Stretches of guest memory of any length. They are read and written in pieces of 64 bytes, counted from the first byte; the
-- last piece may be shorter. Each piece has to lie in one window.
use Rattle.std.specs.Prelude.{◌≡◌, ◌≢◌, ◌<◌, ◌≤◌, ℕ, ◌+◌, ◌*◌, ◌^◌, true, List, length, Some}
use Rattle.guest_windows.specs.Windows.{Window, inside, read_at}
use Rattle.guest_windows.specs.Zeros.{AreZero, AreZeroFrom}
use Rattle.its_numbers.specs.declared.lists.StretchOut.{StretchOut}
use Rattle.owned_machine.specs.Pieces.{piece_count, piece_length, piece_of}

-- the first i pieces of n bytes from an address on lie in windows
abbrev pub AreInside : List Window → ℕ → ℕ → ℕ → Type 0
AreInside memory address n i = (k : ℕ) → k < i → inside memory (address + 64 * k) (piece_length n k) ≡ true

-- n bytes from an address on lie in guest memory, below 2 ^ 64
pub record IsStretch (memory : List Window) (address n : ℕ) : Type 0 where
  pub below : address + n < 2 ^ 64
  pub pieces : AreInside memory address n (piece_count n)

-- the first i pieces of the bytes are those that memory has from an address on
abbrev pub AreRead : List Window → ℕ → List ℕ → ℕ → Type 0
AreRead memory address bytes i = (k : ℕ) → k < i → read_at memory (address + 64 * k) (piece_length (length bytes) k) ≡ Some (piece_of bytes k)

-- all are
abbrev pub IsRead : List Window → ℕ → List ℕ → Type 0
IsRead memory address bytes = AreRead memory address bytes (piece_count (length bytes))

-- a stretch of one window, from an address on, before which all is zero from that address on; or all is, and the stretch is none
pub record IsNextPage (memory : List Window) (from : ℕ) (s : StretchOut) : Type 0 where
  pub zero : s.length ≢ 0 → AreZero memory from s.address
  pub none : s.length ≡ 0 → AreZeroFrom memory from × (s.address ≡ 0)
  pub further : s.length ≢ 0 → from ≤ s.address
  pub short : s.length ≤ 65536
  pub inside : s.length ≢ 0 → inside memory s.address s.length ≡ true
