-- Which bytes of guest memory are zero.
use Rattle.std.specs.Prelude.{◌≡◌, ℕ, ◌-◌, ◌<◌, ◌≤◌, true, List, slice_index, Some}
use Rattle.guest_windows.specs.Windows.{Window, has, byte_at}

-- each byte from low on, below high, that lies in a window is zero
abbrev pub AreZero : List Window → ℕ → ℕ → Type 0
AreZero windows low high = (address x : ℕ) → low ≤ address → address < high → byte_at windows address ≡ Some x → x ≡ 0

-- each from low on is
abbrev pub AreZeroFrom : List Window → ℕ → Type 0
AreZeroFrom windows low = (address x : ℕ) → low ≤ address → byte_at windows address ≡ Some x → x ≡ 0

-- those of one window
abbrev pub IsZeroIn : ℕ → ℕ → Window → Type 0
IsZeroIn low high w = (address : ℕ) → low ≤ address → address < high → has w address 1 ≡ true → slice_index w.bytes (address - w.base) ≡ 0
