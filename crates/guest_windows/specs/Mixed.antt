-- Guest memory that has some of its bytes from another with the same windows.
use Rattle.std.specs.Prelude.{ℕ, suc, Bool, if◌then◌else◌, List, ◌∷◌}
use Rattle.guest_windows.specs.Windows.{Window}

-- the bytes from an address on, of which those come from the first list whose addresses the test passes
abbrev pub mixed : (ℕ → Bool) → ℕ → List ℕ → List ℕ → List ℕ
mixed test address (x ∷ xs) (y ∷ ys) = (if test address then x else y) ∷ mixed test (suc address) xs ys
mixed test address xs ys = ys

abbrev pub mixed_window : (ℕ → Bool) → Window → Window → Window
mixed_window test from to = record to { bytes = mixed test to.base from.bytes to.bytes }

-- the same in each window
abbrev pub mixed_windows : (ℕ → Bool) → List Window → List Window → List Window
mixed_windows test (v ∷ vs) (w ∷ ws) = mixed_window test v w ∷ mixed_windows test vs ws
mixed_windows test vs ws = ws
