-- Where the tables that a save writes stand.
use Rattle.std.specs.Prelude.{ℕ, ◌*◌, List, map}
use Rattle.its_plain.specs.Saved.{Words}

-- the first byte of a table, and how many bytes it has
abbrev pub stretch_of : Words → ℕ × ℕ
stretch_of w = (w.base, 8 * w.count)

abbrev pub stretches_of : List Words → List (ℕ × ℕ)
stretches_of ws = map stretch_of ws
