-- What a call answers, as a number.
use Rattle.std.specs.Prelude.{ℕ, Bool, if◌then◌else◌}

-- it was done
abbrev pub done : ℕ
done = 0

-- the host's memory ran out
abbrev pub no_memory : ℕ
no_memory = 1

-- bytes that don't lie in guest memory
abbrev pub outside : ℕ
outside = 2

-- a number that is out of its range
abbrev pub range : ℕ
range = 3

-- a fault, which the call tells
abbrev pub fault : ℕ
fault = 4

-- a handle with no machine, or, to make one, a handle that has one already
abbrev pub handle : ℕ
handle = 5

-- done where the numbers are in their ranges
abbrev pub if_in_range : Bool → ℕ
if_in_range b = if b then done else range

-- as many events or devices are mapped as may be, or as much guest memory is held, or more would be restored
abbrev pub full : ℕ
full = 6

-- done where the bytes lie in one window
abbrev pub if_inside : Bool → ℕ
if_inside b = if b then done else outside

-- another pass has a part that is needed, or made a call meanwhile
abbrev pub busy : ℕ
busy = 7

-- all places are used
abbrev pub spent : ℕ
spent = 8
