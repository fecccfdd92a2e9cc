-- Where things stand in a picture, in pixels from the left and from the top.
use Rattle.std.specs.Prelude.{ℕ, ◌+◌, ◌*◌, nat_lt, if◌then◌else◌}
use Rattle.its_draw.specs.declared.places.Frame.{Frame}

-- the middle of a column
abbrev pub column_x : ℕ → ℕ
column_x column = 124 + 24 * column

-- the lane of a thread, of which the first is 1
abbrev pub thread_y : ℕ → ℕ
thread_y thread = 40 + 28 * thread

-- an event's row
abbrev pub event_y : Frame → ℕ → ℕ
event_y f row = 78 + 28 * f.threads + 20 * row

-- a virtual processor's lane: the last ones share one
abbrev pub lane_of : ℕ → ℕ
lane_of vcpu = if nat_lt vcpu 16 then vcpu else 15

abbrev pub vcpu_y : Frame → ℕ → ℕ
vcpu_y f vcpu = 86 + 28 * f.threads + 20 * f.rows + 20 * lane_of vcpu

abbrev pub height : Frame → ℕ
height f = 88 + 28 * f.threads + 20 * f.rows + 20 * f.lanes

abbrev pub width : Frame → ℕ
width f = 286 + 24 * f.columns
