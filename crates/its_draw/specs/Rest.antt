-- The text of a picture beside its calls.
use Rattle.std.specs.Prelude.{ℕ, ◌+◌, ◌-◌, ◌*◌, nat_le, Bool, true, false, if◌then◌else◌, List, [], ◌++◌, codes, length, Option, Some, None}
use Rattle.its_history.specs.Texts.{its_mark}
use Rattle.its_command.specs.declared.command.Op.{Op}
use Rattle.its_draw.specs.Calls.{hue_text, op_name}
use Rattle.its_draw.specs.Elements.{event_text, line_text, numbered_text, rect_text, sign_text, words_text}
use Rattle.its_draw.specs.Places.{column_x, thread_y, event_y, vcpu_y, width, height}
use Rattle.its_draw.specs.declared.drawing.Pending.{Pending}
use Rattle.its_draw.specs.declared.drawing.Wall.{Wall}
use Rattle.its_draw.specs.declared.events.Bar.{Bar}
use Rattle.its_draw.specs.declared.events.BarEnd.{BarEnd}
use Rattle.its_draw.specs.declared.events.Moved.{Moved}
use Rattle.its_draw.specs.declared.events.Row.{Row}
use Rattle.its_draw.specs.declared.places.Frame.{Frame}
use Rattle.its_draw.specs.declared.places.Point.{Point}

abbrev pub at : ℕ → ℕ → Point
at x y = record { x = x; y = y }

-- ---- lanes and rows

abbrev pub lane_text : Frame → ℕ → List ℕ
lane_text f y = line_text (codes "lane") (at 112 y) (at (width f) y)

unfoldable pub thread_text : Frame → ℕ → List ℕ
thread_text f thread = lane_text f (thread_y thread) ++ numbered_text (codes "name") (at 8 (thread_y thread)) (codes "thread") thread

unfoldable pub vcpu_text : Frame → ℕ → List ℕ
vcpu_text f vcpu = lane_text f (vcpu_y f vcpu) ++ numbered_text (hue_text vcpu) (at 8 (vcpu_y f vcpu)) (codes "vCPU") vcpu

unfoldable pub row_name : Frame → Row → List ℕ
row_name f row = event_text (at 8 (event_y f row.number)) (its_mark row.key.its) row.key.dev.0 row.key.ev.0

-- ---- legs and phases

abbrev pub wall_x : Wall → ℕ
wall_x wall = 112 + 24 * wall.column

abbrev pub wall_parts : Frame → ℕ → ℕ → Bool → List ℕ
wall_parts f x number true = line_text (codes "leg") (at x 4) (at x (height f)) ++ numbered_text (codes "dim") (at (x + 4) 28) (codes "leg") number
wall_parts f x number false = line_text (codes "wall") (at x 4) (at x (height f)) ++ numbered_text (codes "dim") (at (x + 4) 14) (codes "phase") number

unfoldable pub wall_text : Frame → Wall → List ℕ
wall_text f wall = wall_parts f (wall_x wall) wall.number wall.is_leg

-- ---- events

abbrev pub bar_start : Option ℕ → ℕ
bar_start None = 112
bar_start (Some column) = column_x column

abbrev pub bar_end : Frame → Option BarEnd → ℕ
bar_end f None = 136 + 24 * f.columns
bar_end f (Some end) = column_x end.column

abbrev pub by_text : Point → Option Op → List ℕ
by_text p None = []
by_text p (Some op) = words_text (codes "small dim") (at (p.x + 4) p.y) (op_name op)

-- what ended a bar
abbrev pub cut_text : Point → Option BarEnd → List ℕ
cut_text p None = []
cut_text p (Some end) = line_text (codes "cut") (at p.x (p.y - 8)) (at p.x (p.y + 8)) ++ by_text p end.by

unfoldable pub bar_text : Frame → Bar → List ℕ
bar_text f bar =
    rect_text (at (bar_start bar.from) (event_y f bar.row - 5)) (bar_end f bar.to - bar_start bar.from)
    ++ numbered_text (codes "small dim") (at (bar_start bar.from + 5) (event_y f bar.row)) (codes "LPI") bar.event.intid.0
    ++ cut_text (at (bar_end f bar.to) (event_y f bar.row)) bar.to

unfoldable pub move_text : Frame → Moved → List ℕ
move_text f m = sign_text (codes "diamond") (codes "move") (at (column_x m.column) (event_y f m.row))

-- ---- what is pending

abbrev pub pending_at : Frame → Pending → Point
pending_at f p = at (column_x p.column) (vcpu_y f p.vcpu.0)

-- as the report has it, or how many where that is long
unfoldable pub pending_text : Frame → Pending → List ℕ
pending_text f p =
    if nat_le (length p.text) 24 then words_text (codes "small") (pending_at f p) p.text
    else numbered_text (codes "small") (pending_at f p) (codes "pending:") p.count
