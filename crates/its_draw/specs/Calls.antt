-- The text of a call's picture.
use Rattle.std.specs.Prelude.{ℕ, ◌%◌, ◌==◌, if◌then◌else◌, List, [], ◌++◌, codes, Option, Some, None}
use Rattle.its_command.specs.declared.command.Op.{Op}
use Rattle.its_command.specs.declared.command.Op.TheVariants as op
use Rattle.its_draw.specs.Elements.{line_text, sign_text, tilted_text, group_text}
use Rattle.its_draw.specs.Places.{column_x, thread_y, event_y, vcpu_y}
use Rattle.its_draw.specs.declared.drawing.Shown.{Shown}
use Rattle.its_draw.specs.declared.mark.Mark.{Mark}
use Rattle.its_draw.specs.declared.mark.Mark.TheVariants.{Sent, Lost, Took, NoneTaken, Ran, Refused, Idle, Saved, Failed, Other}
use Rattle.its_draw.specs.declared.places.Frame.{Frame}
use Rattle.its_draw.specs.declared.places.Point.{Point}

-- the class of what belongs to a virtual processor
abbrev pub hue_text : ℕ → List ℕ
hue_text vcpu =
    if vcpu % 4 == 0 then codes "v0" else if vcpu % 4 == 1 then codes "v1" else if vcpu % 4 == 2 then codes "v2" else codes "v3"

abbrev pub class_text : Mark → List ℕ
class_text (Sent vcpu) = hue_text vcpu.0
class_text (Took vcpu) = hue_text vcpu.0
class_text (NoneTaken vcpu) = hue_text vcpu.0
class_text _ = codes "call"

unfoldable pub op_name : Op → List ℕ
op_name op.Movi = codes "movi"
op_name op.Int = codes "int"
op_name op.Clear = codes "clear"
op_name op.Sync = codes "sync"
op_name op.Mapd = codes "mapd"
op_name op.Mapc = codes "mapc"
op_name op.Mapti = codes "mapti"
op_name op.Mapi = codes "mapi"
op_name op.Inv = codes "inv"
op_name op.Invall = codes "invall"
op_name op.Movall = codes "movall"
op_name op.Discard = codes "discard"
op_name (op.Unknown n) = codes "unknown"

abbrev pub below : Point → ℕ → Point
below at y = record { x = at.x; y = y }

-- a message passes its event's row, if it has one
abbrev pub row_text : Frame → Point → Option ℕ → List ℕ
row_text f at None = []
row_text f at (Some row) = sign_text (codes "spot") (codes "full") (below at (event_y f row))

-- a message goes down to its virtual processor
abbrev pub sent_text : Frame → Point → ℕ → Option ℕ → List ℕ
sent_text f at vcpu row =
    line_text (codes "sent") at (below at (vcpu_y f vcpu)) ++ sign_text (codes "dot") (codes "full") at ++ row_text f at row
    ++ sign_text (codes "arrow") (codes "full") (below at (vcpu_y f vcpu))

abbrev pub crossed_text : Frame → Point → Option ℕ → List ℕ
crossed_text f at None = sign_text (codes "cross") (codes "cross") at
crossed_text f at (Some row) =
    line_text (codes "lost") at (below at (event_y f row)) ++ sign_text (codes "cross") (codes "cross") (below at (event_y f row))

-- a message is crossed, at its event's row if it has one
abbrev pub lost_text : Frame → Point → Option ℕ → List ℕ
lost_text f at row = sign_text (codes "dot") (codes "lost") at ++ crossed_text f at row

-- an acknowledgement, and what it took
abbrev pub took_text : Frame → Point → ℕ → List ℕ
took_text f at vcpu =
    sign_text (codes "up") (codes "full") at ++ line_text (codes "took") at (below at (vcpu_y f vcpu))
    ++ sign_text (codes "dot") (codes "ring") (below at (vcpu_y f vcpu))

-- a command
abbrev pub step_text : List ℕ → List ℕ → Point → Op → List ℕ
step_text class words at o = sign_text (codes "square") class at ++ tilted_text words at (op_name o)

abbrev pub mark_text : Frame → Point → Mark → Option ℕ → List ℕ
mark_text f at (Sent vcpu) row = sent_text f at vcpu.0 row
mark_text f at Lost row = lost_text f at row
mark_text f at (Took vcpu) row = took_text f at vcpu.0
mark_text f at (NoneTaken vcpu) row = sign_text (codes "up") (codes "hollow") at
mark_text f at (Ran o) row = step_text (codes "step") (codes "small dim") at o
mark_text f at (Refused o) row = step_text (codes "bad") (codes "small badly") at o
mark_text f at Idle row = sign_text (codes "square") (codes "idle") at
mark_text f at Saved row = sign_text (codes "chest") (codes "save") at
mark_text f at Failed row = sign_text (codes "tick") (codes "bad") at
mark_text f at Other row = sign_text (codes "tick") (codes "tick") at

abbrev pub call_at : Shown → Point
call_at s = record { x = column_x s.column; y = thread_y s.thread }

-- a call, with its line as the title
unfoldable pub call_text : Frame → Shown → List ℕ
call_text f s = group_text (class_text s.mark) s.text ++ mark_text f (call_at s) s.mark s.row ++ codes "</g>\n"
