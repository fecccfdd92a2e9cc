-- The text of a picture.
use Rattle.std.specs.Prelude.{ℕ, zero, suc, List, [], ◌++◌, codes}
use Rattle.std.specs.Fmt.{decimal}
use Rattle.std.specs.List.{flat_map}
use Rattle.its_draw.specs.Calls.{call_text}
use Rattle.its_draw.specs.Places.{width, height}
use Rattle.its_draw.specs.Rest.{thread_text, vcpu_text, row_name, wall_text, bar_text, move_text, pending_text}
use Rattle.its_draw.specs.declared.drawing.Drawing.{Drawing}
use Rattle.its_draw.specs.declared.places.Frame.{Frame}
use Rattle.its_draw.specs.declared.style.TheConstants.{STYLE}

unfoldable pub size_text : ℕ → ℕ → List ℕ
size_text w h = codes " width='" ++ decimal w ++ codes "' height='" ++ decimal h ++ codes "'"

unfoldable pub across_text : ℕ → List ℕ
across_text w = codes " viewBox='0 0 " ++ decimal w ++ codes " "

unfoldable pub down_text : ℕ → List ℕ
down_text h = decimal h ++ codes "'>\n"

unfoldable pub box_text : ℕ → ℕ → List ℕ
box_text w h = across_text w ++ down_text h

unfoldable pub name_text : List ℕ
name_text = codes "<svg xmlns='http://www.w3.org/2000/svg'"

unfoldable pub style_text : List ℕ
style_text = STYLE.now

unfoldable pub open_text : ℕ → ℕ → List ℕ
open_text w h = name_text ++ size_text w h ++ box_text w h

unfoldable pub head_text : Frame → List ℕ
head_text f = open_text (width f) (height f) ++ style_text

-- the lanes of the first n threads, counted from 1
abbrev pub threads_text : Frame → ℕ → List ℕ
threads_text f zero = []
threads_text f (suc n) = threads_text f n ++ thread_text f (suc n)

-- the lanes of the first n virtual processors
abbrev pub vcpus_text : Frame → ℕ → List ℕ
vcpus_text f zero = []
vcpus_text f (suc n) = vcpus_text f n ++ vcpu_text f n

abbrev pub lanes_text : Frame → List ℕ
lanes_text f = threads_text f f.threads ++ vcpus_text f f.lanes

unfoldable pub svg_text : Drawing → List ℕ
svg_text d =
    head_text d.frame ++ lanes_text d.frame ++ flat_map (row_name d.frame) d.rows ++ flat_map (wall_text d.frame) d.walls
    ++ flat_map (bar_text d.frame) d.bars ++ flat_map (move_text d.frame) d.moves ++ flat_map (call_text d.frame) d.calls
    ++ flat_map (pending_text d.frame) d.pending ++ codes "</svg>\n"
