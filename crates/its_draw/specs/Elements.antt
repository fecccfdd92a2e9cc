-- The texts of a picture's elements.
use Rattle.std.specs.Prelude.{ℕ, List, ◌++◌, codes}
use Rattle.std.specs.Fmt.{decimal}
use Rattle.its_draw.specs.declared.places.Point.{Point}

-- ---- their parts

unfoldable pub at_text : Point → List ℕ
at_text at = codes " x='" ++ decimal at.x ++ codes "' y='" ++ decimal at.y ++ codes "'"

unfoldable pub start_text : Point → List ℕ
start_text at = codes " x1='" ++ decimal at.x ++ codes "' y1='" ++ decimal at.y ++ codes "'"

unfoldable pub goal_text : Point → List ℕ
goal_text at = codes " x2='" ++ decimal at.x ++ codes "' y2='" ++ decimal at.y ++ codes "'"

unfoldable pub ends_text : Point → Point → List ℕ
ends_text from to = start_text from ++ goal_text to

-- the beginning of an element of a class
unfoldable pub begin_text : List ℕ → List ℕ → List ℕ
begin_text element class = codes "<" ++ element ++ codes " class='" ++ class ++ codes "'"

unfoldable pub name_text : List ℕ → List ℕ
name_text sign = codes " href='#" ++ sign ++ codes "'/>\n"

unfoldable pub inside_text : List ℕ → List ℕ
inside_text words = codes ">" ++ words ++ codes "</text>\n"

-- what moves words to the right, down, and turns them
unfoldable pub right_text : ℕ → List ℕ
right_text x = codes " transform='translate(" ++ decimal x ++ codes ","

unfoldable pub down_text : ℕ → List ℕ
down_text y = decimal y ++ codes ") rotate(-38)'"

unfoldable pub turn_text : Point → List ℕ
turn_text at = right_text at.x ++ down_text at.y

unfoldable pub count_text : List ℕ → ℕ → List ℕ
count_text word number = codes ">" ++ word ++ codes " " ++ decimal number ++ codes "</text>\n"

unfoldable pub key_text : List ℕ → ℕ → ℕ → List ℕ
key_text its dev ev = codes ">" ++ its ++ codes "dev " ++ decimal dev ++ codes " ev " ++ decimal ev ++ codes "</text>\n"

unfoldable pub size_text : ℕ → List ℕ
size_text width = codes " width='" ++ decimal width ++ codes "' height='10' rx='3'/>\n"

-- ---- elements

unfoldable pub line_text : List ℕ → Point → Point → List ℕ
line_text class from to = begin_text (codes "line") class ++ ends_text from to ++ codes "/>\n"

-- a sign, by its name
unfoldable pub sign_text : List ℕ → List ℕ → Point → List ℕ
sign_text sign class at = begin_text (codes "use") class ++ at_text at ++ name_text sign

unfoldable pub words_text : List ℕ → Point → List ℕ → List ℕ
words_text class at words = begin_text (codes "text") class ++ at_text at ++ inside_text words

-- words that rise to the right
unfoldable pub tilted_text : List ℕ → Point → List ℕ → List ℕ
tilted_text class at words = begin_text (codes "text") class ++ turn_text at ++ inside_text words

-- a word with a number
unfoldable pub numbered_text : List ℕ → Point → List ℕ → ℕ → List ℕ
numbered_text class at word number = begin_text (codes "text") class ++ at_text at ++ count_text word number

-- the name of an event
unfoldable pub event_text : Point → List ℕ → ℕ → ℕ → List ℕ
event_text at its dev ev = begin_text (codes "text") (codes "name") ++ at_text at ++ key_text its dev ev

-- the bar of an event
unfoldable pub rect_text : Point → ℕ → List ℕ
rect_text from width = begin_text (codes "rect") (codes "bar") ++ at_text from ++ size_text width

-- a group of elements begins, that have one title
unfoldable pub group_text : List ℕ → List ℕ → List ℕ
group_text class title = codes "<g class='" ++ class ++ codes "'><title>" ++ title ++ codes "</title>\n"
