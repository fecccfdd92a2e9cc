-- What was said with a picture, by what a check says.
use Rattle.std.proofs.Common.{◌≡◌, ℕ, List, Option, codes}
use Rattle.its_answers.specs.Checked.{CheckCauses, CheckSays}
use Rattle.its_answers.specs.Streams.{WasRead}
use Rattle.its_answers.specs.declared.status.Status.{Status}
use Rattle.its_answers.specs.declared.status.Status.TheVariants as status
use Rattle.its_answers.proofs.Causes.{said_causes}
use Rattle.its_draw.specs.Draws.{DrawCauses, DrawSays}

-- ---- of some bytes

pub as_checked : (input text : List ℕ) (s : Status) → (s ≡ status.Ok → ⊥) → CheckSays input s text → DrawSays input s text
as_checked input text status.Ok other h = absurd (other (λ i. status.Ok))
as_checked input text status.ScriptRefused other h = h
as_checked input text status.WordsRefused other h = h
as_checked input text status.ReadFault other h = h
as_checked input text status.WriteFault other h = h
as_checked input text status.Memory other h = h
as_checked input text status.MachineRefused other h = h
as_checked input text status.MigrationRefused other h = h
as_checked input text status.Spent other h = h
as_checked input text status.TooLong other h = h
as_checked input text status.TraceDiffers other h = h
as_checked input text status.BadTrace other h = h
as_checked input text status.Undecided other h = h

-- ---- of a source

pub drawn_causes : (told : Option (List ℕ)) (rose : Type 0) (input : List ℕ) (s : Status) (text : List ℕ) → WasRead told input → DrawSays input s text
    → DrawCauses told rose s text
drawn_causes told rose input status.Ok text was h = (input, (was, h))
drawn_causes told rose input status.ScriptRefused text was h = said_causes told rose input status.ScriptRefused text was h
drawn_causes told rose input status.WordsRefused text was h = said_causes told rose input status.WordsRefused text was h
drawn_causes told rose input status.ReadFault text was h = said_causes told rose input status.ReadFault text was h
drawn_causes told rose input status.WriteFault text was h = said_causes told rose input status.WriteFault text was h
drawn_causes told rose input status.Memory text was h = said_causes told rose input status.Memory text was h
drawn_causes told rose input status.MachineRefused text was h = said_causes told rose input status.MachineRefused text was h
drawn_causes told rose input status.MigrationRefused text was h = said_causes told rose input status.MigrationRefused text was h
drawn_causes told rose input status.Spent text was h = said_causes told rose input status.Spent text was h
drawn_causes told rose input status.TooLong text was h = said_causes told rose input status.TooLong text was h
drawn_causes told rose input status.TraceDiffers text was h = said_causes told rose input status.TraceDiffers text was h
drawn_causes told rose input status.BadTrace text was h = said_causes told rose input status.BadTrace text was h
drawn_causes told rose input status.Undecided text was h = said_causes told rose input status.Undecided text was h

-- the status is that of a check
pub drawn_checks : (told : Option (List ℕ)) (rose : Type 0) (s : Status) (text : List ℕ) → DrawCauses told rose s text
    → (line : List ℕ) × CheckCauses told rose s line
drawn_checks told rose status.Ok text h = (codes "agrees\n", (h.0, (h.1.0, h.1.1.0)))
drawn_checks told rose status.ScriptRefused text h = (text, h)
drawn_checks told rose status.WordsRefused text h = (text, h)
drawn_checks told rose status.ReadFault text h = (text, h)
drawn_checks told rose status.WriteFault text h = (text, h)
drawn_checks told rose status.Memory text h = (text, h)
drawn_checks told rose status.MachineRefused text h = (text, h)
drawn_checks told rose status.MigrationRefused text h = (text, h)
drawn_checks told rose status.Spent text h = (text, h)
drawn_checks told rose status.TooLong text h = (text, h)
drawn_checks told rose status.TraceDiffers text h = (text, h)
drawn_checks told rose status.BadTrace text h = (text, h)
drawn_checks told rose status.Undecided text h = (text, h)
