-- What was said with a list, by what a check says.
use Rattle.std.proofs.Common.{◌≡◌, ℕ, List, Option, codes}
use Rattle.its_answers.specs.Checked.{CheckCauses, CheckSays}
use Rattle.its_answers.specs.Streams.{WasRead}
use Rattle.its_answers.specs.declared.status.Status.{Status}
use Rattle.its_answers.specs.declared.status.Status.TheVariants as status
use Rattle.its_answers.proofs.Causes.{said_causes}
use Rattle.report_places.specs.Says.{PlaceCauses, PlaceSays}

-- ---- of some bytes

pub as_checked : (input : List ℕ) (leg place : ℕ) (text : List ℕ) (s : Status) → (s ≡ status.Ok → ⊥) → CheckSays input s text
    → PlaceSays input leg place s text
as_checked input leg place text status.Ok other h = absurd (other (λ i. status.Ok))
as_checked input leg place text status.ScriptRefused other h = h
as_checked input leg place text status.WordsRefused other h = h
as_checked input leg place text status.ReadFault other h = h
as_checked input leg place text status.WriteFault other h = h
as_checked input leg place text status.Memory other h = h
as_checked input leg place text status.MachineRefused other h = h
as_checked input leg place text status.MigrationRefused other h = h
as_checked input leg place text status.Spent other h = h
as_checked input leg place text status.TooLong other h = h
as_checked input leg place text status.TraceDiffers other h = h
as_checked input leg place text status.BadTrace other h = h
as_checked input leg place text status.Undecided other h = h

-- ---- of a source

pub place_causes : (leg place : ℕ) (told : Option (List ℕ)) (rose : Type 0) (input : List ℕ) (s : Status) (text : List ℕ) → WasRead told input
    → PlaceSays input leg place s text → PlaceCauses leg place told rose s text
place_causes leg place told rose input status.Ok text was h = (input, (was, h))
place_causes leg place told rose input status.ScriptRefused text was h = said_causes told rose input status.ScriptRefused text was h
place_causes leg place told rose input status.WordsRefused text was h = said_causes told rose input status.WordsRefused text was h
place_causes leg place told rose input status.ReadFault text was h = said_causes told rose input status.ReadFault text was h
place_causes leg place told rose input status.WriteFault text was h = said_causes told rose input status.WriteFault text was h
place_causes leg place told rose input status.Memory text was h = said_causes told rose input status.Memory text was h
place_causes leg place told rose input status.MachineRefused text was h = said_causes told rose input status.MachineRefused text was h
place_causes leg place told rose input status.MigrationRefused text was h = said_causes told rose input status.MigrationRefused text was h
place_causes leg place told rose input status.Spent text was h = said_causes told rose input status.Spent text was h
place_causes leg place told rose input status.TooLong text was h = said_causes told rose input status.TooLong text was h
place_causes leg place told rose input status.TraceDiffers text was h = said_causes told rose input status.TraceDiffers text was h
place_causes leg place told rose input status.BadTrace text was h = said_causes told rose input status.BadTrace text was h
place_causes leg place told rose input status.Undecided text was h = said_causes told rose input status.Undecided text was h

-- the status is that of a check
pub place_checks : (leg place : ℕ) (told : Option (List ℕ)) (rose : Type 0) (s : Status) (text : List ℕ) → PlaceCauses leg place told rose s text
    → (line : List ℕ) × CheckCauses told rose s line
place_checks leg place told rose status.Ok text h = (codes "agrees\n", (h.0, (h.1.0, h.1.1.0)))
place_checks leg place told rose status.ScriptRefused text h = (text, h)
place_checks leg place told rose status.WordsRefused text h = (text, h)
place_checks leg place told rose status.ReadFault text h = (text, h)
place_checks leg place told rose status.WriteFault text h = (text, h)
place_checks leg place told rose status.Memory text h = (text, h)
place_checks leg place told rose status.MachineRefused text h = (text, h)
place_checks leg place told rose status.MigrationRefused text h = (text, h)
place_checks leg place told rose status.Spent text h = (text, h)
place_checks leg place told rose status.TooLong text h = (text, h)
place_checks leg place told rose status.TraceDiffers text h = (text, h)
place_checks leg place told rose status.BadTrace text h = (text, h)
place_checks leg place told rose status.Undecided text h = (text, h)
