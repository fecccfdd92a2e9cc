-- Stretches of guest memory as they are told.
use Rattle.std.specs.Prelude.{ℕ, Bool, ◌&&◌, ◌==◌, List, length, map}
use Rattle.its_plain.specs.Plain.{Plain}
use Rattle.its_plain.specs.Saved.{words_of}
use Rattle.its_numbers.specs.Lists.{stretch_out}
use Rattle.its_numbers.specs.Translators.{has_translator}
use Rattle.its_numbers.specs.declared.lists.StretchOut.{StretchOut}
use Rattle.step_views.specs.Reads.{reads, reads_by}
use Rattle.table_save.specs.Stretches.{stretches_of}

-- what the next step of a translator reads
abbrev pub needed : Plain → ℕ → List StretchOut
needed u its = map stretch_out (reads u its)

-- what it reads where its command's bytes are these
abbrev pub needed_by : Plain → ℕ → List ℕ → List StretchOut
needed_by u its command = map stretch_out (reads_by u its command)

-- there is such a translator, and a command has 32 bytes
abbrev pub has_command : Plain → ℕ → List ℕ → Bool
has_command u its bytes = has_translator u its && length bytes == 32

-- the tables that a save writes
abbrev pub written_tables : Plain → List StretchOut
written_tables u = map stretch_out (stretches_of (words_of u))
