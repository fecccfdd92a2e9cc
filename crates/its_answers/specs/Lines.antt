-- The lines of a script, by their first words.
use Rattle.std.specs.Prelude.{◌≡◌, ℕ, Bool, true, false, List, codes}
use Rattle.std.specs.List.{list_any}
use Rattle.std.specs.Str.{bytes_eq}
use Rattle.event_script.specs.Fields.{arg}
use Rattle.event_script.specs.Text.{parts, fields}

abbrev pub begins_with : List ℕ → List ℕ → Bool
begins_with word line = bytes_eq (arg (fields line) 0) word

-- a line of these bytes begins with the word
abbrev pub has_line : List ℕ → List ℕ → Bool
has_line word bytes = list_any (begins_with word) (parts bytes)

-- the bytes of a script have a line `gicr` and no line `rrestore`
pub record StartsOff (bytes : List ℕ) : Type 0 where
  pub programmed : has_line (codes "gicr") bytes ≡ true
  pub none_restored : has_line (codes "rrestore") bytes ≡ false
