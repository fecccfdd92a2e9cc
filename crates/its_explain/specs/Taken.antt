-- The line of the command that a step took, in words.
use Rattle.std.specs.Prelude.{ℕ, List, ◌++◌, codes, Option, Some, None}
use Rattle.its_explain.specs.Book.{writer}
use Rattle.its_explain.specs.Numbers.{numbered, in_hexadecimal}
use Rattle.its_explain.specs.declared.book.Book.{Book}

-- one that had its effect, by the line that wrote it, if one did
unfoldable pub ran_by : Option ℕ → ℕ → List ℕ
ran_by (Some line) addr = numbered (codes "by line ") line ++ codes " "
ran_by None addr = in_hexadecimal (codes "by the command at ") addr ++ codes " "

-- and one that was refused
unfoldable pub refused_by : Option ℕ → ℕ → List ℕ
refused_by (Some line) addr = numbered (codes "not done, of line ") line ++ codes ": "
refused_by None addr = in_hexadecimal (codes "not done, of ") addr ++ codes ", which no line wrote: "

abbrev pub ran_text : Book → ℕ → List ℕ
ran_text b addr = ran_by (writer b addr) addr

abbrev pub refused_text : Book → ℕ → List ℕ
refused_text b addr = refused_by (writer b addr) addr
