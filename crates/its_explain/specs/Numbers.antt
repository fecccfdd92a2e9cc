-- Numbers in a sentence, and the lines that it names.
use Rattle.std.specs.Prelude.{ℕ, false, ◌==◌, if◌then◌else◌, List, [], ◌++◌, codes, Option, Some, None}
use Rattle.std.specs.Fmt.{decimal, digits}

-- words, and a number after them
unfoldable pub numbered : List ℕ → ℕ → List ℕ
numbered words n = words ++ decimal n

unfoldable pub in_hexadecimal : List ℕ → ℕ → List ℕ
in_hexadecimal words n = words ++ codes "0x" ++ digits 16 false n

-- words, a number and words
unfoldable pub enclosed : List ℕ → ℕ → List ℕ → List ℕ
enclosed before n after = numbered before n ++ after

-- the line whose command mapped something; where no line did, it was read from tables
unfoldable pub by_line : Option ℕ → List ℕ
by_line (Some line) = numbered (codes " by line ") line
by_line None = codes " by the tables"

-- the line whose command unmapped something, if one did
unfoldable pub since_line : Option ℕ → List ℕ
since_line (Some line) = numbered (codes " since line ") line
since_line None = []

abbrev pub plural : ℕ → List ℕ
plural n = if n == 1 then [] else codes "s"

-- a count and its noun
unfoldable pub counted : ℕ → List ℕ → List ℕ
counted n noun = decimal n ++ codes " " ++ noun ++ plural n
