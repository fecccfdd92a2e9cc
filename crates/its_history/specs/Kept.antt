-- The bytes of a text, wherever they lie.
use Rattle.std.specs.Prelude.{List, ℕ}
use Rattle.std.specs.String.{string_bytes}
use Rattle.its_history.specs.declared.text.Kept.{Kept}
use Rattle.its_history.specs.declared.text.Kept.TheVariants.{Short, Long}

abbrev pub bytes_of : Kept → List ℕ
bytes_of (Short text) = text
bytes_of (Long text) = string_bytes text
