-- The translators of a machine by their numbers.
use Rattle.std.specs.Prelude.{ℕ, Bool, nat_lt, if◌then◌else◌, length, Option, Some, None}
use Rattle.its_plain.specs.Plain.{Plain}

-- whether there is a translator of this number
abbrev pub has_translator : Plain → ℕ → Bool
has_translator u its = nat_lt its (length u.translators)

-- a number, where there is a translator of it
abbrev pub translator_in : Plain → ℕ → Option ℕ
translator_in u its = if has_translator u its then Some its else None
