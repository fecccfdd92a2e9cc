-- A translator of a machine, where it stands.
use Rattle.std.specs.Prelude.{◌≡◌, ℕ, Some, slice_get}
use Rattle.owned_parts.specs.Owned.{state_of_parts, translator_at}
use Rattle.owned_parts.specs.declared.in_place.TranslatorRef.{TranslatorRef}
use Rattle.owned_parts.specs.declared.parts.Parts.{Parts}

-- it is translator number i
abbrev pub IsNumber : Parts → TranslatorRef → ℕ → Type 0
IsNumber p t i = slice_get (state_of_parts p).translators i ≡ Some (translator_at t)

abbrev pub IsTranslatorOf : Parts → TranslatorRef → Type 0
IsTranslatorOf p t = (i : ℕ) × IsNumber p t i
