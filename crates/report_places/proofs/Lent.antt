-- A translator that a machine's parts lend by its number, in the state that they stand for.
use Rattle.std.proofs.Common.{◌≡◌, ℕ, Option, Some, None, sym, ap, ◌∙◌}
use Rattle.std.specs.Option.{option_map}
use Rattle.std.specs.Prelude.{slice_get}
use Rattle.its_plain.specs.Plain.{Plain, no_translator, translator}
use Rattle.owned_machine.proofs.Lists.{found_at, not_found}
use Rattle.owned_parts.specs.Owned.{state_of_parts, state_in_place, translator_at}
use Rattle.owned_parts.specs.declared.in_place.InPlace.{InPlace}
use Rattle.owned_parts.specs.declared.in_place.TranslatorRef.{TranslatorRef}
use Rattle.owned_parts.specs.declared.parts.Parts.{Parts}

module _ (p : Parts) (i : InPlace) (its : ℕ) (r : Option TranslatorRef) (state : state_in_place i ≡ state_of_parts p)
    (found : option_map translator_at r ≡ slice_get (state_in_place i).translators its) where
  -- the state has it at that number
  pub lent_number : (t : TranslatorRef) → r ≡ Some t → slice_get (state_of_parts p).translators its ≡ Some (translator_at t)
  lent_number t is = ap (λ (u : Plain). slice_get u.translators its) (sym state) ∙ sym found ∙ ap (option_map translator_at) is

  -- the state has none there
  pub lent_none : r ≡ None → slice_get (state_of_parts p).translators its ≡ None
  lent_none is = ap (λ (u : Plain). slice_get u.translators its) (sym state) ∙ sym found ∙ ap (option_map translator_at) is

  pub lent_is : (t : TranslatorRef) → r ≡ Some t → translator (state_of_parts p) its ≡ translator_at t
  lent_is t is = found_at (state_of_parts p).translators its (translator_at t) no_translator (lent_number t is)

  pub lent_is_none : r ≡ None → translator (state_of_parts p) its ≡ no_translator
  lent_is_none is = not_found (state_of_parts p).translators its no_translator (lent_none is)
