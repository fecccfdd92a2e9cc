-- Where messages go, by the maps and by whether LPIs are on.
use Rattle.std.proofs.Common.{◌≡◌, ℕ, ◌<◌, Bool, true, false, length, Ok, Err, Result, inl, inr, refl, ap, ◌∙◌, subst}
use Rattle.std.proofs.lemmas.Bool.{cases_lt, both_ways}
use Rattle.std.proofs.lemmas.List.{get_or_past}
use Rattle.its_types.specs.declared.ids.Target.{Target}
use Rattle.its_plain.specs.Plain.{Plain, Redistributor, translator, no_redistributor, is_on}
use Rattle.its_plain.specs.Translation.{◌>>=◌, ensure, located, translated}
use Rattle.its_plain.specs.declared.call.Cause.{Cause}
use Rattle.its_plain.specs.declared.call.Cause.TheVariants.{LpisOff}

-- the target, if its LPIs are on
abbrev pub reached : Result Target Cause → (Target → Bool) → Result Target Cause
reached found on = found >>= λ target. ensure (on target) LpisOff >>= λ _. Ok target

reached_is : (found : Result Target Cause) (on : Target → Bool) (t : Target) → reached found on ≡ Ok t → (found ≡ Ok t) × (on t ≡ true)
reached_is (Err cause) on t e = absurd cc
reached_is (Ok x) on t e = let both = at (on x) refl e in (ap (λ (y : Target). (let r : Result Target Cause = Ok y in r)) both.0, both.1)
  where
    at : (b : Bool) → on x ≡ b → (ensure b LpisOff >>= λ _. Ok x) ≡ Ok t → (x ≡ t) × (on t ≡ true)
    at true is e = let same : x ≡ t = cc in (same, subst (λ (y : Target). on y ≡ true) same is)
    at false is e = absurd cc

reached_from : (found : Result Target Cause) (on : Target → Bool) (t : Target) → found ≡ Ok t → on t ≡ true → reached found on ≡ Ok t
reached_from found on t e is = ap (λ (r : Result Target Cause). reached r on) e ∙ ap (λ (b : Bool). ensure b LpisOff >>= λ _. Ok t) is

pub translated_is : (u : Plain) (i dev ev : ℕ) (t : Target) → translated u i dev ev ≡ Ok t → (located (translator u i) dev ev ≡ Ok t)
    × (is_on u t.vcpu.0 ≡ true)
unfolding translated
translated_is u i dev ev t e = reached_is (located (translator u i) dev ev) (λ x. is_on u x.vcpu.0) t e

pub translated_from : (u : Plain) (i dev ev : ℕ) (t : Target) → located (translator u i) dev ev ≡ Ok t → is_on u t.vcpu.0 ≡ true → translated u i dev ev ≡ Ok t
unfolding translated
translated_from u i dev ev t e is = reached_from (located (translator u i) dev ev) (λ x. is_on u x.vcpu.0) t e is

-- LPIs are on at redistributors of the machine alone
pub on_within : (u : Plain) (v : ℕ) → is_on u v ≡ true → v < length u.redistributors
on_within u v on =
    elim (cases_lt v (length u.redistributors)) [
      | inl within ↦ within
      | inr past ↦ let none = ap (λ (r : Redistributor). r.accepts) (get_or_past u.redistributors v no_redistributor past) in absurd
          (both_ways (is_on u v) none on)
    ]
