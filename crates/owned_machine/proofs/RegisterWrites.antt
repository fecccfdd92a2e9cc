-- What a write of a translator's registers leaves.
use Rattle.std.proofs.Common.{◌≡◌, ℕ, List, Option, Some, None, refl, sym}
use Rattle.std.proofs.Common.{ap}
use Rattle.std.proofs.Common.{subst, ◌∙◌}
use Rattle.std.specs.Prelude.{slice_index_or, slice_get, slice_set}
use Rattle.gits_regs.specs.Registers.{write_reg}
use Rattle.its_types.specs.declared.machine.Shape.{Shape}
use Rattle.its_plain.specs.Plain.{Translator, no_translator, translator}
use Rattle.its_plain.specs.Answer.{left}
use Rattle.its_plain.specs.Answer.{written, translator_written}
use Rattle.its_plain.specs.declared.call.Call.TheVariants as call
use Rattle.owned_parts.specs.declared.parts.Parts.{Parts}
use Rattle.owned_parts.specs.Owned.{state_of_parts}
use Rattle.owned_machine.specs.Whole.{IsMachine, GoesOn}
use Rattle.owned_machine.proofs.Lists.{first_there, first_set, found_at, not_set}
use Rattle.owned_machine.proofs.Kept.{redists_are, same_redists, same_held, goes_on, stays}
use Rattle.std.specs.Option.{option_map}
use Rattle.owned_parts.specs.Owned.{one_or_two, translator_of, translators_of}
use Rattle.owned_parts.specs.declared.parts.Translator.{Translator as TranslatorInHand}

abbrev after_write : Shape → ℕ → ℕ → ℕ → Translator → Translator
after_write shape off size value t = translator_written shape t (write_reg t.regs off size value)

pub first_written : (p : Parts) (its off size value : ℕ) (t : TranslatorInHand) → IsMachine p → its ≡ 0
    → translator_of t ≡ translator_written p.layout.shape (translator_of p.first) (write_reg p.first.regs off size value)
    → GoesOn (record p { first = t }) (written (state_of_parts p) its off size value)
unfolding left written
first_written p its off size value t m first is =
    let u = state_of_parts p in
    let f = translator_of p.first in
    let o = option_map translator_of p.second in
    let g : Translator → Translator = after_write p.layout.shape off size value in
    let here : slice_index_or u.translators 0 no_translator ≡ f = found_at u.translators 0 f no_translator (first_there f o) in
    let all : one_or_two (translator_of t) o ≡ slice_set u.translators 0 (g (translator u 0)) =
    ap (λ (x : Translator). one_or_two x o) is ∙ sym (first_set f (g f) o) ∙ ap (λ (x : Translator). slice_set u.translators 0 (g x)) (sym here) in
    subst (λ (i : ℕ). GoesOn (record p { first = t }) (written u i off size value)) (sym first)
    (goes_on p (record p { first = t }) (call.WriteReg 0 off size value) (written u 0 off size value) m refl refl (same_held p.redists) all refl
    refl (same_redists u (written u 0 off size value) p.redists refl refl (redists_are p m)))

pub second_written : (p : Parts) (its off size value : ℕ) (s t : TranslatorInHand) → IsMachine p → its ≡ 1 → p.second ≡ Some s
    → translator_of t ≡ translator_written p.layout.shape (translator_of s) (write_reg s.regs off size value)
    → GoesOn (record p { second = Some t }) (written (state_of_parts p) its off size value)
unfolding left written
second_written p its off size value s t m second there is =
    let u = state_of_parts p in
    let f = translator_of p.first in
    let g : Translator → Translator = after_write p.layout.shape off size value in
    let two : u.translators ≡ one_or_two f (Some (translator_of s)) = ap (λ (o : Option TranslatorInHand). translators_of p.first o) there in
    let here : translator u 1 ≡ translator_of s = ap (λ (ts : List Translator). slice_index_or ts 1 no_translator) two in
    let all : one_or_two f (Some (translator_of t)) ≡ slice_set u.translators 1 (g (translator u 1)) =
    ap (λ (x : Translator). one_or_two f (Some x)) is ∙ ap (λ (x : Translator). slice_set (one_or_two f (Some (translator_of s))) 1 (g x)) (sym here)
    ∙ ap (λ (ts : List Translator). slice_set ts 1 (g (translator u 1))) (sym two) in
    subst (λ (i : ℕ). GoesOn (record p { second = Some t }) (written u i off size value)) (sym second)
    (goes_on p (record p { second = Some t }) (call.WriteReg 1 off size value) (written u 1 off size value) m refl refl (same_held p.redists) all
    refl refl (same_redists u (written u 1 off size value) p.redists refl refl (redists_are p m)))

pub none_written : (p : Parts) (its off size value : ℕ) → IsMachine p → slice_get (state_of_parts p).translators its ≡ None
    → GoesOn p (written (state_of_parts p) its off size value)
unfolding written
none_written p its off size value m none =
    let u = state_of_parts p in
    stays p (written u its off size value) m
    (ap (λ (ts : List Translator). record u { translators = ts })
    (sym (not_set u.translators its (after_write u.layout.shape off size value (translator u its)) none)))
