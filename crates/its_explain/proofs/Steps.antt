-- One more question, and one more slot.
use Rattle.std.proofs.Common.{◌≡◌, ◌≤◌, ◌+◌, ℕ, Bool, true, false, ◌&&◌, ◌||◌, ◌==◌, if◌then◌else◌, refl, ◌∙◌, List, [], ◌∷◌, length, Option, arith}
use Rattle.its_plain.specs.declared.desc.Fill.{Fill}
use Rattle.std.proofs.lemmas.Bool.Decides.{nat_tests}
use Rattle.std.proofs.lemmas.Grind.{common_steps}
use Rattle.its_explain.specs.Book.{lies_in, line_after}

pub one_more : {X : Type 0} (same any one : Bool) (line first old new : X) → old ≡ (if same && any then line else first)
    → new ≡ (if same && one then line else old) → new ≡ (if same && (any || one) then line else first)
one_more false any one line first old new was is = is ∙ was
one_more true true true line first old new was is = is
one_more true true false line first old new was is = is ∙ was
one_more true false true line first old new was is = is
one_more true false false line first old new was is = is ∙ was

pub one_slot_more : {X : Type 0} (from slot q : ℕ) (line first old new : X) → from ≤ slot
    → old ≡ (if lies_in from q slot then line else first) → new ≡ (if slot == q then line else old)
    → new ≡ (if lies_in from q (slot + 1) then line else first)
one_slot_more from slot q line first old new le was is = grind (arith, nat_tests)

pub no_slot : {X : Type 0} (from q : ℕ) (line first : X) → first ≡ (if lies_in from q from then line else first)
no_slot from q line first = grind (arith, nat_tests)

-- no fill is left, or no line
pub no_fills : (last : Option ℕ) (fs : List Fill) (ls : List ℕ) (a : ℕ) → length fs ≡ 0 → line_after last fs ls a ≡ last
no_fills last [] ls a e = refl
no_fills last (f ∷ fs) ls a e = grind (arith, common_steps)

pub no_lines : (last : Option ℕ) (fs : List Fill) (ls : List ℕ) (a : ℕ) → length ls ≡ 0 → line_after last fs ls a ≡ last
no_lines last [] ls a e = refl
no_lines last (f ∷ fs) [] a e = refl
no_lines last (f ∷ fs) (l ∷ ls) a e = grind (arith, common_steps)
