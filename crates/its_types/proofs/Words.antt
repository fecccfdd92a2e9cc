-- Writing one bit of a list of words.
use Rattle.std.proofs.Common.{◌≡◌, ◌≢◌, ℕ, ◌*◌, ◌/◌, ◌%◌, ◌<◌, Bool, cond, List, length, get_or, set, eqb, refl, inl, inr, arith}
use Rattle.std.proofs.lemmas.List.{get_or-set_same, get_or-set_other}
use Rattle.std.proofs.lemmas.Bool.{cases_eq, eq-eqb, ne_eqb}
use Rattle.its_types.specs.Bits.{bit_of}
use Rattle.its_types.specs.Bitmap.{word_bit}

-- the word that holds bit j is w, which has `on` there and elsewhere what it had
pub word_bit-set :
    (words : List ℕ) (j w : ℕ) (on : Bool) → j < 64 * length words → bit_of w (j % 64) ≡ on
    → ((i : ℕ) → i < 64 → i ≢ j % 64 → bit_of w i ≡ bit_of (get_or words (j / 64) 0) i)
    → (k : ℕ) → word_bit (set words (j / 64) w) k ≡ cond (eqb k j) on (word_bit words k)
word_bit-set words j w on lt same others k =
    let here : j / 64 < length words = omega arith in
    elim (cases_eq k j) [
      | inl e ↦ rw (eq-eqb k j e, e, get_or-set_same words (j / 64) w 0 here) same
      | inr ne ↦
          rw (ne_eqb k j ne)
          (elim (cases_eq (k / 64) (j / 64)) [
            | inl q ↦
                let apart : k % 64 ≢ j % 64 = omega arith in
                rw (q, get_or-set_same words (j / 64) w 0 here) (others (k % 64) (omega arith) apart)
            | inr q ↦ rw (get_or-set_other words (j / 64) (k / 64) w 0 q) refl
          ])
    ]
