-- The bytes of a word of a pending table, and their bits.
use Rattle.std.proofs.Common.{◌≡◌, ℕ, zero, suc, ◌+◌, ◌*◌, ◌/◌, ◌%◌, ◌^◌, ◌<◌, ◌≤◌, Bool, true, false, eqb, List, [], ◌∷◌}
use Rattle.std.proofs.Common.{refl, ap, ◌∙◌, arith}
use Rattle.std.specs.Prelude.{slice_index}
use Rattle.byteorder.specs.Endian.{little_number, little_bytes}
use Rattle.its_types.specs.Bits.{bit, bit_of, field}
use Rattle.its_types.specs.Lpis.{is_pending, pending_bit, pending_byte}
use Rattle.its_plain.specs.Saved.{pending_word}
use Rattle.saved_state.proofs.Small.{byte_most}

-- ---- the bytes of a pending word

module _ (a b c d e f g h : ℕ) (pa : a < 256) (pb : b < 256) (pc : c < 256) (pd : d < 256) (pe : e < 256) (pf : f < 256) (pg : g < 256) (ph : h < 256) where
  at_0 : little_number 8 (a ∷ b ∷ c ∷ d ∷ e ∷ f ∷ g ∷ h ∷ []) % 256 ≡ a
  at_0 = omega arith

  at_1 : little_number 8 (a ∷ b ∷ c ∷ d ∷ e ∷ f ∷ g ∷ h ∷ []) / 256 ^ 1 % 256 ≡ b
  at_1 = omega arith

  at_2 : little_number 8 (a ∷ b ∷ c ∷ d ∷ e ∷ f ∷ g ∷ h ∷ []) / 256 ^ 2 % 256 ≡ c
  at_2 = omega arith

  at_3 : little_number 8 (a ∷ b ∷ c ∷ d ∷ e ∷ f ∷ g ∷ h ∷ []) / 256 ^ 3 % 256 ≡ d
  at_3 = omega arith

  at_4 : little_number 8 (a ∷ b ∷ c ∷ d ∷ e ∷ f ∷ g ∷ h ∷ []) / 256 ^ 4 % 256 ≡ e
  at_4 = omega arith

  at_5 : little_number 8 (a ∷ b ∷ c ∷ d ∷ e ∷ f ∷ g ∷ h ∷ []) / 256 ^ 5 % 256 ≡ f
  at_5 = omega arith

  at_6 : little_number 8 (a ∷ b ∷ c ∷ d ∷ e ∷ f ∷ g ∷ h ∷ []) / 256 ^ 6 % 256 ≡ g
  at_6 = omega arith

  at_7 : little_number 8 (a ∷ b ∷ c ∷ d ∷ e ∷ f ∷ g ∷ h ∷ []) / 256 ^ 7 % 256 ≡ h
  at_7 = omega arith

  pub same_bytes : little_bytes 8 (little_number 8 (a ∷ b ∷ c ∷ d ∷ e ∷ f ∷ g ∷ h ∷ [])) ≡ a ∷ b ∷ c ∷ d ∷ e ∷ f ∷ g ∷ h ∷ []
  same_bytes i = at_0 i ∷ at_1 i ∷ at_2 i ∷ at_3 i ∷ at_4 i ∷ at_5 i ∷ at_6 i ∷ at_7 i ∷ []

-- ---- the bits of a pending byte

bit_back : (b : Bool) → eqb (bit b) 1 ≡ b
bit_back true = refl
bit_back false = refl

bit_most : (b : Bool) → bit b ≤ 1
bit_most true = omega arith
bit_most false = omega arith

module _ (a b c d e f g h : ℕ) (pa : a ≤ 1) (pb : b ≤ 1) (pc : c ≤ 1) (pd : d ≤ 1) (pe : e ≤ 1) (pf : f ≤ 1) (pg : g ≤ 1) (ph : h ≤ 1) where
  bit_0 : field (a + 2 * b + 4 * c + 8 * d + 16 * e + 32 * f + 64 * g + 128 * h) 0 1 ≡ a
  bit_0 = omega arith

  bit_1 : field (a + 2 * b + 4 * c + 8 * d + 16 * e + 32 * f + 64 * g + 128 * h) 1 1 ≡ b
  bit_1 = omega arith

  bit_2 : field (a + 2 * b + 4 * c + 8 * d + 16 * e + 32 * f + 64 * g + 128 * h) 2 1 ≡ c
  bit_2 = omega arith

  bit_3 : field (a + 2 * b + 4 * c + 8 * d + 16 * e + 32 * f + 64 * g + 128 * h) 3 1 ≡ d
  bit_3 = omega arith

  bit_4 : field (a + 2 * b + 4 * c + 8 * d + 16 * e + 32 * f + 64 * g + 128 * h) 4 1 ≡ e
  bit_4 = omega arith

  bit_5 : field (a + 2 * b + 4 * c + 8 * d + 16 * e + 32 * f + 64 * g + 128 * h) 5 1 ≡ f
  bit_5 = omega arith

  bit_6 : field (a + 2 * b + 4 * c + 8 * d + 16 * e + 32 * f + 64 * g + 128 * h) 6 1 ≡ g
  bit_6 = omega arith

  bit_7 : field (a + 2 * b + 4 * c + 8 * d + 16 * e + 32 * f + 64 * g + 128 * h) 7 1 ≡ h
  bit_7 = omega arith

pub byte_bit : (p : List ℕ) (n k : ℕ) → k < 8 → bit_of (pending_byte n p) k ≡ is_pending (8 * n + k) p
byte_bit p n zero lt = ap (λ x. eqb x 1) (bit_0 (pending_bit (8 * n) p) (pending_bit (8 * n + 1) p) (pending_bit (8 * n + 2) p) (pending_bit (8 * n + 3) p)
    (pending_bit (8 * n + 4) p) (pending_bit (8 * n + 5) p) (pending_bit (8 * n + 6) p) (pending_bit (8 * n + 7) p) (bit_most (is_pending (8 * n) p))
    (bit_most (is_pending (8 * n + 1) p)) (bit_most (is_pending (8 * n + 2) p)) (bit_most (is_pending (8 * n + 3) p)) (bit_most (is_pending (8 * n + 4) p))
    (bit_most (is_pending (8 * n + 5) p)) (bit_most (is_pending (8 * n + 6) p)) (bit_most (is_pending (8 * n + 7) p))) ∙ bit_back (is_pending (8 * n) p)
    ∙ ap (λ y. is_pending y p) (let e : 8 * n ≡ 8 * n + 0 = omega arith in e)
byte_bit p n (suc zero) lt = ap (λ x. eqb x 1) (bit_1 (pending_bit (8 * n) p) (pending_bit (8 * n + 1) p) (pending_bit (8 * n + 2) p)
    (pending_bit (8 * n + 3) p) (pending_bit (8 * n + 4) p) (pending_bit (8 * n + 5) p) (pending_bit (8 * n + 6) p) (pending_bit (8 * n + 7) p)
    (bit_most (is_pending (8 * n) p)) (bit_most (is_pending (8 * n + 1) p)) (bit_most (is_pending (8 * n + 2) p)) (bit_most (is_pending (8 * n + 3) p))
    (bit_most (is_pending (8 * n + 4) p)) (bit_most (is_pending (8 * n + 5) p)) (bit_most (is_pending (8 * n + 6) p)) (bit_most (is_pending (8 * n + 7) p)))
    ∙ bit_back (is_pending (8 * n + 1) p)
byte_bit p n (suc (suc zero)) lt = ap (λ x. eqb x 1) (bit_2 (pending_bit (8 * n) p) (pending_bit (8 * n + 1) p) (pending_bit (8 * n + 2) p)
    (pending_bit (8 * n + 3) p) (pending_bit (8 * n + 4) p) (pending_bit (8 * n + 5) p) (pending_bit (8 * n + 6) p) (pending_bit (8 * n + 7) p)
    (bit_most (is_pending (8 * n) p)) (bit_most (is_pending (8 * n + 1) p)) (bit_most (is_pending (8 * n + 2) p)) (bit_most (is_pending (8 * n + 3) p))
    (bit_most (is_pending (8 * n + 4) p)) (bit_most (is_pending (8 * n + 5) p)) (bit_most (is_pending (8 * n + 6) p)) (bit_most (is_pending (8 * n + 7) p)))
    ∙ bit_back (is_pending (8 * n + 2) p)
byte_bit p n (suc (suc (suc zero))) lt = ap (λ x. eqb x 1) (bit_3 (pending_bit (8 * n) p) (pending_bit (8 * n + 1) p) (pending_bit (8 * n + 2) p)
    (pending_bit (8 * n + 3) p) (pending_bit (8 * n + 4) p) (pending_bit (8 * n + 5) p) (pending_bit (8 * n + 6) p) (pending_bit (8 * n + 7) p)
    (bit_most (is_pending (8 * n) p)) (bit_most (is_pending (8 * n + 1) p)) (bit_most (is_pending (8 * n + 2) p)) (bit_most (is_pending (8 * n + 3) p))
    (bit_most (is_pending (8 * n + 4) p)) (bit_most (is_pending (8 * n + 5) p)) (bit_most (is_pending (8 * n + 6) p)) (bit_most (is_pending (8 * n + 7) p)))
    ∙ bit_back (is_pending (8 * n + 3) p)
byte_bit p n (suc (suc (suc (suc zero)))) lt = ap (λ x. eqb x 1) (bit_4 (pending_bit (8 * n) p) (pending_bit (8 * n + 1) p) (pending_bit (8 * n + 2) p)
    (pending_bit (8 * n + 3) p) (pending_bit (8 * n + 4) p) (pending_bit (8 * n + 5) p) (pending_bit (8 * n + 6) p) (pending_bit (8 * n + 7) p)
    (bit_most (is_pending (8 * n) p)) (bit_most (is_pending (8 * n + 1) p)) (bit_most (is_pending (8 * n + 2) p)) (bit_most (is_pending (8 * n + 3) p))
    (bit_most (is_pending (8 * n + 4) p)) (bit_most (is_pending (8 * n + 5) p)) (bit_most (is_pending (8 * n + 6) p)) (bit_most (is_pending (8 * n + 7) p)))
    ∙ bit_back (is_pending (8 * n + 4) p)
byte_bit p n (suc (suc (suc (suc (suc zero))))) lt = ap (λ x. eqb x 1) (bit_5 (pending_bit (8 * n) p) (pending_bit (8 * n + 1) p) (pending_bit (8 * n + 2) p)
    (pending_bit (8 * n + 3) p) (pending_bit (8 * n + 4) p) (pending_bit (8 * n + 5) p) (pending_bit (8 * n + 6) p) (pending_bit (8 * n + 7) p)
    (bit_most (is_pending (8 * n) p)) (bit_most (is_pending (8 * n + 1) p)) (bit_most (is_pending (8 * n + 2) p)) (bit_most (is_pending (8 * n + 3) p))
    (bit_most (is_pending (8 * n + 4) p)) (bit_most (is_pending (8 * n + 5) p)) (bit_most (is_pending (8 * n + 6) p)) (bit_most (is_pending (8 * n + 7) p)))
    ∙ bit_back (is_pending (8 * n + 5) p)
byte_bit p n (suc (suc (suc (suc (suc (suc zero)))))) lt = ap (λ x. eqb x 1) (bit_6 (pending_bit (8 * n) p) (pending_bit (8 * n + 1) p)
    (pending_bit (8 * n + 2) p) (pending_bit (8 * n + 3) p) (pending_bit (8 * n + 4) p) (pending_bit (8 * n + 5) p) (pending_bit (8 * n + 6) p)
    (pending_bit (8 * n + 7) p) (bit_most (is_pending (8 * n) p)) (bit_most (is_pending (8 * n + 1) p)) (bit_most (is_pending (8 * n + 2) p))
    (bit_most (is_pending (8 * n + 3) p)) (bit_most (is_pending (8 * n + 4) p)) (bit_most (is_pending (8 * n + 5) p)) (bit_most (is_pending (8 * n + 6) p))
    (bit_most (is_pending (8 * n + 7) p))) ∙ bit_back (is_pending (8 * n + 6) p)
byte_bit p n (suc (suc (suc (suc (suc (suc (suc zero))))))) lt = ap (λ x. eqb x 1) (bit_7 (pending_bit (8 * n) p) (pending_bit (8 * n + 1) p)
    (pending_bit (8 * n + 2) p) (pending_bit (8 * n + 3) p) (pending_bit (8 * n + 4) p) (pending_bit (8 * n + 5) p) (pending_bit (8 * n + 6) p)
    (pending_bit (8 * n + 7) p) (bit_most (is_pending (8 * n) p)) (bit_most (is_pending (8 * n + 1) p)) (bit_most (is_pending (8 * n + 2) p))
    (bit_most (is_pending (8 * n + 3) p)) (bit_most (is_pending (8 * n + 4) p)) (bit_most (is_pending (8 * n + 5) p)) (bit_most (is_pending (8 * n + 6) p))
    (bit_most (is_pending (8 * n + 7) p))) ∙ bit_back (is_pending (8 * n + 7) p)
byte_bit p n (suc (suc (suc (suc (suc (suc (suc (suc k)))))))) lt = absurd (omega arith)

-- ---- both together

-- the bytes of a word of a pending table
pub pending_bytes_of : (p : List ℕ) (n : ℕ)
    → little_bytes 8 (pending_word p n)
    ≡ pending_byte n p ∷ pending_byte (n + 1) p ∷ pending_byte (n + 2) p ∷ pending_byte (n + 3) p ∷ pending_byte (n + 4) p ∷ pending_byte (n + 5) p
    ∷ pending_byte (n + 6) p ∷ pending_byte (n + 7) p ∷ []
unfolding pending_word
pending_bytes_of p n =
    same_bytes (pending_byte n p) (pending_byte (n + 1) p) (pending_byte (n + 2) p) (pending_byte (n + 3) p) (pending_byte (n + 4) p) (pending_byte (n + 5) p)
    (pending_byte (n + 6) p) (pending_byte (n + 7) p)
    (byte_most n p) (byte_most (n + 1) p) (byte_most (n + 2) p) (byte_most (n + 3) p) (byte_most (n + 4) p) (byte_most (n + 5) p) (byte_most (n + 6) p)
    (byte_most (n + 7) p)

one_of : (p : List ℕ) (n k : ℕ) → k < 8 → slice_index (pending_byte n p ∷ pending_byte (n + 1) p ∷ pending_byte (n + 2) p ∷ pending_byte (n + 3) p
    ∷ pending_byte (n + 4) p ∷ pending_byte (n + 5) p ∷ pending_byte (n + 6) p ∷ pending_byte (n + 7) p ∷ []) k ≡ pending_byte (n + k) p
one_of p n zero lt = ap (λ m. pending_byte m p) (let e : n ≡ n + 0 = omega arith in e)
one_of p n (suc zero) lt = refl
one_of p n (suc (suc zero)) lt = refl
one_of p n (suc (suc (suc zero))) lt = refl
one_of p n (suc (suc (suc (suc zero)))) lt = refl
one_of p n (suc (suc (suc (suc (suc zero))))) lt = refl
one_of p n (suc (suc (suc (suc (suc (suc zero)))))) lt = refl
one_of p n (suc (suc (suc (suc (suc (suc (suc zero))))))) lt = refl
one_of p n (suc (suc (suc (suc (suc (suc (suc (suc k)))))))) lt = absurd (omega arith)

pub pending_byte_of : (p : List ℕ) (n k : ℕ) → k < 8 → slice_index (little_bytes 8 (pending_word p n)) k ≡ pending_byte (n + k) p
pending_byte_of p n k lt = ap (λ (l : List ℕ). slice_index l k) (pending_bytes_of p n) ∙ one_of p n k lt
