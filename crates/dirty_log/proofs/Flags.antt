-- Bits as a list that says which are 1.
use Rattle.std.proofs.Common.{◌≡◌, ℕ, zero, suc, ◌+◌, ◌*◌, ◌/◌, ◌%◌, ◌^◌, ◌<◌, ◌≤◌, Bool, true, false, cond, List, length, get_or, set, replicate}
use Rattle.std.proofs.Common.{eqb, refl, sym, ap, ◌∙◌, inl, inr, arith}
use Rattle.std.specs.Prelude.{◌||◌, count_by}
use Rattle.std.proofs.lemmas.Bool.{cases_lt, cases_eq, eq-eqb, ne_eqb}
use Rattle.std.proofs.lemmas.List.{ext_get_or, set-get_or, get_or-set_same, get_or-set_other, length-set, length-replicate, get_or-replicate, get_or_past}
use Rattle.std.proofs.lemmas.List.FromFn.{length-map-range_with_len, get_or-map-range_with_len}
use Rattle.std.proofs.lemmas.List.Sums.{sum_by-set, count_by-le-length}
use Rattle.its_types.specs.Bitmap.{word_bit}
use Rattle.its_types.specs.Bits.{bit_of}
use Rattle.dirty_log.specs.Bits.{NoneIn, IsFirstIn, flags, IsCounted}
use Rattle.dirty_log.proofs.Nexts.{bit_of-zero}

pub length-flags : (words : List ℕ) (n : ℕ) → length (flags words n) ≡ n
length-flags words n = length-map-range_with_len (word_bit words) 0 n

pub flag_is : (words : List ℕ) (n k : ℕ) → k < n → get_or (flags words n) k false ≡ word_bit words k
flag_is words n k lt = get_or-map-range_with_len (word_bit words) 0 n k k false lt (omega arith)

-- ---- no bit

zero_bit : (m k : ℕ) → word_bit (replicate {A = ℕ} m 0) k ≡ false
zero_bit m k = ap (λ word. bit_of word (k % 64)) (zero_word m (k / 64)) ∙ bit_of-zero (k % 64)
  where
    zero_word : (n k : ℕ) → get_or (replicate {A = ℕ} n 0) k 0 ≡ 0
    zero_word n k = elim (cases_lt k n) [
      | inl lt ↦ get_or-replicate n k 0 0 lt
      | inr le ↦ get_or_past (replicate {A = ℕ} n 0) k 0 (omega (arith, length-replicate {A = ℕ} n 0))
    ]

pub flags_zero : (m n : ℕ) → flags (replicate {A = ℕ} m 0) n ≡ replicate n false
flags_zero m n =
    ext_get_or false (flags (replicate {A = ℕ} m 0) n) (replicate n false) (length-flags (replicate {A = ℕ} m 0) n ∙ sym (length-replicate n false))
    (λ k lt.
    let below : k < n = omega (arith, lt, length-flags (replicate {A = ℕ} m 0) n) in
    flag_is (replicate {A = ℕ} m 0) n k below ∙ zero_bit m k ∙ sym (get_or-replicate n k false false below))

pub count_none : (n : ℕ) → 0 ≡ count_by (λ (b : Bool). b) (replicate n false)
count_none zero = refl
count_none (suc n) = count_none n

-- ---- one bit more

pub flags_set : (words new : List ℕ) (n at : ℕ) → at < n → ((k : ℕ) → word_bit new k ≡ (eqb k at || word_bit words k))
    → flags new n ≡ set (flags words n) at true
flags_set words new n at inside bits =
    ext_get_or false (flags new n) (set (flags words n) at true)
    (length-flags new n ∙ sym (length-set (flags words n) at true ∙ length-flags words n))
    (λ k lt.
    let below : k < n = omega (arith, lt, length-flags new n) in
    flag_is new n k below ∙ bits k ∙ (elim (cases_eq k at) [
      | inl e ↦
          rw (eq-eqb k at e, e) (sym (get_or-set_same (flags words n) at true false (omega (arith, inside, length-flags words n))))
      | inr ne ↦ rw (ne_eqb k at ne) (sym (get_or-set_other (flags words n) at k true false ne ∙ flag_is words n k below))
    ]))

pub count_set : (bs : List Bool) (at : ℕ) → at < length bs → get_or bs at false ≡ false
    → count_by (λ (b : Bool). b) bs + 1 ≡ count_by (λ (b : Bool). b) (set bs at true)
count_set bs at lt isnt =
    let sums = sum_by-set (λ (b : Bool). cond {A = ℕ} b 1 0) bs at true false lt in
    let clean : cond {A = ℕ} (get_or bs at false) 1 0 ≡ 0 = ap (λ (b : Bool). cond {A = ℕ} b 1 0) isnt in
    omega (arith, sums, clean)

pub set_again : (bs : List Bool) (at : ℕ) → get_or bs at false ≡ true → bs ≡ set bs at true
set_again bs at is = sym (set-get_or bs at false) ∙ ap (set bs at) is

-- ---- the first bit

pub first_flag : (words : List ℕ) (n from last x : ℕ) → x < n → IsFirstIn (word_bit words) from last x
    → IsFirstIn (λ k. get_or (flags words n) k false) from (length (flags words n)) x
first_flag words n from last x inside first = record {
  from = first.from;
  below = let e = length-flags words n in omega (arith, inside, e);
  met = flag_is words n x inside ∙ first.met;
  before = λ y low below. flag_is words n y (omega (arith, below, inside)) ∙ first.before y low below;
}

pub no_flag : (words : List ℕ) (n from last : ℕ) → n ≤ last → NoneIn (word_bit words) from last
    → NoneIn (λ k. get_or (flags words n) k false) from (length (flags words n))
no_flag words n from last le none y low below =
    let lt : y < n = let e = length-flags words n in omega (arith, below, e) in
    flag_is words n y lt ∙ none y low (omega (arith, le, lt))

-- ---- counted bits

pub none_counted : (m n : ℕ) → n ≤ 64 * m → n ≤ 2 ^ 40 → IsCounted (replicate {A = ℕ} m 0) 0 n
none_counted m n room small = record {
  room = let e = length-replicate {A = ℕ} m 0 in omega (arith, room, e);
  small = small;
  count = count_none n ∙ ap (count_by (λ (b : Bool). b)) (sym (flags_zero m n));
}

pub one_counted : (words new : List ℕ) (ones n at : ℕ) → IsCounted words ones n → at < n → length new ≡ length words
    → ((k : ℕ) → word_bit new k ≡ (eqb k at || word_bit words k)) → word_bit words at ≡ false → IsCounted new (ones + 1) n
one_counted words new ones n at c lt size bits isnt = record {
  room = let e = c.room in omega (arith, e, size);
  small = c.small;
  count =
      ap (λ (m : ℕ). m + 1) c.count
      ∙ count_set (flags words n) at (let e = length-flags words n in omega (arith, lt, e)) (flag_is words n at lt ∙ isnt)
      ∙ ap (count_by (λ (b : Bool). b)) (sym (flags_set words new n at lt bits));
}

pub few : (words : List ℕ) (ones n : ℕ) → IsCounted words ones n → ones ≤ 2 ^ 40
few words ones n c =
    let most = count_by-le-length (λ (b : Bool). b) (flags words n) in
    let long = length-flags words n in
    let is = c.count in
    let small = c.small in
    omega (arith, most, long, is, small)
