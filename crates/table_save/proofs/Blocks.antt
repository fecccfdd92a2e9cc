-- Words of a table, written a block at once.
use Rattle.std.proofs.Common.{◌≡◌, ℕ, zero, suc, ◌+◌, ◌*◌, ◌<◌, true, List, [], ◌∷◌, length, map, Option, Some, None, replicate, inl, inr}
use Rattle.std.proofs.Common.{append-nil, refl, sym, ap, ◌∙◌, arith}
use Rattle.std.specs.Prelude.{unwrap_or, slice_index, MatchOption, Result, Ok, Err, ◌⊎◌}
use Rattle.std.specs.List.{flat_map}
use Rattle.std.proofs.lemmas.List.{length-replicate, get_or-replicate}
use Rattle.byteorder.specs.Endian.{little_bytes}
use Rattle.guest_windows.specs.Windows.{Window, write_at, extent, share_no_byte}
use Rattle.guest_windows.proofs.Laws.{extents-write_at}
use Rattle.baser_place.specs.Places.{entry_address}
use Rattle.its_plain.specs.Saved.{put_word, put_words}
use Rattle.table_save.proofs.Written.{same_words}
use Rattle.table_save.proofs.Splits.{split, write_none}

-- ---- words after words

-- the first word and the others
first_word : (memory : List Window) (base n : ℕ) (word : ℕ → ℕ)
    → put_words memory base word (suc n) ≡ put_words (put_word memory (base + 8 * 0) (word 0)) (base + 8) (λ k. word (suc k)) n
first_word memory base zero word = refl
first_word memory base (suc n) word =
    ap (λ (m : List Window). put_word m (entry_address base (suc n)) (word (suc n))) (first_word memory base n word)
    ∙ ap (λ (a : ℕ). put_word (put_words (put_word memory (base + 8 * 0) (word 0)) (base + 8) (λ k. word (suc k)) n) a (word (suc n))) (address base n)
  where
    address : (b k : ℕ) → b + 8 * suc k ≡ b + 8 + 8 * k
    address b k = omega arith

-- so many more
pub words_more : (memory : List Window) (base i n : ℕ) (word : ℕ → ℕ)
    → put_words (put_words memory base word i) (base + 8 * i) (λ k. word (i + k)) n ≡ put_words memory base word (i + n)
words_more memory base i zero word = ap (put_words memory base word) (none i)
  where
    none : (k : ℕ) → k ≡ k + 0
    none k = omega arith
words_more memory base i (suc n) word =
    ap (λ (m : List Window). put_word m (base + 8 * i + 8 * n) (word (i + n))) (words_more memory base i n word)
    ∙ ap (λ (a : ℕ). put_word (put_words memory base word (i + n)) a (word (i + n))) (address base i n) ∙ ap (put_words memory base word) (next i n)
  where
    address : (b j k : ℕ) → b + 8 * j + 8 * k ≡ b + 8 * (j + k)
    address b j k = omega arith

    next : (j k : ℕ) → suc (j + k) ≡ j + suc k
    next j k = omega arith

-- a block after those before it
pub block_more : (memory before now : List Window) (base i n start : ℕ) (word part : ℕ → ℕ) → before ≡ put_words memory base word i
    → now ≡ put_words before start part n → ((k : ℕ) → k < n → part k ≡ word (i + k)) → start ≡ base + 8 * i
    → now ≡ put_words memory base word (i + n)
block_more memory before now base i n start word part so_far wrote each at =
    wrote ∙ ap (λ (a : ℕ). put_words before a part n) at ∙ same_words before (base + 8 * i) n part (λ k. word (i + k)) each
    ∙ ap (λ (m : List Window). put_words m (base + 8 * i) (λ k. word (i + k)) n) so_far ∙ words_more memory base i n word

-- ---- the bytes of a block

abbrev pub bytes_of : List ℕ → List ℕ
bytes_of xs = flat_map (little_bytes 8) xs

one_word : (memory now : List Window) (base x : ℕ) → write_at memory base (little_bytes 8 x) ≡ Some now → now ≡ put_word memory (base + 8 * 0) x
one_word memory now base x e =
    let place : base ≡ base + 8 * 0 = omega arith in
    sym (ap (λ o. unwrap_or o memory) e) ∙ ap (λ (a : ℕ). put_word memory a x) place

-- written at once, where they lie in one window
pub block_is : (xs : List ℕ) (memory now : List Window) (base : ℕ) → share_no_byte (map extent memory) ≡ true → write_at memory base (bytes_of xs) ≡ Some now
    → now ≡ put_words memory base (slice_index xs) (length xs)
block_is [] memory now base apart e = write_none memory base now e
block_is (x ∷ []) memory now base apart e =
    one_word memory now base x (ap (write_at memory base) (sym (append-nil (little_bytes 8 x))) ∙ e)
block_is (x ∷ y ∷ ys) memory now base apart e =
    let s = split memory base (little_bytes 8 x) (bytes_of (y ∷ ys)) now apart (omega arith) (omega arith) e in
    let still : share_no_byte (map extent s.between) ≡ true = ap share_no_byte (extents-write_at memory base (little_bytes 8 x) s.between s.first) ∙ apart in
    block_is (y ∷ ys) s.between now (base + 8) still s.last
    ∙ ap (λ (m : List Window). put_words m (base + 8) (slice_index (y ∷ ys)) (length (y ∷ ys))) (one_word memory s.between base x s.first)
    ∙ sym (first_word memory base (length (y ∷ ys)) (slice_index (x ∷ y ∷ ys)))

zero_bytes : (n : ℕ) → replicate (8 * n) 0 ≡ bytes_of (replicate n 0)
zero_bytes zero = refl
zero_bytes (suc n) = ap (λ (k : ℕ). replicate k 0) (eight n) ∙ ap (λ (bs : List ℕ). 0 ∷ 0 ∷ 0 ∷ 0 ∷ 0 ∷ 0 ∷ 0 ∷ 0 ∷ bs) (zero_bytes n)
  where
    eight : (k : ℕ) → 8 * suc k ≡ suc (suc (suc (suc (suc (suc (suc (suc (8 * k))))))))
    eight k = omega arith

pub zeros_are : (n : ℕ) (memory now : List Window) (base : ℕ) → share_no_byte (map extent memory) ≡ true → write_at memory base (replicate (8 * n) 0) ≡ Some now
    → now ≡ put_words memory base (λ _. 0) n
zeros_are n memory now base apart e =
    let xs = replicate n 0 in
    block_is xs memory now base apart (ap (write_at memory base) (sym (zero_bytes n)) ∙ e)
    ∙ ap (put_words memory base (slice_index xs)) (length-replicate n 0)
    ∙ same_words memory base n (slice_index xs) (λ _. 0) (λ k lt. get_or-replicate n k 0 0 lt)

-- ---- what a write that succeeded left

pub draft_gives :
    {E : Type 0} (o : Option (List Window)) (r : Result (Unit {0}) E) (e f : E) (old new : List Window) (x : Unit {0})
    → MatchOption o ((r ≡ Err e) × (new ≡ old)) (λ m. ((r ≡ Ok tt) × (new ≡ m)) ⊎ (r ≡ Err f)) → r ≡ Ok x → o ≡ Some new
draft_gives None r e f old new x m ok = absurd (let failed = m.0 in cc)
draft_gives (Some now) r e f old new x m ok = elim m [ inl p ↦ ap Some (sym p.1) | inr failed ↦ absurd (cc) ]
