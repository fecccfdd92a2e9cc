-- Memory behind tables that were written: each word stands at its place, and other bytes are as before.
use Rattle.std.proofs.Common.{◌≡◌, ℕ, zero, suc, ◌+◌, ◌*◌, ◌^◌, ◌<◌, ◌≤◌, Bool, true, false, List, [], ◌∷◌, length, Option, Some, None, is_some, refl, sym}
use Rattle.std.proofs.Common.{subst, ap, ◌∙◌, inl, inr, arith, append-nil}
use Rattle.std.specs.Prelude.{◌||◌, unwrap_or, slice_get}
use Rattle.std.specs.Option.{option_map}
use Rattle.std.specs.List.{AllByRecursion}
use Rattle.std.proofs.lemmas.Bool.{cases_eq}
use Rattle.std.proofs.lemmas.Option.{same_Some}
use Rattle.byteorder.specs.Endian.{little_number, little_bytes}
use Rattle.byteorder.specs.Numbers.{little_number-reads_back, length-bytes_low_first}
use Rattle.guest_windows.specs.Windows.{Window, has, inside, read_at, write_at, number_at}
use Rattle.guest_windows.proofs.Laws.{has-fits, inside-write_at, is_some-write_at, read_at-write_at_same, read_at-write_at_apart}
use Rattle.baser_place.specs.Places.{entry_address}
use Rattle.its_plain.specs.Saved.{Words, put_word, put_words, put_tables}
use Rattle.saved_state.specs.Laws.{Apart}

-- ---- a part of a stretch

has_part : (w : Window) (a n b m : ℕ) → a ≤ b → b + m ≤ a + n → has w a n ≡ true → has w b m ≡ true
has_part w a n b m low high h = let f = has-fits w a n h in let above = f.above in let below = f.below in grind arith

or_true : (b : Bool) → (b || true) ≡ true
or_true true = refl
or_true false = refl

pub inside_part : (ws : List Window) (a n b m : ℕ) → a ≤ b → b + m ≤ a + n → inside ws a n ≡ true → inside ws b m ≡ true
inside_part [] a n b m low high h = absurd cc
inside_part (w ∷ ws) a n b m low high h =
    elim (has w a n) as (λ t. has w a n ≡ t → (t || inside ws a n) ≡ true → (has w b m || inside ws b m) ≡ true) [
      | true ↦ λ e s. ap (λ t. t || inside ws b m) (has_part w a n b m low high e)
      | false ↦ λ e s. ap (λ t. has w b m || t) (inside_part ws a n b m low high s) ∙ or_true (has w b m)
    ] refl h

-- ---- one word

wrote_some : (memory : List Window) (o : Option (List Window)) → is_some o ≡ true → o ≡ Some (unwrap_or o memory)
wrote_some memory None e = absurd cc
wrote_some memory (Some now) e = refl

eight : (word : ℕ) → length (little_bytes 8 word) ≡ 8
eight word = length-bytes_low_first 0 8 word

written : (memory : List Window) (address word : ℕ) → inside memory address 8 ≡ true → write_at memory address (little_bytes 8 word) ≡ Some
    (put_word memory address word)
written memory address word h =
    wrote_some memory (write_at memory address (little_bytes 8 word)) (is_some-write_at memory address (little_bytes 8 word) ∙ ap (inside memory address)
    (eight word) ∙ h)

maybe : (P : List Window → Type 0) (memory : List Window) (o : Option (List Window)) → P memory → ((now : List Window) → o ≡ Some now → P now)
    → P (unwrap_or o memory)
maybe P memory None before after = before
maybe P memory (Some now) before after = after now refl

word_stays : (memory : List Window) (address word b n : ℕ) → Apart address 8 b n → read_at (put_word memory address word) b n ≡ read_at memory b n
word_stays memory address word b n apart =
    maybe (λ m. read_at m b n ≡ read_at memory b n) memory (write_at memory address (little_bytes 8 word)) refl
    (λ now e. read_at-write_at_apart memory address (little_bytes 8 word) now b n e (subst (λ (k : ℕ). Apart address k b n) (sym (eight word)) apart))

word_inside : (memory : List Window) (address word b n : ℕ) → inside (put_word memory address word) b n ≡ inside memory b n
word_inside memory address word b n =
    maybe (λ m. inside m b n ≡ inside memory b n) memory (write_at memory address (little_bytes 8 word)) refl
    (λ now e. inside-write_at memory address (little_bytes 8 word) now b n e)

word_there : (memory : List Window) (address word : ℕ) → inside memory address 8 ≡ true → read_at (put_word memory address word) address 8 ≡ Some
    (little_bytes 8 word)
word_there memory address word h =
    let bytes = little_bytes 8 word in
    let same : read_at (put_word memory address word) address (length bytes) ≡ Some bytes = read_at-write_at_same memory address bytes
    (put_word memory address word) (written memory address word h) in
    ap (read_at (put_word memory address word) address) (sym (eight word)) ∙ same

-- the bytes of a word are its number
pub number_read : (memory : List Window) (address word : ℕ) → word < 2 ^ 64 → read_at memory address 8 ≡ Some (little_bytes 8 word)
    → number_at memory address ≡ Some word
number_read memory address word small read =
    let bytes = little_bytes 8 word in
    let number : little_number 8 bytes ≡ word = ap (little_number 8) (sym (append-nil bytes)) ∙ little_number-reads_back 8 word [] small in
    ap (option_map (λ bs. little_number 8 bs)) read ∙ ap Some number

-- ---- a table

words_stay : (memory : List Window) (base : ℕ) (word : ℕ → ℕ) (n b m : ℕ) → Apart base (8 * n) b m → read_at (put_words memory base word n) b m
    ≡ read_at memory b m
words_stay memory base word zero b m apart = refl
words_stay memory base word (suc n) b m apart =
    let last : Apart (entry_address base n) 8 b m = elim apart [ inl e ↦ inl (omega arith) | inr e ↦ inr (omega arith) ] in
    let others : Apart base (8 * n) b m = elim apart [ inl e ↦ inl (omega arith) | inr e ↦ inr (omega arith) ] in
    word_stays (put_words memory base word n) (entry_address base n) (word n) b m last ∙ words_stay memory base word n b m others

words_inside : (memory : List Window) (base : ℕ) (word : ℕ → ℕ) (n b m : ℕ) → inside (put_words memory base word n) b m ≡ inside memory b m
words_inside memory base word zero b m = refl
words_inside memory base word (suc n) b m = word_inside (put_words memory base word n) (entry_address base n) (word n) b m ∙ words_inside memory base word n b m

words_there : (memory : List Window) (base : ℕ) (word : ℕ → ℕ) (n i : ℕ) → inside memory base (8 * n) ≡ true → i < n
    → read_at (put_words memory base word n) (entry_address base i) 8 ≡ Some (little_bytes 8 (word i))
words_there memory base word zero i h lt = absurd (omega arith)
words_there memory base word (suc n) i h lt =
    let before = put_words memory base word n in
    elim (cases_eq i n) [
      | inl same ↦
          let here : inside before (entry_address base n) 8 ≡ true = words_inside memory base word n (entry_address base n) 8 ∙ inside_part memory base
          (8 * suc n) (entry_address base n) 8 (omega arith) (omega arith) h in
          subst (λ (k : ℕ). read_at (put_words memory base word (suc n)) (entry_address base k) 8 ≡ Some (little_bytes 8 (word k))) (sym same)
          (word_there before (entry_address base n) (word n) here)
      | inr other ↦
          let below : i < n = omega (arith, other) in
          word_stays before (entry_address base n) (word n) (entry_address base i) 8 (inr (omega arith))
          ∙ words_there memory base word n i (inside_part memory base (8 * suc n) base (8 * n) (omega arith) (omega arith) h) below
    ]

-- ---- tables after tables

-- the table has no byte of the stretch
abbrev pub Spares : ℕ → ℕ → Words → Type 0
Spares b n t = Apart t.base (8 * t.count) b n

pub tables_stay : (memory : List Window) (ts : List Words) (b n : ℕ) → AllByRecursion (Spares b n) ts → read_at (put_tables memory ts) b n ≡ read_at memory b n
tables_stay memory [] b n spared = refl
tables_stay memory (t ∷ ts) b n spared = tables_stay (put_words memory t.base t.word t.count) ts b n spared.1
    ∙ words_stay memory t.base t.word t.count b n spared.0

-- it lies in memory
abbrev pub CanStand : List Window → Words → Type 0
CanStand memory t = inside memory t.base (8 * t.count) ≡ true

-- the tables share no byte
abbrev pub AreApart : List Words → Type 0
AreApart [] = Unit {0}
AreApart (t ∷ ts) = AllByRecursion (Spares t.base (8 * t.count)) ts × AreApart ts

pub spares_part : (a n b m : ℕ) (ts : List Words) → a ≤ b → b + m ≤ a + n → AllByRecursion (Spares a n) ts → AllByRecursion (Spares b m) ts
spares_part a n b m [] low high all = tt
spares_part a n b m (t ∷ ts) low high all = ((elim all.0 [ inl e ↦ inl (omega arith) | inr e ↦ inr (omega arith) ]), spares_part a n b m ts low high all.1)

-- memory as it is now has the windows of the memory before
there_now : (old memory : List Window) (ts : List Words) → ((b n : ℕ) → inside memory b n ≡ inside old b n) → AllByRecursion (CanStand old) ts → AreApart ts
    → (k i : ℕ) (t : Words) → slice_get ts k ≡ Some t → i < t.count → read_at (put_tables memory ts) (entry_address t.base i) 8 ≡ Some
    (little_bytes 8 (t.word i))
there_now old memory [] same can apart k i t at lt = absurd cc
there_now old memory (s ∷ ts) same can apart zero i t at lt =
    let now = put_words memory s.base s.word s.count in
    let is : s ≡ t = same_Some s t at in
    let below : i < s.count = subst (λ (r : Words). i < r.count) (sym is) lt in
    let others = spares_part s.base (8 * s.count) (entry_address s.base i) 8 ts (omega arith) (omega (arith, below)) apart.0 in
    subst (λ (r : Words). read_at (put_tables now ts) (entry_address r.base i) 8 ≡ Some (little_bytes 8 (r.word i))) is
    (tables_stay now ts (entry_address s.base i) 8 others
    ∙ words_there memory s.base s.word s.count i (same s.base (8 * s.count) ∙ can.0) below)
there_now old memory (s ∷ ts) same can apart (suc k) i t at lt =
    there_now old (put_words memory s.base s.word s.count) ts (λ b n. words_inside memory s.base s.word s.count b n ∙ same b n) can.1 apart.1 k i t at lt

pub tables_read : (memory : List Window) (ts : List Words) → AllByRecursion (CanStand memory) ts → AreApart ts
    → (k i : ℕ) (t : Words) → slice_get ts k ≡ Some t → i < t.count → read_at (put_tables memory ts) (entry_address t.base i) 8 ≡ Some
    (little_bytes 8 (t.word i))
tables_read memory ts can apart = there_now memory memory ts (λ b n. refl) can apart

pub tables_inside : (memory : List Window) (ts : List Words) (b n : ℕ) → inside (put_tables memory ts) b n ≡ inside memory b n
tables_inside memory [] b n = refl
tables_inside memory (t ∷ ts) b n = tables_inside (put_words memory t.base t.word t.count) ts b n ∙ words_inside memory t.base t.word t.count b n
