-- A byte of mixed windows is one of the first where the test passes its address, and else of the second.
use Rattle.std.proofs.Common.{◌≡◌, ℕ, zero, suc, ◌+◌, ◌-◌, ◌<◌, Bool, true, false, cond, List, [], ◌∷◌, length, take, drop, map, Some, None, inl, inr}
use Rattle.std.proofs.Common.{refl, sym, ap, ◌∙◌, arith}
use Rattle.std.specs.Prelude.{◌&&◌, nat_le, slice_index}
use Rattle.std.specs.Option.{option_map}
use Rattle.std.proofs.lemmas.Bool.{cases_Bool}
use Rattle.guest_windows.specs.Windows.{Window, has, piece, read_at, byte_at, extent}
use Rattle.guest_windows.proofs.Laws.{has-fits}
use Rattle.guest_windows.specs.Mixed.{mixed, mixed_window, mixed_windows}

pub length-mixed : (test : ℕ → Bool) (a : ℕ) (xs ys : List ℕ) → length (mixed test a xs ys) ≡ length ys
length-mixed test a [] ys = refl
length-mixed test a (x ∷ xs) [] = refl
length-mixed test a (x ∷ xs) (y ∷ ys) = ap suc (length-mixed test (suc a) xs ys)

pub item_mixed : (test : ℕ → Bool) (a i : ℕ) (xs ys : List ℕ) → i < length xs → i < length ys
    → slice_index (mixed test a xs ys) i ≡ cond (test (a + i)) (slice_index xs i) (slice_index ys i)
item_mixed test a i [] ys lt less = absurd (omega arith)
item_mixed test a i (x ∷ xs) [] lt less = absurd (omega arith)
item_mixed test a zero (x ∷ xs) (y ∷ ys) lt less = let e : a ≡ a + 0 = omega arith in ap (λ (k : ℕ). cond (test k) x y) e
item_mixed test a (suc i) (x ∷ xs) (y ∷ ys) lt less =
    let e : suc a + i ≡ a + suc i = omega arith in
    item_mixed test (suc a) i xs ys (omega arith) (omega arith) ∙ ap (λ (k : ℕ). cond (test k) (slice_index xs i) (slice_index ys i)) e

pub first_of : (i : ℕ) (xs : List ℕ) → slice_index (take 1 (drop i xs)) 0 ≡ slice_index xs i
first_of zero [] = refl
first_of (suc i) [] = refl
first_of zero (x ∷ xs) = refl
first_of (suc i) (x ∷ xs) = first_of i xs

cond_same : {A : Type 0} (b : Bool) (x : A) → x ≡ cond b x x
cond_same true x = refl
cond_same false x = refl

some_cond : (b : Bool) (x y : ℕ) → Some (cond b x y) ≡ cond b (Some x) (Some y)
some_cond true x y = refl
some_cond false x y = refl

-- where a window has the byte
pub byte_here : (w : Window) (ws : List Window) (a : ℕ) → has w a 1 ≡ true → byte_at (w ∷ ws) a ≡ Some (slice_index w.bytes (a - w.base))
byte_here w ws a h =
    ap (λ (b : Bool). option_map (λ bytes. slice_index bytes 0) (cond b (Some (piece w a 1)) (read_at ws a 1))) h
    ∙ ap Some (first_of (a - w.base) w.bytes)

pub byte_later : (w : Window) (ws : List Window) (a : ℕ) → has w a 1 ≡ false → byte_at (w ∷ ws) a ≡ byte_at ws a
byte_later w ws a h = ap (λ (b : Bool). option_map (λ bytes. slice_index bytes 0) (cond b (Some (piece w a 1)) (read_at ws a 1))) h

pub has_extent : (v w : Window) (a n : ℕ) → v.base ≡ w.base → length v.bytes ≡ length w.bytes → has v a n ≡ has w a n
has_extent v w a n base size = λ i. nat_le (base i) a && nat_le (a + n) (base i + size i)

module _ (test : ℕ → Bool) (v w : Window) (base : w.base ≡ v.base) (size : length w.bytes ≡ length v.bytes) (a : ℕ) where
  abbrev m : Window
  m = mixed_window test v w

  has_mixed : has m a 1 ≡ has w a 1
  has_mixed = has_extent m w a 1 refl (length-mixed test w.base v.bytes w.bytes)

  has_first : has v a 1 ≡ has w a 1
  has_first = has_extent v w a 1 (sym base) (sym size)

  here : (vs ws ms : List Window) → has w a 1 ≡ true → byte_at (m ∷ ms) a ≡ cond (test a) (byte_at (v ∷ vs) a) (byte_at (w ∷ ws) a)
  here vs ws ms h =
      let f = has-fits w a 1 h in
      let above = f.above in let below = f.below in
      let place : w.base + (a - w.base) ≡ a = omega arith in
      let lt : a - w.base < length w.bytes = omega arith in
      let less : a - w.base < length v.bytes = omega (arith, size, lt) in
      byte_here m ms a (has_mixed ∙ h)
      ∙ ap Some (item_mixed test w.base (a - w.base) v.bytes w.bytes less lt
      ∙ ap (λ (k : ℕ). cond (test k) (slice_index v.bytes (a - w.base)) (slice_index w.bytes (a - w.base))) place)
      ∙ some_cond (test a) (slice_index v.bytes (a - w.base)) (slice_index w.bytes (a - w.base))
      ∙ (λ i. cond (test a) ((ap (λ (k : ℕ). Some (slice_index v.bytes (a - k))) base ∙ sym (byte_here v vs a (has_first ∙ h))) i)
      (sym (byte_here w ws a h) i))

-- a first list of windows that is as another
pub byte_mixed : (test : ℕ → Bool) (vs ws : List Window) (a : ℕ) → map extent ws ≡ map extent vs
    → byte_at (mixed_windows test vs ws) a ≡ cond (test a) (byte_at vs a) (byte_at ws a)
byte_mixed test [] [] a e = cond_same (test a) None
byte_mixed test [] (w ∷ ws) a e = absurd cc
byte_mixed test (v ∷ vs) [] a e = absurd cc
byte_mixed test (v ∷ vs) (w ∷ ws) a e =
    let first : extent w ≡ extent v = cc in
    let base : w.base ≡ v.base = ap (λ (p : ℕ × ℕ). p.0) first in
    let size : length w.bytes ≡ length v.bytes = ap (λ (p : ℕ × ℕ). p.1) first in
    let rest : map extent ws ≡ map extent vs = cc in
    elim (cases_Bool (has w a 1)) [
      | inl h ↦ here test v w base size a vs ws (mixed_windows test vs ws) h
      | inr h ↦
          byte_later (mixed_window test v w) (mixed_windows test vs ws) a (has_mixed test v w base size a ∙ h)
          ∙ byte_mixed test vs ws a rest
          ∙ (λ i. cond (test a) (sym (byte_later v vs a (has_first test v w base size a ∙ h)) i) (sym (byte_later w ws a h) i))
    ]

-- the windows are where they were
pub extents_mixed : (test : ℕ → Bool) (vs ws : List Window) → map extent (mixed_windows test vs ws) ≡ map extent ws
extents_mixed test [] ws = refl
extents_mixed test (v ∷ vs) [] = refl
extents_mixed test (v ∷ vs) (w ∷ ws) = λ i. (w.base, length-mixed test w.base v.bytes w.bytes i) ∷ extents_mixed test vs ws i
