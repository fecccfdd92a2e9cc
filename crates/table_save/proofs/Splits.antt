-- A write of two stretches, one right after the other, is a write of the first and then of the second.
use Rattle.std.proofs.Common.{◌≡◌, ℕ, ◌+◌, ◌-◌, ◌<◌, ◌≤◌, Bool, true, false, List, [], ◌∷◌, ◌++◌, length, take, drop, map, Option, Some, None}
use Rattle.std.proofs.Common.{append_assoc, append-nil, refl, sym, ap, ◌∙◌, inl, inr, arith, length-append}
use Rattle.std.specs.Prelude.{◌||◌, is_some, nat_le}
use Rattle.std.specs.Option.{option_map}
use Rattle.std.specs.List.{list_all}
use Rattle.std.proofs.lemmas.Bool.{and_parts, or_cases, leb-true, cond-true, cond-false}
use Rattle.std.proofs.lemmas.List.{length-take-le, take_at, drop_at, drop-drop, take-append-drop}
use Rattle.guest_windows.specs.Windows.{Window, has, inside, put, write_at, extent, are_apart, share_no_byte}
use Rattle.guest_windows.proofs.Laws.{Fits, has-fits, is_some-write_at}
use Rattle.guest_windows.proofs.Places.{chosen}
use Rattle.guest_windows.proofs.Splices.{length-splice}

-- ---- one window

-- a stretch replaced by two, and by one after the other
splice_twice : (i : ℕ) (bs cs xs : List ℕ) → i + length bs ≤ length xs
    → take (i + length bs) (take i xs ++ bs ++ drop (i + length bs) xs) ++ cs ++ drop (i + length bs + length cs) (take i xs ++ bs ++ drop (i + length bs) xs)
    ≡ take i xs ++ (bs ++ cs) ++ drop (i + length (bs ++ cs)) xs
splice_twice i bs cs xs le =
    let head = take i xs in
    let back = drop (i + length bs) xs in
    let front = head ++ bs in
    let long : length head ≡ i = length-take-le i xs (omega arith) in
    let far : length front ≡ i + length bs = omega (arith, long, length-append head bs) in
    let total : i + length bs + length cs ≡ i + length (bs ++ cs) = omega (arith, length-append bs cs) in
    ap (λ (ys : List ℕ). ys ++ cs ++ drop (i + length bs + length cs) (front ++ back)) (take_at front back (i + length bs) far)
    ∙ ap (λ (ys : List ℕ). front ++ cs ++ ys)
    (sym (drop-drop (length cs) (i + length bs) (front ++ back)) ∙ ap (drop (length cs)) (drop_at front back (i + length bs) far)
    ∙ drop-drop (length cs) (i + length bs) xs ∙ ap (λ (k : ℕ). drop k xs) total)
    ∙ ap (λ (ys : List ℕ). ys ++ drop (i + length (bs ++ cs)) xs) (append_assoc head bs cs)

-- the same with an address in a window
put_twice : (w : Window) (a : ℕ) (bs cs : List ℕ) → Fits w a (length bs) → put (put w a bs) (a + length bs) cs ≡ put w a (bs ++ cs)
put_twice w a bs cs fits =
    let above = fits.above in let below = fits.below in
    let i : ℕ = a - w.base in
    let one = take i w.bytes ++ bs ++ drop (i + length bs) w.bytes in
    let place : a + length bs - w.base ≡ i + length bs = omega arith in
    ap (λ (xs : List ℕ). record { base = w.base; bytes = xs })
    (ap (λ (k : ℕ). take k one ++ cs ++ drop (k + length cs) one) place ∙ splice_twice i bs cs w.bytes (omega arith))

-- ---- windows that share no byte

-- a stretch that lies in one window begins in no other
both_have : (v w : Window) (a m n : ℕ) → 0 < m → 0 < n → are_apart (extent w) (extent v) ≡ true → has v a m ≡ true → has w a n ≡ true → ⊥
both_have v w a m n some more apart here there =
    let f = has-fits v a m here in
    let g = has-fits w a n there in
    let above = f.above in let below = f.below in let low = g.above in let high = g.below in
    elim (or_cases (nat_le (w.base + length w.bytes) v.base) (nat_le (v.base + length v.bytes) w.base) apart) [
      | inl e ↦ let le = leb-true (w.base + length w.bytes) v.base e in omega arith
      | inr e ↦ let le = leb-true (v.base + length v.bytes) w.base e in omega arith
    ]

not_here : (w : Window) (ws : List Window) (a m n : ℕ) → 0 < m → 0 < n → list_all (are_apart (extent w)) (map extent ws) ≡ true → inside ws a m ≡ true
    → has w a n ≡ true → ⊥
not_here w [] a m n some more apart h there = absurd cc
not_here w (v ∷ ws) a m n some more apart h there =
    let both = and_parts (are_apart (extent w) (extent v)) (list_all (are_apart (extent w)) (map extent ws)) apart in
    elim (or_cases (has v a m) (inside ws a m) h) [
      | inl here ↦ both_have v w a m n some more both.0 here there
      | inr later ↦ not_here w ws a m n some more both.1 later there
    ]

-- ---- parts of a stretch

has_of : (w : Window) (a n : ℕ) → w.base ≤ a → a + n ≤ w.base + length w.bytes → has w a n ≡ true
has_of w a n above below = grind (arith, above, below)

has_part : (w : Window) (a n b m : ℕ) → a ≤ b → b + m ≤ a + n → has w a n ≡ true → has w b m ≡ true
has_part w a n b m low high it =
    let f = has-fits w a n it in
    has_of w b m (omega (arith, f.above)) (omega (arith, f.below))

inside_part : (ws : List Window) (a n b m : ℕ) → a ≤ b → b + m ≤ a + n → inside ws a n ≡ true → inside ws b m ≡ true
inside_part [] a n b m low high it = absurd cc
inside_part (w ∷ ws) a n b m low high it =
    elim (or_cases (has w a n) (inside ws a n) it) [
      | inl here ↦ ap (λ (x : Bool). x || inside ws b m) (has_part w a n b m low high here)
      | inr later ↦ right (has w b m) (inside ws b m) (inside_part ws a n b m low high later)
    ]
  where
    right : (x y : Bool) → y ≡ true → (x || y) ≡ true
    right true y e = refl
    right false y e = e

-- ---- a write of two

pub record Split (ws : List Window) (a : ℕ) (bs cs : List ℕ) (now : List Window) : Type 0 where
  pub between : List Window
  pub first : write_at ws a bs ≡ Some between
  pub last : write_at between (a + length bs) cs ≡ Some now

write_here : (w : Window) (ws : List Window) (a : ℕ) (bs : List ℕ) → has w a (length bs) ≡ true → write_at (w ∷ ws) a bs ≡ Some (put w a bs ∷ ws)
write_here w ws a bs it = cond-true (has w a (length bs)) (Some (put w a bs ∷ ws)) (option_map (λ others. w ∷ others) (write_at ws a bs)) it

write_later : (w : Window) (ws : List Window) (a : ℕ) (bs : List ℕ) (others : List Window) → has w a (length bs) ≡ false → write_at ws a bs ≡ Some others
    → write_at (w ∷ ws) a bs ≡ Some (w ∷ others)
write_later w ws a bs others it e =
    cond-false (has w a (length bs)) (Some (put w a bs ∷ ws)) (option_map (λ os. w ∷ os) (write_at ws a bs)) it
    ∙ ap (option_map (λ os. w ∷ os)) e

some_of : (w : Window) (o : Option (List Window)) (now : List Window) → option_map (λ os. w ∷ os) o ≡ Some now
    → (os : List Window) × (o ≡ Some os) × (now ≡ w ∷ os)
some_of w None now e = absurd cc
some_of w (Some os) now e = (os, refl, cc)

not_true : (b : Bool) → (b ≡ true → ⊥) → b ≡ false
not_true true never = absurd (never refl)
not_true false never = refl

pub split : (ws : List Window) (a : ℕ) (bs cs : List ℕ) (now : List Window) → share_no_byte (map extent ws) ≡ true → 0 < length bs → 0 < length cs
    → write_at ws a (bs ++ cs) ≡ Some now → Split ws a bs cs now
split [] a bs cs now apart some more e = absurd cc
split (w ∷ ws) a bs cs now apart some more e =
    let n : ℕ = length (bs ++ cs) in
    let total : n ≡ length bs + length cs = length-append bs cs in
    let both = and_parts (list_all (are_apart (extent w)) (map extent ws)) (share_no_byte (map extent ws)) apart in
    elim (chosen (has w a n) (Some (put w a (bs ++ cs) ∷ ws)) (option_map (λ os. w ∷ os) (write_at ws a (bs ++ cs))) (Some now) e) [
      | inl p ↦
          let f = has-fits w a n p.0 in
          let above = f.above in let below = f.below in
          let fits : Fits w a (length bs) = record { above = above; below = omega (arith, below, total) } in
          let v : Window = put w a bs in
          let long : length v.bytes ≡ length w.bytes = length-splice (a - w.base) bs w.bytes (omega (arith, above, below, total)) in
          let there : has v (a + length bs) (length cs) ≡ true =
          has_of v (a + length bs) (length cs) (omega (arith, above)) (omega (arith, below, total, long)) in
          record {
            between = v ∷ ws;
            first = write_here w ws a bs (has_part w a n a (length bs) (omega arith) (omega (arith, total)) p.0);
            last = write_here v ws (a + length bs) cs there ∙ ap (λ (u : Window). Some (u ∷ ws)) (put_twice w a bs cs fits) ∙ p.1;
          }
      | inr p ↦
          let o = some_of w (write_at ws a (bs ++ cs)) now p.1 in
          let is : inside ws a n ≡ true = sym (is_some-write_at ws a (bs ++ cs)) ∙ ap is_some o.1 in
          let s = split ws a bs cs o.0 both.1 some more o.1 in
          let none : has w a (length bs) ≡ false = not_true (has w a (length bs)) (λ yes.
          not_here w ws a n (length bs) (omega (arith, total, some)) some both.0 is yes) in
          let neither : has w (a + length bs) (length cs) ≡ false = not_true (has w (a + length bs) (length cs)) (λ yes.
          not_here w ws (a + length bs) (length cs) (length cs) more more both.0
          (inside_part ws a n (a + length bs) (length cs) (omega arith) (omega (arith, total)) is) yes) in
          record {
            between = w ∷ s.between;
            first = write_later w ws a bs s.between none s.first;
            last = write_later w s.between (a + length bs) cs o.0 neither s.last ∙ ap Some (sym o.2);
          }
    ]

-- a write of nothing
pub write_none : (ws : List Window) (a : ℕ) (now : List Window) → write_at ws a [] ≡ Some now → now ≡ ws
write_none [] a now e = absurd cc
write_none (w ∷ ws) a now e =
    elim (chosen (has w a 0) (Some (put w a [] ∷ ws)) (option_map (λ os. w ∷ os) (write_at ws a [])) (Some now) e) [
      | inl p ↦ some_list now (put w a [] ∷ ws) p.1 ∙ ap (λ (u : Window). u ∷ ws) (put_none w a)
      | inr p ↦
          let o = some_of w (write_at ws a []) now p.1 in
          o.2 ∙ ap (λ os. w ∷ os) (write_none ws a o.0 o.1)
    ]
  where
    some_list : (x y : List Window) → Some y ≡ Some x → x ≡ y
    some_list x y e = cc

    put_none : (v : Window) (b : ℕ) → put v b [] ≡ v
    put_none v b =
        let i : ℕ = b - v.base in
        let same : i + 0 ≡ i = omega arith in
        ap (λ (xs : List ℕ). record { base = v.base; bytes = xs })
        (ap (λ (ys : List ℕ). ys ++ drop (i + 0) v.bytes) (append-nil (take i v.bytes)) ∙ ap (λ (k : ℕ). take i v.bytes ++ drop k v.bytes) same
        ∙ take-append-drop i v.bytes)
