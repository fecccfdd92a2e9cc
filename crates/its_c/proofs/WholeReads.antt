-- What one window has whole is read in any pieces.
use Rattle.std.proofs.Common.{◌≡◌, ◌<◌, ◌≤◌, ℕ, ◌+◌, ◌-◌, ◌*◌, Bool, true, false, List, [], ◌∷◌, length, take, drop, map, Option}
use Rattle.std.proofs.Common.{Some, None, inl, inr, refl, sym, ap, ◌∙◌, arith}
use Rattle.std.specs.Prelude.{nat_le, Result, Ok, Err, MatchOption, is_some}
use Rattle.std.specs.List.{list_all}
use Rattle.std.proofs.lemmas.Bool.{and_parts, or_cases, leb-true, cond-true, cond-false}
use Rattle.std.proofs.lemmas.List.{take-take, drop-take, drop-drop}
use Rattle.std.proofs.Math.Nat.{min-le_right}
use Rattle.guest_windows.specs.Windows.{Window, has, inside, piece, read_at, extent, are_apart, share_no_byte}
use Rattle.guest_windows.proofs.Laws.{has-fits, is_some-read_at}
use Rattle.guest_windows.proofs.Places.{chosen}
use Rattle.its_c.specs.Pieces.{IsRead}
use Rattle.its_c.proofs.PieceSteps.{has_part}
use Rattle.owned_machine.specs.Pieces.{piece_length}

-- ---- windows that share no byte

both_have : (v w : Window) (a n b l : ℕ) → a ≤ b → b + l ≤ a + n → 0 < l → are_apart (extent w) (extent v) ≡ true → has v a n ≡ true → has w b l ≡ true → ⊥
both_have v w a n b l low high some apart here there =
    let f = has-fits v a n here in
    let g = has-fits w b l there in
    let above = f.above in let below = f.below in let from = g.above in let to = g.below in
    elim (or_cases (nat_le (w.base + length w.bytes) v.base) (nat_le (v.base + length v.bytes) w.base) apart) [
      | inl e ↦ let le = leb-true (w.base + length w.bytes) v.base e in omega arith
      | inr e ↦ let le = leb-true (v.base + length v.bytes) w.base e in omega arith
    ]

-- a stretch that a later window has isn't in this one, nor is a part of it
not_here : (w : Window) (ws : List Window) (a n b l : ℕ) (bs : List ℕ) → a ≤ b → b + l ≤ a + n → 0 < l → list_all (are_apart (extent w)) (map extent ws) ≡ true
    → read_at ws a n ≡ Some bs → has w b l ≡ false
not_here w [] a n b l bs low high some apart e = absurd cc
not_here w (v ∷ ws) a n b l bs low high some apart e =
    let both = and_parts (are_apart (extent w) (extent v)) (list_all (are_apart (extent w)) (map extent ws)) apart in
    elim (chosen (has v a n) (Some (piece v a n)) (read_at ws a n) (Some bs) e) [
      | inl p ↦ isnt (has w b l) (both_have v w a n b l low high some both.0 p.0)
      | inr p ↦ not_here w ws a n b l bs low high some both.1 p.1
    ]
  where
    isnt : (x : Bool) → (x ≡ true → ⊥) → x ≡ false
    isnt true never = absurd (never refl)
    isnt false never = refl

-- ---- a part of a stretch

part_of : (j l m i : ℕ) (xs : List ℕ) → l ≤ m → take l (drop j (take (j + m) (drop i xs))) ≡ take l (drop (i + j) xs)
part_of j l m i xs le = ap (take l) (drop-take j m (drop i xs)) ∙ take-take l m (drop j (drop i xs)) le ∙ ap (take l) (drop-drop j i xs)

piece_part : (w : Window) (a n b l : ℕ) → w.base ≤ a → a ≤ b → b + l ≤ a + n → piece w b l ≡ take l (drop (b - a) (piece w a n))
piece_part w a n b l above low high =
    let j : ℕ = b - a in
    let m : ℕ = n - j in
    let i : ℕ = a - w.base in
    let long : n ≡ j + m = omega arith in
    let place : i + j ≡ b - w.base = omega arith in
    sym (ap (λ (k : ℕ). take l (drop j (take k (drop i w.bytes)))) long ∙ part_of j l m i w.bytes (omega arith)
    ∙ ap (λ (k : ℕ). take l (drop k w.bytes)) place)

some_is : (x y : List ℕ) → Some x ≡ Some y → x ≡ y
some_is x y e = cc

read_part : (ws : List Window) (a n b l : ℕ) (bs : List ℕ) → share_no_byte (map extent ws) ≡ true → read_at ws a n ≡ Some bs → a ≤ b → b + l ≤ a + n → 0 < l
    → read_at ws b l ≡ Some (take l (drop (b - a) bs))
read_part [] a n b l bs apart e low high some = absurd cc
read_part (w ∷ ws) a n b l bs apart e low high some =
    let both = and_parts (list_all (are_apart (extent w)) (map extent ws)) (share_no_byte (map extent ws)) apart in
    elim (chosen (has w a n) (Some (piece w a n)) (read_at ws a n) (Some bs) e) [
      | inl p ↦
          let same : piece w a n ≡ bs = some_is (piece w a n) bs p.1 in
          cond-true (has w b l) (Some (piece w b l)) (read_at ws b l) (has_part w a n b l low high p.0)
          ∙ ap Some (piece_part w a n b l (has-fits w a n p.0).above low high ∙ ap (λ (xs : List ℕ). take l (drop (b - a) xs)) same)
      | inr p ↦
          cond-false (has w b l) (Some (piece w b l)) (read_at ws b l) (not_here w ws a n b l bs low high some both.0 p.1)
          ∙ read_part ws a n b l bs both.1 p.1 low high some
    ]

-- ---- all pieces

pub no_refusal :
    {E : Type 0} (ws : List Window) (a n : ℕ) (r : Result (Unit {0}) E) (e f : E) (old new : List ℕ) → inside ws a n ≡ true
    → MatchOption (read_at ws a n) ((r ≡ Err e) × (new ≡ old)) (λ bytes. (r ≡ Ok tt) × (new ≡ bytes)) → r ≡ Err f → ⊥
no_refusal ws a n r e f old new it m failed = none (read_at ws a n) (is_some-read_at ws a n ∙ it) m
  where
    none : (o : Option (List ℕ)) → is_some o ≡ true → MatchOption o ((r ≡ Err e) × (new ≡ old)) (λ bytes. (r ≡ Ok tt) × (new ≡ bytes)) → ⊥
    none None some given = absurd cc
    none (Some bytes) some given = let done = given.0 in absurd cc

pub whole_is_read : (ws : List Window) (a : ℕ) (bs : List ℕ) → share_no_byte (map extent ws) ≡ true → read_at ws a (length bs) ≡ Some bs → IsRead ws a bs
whole_is_read ws a bs apart e k below =
    let n = length bs in
    let l = piece_length n k in
    let start : a + 64 * k - a ≡ 64 * k = omega arith in
    read_part ws a n (a + 64 * k) l bs apart e (omega arith) (omega (arith, below, min-le_right 64 (n - 64 * k))) (omega (arith, below))
    ∙ ap (λ (j : ℕ). Some (take l (drop j bs))) start
