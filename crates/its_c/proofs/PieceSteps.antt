-- A stretch of guest memory from one piece to the next.
use Rattle.std.proofs.Common.{◌≡◌, ◌<◌, ◌≤◌, ℕ, ◌+◌, ◌-◌, ◌*◌, Bool, true, List, [], ◌∷◌, length, take, drop, Some, inl, inr, sym, ap, ◌∙◌, subst, arith}
use Rattle.std.specs.Prelude.{nat_lt, nat_le, ◌&&◌, ◌||◌}
use Rattle.std.proofs.lemmas.Bool.{ltb-true, ltb-false, le-leb, or_right, cases_Bool}
use Rattle.std.proofs.Math.Nat.{min-le_left, min-le_right}
use Rattle.guest_windows.specs.Windows.{Window, has, inside, read_at}
use Rattle.guest_windows.proofs.Laws.{has-fits, length-read_at}
use Rattle.guest_windows.proofs.Splices.{splice, splice_same, splice_before, length-splice}
use Rattle.its_c.specs.Pieces.{AreInside, AreRead}
use Rattle.owned_machine.specs.Pieces.{piece_count, piece_length, piece_of}

-- what holds of all before i and of i holds of all before the next
pub below_next : {P : ℕ → Type 0} (i : ℕ) → ((k : ℕ) → k < i → P k) → P i → (k : ℕ) → k < i + 1 → P k
below_next {P} i before at k below =
    elim (cases_Bool (nat_lt k i)) [
      | inl is ↦ before k (ltb-true k i is)
      | inr isnt ↦ let same : i ≡ k = omega (arith, ltb-false k i isnt, below) in subst P same at
    ]

-- ---- where one window has them all

pub has_part : (w : Window) (a n b l : ℕ) → a ≤ b → b + l ≤ a + n → has w a n ≡ true → has w b l ≡ true
has_part w a n b l low high e =
    let f = has-fits w a n e in
    let above : w.base ≤ b = omega (arith, f.above, low) in
    let below : b + l ≤ w.base + length w.bytes = omega (arith, f.below, high) in
    ap (λ (x : Bool). x && nat_le (b + l) (w.base + length w.bytes)) (le-leb w.base b above) ∙ le-leb (b + l) (w.base + length w.bytes) below

inside_part : (ws : List Window) (a n b l : ℕ) → a ≤ b → b + l ≤ a + n → inside ws a n ≡ true → inside ws b l ≡ true
inside_part [] a n b l low high e = e
inside_part (w ∷ ws) a n b l low high e =
    elim (cases_Bool (has w a n)) [
      | inl here ↦ ap (λ (x : Bool). x || inside ws b l) (has_part w a n b l low high here)
      | inr there ↦ or_right (has w b l) (inside ws b l) (inside_part ws a n b l low high (ap (λ (x : Bool). x || inside ws a n) (sym there) ∙ e))
    ]

-- it has each piece
pub all_inside : (ws : List Window) (a n : ℕ) → inside ws a n ≡ true → AreInside ws a n (piece_count n)
all_inside ws a n e k below =
    inside_part ws a n (a + 64 * k) (piece_length n k) (omega arith) (omega (arith, below, min-le_right 64 (n - 64 * k))) e

-- ---- from one to the next

short : (n i : ℕ) → piece_length n i ≤ 64
short n i = min-le_left 64 (n - 64 * i)

ends : (n i : ℕ) → i < piece_count n → 64 * i + piece_length n i ≤ n
ends n i below = omega (arith, below, min-le_right 64 (n - 64 * i))

-- the pieces that were read before stay, and the next one stands after them
pub next_read :
    (m : List Window) (a i : ℕ) (before after piece : List ℕ) → i < piece_count (length before) → AreRead m a before i
    → read_at m (a + 64 * i) (piece_length (length before) i) ≡ Some piece → after ≡ splice (64 * i) piece before → AreRead m a after (i + 1)
next_read m a i before after piece below read found is = below_next i earlier this
  where
    n : ℕ
    n = length before

    long : length piece ≡ piece_length n i
    long = length-read_at m (a + 64 * i) (piece_length n i) piece found

    within : 64 * i + length piece ≤ n
    within = omega (arith, long, ends n i below)

    start : 64 * i ≤ n
    start = omega (arith, within)

    same_length : length after ≡ n
    same_length = ap length is ∙ length-splice (64 * i) piece before within

    earlier : (k : ℕ) → k < i → read_at m (a + 64 * k) (piece_length (length after) k) ≡ Some (piece_of after k)
    earlier k small =
        ap (λ l. read_at m (a + 64 * k) (piece_length l k)) same_length ∙ read k small
        ∙ ap Some (sym (ap (λ l. take (piece_length l k) (drop (64 * k) after)) same_length ∙ ap (λ xs. take (piece_length n k) (drop (64 * k) xs)) is
        ∙ splice_before (64 * i) (64 * k) (piece_length n k) piece before start (omega (arith, short n k, small))))

    this : read_at m (a + 64 * i) (piece_length (length after) i) ≡ Some (piece_of after i)
    this =
        ap (λ l. read_at m (a + 64 * i) (piece_length l i)) same_length ∙ found
        ∙ ap Some (sym (ap (λ l. take (piece_length l i) (drop (64 * i) after)) same_length ∙ ap (λ l. take l (drop (64 * i) after)) (sym long)
        ∙ ap (λ xs. take (length piece) (drop (64 * i) xs)) is ∙ splice_same (64 * i) piece before start))
