-- Pages that aren't held have zeros, so what lies before the first that is held is zero.
use Rattle.std.proofs.Common.{◌≡◌, ◌⊎◌, ℕ, zero, suc, ◌+◌, ◌-◌, ◌*◌, ◌/◌, ◌%◌, ◌<◌, ◌≤◌, ◌^◌, Bool, true, false, List, [], ◌∷◌, length, get_or, take, Some}
use Rattle.std.proofs.Common.{None, Option}
use Rattle.std.proofs.Common.{inl, inr, refl, sym, ap, subst, ◌∙◌, arith}
use Rattle.std.specs.Prelude.{◌||◌, slice_index, is_some}
use Rattle.std.specs.List.{AllByRecursion}
use Rattle.std.specs.Option.{option_map}
use Rattle.std.proofs.lemmas.Bool.{cases_Bool, cases_eq}
use Rattle.std.proofs.lemmas.List.{get_or_default}
use Rattle.guest_windows.specs.Windows.{Window, has, inside, read_at, byte_at}
use Rattle.guest_windows.specs.Zeros.{AreZero, AreZeroFrom, IsZeroIn}
use Rattle.guest_windows.specs.Fields.{window, windows, NoneHeldIn}
use Rattle.guest_windows.specs.Pages.{rows, chunk_row, page_row, byte_in}
use Rattle.guest_windows.specs.declared.frame.Frame.{Frame}
use Rattle.guest_windows.proofs.Laws.{is_some-read_at}
use Rattle.guest_windows.proofs.Frames.{inside_is_low}
use Rattle.guest_windows.proofs.Mixed.{byte_here, byte_later}
use Rattle.guest_windows.proofs.Sparse.{length-bytes, byte_of}
use Rattle.guest_windows.proofs.Fitting.{fits_frame}

-- a page that isn't held
pub none_in_page : (rs : List (List (List ℕ))) (page i : ℕ) → page_row rs page ≡ [] → i / 65536 ≡ page → byte_in rs i ≡ 0
none_in_page rs page i none is = ap (λ (r : List ℕ). get_or r (i % 65536) 0) (ap (λ (k : ℕ). page_row rs k) is ∙ none)

-- the pages of a chunk that isn't
pub none_in_chunk : (rs : List (List (List ℕ))) (page p : ℕ) → chunk_row rs page ≡ [] → p / 4096 ≡ page / 4096 → page_row rs p ≡ []
none_in_chunk rs page p none is = ap (λ (c : List (List ℕ)). get_or c (p % 4096) []) (ap (λ (k : ℕ). get_or rs k []) is ∙ none)

-- a window whose bytes before an address lie before those asked for, or in pages that aren't held
pub zero_in : (f : Frame) (from start page high : ℕ) → start ≡ from - f.base → ((i : ℕ) → i < f.len → f.base + i < high → (i < start) ⊎ (i < 65536 * page))
    → ((i : ℕ) → start / 65536 ≤ i / 65536 → i < f.len → i / 65536 < page → byte_in (rows f.groups.items) i ≡ 0) → IsZeroIn from high (window f)
zero_in f from start page high is each none a low lt e =
    let fit = fits_frame f a 1 e in
    let i : ℕ = a - f.base in
    let below : i < f.len = omega (arith, fit.above, fit.below) in
    let place : f.base + i < high = omega (arith, fit.above, lt) in
    let after : start ≤ i = omega (arith, low, is) in
    byte_of f.len (rows f.groups.items) i below
    ∙ none i (omega (arith, after)) below (elim (each i below place) [
      | inl before ↦ absurd (omega (arith, before, after))
      | inr in_page ↦ omega
          (arith, in_page)
    ])

pub has_at : (f : Frame) (a n : ℕ) → f.base ≤ a → a + n ≤ f.base + f.len → has (window f) a n ≡ true
has_at f a n above fits =
    let long : length (window f).bytes ≡ f.len = length-bytes f.len (rows f.groups.items) in
    let below : a + n ≤ f.base + length (window f).bytes = omega (arith, fits, long) in
    grind (arith, above, below)

pub has_in : (f : Frame) (at n : ℕ) → at + n ≤ f.len → has (window f) (f.base + at) n ≡ true
has_in f at n fits = has_at f (f.base + at) n (omega arith) (omega (arith, fits))

-- ---- one window after another

pub zero_less : (from low high : ℕ) (w : Window) → low ≤ high → IsZeroIn from high w → IsZeroIn from low w
zero_less from low high w le none a ge lt e = none a ge (omega (arith, le, lt)) e

pub zeros_less : (from low high : ℕ) (ws : List Window) → low ≤ high → AllByRecursion (IsZeroIn from high) ws → AllByRecursion (IsZeroIn from low) ws
zeros_less from low high [] le all = tt
zeros_less from low high (w ∷ ws) le all = (λ a ge lt e. all.0 a ge (omega (arith, le, lt)) e, zeros_less from low high ws le all.1)

pub zeros_more : (from high : ℕ) (fs : List Frame) (i : ℕ) (d : Frame) → i < length fs → AllByRecursion (IsZeroIn from high) (windows (take i fs))
    → IsZeroIn from high (window (get_or fs i d)) → AllByRecursion (IsZeroIn from high) (windows (take (i + 1) fs))
zeros_more from high [] i d lt all one = absurd (omega (arith, lt))
zeros_more from high (f ∷ fs) zero d lt all one =
    let is : suc 0 ≡ 0 + 1 = omega arith in
    subst (λ (k : ℕ). AllByRecursion (IsZeroIn from high) (windows (take k (f ∷ fs)))) is (one, tt)
zeros_more from high (f ∷ fs) (suc i) d lt all one =
    let is : suc (i + 1) ≡ suc i + 1 = omega arith in
    subst (λ (k : ℕ). AllByRecursion (IsZeroIn from high) (windows (take k (f ∷ fs)))) is (all.0, zeros_more from high fs i d (omega (arith, lt)) all.1 one)

pub has_inside : (fs : List Frame) (i a n : ℕ) (d : Frame) → i < length fs → has (window (get_or fs i d)) a n ≡ true → inside (windows fs) a n ≡ true
has_inside [] i a n d lt e = absurd (omega (arith, lt))
has_inside (f ∷ fs) zero a n d lt e = ap (λ (b : Bool). b || inside (windows fs) a n) e
has_inside (f ∷ fs) (suc i) a n d lt e = ap (λ (b : Bool). has (window f) a n || b) (has_inside fs i a n d (omega (arith, lt)) e) ∙ or_true (has (window f) a n)
  where
    or_true : (b : Bool) → (b || true) ≡ true
    or_true true = refl
    or_true false = refl

-- ---- pages that aren't held

pub none_less : (from low high : ℕ) (f : Frame) → low ≤ high → NoneHeldIn from high f → NoneHeldIn from low f
none_less from low high f le none i below ge lt = none i below ge (omega (arith, le, lt))

pub one_more : (fs : List Frame) (i j : ℕ) (f d : Frame) (low high : ℕ) → i < length fs → j < i + 1 → f ≡ get_or fs i f
    → ((k : ℕ) (e : Frame) → k < i → NoneHeldIn low high (get_or fs k e)) → NoneHeldIn low high f → NoneHeldIn low high (get_or fs j d)
one_more fs i j f d low high lt few is before here =
    elim (cases_eq j i) [
      | inl same ↦
          subst (λ (k : ℕ). NoneHeldIn low high (get_or fs k d)) (sym same) (subst (NoneHeldIn low high) (is ∙ get_or_default fs i f d lt) here)
      | inr other ↦ before j d (omega (arith, few, other))
    ]

-- ---- memory

pub all_zero : (ws : List Window) (low high : ℕ) → AllByRecursion (IsZeroIn low high) ws → AreZero ws low high
all_zero [] low high all a x ge lt e = absurd cc
all_zero (w ∷ ws) low high all a x ge lt e =
    elim (cases_Bool (has w a 1)) [
      | inl here ↦ same_item (slice_index w.bytes (a - w.base)) x (sym (byte_here w ws a here) ∙ e) ∙ all.0 a ge lt here
      | inr not_here ↦ all_zero ws low high all.1 a x ge lt (sym (byte_later w ws a not_here) ∙ e)
    ]
  where
    same_item : (y x : ℕ) → Some y ≡ Some x → x ≡ y
    same_item y x is = cc

byte_inside : (ws : List Window) (a x : ℕ) → byte_at ws a ≡ Some x → inside ws a 1 ≡ true
byte_inside ws a x e = sym (is_some-read_at ws a 1) ∙ some_of (read_at ws a 1) e
  where
    some_of : (o : Option (List ℕ)) → option_map (λ bytes. slice_index bytes 0) o ≡ Some x → is_some o ≡ true
    some_of None is = absurd cc
    some_of (Some bytes) is = refl

-- no byte lies above all memory
pub all_zero_from : (fs : List Frame) (low : ℕ) → AllByRecursion (IsZeroIn low (2 ^ 52)) (windows fs) → AreZeroFrom (windows fs) low
all_zero_from fs low all a x ge e =
    let ends = inside_is_low fs a 1 (byte_inside (windows fs) a x e) in
    all_zero (windows fs) low (2 ^ 52) all a x ge (omega (arith, ends)) e
