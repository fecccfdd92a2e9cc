-- The places of stretches.
use Rattle.std.proofs.Common.{◌≡◌, ℕ, zero, suc, ◌+◌, ◌-◌, ◌^◌, ◌<◌, ◌≤◌, Bool, true, eqb, List, [], ◌∷◌, ◌++◌, take, length, get_or, refl, sym, ap, ◌∙◌, inl, inr, arith}
use Rattle.std.specs.List.{range_with_len}
use Rattle.std.specs.List.Sorted.{IsStrictlyIncreasing}
use Rattle.std.specs.Prelude.{◌||◌}
use Rattle.std.proofs.lemmas.Bool.{cases_lt, eq-eqb, or_right}
use Rattle.std.proofs.lemmas.List.{length-append, get_or_append_left, get_or-append-add}
use Rattle.std.proofs.lemmas.List.FromFn.{length-range_with_len, get_or-range_with_len}
use Rattle.dirty_log.specs.Stretches.{run, numbers, AreLaid, AreSmall}
use Rattle.dirty_log.specs.Listing.{is_in}
use Rattle.dirty_log.specs.declared.stretch.Stretch.{Stretch}
use Rattle.dirty_log.proofs.Listed.{take_all}

pub length-run : (s : Stretch) → length (run s) ≡ s.end - s.first
length-run s = length-range_with_len s.first (s.end - s.first)

-- how many places the first i have
abbrev pub before : List Stretch → ℕ → ℕ
before ss i = length (numbers (take i ss))

record IsAt (from : ℕ) (ss : List Stretch) (i : ℕ) (s : Stretch) : Type 0 where
  pub place : s.place ≡ from + before ss i
  pub some : s.first < s.end
  pub next : before ss (i + 1) ≡ before ss i + (s.end - s.first)
  pub fits : before ss i + (s.end - s.first) ≤ length (numbers ss)
  pub is : (j : ℕ) → j < s.end - s.first → get_or (numbers ss) (before ss i + j) 0 ≡ s.first + j

find_at : (from : ℕ) (ss : List Stretch) (i : ℕ) (d : Stretch) → AreLaid from ss → i < length ss → IsAt from ss i (get_or ss i d)
find_at from [] i d laid lt = absurd (omega arith)
find_at from (s ∷ ss) zero d laid lt =
    let one : 0 + 1 ≡ suc 0 = omega arith in
    record {
      place = let e = laid.0 in omega (arith, e);
      some = laid.1;
      next = ap (before (s ∷ ss)) one ∙ length-append (run s) [] ∙ (let e = length-run s in omega (arith, e));
      fits = let e = length-append (run s) (numbers ss) in let long = length-run s in omega (arith, e, long);
      is = λ j below.
          let inside : 0 + j < length (run s) = let long = length-run s in omega (arith, below, long) in
          get_or_append_left (run s) (numbers ss) 0 (0 + j) inside ∙ get_or-range_with_len s.first (s.end - s.first) (0 + j) 0 (omega (arith, below))
          ∙ (let e : s.first + (0 + j) ≡ s.first + j = omega arith in e);
    }
find_at from (s ∷ ss) (suc i) d laid lt =
    let more : suc i + 1 ≡ suc (i + 1) = omega arith in
    let long = length-run s in
    let h = find_at (from + (s.end - s.first)) ss i d laid.2 (omega (arith, lt)) in
    let here = length-append (run s) (numbers (take i ss)) in
    let after = length-append (run s) (numbers (take (i + 1) ss)) in
    let all = length-append (run s) (numbers ss) in
    record {
      place = let e = h.place in omega (arith, e, here, long);
      some = h.some;
      next = ap (before (s ∷ ss)) more ∙ (let e = h.next in omega (arith, e, here, after, long));
      fits = let e = h.fits in omega (arith, e, here, all, long);
      is = λ j below.
          let split : before (s ∷ ss) (suc i) + j ≡ length (run s) + (before ss i + j) = omega (arith, here) in
          ap (λ (k : ℕ). get_or (numbers (s ∷ ss)) k 0) split ∙ get_or-append-add (run s) (numbers ss) (before ss i + j) 0 ∙ h.is j below;
    }

-- the i-th stretch, where the first has place 0
pub record IsStretch (ss : List Stretch) (i : ℕ) (s : Stretch) : Type 0 where
  pub place : s.place ≡ before ss i
  pub some : s.first < s.end
  pub next : before ss (i + 1) ≡ s.place + (s.end - s.first)
  pub fits : s.place + (s.end - s.first) ≤ length (numbers ss)
  pub is : (k : ℕ) → s.place ≤ k → k < s.place + (s.end - s.first) → get_or (numbers ss) k 0 ≡ s.first + (k - s.place)

pub stretch_at : (ss : List Stretch) (i : ℕ) (d : Stretch) → AreLaid 0 ss → i < length ss → IsStretch ss i (get_or ss i d)
stretch_at ss i d laid lt =
    let h = find_at 0 ss i d laid lt in
    let at : (get_or ss i d).place ≡ before ss i = let e = h.place in omega (arith, e) in
    record {
      place = at;
      some = h.some;
      next = let e = h.next in omega (arith, e, at);
      fits = let e = h.fits in omega (arith, e, at);
      is = λ k low below.
          let split : before ss i + (k - (get_or ss i d).place) ≡ k = omega (arith, low, at) in
          ap (λ (j : ℕ). get_or (numbers ss) j 0) (sym split) ∙ h.is (k - (get_or ss i d).place) (omega (arith, low, below));
    }

pub all_before : (ss : List Stretch) (i : ℕ) → i ≡ length ss → before ss i ≡ length (numbers ss)
all_before ss i e = ap (λ (ts : List Stretch). length (numbers ts)) (take_all ss i e)

-- ---- one more at the end

pub numbers_more : (ss : List Stretch) (s : Stretch) → numbers (ss ++ s ∷ []) ≡ numbers ss ++ run s
numbers_more [] s = nothing_more (run s)
  where
    nothing_more : (xs : List ℕ) → xs ++ [] ≡ xs
    nothing_more [] = refl
    nothing_more (x ∷ xs) = ap (λ (l : List ℕ). x ∷ l) (nothing_more xs)
numbers_more (t ∷ ss) s = ap (λ (l : List ℕ). run t ++ l) (numbers_more ss s) ∙ assoc (run t) (numbers ss) (run s)
  where
    assoc : (xs ys zs : List ℕ) → xs ++ (ys ++ zs) ≡ (xs ++ ys) ++ zs
    assoc [] ys zs = refl
    assoc (x ∷ xs) ys zs = ap (λ (l : List ℕ). x ∷ l) (assoc xs ys zs)

laid_from : (from : ℕ) (ss : List Stretch) (s : Stretch) → AreLaid from ss → s.place ≡ from + length (numbers ss) → s.first < s.end → AreLaid from (ss ++ s ∷ [])
laid_from from [] s laid at some = (omega (arith, at), some, tt)
laid_from from (t ∷ ss) s laid at some =
    let all = length-append (run t) (numbers ss) in
    let long = length-run t in
    (laid.0, laid.1, laid_from (from + (t.end - t.first)) ss s laid.2 (omega (arith, at, all, long)) some)

pub laid_more : (ss : List Stretch) (s : Stretch) → AreLaid 0 ss → s.place ≡ length (numbers ss) → s.first < s.end → AreLaid 0 (ss ++ s ∷ [])
laid_more ss s laid at some = laid_from 0 ss s laid (omega (arith, at)) some

-- ---- numbers that rise

pub rises_to : (xs : List ℕ) (p j : ℕ) → IsStrictlyIncreasing xs → p ≤ j → j < length xs → get_or xs p 0 ≤ get_or xs j 0
rises_to xs p zero h le lt =
    let e : p ≡ 0 = omega arith in
    let same : get_or xs p 0 ≡ get_or xs 0 0 = ap (λ (k : ℕ). get_or xs k 0) e in
    omega (arith, same)
rises_to xs p (suc j) h le lt =
    elim (cases_lt p (suc j)) [
      | inl less ↦
          let so_far = rises_to xs p j h (omega (arith, less)) (omega (arith, lt)) in
          let one : j + 1 ≡ suc j = omega arith in
          let up = h j (omega (arith, lt)) in
          let at : get_or xs (j + 1) 0 ≡ get_or xs (suc j) 0 = ap (λ (k : ℕ). get_or xs k 0) one in
          omega (arith, so_far, up, at)
      | inr same ↦
          let e : p ≡ suc j = omega (arith, same, le) in
          let at : get_or xs p 0 ≡ get_or xs (suc j) 0 = ap (λ (k : ℕ). get_or xs k 0) e in
          omega (arith, at)
    ]

-- ---- a number that follows the last stretch

range_more : (a n : ℕ) → range_with_len a (n + 1) ≡ range_with_len a n ++ (a + n) ∷ []
range_more a zero =
    let e : a ≡ a + 0 = omega arith in
    let one : 0 + 1 ≡ suc 0 = omega arith in
    ap (range_with_len a) one ∙ ap (λ (k : ℕ). k ∷ []) e
range_more a (suc n) =
    let e : a + 1 + n ≡ a + suc n = omega arith in
    let more : suc n + 1 ≡ suc (n + 1) = omega arith in
    ap (range_with_len a) more ∙ ap (λ (l : List ℕ). a ∷ l) (range_more (a + 1) n ∙ ap (λ (k : ℕ). range_with_len (a + 1) n ++ k ∷ []) e)

pub run_more : (s t : Stretch) (number : ℕ) → s.first ≤ s.end → number ≡ s.end → t.first ≡ s.first → t.end ≡ number + 1 → run t ≡ run s ++ number ∷ []
run_more s t number order is first end =
    let long : t.end - t.first ≡ s.end - s.first + 1 = omega (arith, order, is, first, end) in
    let last : s.first + (s.end - s.first) ≡ number = omega (arith, order, is) in
    (λ i. range_with_len (first i) (long i)) ∙ range_more s.first (s.end - s.first) ∙ ap (λ (k : ℕ). range_with_len s.first (s.end - s.first) ++ k ∷ []) last

pub run_one : (t : Stretch) (number : ℕ) → t.first ≡ number → t.end ≡ number + 1 → run t ≡ number ∷ []
run_one t number first end =
    let long : t.end - t.first ≡ suc 0 = omega (arith, first, end) in
    (λ i. range_with_len (first i) (long i))

pub run_none : (s : Stretch) (xs : List ℕ) → s.end ≤ s.first → xs ≡ xs ++ run s
run_none s xs none =
    let long : s.end - s.first ≡ 0 = omega (arith, none) in
    nothing_more xs ∙ ap (λ (n : ℕ). xs ++ range_with_len s.first n) (sym long)
  where
    nothing_more : (xs : List ℕ) → xs ≡ xs ++ []
    nothing_more [] = refl
    nothing_more (x ∷ xs) = ap (λ (l : List ℕ). x ∷ l) (nothing_more xs)

pub joined : (xs ys zs : List ℕ) → xs ++ (ys ++ zs) ≡ (xs ++ ys) ++ zs
joined [] ys zs = refl
joined (x ∷ xs) ys zs = ap (λ (l : List ℕ). x ∷ l) (joined xs ys zs)

-- ---- all are small

in_at : (xs : List ℕ) (k : ℕ) → k < length xs → is_in (get_or xs k 0) xs ≡ true
in_at [] k lt = absurd (omega (arith, lt))
in_at (x ∷ xs) zero lt = ap (λ (b : Bool). b || is_in x xs) (eq-eqb x x refl)
in_at (x ∷ xs) (suc k) lt = or_right (eqb x (get_or xs k 0)) (is_in (get_or xs k 0) xs) (in_at xs k (omega (arith, lt)))

pub all_small : (xs : List ℕ) → ((n : ℕ) → is_in n xs ≡ true → n < 2 ^ 40) → AreSmall xs
all_small xs low k lt = low (get_or xs k 0) (in_at xs k lt)
