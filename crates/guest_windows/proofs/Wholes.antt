-- Windows whose pages are all held, and what a copy of a page leaves of them.
use Rattle.std.proofs.Common.{◌≡◌, ℕ, zero, suc, ◌+◌, ◌-◌, ◌/◌, ◌<◌, ◌≤◌, ◌⊎◌, Bool, false, cond, List, [], ◌∷◌, ◌++◌, length, get_or, set, take, drop, map}
use Rattle.std.proofs.Common.{inl, inr, refl, sym, ap, subst, ◌∙◌, arith, eqb, length-append, length-drop}
use Rattle.std.specs.Prelude.{◌==◌}
use Rattle.std.proofs.lemmas.Bool.{cases_eq, cases_lt, cases_Bool, eq-eqb, eqb-true, cond-true, cond-false}
use Rattle.std.proofs.lemmas.List.{ext_get_or, length-take-le, get_or-take, get_or-drop, get_or_append_left, get_or-append_right, get_or-set_same}
use Rattle.std.proofs.lemmas.List.{get_or-set_other}
use Rattle.guest_windows.specs.Windows.{Window, piece, put, zeros, extent}
use Rattle.guest_windows.specs.Mixed.{mixed, mixed_window, mixed_windows}
use Rattle.guest_windows.specs.Fields.{window, windows, IsWhole, AllWhole}
use Rattle.guest_windows.specs.declared.frame.Frame.{Frame}
use Rattle.guest_windows.proofs.Mixed.{length-mixed, item_mixed}
use Rattle.guest_windows.specs.Pages.{rows}
use Rattle.guest_windows.proofs.Sparse.{length-bytes}
use Rattle.guest_windows.proofs.Splices.{splice, length-splice}

-- ---- a list with a stretch of it replaced, item by item

module _ (i : ℕ) (bs xs : List ℕ) (fits : i + length bs ≤ length xs) where
  abbrev m : ℕ
  m = length bs

  head-long : length (take i xs) ≡ i
  head-long = length-take-le i xs (omega (arith, fits))

  front-long : length (take i xs ++ bs) ≡ i + m
  front-long = omega (arith, length-append (take i xs) bs, head-long)

  splice_low : (k : ℕ) → k < i → get_or (splice i bs xs) k 0 ≡ get_or xs k 0
  splice_low k lt =
      get_or_append_left (take i xs ++ bs) (drop (i + m) xs) 0 k (omega (arith, front-long, lt))
      ∙ get_or_append_left (take i xs) bs 0 k (omega (arith, head-long, lt)) ∙ get_or-take i xs k 0 lt

  splice_mid : (k : ℕ) → i ≤ k → k < i + m → get_or (splice i bs xs) k 0 ≡ get_or bs (k - i) 0
  splice_mid k le lt =
      get_or_append_left (take i xs ++ bs) (drop (i + m) xs) 0 k (omega (arith, front-long, lt))
      ∙ get_or-append_right (take i xs) bs i k 0 head-long le

  splice_high : (k : ℕ) → i + m ≤ k → get_or (splice i bs xs) k 0 ≡ get_or xs k 0
  splice_high k le =
      let place : i + m + (k - (i + m)) ≡ k = omega (arith, le) in
      get_or-append_right (take i xs ++ bs) (drop (i + m) xs) (i + m) k 0 front-long le
      ∙ get_or-drop (i + m) xs (k - (i + m)) 0 ∙ ap (λ (j : ℕ). get_or xs j 0) place

not_eqb : (x y : ℕ) → (x ≡ y → ⊥) → eqb x y ≡ false
not_eqb x y not = elim (cases_Bool (eqb x y)) [ inl is ↦ absurd (not (eqb-true x y is)) | inr isnt ↦ isnt ]

-- ---- the bytes of a page from another window

module _ (page : ℕ) (v w : Window) (base : v.base ≡ w.base) (size : length v.bytes ≡ length w.bytes) where
  abbrev test : ℕ → Bool
  test a = a / 4096 == page

  abbrev all : List ℕ
  all = mixed test w.base v.bytes w.bytes

  item : (k : ℕ) → k < length w.bytes → get_or all k 0 ≡ cond (test (w.base + k)) (get_or v.bytes k 0) (get_or w.bytes k 0)
  item k lt = item_mixed test w.base k v.bytes w.bytes (omega (arith, size, lt)) lt

  from_first : (k : ℕ) → k < length w.bytes → (w.base + k) / 4096 ≡ page → get_or all k 0 ≡ get_or v.bytes k 0
  from_first k lt is = item k lt ∙ cond-true (test (w.base + k)) _ _ (eq-eqb ((w.base + k) / 4096) page is)

  from_second : (k : ℕ) → k < length w.bytes → ((w.base + k) / 4096 ≡ page → ⊥) → get_or all k 0 ≡ get_or w.bytes k 0
  from_second k lt not = item k lt ∙ cond-false (test (w.base + k)) _ _ (not_eqb ((w.base + k) / 4096) page not)

  long : length all ≡ length w.bytes
  long = length-mixed test w.base v.bytes w.bytes

  -- none
  pub none_mixed : ((k : ℕ) → k < length w.bytes → (w.base + k) / 4096 ≡ page → ⊥) → w ≡ mixed_window test v w
  none_mixed not =
      ap (λ (bs : List ℕ). record { base = w.base; bytes = bs })
      (ext_get_or 0 w.bytes all (sym long) (λ k lt. sym (from_second k lt (not k lt))))

  -- those from an address on
  pub put_mixed : (a n : ℕ) → w.base ≤ a → a + n ≤ w.base + length w.bytes
      → ((k : ℕ) → k < length w.bytes → a ≤ w.base + k → w.base + k < a + n → (w.base + k) / 4096 ≡ page)
      → ((k : ℕ) → k < length w.bytes → (w.base + k < a) ⊎ (a + n ≤ w.base + k) → (w.base + k) / 4096 ≡ page → ⊥)
      → put w a (piece v a n) ≡ mixed_window test v w
  put_mixed a n above below inside outside =
      let i : ℕ = a - w.base in
      let bs = piece v a n in
      let same : a - v.base ≡ i = omega (arith, base) in
      let bs-long : length bs ≡ n = length-take-le n (drop (a - v.base) v.bytes) (omega (arith, length-drop (a - v.base) v.bytes, base, size, above, below)) in
      let fits : i + length bs ≤ length w.bytes = omega (arith, bs-long, above, below) in
      ap (λ (xs : List ℕ). record { base = w.base; bytes = xs })
      (ext_get_or 0 (splice i bs w.bytes) all (length-splice i bs w.bytes fits ∙ sym long) (λ k lt'.
      let lt : k < length w.bytes = omega (arith, lt', length-splice i bs w.bytes fits) in
      elim (cases_lt k i) [
        | inl low ↦ splice_low i bs w.bytes fits k low ∙ sym (from_second k lt (outside k lt (inl (omega (arith, low)))))
        | inr past ↦ elim (cases_lt k (i + length bs)) [
          | inr high ↦ splice_high i bs w.bytes fits k high ∙ sym (from_second k lt (outside k lt (inr (omega (arith, high, bs-long, above)))))
          | inl mid ↦
              let there : k - i < n = omega (arith, mid, past, bs-long) in
              let place : a - v.base + (k - i) ≡ k = omega (arith, same, past) in
              splice_mid i bs w.bytes fits k past mid
              ∙ get_or-take n (drop (a - v.base) v.bytes) (k - i) 0 there ∙ get_or-drop (a - v.base) v.bytes (k - i) 0
              ∙ ap (λ (j : ℕ). get_or v.bytes j 0) place
              ∙ sym (from_first k lt (inside k lt (omega (arith, past, above)) (omega (arith, mid, bs-long, above))))
        ]
      ]))

-- ---- one window after another

pub any_default : (fs : List Frame) (at : ℕ) (d e : Frame) → at < length fs → get_or fs at d ≡ get_or fs at e
any_default [] at d e lt = absurd (omega (arith, lt))
any_default (f ∷ fs) zero d e lt = refl
any_default (f ∷ fs) (suc at) d e lt = any_default fs at d e (omega (arith, lt))

pub sizes : (os fs : List Frame) → map extent (windows os) ≡ map extent (windows fs) → length fs ≡ length os
sizes [] [] e = refl
sizes [] (f ∷ fs) e = absurd cc
sizes (o ∷ os) [] e = absurd cc
sizes (o ∷ os) (f ∷ fs) e = ap suc (sizes os fs cc)

pub same_place : (olds froms : List Frame) (j : ℕ) (d e : Frame) → map extent (windows olds) ≡ map extent (windows froms) → j < length olds
    → ((get_or olds j d).base ≡ (get_or froms j e).base) × ((get_or olds j d).len ≡ (get_or froms j e).len)
same_place olds froms j d e same lt = places olds froms j same lt
  where
    places : (os fs : List Frame) (i : ℕ) → map extent (windows os) ≡ map extent (windows fs) → i < length os
        → ((get_or os i d).base ≡ (get_or fs i e).base) × ((get_or os i d).len ≡ (get_or fs i e).len)
    places [] fs i h less = absurd (omega (arith, less))
    places (o ∷ os) [] i h less = absurd cc
    places (o ∷ os) (f ∷ fs) zero h less =
        let first : extent (window o) ≡ extent (window f) = cc in (
          ap (λ (x : ℕ × ℕ). x.0) first,
          sym (length-bytes o.len (rows o.groups.items)) ∙ ap (λ (x : ℕ × ℕ). x.1) first ∙ length-bytes f.len (rows f.groups.items),
        )
    places (o ∷ os) (f ∷ fs) (suc i) h less =
        let rest : map extent (windows os) ≡ map extent (windows fs) = cc in
        let lt' : i < length os = omega (arith, less) in
        places os fs i rest lt'

module _ (fs : List Frame) (at : ℕ) (g : Frame) (there : at < length fs) where
  -- those before it, and it
  pub done_set : (P : ℕ → Frame → Frame → Type 0) → ((j : ℕ) (d : Frame) → j < at → P j d (get_or fs j d)) → ((d : Frame) → P at d g) → (j : ℕ) (d : Frame)
      → j < at + 1 → P j d (get_or (set fs at g) j d)
  done_set P done here j d lt =
      elim (cases_eq j at) [
        | inl is ↦ subst (λ (k : ℕ). P k d (get_or (set fs at g) k d)) (sym is) (subst (λ (f : Frame). P at d f) (sym (get_or-set_same fs at g d there))
            (here d))
        | inr not ↦ subst (λ (f : Frame). P j d f) (sym (get_or-set_other fs at j g d not)) (done j d (omega (arith, lt, not)))
      ]

  pub left_set : (olds : List Frame) → ((j : ℕ) (d : Frame) → at ≤ j → get_or fs j d ≡ get_or olds j d) → (j : ℕ) (d : Frame) → at + 1 ≤ j
      → get_or (set fs at g) j d ≡ get_or olds j d
  left_set olds left j d le = get_or-set_other fs at j g d (λ is. omega (arith, le, is)) ∙ left j d (omega (arith, le))

  pub whole_set : AllWhole fs → IsWhole g → (j : ℕ) (d : Frame) → j < length fs → IsWhole (get_or (set fs at g) j d)
  whole_set all whole j d lt =
      elim (cases_eq j at) [
        | inl is ↦ subst (λ (f : Frame). IsWhole f) (sym (ap (λ (k : ℕ). get_or (set fs at g) k d) is ∙ get_or-set_same fs at g d there)) whole
        | inr not ↦ subst (λ (f : Frame). IsWhole f) (sym (get_or-set_other fs at j g d not)) (all j d lt)
      ]

pub zeros_each : (news olds : List Frame) → length news ≡ length olds
    → ((j : ℕ) (d : Frame) → j < length olds → window (get_or news j d) ≡ zeros (extent (window (get_or olds j d))))
    → windows news ≡ map zeros (map extent (windows olds))
zeros_each [] [] size each = refl
zeros_each [] (o ∷ os) size each = absurd cc
zeros_each (n ∷ ns) [] size each = absurd cc
zeros_each (n ∷ ns) (o ∷ os) size each =
    λ i. each 0 n (omega arith) i ∷ zeros_each ns os (omega (arith, size)) (λ j d lt. each (suc j) d (omega (arith, lt))) i

pub mixed_each : (test : ℕ → Bool) (news froms olds : List Frame) → length news ≡ length olds → length froms ≡ length olds
    → ((j : ℕ) (d : Frame) → j < length olds → window (get_or news j d) ≡ mixed_window test (window (get_or froms j d)) (window (get_or olds j d)))
    → windows news ≡ mixed_windows test (windows froms) (windows olds)
mixed_each test [] [] [] size also each = refl
mixed_each test [] froms (o ∷ os) size also each = absurd cc
mixed_each test (n ∷ ns) froms [] size also each = absurd cc
mixed_each test [] (f ∷ fs) [] size also each = absurd cc
mixed_each test (n ∷ ns) [] (o ∷ os) size also each = absurd cc
mixed_each test (n ∷ ns) (f ∷ fs) (o ∷ os) size also each =
    λ i. each 0 n (omega arith) i ∷ mixed_each test ns fs os (omega (arith, size)) (omega (arith, also)) (λ j d lt. each (suc j) d (omega (arith, lt))) i
