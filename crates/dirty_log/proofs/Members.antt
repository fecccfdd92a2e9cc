-- Each byte of memory lies in a page that is there.
use Rattle.std.proofs.Common.{◌≡◌, ◌⊎◌, ℕ, zero, suc, ◌+◌, ◌*◌, ◌/◌, ◌<◌, ◌≤◌, Bool, true, false, cond, List, [], ◌∷◌, ◌++◌, map, length, Some}
use Rattle.std.proofs.Common.{inl, inr, refl, sym, ap, subst, ◌∙◌, arith}
use Rattle.std.specs.Prelude.{◌&&◌, ◌||◌, nat_lt, nat_le, nat_eq, max}
use Rattle.std.specs.Option.{option_map}
use Rattle.std.specs.List.{list_any}
use Rattle.std.proofs.lemmas.Bool.{and_parts, or_cases, cases_Bool, eq-eqb, eqb-true}
use Rattle.guest_windows.specs.Windows.{Window, has, read_at, byte_at, extent}
use Rattle.guest_windows.proofs.Laws.{has-fits}
use Rattle.dirty_log.specs.Pages.{page_of, meets, is_there, pages_end, pages_below, pages_of, is_clean, set_all}
use Rattle.dirty_log.specs.Copies.{number_of}
use Rattle.dirty_log.specs.Listing.{is_in}
use Rattle.dirty_log.specs.declared.page.Page.{Page}

or_true : (b : Bool) → (b || true) ≡ true
or_true true = refl
or_true false = refl

in_first : (n : ℕ) (xs ys : List ℕ) → is_in n xs ≡ true → is_in n (xs ++ ys) ≡ true
in_first n [] ys e = absurd cc
in_first n (x ∷ xs) ys e =
    elim (or_cases (nat_eq x n) (is_in n xs) e) [
      | inl here ↦ ap (λ (b : Bool). b || is_in n (xs ++ ys)) here
      | inr later ↦ ap (λ (b : Bool). nat_eq x n || b) (in_first n xs ys later) ∙ or_true (nat_eq x n)
    ]

in_last : (n : ℕ) (xs : List ℕ) → is_in n (xs ++ n ∷ []) ≡ true
in_last n [] = ap (λ (b : Bool). b || false) (eq-eqb n n refl)
in_last n (x ∷ xs) = ap (λ (b : Bool). nat_eq x n || b) (in_last n xs) ∙ or_true (nat_eq x n)

-- below the bound each page that is there is listed
listed : (windows : List (ℕ × ℕ)) (n bound : ℕ) → n < bound → is_there windows n ≡ true → is_in n (pages_below windows bound) ≡ true
listed windows n zero lt e = absurd (omega arith)
listed windows n (suc k) lt e =
    elim (cases_Bool (nat_lt n k)) [
      | inl less ↦ in_first n (pages_below windows k) (cond (is_there windows k) (k ∷ []) []) (listed windows n k (let h = less in grind arith) e)
      | inr not_less ↦
          let same : n ≡ k = (let h = not_less in grind arith) in
          let here : is_there windows k ≡ true = ap (is_there windows) (sym same) ∙ e in
          ap (λ (b : Bool). is_in n (pages_below windows k ++ cond b (k ∷ []) [])) here
          ∙ subst (λ (m : ℕ). is_in m (pages_below windows k ++ k ∷ []) ≡ true) (sym same) (in_last k (pages_below windows k))
    ]

-- and each that is listed is there
split : (n : ℕ) (xs ys : List ℕ) → is_in n (xs ++ ys) ≡ true → (is_in n xs ≡ true) ⊎ (is_in n ys ≡ true)
split n [] ys e = inr e
split n (x ∷ xs) ys e =
    elim (or_cases (nat_eq x n) (is_in n (xs ++ ys)) e) [
      | inl here ↦ inl (ap (λ (b : Bool). b || is_in n xs) here)
      | inr later ↦ elim (split n xs ys later) [
        | inl first ↦ inl (ap (λ (b : Bool). nat_eq x n || b) first ∙ or_true (nat_eq x n))
        | inr last ↦ inr last
      ]
    ]

by_last : (windows : List (ℕ × ℕ)) (k n : ℕ) (b : Bool) → (is_in n (pages_below windows k) ≡ true → is_there windows n ≡ true) → is_there windows k ≡ b
    → is_in n (pages_below windows k ++ cond b (k ∷ []) []) ≡ true → is_there windows n ≡ true
by_last windows k n true below there e = elim (split n (pages_below windows k) (k ∷ []) e) [
  | inl first ↦ below first
  | inr last ↦ elim (or_cases (nat_eq k n) false last) [
    | inl same ↦ ap (is_there windows) (sym (eqb-true k n same)) ∙ there
    | inr none ↦ absurd cc
  ]
]
by_last windows k n false below there e = elim (split n (pages_below windows k) [] e) [ inl first ↦ below first | inr last ↦ absurd cc ]

below_there : (windows : List (ℕ × ℕ)) (bound n : ℕ) → is_in n (pages_below windows bound) ≡ true → is_there windows n ≡ true
below_there windows zero n e = absurd cc
below_there windows (suc k) n e = by_last windows k n (is_there windows k) (below_there windows k n) refl e

pub listed_there : (windows : List (ℕ × ℕ)) (n : ℕ) → is_in n (pages_of windows) ≡ true → is_there windows n ≡ true
unfolding pages_of
listed_there windows n e = below_there windows (pages_end windows) n e

-- and none is past it
bounded : (windows : List (ℕ × ℕ)) (n : ℕ) → is_there windows n ≡ true → n < pages_end windows
bounded [] n e = absurd cc
bounded (w ∷ ws) n e =
    elim (or_cases (meets w.0 w.1 n) (is_there ws n) e) [
      | inl here ↦
          let p = and_parts (nat_lt 0 w.1 && nat_le (page_of w.0) n) (nat_lt (4096 * n) (w.0 + w.1)) here in
          let lt : 4096 * n < w.0 + w.1 = (let h = p.1 in grind arith) in
          let most : n < (w.0 + w.1) / 4096 + 1 = omega arith in
          omega (arith, most)
      | inr later ↦ let lt = bounded ws n later in omega (arith, lt)
    ]

pub page_listed : (windows : List (ℕ × ℕ)) (n : ℕ) → is_there windows n ≡ true → is_in n (pages_of windows) ≡ true
unfolding pages_of
page_listed windows n e = listed windows n (pages_end windows) (bounded windows n e) e

-- the page of a byte is there
pub byte_there : (ws : List Window) (a x : ℕ) → byte_at ws a ≡ Some x → is_there (map extent ws) (page_of a) ≡ true
byte_there [] a x e = absurd cc
byte_there (w ∷ ws) a x e =
    elim (cases_Bool (has w a 1)) [
      | inl h ↦
          let f = has-fits w a 1 h in
          let above = f.above in let below = f.below in
          let some : 0 < length w.bytes = omega arith in
          let first : w.base / 4096 ≤ a / 4096 = omega arith in
          let last : 4096 * (a / 4096) < w.base + length w.bytes = omega arith in
          let here : meets w.base (length w.bytes) (page_of a) ≡ true = grind (arith, some, first, last) in
          ap (λ (b : Bool). b || is_there (map extent ws) (page_of a)) here
      | inr h ↦
          let later : byte_at ws a ≡ Some x = sym (ap (λ (b : Bool). option_map (λ bytes. Rattle.std.specs.Prelude.slice_index bytes 0) (cond b (Some
          (Rattle.guest_windows.specs.Windows.piece w a 1)) (read_at ws a 1))) h) ∙ e in
          ap (λ (b : Bool). meets w.base (length w.bytes) (page_of a) || b) (byte_there ws a x later) ∙ or_true (meets w.base (length w.bytes) (page_of a))
    ]

-- a page that is listed is clean once all are
pub listed_clean : (n : ℕ) (pages : List Page) → is_in n (map number_of pages) ≡ true → is_clean (set_all false pages) n ≡ true
listed_clean n [] e = absurd cc
listed_clean n (p ∷ pages) e =
    elim (or_cases (nat_eq p.number n) (is_in n (map number_of pages)) e) [
      | inl here ↦ ap (λ (b : Bool). (b && true) || is_clean (set_all false pages) n) here
      | inr later ↦ ap (λ (b : Bool). (nat_eq p.number n && true) || b) (listed_clean n pages later) ∙ or_true (nat_eq p.number n && true)
    ]
