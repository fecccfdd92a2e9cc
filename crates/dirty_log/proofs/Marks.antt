-- A page that is clean after a mark has none of the bytes, and was clean before it.
use Rattle.std.proofs.Common.{◌≡◌, ◌⊎◌, ℕ, ◌+◌, ◌*◌, ◌/◌, ◌<◌, ◌≤◌, Bool, true, false, List, [], ◌∷◌, map, inl, inr, refl, sym, ap, ◌∙◌, arith}
use Rattle.std.specs.Prelude.{◌&&◌, ◌||◌, not, nat_lt, nat_le, nat_eq}
use Rattle.std.proofs.lemmas.Bool.{and_parts, or_cases, cases_Bool, leb-true, eqb-true, both_ways}
use Rattle.guest_windows.proofs.Laws.{Apart}
use Rattle.dirty_log.specs.Pages.{page_of, meets, marked, set_all, is_clean, is_dirty}
use Rattle.dirty_log.specs.declared.page.Page.{Page}

-- a byte of the stretch lies in a page that has one of its bytes
meets_inside : (address len a : ℕ) → address ≤ a → a < address + len → meets address len (page_of a) ≡ true
meets_inside address len a low high =
    let some : 0 < len = omega arith in
    let first : address / 4096 ≤ a / 4096 = omega arith in
    let last : 4096 * (a / 4096) < address + len = omega arith in
    grind (arith, some, first, last)

outside : (address len a : ℕ) → meets address len (page_of a) ≡ false → Apart address len a 1
outside address len a none =
    elim (cases_Bool (nat_le address a)) [
      | inl low ↦ elim (cases_Bool (nat_lt a (address + len))) [
        | inl high ↦ absurd (both_ways (meets address len (page_of a)) none (meets_inside address len a (leb-true address a low)
            (let h = high in grind arith)))
        | inr past ↦ inl (let h = past in grind arith)
      ]
      | inr before ↦ inr (let h = before in grind arith)
    ]

pub record Stays (address len a : ℕ) (pages : List Page) : Type 0 where
  pub apart : Apart address len a 1
  pub clean : is_clean pages (page_of a) ≡ true

neither : (x y : Bool) → not (x || y) ≡ true → (not x ≡ true) × (y ≡ false)
neither true y e = absurd cc
neither false true e = absurd cc
neither false false e = (refl, refl)

one_stays : (address len a : ℕ) (p : Page) → (nat_eq p.number (page_of a) && not (p.dirty || meets address len p.number)) ≡ true
    → Apart address len a 1 × ((nat_eq p.number (page_of a) && not p.dirty) ≡ true)
one_stays address len a p e =
    let both = and_parts (nat_eq p.number (page_of a)) (not (p.dirty || meets address len p.number)) e in
    let same : p.number ≡ page_of a = eqb-true p.number (page_of a) both.0 in
    let clean = neither p.dirty (meets address len p.number) both.1 in
    (outside address len a (ap (meets address len) (sym same) ∙ clean.1), ap (λ (b : Bool). b && not p.dirty) both.0 ∙ clean.0)

or_true : (b : Bool) → (b || true) ≡ true
or_true true = refl
or_true false = refl

pub clean_after : (address len a : ℕ) (pages : List Page) → is_clean (marked address len pages) (page_of a) ≡ true → Stays address len a pages
clean_after address len a [] e = absurd cc
clean_after address len a (p ∷ pages) e =
    elim (or_cases (nat_eq p.number (page_of a) && not (p.dirty || meets address len p.number)) (is_clean (marked address len pages) (page_of a)) e) [
      | inl here ↦
          let h = one_stays address len a p here in
          record { apart = h.0; clean = ap (λ (b : Bool). b || is_clean pages (page_of a)) h.1 }
      | inr later ↦
          let h = clean_after address len a pages later in
          record {
            apart = h.apart;
            clean = ap (λ (b : Bool). (nat_eq p.number (page_of a) && not p.dirty) || b) h.clean ∙ or_true (nat_eq p.number (page_of a) && not p.dirty);
          }
    ]

-- a page that is there is dirty or clean
pub dirty_or_clean : (n : ℕ) (pages : List Page) → is_clean (set_all false pages) n ≡ true → (is_dirty pages n ≡ true) ⊎ (is_clean pages n ≡ true)
dirty_or_clean n [] e = absurd cc
dirty_or_clean n (p ∷ pages) e =
    elim (or_cases (nat_eq p.number n && true) (is_clean (set_all false pages) n) e) [
      | inl here ↦
          let same = (and_parts (nat_eq p.number n) true here).0 in
          elim (cases_Bool p.dirty) [
            | inl dirty ↦ inl (ap (λ (b : Bool). b && p.dirty || is_dirty pages n) same ∙ ap (λ (b : Bool). b || is_dirty pages n) dirty)
            | inr clean ↦ inr (ap (λ (b : Bool). b && not p.dirty || is_clean pages n) same ∙ ap (λ (b : Bool). not b || is_clean pages n) clean)
          ]
      | inr later ↦
          elim (dirty_or_clean n pages later) [
            | inl dirty ↦ inl (ap (λ (b : Bool). (nat_eq p.number n && p.dirty) || b) dirty ∙ or_true (nat_eq p.number n && p.dirty))
            | inr clean ↦ inr (ap (λ (b : Bool). (nat_eq p.number n && not p.dirty) || b) clean ∙ or_true (nat_eq p.number n && not p.dirty))
          ]
    ]

-- where all are dirty, none is clean
pub none_clean : (n : ℕ) (f : ℕ → Page) (ns : List ℕ) → ((k : ℕ) → (f k).dirty ≡ true) → is_clean (map f ns) n ≡ false
none_clean n f [] all = refl
none_clean n f (k ∷ ns) all =
    ap (λ (b : Bool). (nat_eq (f k).number n && not b) || is_clean (map f ns) n) (all k)
    ∙ (no_and (nat_eq (f k).number n) (is_clean (map f ns) n) ∙ none_clean n f ns all)
  where
    no_and : (b c : Bool) → ((b && false) || c) ≡ c
    no_and true c = refl
    no_and false c = refl
