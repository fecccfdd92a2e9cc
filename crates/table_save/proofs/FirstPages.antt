-- The pages of a first level, in an array that has places to spare.
use Rattle.std.proofs.Common.{◌≡◌, ◌≢◌, ℕ, zero, suc, ◌+◌, ◌<◌, ◌≤◌, ◌^◌, List, take, replicate, Option, Some, None, refl, sym, subst, ◌∙◌, inl, inr, arith}
use Rattle.std.proofs.Common.{below_more}
use Rattle.std.specs.Prelude.{slice_set, length, IfSome}
use Rattle.std.specs.Option.{option_map}
use Rattle.std.proofs.lemmas.Bool.{cases_lt}
use Rattle.std.proofs.lemmas.List.{get_or-take, get_or_past, get_or-set_same, get_or-set_other, length-take-le, length-set}
use Rattle.std.proofs.lemmas.Option.{same_Some}
use Rattle.guest_windows.specs.Windows.{Window}
use Rattle.gits_regs.specs.Registers.{Registers}
use Rattle.baser_place.specs.Places.{level1_of, level1_entries, page_of}
use Rattle.its_types.specs.declared.ids.Addr.{Addr}
use Rattle.table_save.specs.Tables.{page_at, address_of, AreLowPages, ArePages, AreFirstPages}

no_page : (n k : ℕ) → page_at (replicate n None) k ≡ None
no_page zero k = refl
no_page (suc n) zero = refl
no_page (suc n) (suc k) = no_page n k

some_low : (p : Option Addr) (a : Addr) → IfSome p (λ b. b.0 < 2 ^ 52) → p ≡ Some a → a.0 < 2 ^ 52
some_low None a low is = absurd cc
some_low (Some b) a low is = subst (λ (x : Addr). x.0 < 2 ^ 52) (same_Some b a is) low

set_low : (pages : List (Option Addr)) (n : ℕ) (p : Option Addr) → n < length pages → IfSome p (λ a. a.0 < 2 ^ 52) → AreLowPages pages
    → AreLowPages (slice_set pages n p)
set_low pages n p room here low = λ k a is.
    let other : k ≢ n → a.0 < 2 ^ 52 = λ (ne : k ≢ n). low k a (sym (get_or-set_other pages n k p None ne) ∙ is) in
    elim (cases_lt k n) [
      | inl lt ↦ other (λ e. omega arith)
      | inr ge ↦ elim (cases_lt n k) [
        | inl gt ↦ other (λ e. omega arith)
        | inr le ↦
            let same : n ≡ k = omega arith in
            some_low p a here (sym (get_or-set_same pages n p None room) ∙ subst (λ (j : ℕ). page_at (slice_set pages n p) j ≡ Some a) (sym same) is)
      ]
    ]

take_low : (n : ℕ) (pages : List (Option Addr)) → n ≤ length pages → AreLowPages pages → AreLowPages (take n pages)
take_low n pages le low = λ k a is. elim (cases_lt k n) [
  | inl lt ↦ low k a (sym (get_or-take n pages k None lt) ∙ is)
  | inr ge ↦
      let size = length-take-le n pages le in
      absurd (let none : page_at (take n pages) k ≡ None = get_or_past (take n pages) k None (omega (arith, size)) in cc)
]

module _ (r : Registers) (memory : List Window) where
  pub none_first : AreFirstPages r memory 0 (replicate 128 None)
  none_first = record {
    places = refl;
    each = λ k lt. absurd (omega arith);
    low = λ k a is. absurd (let none : page_at (replicate 128 None) k ≡ None = no_page 128 k in cc);
  }

  pub one_more : (n : ℕ) (pages : List (Option Addr)) (p : Option Addr) → n < 128 → option_map address_of p ≡ page_of (level1_of r memory n)
      → IfSome p (λ a. a.0 < 2 ^ 52)
      → AreFirstPages r memory n pages → AreFirstPages r memory (n + 1) (slice_set pages n p)
  one_more n pages p lt here low first =
      let room : n < length pages = omega (arith, first.places) in
      record {
        places = length-set pages n p ∙ first.places;
        each = below_more _ _
            (λ k h. let ne : k ≢ n = λ e. omega arith in
            subst (λ (o : Option Addr). option_map address_of o ≡ page_of (level1_of r memory k)) (sym (get_or-set_other pages n k p None ne)) (first.each k h))
            (subst (λ (o : Option Addr). option_map address_of o ≡ page_of (level1_of r memory n)) (sym (get_or-set_same pages n p None room)) here);
        low = set_low pages n p room low first.low;
      }

  pub all_first : (n : ℕ) (pages : List (Option Addr)) → n ≡ level1_entries r.dev_bits → n ≤ 128 → AreFirstPages r memory n pages
      → ArePages r memory (take n pages)
  all_first n pages is le first =
      let fits : n ≤ length pages = omega (arith, first.places) in
      let size = length-take-le n pages fits in
      record {
        count = size ∙ is;
        few = omega (arith, size);
        each = λ k lt.
            let below : k < n = omega (arith, size, lt) in
            subst (λ (o : Option Addr). option_map address_of o ≡ page_of (level1_of r memory k)) (sym (get_or-take n pages k None below)) (first.each k below);
        low = take_low n pages fits first.low;
      }
