-- Ranges that rise: a number is in one of them at most, and it is the first that ends at the number or after it.
use Rattle.std.proofs.Common.{◌≡◌, ℕ, zero, suc, ◌+◌, ◌<◌, ◌≤◌, max, Bool, true, false, cond, ◌&&◌, nat_le, nat_lt, List, [], ◌∷◌, length, get_or, take, Option, Some, None}
use Rattle.std.proofs.Common.{All, find, count_by, refl, sym, ap, ◌∙◌, arith, leb-true, leb-false, le-leb, ltb-true, ltb-false, get_or-take, length-take}
use Rattle.std.specs.List.{slice_get, AllWithin}
use Rattle.std.specs.List.Sorted.{IsPartitionedBy, IsPartitionPoint}
use Rattle.std.proofs.lemmas.Bool.{lt-leb}
use Rattle.std.proofs.lemmas.List.{get_or_default}
use Rattle.std.proofs.lemmas.Option.{slice_get-get_or, slice_get_past}
use Rattle.std.proofs.lemmas.List.Folds.{list_any_none}
use Rattle.std.proofs.lemmas.List.Sorted.{All-permutation, IsPermutation-sym, IsPartitionedBy-ltb}
use Rattle.its_plain.specs.Doorbells.{is_among}
use Rattle.its_plain.specs.Machine.{meet}
use Rattle.its_plain.specs.Apart.{AreApart}
use Rattle.its_plain.specs.Rising.{rise_from, AreRisingOf}
use Rattle.its_plain.specs.declared.desc.Requesters.{Requesters}
use Rattle.its_plain.proofs.Counted.{count_yes, count_no, two, few_too, same_found}

both : (a b : Bool) → (a && b) ≡ true → (a ≡ true) × (b ≡ true)
both true b e = (refl, e)
both false b e = absurd cc

never : (a b : Bool) → b ≡ false → (a && b) ≡ false
never true b e = e
never false b e = refl

record IsHead (low : ℕ) (r : Requesters) (rs : List Requesters) : Type 0 where
  begins : low ≤ r.first
  some : r.first ≤ r.last
  rest : rise_from (r.last + 1) rs ≡ true

parts : (low : ℕ) (r : Requesters) (rs : List Requesters) → rise_from low (r ∷ rs) ≡ true → IsHead low r rs
parts low r rs e =
    let outer = both (nat_le low r.first && nat_le r.first r.last) (rise_from (r.last + 1) rs) e in
    let inner = both (nat_le low r.first) (nat_le r.first r.last) outer.0 in
    record { begins = leb-true low r.first inner.0; some = leb-true r.first r.last inner.1; rest = outer.1 }

-- ---- all of them

all_some : (low : ℕ) (rs : List Requesters) → rise_from low rs ≡ true → All (λ r. r.first ≤ r.last) rs
all_some low [] e k d lt = absurd (omega arith)
all_some low (r ∷ rs) e zero d lt = (parts low r rs e).some
all_some low (r ∷ rs) e (suc k) d lt = all_some (r.last + 1) rs (parts low r rs e).rest k d (omega arith)

all_end : (low : ℕ) (rs : List Requesters) → rise_from low rs ≡ true → All (λ r. low ≤ r.last) rs
all_end low [] e k d lt = absurd (omega arith)
all_end low (r ∷ rs) e zero d lt = let is = parts low r rs e in omega arith
all_end low (r ∷ rs) e (suc k) d lt = let is = parts low r rs e in omega (arith, all_end (r.last + 1) rs is.rest k d (omega arith))

ends_rise : (low : ℕ) (rs : List Requesters) → rise_from low rs ≡ true → (i j : ℕ) (d : Requesters) → i ≤ j → j < length rs
    → (get_or rs i d).last ≤ (get_or rs j d).last
ends_rise low [] e i j d le lt = absurd (omega arith)
ends_rise low (r ∷ rs) e zero zero d le lt = omega arith
ends_rise low (r ∷ rs) e (suc i) zero d le lt = absurd (omega arith)
ends_rise low (r ∷ rs) e zero (suc j) d le lt = omega (arith, all_end (r.last + 1) rs (parts low r rs e).rest j d (omega arith))
ends_rise low (r ∷ rs) e (suc i) (suc j) d le lt = ends_rise (r.last + 1) rs (parts low r rs e).rest i j d (omega arith) (omega arith)

-- ---- a number of one of them

module _ (req : ℕ) where
  is_in : (r : Requesters) → r.first ≤ req → req ≤ r.last → is_among req r ≡ true
  is_in r a b = ap (λ (x : Bool). x && nat_le req r.last) (le-leb r.first req a) ∙ le-leb req r.last b

  is_before : (r : Requesters) → req < r.first → is_among req r ≡ false
  is_before r a = ap (λ (x : Bool). x && nat_le req r.last) (lt-leb r.first req a)

  is_after : (r : Requesters) → r.last < req → is_among req r ≡ false
  is_after r a = never (nat_le r.first req) (nat_le req r.last) (lt-leb req r.last a)

  none_counted : (low : ℕ) (rs : List Requesters) → rise_from low rs ≡ true → req < low → count_by (is_among req) rs ≡ 0
  none_counted low [] e lt = refl
  none_counted low (r ∷ rs) e lt =
      let is = parts low r rs e in
      count_no (is_among req) r rs (is_before r (omega arith)) ∙ none_counted (r.last + 1) rs is.rest (omega arith)

  none_found : (low : ℕ) (rs : List Requesters) → rise_from low rs ≡ true → req < low → find (is_among req) rs ≡ None
  none_found low [] e lt = refl
  none_found low (r ∷ rs) e lt =
      let is = parts low r rs e in
      ap (λ (b : Bool). cond b (Some r) (find (is_among req) rs)) (is_before r (omega arith)) ∙ none_found (r.last + 1) rs is.rest (omega arith)

  one_at_most : (low : ℕ) (rs : List Requesters) → rise_from low rs ≡ true → count_by (is_among req) rs ≤ 1
  one_at_most low [] e = omega arith
  one_at_most low (r ∷ rs) e =
      let is = parts low r rs e in
      elim (is_among req r) as (λ (q : Bool). is_among req r ≡ q → count_by (is_among req) (r ∷ rs) ≤ 1) [
        | true ↦ λ yes.
            let end = leb-true req r.last (both (nat_le r.first req) (nat_le req r.last) yes).1 in
            omega (arith, count_yes (is_among req) r rs yes, none_counted (r.last + 1) rs is.rest (omega arith))
        | false ↦ λ no. omega (arith, count_no (is_among req) r rs no, one_at_most (r.last + 1) rs is.rest)
      ] refl

  -- the range, if it begins by the number
  abbrev having : Option Requesters → Option Requesters
  having None = None
  having (Some r) = cond (nat_le r.first req) (Some r) None

  found_at : (low : ℕ) (rs : List Requesters) (at : ℕ) → rise_from low rs ≡ true → AllWithin (λ r. nat_lt r.last req ≡ true) rs 0 at
      → AllWithin (λ r. nat_lt r.last req ≡ false) rs at (length rs) → having (slice_get rs at) ≡ find (is_among req) rs
  found_at low [] at e before after = refl
  found_at low (r ∷ rs) zero e before after =
      let is = parts low r rs e in
      let end = ltb-false r.last req (after 0 r (omega arith) (omega arith)) in
      elim (nat_le r.first req) as (λ (q : Bool). nat_le r.first req ≡ q → cond q (Some r) None ≡ cond (q && nat_le req r.last) (Some r) (find (is_among req) rs)) [
        | true ↦ λ yes. sym (ap (λ (b : Bool). cond b (Some r) (find (is_among req) rs)) (le-leb req r.last end))
        | false ↦ λ no. sym (none_found (r.last + 1) rs is.rest (let low : req < r.first = leb-false r.first req no in omega arith))
      ] refl
  found_at low (r ∷ rs) (suc at) e before after =
      let is = parts low r rs e in
      let end = ltb-true r.last req (before 0 r (omega arith) (omega arith)) in
      found_at (r.last + 1) rs at is.rest (λ k d a b. before (suc k) d (omega arith) (omega arith)) (λ k d a b. after (suc k) d (omega arith) (omega arith))
      ∙ sym (ap (λ (b : Bool). cond b (Some r) (find (is_among req) rs)) (is_after r end))

  pub parted : (rs : List Requesters) → rise_from 0 rs ≡ true → IsPartitionedBy (λ r. nat_lt r.last req) rs
  parted rs e = IsPartitionedBy-ltb (λ r. r.last) rs req (ends_rise 0 rs e)

  abbrev EndsFrom : List Requesters → ℕ → Type 0
  EndsFrom rs at = IsPartitionPoint (λ r. nat_lt r.last req ≡ true) (λ r. nat_lt r.last req ≡ false) rs at

  pub found_past : (rs : List Requesters) (at : ℕ) → rise_from 0 rs ≡ true → EndsFrom rs at → length rs ≤ at → None ≡ find (is_among req) rs
  found_past rs at e ends past = sym (ap having (slice_get_past rs at past)) ∙ found_at 0 rs at e ends.0 ends.1

  pub found_here : (rs : List Requesters) (at : ℕ) → rise_from 0 rs ≡ true → EndsFrom rs at → at < length rs → (r : Requesters) → r ≡ get_or rs at r
      → cond (nat_le r.first req) (Some r) None ≡ find (is_among req) rs
  found_here rs at e ends lt r is = sym (ap having (slice_get-get_or rs at r lt ∙ ap Some (sym is))) ∙ found_at 0 rs at e ends.0 ends.1

-- ---- in whatever order

module _ (lines rising : List Requesters) (of : AreRisingOf lines rising) where
  pub finds : (req : ℕ) → find (is_among req) rising ≡ find (is_among req) lines
  finds req = same_found (is_among req) lines rising of.same (one_at_most req 0 rising of.rise)

  once : (req : ℕ) → count_by (is_among req) lines ≤ 1
  once req = few_too (is_among req) lines rising of.same (one_at_most req 0 rising of.rise)

  lines_some : All (λ r. r.first ≤ r.last) lines
  lines_some = All-permutation (λ r. r.first ≤ r.last) rising lines (IsPermutation-sym lines rising of.same) (all_some 0 rising of.rise)

  two_apart : (i n : ℕ) (d : Requesters) → i < n → n < length lines → meet (get_or lines n d) (get_or lines i d) ≡ false
  two_apart i n d low lt =
      let a = get_or lines n d in
      let b = get_or lines i d in
      let here : a.first ≤ a.last = lines_some n d lt in
      let there : b.first ≤ b.last = lines_some i d (omega arith) in
      elim (meet a b) as (λ (q : Bool). meet a b ≡ q → q ≡ false) [
        | true ↦ λ yes.
            let tests = both (nat_le a.first b.last) (nat_le b.first a.last) yes in
            let over : a.first ≤ b.last = leb-true a.first b.last tests.0 in
            let under : b.first ≤ a.last = leb-true b.first a.last tests.1 in
            let req = max a.first b.first in
            let twice = two (is_among req) lines i n d low lt (is_in req b (omega arith) (omega arith)) (is_in req a (omega arith) (omega arith)) in
            absurd (omega (arith, twice, once req))
        | false ↦ λ no. refl
      ] refl

  pub apart : AreApart lines
  apart n d lt = list_any_none (meet (get_or lines n d)) (take n lines) (λ k e below.
      let low : k < n = omega (arith, length-take n lines) in
      ap (meet (get_or lines n d)) (get_or-take n lines k e low ∙ get_or_default lines k e d (omega arith)) ∙ two_apart k n d low lt)
