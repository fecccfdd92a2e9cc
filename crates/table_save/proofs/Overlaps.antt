-- How many areas one meets is told by sorted bases and ends; one that meets no other clashes with none.
use Rattle.std.proofs.Common.{◌≡◌, ℕ, zero, suc, ◌+◌, ◌-◌, ◌<◌, ◌≤◌, Bool, true, false, cond, List, [], ◌∷◌, ◌++◌, map, take, drop, length, get_or, Option}
use Rattle.std.proofs.Common.{Some, None, Result, Ok, Err, refl, sym, ap, ◌∙◌, inl, inr, arith}
use Rattle.std.specs.Prelude.{◌&&◌, ◌||◌, nat_lt, find, count_by}
use Rattle.std.specs.List.{AllWithin}
use Rattle.std.proofs.Math.Seq.{take-length}
use Rattle.std.proofs.lemmas.List.{append_assoc}
use Rattle.std.proofs.lemmas.Bool.{ltb-false, lt-ltb, le-ltb, cases_lt}
use Rattle.std.proofs.lemmas.List.Sums.{sum_by-cons}
use Rattle.std.proofs.lemmas.List.Sorted.{sum_by-IsPermutation}
use Rattle.its_plain.specs.declared.area.Area.{Area}
use Rattle.its_plain.specs.declared.fault.SaveFault.{SaveFault}
use Rattle.its_plain.specs.declared.fault.SaveFault.TheVariants.{Overlap}
use Rattle.its_plain.specs.Regions.{clash, none_overlap}
use Rattle.table_save.specs.Checked.{clash_fault}
use Rattle.table_save.specs.Edges.{Edges, AreEdges, end_of, chosen, meets, met, meets_another}

-- ---- counts

abbrev weight : Bool → ℕ
weight b = cond b 1 0

apart : (w x y : Bool) → (x && y) ≡ false → (w && x && y) ≡ false
apart true x y e = e
apart false x y e = refl

counts_none : (b : Bool) → weight b ≡ 0 → b ≡ false
counts_none true e = absurd (omega arith)
counts_none false e = refl

counted_more : (p : ℕ → Bool) (x : ℕ) (xs : List ℕ) (b : Bool) → p x ≡ b → count_by p (x ∷ xs) ≡ cond b 1 0 + count_by p xs
counted_more p x xs b is = sum_by-cons (λ y. cond (p y) 1 0) x xs ∙ ap (λ t. cond t 1 0 + count_by p xs) is

-- where those that pass stand first, there are as many as the place at which they end
pub counted : (p : ℕ → Bool) (xs : List ℕ) (i : ℕ) → i ≤ length xs → AllWithin (λ x. p x ≡ true) xs 0 i → AllWithin (λ x. p x ≡ false) xs i (length xs)
    → i ≡ count_by p xs
counted p [] zero le pass fail = refl
counted p [] (suc i) le pass fail = absurd (omega arith)
counted p (x ∷ xs) zero le pass fail =
    let here = counted_more p x xs false (fail 0 x (omega arith) (omega arith)) in
    let rest = counted p xs zero (omega arith) (λ k d a b. absurd (omega arith)) (λ k d a b. fail (suc k) d (omega arith) (omega arith)) in
    omega arith
counted p (x ∷ xs) (suc i) le pass fail =
    let here = counted_more p x xs true (pass 0 x (omega arith) (omega arith)) in
    let rest = counted p xs i (omega arith) (λ k d a b. pass (suc k) d (omega arith) (omega arith)) (λ k d a b. fail (suc k) d (omega arith) (omega arith)) in
    omega arith

counted_map : (p : ℕ → Bool) (f : Area → ℕ) (areas : List Area) → count_by p (map f areas) ≡ count_by (λ a. p (f a)) areas
counted_map p f [] = refl
counted_map p f (a ∷ areas) =
    sum_by-cons (λ y. cond (p y) 1 0) (f a) (map f areas) ∙ ap (λ n. cond (p (f a)) 1 0 + n) (counted_map p f areas)
    ∙ sym (sum_by-cons (λ b. cond (p (f b)) 1 0) a areas)

module _ (a : Area) (some : a.base < end_of a) where
  -- an area begins before the end of this one where it ends by its base, or meets it
  begun_is : (b : Area) → weight (nat_lt b.base (end_of a)) ≡ weight (nat_lt (end_of b) (a.base + 1)) + weight (meets a b)
  begun_is b =
      elim (cases_lt a.base (end_of b)) [
        | inl over ↦
            let one = ap (λ t. weight (t && nat_lt b.base (end_of a))) (lt-ltb a.base (end_of b) over) in
            let two = ap weight (le-ltb (end_of b) (a.base + 1) (omega arith)) in
            omega (arith, one, two)
        | inr before ↦
            let one = ap (λ t. weight (t && nat_lt b.base (end_of a))) (le-ltb a.base (end_of b) before) in
            let two = ap weight (lt-ltb (end_of b) (a.base + 1) (omega arith)) in
            let three = ap weight (lt-ltb b.base (end_of a) (omega arith)) in
            omega (arith, one, two, three)
      ]

  all_begun : (areas : List Area) → count_by (λ b. nat_lt b.base (end_of a)) areas ≡ count_by (λ b. nat_lt (end_of b) (a.base + 1)) areas + met a areas
  all_begun [] = refl
  all_begun (b ∷ areas) =
      let one = sum_by-cons (λ c. cond (nat_lt c.base (end_of a)) 1 0) b areas in
      let two = sum_by-cons (λ c. cond (nat_lt (end_of c) (a.base + 1)) 1 0) b areas in
      let three = sum_by-cons (λ c. cond (meets a c) 1 0) b areas in
      let here = begun_is b in
      let rest = all_begun areas in
      omega (arith, one, two, three, here, rest)

  met_is : (areas : List Area) (e : Edges) → AreEdges areas e → count_by (λ x. nat_lt x (end_of a)) e.bases - count_by (λ x. nat_lt x (a.base + 1)) e.ends
      ≡ met a areas
  met_is areas e edges =
      let begun = sum_by-IsPermutation (λ x. cond (nat_lt x (end_of a)) 1 0) (map (λ b. b.base) areas) e.bases edges.bases
      ∙ counted_map (λ x. nat_lt x (end_of a)) (λ b. b.base) areas in
      let over = sum_by-IsPermutation (λ x. cond (nat_lt x (a.base + 1)) 1 0) (map end_of areas) e.ends edges.ends
      ∙ counted_map (λ x. nat_lt x (a.base + 1)) end_of areas in
      let all = all_begun areas in
      omega (arith, begun, over, all)

  -- the same of numbers that were counted
  pub met_so : (areas : List Area) (e : Edges) (bases ends : List ℕ) (low high begun ended : ℕ) → AreEdges areas e → bases ≡ e.bases → ends ≡ e.ends
      → low ≡ a.base → high ≡ end_of a
      → begun ≡ count_by (λ x. nat_lt x high) bases → ended ≡ count_by (λ x. nat_lt x (low + 1)) ends → begun - ended ≡ met a areas
  met_so areas e bases ends low high begun ended edges bases_are ends_are low_is high_is begun_so ended_so =
      let one = begun_so ∙ ap (λ n. count_by (λ x. nat_lt x n) bases) high_is ∙ ap (count_by (λ x. nat_lt x (end_of a))) bases_are in
      let two = ended_so ∙ ap (λ n. count_by (λ x. nat_lt x (n + 1)) ends) low_is ∙ ap (count_by (λ x. nat_lt x (a.base + 1))) ends_are in
      let is = met_is areas e edges in
      omega (arith, one, two, is)

  -- ---- one that meets no other clashes with none

  meets_itself : meets a a ≡ true
  meets_itself = ap (λ t. t && t) (lt-ltb a.base (end_of a) some)

  -- none of those that count shares a byte with it
  clear : (w : Bool) → a.is_written ≡ w → (areas : List Area) → met a (chosen w areas) ≡ 0 → find (clash a) areas ≡ None
  clear w is [] none = refl
  clear w is (b ∷ areas) none =
      let one : clash a b ≡ false × (met a (chosen w areas) ≡ 0) =
      elim (w || b.is_written) as (λ t. (w || b.is_written) ≡ t → met a (cond t (b ∷ chosen w areas) (chosen w areas)) ≡ 0 → (clash a b ≡ false)
      × (met a (chosen w areas) ≡ 0)) [
        | true ↦ λ e zero_is.
            let split = sum_by-cons (λ c. cond (meets a c) 1 0) b (chosen w areas) in
            let here : weight (meets a b) ≡ 0 = omega (arith, split, zero_is) in (
              apart (a.is_written || b.is_written) (nat_lt a.base (end_of b)) (nat_lt b.base (end_of a)) (counts_none (meets a b) here),
              omega
                  (arith, split, zero_is),
            )
        | false ↦ λ e zero_is. (
          ap (λ v. (v || b.is_written) && nat_lt a.base (end_of b) && nat_lt b.base (end_of a)) is
              ∙ ap (λ v. v && nat_lt a.base (end_of b) && nat_lt b.base (end_of a)) e,
          zero_is,
        )
      ] refl none
      in ap (λ t. cond t (Some b) (find (clash a) areas)) one.0 ∙ clear w is areas one.1

  chosen_at : (w : Bool) → a.is_written ≡ w → (rest : List Area) → met a (chosen w (a ∷ rest)) ≡ cond w 1 0 + met a (chosen w rest)
  chosen_at true is rest = sum_by-cons (λ c. cond (meets a c) 1 0) a (chosen true rest) ∙ ap (λ t. cond t 1 0 + met a (chosen true rest)) meets_itself
  chosen_at false is rest = let here = ap (λ t. met a (cond t (a ∷ chosen false rest) (chosen false rest))) is in omega (arith, here)

  -- those from one on are no more than all
  met_front : (w : Bool) (before rest : List Area) → met a (chosen w rest) ≤ met a (chosen w (before ++ rest))
  met_front w [] rest = omega arith
  met_front w (b ∷ before) rest =
      let more = met_front w before rest in
      elim (w || b.is_written) as (λ t. met a (chosen w rest) ≤ met a (cond t (b ∷ chosen w (before ++ rest)) (chosen w (before ++ rest)))) [
        | true ↦ let split = sum_by-cons (λ c. cond (meets a c) 1 0) b (chosen w (before ++ rest)) in omega (arith, split, more)
        | false ↦ more
      ]

  alone : (before rest : List Area) → meets_another a (before ++ a ∷ rest) ≡ false → find (clash a) rest ≡ None
  alone before rest e =
      let all = met_front a.is_written before (a ∷ rest) in
      let here = chosen_at a.is_written refl rest in
      let few = ltb-false (cond a.is_written 1 0) (met a (chosen a.is_written (before ++ a ∷ rest))) e in
      clear a.is_written refl rest (omega (arith, all, here, few))

-- ---- a step of the search

abbrev overlap_or : Area → Option Area → Result (Unit {0}) SaveFault → Result (Unit {0}) SaveFault
overlap_or a None rest = rest
overlap_or a (Some b) rest = Err (Overlap a.region b.region)

found : (a : Area) (o : Option Area) (rest : Result (Unit {0}) SaveFault) (f : SaveFault) → clash_fault a o ≡ Err f → overlap_or a o rest ≡ Err f
found a None rest f e = absurd cc
found a (Some b) rest f e = e

missed : (a : Area) (o : Option Area) (rest : Result (Unit {0}) SaveFault) → clash_fault a o ≡ Ok tt → overlap_or a o rest ≡ rest
missed a None rest e = refl
missed a (Some b) rest e = absurd cc

-- the first of a list, and the others
front : (rest : List Area) (a : Area) → 1 ≤ length rest → a ≡ get_or rest 0 a → a ∷ take (length rest - 1) (drop 1 rest) ≡ rest
front [] a some is = absurd (omega arith)
front (b ∷ rest) a some is =
    let n : length (b ∷ rest) - 1 ≡ length rest = omega arith in
    ap (λ k. a ∷ take k rest) n ∙ ap (λ x. x ∷ take (length rest) rest) is ∙ ap (λ xs. b ∷ xs) (take-length rest)

module _ (areas before rest : List Area) (a : Area) (some : 1 ≤ length rest) (is : a ≡ get_or rest 0 a) (at : areas ≡ before ++ rest)
    (so_far : none_overlap rest ≡ none_overlap areas) where
  abbrev pub others : List Area
  others = take (length rest - 1) (drop 1 rest)

  split : before ++ a ∷ others ≡ areas
  split = ap (λ xs. before ++ xs) (front rest a some is) ∙ sym at

  from_here : overlap_or a (find (clash a) others) (none_overlap others) ≡ none_overlap areas
  from_here = ap none_overlap (front rest a some is) ∙ so_far

  pub all_again : areas ≡ (before ++ a ∷ []) ++ others
  all_again = sym (append_assoc before (a ∷ []) others ∙ split)

  pub clashes : (f : SaveFault) → clash_fault a (find (clash a) others) ≡ Err f → none_overlap areas ≡ Err f
  clashes f e = sym from_here ∙ found a (find (clash a) others) (none_overlap others) f e

  pub tried : clash_fault a (find (clash a) others) ≡ Ok tt → none_overlap others ≡ none_overlap areas
  tried e = sym (missed a (find (clash a) others) (none_overlap others) e) ∙ from_here

  pub untried : a.base < end_of a → meets_another a areas ≡ false → none_overlap others ≡ none_overlap areas
  untried has e = tried (ap (clash_fault a) (alone a has before others (ap (meets_another a) split ∙ e)))
