-- How many passes are out, counted by those that were joined.
use Rattle.std.proofs.Common.{◌≡◌, ℕ, suc, ◌+◌, ◌<◌, ◌≤◌, ◌||◌, ◌&&◌, not, nat_lt, eqb, Bool, true, false, List, [], ◌∷◌, map, length, refl}
use Rattle.std.proofs.Common.{ap, sym, subst, arith, inl, inr, ne_eqb, eqb-true, ltb-true, lt-ltb}
use Rattle.std.specs.List.{AllByRecursion, IsDistinct, list_any}
use Rattle.std.proofs.lemmas.Map.Steps.{length-le_from_distinct_below}
use Rattle.its_plain.specs.declared.call.Entry.{Entry}
use Rattle.its_steps.specs.Good.{Ended, IsEnded}
use Rattle.its_steps.proofs.Found.{both_of}
use Rattle.its_turns.specs.Told.{is_joined, are_joined}

abbrev numbers : Ended → List ℕ
numbers es = map (λ x. x.0) es

neither : (a b : Bool) → (a || b) ≡ false → (a ≡ false) × (b ≡ false)
neither true b e = absurd cc
neither false b e = (refl, e)

either_is : (a b : Bool) → (a || b) ≡ true → (a ≡ false) → b ≡ true
either_is true b e no_a = absurd cc
either_is false b e no_a = e

by_test : {P : Type 0} (b : Bool) → (b ≡ true → P) → (b ≡ false → P) → P
by_test true f g = f refl
by_test false f g = g refl

negated : (a : Bool) → not a ≡ true → a ≡ false
negated true e = absurd cc
negated false e = refl

lacks_each : (n : ℕ) (es : Ended) → is_joined n es ≡ false → AllByRecursion (λ y. eqb n y ≡ false) (numbers es)
lacks_each n [] e = tt
lacks_each n (x ∷ es) e = let z = neither (eqb n x.0) (is_joined n es) e in (z.0, lacks_each n es z.1)

joined_ended : (n : ℕ) (es : Ended) → is_joined n es ≡ true → IsEnded n es
joined_ended n [] e = absurd cc
joined_ended n (x ∷ es) e = by_test (eqb n x.0) (λ is. inl (sym (eqb-true n x.0 is)))
    (λ is. inr (joined_ended n es (either_is (eqb n x.0) (is_joined n es) e is)))

-- what the test says of its first pass, and of the others
record First (made : ℕ) (x : ℕ × List (ℕ × Entry)) (es : Ended) : Type 0 where
  some_number : 0 < x.0
  given : x.0 < made
  once : is_joined x.0 es ≡ false
  others : are_joined made es ≡ true

first_of : (made : ℕ) (x : ℕ × List (ℕ × Entry)) (es : Ended) → are_joined made (x ∷ es) ≡ true → First made x es
first_of made x es e =
    let a = both_of (nat_lt 0 x.0 && nat_lt x.0 made) (not (is_joined x.0 es) && are_joined made es) e in
    let b = both_of (nat_lt 0 x.0) (nat_lt x.0 made) a.0 in
    let c = both_of (not (is_joined x.0 es)) (are_joined made es) a.1 in
    record { some_number = ltb-true 0 x.0 b.0; given = ltb-true x.0 made b.1; once = negated (is_joined x.0 es) c.0; others = c.1 }

each_once : (made : ℕ) (es : Ended) → are_joined made es ≡ true → IsDistinct eqb (numbers es)
unfolding IsDistinct
each_once made [] e = tt
each_once made (x ∷ es) e = let f = first_of made x es e in (lacks_each x.0 es f.once, each_once made es f.others)

each_given : (made : ℕ) (es : Ended) → are_joined made es ≡ true → (q : ℕ) → list_any (eqb q) (numbers es) ≡ true → q < made
each_given made [] e q among = absurd cc
each_given made (x ∷ es) e q among =
    let f = first_of made x es e in
    by_test (eqb q x.0) (λ is. subst (λ (n : ℕ). n < made) (sym (eqb-true q x.0 is)) f.given)
    (λ is. each_given made es f.others q (either_is (eqb q x.0) (list_any (eqb q) (numbers es)) among is))

no_root : (made : ℕ) (es : Ended) → are_joined made es ≡ true → AllByRecursion (λ y. eqb 0 y ≡ false) (numbers es)
no_root made [] e = tt
no_root made (x ∷ es) e = let f = first_of made x es e in (ne_eqb 0 x.0 (λ z. absurd (omega (arith, f.some_number, z))), no_root made es f.others)

with_one : (made n : ℕ) (ns : List ℕ) → n < made → ((q : ℕ) → list_any (eqb q) ns ≡ true → q < made) → (q : ℕ) → list_any (eqb q) (n ∷ ns) ≡ true → q < made
with_one made n ns lt all q among = by_test (eqb q n) (λ is. subst (λ (m : ℕ). m < made) (sym (eqb-true q n is)) lt)
    (λ is. all q (either_is (eqb q n) (list_any (eqb q) ns) among is))

numbers_long : (es : Ended) → length (numbers es) ≡ length es
numbers_long [] = refl
numbers_long (x ∷ es) = ap suc (numbers_long es)

-- the root was not joined, and so not all were
pub at_most : (made : ℕ) (es : Ended) → are_joined made es ≡ true → 0 < made → length es + 1 ≤ made
unfolding IsDistinct
at_most made es e some =
    let most : suc (length (numbers es)) ≤ made = length-le_from_distinct_below (0 ∷ numbers es) made (no_root made es e, each_once made es e)
    (with_one made 0 (numbers es) some (each_given made es e)) in
    omega (arith, most, numbers_long es)

-- where as many were joined as were split off, each was
pub all_joined : (made : ℕ) (es : Ended) → are_joined made es ≡ true → length es + 1 ≡ made → (n : ℕ) → 0 < n → n < made → IsEnded n es
unfolding IsDistinct
all_joined made es e whole n some lt = by_test (is_joined n es) (λ is. joined_ended n es is)
    (λ is.
    let most : suc (suc (length (numbers es))) ≤ made =
    length-le_from_distinct_below (0 ∷ n ∷ numbers es) made
    ((ne_eqb 0 n (λ z. absurd (omega (arith, some, z))), no_root made es e), (lacks_each n es is, each_once made es e))
    (with_one made 0 (n ∷ numbers es) (omega (arith, lt)) (with_one made n (numbers es) lt (each_given made es e))) in
    absurd (omega (arith, most, numbers_long es, whole)))

-- a pass that is split off changes none of this
pub still_joined : (made : ℕ) (es : Ended) → are_joined made es ≡ true → are_joined (made + 1) es ≡ true
still_joined made [] e = refl
still_joined made (x ∷ es) e =
    let f = first_of made x es e in
    let given : nat_lt x.0 (made + 1) ≡ true = lt-ltb x.0 (made + 1) (omega (arith, f.given)) in
    λ d. (lt-ltb 0 x.0 f.some_number d && given d) && (not (f.once d) && still_joined made es f.others d)
