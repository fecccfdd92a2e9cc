-- The first by priority of all bits, as what was found says.
use Rattle.std.proofs.Common.{◌≡◌, ℕ, suc, zero, ◌+◌, ◌-◌, ◌*◌, ◌<◌, ◌≤◌, ◌^◌, Bool, true, false, cond, List, length, Some}
use Rattle.std.proofs.Common.{None, refl}
use Rattle.std.proofs.Common.{ap, subst, ◌∙◌, inl, inr, arith}
use Rattle.std.specs.Prelude.{nat_lt, MatchOption, Option}
use Rattle.std.specs.Option.{option_map}
use Rattle.std.proofs.lemmas.Bool.{cases_eq, cases_Bool, and_parts, lt-ltb, le-ltb}
use Rattle.its_types.specs.Bitmap.{word_bit}
use Rattle.its_types.specs.Lpis.{is_enabled, priority_of, is_unmasked, first_of, first_by_priority}
use Rattle.lpi_pending.specs.Summaries.{is_ready}
use Rattle.lpi_pending.specs.Priorities.{IsBest, IsFound}
use Rattle.lpi_pending.specs.PendingSets.{lpi_bit, lpis_of}
use Rattle.lpi_pending.specs.declared.best.Best.{Best}
use Rattle.lpi_pending.proofs.Sets.{IsWithin, those, within-first, within-next, within-later}

-- what is found is one of them
record IsOne (config : List ℕ) (p : ℕ → Bool) (mask a n x : ℕ) : Type 0 where
  pub within : IsWithin a n x
  pub has : p x ≡ true
  pub unmasked : is_unmasked config mask x ≡ true

one_later : (config : List ℕ) (p : ℕ → Bool) (mask a n x : ℕ) → IsOne config p mask (a + 1) n x → IsOne config p mask a (suc n) x
one_later config p mask a n x is = record { within = within-next a n x is.within; has = is.has; unmasked = is.unmasked }

first_of_one : (config : List ℕ) (p : ℕ → Bool) (mask a n : ℕ) (rest : Option ℕ) → p a ≡ true → is_unmasked config mask a ≡ true
    → MatchOption rest (Unit {0}) (λ x. IsOne config p mask (a + 1) n x) → IsOne config p mask a (suc n) (first_of config a rest)
first_of_one config p mask a n None has unmasked is = record { within = within-first a n; has = has; unmasked = unmasked }
first_of_one config p mask a n (Some y) has unmasked is =
    elim (nat_lt (priority_of config y) (priority_of config a)) as (λ b. IsOne config p mask a (suc n) (cond b y a)) [
      | true ↦ one_later config p mask a n y is
      | false ↦ record { within = within-first a n; has = has; unmasked = unmasked }
    ]

some_one : (config : List ℕ) (p : ℕ → Bool) (mask a n : ℕ) (rest : Option ℕ) → MatchOption rest (Unit {0}) (λ x. IsOne config p mask (a + 1) n x)
    → MatchOption rest (Unit {0}) (λ x. IsOne config p mask a (suc n) x)
some_one config p mask a n None is = is
some_one config p mask a n (Some y) is = one_later config p mask a n y is

found_is_one : (config : List ℕ) (p : ℕ → Bool) (mask a n : ℕ)
    → MatchOption (first_by_priority config mask (those p a n)) (Unit {0}) (λ x. IsOne config p mask a n x)
found_is_one config p mask a zero = tt
found_is_one config p mask a (suc n) =
    let rest = found_is_one config p mask (a + 1) n in
    elim (cases_Bool (p a)) [
      | inr f ↦ rw f (some_one config p mask a n _ rest)
      | inl has ↦ rw has (elim (cases_Bool (is_unmasked config mask a)) [
        | inl unmasked ↦ rw unmasked (first_of_one config p mask a n _ has unmasked rest)
        | inr f ↦ rw f (some_one config p mask a n _ rest)
      ])
    ]

pub none_by_priority : (config : List ℕ) (p : ℕ → Bool) (mask a n : ℕ)
    → ((x : ℕ) → IsWithin a n x → p x ≡ true → is_unmasked config mask x ≡ false) → first_by_priority config mask (those p a n) ≡ None
none_by_priority config p mask a zero masked = refl
none_by_priority config p mask a (suc n) masked =
    let rest = none_by_priority config p mask (a + 1) n (λ x w. masked x (within-next a n x w)) in
    elim (cases_Bool (p a)) [
      | inl has ↦ rw (has, masked a (within-first a n) has) rest
      | inr f ↦ rw f rest
    ]

-- a first one stays where no later one comes before it
first_stays : (config : List ℕ) (p : ℕ → Bool) (mask a n : ℕ) (rest : Option ℕ) → MatchOption rest (Unit {0}) (λ x. IsOne config p mask (a + 1) n x)
    → ((y : ℕ) → IsWithin a (suc n) y → p y ≡ true → is_unmasked config mask y ≡ true → priority_of config a ≤ priority_of config y)
    → first_of config a rest ≡ a
first_stays config p mask a n None is least = refl
first_stays config p mask a n (Some y) is least =
    rw (le-ltb _ _ (least y (within-next a n y is.within) is.has is.unmasked)) refl

pub one_by_priority : (config : List ℕ) (p : ℕ → Bool) (mask a n x : ℕ) → IsWithin a n x → p x ≡ true → is_unmasked config mask x ≡ true
    → ((y : ℕ) → IsWithin a n y → p y ≡ true → is_unmasked config mask y ≡ true → priority_of config x ≤ priority_of config y)
    → ((y : ℕ) → IsWithin a n y → y < x → p y ≡ true → is_unmasked config mask y ≡ true → priority_of config x < priority_of config y)
    → first_by_priority config mask (those p a n) ≡ Some x
one_by_priority config p mask a zero x w has unmasked least before = absurd (omega (arith, w.from, w.below))
one_by_priority config p mask a (suc n) x w has unmasked least before =
    elim (cases_eq x a) [
      | inl e ↦
          let here : p a ≡ true = subst (λ (k : ℕ). p k ≡ true) e has in
          let here' : is_unmasked config mask a ≡ true = subst (λ (k : ℕ). is_unmasked config mask k ≡ true) e unmasked in
          rw (e, here, here') (ap Some (first_stays config p mask a n _ (found_is_one config p mask (a + 1) n)
          (subst (λ (k : ℕ). (y : ℕ) → IsWithin a (suc n) y → p y ≡ true → is_unmasked config mask y ≡ true
          → priority_of config k ≤ priority_of config y) e least)))
      | inr ne ↦
          let rest : first_by_priority config mask (those p (a + 1) n) ≡ Some x =
          one_by_priority config p mask (a + 1) n x (within-later a n x w ne) has unmasked (λ y v. least y (within-next a n y v))
          (λ y v. before y (within-next a n y v)) in
          let earlier : a < x = omega (arith, w.from) in
          elim (cases_Bool (p a)) [
            | inr f ↦ rw f rest
            | inl is ↦ rw is (elim (cases_Bool (is_unmasked config mask a)) [
              | inr f ↦ rw f rest
              | inl is' ↦ rw (is', rest, lt-ltb _ _ (before a (within-first a n) earlier is is')) refl
            ])
          ]
    ]

-- what was found among all bits, as an LPI
is_ready_at : (words config : List ℕ) (x : ℕ) → 8192 ≤ x → lpi_bit words x ≡ true → is_enabled config x ≡ true → is_ready words config (x - 8192) ≡ true
is_ready_at words config x from has on =
    let place : 8192 + (x - 8192) ≡ x = omega arith in
    rw (place, has, on) refl

ready_of : (words config : List ℕ) (mask y : ℕ) → IsWithin 8192 (64 * length words) y → lpi_bit words y ≡ true → is_unmasked config mask y ≡ true
    → is_ready words config (y - 8192) ≡ true
ready_of words config mask y w has unmasked = is_ready_at words config y w.from has (and_parts (is_enabled config y) _ unmasked).0

masked_of : (words config : List ℕ) (mask : ℕ) → ((y : ℕ) → y < 64 * length words → is_ready words config y ≡ true → mask ≤ priority_of config (8192 + y))
    → (y : ℕ) → IsWithin 8192 (64 * length words) y → lpi_bit words y ≡ true → is_unmasked config mask y ≡ false
masked_of words config mask least y w has =
    let place : 8192 + (y - 8192) ≡ y = omega (arith, w.from) in
    elim (cases_Bool (is_enabled config y)) [
      | inl on ↦
          let le : mask ≤ priority_of config y = subst (λ (k : ℕ). mask ≤ priority_of config k) place
          (least (y - 8192) (omega (arith, w.from, w.below)) (is_ready_at words config y w.from has on)) in
          rw (on, le-ltb _ _ le) refl
      | inr off ↦ rw off refl
    ]

found_is : (words config : List ℕ) (mask limit : ℕ) (at : Option ℕ)
    → ((y : ℕ) → y < 64 * length words → is_ready words config y ≡ true → limit ≤ priority_of config (8192 + y))
    → MatchOption at (limit ≡ mask) (λ x. IsFound words config mask (64 * length words) limit x)
    → first_by_priority config mask (lpis_of words) ≡ option_map (λ k. 8192 + k) at
found_is words config mask limit None least found =
    none_by_priority config (lpi_bit words) mask 8192 (64 * length words)
    (masked_of words config mask (λ y below ready. let le = least y below ready in omega (arith, le, found)))
found_is words config mask limit (Some x) least found =
    let both = and_parts (word_bit words x) (is_enabled config (8192 + x)) found.ready in
    let place : 8192 + x - 8192 ≡ x = omega arith in
    let below : priority_of config (8192 + x) < mask = omega (arith, found.same, found.unmasked) in
    one_by_priority config (lpi_bit words) mask 8192 (64 * length words) (8192 + x) (record { from = omega arith; below = omega (arith, found.within) })
    (ap (word_bit words) place ∙ both.0) (rw (both.1, lt-ltb _ _ below) refl)
    (λ y w has unmasked.
    let at : 8192 + (y - 8192) ≡ y = omega (arith, w.from) in
    let le : limit ≤ priority_of config y = subst (λ (k : ℕ). limit ≤ priority_of config k) at
    (least (y - 8192) (omega (arith, w.from, w.below)) (ready_of words config mask y w has unmasked)) in
    omega (arith, le, found.same))
    (λ y w earlier has unmasked.
    let at : 8192 + (y - 8192) ≡ y = omega (arith, w.from) in
    let lt : limit < priority_of config y = subst (λ (k : ℕ). limit < priority_of config k) at
    (found.before (y - 8192) (omega (arith, w.from, earlier)) (ready_of words config mask y w has unmasked)) in
    omega (arith, lt, found.same))

pub best_is : (words config : List ℕ) (mask : ℕ) (best : Best) → IsBest words config mask (64 * length words) best
    → first_by_priority config mask (lpis_of words) ≡ option_map (λ k. 8192 + k) best.at
best_is words config mask best is = found_is words config mask best.limit best.at is.least is.found
