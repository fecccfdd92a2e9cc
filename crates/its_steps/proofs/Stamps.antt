-- The stamps of translators in the word's.
use Rattle.std.proofs.Common.{◌≡◌, ◌≢◌, ℕ, zero, suc, ◌<◌, eqb, cond, refl, ap, sym, ◌∙◌, subst, inl, inr, arith}
use Rattle.std.proofs.lemmas.Bool.{cond_both}
use Rattle.its_steps.specs.Facts.{OneHasAllBits, StampsAreApart}
use Rattle.its_steps.specs.Parts.{translator_count, stamp_at, stamp_with}

pub stamp_zero : (n its : ℕ) → stamp_at n 0 its ≡ 0
unfolding stamp_at
stamp_zero n its = cond_both (eqb n 2) (cond (eqb its 0) 0 0) 0 (λ (x : ℕ). x ≡ 0) (λ _. cond_both (eqb its 0) 0 0 (λ (x : ℕ). x ≡ 0) (λ _. refl) (λ _. refl))
    (λ _. refl)

pub of_one : (n stamp its : ℕ) → n ≡ 1 → stamp_at n stamp its ≡ stamp
unfolding stamp_at
of_one n stamp its e = ap (λ (k : ℕ). stamp_at k stamp its) e

pub with_one : (n stamp its new : ℕ) → n ≡ 1 → stamp_with n stamp its new ≡ new
unfolding stamp_with
with_one n stamp its new e = ap (λ (k : ℕ). stamp_with k stamp its new) e

pub one_has : OneHasAllBits
one_has s one = ((λ word its. of_one (translator_count s) word.stamp its one), (λ stamp its new. with_one (translator_count s) stamp its new one))

-- of two translators
two_own : (stamp its new : ℕ) → its < 2 → new < 4096 → stamp_at 2 (stamp_with 2 stamp its new) its ≡ new
unfolding stamp_at stamp_with
two_own stamp zero new lt low = omega arith
two_own stamp (suc zero) new lt low = omega arith
two_own stamp (suc (suc i)) new lt low = absurd (omega (arith, lt))

two_other : (stamp its new j : ℕ) → its < 2 → new < 4096 → j < 2 → j ≢ its → stamp_at 2 (stamp_with 2 stamp its new) j ≡ stamp_at 2 stamp j
unfolding stamp_at stamp_with
two_other stamp zero new zero lt low lj ne = absurd (ne refl)
two_other stamp zero new (suc zero) lt low lj ne = omega arith
two_other stamp zero new (suc (suc j)) lt low lj ne = absurd (omega (arith, lj))
two_other stamp (suc zero) new zero lt low lj ne = omega arith
two_other stamp (suc zero) new (suc zero) lt low lj ne = absurd (ne refl)
two_other stamp (suc zero) new (suc (suc j)) lt low lj ne = absurd (omega (arith, lj))
two_other stamp (suc (suc i)) new j lt low lj ne = absurd (omega (arith, lt))

pub are_apart : StampsAreApart
are_apart s stamp its new (inl one) lt most = (
  of_one n (stamp_with n stamp its new) its one ∙ with_one n stamp its new one,
  (λ j lj ne. absurd (omega (arith, one, lt, lj, ne))),
)
  where
    n : ℕ
    n = translator_count s
are_apart s stamp its new (inr two) lt most =
    subst (λ (n : ℕ). (stamp_at n (stamp_with n stamp its new) its ≡ new)
    × ((j : ℕ) → j < n → j ≢ its → stamp_at n (stamp_with n stamp its new) j ≡ stamp_at n stamp j)) (sym two.0) (
      two_own stamp its new (omega (arith, lt, two.0)) (omega (arith, most, two.1)),
      (λ j lj ne. two_other stamp its new j (omega (arith, lt, two.0))
          (omega (arith, most, two.1)) lj ne),
    )
