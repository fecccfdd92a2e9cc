-- The limits of a shared machine leave room in a word for the stamps of its translators and a place.
use Rattle.std.proofs.Common.{◌≡◌, ℕ, ◌<◌, ◌≤◌, ◌^◌, ◌-◌, ◌==◌, sym, subst, arith}
use Rattle.std.proofs.lemmas.Bool.{cond_both, eqb-true}
use Rattle.its_turns.specs.Words.{IsLong}
use Rattle.its_types.specs.declared.machine.Limits.{Limits}
use Rattle.its_shared.specs.Making.{limits_of}

abbrev one : Limits
one = record { stamp_last = 2 ^ 8 - 1; place_last = 2 ^ 56 - 1 }

abbrev two : Limits
two = record { stamp_last = 2 ^ 12 - 1; place_last = 2 ^ 40 - 1 }

module _ (l : Limits) (n : ℕ) (is : l ≡ limits_of n) where
  of_both : (P : Limits → Type 0) → (n ≡ 1 → P one) → P two → P l
  of_both P first second = subst P (sym is) (cond_both (n == 1) one two P (λ e. first (eqb-true n 1 e)) (λ _. second))

  pub stamps : l.stamp_last < 2 ^ 24
  stamps = of_both (λ x. x.stamp_last < 2 ^ 24) (λ _. omega arith) (omega arith)

  pub stamps_of_two : n ≡ 2 → l.stamp_last < 4096
  stamps_of_two two_are = of_both (λ x. x.stamp_last < 4096) (λ _. omega arith) (omega arith)

  pub places : l.place_last < 2 ^ 56
  places = of_both (λ x. x.place_last < 2 ^ 56) (λ _. omega arith) (omega arith)

  pub few_stamps : IsLong l → l.stamp_last < 2 ^ 8
  few_stamps = of_both (λ x. IsLong x → x.stamp_last < 2 ^ 8) (λ _ _. omega arith) (λ long. omega (arith, long))

  pub alone : IsLong l → n ≡ 1
  alone = of_both (λ x. IsLong x → n ≡ 1) (λ same long. same) (λ long. omega (arith, long))
