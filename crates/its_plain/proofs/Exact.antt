-- Tests that tell equal values from others.
use Rattle.std.proofs.Common.{◌≡◌, ℕ, Bool, true, false, ◌&&◌, ◌==◌, List, [], ◌∷◌, refl, sym, ap, ◌∙◌, ◌↔◌, IsTrue}
use mathlib.Core.Bool.{false≢true}
use mathlib.Core.Logic.{inl, inr}
use Rattle.std.proofs.lemmas.Bool.{eqb-true, eq-eqb}
use denote.Struct.Field.{Field}
use denote.Enum.Declared.{Record, Choice, values_one}
use denote.Enum.Compared.{Each, by}

pub record Exact {K : Type 0} (E : K → K → Bool) : Type 0 where
  pub same : (x y : K) → E x y ≡ true → x ≡ y
  pub self : (x : K) → E x x ≡ true

abbrev pub AllExact : (Fss : List (List Field)) → Each Bool Fss → Type 0
AllExact [] es = Unit {0}
AllExact (Fs ∷ Fss) es = Exact es.0 × AllExact Fss es.1

choice_same : (Fss : List (List Field)) (es : Each Bool Fss) → AllExact Fss es → (c d : Choice Fss) → by false false Fss es c d ≡ true → c ≡ d
choice_same [] es all c d p = absurd c
choice_same (Fs ∷ Fss) es all (inl x) (inl y) p = ap inl (all.0.same x y p)
choice_same (Fs ∷ Fss) es all (inl x) (inr y) p = absurd (false≢true p)
choice_same (Fs ∷ Fss) es all (inr x) (inl y) p = absurd (false≢true p)
choice_same (Fs ∷ Fss) es all (inr x) (inr y) p = ap inr (choice_same Fss es.1 all.1 x y p)

choice_self : (Fss : List (List Field)) (es : Each Bool Fss) → AllExact Fss es → (c : Choice Fss) → by false false Fss es c c ≡ true
choice_self [] es all c = absurd c
choice_self (Fs ∷ Fss) es all (inl x) = all.0.self x
choice_self (Fs ∷ Fss) es all (inr x) = choice_self Fss es.1 all.1 x

module _ (N : Record) (es : Each Bool N.parts) (all : AllExact N.parts es) where
  pub by_exact : Exact {K = N.D} (λ x y. by false false N.parts es (N.as_values x) (N.as_values y))
  by_exact = record {
    same = λ x y p. values_one N x y (choice_same N.parts es all (N.as_values x) (N.as_values y) p);
    self = λ x. choice_self N.parts es all (N.as_values x);
  }

-- ---- the fields of a variant

pub none : Exact {K = Unit {0}} (λ x y. true)
none = record { same = λ x y p. refl; self = λ x. refl }

pub one : {K : Type 0} {E : K → K → Bool} → Exact E → Exact {K = K × Unit {0}} (λ x y. E x.0 y.0)
one e = record { same = λ x y p i. (e.same x.0 y.0 p i, tt); self = λ x. e.self x.0 }

pub front : (a b : Bool) → (a && b) ≡ true → a ≡ true
front true b p = refl
front false b p = absurd (false≢true p)

pub rest : (a b : Bool) → (a && b) ≡ true → b ≡ true
rest true b p = p
rest false b p = absurd (false≢true p)

pub both : (a b : Bool) → a ≡ true → b ≡ true → (a && b) ≡ true
both a b p q = ap (λ (t : Bool). t && b) p ∙ q

-- one field before others
pub on_rest : {K J : Type 0} {E : K → K → Bool} {F : J → J → Bool} → Exact E → Exact F → Exact {K = K × J} (λ x y. E x.0 y.0 && F x.1 y.1)
on_rest {K} {J} {E} {F} e f = record {
  same = λ x y p i. (e.same x.0 y.0 (front (E x.0 y.0) (F x.1 y.1) p) i, f.same x.1 y.1 (rest (E x.0 y.0) (F x.1 y.1) p) i);
  self = λ x. both (E x.0 x.0) (F x.1 x.1) (e.self x.0) (f.self x.1);
}

pub two : {K J : Type 0} {E : K → K → Bool} {F : J → J → Bool} → Exact E → Exact F → Exact {K = K × (J × Unit {0})} (λ x y. E x.0 y.0 && F x.1.0 y.1.0)
two e f = on_rest e (one f)

pub three : {K J L : Type 0} {E : K → K → Bool} {F : J → J → Bool} {G : L → L → Bool} → Exact E → Exact F → Exact G
    → Exact {K = K × (J × (L × Unit {0}))} (λ x y. E x.0 y.0 && (F x.1.0 y.1.0 && G x.1.1.0 y.1.1.0))
three {K} {J} {L} {E} {F} {G} e f g = on_rest e (two f g)

-- ---- numbers

pub exact_number : Exact {K = ℕ} (λ x y. x == y)
exact_number = record { same = λ x y p. eqb-true x y p; self = λ x. eq-eqb x x refl }

-- ---- what a comparison says

pub decided : {K : Type 0} {E : K → K → Bool} → Exact E → (x y : K) (r : Bool) → r ≡ E x y → IsTrue r ↔ (x ≡ y)
decided {K} {E} e x y r is = (λ p. e.same x y (sym is ∙ p), λ q. is ∙ ap (E x) (sym q) ∙ e.self x)
