-- Lists of parts held: what holds of each, and one part among the others.
use Rattle.std.proofs.Common.{◌≡◌, ◌⊎◌, List, [], ◌∷◌, ◌++◌, refl, sym, subst, inl, inr, ⊎_elim}
use Rattle.std.specs.List.{AllByRecursion}
use Rattle.its_types.specs.declared.machine.Part.{Part}
use Rattle.its_steps.specs.Contents.{Held}
use Rattle.its_steps.specs.Good.{Holds, Apart}
use Rattle.its_steps.specs.MayCommit.{AreSameParts}

-- what holds of a part that is held, by what holds of all
pub all_held : (T : Part → Type 0) (P : Held → Type 0) (xs : List Held) (p : Part) → Holds p xs → ((x : Held) → P x → T x.part) → AllByRecursion P xs → T p
all_held T P [] p h f ps = absurd h
all_held T P (x ∷ xs) p h f ps = ⊎_elim (λ (e : x.part ≡ p). subst T e (f x ps.0)) (λ (t : Holds p xs). all_held T P xs p t f ps.1) h

pub all_change : (P Q : Held → Type 0) (xs : List Held) → ((x : Held) → Holds x.part xs → P x → Q x) → AllByRecursion P xs → AllByRecursion Q xs
all_change P Q [] f ps = tt
all_change P Q (x ∷ xs) f ps = (f x (inl refl) ps.0, all_change P Q xs (λ y h. f y (inr h)) ps.1)

-- ---- one among the others

pub holds_but : (q : Part) (xs : List Held) (x : Held) (ys : List Held) → Holds q (xs ++ x ∷ ys) → (x.part ≡ q) ⊎ Holds q (xs ++ ys)
holds_but q [] x ys h = h
holds_but q (z ∷ xs) x ys h = ⊎_elim (λ (e : z.part ≡ q). inr (inl e)) (λ (t : Holds q (xs ++ x ∷ ys)). ⊎_elim (λ (e : x.part ≡ q). inl e)
    (λ (u : Holds q (xs ++ ys)). inr (inr u)) (holds_but q xs x ys t)) h

pub holds_with : (q : Part) (xs : List Held) (x : Held) (ys : List Held) → (x.part ≡ q) ⊎ Holds q (xs ++ ys) → Holds q (xs ++ x ∷ ys)
holds_with q [] x ys h = h
holds_with q (z ∷ xs) x ys h =
    ⊎_elim (λ (e : x.part ≡ q). inr (holds_with q xs x ys (inl e))) (λ (t : Holds q ((z ∷ xs) ++ ys)). ⊎_elim (λ (e : z.part ≡ q). inl e)
    (λ (u : Holds q (xs ++ ys)). inr (holds_with q xs x ys (inr u))) t) h

pub apart_but : (xs : List Held) (x : Held) (ys : List Held) → Apart (xs ++ x ∷ ys) → Apart (xs ++ ys)
apart_but [] x ys a = a.1
apart_but (z ∷ xs) x ys a = ((λ h. a.0 (holds_with z.part xs x ys (inr h))), apart_but xs x ys a.1)

pub lone : (xs : List Held) (x : Held) (ys : List Held) → Apart (xs ++ x ∷ ys) → ¬ Holds x.part (xs ++ ys)
lone [] x ys a h = a.0 h
lone (z ∷ xs) x ys a h = ⊎_elim (λ (e : z.part ≡ x.part). a.0 (holds_with z.part xs x ys (inl (sym e)))) (λ (t : Holds x.part (xs ++ ys)). lone xs x ys a.1 t) h

-- another of the same part in its place
pub apart_as : (xs : List Held) (x y : Held) (ys : List Held) → x.part ≡ y.part → Apart (xs ++ x ∷ ys) → Apart (xs ++ y ∷ ys)
apart_as [] x y ys e a = ((λ h. a.0 (subst (λ (p : Part). Holds p ys) (sym e) h)), a.1)
apart_as (z ∷ xs) x y ys e a = (
  (λ h. a.0 (holds_with z.part xs x ys
      (⊎_elim (λ (t : y.part ≡ z.part). inl (λ d. (let both : x.part ≡ z.part = subst (λ (p : Part). p ≡ z.part) (sym e) t in both d)))
      (λ (t : Holds z.part (xs ++ ys)). inr t) (holds_but z.part xs y ys h)))),
  apart_as xs x y ys e a.1,
)

pub holds_as : (q : Part) (xs : List Held) (x y : Held) (ys : List Held) → x.part ≡ y.part → Holds q (xs ++ x ∷ ys) → Holds q (xs ++ y ∷ ys)
holds_as q xs x y ys e h = holds_with q xs y ys (⊎_elim (λ (t : x.part ≡ q). inl (subst (λ (p : Part). p ≡ q) e t)) (λ (t : Holds q (xs ++ ys)). inr t)
    (holds_but q xs x ys h))

-- ---- the same parts

pub same_holds : (q : Part) (xs ys : List Held) → AreSameParts xs ys → Holds q xs → Holds q ys
same_holds q [] ys s h = absurd h
same_holds q (x ∷ xs) [] s h = absurd s
same_holds q (x ∷ xs) (y ∷ ys) s h = ⊎_elim (λ (e : x.part ≡ q). inl (subst (λ (p : Part). p ≡ q) s.0 e)) (λ (t : Holds q xs). inr (same_holds q xs ys s.2 t)) h

pub holds_same : (q : Part) (xs ys : List Held) → AreSameParts xs ys → Holds q ys → Holds q xs
holds_same q [] [] s h = h
holds_same q [] (y ∷ ys) s h = absurd s
holds_same q (x ∷ xs) [] s h = absurd h
holds_same q (x ∷ xs) (y ∷ ys) s h = ⊎_elim (λ (e : y.part ≡ q). inl (subst (λ (p : Part). p ≡ q) (sym s.0) e))
    (λ (t : Holds q ys). inr (holds_same q xs ys s.2 t)) h

pub same_apart : (xs ys : List Held) → AreSameParts xs ys → Apart xs → Apart ys
same_apart [] [] s a = tt
same_apart [] (y ∷ ys) s a = absurd s
same_apart (x ∷ xs) [] s a = absurd s
same_apart (x ∷ xs) (y ∷ ys) s a = ((λ h. a.0 (holds_same x.part xs ys s.2 (subst (λ (p : Part). Holds p ys) (sym s.0) h))), same_apart xs ys s.2 a.1)
