-- Texts that are added one after another.
use Rattle.std.proofs.Common.{◌≡◌, ℕ, List, ◌++◌, Result, Ok, Err, OnOk, if◌then◌else◌, subst, ap, ◌∙◌, append_assoc}
use Rattle.std.specs.Result.{is_ok}

-- y is added behind what was added before it
pub onto : {E : Type 0} (r : Result (Unit {0}) E) (n b a x y : List ℕ) → b ≡ a ++ x → OnOk r (n ≡ b ++ y) → OnOk r (n ≡ a ++ (x ++ y))
onto r n b a x y e h = subst (λ (s : List ℕ). OnOk r (n ≡ s)) (ap (λ (s : List ℕ). s ++ y) e ∙ append_assoc a x y) h

-- what std says of a text that is added
pub pushed : {E : Type 0} (r : Result (Unit {0}) E) (n b y : List ℕ) → n ≡ (if is_ok r then b ++ y else b) → OnOk r (n ≡ b ++ y)
pushed (Ok x) n b y h = h
pushed (Err e) n b y h = tt

-- y was added behind what was added before it
pub joined : (n b a x y : List ℕ) → b ≡ a ++ x → n ≡ b ++ y → n ≡ a ++ (x ++ y)
joined n b a x y e h = h ∙ ap (λ (s : List ℕ). s ++ y) e ∙ append_assoc a x y
