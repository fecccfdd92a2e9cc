-- Texts that are added one after another.
use Rattle.std.proofs.Common.{◌≡◌, ℕ, List, ◌++◌, Result, OnOk, subst, ap, ◌∙◌, append_assoc}

-- y is added behind what was added before it
pub onto : {E : Type 0} (r : Result (Unit {0}) E) (n b a x y : List ℕ) → b ≡ a ++ x → OnOk r (n ≡ b ++ y) → OnOk r (n ≡ a ++ (x ++ y))
onto r n b a x y e h = subst (λ (s : List ℕ). OnOk r (n ≡ s)) (ap (λ (s : List ℕ). s ++ y) e ∙ append_assoc a x y) h
