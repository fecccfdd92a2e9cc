-- Places that are reached, one from another.
use Rattle.std.proofs.Common.{◌≡◌, List, [], ◌∷◌, ◌++◌, Option, Some, refl, sym, subst, ap, ◌∙◌}
use Rattle.its_plain.specs.Walks.{Path, Reached}

module _ {P : Type 0} (next : P → Option P) where
  more : (p : P) (rs : List P) (q s : P) → Path next p rs q → next q ≡ Some s → Path next p (rs ++ s ∷ []) s
  more p [] q s path leads = (ap next path ∙ leads, refl)
  more p (r ∷ rs) q s path leads = (path.0, more r rs q s path.1 leads)

  -- one place further
  pub further : (p q s : P) → Reached next p q → next q ≡ Some s → Reached next p s
  further p q s h leads = (h.0 ++ s ∷ [], more p h.0 q s h.1 leads)

  pub at_start : (p : P) → Reached next p p
  at_start p = ([], refl)

  both : (p : P) (rs : List P) (q : P) (qs : List P) (s : P) → Path next p rs q → Path next q qs s → Path next p (rs ++ qs) s
  both p [] q qs s one two = subst (λ (x : P). Path next x qs s) (sym one) two
  both p (r ∷ rs) q qs s one two = (one.0, both r rs q qs s one.1 two)

  pub from_there : (p q s : P) → Reached next p q → Reached next q s → Reached next p s
  from_there p q s one two = (one.0 ++ two.0, both p one.0 q two.0 s one.1 two.1)

  along : (Good : P → Type 0) → ((p q : P) → Good p → next p ≡ Some q → Good q) → (p : P) (rs : List P) (q : P) → Good p → Path next p rs q → Good q
  along Good keeps p [] q good path = subst Good path good
  along Good keeps p (r ∷ rs) q good path = along Good keeps r rs q (keeps p r good path.0) path.1

  -- what each place hands on holds of all that are reached
  pub stays_good : (Good : P → Type 0) → ((p q : P) → Good p → next p ≡ Some q → Good q) → (p q : P) → Good p → Reached next p q → Good q
  stays_good Good keeps p q good h = along Good keeps p h.0 q good h.1
