-- Elements of lists: what a write changes, and which parts a list names.
use Rattle.std.proofs.Common.{◌≡◌, ◌≢◌, ◌⊎◌, ℕ, zero, suc, ◌<◌, ◌≤◌, List, [], ◌∷◌, ◌++◌, get_or, set, slice_get, Option, Some, None, refl, ap, sym, subst}
use Rattle.std.proofs.Common.{arith, inl, inr, Bool, true, if◌then◌else◌}
use Rattle.std.specs.Option.{option_map}
use Rattle.std.proofs.lemmas.Bool.{cases_lt}
use Rattle.gicr_regs.specs.Registers.{changes_pending, reads_tables}
use Rattle.gicr_regs.specs.declared.write.GicrWrite.{GicrWrite}
use Rattle.its_types.specs.declared.ids.Vcpu.{Vcpu}
use Rattle.its_types.specs.declared.machine.Part.{Part}
use Rattle.its_types.specs.declared.machine.Part.TheVariants.{Maps as MapsOf, Mem, Conf, Pend}
use Rattle.its_plain.specs.Parts.{IsIn, conf, pend, pend_at, confs_below, pends_below, translators_below, write_parts}

-- a write changes no other element
pub set_else : {A : Type 0} (xs : List A) (i j : ℕ) (y : A) → j ≢ i → slice_get (set xs i y) j ≡ slice_get xs j
set_else [] i j y ne = refl
set_else (x ∷ xs) zero zero y ne = absurd (ne refl)
set_else (x ∷ xs) zero (suc j) y ne = refl
set_else (x ∷ xs) (suc i) zero y ne = refl
set_else (x ∷ xs) (suc i) (suc j) y ne = set_else xs i j y (λ e. ne (ap suc e))

-- the same write to both leaves the same element, wherever it is
pub set_alike : {A : Type 0} (xs ys : List A) (i j : ℕ) (a b : A) → slice_get xs j ≡ slice_get ys j → a ≡ b → slice_get (set xs i a) j ≡ slice_get
    (set ys i b) j
set_alike [] [] i j a b e s = refl
set_alike [] (y ∷ ys) zero zero a b e s = absurd cc
set_alike [] (y ∷ ys) zero (suc j) a b e s = e
set_alike [] (y ∷ ys) (suc i) zero a b e s = e
set_alike [] (y ∷ ys) (suc i) (suc j) a b e s = set_alike [] ys i j a b e s
set_alike (x ∷ xs) [] zero zero a b e s = absurd cc
set_alike (x ∷ xs) [] zero (suc j) a b e s = e
set_alike (x ∷ xs) [] (suc i) zero a b e s = e
set_alike (x ∷ xs) [] (suc i) (suc j) a b e s = set_alike xs [] i j a b e s
set_alike (x ∷ xs) (y ∷ ys) zero zero a b e s = ap (λ z. Some z) s
set_alike (x ∷ xs) (y ∷ ys) zero (suc j) a b e s = e
set_alike (x ∷ xs) (y ∷ ys) (suc i) zero a b e s = e
set_alike (x ∷ xs) (y ∷ ys) (suc i) (suc j) a b e s = set_alike xs ys i j a b e s

-- where all that is seen of an element is the same, it is not the element that matters
pub seen_else : {A B : Type 0} (f : A → B) (xs : List A) (i j : ℕ) (d y : A) → f y ≡ f (get_or xs i d)
    → option_map f (slice_get xs j) ≡ option_map f (slice_get (set xs i y) j)
seen_else f [] i j d y e = refl
seen_else f (x ∷ xs) zero zero d y e = ap (λ z. Some z) (sym e)
seen_else f (x ∷ xs) zero (suc j) d y e = refl
seen_else f (x ∷ xs) (suc i) zero d y e = refl
seen_else f (x ∷ xs) (suc i) (suc j) d y e = seen_else f xs i j d y e

-- the same write to both leaves what is seen of an element the same
pub seen_alike : {A B : Type 0} (f : A → B) (xs ys : List A) (i j : ℕ) (a b : A)
    → option_map f (slice_get xs j) ≡ option_map f (slice_get ys j) → f a ≡ f b
    → option_map f (slice_get (set xs i a) j) ≡ option_map f (slice_get (set ys i b) j)
seen_alike f [] [] i j a b e s = refl
seen_alike f [] (y ∷ ys) zero zero a b e s = absurd cc
seen_alike f [] (y ∷ ys) zero (suc j) a b e s = e
seen_alike f [] (y ∷ ys) (suc i) zero a b e s = e
seen_alike f [] (y ∷ ys) (suc i) (suc j) a b e s = seen_alike f [] ys i j a b e s
seen_alike f (x ∷ xs) [] zero zero a b e s = absurd cc
seen_alike f (x ∷ xs) [] zero (suc j) a b e s = e
seen_alike f (x ∷ xs) [] (suc i) zero a b e s = e
seen_alike f (x ∷ xs) [] (suc i) (suc j) a b e s = seen_alike f xs [] i j a b e s
seen_alike f (x ∷ xs) (y ∷ ys) zero zero a b e s = ap (λ z. Some z) s
seen_alike f (x ∷ xs) (y ∷ ys) zero (suc j) a b e s = e
seen_alike f (x ∷ xs) (y ∷ ys) (suc i) zero a b e s = e
seen_alike f (x ∷ xs) (y ∷ ys) (suc i) (suc j) a b e s = seen_alike f xs ys i j a b e s

pub same_or : {A : Type 0} (xs ys : List A) (i : ℕ) (d : A) → slice_get xs i ≡ slice_get ys i → get_or xs i d ≡ get_or ys i d
same_or [] [] i d e = refl
same_or [] (y ∷ ys) zero d e = absurd cc
same_or [] (y ∷ ys) (suc i) d e = same_or [] ys i d e
same_or (x ∷ xs) [] zero d e = absurd cc
same_or (x ∷ xs) [] (suc i) d e = same_or xs [] i d e
same_or (x ∷ xs) (y ∷ ys) zero d e = cc
same_or (x ∷ xs) (y ∷ ys) (suc i) d e = same_or xs ys i d e

-- what is seen of the element, or of the default
pub seen_or : {A B : Type 0} (f : A → B) (xs ys : List A) (i : ℕ) (d : A) → option_map f (slice_get xs i) ≡ option_map f (slice_get ys i)
    → f (get_or xs i d) ≡ f (get_or ys i d)
seen_or f [] [] i d e = refl
seen_or f [] (y ∷ ys) zero d e = absurd cc
seen_or f [] (y ∷ ys) (suc i) d e = seen_or f [] ys i d e
seen_or f (x ∷ xs) [] zero d e = absurd cc
seen_or f (x ∷ xs) [] (suc i) d e = seen_or f xs [] i d e
seen_or f (x ∷ xs) (y ∷ ys) zero d e = cc
seen_or f (x ∷ xs) (y ∷ ys) (suc i) d e = seen_or f xs ys i d e

-- ---- lists of parts

pub in_head : (p : Part) (ps : List Part) → IsIn p (p ∷ ps)
in_head p ps = (0, refl)

pub in_tail : (p q : Part) (ps : List Part) → IsIn p ps → IsIn p (q ∷ ps)
in_tail p q ps (n, e) = (suc n, e)

pub in_left : (p : Part) (ps qs : List Part) → IsIn p ps → IsIn p (ps ++ qs)
in_left p [] qs (n, e) = absurd cc
in_left p (q ∷ ps) qs (zero, e) = (0, e)
in_left p (q ∷ ps) qs (suc n, e) = in_tail p q (ps ++ qs) (in_left p ps qs (n, e))

pub in_right : (p : Part) (ps qs : List Part) → IsIn p qs → IsIn p (ps ++ qs)
in_right p [] qs h = h
in_right p (q ∷ ps) qs h = in_tail p q (ps ++ qs) (in_right p ps qs h)

-- what has a list of one element more than before has each element
module _ (part : ℕ → Part) (below : ℕ → List Part) (more : (n : ℕ) → below (suc n) ≡ below n ++ part n ∷ []) where
  last_or_before : (n v : ℕ) → v < suc n → (v < n) ⊎ (n ≤ v) → (v < n → IsIn (part v) (below n)) → IsIn (part v) (below (suc n))
  last_or_before n v low (inl before) h = subst (λ (ps : List Part). IsIn (part v) ps) (sym (more n)) (in_left (part v) (below n) (part n ∷ []) (h before))
  last_or_before n v low (inr last) h =
      let same : v ≡ n = omega (arith, low, last) in
      subst (λ (k : ℕ). IsIn (part k) (below (suc n))) (sym same) (subst (λ (ps : List Part). IsIn (part n) ps) (sym (more n))
      (in_right (part n) (below n) (part n ∷ []) (in_head (part n) [])))

  pub each_below : (n v : ℕ) → v < n → IsIn (part v) (below n)
  each_below zero v low = absurd (omega (arith, low))
  each_below (suc n) v low = last_or_before n v low (cases_lt v n) (each_below n v)

pub conf_below : (n v : ℕ) → v < n → IsIn (conf v) (confs_below n)
conf_below = each_below conf confs_below (λ n. refl)

pub pend_below : (n v : ℕ) → v < n → IsIn (pend v) (pends_below n)
pend_below = each_below pend pends_below (λ n. refl)

pub translator_below : (n i : ℕ) → i < n → IsIn (MapsOf i) (translators_below n)
translator_below = each_below (λ i. MapsOf i) translators_below (λ n. refl)

pub in_pend_at : (o : Option Vcpu) (v : Vcpu) → o ≡ Some v → IsIn (Pend v) (pend_at o)
in_pend_at None v e = absurd cc
in_pend_at (Some x) v e = (let same : x ≡ v = cc in (0, ap (λ (z : Vcpu). Some (Pend z)) same))

-- both parts of a redistributor
pub conf_in_both : (v : Vcpu) → IsIn (Conf v) (Conf v ∷ Pend v ∷ [])
conf_in_both v = in_head (Conf v) (Pend v ∷ [])

pub pend_in_both : (v : Vcpu) → IsIn (Pend v) (Conf v ∷ Pend v ∷ [])
pend_in_both v = in_tail (Pend v) (Conf v) (Pend v ∷ []) (in_head (Pend v) [])

-- where a write reads tables, memory is among its parts
pub mem_in_write : (v : Vcpu) (w : GicrWrite) → reads_tables w ≡ true → IsIn Mem (write_parts v w)
mem_in_write v w e =
    in_left Mem (if reads_tables w then Mem ∷ [] else []) (if changes_pending w then Pend v ∷ [] else [])
    (subst (λ (b : Bool). IsIn Mem (if b then Mem ∷ [] else [])) (sym e) (in_head Mem []))

-- where a write turns LPIs on or off, what is pending is among its parts
pub pend_in_write : (v : Vcpu) (w : GicrWrite) → changes_pending w ≡ true → IsIn (Pend v) (write_parts v w)
pend_in_write v w e =
    in_right (Pend v) (if reads_tables w then Mem ∷ [] else []) (if changes_pending w then Pend v ∷ [] else [])
    (subst (λ (b : Bool). IsIn (Pend v) (if b then Pend v ∷ [] else [])) (sym e) (in_head (Pend v) []))

-- who is not among the first n has no lower number
pub not_below : (n v : ℕ) → ¬ IsIn (conf v) (confs_below n) → n ≤ v
not_below zero v out = omega arith
not_below (suc n) v out =
    let least : n ≤ v = not_below n v (λ h. out (in_left (conf v) (confs_below n) (conf n ∷ []) h)) in
    let other : v ≢ n = (λ e. out (subst (λ (k : ℕ). IsIn (conf v) (confs_below n ++ conf k ∷ [])) e
    (in_right (conf v) (confs_below n) (conf v ∷ []) (in_head (conf v) [])))) in omega arith
