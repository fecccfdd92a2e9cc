-- A walk finds what the places that are reached have, or the first offence.
use Rattle.std.proofs.Common.{◌≡◌, ◌⊎◌, ℕ, suc, zero, ◌+◌, ◌-◌, ◌<◌, ◌≤◌, List, [], ◌∷◌, ◌++◌, Option, Some, None, Result, Ok, Err, refl, sym, subst, ap, ◌∙◌}
use Rattle.std.proofs.Common.{inl, inr, arith}
use Rattle.its_plain.specs.Walks.{Path, Reached, Offends, IsFirstOffence}
use Rattle.standing_states.specs.Walked.{with_front, go_on, found_then, walk, Among, HasAt, after_all, after}

-- good places lead up, to good places, and stay below n
pub record Rises {P : Type 0} (next : P → Option P) (rank : P → ℕ) (n : ℕ) (Good : P → Type 0) : Type 0 where
  pub up : (p q : P) → Good p → next p ≡ Some q → rank p < rank q
  pub good : (p q : P) → Good p → next p ≡ Some q → Good q
  pub below : (p : P) → Good p → rank p < n

module _ {P X F : Type 0} (look : P → Result (List X) F) (next : P → Option P) (rank : P → ℕ) (n : ℕ) (Good : P → Type 0) (rises : Rises next rank n Good) where
  -- enough is enough
  pub walk_fuel : (m k : ℕ) (p : P) → Good p → n ≤ m + rank p → n ≤ k + rank p → walk look next m p ≡ walk look next k p
  walk_fuel zero k p g a b = let lt = rises.below p g in absurd (omega arith)
  walk_fuel (suc m) zero p g a b = let lt = rises.below p g in absurd (omega arith)
  walk_fuel (suc m) (suc k) p g a b =
      ap (found_then (look p)) (elim (next p) as (λ o. next p ≡ o → go_on (walk look next m) o ≡ go_on (walk look next k) o) [
        | None ↦ λ e. refl
        | Some q ↦ λ e.
            let up = rises.up p q g e in
            walk_fuel m k q (rises.good p q g e) (omega arith) (omega arith)
      ] refl)

  -- one step of the walk, with just the fuel that is wanted
  pub walk_step : (p : P) → Good p → walk look next (n - rank p) p ≡ found_then (look p) (go_on (λ q. walk look next (n - rank q) q) (next p))
  walk_step p g =
      let lt = rises.below p g in
      let more : n - rank p ≡ suc (n - rank p - 1) = omega arith in
      subst (λ (k : ℕ). walk look next k p ≡ found_then (look p) (go_on (λ q. walk look next (n - rank q) q) (next p))) (sym more)
      (ap (found_then (look p)) (elim (next p) as (λ o. next p ≡ o → go_on (walk look next (n - rank p - 1)) o ≡ go_on (λ q. walk look next (n - rank q) q) o) [
        | None ↦ λ e. refl
        | Some q ↦ λ e.
            let up = rises.up p q g e in
            let low = rises.below q (rises.good p q g e) in
            walk_fuel (n - rank p - 1) (n - rank q) q (rises.good p q g e) (omega arith) (omega arith)
      ] refl))

-- ---- what is found goes into a state

pub after_all-append : {S X : Type 0} (put : S → X → S) (s : S) (xs ys : List X) → after_all put s (xs ++ ys) ≡ after_all put (after_all put s xs) ys
after_all-append put s [] ys = refl
after_all-append put s (x ∷ xs) ys = after_all-append put (put s x) xs ys

after-front : {S X F : Type 0} (put : S → X → S) (s : S) (xs : List X) (r : Result (List X) F) → after put s (with_front xs r) ≡ after put
    (after_all put s xs) r
after-front put s xs (Ok ys) = ap Ok (after_all-append put s xs ys)
after-front put s xs (Err f) = refl

after-then : {S X F : Type 0} (put : S → X → S) (s t : S) (r rest : Result (List X) F) → after put s r ≡ Ok t
    → after put s (found_then r rest) ≡ after put t rest
after-then {S} put s t (Ok xs) rest e = let is : after_all put s xs ≡ t = cc in after-front put s xs rest ∙ ap (λ (u : S). after put u rest) is
after-then put s t (Err f) rest e = absurd cc

pub after-ok : {S X F : Type 0} (put : S → X → S) (s t : S) (r : Result (List X) F) → after put s r ≡ Ok t → (xs : List X) × (r ≡ Ok xs)
    × (t ≡ after_all put s xs)
after-ok put s t (Ok xs) e = (xs, refl, cc)
after-ok put s t (Err f) e = absurd cc

pub after-err : {S X F : Type 0} (put : S → X → S) (s : S) (r : Result (List X) F) (f : F) → after put s r ≡ Err f → r ≡ Err f
after-err put s (Ok xs) f e = absurd cc
after-err put s (Err g) f e = cc

-- ---- a step of the code

module _ {S P X F : Type 0} (put : S → X → S) (look : P → Result (List X) F) (next : P → Option P) (rank : P → ℕ) (n : ℕ) (Good : P → Type 0)
    (rises : Rises next rank n Good) where
  onward : (s t : S) (p : P) (o : Option P) (whole : Result S F) → Good p → after put s (walk look next (n - rank p) p) ≡ whole → after put s (look p) ≡ Ok t
      → next p ≡ o → after put t (go_on (λ q. walk look next (n - rank q) q) o) ≡ whole
  onward s t p o whole g so is to =
      sym (after-then put s t (look p) (go_on (λ q. walk look next (n - rank q) q) o) is)
      ∙ ap (λ (q : Option P). after put s (found_then (look p) (go_on (λ r. walk look next (n - rank r) r) q))) (sym to)
      ∙ ap (after put s) (sym (walk_step look next rank n Good rises p g))
      ∙ so

  pub goes_on : (s t : S) (p q : P) (o : Option P) (whole : Result S F) → Good p → after put s (walk look next (n - rank p) p) ≡ whole
      → after put s (look p) ≡ Ok t → next p ≡ o → o ≡ Some q → after put t (walk look next (n - rank q) q) ≡ whole
  goes_on s t p q o whole g so is to leads = onward s t p (Some q) whole g so is (to ∙ leads)

  pub ends_here : (s t : S) (p : P) (o : Option P) (whole : Result S F) → Good p → after put s (walk look next (n - rank p) p) ≡ whole
      → after put s (look p) ≡ Ok t → next p ≡ o → o ≡ None → whole ≡ Ok t
  ends_here s t p o whole g so is to ends = sym (onward s t p None whole g so is (to ∙ ends))

  pub goes_wrong : (s : S) (p : P) (f : F) (whole : Result S F) → Good p → after put s (walk look next (n - rank p) p) ≡ whole → look p ≡ Err f → whole ≡ Err f
  goes_wrong s p f whole g so is =
      sym so ∙ ap (after put s) (walk_step look next rank n Good rises p g ∙ ap (λ r. found_then r (go_on (λ q. walk look next (n - rank q) q) (next p))) is)

module _ {P : Type 0} (next : P → Option P) (rank : P → ℕ) (n : ℕ) (Good : P → Type 0) (rises : Rises next rank n Good) where
  pub is_smaller : (p q : P) (o : Option P) → Good p → next p ≡ o → o ≡ Some q → n - rank q < n - rank p
  is_smaller p q o g to leads = let up = rises.up p q g (to ∙ leads) in let low = rises.below q (rises.good p q g (to ∙ leads)) in omega arith

-- ---- the first offence

module _ {P X F : Type 0} (look : P → Result (List X) F) (next : P → Option P) where
  front_err : (xs : List X) (r : Result (List X) F) (f : F) → with_front xs r ≡ Err f → r ≡ Err f
  front_err xs (Ok ys) f e = absurd cc
  front_err xs (Err g) f e = e

  front_ok : (xs : List X) (r : Result (List X) F) (zs : List X) → with_front xs r ≡ Ok zs → (ys : List X) × (r ≡ Ok ys) × (zs ≡ xs ++ ys)
  front_ok xs (Ok ys) zs e = (ys, refl, cc)
  front_ok xs (Err g) zs e = absurd cc

  module _ (Clear : P → Type 0) (Faults : P → F → Type 0) (clear : (p : P) (xs : List X) → look p ≡ Ok xs → Clear p) (faults : (p : P) (f : F) → look p ≡ Err f
      → Faults p f) where
    -- where the place has xs, what it leads to has the offence
    later : (p : P) (xs : List X) (m : ℕ) (f : F) → look p ≡ Ok xs → ((q : P) → walk look next m q ≡ Err f → IsFirstOffence Clear Faults next q f)
        → (o : Option P) → next p ≡ o → go_on (walk look next m) o ≡ Err f → IsFirstOffence Clear Faults next p f
    later p xs m f ok more None is e = absurd cc
    later p xs m f ok more (Some q) is e = let r = more q e in (q ∷ r.0, (clear p xs ok, is, r.1))

    pub walk_err : (m : ℕ) (p : P) (f : F) → walk look next m p ≡ Err f → IsFirstOffence Clear Faults next p f
    walk_err zero p f e = absurd cc
    walk_err (suc m) p f e =
        elim (look p) as (λ r. look p ≡ r → found_then r (go_on (walk look next m) (next p)) ≡ Err f → IsFirstOffence Clear Faults next p f) [
          | Ok xs ↦ λ is e. later p xs m f is (λ q. walk_err m q f) (next p) refl (front_err xs _ f e)
          | Err g ↦ λ is e. ([], faults p f (is ∙ e))
        ] refl e

-- ---- no offence, or one first one

module _ {P F : Type 0} (Clear : P → Type 0) (Faults : P → F → Type 0) (next : P → Option P) (apart : (p : P) (f : F) → Clear p → Faults p f → ⊥) where
  -- where all are clear there is none
  pub none_where_clear : (p : P) (rs : List P) (f : F) → ((q : P) → Reached next p q → Clear q) → Offends Clear Faults next p rs f → ⊥
  none_where_clear p [] f all o = apart p f (all p ([], refl)) o
  none_where_clear p (r ∷ rs) f all o = none_where_clear r rs f (λ q h. all q (r ∷ h.0, (o.1, h.1))) o.2

  same_next : (p q r : P) → next p ≡ Some q → next p ≡ Some r → q ≡ r
  same_next p q r a b = let two : Some q ≡ Some r = sym a ∙ b in cc

  -- there is one at most
  pub first_once : ((p : P) (f g : F) → Faults p f → Faults p g → f ≡ g) → (p : P) (rs qs : List P) (f g : F) → Offends Clear Faults next p rs f
      → Offends Clear Faults next p qs g → f ≡ g
  first_once one p [] [] f g a b = one p f g a b
  first_once one p [] (q ∷ qs) f g a b = absurd (apart p f b.0 a)
  first_once one p (r ∷ rs) [] f g a b = absurd (apart p g a.0 b)
  first_once one p (r ∷ rs) (q ∷ qs) f g a b = first_once one q rs qs f g (subst (λ (x : P). Offends Clear Faults next x rs f) (same_next p r q a.1 b.1) a.2)
      b.2

-- ---- what is found

pub among_left : {X : Type 0} (x : X) (xs ys : List X) → Among x xs → Among x (xs ++ ys)
among_left x [] ys h = absurd h
among_left x (y ∷ xs) ys (inl e) = inl e
among_left x (y ∷ xs) ys (inr h) = inr (among_left x xs ys h)

pub among_right : {X : Type 0} (x : X) (xs ys : List X) → Among x ys → Among x (xs ++ ys)
among_right x [] ys h = h
among_right x (y ∷ xs) ys h = inr (among_right x xs ys h)

pub among_either : {X : Type 0} (x : X) (xs ys : List X) → Among x (xs ++ ys) → Among x xs ⊎ Among x ys
among_either x [] ys h = inr h
among_either x (y ∷ xs) ys (inl e) = inl (inl e)
among_either x (y ∷ xs) ys (inr h) = elim (among_either x xs ys h) [ inl a ↦ inl (inr a) | inr b ↦ inr b ]

record Parts {X F : Type 0} (r s : Result (List X) F) (es : List X) : Type 0 where
  xs : List X
  ys : List X
  here : r ≡ Ok xs
  rest : s ≡ Ok ys
  both : es ≡ xs ++ ys

module _ {P X F : Type 0} (look : P → Result (List X) F) (next : P → Option P) where
  parts : (r s : Result (List X) F) (es : List X) → found_then r s ≡ Ok es → Parts r s es
  parts (Ok xs) s es e = let w = front_ok look next xs s es e in record { xs = xs; ys = w.0; here = refl; rest = w.1; both = w.2 }
  parts (Err f) s es e = absurd cc

  went : (m : ℕ) (p r : P) (ys : List X) → next p ≡ Some r → go_on (walk look next m) (next p) ≡ Ok ys → walk look next m r ≡ Ok ys
  went m p r ys is e = subst (λ (o : Option P). go_on (walk look next m) o ≡ Ok ys) is e

  pub walk_found : (m : ℕ) (p : P) (es : List X) (x : X) → walk look next m p ≡ Ok es → Among x es → (q : P) × Reached next p q × HasAt look q x
  walk_found zero p es x e h = let none : es ≡ [] = cc in absurd (subst (Among x) none h)
  walk_found (suc m) p es x e h =
      let w = parts (look p) (go_on (walk look next m) (next p)) es e in
      elim (among_either x w.xs w.ys (subst (Among x) w.both h)) [
        | inl a ↦ (p, ([], refl), (w.xs, w.here, a))
        | inr b ↦
            elim (next p) as (λ o. next p ≡ o → go_on (walk look next m) o ≡ Ok w.ys → (q : P) × Reached next p q × HasAt look q x) [
              | None ↦ λ is ends. let none : w.ys ≡ [] = cc in absurd (subst (Among x) none b)
              | Some r ↦ λ is goes. let v = walk_found m r w.ys x goes b in (v.0, (r ∷ v.1.0, (is, v.1.1)), v.2)
            ] refl w.rest
      ]

module _ {P X F : Type 0} (look : P → Result (List X) F) (next : P → Option P) (rank : P → ℕ) (n : ℕ) (Good : P → Type 0) (rises : Rises next rank n Good) where
  pub walk_clear : (m : ℕ) (p : P) (es : List X) → walk look next m p ≡ Ok es → Good p → n ≤ m + rank p → (rs : List P) (q : P) → Path next p rs q
      → (xs : List X) × (look q ≡ Ok xs)
  walk_clear zero p es e g a rs q path = let lt = rises.below p g in absurd (omega arith)
  walk_clear (suc m) p es e g a [] q path =
      let w = parts look next (look p) (go_on (walk look next m) (next p)) es e in
      subst (λ (r : P). (xs : List X) × (look r ≡ Ok xs)) path (w.xs, w.here)
  walk_clear (suc m) p es e g a (r ∷ rs) q path =
      let w = parts look next (look p) (go_on (walk look next m) (next p)) es e in
      let up = rises.up p r g path.0 in
      walk_clear m r w.ys (went look next m p r w.ys path.0 w.rest) (rises.good p r g path.0) (omega arith) rs q path.1

  pub walk_has : (m : ℕ) (p : P) (es : List X) → walk look next m p ≡ Ok es → Good p → n ≤ m + rank p → (rs : List P) (q : P) (x : X) → Path next p rs q
      → HasAt look q x → Among x es
  walk_has zero p es e g a rs q x path has = let lt = rises.below p g in absurd (omega arith)
  walk_has (suc m) p es e g a [] q x path has =
      let w = parts look next (look p) (go_on (walk look next m) (next p)) es e in
      let here : look p ≡ Ok has.0 = ap look path ∙ has.1 in
      let same : w.xs ≡ has.0 = (let two : Ok w.xs ≡ Ok has.0 = sym w.here ∙ here in cc) in
      subst (Among x) (sym w.both) (among_left x w.xs w.ys (subst (Among x) (sym same) has.2))
  walk_has (suc m) p es e g a (r ∷ rs) q x path has =
      let w = parts look next (look p) (go_on (walk look next m) (next p)) es e in
      let up = rises.up p r g path.0 in
      subst (Among x) (sym w.both) (among_right x w.xs w.ys (walk_has m r w.ys (went look next m p r w.ys path.0 w.rest) (rises.good p r g path.0)
      (omega arith) rs q x path.1 has))

module _ {P : Type 0} (next : P → Option P) (rank : P → ℕ) (n : ℕ) (Good : P → Type 0) (rises : Rises next rank n Good) where
  -- no place that is reached stands below
  above : (p : P) (rs : List P) (q : P) → Good p → Path next p rs q → rank p ≤ rank q
  above p [] q g a = let is : rank p ≡ rank q = ap rank a in omega arith
  above p (t ∷ rs) q g a = let up = rises.up p t g a.0 in let more = above t rs q (rises.good p t g a.0) a.1 in omega arith

  -- two places of one rank are one
  pub reached_once : (p : P) (rs qs : List P) (q r : P) → Good p → Path next p rs q → Path next p qs r → rank q ≡ rank r → q ≡ r
  reached_once p [] [] q r g a b same = sym a ∙ b
  reached_once p [] (t ∷ qs) q r g a b same = absurd (let up = above t qs r (rises.good p t g b.0) b.1 in let step = rises.up p t g b.0 in let is : rank p
      ≡ rank q = ap rank a in omega arith)
  reached_once p (t ∷ rs) [] q r g a b same = absurd (let up = above t rs q (rises.good p t g a.0) a.1 in let step = rises.up p t g a.0 in let is : rank p
      ≡ rank r = ap rank b in omega arith)
  reached_once p (t ∷ rs) (u ∷ qs) q r g a b same =
      let is : t ≡ u = (let two : Some t ≡ Some u = sym a.0 ∙ b.0 in cc) in
      reached_once t rs qs q r (rises.good p t g a.0) a.1 (subst (λ (x : P). Path next x qs r) (sym is) b.1) same
