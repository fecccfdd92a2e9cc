-- Lists, their beginnings, and histories that are one entry longer.
use Rattle.std.proofs.Common.{◌≡◌, ◌≢◌, ◌⊎◌, ℕ, zero, suc, ◌+◌, ◌<◌, ◌≤◌, eqb, cond, Bool, true, false, List, [], ◌∷◌, ◌++◌, length, refl, ap, sym, ◌∙◌}
use Rattle.std.proofs.Common.{subst, get_or, slice_get, Option, Some}
use Rattle.std.proofs.Common.{inl, inr, ⊎_elim, arith, append_assoc, append-nil, length-append, eq-eqb, ne_eqb}
use Rattle.std.specs.List.{AllByRecursion}
use Rattle.std.specs.Option.{option_map}
use Rattle.std.proofs.lemmas.Option.{same_Some, slice_get-get_or}
use mathlib.Core.Option.{some, some-injective, some-ne-none}
use mathlib.Core.List.{IsPrefix}
use lib.ListN.{get_elem?}
use Rattle.its_plain.specs.Answer.{answer}
use Rattle.its_plain.specs.History.{IsLegal, after, placed}
use Rattle.its_plain.specs.Plain.{Plain}
use Rattle.its_plain.specs.declared.call.Entry.{Entry}

-- ---- beginnings

pub prefix_self : {A : Type 0} (xs : List A) → IsPrefix xs xs
prefix_self xs = ([], append-nil xs)

pub prefix_more : {A : Type 0} (xs ys zs : List A) → IsPrefix xs ys → IsPrefix xs (ys ++ zs)
prefix_more xs ys zs p = (p.0 ++ zs, sym (append_assoc xs p.0 zs) ∙ ap (λ w. w ++ zs) p.1)

pub prefix_through : {A : Type 0} (xs ys zs : List A) → IsPrefix xs ys → IsPrefix ys zs → IsPrefix xs zs
prefix_through xs ys zs p q = subst (IsPrefix xs) q.1 (prefix_more xs ys q.0 p)

-- a beginning as long as the whole is the whole
pub prefix_whole : {A : Type 0} (xs ys : List A) → IsPrefix xs ys → length ys ≤ length xs → xs ≡ ys
prefix_whole [] [] p le = refl
prefix_whole [] (y ∷ ys) p le = absurd (omega arith)
prefix_whole (x ∷ xs) [] p le = absurd (cc (p.1))
prefix_whole (x ∷ xs) (y ∷ ys) p le = let rest = prefix_whole xs ys (p.0, cc (p.1)) (omega arith) in cc (p.1, rest)

pub prefix_length : {A : Type 0} (xs ys : List A) → IsPrefix xs ys → length xs ≤ length ys
prefix_length xs ys p = omega (arith, sym (ap length p.1) ∙ length-append xs p.0)

-- ---- elements

pub at_below : {A : Type 0} (l : List A) (i : ℕ) (a : A) → get_elem? l i ≡ some a → i < length l
at_below [] i a e = absurd (some-ne-none a (sym e))
at_below (x ∷ xs) zero a e = omega arith
at_below (x ∷ xs) (suc i) a e = omega (arith, at_below xs i a e)

pub at_end : {A : Type 0} (l : List A) (a b : A) (j : ℕ) → get_elem? (l ++ a ∷ []) j ≡ some b → (get_elem? l j ≡ some b) ⊎ ((j ≡ length l) × (a ≡ b))
at_end [] a b zero e = inr (refl, some-injective a b e)
at_end [] a b (suc j) e = absurd (some-ne-none b (sym e))
at_end (x ∷ xs) a b zero e = inl e
at_end (x ∷ xs) a b (suc j) e = ⊎_elim (λ (t : get_elem? xs j ≡ some b). inl t) (λ (t : (j ≡ length xs) × (a ≡ b)). inr (ap suc t.0, t.1)) (at_end xs a b j e)

-- what is seen of an element that is there
pub seen_at : {A B : Type 0} (f : A → B) (xs : List A) (i : ℕ) (d : A) (y : B) → option_map f (slice_get xs i) ≡ Some y → f (get_or xs i d) ≡ y
seen_at f [] i d y e = absurd cc
seen_at f (x ∷ xs) zero d y e = same_Some (f x) y e
seen_at f (x ∷ xs) (suc i) d y e = seen_at f xs i d y e

pub seen_there : {A B : Type 0} (f : A → B) (xs : List A) (i : ℕ) (d : A) → i < length xs → option_map f (slice_get xs i) ≡ Some (f (get_or xs i d))
seen_there {A = A} f xs i d lt = ap (λ (o : Option A). option_map f o) (slice_get-get_or xs i d lt)

-- ---- what holds of all elements

pub all_weaker : {A : Type 0} (P Q : A → Type 0) (xs : List A) → ((x : A) → P x → Q x) → AllByRecursion P xs → AllByRecursion Q xs
all_weaker P Q [] f ps = tt
all_weaker P Q (x ∷ xs) f ps = (f x ps.0, all_weaker P Q xs f ps.1)

pub all_snoc : {A : Type 0} (P : A → Type 0) (xs : List A) (x : A) → AllByRecursion P xs → P x → AllByRecursion P (xs ++ x ∷ [])
all_snoc P [] x ps p = (p, tt)
all_snoc P (y ∷ xs) x ps p = (ps.0, all_snoc P xs x ps.1 p)

-- before one element, of it, and behind it
pub all_before : {A : Type 0} (P : A → Type 0) (xs : List A) (x : A) (ys : List A) → AllByRecursion P (xs ++ x ∷ ys) → AllByRecursion P xs
all_before P [] x ys ps = tt
all_before P (z ∷ xs) x ys ps = (ps.0, all_before P xs x ys ps.1)

pub all_here : {A : Type 0} (P : A → Type 0) (xs : List A) (x : A) (ys : List A) → AllByRecursion P (xs ++ x ∷ ys) → P x
all_here P [] x ys ps = ps.0
all_here P (z ∷ xs) x ys ps = all_here P xs x ys ps.1

pub all_but : {A : Type 0} (P : A → Type 0) (xs : List A) (x : A) (ys : List A) → AllByRecursion P (xs ++ x ∷ ys) → AllByRecursion P (xs ++ ys)
all_but P [] x ys ps = ps.1
all_but P (z ∷ xs) x ys ps = (ps.0, all_but P xs x ys ps.1)

pub all_with : {A : Type 0} (P : A → Type 0) (xs : List A) (x : A) (ys : List A) → AllByRecursion P (xs ++ ys) → P x → AllByRecursion P (xs ++ x ∷ ys)
all_with P [] x ys ps p = (p, ps)
all_with P (z ∷ xs) x ys ps p = (ps.0, all_with P xs x ys ps.1 p)

-- ---- histories

pub after_snoc : (u : Plain) (h : List Entry) (e : Entry) → after u (h ++ e ∷ []) ≡ (answer (after u h) e.call).1
after_snoc u [] e = refl
after_snoc u (x ∷ h) e = after_snoc (answer u x.call).1 h e

pub legal_snoc : (u : Plain) (h : List Entry) (e : Entry) → IsLegal u h → e.reply ≡ (answer (after u h) e.call).0 → IsLegal u (h ++ e ∷ [])
legal_snoc u [] e p q = (q, tt)
legal_snoc u (x ∷ h) e p q = (p.0, legal_snoc (answer u x.call).1 h e p.1 q)

choice_snoc : (b : Bool) (x : ℕ × Entry) (xs ys zs : List (ℕ × Entry)) → xs ≡ ys ++ zs → cond b (x ∷ xs) xs ≡ cond b (x ∷ ys) ys ++ zs
choice_snoc true x xs ys zs e = ap (λ w. x ∷ w) e
choice_snoc false x xs ys zs e = e

placed_snoc : (pass n : ℕ) (h : List Entry) (e : Entry) → placed pass n (h ++ e ∷ []) ≡ placed pass n h ++ cond (eqb e.pass pass) ((n + length h, e) ∷ []) []
placed_snoc pass n [] e = let z : n ≡ n + 0 = omega arith in ap (λ (k : ℕ). cond (eqb e.pass pass) ((k, e) ∷ []) []) z
placed_snoc pass n (x ∷ h) e =
    let same : (suc n + length h) ≡ (n + suc (length h)) = omega arith in
    choice_snoc (eqb x.pass pass) (n, x) (placed pass (suc n) (h ++ e ∷ [])) (placed pass (suc n) h) (cond (eqb e.pass pass) ((n + suc (length h), e) ∷ []) [])
    (placed_snoc pass (suc n) h e ∙ ap (λ (k : ℕ). placed pass (suc n) h ++ cond (eqb e.pass pass) ((k, e) ∷ []) []) same)

pub placed_mine : (pass n : ℕ) (h : List Entry) (e : Entry) → e.pass ≡ pass → placed pass n (h ++ e ∷ []) ≡ placed pass n h ++ (n + length h, e) ∷ []
placed_mine pass n h e is = placed_snoc pass n h e ∙ ap (λ b. placed pass n h ++ cond b ((n + length h, e) ∷ []) []) (eq-eqb e.pass pass is)

pub placed_other : (pass n : ℕ) (h : List Entry) (e : Entry) → e.pass ≢ pass → placed pass n (h ++ e ∷ []) ≡ placed pass n h
placed_other pass n h e ne = placed_snoc pass n h e ∙ (ap (λ b. placed pass n h ++ cond b ((n + length h, e) ∷ []) []) (ne_eqb e.pass pass ne)
    ∙ append-nil (placed pass n h))

-- a pass that made no call
pub placed_none : (pass n : ℕ) (h : List Entry) → AllByRecursion (λ e. e.pass < pass) h → placed pass n h ≡ []
placed_none pass n [] es = refl
placed_none pass n (e ∷ h) es =
    let low = es.0 in
    let ne : e.pass ≢ pass = λ s. absurd (omega arith) in
    ap (λ b. cond b ((n, e) ∷ placed pass (suc n) h) (placed pass (suc n) h)) (ne_eqb e.pass pass ne) ∙ placed_none pass (suc n) h es.1
