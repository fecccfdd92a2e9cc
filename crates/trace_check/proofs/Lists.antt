-- Lists that are put together, and the calls of one pass among those of a history.
use Rattle.std.proofs.Common.{◌≡◌, ◌≢◌, ◌⊎◌, ℕ, eqb, cond, Bool, true, false, List, [], ◌∷◌, ◌++◌, length, refl, sym, ap, ◌∙◌, inl, inr, arith, append_assoc}
use Rattle.std.proofs.Common.{append-nil, length-append, eq-eqb, ne_eqb}
use Rattle.std.specs.List.{AllByRecursion}
use mathlib.Core.List.{IsPrefix}
use Rattle.its_plain.specs.Plain.{Plain}
use Rattle.its_plain.specs.Answer.{answer}
use Rattle.its_plain.specs.History.{calls_by, IsLegal, after}
use Rattle.its_plain.specs.declared.call.Call.{Call}
use Rattle.its_plain.specs.declared.call.Entry.{Entry}

-- ---- one list behind another

pub head_is : {A : Type 0} {x y : A} {xs ys : List A} → x ∷ xs ≡ y ∷ ys → x ≡ y
head_is e = cc e

pub tail_is : {A : Type 0} {x y : A} {xs ys : List A} → x ∷ xs ≡ y ∷ ys → xs ≡ ys
tail_is e = cc e

pub front_none : {A : Type 0} (a b : List A) → a ++ b ≡ [] → a ≡ []
front_none [] b e = refl
front_none (x ∷ a) b e = absurd (cc e)

-- two ways to cut a list
pub cuts : {A : Type 0} (a b c d : List A) → a ++ b ≡ c ++ d → ((x : List A) × (c ≡ a ++ x) × (b ≡ x ++ d)) ⊎ ((x : List A) × (a ≡ c ++ x) × (d ≡ x ++ b))
cuts [] b c d e = inl (c, refl, e)
cuts (y ∷ a) b [] d e = inr (y ∷ a, refl, sym e)
cuts (y ∷ a) b (z ∷ c) d e =
    elim (cuts a b c d (tail_is e)) [
      | inl w ↦ inl (w.0, (λ i. head_is (sym e) i ∷ w.1 i), w.2)
      | inr w ↦ inr (w.0, (λ i. head_is e i ∷ w.1 i), w.2)
    ]

pub all_front : {A : Type 0} (P : A → Type 0) (a b : List A) → AllByRecursion P (a ++ b) → AllByRecursion P a
all_front P [] b ps = tt
all_front P (x ∷ a) b ps = (ps.0, all_front P a b ps.1)

pub all_rest : {A : Type 0} (P : A → Type 0) (a b : List A) → AllByRecursion P (a ++ b) → AllByRecursion P b
all_rest P [] b ps = ps
all_rest P (x ∷ a) b ps = all_rest P a b ps.1

pub all_both : {A : Type 0} (P : A → Type 0) (a b : List A) → AllByRecursion P a → AllByRecursion P b → AllByRecursion P (a ++ b)
all_both P [] b ps qs = qs
all_both P (x ∷ a) b ps qs = (ps.0, all_both P a b ps.1 qs)

-- ---- beginnings

pub prefix_front : {A : Type 0} (a b c : List A) → IsPrefix (a ++ b) c → IsPrefix a c
prefix_front a b c p = (b ++ p.0, sym (append_assoc a b p.0) ∙ p.1)

-- nothing longer than a list is its beginning
pub no_longer : {A : Type 0} (a : List A) (x : A) (b c : List A) → a ≡ c → IsPrefix (a ++ x ∷ b) c → ⊥
no_longer a x b c same p = omega (arith, ap length same, ap length p.1, length-append (a ++ x ∷ b) p.0, length-append a (x ∷ b))

-- ---- the calls of one pass

chosen : (b : Bool) (x : Call) (xs ys zs : List Call) → xs ≡ ys ++ zs → cond b (x ∷ xs) xs ≡ cond b (x ∷ ys) ys ++ zs
chosen true x xs ys zs e = ap (λ w. x ∷ w) e
chosen false x xs ys zs e = e

pub calls_append : (pass : ℕ) (a b : List Entry) → calls_by pass (a ++ b) ≡ calls_by pass a ++ calls_by pass b
calls_append pass [] b = refl
calls_append pass (e ∷ a) b = chosen (eqb e.pass pass) e.call (calls_by pass (a ++ b)) (calls_by pass a) (calls_by pass b) (calls_append pass a b)

pub calls_here : (pass : ℕ) (e : Entry) (h : List Entry) → e.pass ≡ pass → calls_by pass (e ∷ h) ≡ e.call ∷ calls_by pass h
calls_here pass e h is = ap (λ b. cond b (e.call ∷ calls_by pass h) (calls_by pass h)) (eq-eqb e.pass pass is)

pub calls_else : (pass : ℕ) (e : Entry) (h : List Entry) → e.pass ≢ pass → calls_by pass (e ∷ h) ≡ calls_by pass h
calls_else pass e h ne = ap (λ b. cond b (e.call ∷ calls_by pass h) (calls_by pass h)) (ne_eqb e.pass pass ne)

-- one more entry, of this pass or of another
pub calls_more : (pass : ℕ) (h : List Entry) (e : Entry) → e.pass ≡ pass → calls_by pass (h ++ e ∷ []) ≡ calls_by pass h ++ e.call ∷ []
calls_more pass h e is = calls_append pass h (e ∷ []) ∙ ap (λ cs. calls_by pass h ++ cs) (calls_here pass e [] is)

pub calls_same : (pass : ℕ) (h : List Entry) (e : Entry) → e.pass ≢ pass → calls_by pass (h ++ e ∷ []) ≡ calls_by pass h
calls_same pass h e ne = calls_append pass h (e ∷ []) ∙ ap (λ cs. calls_by pass h ++ cs) (calls_else pass e [] ne) ∙ append-nil (calls_by pass h)

-- ---- legal histories

pub after_more : (u : Plain) (h : List Entry) (e : Entry) → after u (h ++ e ∷ []) ≡ (answer (after u h) e.call).1
after_more u [] e = refl
after_more u (x ∷ h) e = after_more (answer u x.call).1 h e

pub legal_more : (u : Plain) (h : List Entry) (e : Entry) → IsLegal u h → e.reply ≡ (answer (after u h) e.call).0 → IsLegal u (h ++ e ∷ [])
legal_more u [] e p q = (q, tt)
legal_more u (x ∷ h) e p q = (p.0, legal_more (answer u x.call).1 h e p.1 q)

pub legal_front : (u : Plain) (h g : List Entry) → IsLegal u (h ++ g) → IsLegal u h
legal_front u [] g p = tt
legal_front u (x ∷ h) g p = (p.0, legal_front (answer u x.call).1 h g p.1)

pub legal_reply : (u : Plain) (h : List Entry) (e : Entry) (g : List Entry) → IsLegal u (h ++ e ∷ g) → e.reply ≡ (answer (after u h) e.call).0
legal_reply u [] e g p = p.0
legal_reply u (x ∷ h) e g p = legal_reply (answer u x.call).1 h e g p.1
