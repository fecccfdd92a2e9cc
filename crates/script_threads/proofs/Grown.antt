-- What the root has seen of a phase.
use Rattle.std.proofs.Common.{◌≡◌, ◌≢◌, ℕ, zero, suc, ◌+◌, ◌<◌, ◌≤◌, eqb, cond, Bool, true, false, List, [], ◌∷◌, ◌++◌, map, length, refl, ap, sym, ◌∙◌, subst}
use Rattle.std.proofs.Common.{inl, inr, ⊎_elim, arith, append_assoc, append-nil, eq-eqb, ne_eqb}
use Rattle.std.specs.List.{AllByRecursion}
use Rattle.std.proofs.lemmas.List.{append_cancel_left}
use Rattle.std.proofs.lemmas.Bool.{cases_lt}
use mathlib.Core.Logic.{dite}
use mathlib.Core.List.{IsPrefix}
use native.Mathlib.Decide.{ℕ_discrete}
use Rattle.its_plain.specs.declared.call.Entry.{Entry}
use Rattle.its_plain.specs.History.{placed}
use Rattle.its_plain.specs.Runs.{IsOfPasses}
use Rattle.its_steps.specs.World.{View, Placed}
use Rattle.its_steps.specs.Good.{Ended, IsEnded, IsWhole}
use Rattle.its_steps.proofs.Lists.{placed_none, all_weaker}
use Rattle.script_threads.specs.Rests.{Rests}
use Rattle.script_threads.specs.Roots.{Knows, joined, TookIn, Counted}

abbrev Line : Type 0
Line = ℕ × Entry

-- the entries of the passes m, m + 1, .., pass by pass
abbrev pub listed : ℕ → ℕ → ℕ → List Entry → List Placed
listed m zero n h = []
listed m (suc count) n h = placed m n h ∷ listed (suc m) count n h

choice_append : (b : Bool) (x : Line) (xs ys zs : List Line) → xs ≡ ys ++ zs → cond b (x ∷ xs) xs ≡ cond b (x ∷ ys) ys ++ zs
choice_append true x xs ys zs e = ap (λ w. x ∷ w) e
choice_append false x xs ys zs e = e

pub placed_append : (pass n : ℕ) (h k : List Entry) → placed pass n (h ++ k) ≡ placed pass n h ++ placed pass (n + length h) k
placed_append pass n [] k = let z : n ≡ n + 0 = omega arith in ap (λ j. placed pass j k) z
placed_append pass n (e ∷ h) k = let same : (suc n + length h) ≡ (n + suc (length h)) = omega arith in
    choice_append (eqb e.pass pass) (n, e) (placed pass (suc n) (h ++ k)) (placed pass (suc n) h) (placed pass (n + suc (length h)) k)
    (placed_append pass (suc n) h k ∙ ap (λ j. placed pass (suc n) h ++ placed pass j k) same)

all_joined : (P : ℕ × Placed → Type 0) (xs ended : Ended) → AllByRecursion P (joined xs ended) → AllByRecursion P xs × AllByRecursion P ended
all_joined P [] ended ps = (tt, ps)
all_joined P (x ∷ xs) ended ps = let r = all_joined P xs (x ∷ ended) ps in ((r.1.0, r.0), r.1.1)

ended_later : (n : ℕ) (xs ended : Ended) → IsEnded n ended → IsEnded n (joined xs ended)
ended_later n [] ended t = t
ended_later n (x ∷ xs) ended t = ended_later n xs (x ∷ ended) (inr t)

ended_new : (n m : ℕ) (xs ended : Ended) → Counted m xs → m ≤ n → n < m + length xs → IsEnded n (joined xs ended)
ended_new n m [] ended c le lt = absurd (omega arith)
ended_new n m (x ∷ xs) ended c le lt = dite (ℕ_discrete n m)
    (λ same. ended_later n xs (x ∷ ended) (inl (c.0 ∙ sym same)))
    (λ ne. ended_new n (suc m) xs (x ∷ ended) c.1 (omega arith) (omega arith))

same_whole : (h k : List Entry) (a b n : ℕ) (xs : Ended) → AllByRecursion (IsWhole h a) xs → AllByRecursion (IsWhole k b) xs → IsEnded n xs
    → placed n 0 h ≡ placed n 0 k
same_whole h k a b n [] ps qs t = absurd t
same_whole h k a b n (x ∷ xs) ps qs t = ⊎_elim
    (λ (s : x.0 ≡ n). subst (λ (j : ℕ). placed j 0 h ≡ placed j 0 k) s (sym ps.0.1 ∙ qs.0.1))
    (λ (s : IsEnded n xs). same_whole h k a b n xs ps.1 qs.1 s) t

placed_here : (m n : ℕ) (e : Entry) (h : List Entry) → e.pass ≡ m → placed m n (e ∷ h) ≡ (n, e) ∷ placed m (suc n) h
placed_here m n e h is = ap (λ b. cond b ((n, e) ∷ placed m (suc n) h) (placed m (suc n) h)) (eq-eqb e.pass m is)

placed_else : (m n : ℕ) (e : Entry) (h : List Entry) → e.pass ≢ m → placed m n (e ∷ h) ≡ placed m (suc n) h
placed_else m n e h ne = ap (λ b. cond b ((n, e) ∷ placed m (suc n) h) (placed m (suc n) h)) (ne_eqb e.pass m ne)

not_empty : (x : Line) (xs : List Line) → x ∷ xs ≡ [] → ⊥
not_empty x xs e = cc e

at_least : (a b : ℕ) → (b < a → ⊥) → a ≤ b
at_least a b f = ⊎_elim (λ (lt : b < a). absurd (f lt)) (λ (le : a ≤ b). le) (cases_lt b a)

-- no entry is of a number whose list is empty
all_new : (m n : ℕ) (h : List Entry) → ((p : ℕ) → p < m → placed p n h ≡ []) → AllByRecursion (λ e. m ≤ e.pass) h
all_new m n [] none = tt
all_new m n (e ∷ h) none =
    let here : m ≤ e.pass = at_least m e.pass (λ lt. not_empty (n, e) (placed e.pass (suc n) h) (sym (placed_here e.pass n e h refl) ∙ none e.pass lt)) in
    (here, all_new m (suc n) h (λ p lt. let ne : e.pass ≢ p = λ s. absurd (omega arith) in sym (placed_else p n e h ne) ∙ none p lt))

all_and : {A : Type 0} (P Q : A → Type 0) (xs : List A) → AllByRecursion P xs → AllByRecursion Q xs → AllByRecursion (λ x. P x × Q x) xs
all_and P Q [] ps qs = tt
all_and P Q (x ∷ xs) ps qs = ((ps.0, qs.0), all_and P Q xs ps.1 qs.1)

all_last : {A : Type 0} (P : A → Type 0) (xs ys : List A) → AllByRecursion P (xs ++ ys) → AllByRecursion P ys
all_last P [] ys ps = ps
all_last P (x ∷ xs) ys ps = all_last P xs ys ps.1

-- the lists of new passes are what the new entries give
lists_new : (m made : ℕ) (h rest : List Entry) (xs : Ended) → AllByRecursion (λ e. e.pass < m) h → Counted m xs → AllByRecursion (IsWhole (h ++ rest) made) xs
    → map (λ (x : ℕ × Placed). x.1) xs ≡ listed m (length xs) (length h) rest
lists_new m made h rest [] low c ws = refl
lists_new m made h rest (x ∷ xs) low c ws =
    let zero_plus : 0 + length h ≡ length h = omega arith in
    let one : x.1 ≡ placed m (length h) rest = ws.0.1
    ∙ (ap (λ j. placed j 0 (h ++ rest)) c.0
    ∙ (placed_append m 0 h rest ∙ ((λ d. placed_none m 0 h low d ++ placed m (0 + length h) rest) ∙ ap (λ j. placed m j rest) zero_plus))) in
    λ d. one d ∷ lists_new (suc m) made h rest xs (all_weaker (λ (e : Entry). e.pass < m) (λ (e : Entry). e.pass < suc m) h (λ e t. omega (arith, t)) low) c.1
    ws.1 d

pub record Grown (v : View) (xs : Ended) (w : View) : Type 0 where
  pub rests : Rests w
  pub knows : Knows w
  pub more : List Entry
  pub seen : w.seen ≡ v.seen ++ more
  pub only : AllByRecursion (IsOfPasses v.root.made (length xs)) more
  pub lists : map (λ (x : ℕ × Placed). x.1) xs ≡ listed v.root.made (length xs) (length v.seen) more

-- u is the root once the passes were split off, w once all were joined
pub grown : (v u w : View) (xs : Ended) → Rests v → Knows v → u.number ≡ 0 → u.held ≡ [] → u.root.made ≡ v.root.made + length xs → u.mine ≡ v.mine
    → u.root.ended ≡ v.root.ended → IsPrefix v.seen u.seen → Knows u
    → TookIn u xs w → Counted v.root.made xs → Grown v xs w
grown v u w xs rests knew root held made mine ended longer knows took count =
    let know : Knows w = took.knows knows root in
    let more : List Entry = longer.0 ++ took.longer.0 in
    let seen : w.seen ≡ v.seen ++ more = sym took.longer.1 ∙ (ap (λ s. s ++ took.longer.0) (sym longer.1) ∙ append_assoc v.seen longer.0 took.longer.0) in
    let made' : w.root.made ≡ v.root.made + length xs = took.made ∙ made in
    let ended' : w.root.ended ≡ joined xs v.root.ended = took.ended ∙ ap (joined xs) ended in
    let whole : AllByRecursion (IsWhole (v.seen ++ more) w.root.made) (joined xs v.root.ended) =
    subst (λ (z : List Entry × Ended). AllByRecursion (IsWhole z.0 w.root.made) z.1) (λ d. (seen d, ended' d)) know.whole in
    let parts = all_joined (IsWhole (v.seen ++ more) w.root.made) xs v.root.ended whole in
    let zero_plus : 0 + length v.seen ≡ length v.seen = omega arith in
    let none : (p : ℕ) → p < v.root.made → placed p (length v.seen) more ≡ [] = λ p lt.
    let same : placed p 0 v.seen ≡ placed p 0 (v.seen ++ more) = dite (ℕ_discrete p 0)
    (λ z. subst (λ (j : ℕ). placed j 0 v.seen ≡ placed j 0 (v.seen ++ more)) (sym z)
    (sym knew.mine ∙ (sym mine ∙ (sym took.mine ∙ (know.mine ∙ ap (placed 0 0) seen)))))
    (λ nz. same_whole v.seen (v.seen ++ more) v.root.made w.root.made p v.root.ended knew.whole parts.1 (rests.lone.1 p (omega arith) lt)) in
    append_cancel_left (placed p 0 v.seen) (placed p (length v.seen) more) [] (ap (λ j. placed p 0 v.seen ++ placed p j more) (sym zero_plus)
    ∙ (sym (placed_append p 0 v.seen more) ∙ (sym same ∙ sym (append-nil (placed p 0 v.seen))))) in
    let below : AllByRecursion (λ (e : Entry). e.pass < v.root.made + length xs) more = all_last (λ (e : Entry). e.pass < v.root.made + length xs) v.seen more
    (subst (λ (z : ℕ × List Entry). AllByRecursion (λ (e : Entry). e.pass < z.0) z.1) (λ d. (made' d, seen d)) know.given) in
    record {
      rests = record {
        lone = (
          took.number ∙ root,
          (λ n pos lt. subst (IsEnded n) (sym ended') (⊎_elim
              (λ (old : n < v.root.made). ended_later n xs v.root.ended (rests.lone.1 n pos old))
              (λ (le : v.root.made ≤ n). ended_new n v.root.made xs v.root.ended count le (omega (arith, lt, made')))
              (cases_lt n v.root.made))),
        );
        held = took.held ∙ held;
      };
      knows = know;
      more = more;
      seen = seen;
      only = all_and (λ (e : Entry). v.root.made ≤ e.pass) (λ (e : Entry). e.pass < v.root.made + length xs) more
          (all_new v.root.made (length v.seen) more none) below;
      lists = lists_new v.root.made w.root.made v.seen more xs knew.given count parts.0;
    }
