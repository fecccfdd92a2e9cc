-- Entries in a list whose keys rise.
use Rattle.std.proofs.Common.{◌≡◌, ℕ, ◌+◌, ◌<◌, Bool, true, false, List, [], ◌∷◌, ◌++◌, length, get_or, set, take, drop, refl, sym, ap, subst, ◌∙◌, arith}
use Rattle.std.proofs.Common.{add-one}
use Rattle.std.proofs.lemmas.List.{at_drop_more, set_split}
use Rattle.std.specs.Prelude.{filter}
use Rattle.std.specs.List.{items_where_true}
use Rattle.std.specs.List.Retain.{IsFiltered, ReturnsInTurn}
use Rattle.std.specs.FinMap.{put}
use Rattle.std.specs.FinMap.Entries.{by_order}
use Rattle.std.specs.declared.cmp.Ordering.{Ordering}
use Rattle.std.specs.declared.cmp.Ordering.TheVariants.{Equal}

-- a key that is there gets another value
pub put_again : {K X : Type 0} (R : K → K → Ordering) (k : K) (v : X) (es : List (K × X)) (i : ℕ) (e : K × X) → e ≡ get_or es i e → i < length es
    → R k e.0 ≡ Equal
    → take i es ++ put R k v (drop i es) ≡ put R k v es → set es i (e.0, v) ≡ put R k v es
put_again {K} {X} R k v es i e at lt same so_far =
    let whole : List (K × X) = put R k v es in
    let front : put R k v (drop i es) ≡ put R k v (e ∷ drop (i + 1) es) = at_drop_more (put R k v) es i e lt
    ∙ ap (λ (x : K × X). put R k v (x ∷ drop (i + 1) es)) (sym at) in
    let here : put R k v (e ∷ drop (i + 1) es) ≡ (e.0, v) ∷ drop (i + 1) es =
    ap (λ (o : Ordering). by_order o ((k, v) ∷ e ∷ drop (i + 1) es) ((e.0, v) ∷ drop (i + 1) es) (e ∷ put R k v (drop (i + 1) es))) same in
    let after : take i es ++ ((e.0, v) ∷ drop (i + 1) es) ≡ put R k v es = ap (λ (l : List (K × X)). take i es ++ l) (sym (front ∙ here)) ∙ so_far in
    set_split es i (e.0, v) lt ∙ rw (← add-one i) after

-- what `retain` leaves is a filter, where its test is always the same
pub filtered : {X P : Type 0} (R : P → X → Bool → P → Type 0) (test : X → Bool) (p : P) → ((x : X) (b : Bool) (q : P) → R p x b q → (q ≡ p) × (b ≡ test x))
    → (xs ys : List X) → IsFiltered R p xs ys → ys ≡ filter test xs
filtered {X} {P} R test p says xs ys h = h.4 ∙ go h.0 xs h.1 h.2 h.3
  where
    go : (bs : List Bool) (zs : List X) (q : P) → length bs ≡ length zs → ReturnsInTurn R p bs zs q → items_where_true bs zs ≡ filter test zs
    go [] [] q len r = refl
    go [] (z ∷ zs) q len r = absurd (omega arith)
    go (b ∷ bs) [] q len r = absurd (omega arith)
    go (true ∷ bs) (z ∷ zs) q len r =
        let s = says z true r.0 r.1 in
        rw (← s.1) (ap (λ ys. z ∷ ys) (go bs zs q (omega arith) (subst (λ (j : P). ReturnsInTurn R j bs zs q) s.0 r.2)))
    go (false ∷ bs) (z ∷ zs) q len r =
        let s = says z false r.0 r.1 in
        rw (← s.1) (go bs zs q (omega arith) (subst (λ (j : P). ReturnsInTurn R j bs zs q) s.0 r.2))
