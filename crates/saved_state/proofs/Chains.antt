-- Entries that lead to one another: the next one that is mapped, and walks that arrive at each.
use Rattle.std.proofs.Common.{◌≡◌, ℕ, zero, suc, ◌+◌, ◌<◌, ◌≤◌, true, false, cond, nat_lt, List, [], ◌∷◌, Option, Some, None, refl, sym, ◌∙◌, inl, inr, arith}
use Rattle.std.specs.Ordering.{nat_cmp}
use Rattle.std.specs.FinMap as finmap
use Rattle.std.proofs.lemmas.Bool.{ltb-true, ltb-false, cases_eq, cases_lt}
use Rattle.std.proofs.lemmas.Option.{same_Some}
use Rattle.its_plain.specs.Walks.{Reached}
use Rattle.standing_states.specs.Rises.{RisesFrom, key_after}
use Rattle.standing_states.proofs.Rises.{find_skips, find_here, rises_none}

-- where each good place before q leads to one that is no further than q
module _ {P : Type 0} (next : P → Option P) (rank : P → ℕ) (Good : P → Type 0) (q : P) (same : (p : P) → Good p → rank p ≡ rank q → p ≡ q)
    (step : (p : P) → Good p → rank p < rank q → (s : P) × (next p ≡ Some s) × Good s × (rank p < rank s) × (rank s ≤ rank q)) where
  pub arrives : (n : ℕ) (p : P) → Good p → rank p ≤ rank q → rank q ≤ rank p + n → Reached next p q
  arrives zero p good le enough = ([], same p good (omega arith))
  arrives (suc n) p good le enough =
      elim (cases_eq (rank p) (rank q)) [
        | inl e ↦ ([], same p good e)
        | inr ne ↦
            let s = step p good (omega (arith, ne)) in
            let up = s.3 in
            let most = s.4 in
            let rest = arrives n s.0 s.2 most (omega arith) in
            (s.0 ∷ rest.0, (s.1, rest.1))
      ]

-- what is known of the next one that is mapped
pub record IsChain {X : Type 0} (mapped : ℕ → Option X) (after : ℕ → Option ℕ) : Type 0 where
  pub up : (i j : ℕ) → after i ≡ Some j → i < j
  pub there : (i j : ℕ) → after i ≡ Some j → (x : X) × (mapped j ≡ Some x)
  pub least : (i j k : ℕ) (x : X) → after i ≡ Some j → mapped k ≡ Some x → i < k → j ≤ k
  pub last : (i k : ℕ) (x : X) → after i ≡ None → mapped k ≡ Some x → i < k → ⊥

module _ {X : Type 0} where
  nothing : (x : X) (o : Option X) → o ≡ None → o ≡ Some x → ⊥
  nothing x o none some = let two : None ≡ Some x = sym none ∙ some in cc

  -- the first entry, or one of the others
  after_either : (C : Type 0) (i j : ℕ) (e : ℕ × X) (es : List (ℕ × X)) → key_after i (e ∷ es) ≡ Some j → (i < e.0 → e.0 ≡ j → C)
      → (e.0 ≤ i → key_after i es ≡ Some j → C) → C
  after_either C i j e es is here later =
      elim (nat_lt i e.0) as (λ b. nat_lt i e.0 ≡ b → cond b (Some e.0) (key_after i es) ≡ Some j → C) [
        | true ↦ λ t s. here (ltb-true i e.0 t) (same_Some e.0 j s)
        | false ↦ λ t s. later (ltb-false i e.0 t) s
      ] refl is

  after_neither : (i : ℕ) (e : ℕ × X) (es : List (ℕ × X)) → key_after i (e ∷ es) ≡ None → (e.0 ≤ i) × (key_after i es ≡ None)
  after_neither i e es is =
      elim (nat_lt i e.0) as (λ b. nat_lt i e.0 ≡ b → cond b (Some e.0) (key_after i es) ≡ None → (e.0 ≤ i) × (key_after i es ≡ None)) [
        | true ↦ λ t s. absurd cc
        | false ↦ λ t s. (ltb-false i e.0 t, s)
      ] refl is

  after_up : (i j : ℕ) (es : List (ℕ × X)) → key_after i es ≡ Some j → i < j
  after_up i j [] is = absurd cc
  after_up i j (e ∷ es) is = after_either (i < j) i j e es is (λ lt same. omega arith) (λ le later. after_up i j es later)

  after_there : (lo i j : ℕ) (es : List (ℕ × X)) → RisesFrom lo es → key_after i es ≡ Some j → (x : X) × (finmap.find nat_cmp j es ≡ Some x)
  after_there lo i j [] r is = absurd cc
  after_there lo i j (e ∷ es) r is =
      after_either ((x : X) × (finmap.find nat_cmp j (e ∷ es) ≡ Some x)) i j e es is (λ lt same. (e.1, find_here j e es (sym same))) (λ le later.
      let up = after_up i j es later in
      let rest = after_there (e.0 + 1) i j es r.1 later in
      (rest.0, find_skips j e es (λ s. omega arith) ∙ rest.1))

  after_least : (lo i j k : ℕ) (x : X) (es : List (ℕ × X)) → RisesFrom lo es → key_after i es ≡ Some j → finmap.find nat_cmp k es ≡ Some x → i < k → j ≤ k
  after_least lo i j k x [] r is at lt = absurd cc
  after_least lo i j k x (e ∷ es) r is at lt =
      after_either (j ≤ k) i j e es is
      (λ up same.
      elim (cases_lt k e.0) [
        | inl below ↦ absurd (nothing x (finmap.find nat_cmp k (e ∷ es)) (find_skips k e es (λ s. omega arith) ∙ rises_none k (e.0 + 1) es r.1 (omega arith))
            at)
        | inr le ↦ omega arith
      ])
      (λ le later. after_least (e.0 + 1) i j k x es r.1 later (sym (find_skips k e es (λ s. omega arith)) ∙ at) lt)

  after_last : (lo i k : ℕ) (x : X) (es : List (ℕ × X)) → RisesFrom lo es → key_after i es ≡ None → finmap.find nat_cmp k es ≡ Some x → i < k → ⊥
  after_last lo i k x [] r is at lt = cc
  after_last lo i k x (e ∷ es) r is at lt =
      let both = after_neither i e es is in let le = both.0 in
      after_last (e.0 + 1) i k x es r.1 both.1 (sym (find_skips k e es (λ s. omega arith)) ∙ at) lt

  pub chain : (es : List (ℕ × X)) → RisesFrom 0 es → IsChain (λ k. finmap.find nat_cmp k es) (λ i. key_after i es)
  chain es r = record {
    up = λ i j is. after_up i j es is;
    there = λ i j is. after_there 0 i j es r is;
    least = λ i j k x is at lt. after_least 0 i j k x es r is at lt;
    last = λ i k x is at lt. after_last 0 i k x es r is at lt;
  }

  -- the same of whatever says the same
  pub chain_of : (mapped : ℕ → Option X) (after : ℕ → Option ℕ) (es : List (ℕ × X)) → RisesFrom 0 es → ((k : ℕ) → mapped k ≡ finmap.find nat_cmp k es)
      → ((i : ℕ) → after i ≡ key_after i es) → IsChain mapped after
  chain_of mapped after es r same next = record {
    up = λ i j is. after_up i j es (sym (next i) ∙ is);
    there = λ i j is. let h = after_there 0 i j es r (sym (next i) ∙ is) in (h.0, same j ∙ h.1);
    least = λ i j k x is at lt. after_least 0 i j k x es r (sym (next i) ∙ is) (sym (same k) ∙ at) lt;
    last = λ i k x is at lt. after_last 0 i k x es r (sym (next i) ∙ is) (sym (same k) ∙ at) lt;
  }
