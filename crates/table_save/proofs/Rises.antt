-- A rising pass: what is left of the entries answers for the places to come as all of them do.
pub use Rattle.standing_states.proofs.Rises.{find_skips, find_here, rises_none, later_rises, sorted_rises, map_rises}
use Rattle.std.proofs.Common.{◌≡◌, ℕ, ◌+◌, ◌<◌, ◌≤◌, true, false, cond, List, [], ◌∷◌, length, drop, Some, None, refl, sym, subst, ap, ◌∙◌, arith}
use Rattle.std.specs.Prelude.{◌==◌}
use Rattle.std.specs.List.{AllByRecursion}
use Rattle.std.specs.Ordering.{nat_cmp}
use Rattle.std.specs.FinMap as finmap
use Rattle.std.proofs.lemmas.Bool.{le-ltb, ltb-true, ltb-false, eqb-true, eqb-false}
use Rattle.its_plain.specs.Saved.{distance}
use Rattle.table_save.specs.Pass.{RisesFrom, past, begins_below, key_after, packed_if, entry_word, Passed}

-- the entries before a place are being passed over
pub record Skipping {X : Type 0} (Fits : ℕ × X → Type 0) (pack : X → ℕ → ℕ) (cap id : ℕ) (all rest : List (ℕ × X)) : Type 0 where
  pub rises : RisesFrom 0 rest
  pub words : (k : ℕ) → id ≤ k → entry_word pack cap rest k ≡ entry_word pack cap all k
  pub fit : AllByRecursion Fits rest

module _ {X : Type 0} where
  -- ---- past one place

  pub past_rises : (i : ℕ) (es : List (ℕ × X)) → RisesFrom i es → RisesFrom (i + 1) (past i es)
  past_rises i [] r = tt
  past_rises i (e ∷ es) r =
      elim (e.0 == i) as (λ b. (e.0 == i) ≡ b → RisesFrom (i + 1) (cond b es (e ∷ es))) [
        | true ↦ λ t. let k : e.0 ≡ i = eqb-true e.0 i t in subst (λ (n : ℕ). RisesFrom (n + 1) es) k r.1
        | false ↦ λ t. let k = eqb-false e.0 i t in let low = r.0 in (omega arith, r.1)
      ] refl

  pub past_find : (i k : ℕ) (es : List (ℕ × X)) → i < k → finmap.find nat_cmp k (past i es) ≡ finmap.find nat_cmp k es
  past_find i k [] lt = refl
  past_find i k (e ∷ es) lt =
      elim (e.0 == i) as (λ b. (e.0 == i) ≡ b → finmap.find nat_cmp k (cond b es (e ∷ es)) ≡ finmap.find nat_cmp k (e ∷ es)) [
        | true ↦ λ t. let n : e.0 ≡ i = eqb-true e.0 i t in sym (find_skips k e es (λ s. omega arith))
        | false ↦ λ t. refl
      ] refl

  pub after_skips : (k : ℕ) (e : ℕ × X) (es : List (ℕ × X)) → e.0 ≤ k → key_after k (e ∷ es) ≡ key_after k es
  after_skips k e es le = ap (λ b. cond b (Some e.0) (key_after k es)) (le-ltb k e.0 le)

  pub past_after : (i k : ℕ) (es : List (ℕ × X)) → i < k → key_after k (past i es) ≡ key_after k es
  past_after i k [] lt = refl
  past_after i k (e ∷ es) lt =
      elim (e.0 == i) as (λ b. (e.0 == i) ≡ b → key_after k (cond b es (e ∷ es)) ≡ key_after k (e ∷ es)) [
        | true ↦ λ t. let n : e.0 ≡ i = eqb-true e.0 i t in sym (after_skips k e es (omega arith))
        | false ↦ λ t. refl
      ] refl

  pub past_fit : (Fits : ℕ × X → Type 0) (i : ℕ) (es : List (ℕ × X)) → AllByRecursion Fits es → AllByRecursion Fits (past i es)
  past_fit Fits i [] fit = tt
  past_fit Fits i (e ∷ es) fit = elim (e.0 == i) as (λ b. AllByRecursion Fits (cond b es (e ∷ es))) [ true ↦ fit.1 | false ↦ fit ]

  -- ---- words

  module _ (Fits : ℕ × X → Type 0) (pack : X → ℕ → ℕ) (cap : ℕ) where
    pub word_past : (i k : ℕ) (es : List (ℕ × X)) → i < k → entry_word pack cap (past i es) k ≡ entry_word pack cap es k
    word_past i k es lt =
        ap (λ o. packed_if pack o (distance cap k (key_after k (past i es)))) (past_find i k es lt)
        ∙ ap (λ o. packed_if pack (finmap.find nat_cmp k es) (distance cap k o)) (past_after i k es lt)

    pub word_none : (es : List (ℕ × X)) (i : ℕ) → finmap.find nat_cmp i es ≡ None → 0 ≡ entry_word pack cap es i
    word_none es i none = sym (ap (λ o. packed_if pack o (distance cap i (key_after i es))) none)

    -- nothing is mapped at a place before the first entry
    pub word_before : (i : ℕ) (e : ℕ × X) (es : List (ℕ × X)) → RisesFrom i (e ∷ es) → (e.0 ≡ i → ⊥) → 0 ≡ entry_word pack cap (e ∷ es) i
    word_before i e es r apart =
        let low = r.0 in
        word_none (e ∷ es) i (find_skips i e es (λ s. apart (sym s)) ∙ rises_none i (e.0 + 1) es r.1 (omega arith))

    pub passed_none : (i : ℕ) (es : List (ℕ × X)) → RisesFrom i es → AllByRecursion Fits es → Passed Fits pack cap i es es
    passed_none i es r fit = record { rises = r; words = λ k le. refl; fit = fit }

    pub passed_more : (i j : ℕ) (all rest now : List (ℕ × X)) → j ≡ i + 1 → now ≡ past i rest → Passed Fits pack cap i all rest → Passed Fits pack cap j all now
    passed_more i j all rest now next is p = rw (next, is) (record {
      rises = past_rises i rest p.rises;
      words = λ k le. word_past i k rest (omega arith) ∙ p.words k (omega arith);
      fit = past_fit Fits i rest p.fit;
    })

    pub passed_then : (i j : ℕ) (all some rest : List (ℕ × X)) → i ≤ j → Passed Fits pack cap i all some → Passed Fits pack cap j some rest
        → Passed Fits pack cap j all rest
    passed_then i j all some rest le p q = record {
      rises = q.rises;
      words = λ k from. q.words k from ∙ p.words k (omega arith);
      fit = q.fit;
    }

    -- ---- past the entries before a place

    pub word_skips : (k : ℕ) (e : ℕ × X) (es : List (ℕ × X)) → e.0 < k → entry_word pack cap (e ∷ es) k ≡ entry_word pack cap es k
    word_skips k e es lt =
        ap (λ o. packed_if pack o (distance cap k (key_after k (e ∷ es)))) (find_skips k e es (λ s. omega arith))
        ∙ ap (λ o. packed_if pack (finmap.find nat_cmp k es) (distance cap k o)) (after_skips k e es (omega arith))

    -- the first one is passed over
    pub skipped_one : (id : ℕ) (all rest : List (ℕ × X)) → begins_below id rest ≡ true → Skipping Fits pack cap id all rest
        → Skipping Fits pack cap id all (drop 1 rest)
    skipped_one id all [] below s = absurd cc
    skipped_one id all (e ∷ es) below s = record {
      rises = later_rises (e.0 + 1) 0 es s.rises.1 (omega arith);
      words = λ k le. let lt = ltb-true e.0 id below in sym (word_skips k e es (omega arith)) ∙ s.words k le;
      fit = s.fit.1;
    }

    pub skipped : (id : ℕ) (all rest : List (ℕ × X)) → begins_below id rest ≡ false → Skipping Fits pack cap id all rest → Passed Fits pack cap id all rest
    skipped id all [] below s = record { rises = tt; words = s.words; fit = s.fit }
    skipped id all (e ∷ es) below s = record { rises = (ltb-false e.0 id below, s.rises.1); words = s.words; fit = s.fit }

    pub shorter : (id : ℕ) (rest : List (ℕ × X)) → begins_below id rest ≡ true → length (drop 1 rest) < length rest
    shorter id [] below = absurd cc
    shorter id (e ∷ es) below = omega arith

    -- no entry is mapped from a place on, below another

    pub none_below : (i j : ℕ) (es : List (ℕ × X)) → RisesFrom i es → begins_below j es ≡ false → (k : ℕ) → i ≤ k → k < j → 0 ≡ entry_word pack cap es k
    none_below i j [] r below k from lt = word_none [] k refl
    none_below i j (e ∷ es) r below k from lt =
        let far = ltb-false e.0 j below in
        word_none (e ∷ es) k (find_skips k e es (λ s. omega arith) ∙ rises_none k (e.0 + 1) es r.1 (omega arith))

    pub passed_over : (i j : ℕ) (es : List (ℕ × X)) → RisesFrom i es → AllByRecursion Fits es → begins_below j es ≡ false → Passed Fits pack cap j es es
    passed_over i j [] r fit below = record { rises = tt; words = λ k le. refl; fit = fit }
    passed_over i j (e ∷ es) r fit below = record { rises = (ltb-false e.0 j below, r.1); words = λ k le. refl; fit = fit }
