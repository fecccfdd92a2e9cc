-- Shards taken one by one, and put home one by one.
use Rattle.std.proofs.Common.{◌≡◌, ◌≢◌, ℕ, zero, suc, ◌<◌, ◌≤◌, false, List, [], ◌∷◌, Option, Some, None, length, set, replicate, refl, ap, sym, ◌∙◌, subst}
use Rattle.std.proofs.Common.{inl, inr, arith, get_or-set_same, get_or-set_other}
use Rattle.std.proofs.lemmas.Bool.{cases_eq, cases_lt, le-ltb, lt-ltb}
use Rattle.std.specs.Prelude.{is_some}
use Rattle.its_types.specs.declared.machine.Part.TheVariants as part
use Rattle.its_steps.specs.Contents.{Held}
use Rattle.its_turns.specs.Order.{IsInOrder}
use Rattle.held_parts.specs.Shards.{Ways, in_place, shard_held, held_if_in, shard_row, shards_held, AreNoShards, AreShards, AreBeforeShards}
use Rattle.held_parts.proofs.InRows.{row_agrees, row_none, row_first}
use Rattle.held_parts.proofs.ShardRows.{shards_before}

-- the first n are in hand, taken since some parts were held
pub record AreTaken (its n : ℕ) (shards : List (Option Ways)) (before now : List Held) : Type 0 where
  pub held : now ≡ shards_held its shards n before
  pub hand : AreShards n shards

none_of : (o : Option Ways) → is_some o ≡ false → o ≡ None
none_of None e = refl
none_of (Some ways) e = absurd cc

pub none_taken : (its : ℕ) (shards : List (Option Ways)) (xs : List Held) → AreNoShards shards → AreTaken its 0 shards xs xs
none_taken its shards xs none = record {
  held = sym (row_none (shard_row its shards) xs 0 refl);
  hand = λ k. ap (λ (o : Option Ways). is_some o) (none k)
      ∙ sym (le-ltb k 0 (omega arith));
}

module _ (its n m : ℕ) (shards : List (Option Ways)) (before now : List Held) (h : AreTaken its n shards before now) (next : m ≡ suc n) where
  -- the next one comes after them
  pub comes_next : AreBeforeShards its before → IsInOrder (part.Shard its n) now
  comes_next order = subst (IsInOrder (part.Shard its n)) (sym h.held)
      (shards_before its shards before n (part.Shard its n) (λ k lt. inr (refl, lt)) (order n))

  module _ (ways : Ways) (now' : List Held) (size : length shards ≡ 64) (lt : n < 64) (more : now' ≡ shard_held its n ways ∷ now) where
    abbrev then : List (Option Ways)
    then = set shards n (Some ways)

    here : in_place then n ≡ Some ways
    here = get_or-set_same shards n (Some ways) None (omega (arith, lt, size))

    others : (k : ℕ) → k ≢ n → in_place then k ≡ in_place shards k
    others k ne = get_or-set_other shards n k (Some ways) None ne

    pub one_taken : AreTaken its m then before now'
    one_taken = record {
      held = more
          ∙ (ap (λ (l : List Held). (let y : List Held = shard_held its n ways ∷ l in y)) (h.held
          ∙ row_agrees (shard_row its shards) (shard_row its then) before n (λ k less. ap (held_if_in its k) (sym (others k (λ e. omega (arith, less, e))))))
          ∙ sym (row_first (shard_row its then) before m n (shard_held its n ways) next (ap (held_if_in its n) here)));
      hand = λ k. elim (cases_lt k n) [
        | inl below ↦ ap (λ (o : Option Ways). is_some o) (others k (λ e. omega (arith, below, e)))
            ∙ (h.hand k ∙ (lt-ltb k n below ∙ sym (lt-ltb k m (omega (arith, below, next)))))
        | inr le ↦ elim (cases_eq k n) [
          | inl e ↦ ap (λ (o : Option Ways). is_some o) (ap (in_place then) e ∙ here) ∙ sym (lt-ltb k m (omega (arith, e, next)))
          | inr ne ↦ ap (λ (o : Option Ways). is_some o) (others k ne) ∙ (h.hand k ∙ (le-ltb k n le ∙ sym (le-ltb k m (omega (arith, le, ne, next)))))
        ]
      ];
    }

pub all_taken : (its n m : ℕ) (shards : List (Option Ways)) (before now : List Held) → n ≡ m → AreTaken its n shards before now
    → (now ≡ shards_held its shards m before) × AreShards m shards
all_taken its n m shards before now is h = (h.held ∙ ap (λ (k : ℕ). shards_held its shards k before) is, subst (λ (k : ℕ). AreShards k shards) is h.hand)

-- ---- put home

-- those below n are in hand still, and no other
pub record AreLeft (n : ℕ) (old shards : List (Option Ways)) : Type 0 where
  pub below : (k : ℕ) → k < n → in_place shards k ≡ in_place old k
  pub above : (k : ℕ) → n ≤ k → in_place shards k ≡ None

pub all_left : (n : ℕ) (shards : List (Option Ways)) → AreShards n shards → AreLeft n shards shards
all_left n shards are = record { below = λ k lt. refl; above = λ k le. none_of (in_place shards k) (are k ∙ le-ltb k n le) }

pub one_left : (n m : ℕ) (old shards : List (Option Ways)) → n ≡ suc m → AreLeft n old shards → AreLeft m old (set shards m None)
one_left n m old shards next h = record {
  below = λ k lt. get_or-set_other shards m k None None (λ e. omega (arith, lt, e)) ∙ h.below k (omega (arith, lt, next));
  above = λ k le. elim (cases_eq k m) [
    | inl e ↦ ap (in_place (set shards m None)) e ∙ gone shards m
    | inr ne ↦ get_or-set_other shards m k None None ne ∙ h.above k (omega (arith, le, ne, next))
  ];
}
  where
    gone : (l : List (Option Ways)) (j : ℕ) → in_place (set l j None) j ≡ None
    gone [] j = refl
    gone (o ∷ l) zero = refl
    gone (o ∷ l) (suc j) = gone l j

-- ---- empty places

pub no_shards : (n k : ℕ) → in_place (replicate n None) k ≡ None
no_shards zero k = refl
no_shards (suc n) zero = refl
no_shards (suc n) (suc k) = no_shards n k
