-- Parts in the order in which they are taken.
use Rattle.std.proofs.Common.{◌≡◌, ◌⊎◌, ℕ, suc, ◌+◌, ◌*◌, ◌<◌, List, [], ◌∷◌, ap, sym, subst, inl, inr, arith}
use mathlib.Core.Logic.{dite}
use native.Mathlib.Decide.{dec_le}
use Rattle.its_types.specs.declared.machine.Part.{Part}
use Rattle.its_types.specs.declared.machine.Part.TheVariants as part
use Rattle.its_steps.specs.Contents.{Held}
use Rattle.its_steps.specs.Good.{Holds}
use Rattle.its_steps.specs.Parts.{Setup, Stands, index_of, translator_count}
use Rattle.its_steps.proofs.Indexes.{row_below}
use Rattle.its_turns.specs.Order.{ComesBefore, IsInOrder, OrderIsByNumber}

-- none comes before itself
not_itself : (p : Part) → ComesBefore p p → ⊥
not_itself (part.Maps i) lt = omega (arith, lt)
not_itself part.Mem b = b
not_itself (part.Shard i n) (inl lt) = omega (arith, lt)
not_itself (part.Shard i n) (inr both) = let lt = both.1 in omega (arith, lt)
not_itself (part.Conf v) lt = omega (arith, lt)
not_itself (part.Pend v) lt = omega (arith, lt)

-- so what comes after all that is held isn't held
pub in_order_free : (p : Part) (held : List Held) → IsInOrder p held → Holds p held → ⊥
in_order_free p [] order holds = holds
in_order_free p (x ∷ xs) order (inl is) = not_itself p (subst (λ (q : Part). ComesBefore q p) is order.0)
in_order_free p (x ∷ xs) order (inr holds) = in_order_free p xs order.1 holds

-- where nothing is held, any part may be taken
pub bare_order : (p : Part) (held : List Held) → held ≡ [] → IsInOrder p held
bare_order p held bare = subst (IsInOrder p) (sym bare) tt

-- ---- the numbers of parts

module _ (s : Setup) where
  -- a shard's number is below those of redistributors
  shard_below : (i n : ℕ) → i < translator_count s → n < s.shards → i * s.shards + n < translator_count s * s.shards
  shard_below i n lt low = row_below (translator_count s) s.shards i n lt low

  rises : (p q : Part) → Stands s p → Stands s q → ComesBefore p q → index_of s p < index_of s q
  rises (part.Maps i) (part.Maps j) a b lt = lt
  rises (part.Maps i) part.Mem a b u = a
  rises (part.Maps i) (part.Shard j m) a b u = omega (arith, a)
  rises (part.Maps i) (part.Conf v) a b u = omega (arith, a)
  rises (part.Maps i) (part.Pend v) a b u = omega (arith, a)
  rises part.Mem (part.Maps j) a b u = absurd u
  rises part.Mem part.Mem a b u = absurd u
  rises part.Mem (part.Shard j m) a b u = omega arith
  rises part.Mem (part.Conf v) a b u = omega arith
  rises part.Mem (part.Pend v) a b u = omega arith
  rises (part.Shard i n) (part.Maps j) a b u = absurd u
  rises (part.Shard i n) part.Mem a b u = absurd u
  rises (part.Shard i n) (part.Shard j m) a b (inl lt) = let r = row_below j s.shards i n lt a.1 in omega (arith, r)
  rises (part.Shard i n) (part.Shard j m) a b (inr both) = let row = ap (λ (k : ℕ). k * s.shards) both.0 in let lt = both.1 in omega (arith, row, lt)
  rises (part.Shard i n) (part.Conf v) a b u = let r = shard_below i n a.0 a.1 in omega (arith, r)
  rises (part.Shard i n) (part.Pend v) a b u = let r = shard_below i n a.0 a.1 in omega (arith, r)
  rises (part.Conf v) (part.Maps j) a b u = absurd u
  rises (part.Conf v) part.Mem a b u = absurd u
  rises (part.Conf v) (part.Shard j m) a b u = absurd u
  rises (part.Conf v) (part.Conf x) a b lt = omega (arith, lt)
  rises (part.Conf v) (part.Pend x) a b u = omega (arith, a)
  rises (part.Pend v) (part.Maps j) a b u = absurd u
  rises (part.Pend v) part.Mem a b u = absurd u
  rises (part.Pend v) (part.Shard j m) a b u = absurd u
  rises (part.Pend v) (part.Conf x) a b u = absurd u
  rises (part.Pend v) (part.Pend x) a b lt = omega (arith, lt)

  shards_before : (i n j m : ℕ) → m < s.shards → i * s.shards + n < j * s.shards + m → (i < j) ⊎ ((i ≡ j) × (n < m))
  shards_before i n j m low lt = dite (dec_le (suc i) j) (λ less. inl less) (λ no. dite (dec_le (suc j) i)
      (λ more. let r = row_below i s.shards j m more low in absurd (omega (arith, r, lt)))
      (λ nor. let same : i ≡ j = omega (arith, no, nor) in let row = ap (λ (k : ℕ). k * s.shards) same in inr (same, omega (arith, row, lt))))

  lower : (p q : Part) → Stands s p → Stands s q → index_of s p < index_of s q → ComesBefore p q
  lower (part.Maps i) (part.Maps j) a b lt = lt
  lower (part.Maps i) part.Mem a b lt = tt
  lower (part.Maps i) (part.Shard j m) a b lt = tt
  lower (part.Maps i) (part.Conf v) a b lt = tt
  lower (part.Maps i) (part.Pend v) a b lt = tt
  lower part.Mem (part.Maps j) a b lt = absurd (omega (arith, b, lt))
  lower part.Mem part.Mem a b lt = absurd (omega (arith, lt))
  lower part.Mem (part.Shard j m) a b lt = tt
  lower part.Mem (part.Conf v) a b lt = tt
  lower part.Mem (part.Pend v) a b lt = tt
  lower (part.Shard i n) (part.Maps j) a b lt = absurd (omega (arith, b, lt))
  lower (part.Shard i n) part.Mem a b lt = absurd (omega (arith, lt))
  lower (part.Shard i n) (part.Shard j m) a b lt = shards_before i n j m b.1 (omega (arith, lt))
  lower (part.Shard i n) (part.Conf v) a b lt = tt
  lower (part.Shard i n) (part.Pend v) a b lt = tt
  lower (part.Conf v) (part.Maps j) a b lt = absurd (omega (arith, b, lt))
  lower (part.Conf v) part.Mem a b lt = absurd (omega (arith, lt))
  lower (part.Conf v) (part.Shard j m) a b lt = let r = shard_below j m b.0 b.1 in absurd (omega (arith, r, lt))
  lower (part.Conf v) (part.Conf x) a b lt = omega (arith, lt)
  lower (part.Conf v) (part.Pend x) a b lt = tt
  lower (part.Pend v) (part.Maps j) a b lt = absurd (omega (arith, b, lt))
  lower (part.Pend v) part.Mem a b lt = absurd (omega (arith, lt))
  lower (part.Pend v) (part.Shard j m) a b lt = let r = shard_below j m b.0 b.1 in absurd (omega (arith, r, lt))
  lower (part.Pend v) (part.Conf x) a b lt = absurd (omega (arith, b, lt))
  lower (part.Pend v) (part.Pend x) a b lt = omega (arith, lt)

pub by_number : OrderIsByNumber
by_number s p q a b = (rises s p q a b, lower s p q a b)
