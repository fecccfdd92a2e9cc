-- Shards of a translator held in front of other parts.
use Rattle.std.proofs.Common.{◌≡◌, ◌≢◌, ℕ, ◌<◌, ◌≤◌, Bool, true, cond, List, Option, Some, None, refl, ap, sym, ◌∙◌, subst, arith, eq-eqb}
use Rattle.std.proofs.lemmas.Bool.{lt-ltb}
use Rattle.std.specs.Prelude.{is_some}
use Rattle.std.specs.List.{AllByRecursion}
use Rattle.its_types.specs.declared.machine.Part.{Part}
use Rattle.its_types.specs.declared.machine.Part.TheVariants as part
use Rattle.its_plain.specs.Plain.{Plain}
use Rattle.xlate_cache.specs.Ways.{no_entries}
use Rattle.its_steps.specs.Contents.{Content, Held, Shard}
use Rattle.its_steps.specs.Good.{Holds, Apart}
use Rattle.its_steps.specs.MayCall.{Owes}
use Rattle.its_steps.specs.MayCommit.{IsOut}
use Rattle.its_steps.specs.Parts.{Setup, Stands, Has, HasAll, translator_count}
use Rattle.its_steps.specs.Renewal.{renewed, changed, its_of, content_in}
use Rattle.its_steps.specs.World.{word_after}
use Rattle.its_steps.specs.declared.change.ShardChange.TheVariants.{Keep, Empty}
use Rattle.its_steps.specs.declared.commit.Commit.{Commit}
use Rattle.its_steps.proofs.Owed.{owes_holds}
use Rattle.its_turns.specs.Order.{ComesBefore, IsInOrder}
use Rattle.its_turns.proofs.Ordering.{in_order_free}
use Rattle.held_parts.specs.Shards.{Ways, in_place, shard_held, held_if_in, shard_row, shards_held, emptied, AreShards, AreEmptied, AreBeforeShards}
use Rattle.held_parts.proofs.InRows.{row_holds, row_owes, row_has, row_all, row_apart, row_each, row_renewed}

-- ---- what stands in the row

pub record IsInPlace (its : ℕ) (shards : List (Option Ways)) (k : ℕ) (x : Held) : Type 0 where
  pub ways : Ways
  pub there : in_place shards k ≡ Some ways
  pub is : shard_held its k ways ≡ x

if_in_is : (its k : ℕ) (o : Option Ways) (x : Held) → held_if_in its k o ≡ Some x → (w : Ways) × (o ≡ Some w) × (shard_held its k w ≡ x)
if_in_is its k None x e = absurd cc
if_in_is its k (Some w) x e = (w, refl, same (shard_held its k w) x e)
  where
    same : (a b : Held) → Some a ≡ Some b → a ≡ b
    same a b d = cc

pub in_row_is : (its : ℕ) (shards : List (Option Ways)) (k : ℕ) (x : Held) → shard_row its shards k ≡ Some x → IsInPlace its shards k x
in_row_is its shards k x e = let i = if_in_is its k (in_place shards k) x e in record { ways = i.0; there = i.1; is = i.2 }

number_of : Part → ℕ
number_of (part.Conf v) = 0
number_of (part.Pend v) = 0
number_of (part.Maps i) = 0
number_of part.Mem = 0
number_of (part.Shard i n) = n

pub differ : (its : ℕ) (shards : List (Option Ways)) (j k : ℕ) (x y : Held) → j < k → shard_row its shards j ≡ Some x → shard_row its shards k ≡ Some y → x.part
    ≢ y.part
unfolding number_of
differ its shards j k x y lt a b e =
    let i = in_row_is its shards j x a in let m = in_row_is its shards k y b in
    let same : j ≡ k = ap (λ (h : Held). number_of h.part) i.is ∙ (ap number_of e ∙ ap (λ (h : Held). number_of h.part) (sym m.is)) in
    omega (arith, lt, same)

-- ---- all that is held

module _ (its : ℕ) (shards : List (Option Ways)) (others : List Held) where
  pub shards_hold : (n : ℕ) (p : Part) → Holds p others → Holds p (shards_held its shards n others)
  shards_hold n p h = row_holds (shard_row its shards) others n p h

  pub shards_owe : (n : ℕ) (p : Part) (c : Content) → Owes p c others → Owes p c (shards_held its shards n others)
  shards_owe n p c h = row_owes (shard_row its shards) others n p c h

  pub shard_owed : (n k : ℕ) (ways : Ways) → k < n → in_place shards k ≡ Some ways → Owes (part.Shard its k) (Shard ways) (shards_held its shards n others)
  shard_owed n k ways lt is = row_has (shard_row its shards) others n k (shard_held its k ways) lt (ap (held_if_in its k) is)

  some_held : (n k : ℕ) (o : Option Ways) → in_place shards k ≡ o → k < n → is_some o ≡ true → Holds (part.Shard its k) (shards_held its shards n others)
  some_held n k None is lt some = absurd cc
  some_held n k (Some ways) is lt some = owes_holds (part.Shard its k) (Shard ways) (shards_held its shards n others) (shard_owed n k ways lt is)

  -- each that is in hand is held
  pub shard_holds : (n k : ℕ) → k < n → is_some (in_place shards k) ≡ true → Holds (part.Shard its k) (shards_held its shards n others)
  shard_holds n k lt some = some_held n k (in_place shards k) refl lt some

  -- all the first n are
  pub all_hold : (n : ℕ) → AreShards n shards → (k : ℕ) → k < n → Holds (part.Shard its k) (shards_held its shards n others)
  all_hold n are k lt = shard_holds n k lt (are k ∙ lt-ltb k n lt)

  -- all come before a part, where the first n do, and the others
  pub shards_before : (n : ℕ) (p : Part) → ((k : ℕ) → k < n → ComesBefore (part.Shard its k) p) → IsInOrder p others → IsInOrder p (shards_held its shards n others)
  shards_before n p before order = row_all (shard_row its shards) others (λ x. ComesBefore x.part p) n (λ k x lt is.
      let i = in_row_is its shards k x is in subst (λ (y : Held). ComesBefore y.part p) i.is (before k lt)) order

  pub shards_out : (n : ℕ) → AllByRecursion IsOut others → AllByRecursion IsOut (shards_held its shards n others)
  shards_out n all = row_all (shard_row its shards) others IsOut n (λ k x lt is. let i = in_row_is its shards k x is in ap (λ (y : Held). y.out) (sym i.is)) all

  pub shards_apart : (n : ℕ) → AreBeforeShards its others → Apart others → Apart (shards_held its shards n others)
  shards_apart n order apart = row_apart (shard_row its shards) others n (differ its shards) (λ k x is holds. let i = in_row_is its shards k x is in
      in_order_free (part.Shard its k) others (order k) (subst (λ (y : Held). Holds y.part others) (sym i.is) holds)) apart

  pub shards_stand : (s : Setup) (n : ℕ) → its < translator_count s → n ≤ s.shards → AllByRecursion (λ x. Stands s x.part) others
      → AllByRecursion (λ x. Stands s x.part) (shards_held its shards n others)
  shards_stand s n it le all = row_all (shard_row its shards) others (λ x. Stands s x.part) n (λ k x lt is.
      let i = in_row_is its shards k x is in subst (λ (y : Held). Stands s y.part) i.is (it, (let low : k < s.shards = omega (arith, lt, le) in low))) all

  -- every state has them, and so all that is held where it has the others
  pub shards_had : (u : Plain) (n : ℕ) → HasAll u others → HasAll u (shards_held its shards n others)
  shards_had u n all = row_all (shard_row its shards) others (λ x. Has u x.part x.owed) n (λ k x lt is. let i = in_row_is its shards k x is in subst
      (λ (y : Held). Has u y.part y.owed) i.is tt) all

  pub shards_rest : (u : Plain) (n : ℕ) → HasAll u (shards_held its shards n others) → HasAll u others
  shards_rest u n all = (row_each (shard_row its shards) others (λ x. Has u x.part x.owed) n all).1

-- ---- after a commit

gone_if : (its k : ℕ) (o o' : Option Ways) → is_some o' ≡ is_some o → held_if_in its k o ≡ None → held_if_in its k o' ≡ None
gone_if its k None None same is = refl
gone_if its k None (Some r) same is = absurd cc
gone_if its k (Some q) o' same is = absurd cc

emptied_some : (o : Option Ways) → is_some (emptied o) ≡ is_some o
emptied_some None = refl
emptied_some (Some ways) = refl

module _ (s : Setup) (a : Commit) (z : Plain) (its : ℕ) (own : its_of a.call ≡ its) where
  shards_renewed : (old new : List (Option Ways)) (others : List Held) (n : ℕ) → ((k : ℕ) → is_some (in_place new k) ≡ is_some (in_place old k))
      → ((k : ℕ) (ways : Ways) → in_place old k ≡ Some ways → in_place new k ≡ Some (changed s (word_after a) a.call a.change its k ways))
      → renewed s a z (shards_held its old n others) ≡ shards_held its new n (renewed s a z others)
  shards_renewed old new others n same each =
      row_renewed s a z (shard_row its old) (shard_row its new) others n (λ k lt is. gone_if its k (in_place old k) (in_place new k) (same k) is) (λ k x lt is.
      let i = in_row_is its old k x is in
      subst (λ (y : Held). shard_row its new k ≡ Some record y { owed = content_in s a z y.part y.owed }) i.is (ap (held_if_in its k) (each k i.ways i.there)))

  empties : (k : ℕ) (ways : Ways) → a.change ≡ Empty → changed s (word_after a) a.call a.change its k ways ≡ no_entries
  unfolding changed
  empties k ways is = rw (is) (ap (λ (b : Bool). cond b no_entries ways) (eq-eqb its (its_of a.call) (sym own)))

  keeps : (k : ℕ) (ways : Ways) → a.change ≡ Keep → changed s (word_after a) a.call a.change its k ways ≡ ways
  unfolding changed
  keeps k ways is = rw (is) refl

  -- they are emptied
  pub shards_emptied : (old new : List (Option Ways)) (others : List Held) (n : ℕ) → a.change ≡ Empty → AreEmptied old new
      → renewed s a z (shards_held its old n others) ≡ shards_held its new n (renewed s a z others)
  shards_emptied old new others n is are =
      shards_renewed old new others n (λ k. ap (λ (o : Option Ways). is_some o) (are k) ∙ emptied_some (in_place old k))
      (λ k ways there. are k ∙ (ap emptied there ∙ ap (λ (w : Ways). Some w) (sym (empties k ways is))))

  -- or stay as they were
  pub shards_kept : (shards : List (Option Ways)) (others : List Held) (n : ℕ) → a.change ≡ Keep → renewed s a z (shards_held its shards n others)
      ≡ shards_held its shards n (renewed s a z others)
  shards_kept shards others n is = shards_renewed shards shards others n (λ k. refl) (λ k ways there. there ∙ ap (λ (w : Ways). Some w) (sym (keeps k ways is)))
