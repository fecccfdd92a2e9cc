-- Parts of redistributors held in front of other parts: of one kind, which `as_held` says, each with a number.
use Rattle.std.proofs.Common.{◌≡◌, ◌≢◌, ℕ, ◌<◌, ◌≤◌, true, ◌&&◌, nat_lt, List, Option, Some, None, refl, ap, sym, ◌∙◌}
use Rattle.std.proofs.Common.{subst, arith}
use Rattle.std.proofs.lemmas.Bool.{and_parts, ltb-true}
use Rattle.std.specs.Prelude.{is_some}
use Rattle.std.specs.List.{AllByRecursion}
use Rattle.its_types.specs.declared.machine.Part.{Part}
use Rattle.its_types.specs.declared.machine.Part.TheVariants as part
use Rattle.its_plain.specs.Parts.{conf, pend}
use Rattle.its_plain.specs.Plain.{Plain}
use Rattle.lpi_config.specs.Conf.{Conf as ConfInHand}
use Rattle.lpi_pending.specs.Pend.{Pend as PendInHand}
use Rattle.its_steps.specs.Contents.{Content, Held}
use Rattle.its_steps.specs.Good.{Holds, Apart}
use Rattle.its_steps.specs.MayCall.{Owes}
use Rattle.its_steps.specs.MayCommit.{IsOut}
use Rattle.its_steps.specs.Parts.{Setup, Stands, vcpu_count}
use Rattle.its_steps.specs.Renewal.{renewed, content_in}
use Rattle.its_steps.specs.declared.commit.Commit.{Commit}
use Rattle.its_steps.proofs.Owed.{owes_holds}
use Rattle.its_turns.specs.Order.{ComesBefore, IsInOrder}
use Rattle.its_turns.proofs.Ordering.{in_order_free}
use Rattle.owned_parts.specs.RedistSets.{is_in}
use Rattle.owned_parts.specs.declared.redist_set.RedistSet.{RedistSet}
use Rattle.held_parts.specs.Rows.{in_row}
use Rattle.held_parts.specs.Redists.{at_place, held_if_in, row_of, conf_held, pend_held, AreWanted}
use Rattle.held_parts.proofs.InRows.{row_holds, row_owes, row_has, row_all, row_apart, row_renewed}

-- each is out of its slot, has a part of its own, and stands where there is such a processor
pub record IsKind (T : Type 0) (as_held : ℕ → T → Held) (part_at : ℕ → Part) : Type 0 where
  pub part_is : (k : ℕ) (x : T) → (as_held k x).part ≡ part_at k
  pub is_out : (k : ℕ) (x : T) → IsOut (as_held k x)
  pub differ : (j k : ℕ) → part_at j ≡ part_at k → j ≡ k
  pub stands : (s : Setup) (k : ℕ) → k < vcpu_count s → Stands s (part_at k)
  pub rises : (j k : ℕ) → j < k → ComesBefore (part_at j) (part_at k)

number_of : Part → ℕ
number_of (part.Conf v) = v.0
number_of (part.Pend v) = v.0
number_of (part.Maps i) = 0
number_of part.Mem = 0
number_of (part.Shard i n) = 0

pub conf_kind : IsKind ConfInHand conf_held conf
unfolding number_of
conf_kind = record { part_is = λ k x. refl; is_out = λ k x. refl; differ = λ j k e. ap number_of e; stands = λ s k lt. lt; rises = λ j k lt. lt }

pub pend_kind : IsKind PendInHand pend_held pend
unfolding number_of
pend_kind = record { part_is = λ k x. refl; is_out = λ k x. refl; differ = λ j k e. ap number_of e; stands = λ s k lt. lt; rises = λ j k lt. lt }

module _ {T : Type 0} (as_held : ℕ → T → Held) where
  -- ---- what stands in the row

  pub record IsInHand (places : List (Option T)) (k : ℕ) (x : Held) : Type 0 where
    pub one : T
    pub there : at_place places k ≡ Some one
    pub is : as_held k one ≡ x

  if_in_is : (k : ℕ) (o : Option T) (x : Held) → held_if_in as_held k o ≡ Some x → (r : T) × (o ≡ Some r) × (as_held k r ≡ x)
  if_in_is k None x e = absurd cc
  if_in_is k (Some r) x e = (r, refl, same (as_held k r) x e)
    where
      same : (a b : Held) → Some a ≡ Some b → a ≡ b
      same a b d = cc

  pub in_row_is : (places : List (Option T)) (k : ℕ) (x : Held) → row_of as_held places k ≡ Some x → IsInHand places k x
  in_row_is places k x e = let i = if_in_is k (at_place places k) x e in record { one = i.0; there = i.1; is = i.2 }

  some_is : (r : T) (o : Option T) → o ≡ Some r → is_some o ≡ true
  some_is r o is = ap (λ (x : Option T). is_some x) is

  module _ (part_at : ℕ → Part) (kind : IsKind T as_held part_at) where
    own_part : (places : List (Option T)) (k : ℕ) (x : Held) → IsInHand places k x → x.part ≡ part_at k
    own_part places k x i = ap (λ (h : Held). h.part) (sym i.is) ∙ kind.part_is k i.one

    pub differ : (places : List (Option T)) (j k : ℕ) (x y : Held) → j < k → row_of as_held places j ≡ Some x → row_of as_held places k ≡ Some y
        → x.part ≢ y.part
    differ places j k x y lt a b e =
        let same : j ≡ k = kind.differ j k (sym (own_part places j x (in_row_is places j x a)) ∙ (e ∙ own_part places k y (in_row_is places k y b))) in
        omega (arith, lt, same)

    -- ---- all that is held

    module _ (places : List (Option T)) (others : List Held) where
      abbrev all : ℕ → List Held
      all n = in_row (row_of as_held places) n others

      pub parts_hold : (n : ℕ) (p : Part) → Holds p others → Holds p (all n)
      parts_hold n p h = row_holds (row_of as_held places) others n p h

      pub parts_owe : (n : ℕ) (p : Part) (c : Content) → Owes p c others → Owes p c (all n)
      parts_owe n p c h = row_owes (row_of as_held places) others n p c h

      pub part_owed : (n k : ℕ) (r : T) → k < n → at_place places k ≡ Some r → Owes (part_at k) (as_held k r).owed (all n)
      part_owed n k r lt is = subst (λ (p : Part). Owes p (as_held k r).owed (all n)) (kind.part_is k r)
          (row_has (row_of as_held places) others n k (as_held k r) lt (ap (held_if_in as_held k) is))

      some_held : (n k : ℕ) (o : Option T) → at_place places k ≡ o → k < n → is_some o ≡ true → Holds (part_at k) (all n)
      some_held n k None is lt some = absurd cc
      some_held n k (Some r) is lt some = owes_holds (part_at k) (as_held k r).owed (all n) (part_owed n k r lt is)

      -- each that is in hand is held
      pub part_holds : (n k : ℕ) → k < n → is_some (at_place places k) ≡ true → Holds (part_at k) (all n)
      part_holds n k lt some = some_held n k (at_place places k) refl lt some

      -- all come before a part, where those below n do, and the others
      pub parts_before : (n : ℕ) (p : Part) → ((k : ℕ) → k < n → ComesBefore (part_at k) p) → IsInOrder p others → IsInOrder p (all n)
      parts_before n p before order = row_all (row_of as_held places) others (λ x. ComesBefore x.part p) n (λ k x lt is.
          subst (λ (q : Part). ComesBefore q p) (sym (own_part places k x (in_row_is places k x is))) (before k lt)) order

      pub parts_out : (n : ℕ) → AllByRecursion IsOut others → AllByRecursion IsOut (all n)
      parts_out n each = row_all (row_of as_held places) others IsOut n
          (λ k x lt is. let i = in_row_is places k x is in subst IsOut i.is (kind.is_out k i.one)) each

      pub parts_apart : (n : ℕ) → ((k : ℕ) → IsInOrder (part_at k) others) → Apart others → Apart (all n)
      parts_apart n order apart =
          row_apart (row_of as_held places) others n (differ places) (λ k x is holds.
          in_order_free (part_at k) others (order k) (subst (λ (p : Part). Holds p others) (own_part places k x (in_row_is places k x is)) holds)) apart

      pub parts_stand : (has_lpis : T → Type 0) (s : Setup) (set : RedistSet) (n : ℕ) → AreWanted T has_lpis s set places
          → AllByRecursion (λ x. Stands s x.part) others → AllByRecursion (λ x. Stands s x.part) (all n)
      parts_stand has_lpis s set n are each = row_all (row_of as_held places) others (λ x. Stands s x.part) n (λ k x lt is.
          let i = in_row_is places k x is in
          let some : (is_in set k && nat_lt k (vcpu_count s)) ≡ true = sym (are.hand k) ∙ some_is i.one (at_place places k) i.there in
          subst (Stands s) (sym (own_part places k x i))
          (kind.stands s k (ltb-true k (vcpu_count s) (and_parts (is_in set k) (nat_lt k (vcpu_count s)) some).1))) each

  -- ---- after a commit

  gone_if : (k : ℕ) (o o' : Option T) → is_some o' ≡ is_some o → held_if_in as_held k o ≡ None → held_if_in as_held k o' ≡ None
  gone_if k None None same is = refl
  gone_if k None (Some r) same is = absurd cc
  gone_if k (Some q) o' same is = absurd cc

  new_if : (k : ℕ) (o' : Option T) (x : Held) → is_some o' ≡ true → ((r : T) → o' ≡ Some r → x ≡ as_held k r) → held_if_in as_held k o' ≡ Some x
  new_if k None x same each = absurd cc
  new_if k (Some r) x same each = ap (λ (y : Held). Some y) (sym (each r refl))

  -- the same parts are in hand, and are those of the state that it leaves
  pub parts_renewed : (s : Setup) (a : Commit) (z : Plain) (places places' : List (Option T)) (others : List Held) (n : ℕ)
      → ((k : ℕ) → is_some (at_place places' k) ≡ is_some (at_place places k))
      → ((k : ℕ) (q r : T) → at_place places' k ≡ Some r
      → record (as_held k q) { owed = content_in s a z (as_held k q).part (as_held k q).owed } ≡ as_held k r)
      → renewed s a z (in_row (row_of as_held places) n others) ≡ in_row (row_of as_held places') n (renewed s a z others)
  parts_renewed s a z places places' others n same each =
      row_renewed s a z (row_of as_held places) (row_of as_held places') others n
      (λ k lt is. gone_if k (at_place places k) (at_place places' k) (same k) is)
      (λ k x lt is.
      let i = in_row_is places k x is in
      subst (λ (y : Held). row_of as_held places' k ≡ Some record y { owed = content_in s a z y.part y.owed }) i.is
      (new_if k (at_place places' k) (record (as_held k i.one) { owed = content_in s a z (as_held k i.one).part (as_held k i.one).owed })
      (same k ∙ some_is i.one (at_place places k) i.there) (each k i.one)))
