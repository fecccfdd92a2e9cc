-- The next entry of a collection table, by the collections and by the events.
use Rattle.std.proofs.Common.{◌≡◌, ℕ, ◌+◌, ◌<◌, ◌≤◌, Bool, true, false, cond, not, nat_lt, List, [], ◌∷◌, Option, Some, None, is_none, refl, sym, subst, ap, ◌∙◌, inl, inr, arith}
use Rattle.std.specs.Prelude.{◌&&◌, IfSome}
use Rattle.std.specs.Ordering.{nat_cmp}
use Rattle.std.specs.FinMap as finmap
use Rattle.std.proofs.lemmas.Bool.{cases_eq, cases_lt, ltb-false, lt-ltb, ltb-true, le-ltb}
use Rattle.std.proofs.lemmas.Option.{same_Some}
use Rattle.its_types.specs.Maps.{Maps, collection_of}
use Rattle.its_maps.specs.Counting.{has_events}
use Rattle.its_types.specs.declared.ids.Icid.{Icid}
use Rattle.its_types.specs.declared.ids.Vcpu.{Vcpu}
use Rattle.its_plain.specs.Plain.{Translator}
use Rattle.its_plain.specs.Saved.{never_mapped, saved_collections}
use Rattle.its_plain.proofs.NamedCollections.{target_or, has_entry, saved_get}
use Rattle.its_types.specs.declared.machine.Shape.{Shape}
use Rattle.gits_regs.specs.Registers.{collection_places}
use Rattle.std.specs.FinMap.{entries, get-entries}
use Rattle.standing_states.specs.Rises.{RisesFrom}
use Rattle.standing_states.proofs.Rises.{find_skips, find_here, rises_none, map_rises}
use Rattle.table_save.specs.EntriesLeft.{collections_with, begins_below, is_named, awaits, stands_before, IsNextNamed, target, LeavesFrom, named_places}

abbrev Entries : Type 0
Entries = List (ℕ × Vcpu)

-- ---- rising entries

-- the first of them
pub record First (k : ℕ) (v : Vcpu) (es : Entries) : Type 0 where
  pub left : Entries
  pub is : es ≡ (k, v) ∷ left
  pub rises : RisesFrom (k + 1) left
  pub same : (q : ℕ) → k < q → finmap.find nat_cmp q left ≡ finmap.find nat_cmp q es

first_is : (at k : ℕ) (v : Vcpu) (es : Entries) → RisesFrom at es → at ≤ k → finmap.find nat_cmp k es ≡ Some v
    → ((q : ℕ) → at ≤ q → q < k → finmap.find nat_cmp q es ≡ None) → First k v es
first_is at k v [] r le here before = absurd cc
first_is at k v (e ∷ es) r le here before =
    elim (cases_eq e.0 k) [
      | inl same ↦
          let value : e.1 ≡ v = same_Some e.1 v (sym (find_here k e es (sym same)) ∙ here) in
          record {
            left = es;
            is = λ i. (same i, value i) ∷ es;
            rises = subst (λ (n : ℕ). RisesFrom (n + 1) es) same r.1;
            same = λ q lt. sym (find_skips q e es (λ s. omega (arith, same)));
          }
      | inr apart ↦ elim (cases_lt e.0 k) [
        | inl lt ↦ absurd (let low = r.0 in let two : Some e.1 ≡ None = sym (find_here e.0 e es refl) ∙ before e.0 low lt in cc)
        | inr ge ↦ absurd (
            let two : None ≡ Some v = sym (find_skips k e es (λ s. apart (sym s)) ∙ rises_none k (e.0 + 1) es r.1 (omega arith)) ∙ here in cc)
      ]
    ]

none_left : (at : ℕ) (es : Entries) → RisesFrom at es → ((q : ℕ) → at ≤ q → finmap.find nat_cmp q es ≡ None) → es ≡ []
none_left at [] r none = refl
none_left at (e ∷ es) r none = absurd (let two : Some e.1 ≡ None = sym (find_here e.0 e es refl) ∙ none e.0 r.0 in cc)

-- ---- targets

no_target : (named : Bool) (o : Option Vcpu) → o ≡ None → (named && is_none o) ≡ false → target named o ≡ None
no_target true (Some v) none e = absurd cc
no_target false (Some v) none e = absurd cc
no_target true None none e = absurd cc
no_target false None none e = refl

awaited_target : (named : Bool) (o : Option Vcpu) → (named && is_none o) ≡ true → target named o ≡ Some never_mapped
awaited_target true (Some v) e = absurd cc
awaited_target true None e = refl
awaited_target false o e = absurd cc

awaited_none : (named : Bool) (o : Option Vcpu) → (named && is_none o) ≡ true → o ≡ None
awaited_none true (Some v) e = absurd cc
awaited_none true None e = refl
awaited_none false o e = absurd cc

mapped_target : (named : Bool) (o : Option Vcpu) (v : Vcpu) → o ≡ Some v → target named o ≡ Some v
mapped_target named (Some w) v e = e
mapped_target named None v e = absurd cc

module _ (m : Maps) (places from : ℕ) (first : Option (Icid × Vcpu)) (rest : Entries) (named : Option Icid) (es : Entries)
    (rises : RisesFrom from es)
    (entries : (q : ℕ) → from ≤ q → finmap.find nat_cmp q es ≡ target (is_named m places q) (collection_of m q))
    (mapped_rise : RisesFrom from (collections_with first rest))
    (mapped : (q : ℕ) → from ≤ q → finmap.find nat_cmp q (collections_with first rest) ≡ collection_of m q)
    (next : IsNextNamed m places from named) where
  -- no collection is mapped before the first one of the walk
  unmapped_before : (k q : ℕ) (o : Option (Icid × Vcpu)) → RisesFrom from (collections_with o rest) → begins_below k o ≡ false → q < k
      → finmap.find nat_cmp q (collections_with o rest) ≡ None
  unmapped_before k q None r below lt = refl
  unmapped_before k q (Some c) r below lt =
      let far = ltb-false c.0.0 k below in
      find_skips q (c.0.0, c.1) rest (λ s. omega arith) ∙ rises_none q (c.0.0 + 1) rest r.1 (omega arith)

  pub named_first : (k : Icid) → named ≡ Some k → begins_below k.0 first ≡ false → First k.0 never_mapped es
  named_first k is below =
      let here = subst (λ (o : Option Icid). IfSome o (λ k. (from ≤ k.0) × (awaits m places k.0 ≡ true))) is next.here in
      first_is from k.0 never_mapped es rises here.0 (entries k.0 here.0 ∙ awaited_target (is_named m places k.0) (collection_of m k.0) here.1)
      (λ q ge lt. entries q ge
      ∙ no_target (is_named m places q) (collection_of m q) (sym (mapped q ge) ∙ unmapped_before k.0 q first mapped_rise below lt)
      (next.before q ge (ap (stands_before q) is ∙ lt-ltb q k.0 lt)))

  -- the collections of the walk begin after it
  pub mapped_after : (k : Icid) → named ≡ Some k → begins_below k.0 first ≡ false → RisesFrom (k.0 + 1) (collections_with first rest)
  mapped_after k is below =
      let here = subst (λ (o : Option Icid). IfSome o (λ k. (from ≤ k.0) × (awaits m places k.0 ≡ true))) is next.here in
      let none : finmap.find nat_cmp k.0 (collections_with first rest) ≡ None =
      mapped k.0 here.0 ∙ awaited_none (is_named m places k.0) (collection_of m k.0) here.1 in
      after first mapped_rise below none
    where
      after : (o : Option (Icid × Vcpu)) → RisesFrom from (collections_with o rest) → begins_below k.0 o ≡ false
          → finmap.find nat_cmp k.0 (collections_with o rest) ≡ None → RisesFrom (k.0 + 1) (collections_with o rest)
      after None r below none = tt
      after (Some c) r below none =
          let far = ltb-false c.0.0 k.0 below in
          elim (cases_eq k.0 c.0.0) [
            | inl same ↦ absurd (let two : Some c.1 ≡ None = sym (find_here k.0 (c.0.0, c.1) rest same) ∙ none in cc)
            | inr apart ↦ (omega (arith, apart), r.1)
          ]

  module _ (c : Icid × Vcpu) (is : first ≡ Some c) where
    rise : RisesFrom from ((c.0.0, c.1) ∷ rest)
    rise = subst (λ (o : Option (Icid × Vcpu)). RisesFrom from (collections_with o rest)) is mapped_rise

    found : (q : ℕ) → from ≤ q → finmap.find nat_cmp q ((c.0.0, c.1) ∷ rest) ≡ collection_of m q
    found q ge = ap (λ (o : Option (Icid × Vcpu)). finmap.find nat_cmp q (collections_with o rest)) (sym is) ∙ mapped q ge

    pub mapped_first : ((q : ℕ) → from ≤ q → q < c.0.0 → stands_before q named ≡ true) → First c.0.0 c.1 es
    mapped_first before =
        first_is from c.0.0 c.1 es rises rise.0
        (entries c.0.0 rise.0 ∙ mapped_target (is_named m places c.0.0) (collection_of m c.0.0) c.1
        (sym (found c.0.0 rise.0) ∙ find_here c.0.0 (c.0.0, c.1) rest refl))
        (λ q ge lt. entries q ge
        ∙ no_target (is_named m places q) (collection_of m q)
        (sym (found q ge) ∙ find_skips q (c.0.0, c.1) rest (λ s. omega arith) ∙ rises_none q (c.0.0 + 1) rest rise.1 (omega arith))
        (next.before q ge (before q ge lt)))

    pub rest_rises : RisesFrom (c.0.0 + 1) rest
    rest_rises = rise.1

    pub rest_found : (q : ℕ) → c.0.0 < q → finmap.find nat_cmp q rest ≡ collection_of m q
    rest_found q lt = let low = rise.0 in sym (find_skips q (c.0.0, c.1) rest (λ s. omega arith)) ∙ found q (omega arith)

  pub all_written : first ≡ None → named ≡ None → es ≡ []
  all_written none last =
      none_left from es rises (λ q ge. entries q ge
      ∙ no_target (is_named m places q) (collection_of m q)
      (sym (mapped q ge) ∙ ap (λ (o : Option (Icid × Vcpu)). finmap.find nat_cmp q (collections_with o rest)) none)
      (next.before q ge (ap (stands_before q) last)))

-- ---- what awaits no entry

unnamed : (a b c : Bool) → b ≡ false → ((a && b) && c) ≡ false
unnamed true true c e = absurd cc
unnamed true false c e = refl
unnamed false b c e = refl

pub awaits_unnamed : (m : Maps) (places n : ℕ) → has_events m n ≡ false → awaits m places n ≡ false
awaits_unnamed m places n e = unnamed (nat_lt n places) (has_events m n) (is_none (collection_of m n)) e

pub awaits_past : (m : Maps) (places n : ℕ) → places ≤ n → awaits m places n ≡ false
awaits_past m places n le = ap (λ (b : Bool). (b && has_events m n) && is_none (collection_of m n)) (le-ltb n places le)

pub awaits_mapped : (m : Maps) (places n : ℕ) → is_none (collection_of m n) ≡ false → awaits m places n ≡ false
awaits_mapped m places n e = ap (λ (b : Bool). (nat_lt n places && has_events m n) && b) e ∙ and_false (nat_lt n places && has_events m n)
  where
    and_false : (b : Bool) → (b && false) ≡ false
    and_false true = refl
    and_false false = refl

pub awaits_here : (m : Maps) (places n : ℕ) → n < places → has_events m n ≡ true → is_none (collection_of m n) ≡ true → awaits m places n ≡ true
awaits_here m places n lt has none =
    ap (λ (b : Bool). (b && has_events m n) && is_none (collection_of m n)) (lt-ltb n places lt)
    ∙ ap (λ (b : Bool). (true && b) && is_none (collection_of m n)) has ∙ none

-- ---- one step

module _ (m : Maps) (places from : ℕ) (first : Option (Icid × Vcpu)) (rest : Entries) (named : Option Icid) (es : Entries)
    (h : LeavesFrom m places from (collections_with first rest) named es) where
  last_named : (o : Option Icid) → IfSome o (λ icid. begins_below icid.0 first ≡ true) → first ≡ None → o ≡ None
  last_named None below none = refl
  last_named (Some icid) below none = absurd (let two : false ≡ true = sym (ap (begins_below icid.0) none) ∙ below in cc)

  pub none_to_write : IfSome named (λ icid. begins_below icid.0 first ≡ true) → first ≡ None
      → (es ≡ []) × LeavesFrom m places from (collections_with first rest) named []
  none_to_write below none =
      let e : es ≡ [] = all_written m places from first rest named es h.rises h.entries h.mapped_rise h.mapped h.next none
      (last_named named below none) in
      (e, subst (LeavesFrom m places from (collections_with first rest) named) e h)

  module _ (c : Icid × Vcpu) (is : first ≡ Some c) (below : IfSome named (λ icid. begins_below icid.0 first ≡ true)) where
    first_low : from ≤ c.0.0
    first_low = (subst (λ (o : Option (Icid × Vcpu)). RisesFrom from (collections_with o rest)) is h.mapped_rise).0

    low : (n : ℕ) → c.0.0 + 1 ≤ n → from ≤ n
    low n ge = let le = first_low in omega (arith, le, ge)

    earlier : (n : ℕ) → n < c.0.0 → (o : Option Icid) → IfSome o (λ icid. begins_below icid.0 first ≡ true) → stands_before n o ≡ true
    earlier n lt None below = refl
    earlier n lt (Some icid) below =
        let far = ltb-true c.0.0 icid.0 (sym (ap (begins_below icid.0) is) ∙ below) in lt-ltb n icid.0 (omega (arith, lt, far))

    later : (o : Option Icid) → IfSome o (λ icid. begins_below icid.0 first ≡ true)
        → IfSome o (λ k. (from ≤ k.0) × (awaits m places k.0 ≡ true)) → IfSome o (λ k. (c.0.0 + 1 ≤ k.0) × (awaits m places k.0 ≡ true))
    later None below here = tt
    later (Some icid) below here =
        let far = ltb-true c.0.0 icid.0 (sym (ap (begins_below icid.0) is) ∙ below) in (omega (arith, far), here.1)

    one : First c.0.0 c.1 es
    one =
        mapped_first m places from first rest named es h.rises h.entries h.mapped_rise h.mapped h.next c is
        (λ n ge lt. earlier n lt named below)

    left_then : LeavesFrom m places (c.0.0 + 1) rest named one.left
    left_then = record {
      rises = one.rises;
      entries = λ n ge. one.same n (omega (arith, ge)) ∙ h.entries n (low n ge);
      mapped_rise = rest_rises m places from first rest named es h.rises h.entries h.mapped_rise h.mapped h.next c is;
      mapped = λ n ge. rest_found m places from first rest named es h.rises h.entries h.mapped_rise h.mapped h.next c is n (omega (arith, ge));
      next = record { here = later named below h.next.here; before = λ n ge lt. h.next.before n (low n ge) lt };
    }

    -- a mapped one is passed
    pub mapped_passed : (vcpu at : ℕ) (walk : Entries) → vcpu ≡ c.1.0 → at ≡ c.0.0 + 1 → walk ≡ rest
        → (left : Entries) × (es ≡ (c.0.0, record { 0 = vcpu }) ∷ left) × LeavesFrom m places at walk named left
    mapped_passed vcpu at walk same next goes = (
      one.left,
      one.is ∙ ap (λ (n : ℕ). (c.0.0, record { 0 = n }) ∷ one.left) (sym same),
      subst (λ (n : ℕ). LeavesFrom m places n walk named one.left) (sym next)
          (subst (λ (w : Entries). LeavesFrom m places (c.0.0 + 1) w named one.left) (sym goes) left_then),
    )

  -- one that an event names is passed
  pub named_passed : (k : Icid) (at : ℕ) (next : Option Icid) → named ≡ Some k → begins_below k.0 first ≡ false → at ≡ k.0 + 1
      → IsNextNamed m places at next
      → (left : Entries) × (es ≡ (k.0, never_mapped) ∷ left) × LeavesFrom m places at (collections_with first rest) next left
  named_passed k at next is below goes now =
      let p = named_first m places from first rest named es h.rises h.entries h.mapped_rise h.mapped h.next k is below in
      let rise = mapped_after m places from first rest named es h.rises h.entries h.mapped_rise h.mapped h.next k is below in
      let here = subst (λ (o : Option Icid). IfSome o (λ k. (from ≤ k.0) × (awaits m places k.0 ≡ true))) is h.next.here in
      let after : (n : ℕ) → at ≤ n → k.0 < n = λ n ge. omega (arith, ge, goes) in
      let low : (n : ℕ) → at ≤ n → from ≤ n = λ n ge. let le = here.0 in omega (arith, ge, goes, le) in (
        p.left,
        p.is,
        record {
          rises = subst (λ (n : ℕ). RisesFrom n p.left) (sym goes) p.rises;
          entries = λ n ge. p.same n (after n ge) ∙ h.entries n (low n ge);
          mapped_rise = subst (λ (n : ℕ). RisesFrom n (collections_with first rest)) (sym goes) rise;
          mapped = λ n ge. h.mapped n (low n ge);
          next = now;
        },
      )

-- ---- all of them

same_target : (b : Bool) (o : Option Vcpu) → target_or b o ≡ target b o
same_target b (Some v) = refl
same_target b None = refl

same_named : (s : Shape) (t : Translator) (n : ℕ) → has_entry s t n ≡ is_named t.maps (named_places s t.regs) n
same_named s t n =
    elim s.linux as (λ (b : Bool). (b && (nat_lt n (collection_places t.regs) && has_events t.maps n))
    ≡ (nat_lt n (cond b (collection_places t.regs) 0) && has_events t.maps n)) [
      | true ↦ refl
      | false ↦ ap (λ (b : Bool). b && has_events t.maps n) (sym (le-ltb n 0 (omega arith)))
    ]

pub leaves_all : (s : Shape) (t : Translator) (places : ℕ) (walk : Entries) (named : Option Icid) → places ≡ named_places s t.regs
    → walk ≡ entries t.maps.collections → IsNextNamed t.maps places 0 named → LeavesFrom t.maps places 0 walk named (entries (saved_collections s t))
leaves_all s t places walk named few is now = record {
  rises = map_rises (saved_collections s t);
  entries = λ n ge.
      sym (get-entries (saved_collections s t) n) ∙ saved_get s t n ∙ same_target (has_entry s t n) (collection_of t.maps n)
      ∙ ap (λ (b : Bool). target b (collection_of t.maps n)) (same_named s t n ∙ ap (λ (p : ℕ). is_named t.maps p n) (sym few));
  mapped_rise = subst (RisesFrom 0) (sym is) (map_rises t.maps.collections);
  mapped = λ n ge. ap (finmap.find nat_cmp n) is ∙ sym (get-entries t.maps.collections n);
  next = now;
}
