-- What each entry of a saved collection table is of: a collection that is mapped, or one that events name and that isn't.
use Rattle.std.proofs.Common.{◌≡◌, ◌⊎◌, ℕ, ◌^◌, ◌<◌, ◌≤◌, Bool, true, false, cond, eqb, nat_lt, List, [], ◌∷◌, Option, Some, None, inl, inr, refl, sym, ap, ◌∙◌, arith}
use Rattle.std.specs.Prelude.{◌&&◌, ◌||◌, slice_get}
use Rattle.std.specs.Ordering.{eq_by_cmp}
use Rattle.std.specs.List.{list_any}
use Rattle.std.specs.FinMap.{entries, entries_sorted, find, get, get-entries}
use Rattle.std.proofs.lemmas.Bool.{and_parts, eq-eqb, lt-ltb, ltb-true}
use Rattle.std.proofs.lemmas.Option.{same_Some}
use Rattle.gits_regs.specs.Registers.{Registers, collection_places}
use Rattle.its_types.specs.Maps.{pair_cmp, event_of, collection_of}
use Rattle.its_types.specs.Ranges.{most_vcpus}
use Rattle.its_types.specs.declared.ids.Vcpu.{Vcpu}
use Rattle.its_types.specs.declared.machine.Shape.{Shape}
use Rattle.its_types.specs.declared.translation.Event.{Event}
use Rattle.its_plain.specs.Plain.{Translator}
use Rattle.its_plain.specs.Sound.{IsTranslator}
use Rattle.its_plain.specs.Saved.{never_mapped, saved_collections}
use Rattle.its_plain.proofs.NamedCollections.{names, target_or, has_entry, saved_get}
use Rattle.saved_state.proofs.Keyed.{listed_found, found_listed}

-- its processor is one of the machine's, or, where the shape has such entries, the number of none
pub record IsEntered (s : Shape) (r : Registers) (c : ℕ × Vcpu) : Type 0 where
  pub in_table : c.0 < collection_places r
  pub target : (c.1.0 < s.vcpus) ⊎ ((s.linux ≡ true) × (c.1 ≡ never_mapped))

-- it has room in an entry
pub target_low : (s : Shape) (r : Registers) (c : ℕ × Vcpu) → s.vcpus ≤ most_vcpus → IsEntered s r c → c.1.0 < 2 ^ 36
target_low s r c few h =
    elim h.target [
      | inl target ↦ omega (arith, target, few)
      | inr never ↦ let number : c.1.0 ≡ 0xFFFFFFFF = ap (λ (v : Vcpu). v.0) never.1 in omega (arith, number)
    ]

module _ (s : Shape) (t : Translator) (sound : IsTranslator s t) where
  from_named : (icid : ℕ) (v : Vcpu) (named : Bool) (o : Option Vcpu) → has_entry s t icid ≡ named → collection_of t.maps icid ≡ o
      → target_or named o ≡ Some v
      → IsEntered s t.regs (icid, v)
  from_named icid v named (Some w) entry mapped is =
      let h = sound.collections icid v (mapped ∙ is) in record { in_table = h.in_table; target = inl h.target }
  from_named icid v true None entry mapped is =
      let parts = and_parts s.linux (nat_lt icid (collection_places t.regs) && list_any (names icid) (entries t.maps.events)) entry in
      let low = (and_parts (nat_lt icid (collection_places t.regs)) (list_any (names icid) (entries t.maps.events)) parts.1).0 in
      record { in_table = ltb-true icid (collection_places t.regs) low; target = inr (parts.0, sym (same_Some never_mapped v is)) }
  from_named icid v false None entry mapped is = absurd cc

  pub entered : (i : ℕ) (c : ℕ × Vcpu) → slice_get (entries (saved_collections s t)) i ≡ Some c → IsEntered s t.regs c
  entered i c at =
      let es = entries (saved_collections s t) in
      let found : get (saved_collections s t) c.0 ≡ Some c.1 =
      get-entries (saved_collections s t) c.0 ∙ listed_found es (entries_sorted (saved_collections s t)) i c at in
      from_named c.0 c.1 (has_entry s t c.0) (collection_of t.maps c.0) refl refl (sym (saved_get s t c.0) ∙ found)

-- a mapped collection has its entry
pub has_place : (s : Shape) (t : Translator) (icid : ℕ) (v : Vcpu) → collection_of t.maps icid ≡ Some v
    → (i : ℕ) × (slice_get (entries (saved_collections s t)) i ≡ Some (icid, v))
has_place s t icid v is =
    found_listed (entries (saved_collections s t)) icid v
    (sym (get-entries (saved_collections s t) icid) ∙ saved_get s t icid ∙ ap (target_or (has_entry s t icid)) is)

-- and an entry with a processor is of one that is mapped
pub is_mapped : (s : Shape) (t : Translator) (i icid : ℕ) (v : Vcpu) → slice_get (entries (saved_collections s t)) i ≡ Some (icid, v)
    → (v ≡ never_mapped → ⊥) → collection_of t.maps icid ≡ Some v
is_mapped s t i icid v at apart =
    let es = entries (saved_collections s t) in
    let found : get (saved_collections s t) icid ≡ Some v =
    get-entries (saved_collections s t) icid ∙ listed_found es (entries_sorted (saved_collections s t)) i (icid, v) at in
    of_option (has_entry s t icid) (collection_of t.maps icid) (sym (saved_get s t icid) ∙ found)
  where
    of_option : (named : Bool) (o : Option Vcpu) → target_or named o ≡ Some v → o ≡ Some v
    of_option named (Some w) is = is
    of_option true None is = absurd (apart (sym (same_Some never_mapped v is)))
    of_option false None is = absurd cc

-- ---- the collection of an event

is_named : (dev ev : ℕ) (e : Event) (es : List ((ℕ × ℕ) × Event)) → find pair_cmp (dev, ev) es ≡ Some e → list_any (names e.icid.0) es ≡ true
is_named dev ev e [] h = absurd cc
is_named dev ev e (x ∷ es) h =
    elim (eq_by_cmp pair_cmp (dev, ev) x.0) as (λ b. cond b (Some x.1) (find pair_cmp (dev, ev) es) ≡ Some e
    → (eqb x.1.icid.0 e.icid.0 || list_any (names e.icid.0) es) ≡ true) [
      | true ↦ λ is. ap (λ (b : Bool). b || list_any (names e.icid.0) es)
          (eq-eqb x.1.icid.0 e.icid.0 (ap (λ (y : Event). y.icid.0) (same_Some x.1 e is)))
      | false ↦ λ is. ap (λ (b : Bool). eqb x.1.icid.0 e.icid.0 || b) (is_named dev ev e es is) ∙ or_true (eqb x.1.icid.0 e.icid.0)
    ] h
  where
    or_true : (b : Bool) → (b || true) ≡ true
    or_true true = refl
    or_true false = refl

-- has an entry, of whichever processor
pub named_place : (s : Shape) (t : Translator) (dev ev : ℕ) (e : Event) → s.linux ≡ true → e.icid.0 < collection_places t.regs → event_of t.maps dev ev ≡ Some e
    → (v : Vcpu) × (i : ℕ) × (slice_get (entries (saved_collections s t)) i ≡ Some (e.icid.0, v))
named_place s t dev ev e linux low is =
    let icid : ℕ = e.icid.0 in
    let any = is_named dev ev e (entries t.maps.events) (sym (get-entries t.maps.events (dev, ev)) ∙ is) in
    let entry : has_entry s t icid ≡ true =
    ap (λ (b : Bool). b && (nat_lt icid (collection_places t.regs) && list_any (names icid) (entries t.maps.events))) linux
    ∙ ap (λ (b : Bool). b && list_any (names icid) (entries t.maps.events)) (lt-ltb icid (collection_places t.regs) low)
    ∙ any in
    let found = some_target (collection_of t.maps icid) in
    let got : get (saved_collections s t) icid ≡ Some found.0 =
    saved_get s t icid ∙ ap (λ (b : Bool). target_or b (collection_of t.maps icid)) entry ∙ found.1 in
    let at = found_listed (entries (saved_collections s t)) icid found.0 (sym (get-entries (saved_collections s t) icid) ∙ got) in
    (found.0, at.0, at.1)
  where
    some_target : (o : Option Vcpu) → (v : Vcpu) × (target_or true o ≡ Some v)
    some_target (Some v) = (v, refl)
    some_target None = (never_mapped, refl)
