-- The collections that a save writes entries of, by ICID: the mapped ones, and those that events name and that have a place.
use Rattle.std.proofs.Common.{◌≡◌, ◌⊎◌, ℕ, Bool, true, false, cond, not, eqb, nat_lt, List, [], ◌∷◌, Option, Some, None, refl, sym, subst, ap, ◌∙◌, inl, inr}
use Rattle.std.specs.Prelude.{◌&&◌, ◌||◌, is_some}
use Rattle.std.specs.List.{list_any}
use Rattle.std.specs.Ordering.{nat_cmp}
use Rattle.std.specs.Cmp.{nat_cmp_total, unsigned_tied}
use Rattle.std.specs.FinMap.{FinMap, entries, get, insert, get-insert}
use Rattle.std.proofs.lemmas.Bool.{cases_eq, eq-eqb, ne_eqb, eqb-true}
use Rattle.gits_regs.specs.Registers.{Registers, collection_places}
use Rattle.its_types.specs.Maps.{Maps, collection_of}
use Rattle.its_types.specs.declared.ids.Vcpu.{Vcpu}
use Rattle.its_types.specs.declared.machine.Shape.{Shape}
use Rattle.its_types.specs.declared.translation.Event.{Event}
use Rattle.its_plain.specs.Plain.{Translator}
use Rattle.its_plain.specs.Saved.{never_mapped, is_awaited, with_named, saved_collections}

abbrev Targets : Type 0
Targets = FinMap nat_cmp Vcpu

abbrev pub names : ℕ → (ℕ × ℕ) × Event → Bool
names icid e = eqb e.1.icid.0 icid

-- what it is mapped to, or else, where it has an entry all the same, no processor
abbrev pub target_or : Bool → Option Vcpu → Option Vcpu
target_or named (Some v) = Some v
target_or named None = cond named (Some never_mapped) None

got : (m : Targets) (icid : ℕ) (v : Vcpu) (q : ℕ) → get (insert m icid v) q ≡ cond (eqb q icid) (Some v) (get m q)
got m icid v q = get-insert nat_cmp_total m icid v q ∙ ap (λ (t : Bool). cond t (Some v) (get m q)) (unsigned_tied q icid)

-- an ICID that an event names, before and after the event
here : (rest : Targets) (q : ℕ) (low any : Bool) (o g : Option Vcpu) → get rest q ≡ g → g ≡ target_or (low && any) o
    → get (cond (low && not (is_some g)) (insert rest q never_mapped) rest) q ≡ target_or (low && (true || any)) o
here rest q false any o g is h = is ∙ h
here rest q true any (Some v) g is h =
    ap (λ (x : Option Vcpu). get (cond (true && not (is_some x)) (insert rest q never_mapped) rest) q) h ∙ is ∙ h
here rest q true true None g is h =
    ap (λ (x : Option Vcpu). get (cond (true && not (is_some x)) (insert rest q never_mapped) rest) q) h ∙ is ∙ h
here rest q true false None g is h =
    ap (λ (x : Option Vcpu). get (cond (true && not (is_some x)) (insert rest q never_mapped) rest) q) h
    ∙ got rest q never_mapped q ∙ ap (λ (t : Bool). cond t (Some never_mapped) (get rest q)) (eq-eqb q q refl)

-- another ICID
elsewhere : (rest : Targets) (a q : ℕ) (b : Bool) → eqb q a ≡ false → get (cond b (insert rest a never_mapped) rest) q ≡ get rest q
elsewhere rest a q false apart = refl
elsewhere rest a q true apart = got rest a never_mapped q ∙ ap (λ (t : Bool). cond t (Some never_mapped) (get rest q)) apart

module _ (r : Registers) (collections : Targets) where
  pub named_get : (es : List ((ℕ × ℕ) × Event)) (q : ℕ)
      → get (with_named r collections es) q ≡ target_or (nat_lt q (collection_places r) && list_any (names q) es) (get collections q)
  named_get [] q = none (nat_lt q (collection_places r)) (get collections q)
    where
      none : (low : Bool) (o : Option Vcpu) → o ≡ target_or (low && false) o
      none low (Some v) = refl
      none true None = refl
      none false None = refl
  named_get (e ∷ es) q =
      elim (cases_eq q e.1.icid.0) [
        | inl same ↦
            subst (λ (a : ℕ). get (cond (is_awaited r rest a) (insert rest a never_mapped) rest) q
            ≡ target_or (nat_lt q (collection_places r) && (eqb a q || list_any (names q) es)) (get collections q)) same
            (here rest q (nat_lt q (collection_places r)) (list_any (names q) es) (get collections q) (get rest q) refl (named_get es q)
            ∙ ap (λ (t : Bool). target_or (nat_lt q (collection_places r) && (t || list_any (names q) es)) (get collections q)) (sym (eq-eqb q q refl)))
        | inr apart ↦
            elsewhere rest e.1.icid.0 q (is_awaited r rest e.1.icid.0) (ne_eqb q e.1.icid.0 apart)
            ∙ named_get es q
            ∙ ap (λ (t : Bool). target_or (nat_lt q (collection_places r) && (t || list_any (names q) es)) (get collections q))
            (sym (ne_eqb e.1.icid.0 q (λ is. apart (sym is))))
      ]
    where
      rest : Targets
      rest = with_named r collections es

-- some event names it, where the shape has such entries and the table a place
abbrev pub has_entry : Shape → Translator → ℕ → Bool
has_entry s t icid = s.linux && (nat_lt icid (collection_places t.regs) && list_any (names icid) (entries t.maps.events))

pub saved_get : (s : Shape) (t : Translator) (icid : ℕ) → get (saved_collections s t) icid ≡ target_or (has_entry s t icid) (collection_of t.maps icid)
unfolding saved_collections
saved_get s t icid =
    elim s.linux as (λ (b : Bool). get (cond b (with_named t.regs t.maps.collections (entries t.maps.events)) t.maps.collections) icid
    ≡ target_or (b && (nat_lt icid (collection_places t.regs) && list_any (names icid) (entries t.maps.events))) (collection_of t.maps icid)) [
      | true ↦ named_get t.regs t.maps.collections (entries t.maps.events) icid
      | false ↦ as_mapped (collection_of t.maps icid)
    ]
  where
    as_mapped : (o : Option Vcpu) → o ≡ target_or false o
    as_mapped (Some v) = refl
    as_mapped None = refl
