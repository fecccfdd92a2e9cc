-- The places of redistributors, and what the state has of those that are in hand.
use Rattle.std.proofs.Common.{◌≡◌, ℕ, zero, suc, ◌+◌, ◌<◌, ◌≤◌, List, [], ◌∷◌, map, drop, replicate, get_or, true, Option, Some, None, refl, ap, ◌∙◌, arith, zero-add}
use Rattle.std.proofs.lemmas.List.{get_or-set_same, get_or-set_other, length-set, length-replicate}
use Rattle.std.proofs.lemmas.List.FromFn.{length-map-range_with_len}
use Rattle.std.proofs.lemmas.Option.{same_Some}
use Rattle.std.specs.Prelude.{length, slice_get, is_some}
use Rattle.std.specs.List.{range_with_len}
use Rattle.its_plain.specs.Plain.{joined}
use Rattle.lpi_config.specs.Conf.{Conf}
use Rattle.lpi_pending.specs.InHand.{RedistParts, conf_in, pend_in, set_conf, set_pend, redistributor_of, no_redists, AreEmpty}
use Rattle.lpi_pending.specs.Pend.{Pend}
use Rattle.owned_parts.specs.Owned.{conf_or, pend_or, redistributor_in, redistributors_in}
use Rattle.owned_parts.specs.Places.{AreInHandAt, AreNotInHand}

-- ---- what the state has

ranged : {X : Type 0} (f : ℕ → X) (from n v : ℕ) → v < n → slice_get (map f (range_with_len from n)) v ≡ Some (f (from + v))
ranged f from zero v lt = absurd (omega arith)
ranged f from (suc n) zero lt = let e : from ≡ from + 0 = omega arith in ap (λ (k : ℕ). Some (f k)) e
ranged f from (suc n) (suc v) lt = let e : from + 1 + v ≡ from + suc v = omega arith in ranged f (from + 1) n v (omega arith) ∙ ap (λ (k : ℕ). Some (f k)) e

pub place_is : (redists : RedistParts) (n v : ℕ) → v < n → slice_get (redistributors_in n redists) v ≡ Some (redistributor_in redists v)
place_is redists n v lt = ranged (redistributor_in redists) 0 n v lt ∙ ap (λ (k : ℕ). Some (redistributor_in redists k)) (zero-add v)

pub redistributor_at : (redists : RedistParts) (v : ℕ) (c : Conf) (p : Pend) → AreInHandAt redists v c p → redistributor_in redists v ≡ redistributor_of c p
redistributor_at redists v c p h =
    ap (λ (o : Option Conf). joined (conf_or o) (pend_or (pend_in redists v))) h.conf ∙ ap (λ (o : Option Pend). joined (conf_or (Some c)) (pend_or o)) h.pend

-- what is in hand
pub at_place : (redists : RedistParts) (n v : ℕ) (c : Conf) (p : Pend) → v < n → AreInHandAt redists v c p
    → slice_get (redistributors_in n redists) v ≡ Some (redistributor_of c p)
at_place redists n v c p lt h = place_is redists n v lt ∙ ap Some (redistributor_at redists v c p h)

pub many_places : (redists : RedistParts) (n : ℕ) → length (redistributors_in n redists) ≡ n
many_places redists n = length-map-range_with_len (redistributor_in redists) 0 n

drop_there : {X : Type 0} (xs : List X) (v : ℕ) (x : X) → slice_get xs v ≡ Some x → drop v xs ≡ x ∷ drop (suc v) xs
drop_there [] v x e = absurd cc
drop_there {X} (y ∷ ys) zero x e = ap (λ (z : X). z ∷ ys) (same_Some y x e)
drop_there (y ∷ ys) (suc v) x e = drop_there ys v x e

drop_all : {X : Type 0} (xs : List X) (v : ℕ) → length xs ≤ v → drop v xs ≡ []
drop_all [] zero le = refl
drop_all [] (suc v) le = refl
drop_all (x ∷ xs) zero le = absurd (omega arith)
drop_all (x ∷ xs) (suc v) le = drop_all xs v (omega arith)

-- none comes after the last
pub none_left : (redists : RedistParts) (n v : ℕ) → n ≤ v → drop v (redistributors_in n redists) ≡ []
none_left redists n v le = drop_all (redistributors_in n redists) v (let many = many_places redists n in omega (arith, many, le))

-- it comes before those after it
pub drop_to_place : (redists : RedistParts) (n v : ℕ) (c : Conf) (p : Pend) → v < n → AreInHandAt redists v c p
    → drop v (redistributors_in n redists) ≡ redistributor_of c p ∷ drop (suc v) (redistributors_in n redists)
drop_to_place redists n v c p lt h = drop_there (redistributors_in n redists) v (redistributor_of c p) (at_place redists n v c p lt h)

-- ---- places

none_there : {X : Type 0} (n v : ℕ) → ◌≡◌ {A = Option X} (get_or (replicate n None) v None) None
none_there zero v = refl
none_there (suc n) zero = refl
none_there (suc n) (suc v) = none_there n v

-- so many places, all empty
pub empty_places : (n : ℕ) → AreEmpty n (no_redists n)
empty_places n = record {
  confs = none_there n;
  pends = none_there n;
  conf_room = length-replicate n None;
  pend_room = length-replicate n None;
}

pub none_in_hand : (n v : ℕ) → AreNotInHand (no_redists n) v
none_in_hand n v = record { conf = none_there n v; pend = none_there n v }

-- what is in hand has a place
pub has_place : {X : Type 0} (xs : List (Option X)) (v : ℕ) → is_some (get_or xs v None) ≡ true → v < length xs
has_place [] v e = absurd cc
has_place (x ∷ xs) zero e = omega arith
has_place (x ∷ xs) (suc v) e = let lt = has_place xs v e in omega (arith, lt)

-- ---- both parts, put into their places

module _ (redists now : RedistParts) (n : ℕ) (c : Conf) (p : Pend) (got : now ≡ set_pend (set_conf redists n (Some c)) n (Some p)) where
  pub placed_here : n < length redists.confs → n < length redists.pends → AreInHandAt now n c p
  placed_here confs pends = record {
    conf = ap (λ r. conf_in r n) got ∙ get_or-set_same redists.confs n (Some c) None confs;
    pend = ap (λ r. pend_in r n) got ∙ get_or-set_same redists.pends n (Some p) None pends;
  }

  other_conf : (v : ℕ) → (v ≡ n → ⊥) → conf_in now v ≡ conf_in redists v
  other_conf v apart = ap (λ r. conf_in r v) got ∙ get_or-set_other redists.confs n v (Some c) None apart

  other_pend : (v : ℕ) → (v ≡ n → ⊥) → pend_in now v ≡ pend_in redists v
  other_pend v apart = ap (λ r. pend_in r v) got ∙ get_or-set_other redists.pends n v (Some p) None apart

  pub still_there : (v : ℕ) (d : Conf) (q : Pend) → (v ≡ n → ⊥) → AreInHandAt redists v d q → AreInHandAt now v d q
  still_there v d q apart h = record { conf = other_conf v apart ∙ h.conf; pend = other_pend v apart ∙ h.pend }

  pub still_empty : (v : ℕ) → (v ≡ n → ⊥) → AreNotInHand redists v → AreNotInHand now v
  still_empty v apart h = record { conf = other_conf v apart ∙ h.conf; pend = other_pend v apart ∙ h.pend }

  pub same_conf_room : length now.confs ≡ length redists.confs
  same_conf_room = ap (λ r. length r.confs) got ∙ length-set redists.confs n (Some c)

  pub same_pend_room : length now.pends ≡ length redists.pends
  same_pend_room = ap (λ r. length r.pends) got ∙ length-set redists.pends n (Some p)
