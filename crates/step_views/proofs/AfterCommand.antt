-- What a command reads beside its own bytes, each stretch once.
use Rattle.std.proofs.Common.{◌≡◌, ◌≢◌, ℕ, ◌-◌, ◌≤◌, Bool, true, false, ◌||◌, eqb, cond, List, [], ◌∷◌, map, length, Option, Some, None, refl, sym, ap, ◌∙◌, subst, arith, add-zero}
use Rattle.std.specs.List.{flat_map, range_with_len}
use Rattle.std.proofs.lemmas.List.{length-append}
use Rattle.std.proofs.lemmas.List.Folds.{flat_map-map}
use Rattle.std.proofs.lemmas.List.FromFn.{length-range_with_len}
use Rattle.its_types.specs.Ranges.{most_vcpus, first_lpi, lpi_count}
use Rattle.its_types.specs.declared.machine.Shape.{Shape}
use Rattle.its_plain.specs.Plain.{Redistributor, ConfState, conf_of}
use Rattle.lpi_config.specs.Conf.{Conf}
use Rattle.lpi_pending.specs.InHand.{RedistParts, conf_in}
use Rattle.owned_parts.specs.Owned.{AreAllInHand, conf_or, redistributor_in}
use Rattle.table_save.specs.Areas.{redistributors_of, HaveLowTables}
use Rattle.step_views.specs.ConfigReads.{stretch_in, read_at, left_of}
use Rattle.step_views.specs.Firsts.{HaveConfs, is_first}
use Rattle.step_views.specs.Pairs.{AreAfter, all_told}
use Rattle.step_views.specs.Reads.{byte_read, byte_reads, table_read, table_reads}
use Rattle.step_views.proofs.ToldOnce.{read_on, told_once, not_both}

pub have_confs : (shape : Shape) (redists : RedistParts) → AreAllInHand shape redists → HaveLowTables shape redists → HaveConfs shape.vcpus redists
have_confs shape redists in_hand low = λ v below. let h = (in_hand v below).0 in (h.0, h.1, low v h.0 h.1 below)

pub after_none : AreAfter [] []
after_none = record { each = λ place. refl; few = omega arith }

pub after_entry : (address : ℕ) → AreAfter ((address, 8) ∷ []) ((address, 8) ∷ [])
after_entry address = record {
  each = λ place. ap (λ (b : Bool). cond (b || false) ((place, 32) ∷ []) ((place, 32) ∷ (address, 8) ∷ [])) (not_both (eqb address place) (eqb 8 32) refl);
  few = omega arith;
}

-- ---- configurations

few_at : (o : Option Conf) (b : Bool) (offset len : ℕ) → length (cond b (stretch_in offset len o) []) ≤ 1
few_at None true offset len = omega arith
few_at None false offset len = omega arith
few_at (Some c) true offset len = omega arith
few_at (Some c) false offset len = omega arith

few_of : (redists : RedistParts) (offset len : ℕ) (xs : List ℕ) → length (flat_map (read_at redists offset len) xs) ≤ length xs
few_of redists offset len [] = omega arith
few_of redists offset len (x ∷ xs) =
    let rest = few_of redists offset len xs in
    let one = few_at (conf_in redists x) (is_first redists x) offset len in
    let all = length-append (read_at redists offset len x) (flat_map (read_at redists offset len) xs) in
    omega (arith, rest, one, all)

module _ (redists : RedistParts) (offset len n : ℕ) (apart : len ≢ 32) (few : n ≤ most_vcpus) where
  abbrev whole : List (ℕ × ℕ)
  whole = flat_map (λ v. read_on offset len (conf_in redists v)) (range_with_len 0 n)

  left_whole : left_of redists offset len 0 n ≡ flat_map (read_at redists offset len) (range_with_len 0 n)
  left_whole = ap (λ k. flat_map (read_at redists offset len) (range_with_len 0 k)) (let all : n - 0 ≡ n = omega arith in all)

  pub after_whole : (stretches told : List (ℕ × ℕ)) → stretches ≡ whole → told ≡ left_of redists offset len 0 n → AreAfter stretches told
  after_whole stretches told is left = record {
    each = λ place. ap (all_told ((place, 32) ∷ [])) is ∙ told_once redists offset len place apart n ∙ ap (λ xs. (place, 32) ∷ xs) (sym (left ∙ left_whole));
    few =
        let most = few_of redists offset len (range_with_len 0 n) in
        subst (λ (xs : List (ℕ × ℕ)). length xs ≤ most_vcpus) (sym (left ∙ left_whole)) (let count = length-range_with_len 0 n in omega (arith, most, count, few));
  }

-- of what is read of each configuration
module _ (redists : RedistParts) (read : ConfState → List (ℕ × ℕ)) (offset len : ℕ) (same : (o : Option Conf) → read (conf_or o) ≡ read_on offset len o) where
  pub of_each : (n : ℕ) → flat_map (λ r. read (conf_of r)) (map (redistributor_in redists) (range_with_len 0 n))
      ≡ flat_map (λ v. read_on offset len (conf_in redists v)) (range_with_len 0 n)
  of_each n =
      flat_map-map (λ (r : Redistributor). read (conf_of r)) (redistributor_in redists) (range_with_len 0 n)
      ∙ (λ d. flat_map (λ v. same (conf_in redists v) d) (range_with_len 0 n))

byte_same : (intid : ℕ) (o : Option Conf) → byte_read intid (conf_or o) ≡ read_on (intid - first_lpi) 1 o
byte_same intid None = refl
byte_same intid (Some c) = refl

table_same : (shape : Shape) (o : Option Conf) → table_read shape (conf_or o) ≡ read_on 0 (lpi_count shape.lpi_bits) o
table_same shape None = refl
table_same shape (Some c) =
    ap (λ (a : ℕ). cond c.bases.on ((a, lpi_count shape.lpi_bits) ∷ []) []) (sym (add-zero c.bases.prop.table.0))

pub after_bytes : (shape : Shape) (redists : RedistParts) (intid : ℕ) (told : List (ℕ × ℕ)) → shape.vcpus ≤ most_vcpus
    → told ≡ left_of redists (intid - first_lpi) 1 0 shape.vcpus → AreAfter (byte_reads intid (redistributors_of shape redists)) told
after_bytes shape redists intid told few is =
    after_whole redists (intid - first_lpi) 1 shape.vcpus (λ (e : 1 ≡ 32). omega (arith, e)) few (byte_reads intid (redistributors_of shape redists)) told
    (of_each redists (byte_read intid) (intid - first_lpi) 1 (byte_same intid) shape.vcpus) is

pub after_tables : (shape : Shape) (redists : RedistParts) (told : List (ℕ × ℕ)) → shape.vcpus ≤ most_vcpus → 8192 ≤ lpi_count shape.lpi_bits
    → told ≡ left_of redists 0 (lpi_count shape.lpi_bits) 0 shape.vcpus → AreAfter (table_reads shape (redistributors_of shape redists)) told
after_tables shape redists told few long is =
    after_whole redists 0 (lpi_count shape.lpi_bits) shape.vcpus (λ (e : lpi_count shape.lpi_bits ≡ 32). omega (arith, e, long)) few
    (table_reads shape (redistributors_of shape redists)) told
    (of_each redists (table_read shape) 0 (lpi_count shape.lpi_bits) (table_same shape) shape.vcpus) is
