-- The translators, one after another.
use Rattle.std.proofs.Common.{◌≡◌, ℕ, zero, suc, ◌<◌, List, [], ◌∷◌, length, Option, Some, Result, Ok, Err, refl, sym, subst, ap, ◌∙◌, inl, inr, arith}
use Rattle.std.specs.Prelude.{slice_get, get_or}
use Rattle.std.specs.Result.{IsOk, IsErrAnd}
use Rattle.std.proofs.lemmas.Result.{err_from_is_err_and}
use Rattle.guest_windows.specs.Windows.{Window}
use Rattle.gits_regs.specs.Registers.{Registers, masked, restored}
use Rattle.gits_regs.specs.declared.values.RegValues.{RegValues}
use Rattle.its_types.specs.Maps.{Maps}
use Rattle.its_types.specs.declared.machine.Shape.{Shape}
use Rattle.its_plain.specs.Plain.{Translator}
use Rattle.its_plain.specs.CollectionTables.{AreCollectionsClear}
use Rattle.its_plain.specs.DeviceTables.{AreDevicesClear}
use Rattle.its_plain.specs.Sound.{IsShape}
use Rattle.its_plain.specs.Stands.{TranslatorOffends, of_register, of_collection, of_device, IsTranslatorIn, IsTranslatorFrom, IsTranslatorClear}
use Rattle.its_plain.specs.declared.fault.RestoreFault.{RestoreFault}
use Rattle.standing_states.specs.Found.{maps_read}
use Rattle.standing_states.proofs.Masked.{are_masked}
use Rattle.standing_states.proofs.Contents.{maps_stand, maps_offend}
use Rattle.standing_states.proofs.DevicesWalked.{small}
use Rattle.table_restore.specs.Outcome.{RestoredRegs, RestoredMaps, RestoredTranslator, with_number, BegunTranslator, BegunTranslators}
use Rattle.table_restore.specs.Outcome.{AreTranslatorsFrom}
use Rattle.table_restore.specs.declared.error.RestoreError.{RestoreError}
use Rattle.table_restore.specs.declared.error.RestoreError.TheVariants as numbered
use Rattle.table_restore.specs.declared.error.TableError.{TableError}
use Rattle.table_restore.specs.declared.error.TableError.TheVariants as errors

-- what holds of an error holds where it is handed on
pub handed : {X E : Type 0} (P : Result X E → Type 0) (r : Result X E) (e : E) → IsErrAnd r (λ x. x ≡ e) → P (Err e) → P r
handed P r e is h = let p = err_from_is_err_and r is in subst P (sym p.1) (subst (λ x. P (Err x)) (sym p.2) h)

is_ok : {A B : Type 0} (r : Result A B) (x : A) → r ≡ Ok x → IsOk r
is_ok r x e = subst IsOk (sym e) refl

-- ---- one that is restored

module _ (s : Shape) (shape : IsShape s) (memory : List Window) (values : RegValues) where
  pub the_translator : (regs : Registers) (m : Maps) → restored values s.dev_bits ≡ Ok regs → maps_read s memory regs ≡ Ok m
      → IsTranslatorIn s memory values (record { regs = regs; maps = m })
  the_translator regs m given read =
      let is = are_masked values s.dev_bits regs given in
      let bits : regs.dev_bits ≡ s.dev_bits = ap (λ (r : Registers). r.dev_bits) is in
      record {
        allowed = is_ok (restored values s.dev_bits) regs given;
        regs = is;
        maps = maps_stand s memory regs m (small regs (let a = shape.least_dev_bits in omega arith) (let a = shape.most_dev_bits in omega arith)) read;
      }

  pub register_fault : (f : RestoreFault) → RestoredRegs (Err f) (restored values s.dev_bits) → TranslatorOffends s memory values f
  register_fault f w = subst (TranslatorOffends s memory values) (sym w.2) (of_register w.0 w.1)

  pub table_fault : (regs : Registers) (e : TableError) → restored values s.dev_bits ≡ Ok regs → RestoredMaps (Err e) (maps_read s memory regs)
      → RestoredTranslator s memory values (Err e)
  table_fault regs errors.NoMemory given read = tt
  table_fault regs (errors.Fault g) given read =
      let ok = is_ok (restored values s.dev_bits) regs given in
      elim (maps_offend s memory (masked values s.dev_bits) g (ap (maps_read s memory) (sym (are_masked values s.dev_bits regs given)) ∙ read)) [
        | inl c ↦ of_collection g ok c
        | inr w ↦ of_device g ok w.0 w.1
      ]

-- ---- one by its number

-- an error of the one with this number
pub begun_wrong : (i : ℕ) (s : Shape) (memory : List Window) (v : Option RegValues) (values : RegValues) (e : TableError) (r : RestoreError) → v ≡ Some values
    → r ≡ with_number i e → RestoredTranslator s memory values (Err e) → BegunTranslator i s memory v (Err r)
begun_wrong i s memory v values errors.NoMemory r is same h = subst (λ x. BegunTranslator i s memory v (Err x)) (sym same) tt
begun_wrong i s memory v values (errors.Fault f) r is same h = subst (λ x. BegunTranslator i s memory v (Err x)) (sym same) (values, is, refl, h)

-- ---- all of them

module _ (s : Shape) (memory : List Window) where
  -- one that stands has no fault
  are_clear : (v : Option RegValues) (w : RegValues) (t : Translator) → v ≡ Some w → IsTranslatorFrom s memory v t → IsTranslatorClear s memory w
  are_clear v w t is h =
      let it : IsTranslatorIn s memory w t = subst (λ x. IsTranslatorFrom s memory x t) is h in
      record {
        registers = it.allowed;
        collections = subst (λ (r : Registers). AreCollectionsClear s memory r) it.regs it.maps.collections_clear;
        devices = subst (λ (r : Registers). AreDevicesClear memory s.lpi_bits r) it.regs it.maps.devices_clear;
      }

  same_item : {X : Type 0} (o : Option X) (x y : X) → o ≡ Some x → o ≡ Some y → x ≡ y
  same_item o x y a b = let two : Some x ≡ Some y = sym a ∙ b in cc

  pub one_begun : (values : List (Option RegValues)) (v : Option RegValues) (t : Translator) → slice_get values 0 ≡ Some v → length values ≡ 1
      → IsTranslatorFrom s memory v t → AreTranslatorsFrom s memory values (t ∷ [])
  one_begun values v t at one h = record {
    count = sym one;
    each = λ i w x ew ex. elim i as (λ j. slice_get values j ≡ Some w → slice_get (t ∷ []) j ≡ Some x → IsTranslatorFrom s memory w x) [
      | zero ↦ λ aw ax.
          let b : t ≡ x = cc in
          subst (λ (y : Translator). IsTranslatorFrom s memory w y) b
          (subst (λ (y : Option RegValues). IsTranslatorFrom s memory y t) (same_item (slice_get values 0) v w at aw) h)
      | suc j ↦ λ aw ax. absurd cc
    ] ew ex;
  }

  pub two_begun : (values : List (Option RegValues)) (v w : Option RegValues) (t u : Translator) → slice_get values 0 ≡ Some v → slice_get values 1 ≡ Some w
      → length values ≡ 2 → IsTranslatorFrom s memory v t → IsTranslatorFrom s memory w u → AreTranslatorsFrom s memory values (t ∷ u ∷ [])
  two_begun values v w t u at next two h k = record {
    count = sym two;
    each = λ i y x ey ex. elim i as (λ j. slice_get values j ≡ Some y → slice_get (t ∷ u ∷ []) j ≡ Some x → IsTranslatorFrom s memory y x) [
      | zero ↦ λ ay ax.
          let b : t ≡ x = cc in
          subst (λ (z : Translator). IsTranslatorFrom s memory y z) b
          (subst (λ (z : Option RegValues). IsTranslatorFrom s memory z t) (same_item (slice_get values 0) v y at ay) h)
      | suc zero ↦ λ ay ax.
          let b : u ≡ x = cc in
          subst (λ (z : Translator). IsTranslatorFrom s memory y z) b
          (subst (λ (z : Option RegValues). IsTranslatorFrom s memory z u) (same_item (slice_get values 1) w y next ay) k)
      | suc (suc j) ↦ λ ay ax. absurd cc
    ] ey ex;
  }

  -- the first has a fault, or memory ran out
  pub first_wrong : (values : List (Option RegValues)) (v : Option RegValues) (e : RestoreError) → slice_get values 0 ≡ Some v
      → BegunTranslator 0 s memory v (Err e) → BegunTranslators s memory values (Err e)
  first_wrong values v numbered.NoMemory at h = tt
  first_wrong values v (numbered.Fault i f) at h = record {
    its = h.0;
    its_are = ap (slice_get values) h.2 ∙ at ∙ ap Some h.1;
    before = λ j w lt is. absurd (let a = h.2 in omega arith);
    offends = h.3;
  }

  -- the second has one, or memory ran out
  pub second_wrong : (values : List (Option RegValues)) (v w : Option RegValues) (t : Translator) (e : RestoreError) → slice_get values 0 ≡ Some v
      → slice_get values 1 ≡ Some w → IsTranslatorFrom s memory v t → BegunTranslator 1 s memory w (Err e) → BegunTranslators s memory values (Err e)
  second_wrong values v w t numbered.NoMemory at next first h = tt
  second_wrong values v w t (numbered.Fault i f) at next first h = record {
    its = h.0;
    its_are = ap (slice_get values) h.2 ∙ next ∙ ap Some h.1;
    before = λ j x lt is.
        let here : j ≡ 0 = (let a = h.2 in omega arith) in
        let at0 : slice_get values 0 ≡ Some (Some x) = ap (slice_get values) (sym here) ∙ is in
        are_clear v x t (same_item (slice_get values 0) v (Some x) at at0) first;
    offends = h.3;
  }

-- a place that a list has
pub item_there : {X : Type 0} (xs : List X) (i : ℕ) (other : X) → i < length xs → slice_get xs i ≡ Some (get_or xs i other)
item_there [] i other lt = absurd (omega arith)
item_there (x ∷ xs) zero other lt = refl
item_there (x ∷ xs) (suc i) other lt = item_there xs i other (omega arith)
