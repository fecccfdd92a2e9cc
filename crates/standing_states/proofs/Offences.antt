-- There is at most one first offence, and none where a state stands.
use Rattle.std.proofs.Common.{◌≡◌, ℕ, zero, suc, ◌<◌, ◌≤◌, true, false, List, [], ◌∷◌, length, Option, Some, None, Result, Ok, Err, refl, sym, subst, ap}
use Rattle.std.proofs.Common.{◌∙◌, inl, inr, arith}
use Rattle.std.specs.Option.{option_and_then, IsSome}
use Rattle.std.specs.Result.{IsOk}
use Rattle.std.proofs.lemmas.Bool.{cases_lt}
use Rattle.std.proofs.lemmas.Option.{same_Some}
use Rattle.std.specs.Prelude.{slice_get}
use Rattle.guest_windows.specs.Windows.{Window, number_at}
use Rattle.gits_regs.specs.Registers.{Registers, masked, restored}
use Rattle.gits_regs.specs.declared.values.NotValid.{NotValid}
use Rattle.gits_regs.specs.declared.values.RegValues.{RegValues}
use Rattle.table_entries.specs.Fields.{DeviceFields}
use Rattle.table_entries.specs.Words.{unpacked_device}
use Rattle.its_types.specs.declared.machine.Shape.{Shape}
use Rattle.its_types.specs.declared.translation.Bases.{Bases}
use Rattle.its_plain.specs.Plain.{Plain, Translator}
use Rattle.its_plain.specs.declared.layout.Layout.{Layout}
use Rattle.its_plain.specs.EventTables.{Itt, itt_of, event_check, next_event, IsIttClear, IttOffends}
use Rattle.its_plain.specs.CollectionTables.{collection_check, next_collection, AreCollectionsClear, CollectionsOffend}
use Rattle.its_plain.specs.DeviceTables.{DevicePlace, at_level1, at_entry, first_device, id_of, device_address, device_entry, device_of_fields, next_device}
use Rattle.its_plain.specs.DeviceTables.{IsDeviceClear, DeviceFaults, is_outside, has_bad_size, has_bad_itt, leads_past, AreDevicesClear, DevicesOffend}
use Rattle.its_plain.specs.Stands.{Stands, IsFirstFault, IsTranslatorIn, IsTranslatorClear, TranslatorOffends, of_redistributor, of_translator, of_register}
use Rattle.its_plain.specs.Stands.{of_collection, of_device}
use Rattle.its_plain.specs.Stands.{AreRedistributorsClear, RedistributorOffends}
use Rattle.its_plain.specs.declared.fault.Table.TheVariants.{Devices}
use Rattle.its_plain.specs.declared.fault.RestoreFault.{RestoreFault}
use Rattle.its_plain.specs.declared.fault.RestoreFault.TheVariants.{BadRedist, PastEnd}
use Rattle.its_plain.specs.declared.fault.RestoreFault.TheVariants as fault
use Rattle.standing_states.proofs.Walks.{none_where_clear, first_once}

-- ---- checks that answer

ok_or_err : {X : Type 0} (r : Result X RestoreFault) (x : X) (f : RestoreFault) → r ≡ Ok x → r ≡ Err f → ⊥
ok_or_err r x f a b = let two : Ok x ≡ Err f = sym a ∙ b in cc

one_err : {X : Type 0} (r : Result X RestoreFault) (f g : RestoreFault) → r ≡ Err f → r ≡ Err g → f ≡ g
one_err (Ok x) f g a b = absurd cc
one_err (Err h) f g a b = let one : h ≡ f = cc in let two : h ≡ g = cc in sym one ∙ two

one_register : {X : Type 0} (r : Result X NotValid) (d e : NotValid) → r ≡ Err d → r ≡ Err e → d ≡ e
one_register (Ok x) d e a b = absurd cc
one_register (Err h) d e a b = let one : h ≡ d = cc in let two : h ≡ e = cc in sym one ∙ two

-- ---- interrupt translation tables

itt_once : (memory : List Window) (n : ℕ) (t : Itt) (f g : RestoreFault) → IttOffends memory n t f → IttOffends memory n t g → f ≡ g
itt_once memory n t f g a b =
    first_once (λ ev. event_check memory n t ev ≡ Ok tt) (λ ev h. event_check memory n t ev ≡ Err h) (next_event memory t)
    (λ ev h. ok_or_err (event_check memory n t ev) tt h)
    (λ ev h k. one_err (event_check memory n t ev) h k) 0 a.0 b.0 f g a.1 b.1

itt_apart : (memory : List Window) (n : ℕ) (t : Itt) (f : RestoreFault) → IsIttClear memory n t → IttOffends memory n t f → ⊥
itt_apart memory n t f clear a =
    none_where_clear (λ ev. event_check memory n t ev ≡ Ok tt) (λ ev h. event_check memory n t ev ≡ Err h) (next_event memory t)
    (λ ev h. ok_or_err (event_check memory n t ev) tt h) 0 a.0 f clear a.1

-- ---- collections

collections_once : (s : Shape) (memory : List Window) (r : Registers) (f g : RestoreFault) → CollectionsOffend s memory r f
    → CollectionsOffend s memory r g → f ≡ g
collections_once s memory r f g a b =
    first_once (λ i. collection_check s memory r i ≡ Ok tt) (λ i h. collection_check s memory r i ≡ Err h) (next_collection memory r)
    (λ i h. ok_or_err (collection_check s memory r i) tt h)
    (λ i h k. one_err (collection_check s memory r i) h k) 0 a.1.0 b.1.0 f g a.1.1 b.1.1

collections_apart : (s : Shape) (memory : List Window) (r : Registers) (f : RestoreFault) → AreCollectionsClear s memory r → CollectionsOffend s memory r f → ⊥
collections_apart s memory r f clear a =
    none_where_clear (λ i. collection_check s memory r i ≡ Ok tt) (λ i h. collection_check s memory r i ≡ Err h) (next_collection memory r)
    (λ i h. ok_or_err (collection_check s memory r i) tt h) 0 a.1.0 f (clear a.0) a.1.1

-- ---- devices

module _ (memory : List Window) (n : ℕ) (r : Registers) where
  no_entry : (p : DevicePlace) → number_at memory (device_address r p) ≡ None → device_entry memory p ≡ None
  no_entry (at_level1 k) e = refl
  no_entry (at_entry k page i) e = ap (option_and_then unpacked_device) e

  none_outside : {A : Type 0} (p : DevicePlace) (e : DeviceFields) → number_at memory (device_address r p) ≡ None → device_entry memory p ≡ Some e → A
  none_outside p e out is = absurd (let two : None ≡ Some e = sym (no_entry p out) ∙ is in cc)

  same_entry : (p : DevicePlace) (d e : DeviceFields) → device_entry memory p ≡ Some d → device_entry memory p ≡ Some e → d ≡ e
  same_entry p d e a b = let two : Some d ≡ Some e = sym a ∙ b in cc

  place_apart : (p : DevicePlace) (f : RestoreFault) → IsDeviceClear memory n r p → DeviceFaults memory n r p f → ⊥
  place_apart p _ clear (is_outside out) = none_is (number_at memory (device_address r p)) out clear.inside
    where
      none_is : {A : Type 0} (o : Option A) → o ≡ None → IsSome o → ⊥
      none_is None e is = cc
      none_is (Some x) e is = cc
  place_apart p _ clear (has_bad_size e is gt) = let le = clear.size e is in omega arith
  place_apart p _ clear (has_bad_itt e f is le bad) = itt_apart memory n (itt_of (id_of p) (device_of_fields e)) f (clear.itt e is) bad
  place_apart p _ clear (leads_past e is le itt past) = let two : true ≡ false = sym (clear.ends e is) ∙ past in cc

  too_many : {A : Type 0} (p : DevicePlace) (d e : DeviceFields) → device_entry memory p ≡ Some d → device_entry memory p ≡ Some e → 16 < d.bits → e.bits ≤ 16
      → A
  too_many p d e a b gt le = absurd (let same = ap (λ (x : DeviceFields). x.bits) (same_entry p d e a b) in omega arith)

  other_itt : (p : DevicePlace) (d e : DeviceFields) (f : RestoreFault) → device_entry memory p ≡ Some d → device_entry memory p ≡ Some e
      → IttOffends memory n (itt_of (id_of p) (device_of_fields e)) f → IttOffends memory n (itt_of (id_of p) (device_of_fields d)) f
  other_itt p d e f a b bad = subst (λ (x : DeviceFields). IttOffends memory n (itt_of (id_of p) (device_of_fields x)) f) (sym (same_entry p d e a b)) bad

  place_once : (p : DevicePlace) (f g : RestoreFault) → DeviceFaults memory n r p f → DeviceFaults memory n r p g → f ≡ g
  place_once p _ _ (is_outside a) (is_outside b) = refl
  place_once p _ _ (is_outside a) (has_bad_size e is gt) = none_outside p e a is
  place_once p _ _ (is_outside a) (has_bad_itt e f is le bad) = none_outside p e a is
  place_once p _ _ (is_outside a) (leads_past e is le itt past) = none_outside p e a is
  place_once p _ _ (has_bad_size d at gt) (is_outside b) = none_outside p d b at
  place_once p _ _ (has_bad_size d at gt) (has_bad_size e is more) = refl
  place_once p _ _ (has_bad_size d at gt) (has_bad_itt e f is le bad) = too_many p d e at is gt le
  place_once p _ _ (has_bad_size d at gt) (leads_past e is le itt past) = too_many p d e at is gt le
  place_once p _ _ (has_bad_itt d f at le bad) (is_outside b) = none_outside p d b at
  place_once p _ _ (has_bad_itt d f at le bad) (has_bad_size e is gt) = too_many p e d is at gt le
  place_once p _ _ (has_bad_itt d f at le bad) (has_bad_itt e g is less worse) = itt_once memory n (itt_of (id_of p) (device_of_fields d)) f g bad
      (other_itt p d e g at is worse)
  place_once p _ _ (has_bad_itt d f at le bad) (leads_past e is less itt past) = absurd (itt_apart memory n (itt_of (id_of p) (device_of_fields e)) f itt
      (other_itt p e d f is at bad))
  place_once p _ _ (leads_past d at le itt past) (is_outside b) = none_outside p d b at
  place_once p _ _ (leads_past d at le itt past) (has_bad_size e is gt) = too_many p e d is at gt le
  place_once p _ _ (leads_past d at le itt past) (has_bad_itt e f is less bad) = absurd (itt_apart memory n (itt_of (id_of p) (device_of_fields d)) f itt
      (other_itt p d e f at is bad))
  place_once p _ _ (leads_past d at le itt past) (leads_past e is less more late) = ap (λ (x : DeviceFields). PastEnd Devices (id_of p) x.next)
      (same_entry p d e at is)

  devices_once : (f g : RestoreFault) → DevicesOffend memory n r f → DevicesOffend memory n r g → f ≡ g
  devices_once f g a b = first_once (IsDeviceClear memory n r) (DeviceFaults memory n r) (next_device memory r) place_apart place_once
      (first_device r) a.1.0 b.1.0 f g a.1.1 b.1.1

  devices_apart : (f : RestoreFault) → AreDevicesClear memory n r → DevicesOffend memory n r f → ⊥
  devices_apart f clear a = none_where_clear (IsDeviceClear memory n r) (DeviceFaults memory n r) (next_device memory r) place_apart (first_device r) a.1.0 f
      (clear a.0) a.1.1

-- ---- a translator

not_ok : {A X : Type 0} (x : Result X NotValid) (e : NotValid) → x ≡ Err e → IsOk x → A
not_ok (Ok y) e is ok = absurd cc
not_ok (Err g) e is ok = absurd cc

module _ (s : Shape) (memory : List Window) (values : RegValues) where
  translator_once : (f g : RestoreFault) → TranslatorOffends s memory values f → TranslatorOffends s memory values g → f ≡ g
  translator_once _ _ (of_register d at) (of_register e is) = ap (λ (x : NotValid). fault.NotValid x.0) (one_register (restored values s.dev_bits) d e at is)
  translator_once _ _ (of_register e is) (of_collection f ok bad) = not_ok (restored values s.dev_bits) e is ok
  translator_once _ _ (of_register e is) (of_device f ok cs bad) = not_ok (restored values s.dev_bits) e is ok
  translator_once _ _ (of_collection f ok bad) (of_register e is) = not_ok (restored values s.dev_bits) e is ok
  translator_once _ _ (of_collection f ok bad) (of_collection g fine worse) = collections_once s memory (masked values s.dev_bits) f g bad worse
  translator_once _ _ (of_collection f ok bad) (of_device g fine cs worse) = absurd (collections_apart s memory (masked values s.dev_bits) f cs bad)
  translator_once _ _ (of_device f ok cs bad) (of_register e is) = not_ok (restored values s.dev_bits) e is ok
  translator_once _ _ (of_device f ok cs bad) (of_collection g fine worse) = absurd (collections_apart s memory (masked values s.dev_bits) g cs worse)
  translator_once _ _ (of_device f ok cs bad) (of_device g fine ds worse) = devices_once memory s.lpi_bits (masked values s.dev_bits) f g bad worse

  translator_apart : (f : RestoreFault) → IsTranslatorClear s memory values → TranslatorOffends s memory values f → ⊥
  translator_apart _ clear (of_register e is) = not_ok (restored values s.dev_bits) e is clear.registers
  translator_apart _ clear (of_collection f ok bad) = collections_apart s memory (masked values s.dev_bits) f clear.collections bad
  translator_apart _ clear (of_device f ok cs bad) = devices_apart memory s.lpi_bits (masked values s.dev_bits) f clear.devices bad

  -- one that stands has no fault
  standing_clear : (t : Translator) → IsTranslatorIn s memory values t → IsTranslatorClear s memory values
  standing_clear t a = record {
    registers = a.allowed;
    collections = subst (AreCollectionsClear s memory) a.regs a.maps.collections_clear;
    devices = subst (AreDevicesClear memory s.lpi_bits) a.regs a.maps.devices_clear;
  }

-- ---- the whole

module _ (memory : List Window) (s : Shape) (bases : List Bases) where
  redist_not : {A : Type 0} (v : ℕ) → RedistributorOffends s memory bases v → AreRedistributorsClear s memory bases → A
  redist_not v w clear = absurd (let two : true ≡ false = sym w.lacks ∙ clear v w.base w.base_is in cc)

  not_later : (v w : ℕ) → RedistributorOffends s memory bases v → RedistributorOffends s memory bases w → v < w → ⊥
  not_later v w a b lt = let two : true ≡ false = sym a.lacks ∙ b.first v a.base lt a.base_is in cc

  one_redist : (v w : ℕ) → RedistributorOffends s memory bases v → RedistributorOffends s memory bases w → v ≡ w
  one_redist v w a b = elim (cases_lt v w) [
    | inl lt ↦ absurd (not_later v w a b lt)
    | inr le ↦ elim (cases_lt w v) [
      | inl lt ↦ absurd (not_later w v b a lt)
      | inr ge ↦ omega arith
    ]
  ]

  -- two faults at one translator
  same_place : (values : List (Option RegValues)) (i j : ℕ) (v w : RegValues) (f g : RestoreFault) → i ≡ j → slice_get values i ≡ Some (Some v)
      → slice_get values j ≡ Some (Some w) → TranslatorOffends s memory v f → TranslatorOffends s memory w g → f ≡ g
  same_place values i j v w f g e at there bad worse =
      let two : Some (Some v) ≡ Some (Some w) = sym at ∙ ap (slice_get values) e ∙ there in
      let same : v ≡ w = same_Some v w (same_Some (Some v) (Some w) two) in
      translator_once s memory v f g bad (subst (λ (x : RegValues). TranslatorOffends s memory x g) (sym same) worse)

pub first_fault_once : (memory : List Window) (values : List (Option RegValues)) (s : Shape) (bases : List Bases) (i j : ℕ) (f g : RestoreFault)
    → IsFirstFault memory values s bases i f → IsFirstFault memory values s bases j g → (i ≡ j) × (f ≡ g)
first_fault_once memory values s bases _ _ _ _ (of_redistributor v a) (of_redistributor w b) =
    (refl, ap (λ k. BadRedist (record { 0 = k })) (one_redist memory s bases v w a b))
first_fault_once memory values s bases _ _ _ _ (of_redistributor v a) (of_translator j w g clear before at bad) = redist_not memory s bases v a clear
first_fault_once memory values s bases _ _ _ _ (of_translator i w f clear before at bad) (of_redistributor v a) = redist_not memory s bases v a clear
first_fault_once memory values s bases _ _ _ _ (of_translator i v f clear before at bad) (of_translator j w g also earlier there worse) =
    elim (cases_lt i j) [
      | inl lt ↦ absurd (translator_apart s memory v f (earlier i v lt at) bad)
      | inr le ↦ elim (cases_lt j i) [
        | inl lt ↦ absurd (translator_apart s memory w g (before j w lt there) worse)
        | inr ge ↦ let e : i ≡ j = omega arith in (e, same_place memory s bases values i j v w f g e at there bad worse)
      ]
    ]

pub exists_at : {X : Type 0} (xs : List X) (i : ℕ) → i < length xs → (x : X) × (slice_get xs i ≡ Some x)
exists_at [] i lt = absurd (omega arith)
exists_at (x ∷ xs) zero lt = (x, refl)
exists_at (x ∷ xs) (suc i) lt = exists_at xs i (omega arith)

pub in_list : {X : Type 0} (xs : List X) (i : ℕ) (x : X) → slice_get xs i ≡ Some x → i < length xs
in_list [] i x e = absurd cc
in_list (y ∷ ys) zero x e = omega arith
in_list (y ∷ ys) (suc i) x e = let lt = in_list ys i x e in omega arith

pub stands_without : (memory : List Window) (values : List (Option RegValues)) (layout : Layout) (bases : List Bases) (u : Plain) (i : ℕ) (f : RestoreFault)
    → Stands memory values layout bases u → IsFirstFault memory values layout.shape bases i f → ⊥
stands_without memory values layout bases u _ _ a (of_redistributor v w) = redist_not memory layout.shape bases v w a.clear
stands_without memory values layout bases u _ _ a (of_translator i v f clear before at bad) =
    let lt : i < length u.translators = subst (λ (n : ℕ). i < n) (sym a.count) (in_list values i (Some v) at) in
    let t = exists_at u.translators i lt in
    translator_apart layout.shape memory v f (standing_clear layout.shape memory v t.0 (a.translators i (Some v) t.0 at t.1)) bad
