-- What a restore answers: the state that memory and register values stand for, or their first fault.
use Rattle.std.proofs.Common.{◌≡◌, ℕ, zero, suc, ◌<◌, ◌≤◌, List, [], ◌∷◌, length, Option, Some, Err, refl, sym}
use Rattle.std.proofs.Common.{subst, ◌∙◌, arith}
use Rattle.std.specs.Prelude.{slice_get}
use Rattle.guest_windows.specs.Windows.{Window}
use Rattle.gits_regs.specs.declared.values.RegValues.{RegValues}
use Rattle.its_types.specs.declared.translation.Bases.{Bases}
use Rattle.its_types.specs.declared.machine.Shape.{Shape}
use Rattle.its_plain.specs.Plain.{Redistributor, Translator}
use Rattle.its_plain.specs.Sound.{IsShape}
use Rattle.its_plain.specs.Saved.{track_of}
use Rattle.its_plain.specs.declared.layout.Layout.{Layout}
use Rattle.its_plain.specs.Stands.{Stands, IsFirstFault, of_redistributor, of_translator, IsRedistributorIn}
use Rattle.dirty_log.specs.declared.tracked.Tracked.{Tracked}
use Rattle.lpi_pending.specs.InHand.{RedistParts, redistributor_of}
use Rattle.owned_parts.specs.Owned.{AreAllInHand, state_of, redistributors_in}
use Rattle.owned_parts.specs.Places.{AreNotInHand}
use Rattle.owned_parts.proofs.Places.{at_place, many_places}
use Rattle.table_restore.specs.Outcome.{AreRestoredRedists, RestoredRedists, AreTranslatorsFrom, BegunTranslators, IsFirstOf}
use Rattle.table_restore.specs.Outcome.{WhereFault, with_number}
use Rattle.table_restore.specs.declared.error.RestoreError.{RestoreError}
use Rattle.table_restore.specs.declared.error.RestoreError.TheVariants as numbered
use Rattle.table_restore.specs.declared.error.TableError.{TableError}
use Rattle.table_restore.specs.declared.error.TableError.TheVariants as errors

-- ---- places of a list

in_list : {X : Type 0} (xs : List X) (i : ℕ) (x : X) → slice_get xs i ≡ Some x → i < length xs
in_list [] i x e = absurd cc
in_list (y ∷ ys) zero x e = omega arith
in_list (y ∷ ys) (suc i) x e = let lt = in_list ys i x e in omega arith

there_is : {X : Type 0} (xs : List X) (i : ℕ) → i < length xs → (x : X) × (slice_get xs i ≡ Some x)
there_is [] i lt = absurd (omega arith)
there_is (x ∷ xs) zero lt = (x, refl)
there_is (x ∷ xs) (suc i) lt = there_is xs i (omega arith)

-- ---- the whole

module _ (l : Layout) (memory : List Window) (values : List (Option RegValues)) (bases : List Bases) (shape : IsShape l.shape)
    (as_many : length bases ≡ l.shape.vcpus) (redists : RedistParts) (all : AreRestoredRedists l.shape memory bases redists) where
  each_stands : (v : ℕ) (b : Bases) (r : Redistributor) → slice_get bases v ≡ Some b → slice_get (redistributors_in l.shape.vcpus redists) v ≡ Some r
      → IsRedistributorIn l.shape memory b r
  each_stands v b r eb er =
      let w = all.each v b eb in
      let lt : v < l.shape.vcpus = subst (λ (n : ℕ). v < n) as_many (in_list bases v b eb) in
      let same : Some (redistributor_of w.0 w.1) ≡ Some r = sym (at_place redists l.shape.vcpus v w.0 w.1 lt w.2) ∙ er in
      let is : redistributor_of w.0 w.1 ≡ r = cc in
      subst (IsRedistributorIn l.shape memory b) is w.3.stands

  pub stands : (now : Layout) (ts : List Translator) (track : Option Tracked) → now ≡ l → track ≡ track_of l.track memory
      → AreTranslatorsFrom l.shape memory values ts → Stands memory values l bases (state_of now ts memory track redists)
  stands now ts track copied fresh begun =
      subst (λ (x : Layout). Stands memory values l bases (state_of x ts memory track redists)) (sym copied) (record {
        clear = all.clear;
        layout_is = refl;
        memory_is = refl;
        track_is = fresh;
        count = begun.count;
        translators = begun.each;
        vcpus = many_places redists l.shape.vcpus ∙ sym as_many;
        redistributors = each_stands;
      })

  pub all_in_hand : AreAllInHand l.shape redists
  all_in_hand v lt =
      let w = there_is bases v (subst (λ (n : ℕ). v < n) (sym as_many) lt) in
      let h = all.each v w.0 w.1 in
      ((h.0, h.2.conf, h.3.conf_lpis), (h.1, h.2.pend, h.3.pend_lpis))

  pub no_others : (v : ℕ) → l.shape.vcpus ≤ v → AreNotInHand redists v
  no_others v le = all.rest v (subst (λ (n : ℕ). n ≤ v) (sym as_many) le)

  -- ---- the first fault

  pub translator_fault : (e : RestoreError) → WhereFault e (IsFirstOf l.shape memory values) → WhereFault e (IsFirstFault memory values l.shape bases)
  translator_fault numbered.NoMemory h = tt
  translator_fault (numbered.Fault i f) h = of_translator i h.its f all.clear h.before h.its_are h.offends

-- that of the translators
pub first_of : (s : Shape) (memory : List Window) (values : List (Option RegValues)) (e : RestoreError) → BegunTranslators s memory values (Err e)
    → WhereFault e (IsFirstOf s memory values)
first_of s memory values numbered.NoMemory h = tt
first_of s memory values (numbered.Fault i f) h = h

pub redist_fault : (s : Shape) (memory : List Window) (values : List (Option RegValues)) (bases : List Bases) (e : TableError) (r : RestoreError)
    → r ≡ with_number 0 e → RestoredRedists s memory bases (Err e) → WhereFault r (IsFirstFault memory values s bases)
redist_fault s memory values bases errors.NoMemory r is w = subst (λ x. WhereFault x (IsFirstFault memory values s bases)) (sym is) tt
redist_fault s memory values bases (errors.Fault g) r is w =
    subst (λ x. WhereFault x (IsFirstFault memory values s bases)) (sym is)
    (subst (IsFirstFault memory values s bases 0) (sym w.2) (of_redistributor w.0 w.1))
