-- Machines that are restored from memory.
use Rattle.std.proofs.Common.{◌≡◌, ℕ, zero, suc, ◌≤◌, Bool, true, false, if◌then◌else◌, List, [], ◌∷◌, length, map, take, Option, Some, Result}
use Rattle.std.proofs.Common.{Ok, Err}
use Rattle.std.proofs.Common.{refl, sym, ap, subst, ◌∙◌, arith}
use Rattle.std.specs.Prelude.{slice_get, is_some}
use Rattle.std.specs.List.{list_any}
use Rattle.std.specs.Result.{IsErrAnd}
use Rattle.std.proofs.lemmas.List.{length-map}
use Rattle.std.proofs.lemmas.Option.{same_Some}
use Rattle.guest_windows.specs.Windows.{Window}
use Rattle.gits_regs.specs.declared.values.RegValues.{RegValues}
use Rattle.its_types.specs.declared.machine.Shape.{Shape}
use Rattle.its_types.specs.declared.translation.Bases.{Bases}
use Rattle.its_plain.specs.Plain.{Redistributor}
use Rattle.gicr_regs.specs.Registers.{AreKept, restored_bases, all_restored_bases}
use Rattle.gicr_regs.specs.declared.values.GicrRegisters.{GicrRegisters}
use Rattle.gicr_regs.specs.declared.values.GicrValues.{GicrValues}
use Rattle.its_plain.specs.Described as described
use Rattle.its_plain.specs.Described.{IsFirstState, IsRefused, of_description, of_restore, StartsAt, kept_of, without_stale}
use Rattle.its_plain.specs.Machine.{made, layout_of, are_programmed, HasTablesFor, IsDescription}
use Rattle.its_plain.specs.declared.desc.LpiTables.{LpiTables}
use Rattle.its_plain.specs.declared.desc.LpiTables.TheVariants.{Described, Registers}
use Rattle.its_plain.specs.declared.layout.Layout.{Layout}
use Rattle.its_plain.specs.Stands.{Stands, IsFirstFault}
use Rattle.its_plain.specs.declared.desc.Desc.{Desc}
use Rattle.its_plain.specs.declared.desc.Its.{Its}
use Rattle.its_plain.specs.declared.desc.DescFault.TheVariants.{Restore}
use Rattle.its_plain.specs.declared.fault.RestoreFault.{RestoreFault}
use Rattle.its_plain.specs.declared.make.MakeError.{MakeError}
use Rattle.its_plain.specs.declared.make.MakeError.TheVariants as making
use Rattle.owned_parts.specs.Owned.{AreAllInHand, redistributors_in, state_of_parts}
use Rattle.owned_parts.specs.Places.{AreNotInHand}
use Rattle.owned_parts.proofs.Places.{many_places}
use Rattle.owned_parts.specs.declared.parts.Parts.{Parts}
use Rattle.standing_states.specs.Laws.{AreBasesOf, AreGiven, bases_to_restore}
use Rattle.standing_states.proofs.Lent.{given_is}
use Rattle.table_restore.specs.Outcome.{WhereFault, HasValuesFor}
use Rattle.table_restore.specs.declared.error.RestoreError.{RestoreError}
use Rattle.table_restore.specs.declared.error.RestoreError.TheVariants as errors
use Rattle.standing_states.proofs.Soundness.{standing_sound}
use Rattle.saved_state.specs.Laws.{bases_of}
use Rattle.owned_machine.specs.Migrations.{AreMade, AreBegun}
use Rattle.owned_machine.specs.Start.{AreStarted, AreOfFirst}
use Rattle.its_plain.specs.Sound.{IsLayout}
use Rattle.owned_machine.specs.Whole.{IsMachine}
use Rattle.std.proofs.lemmas.Bool.{cond_both}
use Rattle.owned_machine.proofs.Lists.{same_lists}

-- ---- where the tables of the redistributors are

pub map_at : {X Y : Type 0} (f : X → Y) (xs : List X) (i : ℕ) (y : Y) → slice_get (map f xs) i ≡ Some y → (x : X) × (slice_get xs i ≡ Some x) × (f x ≡ y)
map_at f [] i y e = absurd cc
map_at f (x ∷ xs) zero y e = (x, refl, same_Some (f x) y e)
map_at f (x ∷ xs) (suc i) y e = map_at f xs i y e

-- described, they are those of the machine
pub described_are : (p : Parts) → IsMachine p → p.layout.gicr ≡ false → bases_of (state_of_parts p) ≡ p.layout.described
described_are p m fixed =
    let rs = (state_of_parts p).redistributors in
    same_lists (bases_of (state_of_parts p)) p.layout.described (length-map rs (λ (r : Redistributor). r.bases) ∙ m.sound.vcpus
    ∙ sym (m.sound.layout.described fixed)) (λ i b is.
    let at = map_at (λ (r : Redistributor). r.bases) rs i b is in
    (m.sound.redistributors i at.0 at.1).described fixed ∙ ap (λ (x : Bases). Some x) at.2)

-- and on
described_on : (p : Parts) → IsMachine p → p.layout.gicr ≡ false → (i : ℕ) (b : Bases) → slice_get p.layout.described i ≡ Some b → b.on ≡ true
described_on p m fixed i b is =
    let rs = (state_of_parts p).redistributors in
    let at = map_at (λ (r : Redistributor). r.bases) rs i b (ap (λ (xs : List Bases). slice_get xs i) (described_are p m fixed) ∙ is) in
    ap (λ (x : Bases). x.on) (sym at.2) ∙ (m.sound.redistributors i at.0 at.1).always_on fixed

-- so a restore of the machine's own registers finds them
pub restored_where : (p : Parts) (values : GicrValues) → IsMachine p
    → (p.layout.gicr ≡ true → all_restored_bases p.layout.shape.vcpus values ≡ bases_of (state_of_parts p))
    → bases_to_restore p.layout values ≡ bases_of (state_of_parts p)
restored_where p values m own =
    cond_both p.layout.gicr (all_restored_bases p.layout.shape.vcpus values) p.layout.described (λ bs. bs ≡ bases_of (state_of_parts p)) own
    (λ fixed. sym (described_are p m fixed))

restored_kept : (v : GicrRegisters) → AreKept (restored_bases v)
restored_kept v = record { prop_whole = omega arith; prop_low = omega arith; id_bits = omega arith; pend_whole = omega arith; pend_low = omega arith }

-- ---- a restored machine

module _ (old new : Parts) (gicr : GicrValues) (values : List (Option RegValues)) (m : IsMachine old) (same : new.layout ≡ old.layout)
    (stands : Stands old.memory values old.layout (bases_to_restore old.layout gicr) (state_of_parts new))
    (all : AreAllInHand old.layout.shape new.redists) (none : (v : ℕ) → old.layout.shape.vcpus ≤ v → AreNotInHand new.redists v) where
  abbrev programmed : List Bases
  programmed = all_restored_bases old.layout.shape.vcpus gicr

  abbrev chosen : Bool → List Bases
  chosen b = if b then programmed else old.layout.described

  are_bases : AreBasesOf old.layout (bases_to_restore old.layout gicr)
  are_bases = record {
    as_many =
        sym stands.vcpus
        ∙ ap (λ (l : Layout). length (redistributors_in l.shape.vcpus new.redists)) same
        ∙ many_places new.redists old.layout.shape.vcpus;
    kept = λ on i b is.
        let at = map_at restored_bases (take old.layout.shape.vcpus gicr.registers) i b (ap (λ (t : Bool). slice_get (chosen t) i) (sym on) ∙ is) in
        subst AreKept at.2 (restored_kept at.0);
    described = λ fixed i b is.
        let there : slice_get old.layout.described i ≡ Some b = ap (λ (t : Bool). slice_get (chosen t) i) (sym fixed) ∙ is in
        (there, described_on old m fixed i b there);
  }

  restored_whole : IsMachine new
  restored_whole = record {
    sound = standing_sound old.memory values old.layout (bases_to_restore old.layout gicr) (state_of_parts new) m.sound.layout are_bases m.sound.memory stands;
    all_in_hand = subst (λ (l : Layout). AreAllInHand l.shape new.redists) (sym same) all;
    no_others = subst (λ (l : Layout). (v : ℕ) → l.shape.vcpus ≤ v → AreNotInHand new.redists v) (sym same) none;
  }

  pub restored_made : (d : Desc) → made d ≡ Ok (state_of_parts old) → values ≡ described.values_of d → list_any is_some values ≡ true
      → bases_to_restore old.layout gicr ≡ described.restored_bases d → AreMade d (Ok new)
  restored_made d made_is values_are some where_is =
      let u = state_of_parts old in
      let here : Stands old.memory (described.values_of d) old.layout (described.restored_bases d) (state_of_parts new) =
      subst (λ (vs : List (Option RegValues)). Stands old.memory vs old.layout (described.restored_bases d) (state_of_parts new)) values_are
      (subst (λ (bs : List Bases). Stands old.memory values old.layout bs (state_of_parts new)) where_is stands) in (
        record {
          base = u;
          made_is = made_is;
          starts = subst (λ (b : Bool). StartsAt b (described.values_of d) (described.restored_bases d) u (state_of_parts new))
              (sym some ∙ ap (list_any is_some) values_are) here;
        },
        restored_whole,
      )

pub where_given : (d : Desc) (p : Parts) (values : GicrValues) → p.layout ≡ layout_of d → AreGiven d.tables values
    → bases_to_restore p.layout values ≡ described.restored_bases d
where_given d p values layout given = ap (λ (l : Layout). bases_to_restore l values) layout ∙ given_is d values given

pub started_made : (d : Desc) (p : Parts) (values : List (Option RegValues)) → values ≡ described.values_of d → list_any is_some values ≡ false
    → AreStarted d (Ok p) → AreMade d (Ok p)
started_made d p values values_are none h =
    let u = state_of_parts p in (
      record {
        base = u;
        made_is = h.made_is;
        starts = subst (λ (b : Bool). StartsAt b (described.values_of d) (described.restored_bases d) u u)
            (sym none ∙ ap (list_any is_some) values_are) refl;
      },
      h.whole,
    )

pub restore_refused : (d : Desc) (p : Parts) (values : List (Option RegValues)) (gicr : GicrValues) (i : ℕ) (f : RestoreFault)
    → made d ≡ Ok (state_of_parts p) → values ≡ described.values_of d → list_any is_some values ≡ true
    → bases_to_restore p.layout gicr ≡ described.restored_bases d
    → IsFirstFault p.memory values p.layout.shape (bases_to_restore p.layout gicr) i f → IsRefused d (Restore i f)
restore_refused d p values gicr i f made_is values_are some where_is first =
    of_restore (state_of_parts p) i f made_is (ap (list_any is_some) (sym values_are) ∙ some)
    (subst (λ (vs : List (Option RegValues)). IsFirstFault p.memory vs p.layout.shape (described.restored_bases d) i f) values_are
    (subst (λ (bs : List Bases). IsFirstFault p.memory values p.layout.shape bs i f) where_is first))

pub start_refused : (d : Desc) (e : MakeError) → AreStarted d (Err e) → AreMade d (Err e)
start_refused d making.NoMemory h = tt
start_refused d (making.Fault f) h = of_description f h

-- what is said of a fault
pub where_fault : (e : RestoreError) (i : ℕ) (f : RestoreFault) (P : ℕ → RestoreFault → Type 0) → e ≡ errors.Fault i f → WhereFault e P → P i f
where_fault e i f P is h = subst (λ (x : RestoreError). WhereFault x P) is h

-- an error that is handed on
pub made_with : (d : Desc) (r : Result Parts MakeError) (e : MakeError) → IsErrAnd r (λ (x : MakeError). x ≡ e) → AreStarted d (Err e) → AreMade d r
made_with d (Ok x) e is h = absurd is
made_with d (Err x) e is h = subst (λ (y : MakeError). AreMade d (Err y)) (sym is) (start_refused d e h)

-- how many values a description gives
pub many_values : (d : Desc) (values : List (Option RegValues)) → IsDescription d → values ≡ described.values_of d
    → (1 ≤ length values) × (length values ≤ 2)
many_values d values h is =
    let long : length values ≡ length d.translators = ap (λ (vs : List (Option RegValues)). length vs) is ∙ length-map d.translators (λ (t : Its). t.restore) in
    (let a = h.some_translator in omega (arith, long, a), let b = h.most_translators in omega (arith, long, b))

-- the values that a description gives are as many as virtual processors
given_fits : (s : Shape) (t : LpiTables) (values : GicrValues) → HasTablesFor s.vcpus t → AreGiven t values → are_programmed t ≡ true
    → length values.registers ≡ s.vcpus
given_fits s (Described config pending) values has given programmed = absurd cc
given_fits s (Registers w) values has given programmed = ap (λ (v : GicrValues). length v.registers) (sym given) ∙ has

-- ---- restored from the base of the first parts

module _ (d : Desc) (layout : Layout) (memory : List Window) (base : AreOfFirst d layout memory) (values : List (Option RegValues)) (gicr : GicrValues)
    (values_are : values ≡ described.values_of d) (some : list_any is_some values ≡ true) (given : AreGiven d.tables gicr) where
  -- what is said of the layout and the memory is said of the parts
  of_base : (P : Layout → List Window → Type 0) → P layout memory → P base.0.layout base.0.memory
  of_base P h = subst (λ (l : Layout). P l base.0.memory) (sym base.2) (subst (P layout) (sym base.3) h)

  pub made_there : (new : Parts) → new.layout ≡ layout → Stands memory values layout (bases_to_restore layout gicr) (state_of_parts new)
      → AreAllInHand layout.shape new.redists → ((v : ℕ) → layout.shape.vcpus ≤ v → AreNotInHand new.redists v) → AreMade d (Ok new)
  made_there new same stands all none =
      restored_made base.0 new gicr values base.1.whole (same ∙ sym base.2)
      (of_base (λ (l : Layout) (x : List Window). Stands x values l (bases_to_restore l gicr) (state_of_parts new)) stands)
      (of_base (λ (l : Layout) (x : List Window). AreAllInHand l.shape new.redists) all)
      (of_base (λ (l : Layout) (x : List Window). (v : ℕ) → l.shape.vcpus ≤ v → AreNotInHand new.redists v) none) d base.1.made_is values_are some
      (where_given d base.0 gicr base.1.layout given)

  pub refused_there : (i : ℕ) (f : RestoreFault) → IsFirstFault memory values layout.shape (bases_to_restore layout gicr) i f → IsRefused d (Restore i f)
  refused_there i f first =
      restore_refused d base.0 values gicr i f base.1.made_is values_are some (where_given d base.0 gicr base.1.layout given)
      (of_base (λ (l : Layout) (x : List Window). IsFirstFault x values l.shape (bases_to_restore l gicr) i f) first)

  pub values_there : IsDescription d → HasValuesFor layout gicr
  values_there description =
      subst (λ (l : Layout). HasValuesFor l gicr) (sym base.1.layout ∙ base.2) (given_fits d.shape d.tables gicr description.tables given)

  pub layout_there : IsLayout layout
  layout_there = subst IsLayout base.2 base.1.whole.sound.layout

-- ---- with stale bits left out, where KVM saved the tables

pub begun_refused : (d : Desc) (r : Result Parts MakeError) (e : MakeError) → IsErrAnd r (λ (x : MakeError). x ≡ e) → AreMade d (Err e) → AreBegun d r
begun_refused d (Ok x) e is h = absurd is
begun_refused d (Err x) e is h = subst (λ (y : MakeError). AreBegun d (Err y)) (sym is) (same_refusal d e h)
  where
    same_refusal : (d : Desc) (e : MakeError) → AreMade d (Err e) → AreBegun d (Err e)
    same_refusal d making.NoMemory h = tt
    same_refusal d (making.Fault f) h = h
