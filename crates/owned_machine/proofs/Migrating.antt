-- The machines that migrations go on with.
use Rattle.std.proofs.Common.{◌≡◌, ℕ, ◌≤◌, true, List, length, map, Option, Some, None, Result}
use Rattle.std.proofs.Common.{Ok, Err}
use Rattle.std.proofs.Common.{refl, sym, ap, subst, ◌∙◌, arith}
use Rattle.std.specs.Prelude.{nat_lt, nat_le, ◌&&◌, IfSome}
use Rattle.std.specs.Option.{option_map}
use Rattle.std.specs.List.{list_all}
use Rattle.std.proofs.lemmas.Bool.{and_parts}
use Rattle.dirty_log.specs.Copies.{caught_up, IsTracked}
use Rattle.dirty_log.specs.Pages.{dirty_count}
use Rattle.dirty_log.specs.declared.tracked.Tracked.{Tracked}
use Rattle.dirty_log.proofs.Whole.{copy_is}
use Rattle.plain_soundness.proofs.Answers.{calls_keep}
use Rattle.its_plain.specs.Answer.{copy_count, left, reply_of, save_left}
use Rattle.its_plain.specs.declared.call.Call.TheVariants as call
use Rattle.lpi_pending.specs.InHand.{RedistParts}
use Rattle.owned_parts.specs.declared.in_place.TranslatorRef.{TranslatorRef}
use Rattle.owned_parts.specs.declared.in_place.InPlace.{InPlace}
use Rattle.owned_machine.specs.Placed.{parts_in, translator_in}
use Rattle.std.specs.Result.{IsErrAnd}
use Rattle.std.proofs.lemmas.Option.{same_Some}
use Rattle.guest_windows.specs.Windows.{Window, extent, are_windows, share_no_byte, in_range}
use Rattle.gits_regs.specs.declared.values.RegValues.{RegValues}
use Rattle.its_types.specs.declared.translation.Bases.{Bases}
use Rattle.its_plain.specs.Plain.{Plain, Translator}
use Rattle.its_plain.specs.Sound.{IsSound}
use Rattle.gicr_regs.specs.Registers.{all_restored_bases}
use Rattle.gicr_regs.specs.declared.values.GicrValues.{GicrValues}
use Rattle.its_plain.specs.declared.layout.Layout.{Layout}
use Rattle.its_plain.specs.Regions.{savable, areas_of}
use Rattle.its_plain.specs.Saved.{saved, moved, moved_count, words_of, wrote_tables}
use Rattle.its_plain.specs.Stands.{Stands, IsFirstFault}
use Rattle.its_plain.specs.declared.fault.RestoreFault.{RestoreFault}
use Rattle.owned_parts.specs.Places.{AreNotInHand}
use Rattle.owned_parts.specs.Owned.{AreAllInHand, state_of, state_of_parts, state_in_place, translators_of, translators_at, track_at, translator_of, one_or_two}
use Rattle.owned_parts.specs.declared.parts.Parts.{Parts}
use Rattle.plain_soundness.proofs.Migrated.{migrations_keep}
use Rattle.standing_states.specs.Laws.{bases_to_restore}
use Rattle.saved_state.specs.Laws.{values_read, reads_of, bases_of}
use Rattle.saved_state.proofs.Restored as saved_state
use Rattle.owned_machine.specs.Migrations.{AreMoved, GoesOnFrom, marked, memory_after}
use Rattle.its_plain.specs.declared.fault.SaveError.{SaveError}
use Rattle.its_plain.specs.declared.fault.SaveError.TheVariants as saving
use Rattle.table_save.specs.Fits.{AreOfSound}
use Rattle.table_save.specs.Checked.{Saves}
use Rattle.owned_machine.specs.Whole.{IsMachine, GoesOn}
use Rattle.owned_machine.proofs.Restored.{restored_where}

-- ---- parts in place

pub in_place_is : (i : InPlace) → state_in_place i ≡ state_of_parts (parts_in i)
in_place_is i = ap (λ (ts : List Translator). state_of i.layout.now ts i.memory.now (track_at i) i.redists.now) (both i.first i.second)
  where
    both : (f : TranslatorRef) (o : Option TranslatorRef) → translators_at f o ≡ translators_of (translator_in f) (option_map translator_in o)
    both f None = refl
    both f (Some s) = refl

-- parts are a machine where they stand
pub lent_whole : (p : Parts) (i : InPlace) → IsMachine p → state_in_place i ≡ state_of_parts p → i.layout.now ≡ p.layout → i.redists.now ≡ p.redists
    → IsMachine (parts_in i)
lent_whole p i m state layout redists = record {
  sound = subst IsSound (sym state ∙ in_place_is i) m.sound;
  all_in_hand = subst (λ (l : Layout). AreAllInHand l.shape i.redists.now) (sym layout)
      (subst (λ (rs : RedistParts). AreAllInHand p.layout.shape rs) (sym redists) m.all_in_hand);
  no_others = subst (λ (l : Layout). (v : ℕ) → l.shape.vcpus ≤ v → AreNotInHand i.redists.now v) (sym layout)
      (subst (λ (rs : RedistParts). (v : ℕ) → p.layout.shape.vcpus ≤ v → AreNotInHand rs v) (sym redists) m.no_others);
}

-- ---- a moved machine

module _ (old : Parts) (memory : List Window) (values : List (Option RegValues)) (gicr : GicrValues) (m : IsMachine old)
    (can : savable (state_of_parts old) ≡ Ok tt) (written : memory ≡ saved (state_of_parts old)) (read : values ≡ map Some (reads_of (state_of_parts old)))
    (own : old.layout.gicr ≡ true → all_restored_bases old.layout.shape.vcpus gicr ≡ bases_of (state_of_parts old)) where
  abbrev u : Plain
  u = state_of_parts old

  -- what is said of the memory, the values and the bases that were restored from
  there : (P : List Window → List (Option RegValues) → List Bases → Type 0) → P memory values (bases_to_restore old.layout gicr)
      → P (saved u) (map Some (reads_of u)) (bases_of u)
  there P h =
      subst (λ (bs : List Bases). P (saved u) (map Some (reads_of u)) bs) (restored_where old gicr m own)
      (subst (λ (v : List (Option RegValues)). P (saved u) v (bases_to_restore old.layout gicr)) read
      (subst (λ (x : List Window). P x values (bases_to_restore old.layout gicr)) written h))

  pub moved_goes : (new : Parts) → new.layout ≡ old.layout → Stands memory values old.layout (bases_to_restore old.layout gicr) (state_of_parts new)
      → AreAllInHand old.layout.shape new.redists
      → ((v : ℕ) → old.layout.shape.vcpus ≤ v → AreNotInHand new.redists v) → GoesOn new (moved (state_of_parts old))
  moved_goes new layout stands all none =
      let here : Stands (saved u) (map Some (reads_of u)) old.layout (bases_of u) (state_of_parts new) =
      there (λ (x : List Window) (v : List (Option RegValues)) (bs : List Bases). Stands x v old.layout bs (state_of_parts new)) stands
      in
      let same : state_of_parts new ≡ moved u = saved_state.only_that u (state_of_parts new) m.sound can here in
      record {
        state = same;
        whole = record {
          sound = subst IsSound (sym same) (migrations_keep u m.sound);
          all_in_hand = subst (λ (l : Layout). AreAllInHand l.shape new.redists) (sym layout) all;
          no_others = subst (λ (l : Layout). (v : ℕ) → l.shape.vcpus ≤ v → AreNotInHand new.redists v) (sym layout) none;
        };
      }

  pub no_fault : (i : ℕ) (f : RestoreFault) → IsFirstFault memory values old.layout.shape (bases_to_restore old.layout gicr) i f → ⊥
  no_fault i f first = saved_state.no_offence u i f m.sound can
      (there (λ (x : List Window) (v : List (Option RegValues)) (bs : List Bases). IsFirstFault x v old.layout.shape bs i f) first)

-- ---- a pre-copy

moved_memory : (u : Plain) → (moved u).memory ≡ saved u
unfolding moved
moved_memory u = refl

no_one_twice : (ws : List (ℕ × ℕ)) → are_windows ws ≡ true → share_no_byte ws ≡ true
no_one_twice ws h =
    let few = nat_lt 0 (length ws) && nat_le (length ws) 16 in
    (and_parts (few && list_all in_range ws) (share_no_byte ws) h).1

saves_sound : (u : Plain) → IsSound u → IsSound (save_left u (savable u))
unfolding left reply_of
saves_sound u h = calls_keep u call.Save h

module _ (old next : Parts) (t : Tracked) (m : IsMachine old) (can : savable (state_of_parts old) ≡ Ok tt) (goes : GoesOn next (moved (state_of_parts old)))
    (there : old.track ≡ Some t) where
  abbrev now : Tracked
  now = wrote_tables (words_of (state_of_parts old)) t

  memory_is : next.memory ≡ saved (state_of_parts old)
  memory_is = ap (λ (u : Plain). u.memory) goes.state ∙ moved_memory (state_of_parts old)

  -- after a save its pages are marked
  tracked : IsTracked (saved (state_of_parts old)) now
  tracked =
      let u = state_of_parts old in
      let done : save_left u (savable u) ≡ save_left u (Ok tt) = ap (save_left u) can in
      let sound : IsSound (save_left u (Ok tt)) = subst IsSound done (saves_sound u m.sound) in
      sound.tracked now (ap (option_map (wrote_tables (words_of u))) there)

  pub copies_there : map extent now.copy ≡ map extent next.memory
  copies_there = tracked.windows ∙ ap (map extent) (sym memory_is)

  pub copied_is : (caught_up next.memory now).copy ≡ next.memory
  copied_is =
      subst (λ (x : List Window). (caught_up x now).copy ≡ x) (sym memory_is)
      (copy_is (saved (state_of_parts old)) now (no_one_twice (map extent (saved (state_of_parts old)))
      (subst (λ (ws : List Window). are_windows (map extent ws) ≡ true) memory_is goes.whole.sound.memory)) tracked)

  pub copy_goes_on : (copy : List Window) → copy ≡ (caught_up next.memory now).copy → GoesOn (record next { memory = copy }) (moved (state_of_parts old))
  copy_goes_on copy is = subst (λ (x : List Window). GoesOn (record next { memory = x }) (moved (state_of_parts old))) (sym (is ∙ copied_is)) goes

  pub count_is : dirty_count now.log ≡ moved_count (state_of_parts old)
  count_is = sym (ap (λ (o : Option Tracked). elim o [ None ↦ 0 | Some x ↦ dirty_count (wrote_tables (words_of (state_of_parts old)) x).log ]) there)

pub none_counted : (old : Parts) → old.track ≡ None → 0 ≡ moved_count (state_of_parts old)
none_counted old is =
    sym (ap (λ (o : Option Tracked). elim o [ None ↦ 0 | Some x ↦ dirty_count (wrote_tables (words_of (state_of_parts old)) x).log ]) is)

-- ---- what is lent to a save

pub lent_sound : (p : Parts) (i : InPlace) → IsMachine p → state_in_place i ≡ state_of_parts p → AreOfSound i
lent_sound p i m is = (track_at i, subst IsSound (sym is) m.sound)

pub lent_in_hand : (p : Parts) (i : InPlace) → IsMachine p → i.layout.now ≡ p.layout → i.redists.now ≡ p.redists
    → AreAllInHand i.layout.now.shape i.redists.now
lent_in_hand p i m layout redists =
    subst (λ (l : Layout). AreAllInHand l.shape i.redists.now) (sym layout)
    (subst (λ (rs : RedistParts). AreAllInHand p.layout.shape rs) (sym redists) m.all_in_hand)

-- without the second memory
pub rest_sound : (p : Parts) (i : InPlace) → IsMachine p → state_in_place i ≡ record (state_of_parts p) { track = None } → AreOfSound i
rest_sound p i m is = (p.track, subst IsSound (sym (ap (λ (u : Plain). record u { track = p.track }) is)) m.sound)

pub same_words : (p : Parts) (i : InPlace) → state_in_place i ≡ record (state_of_parts p) { track = None } → words_of (state_in_place i) ≡ words_of (state_of_parts p)
unfolding words_of
same_words p i is = ap words_of is

-- where a save is refused
pub not_moved : (i : InPlace) (e : SaveError) → Saves (state_in_place i) (Err e) → AreMoved (state_of_parts (parts_in i)) (Err e)
not_moved i (saving.Fault f) h = subst (λ (u : Plain). savable u ≡ Err f) (in_place_is i) h
not_moved i saving.NoMemory h = tt

pub moved_with : (u : Plain) (r : Result Parts SaveError) (e : SaveError) → IsErrAnd r (λ (x : SaveError). x ≡ e) → AreMoved u (Err e) → AreMoved u r
moved_with u (Ok x) e is h = absurd is
moved_with u (Err x) e is h = subst (λ (y : SaveError). AreMoved u (Err y)) (sym is) h

-- how many values are read
pub read_count : (p : Parts) (values : List (Option RegValues)) → values ≡ map Some (reads_of (state_of_parts p)) → (1 ≤ length values) × (length values ≤ 2)
read_count p values is = subst (λ (vs : List (Option RegValues)). (1 ≤ length vs) × (length vs ≤ 2)) (sym is) (by (option_map translator_of p.second))
  where
    by : (o : Option Translator) → (1 ≤ length (map Some (map (λ t. values_read t.regs) (one_or_two (translator_of p.first) o))))
        × (length (map Some (map (λ t. values_read t.regs) (one_or_two (translator_of p.first) o))) ≤ 2)
    by None = (omega arith, omega arith)
    by (Some t) = (omega arith, omega arith)

mapped_some : {X Y : Type 0} (o : Option X) (f : X → Y) (y : Y) → option_map f o ≡ Some y → (x : X) × (o ≡ Some x) × (f x ≡ y)
mapped_some None f y e = absurd cc
mapped_some (Some x) f y e = (x, refl, same_Some (f x) y e)

mapped_none : {X Y : Type 0} (o : Option X) (f : X → Y) → option_map f o ≡ None → o ≡ None
mapped_none None f e = refl
mapped_none (Some x) f e = absurd cc

-- the parts with their pages marked, of which the second memory was taken
module _ (old next after : Parts) (taken : Option Tracked) (m : IsMachine old) (can : savable (state_of_parts old) ≡ Ok tt)
    (goes : GoesOn next (moved (state_of_parts old))) (marks : after ≡ marked old) (value : taken ≡ after.track) where
  plain_goes : taken ≡ None → GoesOnFrom old (Ok 0) next
  plain_goes none =
      let is : old.track ≡ None = mapped_none old.track (wrote_tables (words_of (state_of_parts old))) (sym (value ∙ ap (λ (q : Parts). q.track) marks) ∙ none) in
      (none_counted old is, can, goes)

  module _ (track : Tracked) (some : taken ≡ Some track) where
    origin : (x : Tracked) × (old.track ≡ Some x) × (wrote_tables (words_of (state_of_parts old)) x ≡ track)
    origin = mapped_some old.track (wrote_tables (words_of (state_of_parts old))) track (sym (value ∙ ap (λ (q : Parts). q.track) marks) ∙ some)

    copy_windows : map extent track.copy ≡ map extent next.memory
    copy_windows =
        subst (λ (x : Tracked). map extent x.copy ≡ map extent next.memory) origin.2 (copies_there old next origin.0 m can goes origin.1)

    copy_goes : (copy : List Window) (count : ℕ) → copy ≡ (caught_up next.memory track).copy → count ≡ dirty_count track.log
        → GoesOnFrom old (Ok count) (record next { memory = copy })
    copy_goes copy count copied counted = (
      counted ∙ ap (λ (x : Tracked). dirty_count x.log) (sym origin.2) ∙ count_is old next origin.0 m can goes origin.1,
      can,
      copy_goes_on old next origin.0 m can goes origin.1 copy (copied ∙ ap (λ (x : Tracked). (caught_up next.memory x).copy) (sym origin.2)),
    )

  pub precopy_windows : (second : Option Tracked) → taken ≡ second → IfSome second (λ t. map extent t.copy ≡ map extent next.memory)
  precopy_windows None is = tt
  precopy_windows (Some t) is = copy_windows t is

  pub precopy_goes : (second : Option Tracked) → taken ≡ second → (memory : List Window) (count : ℕ) → memory ≡ memory_after next.memory second
      → count ≡ copy_count second → GoesOnFrom old (Ok count) (record next { memory = memory })
  precopy_goes None is memory count left counted =
      subst (λ (x : List Window). GoesOnFrom old (Ok count) (record next { memory = x })) (sym left)
      (subst (λ (k : ℕ). GoesOnFrom old (Ok k) next) (sym counted) (plain_goes is))
  precopy_goes (Some t) is memory count left counted = copy_goes t is memory count left counted

-- the moved state is that of the parts where they stand
pub moved_from : (p : Parts) (i : InPlace) (next : Parts) → state_in_place i ≡ state_of_parts p → AreMoved (state_of_parts (parts_in i)) (Ok next)
    → (savable (state_of_parts p) ≡ Ok tt) × GoesOn next (moved (state_of_parts p))
moved_from p i next is h =
    subst (λ (u : Plain). (savable u ≡ Ok tt) × GoesOn next (moved u)) (sym (in_place_is i) ∙ is) h

pub refused_from : (p : Parts) (i : InPlace) (e : SaveError) (r : Result ℕ SaveError) → state_in_place i ≡ state_of_parts p
    → AreMoved (state_of_parts (parts_in i)) (Err e) → IsErrAnd r (λ (x : SaveError). x ≡ e) → GoesOnFrom p r p
refused_from p i e (Ok n) is h same = absurd same
refused_from p i e (Err x) is h same = subst (λ (y : SaveError). GoesOnFrom p (Err y) p) (sym same) (by e h)
  where
    by : (y : SaveError) → AreMoved (state_of_parts (parts_in i)) (Err y) → GoesOnFrom p (Err y) p
    by (saving.Fault f) k = (subst (λ (u : Plain). savable u ≡ Err f) (sym (in_place_is i) ∙ is) k, refl)
    by saving.NoMemory k = refl

-- ---- what doesn't depend on the second memory

pub same_savable : (u : Plain) (t : Option Tracked) → savable (record u { track = t }) ≡ savable u
unfolding savable areas_of
same_savable u t = refl

pub same_saved : (u : Plain) (t : Option Tracked) → saved (record u { track = t }) ≡ saved u
unfolding words_of
same_saved u t = refl

pub same_moved : (u : Plain) (t : Option Tracked) → moved (record u { track = t }) ≡ moved u
unfolding moved words_of
same_moved u t = refl
