-- The parts that are left of a machine.
use Rattle.std.proofs.Common.{◌≡◌, ℕ, ◌<◌, ◌≤◌, List, Option, Some, None, Ok, Err, refl, ap, sym, ◌∙◌, subst, arith}
use Rattle.std.specs.Prelude.{slice_get}
use Rattle.dirty_log.specs.declared.tracked.Tracked.{Tracked}
use Rattle.its_plain.specs.History.{after}
use Rattle.its_plain.specs.Plain.{Plain}
use Rattle.its_plain.specs.Regions.{savable}
use Rattle.its_plain.specs.Saved.{moved, moved_count, track_of}
use Rattle.its_plain.specs.Sound.{IsSound}
use Rattle.its_plain.specs.declared.call.Entry.{Entry}
use Rattle.its_plain.specs.declared.fault.SaveError.{SaveError}
use Rattle.its_plain.specs.declared.fault.SaveError.TheVariants as errors
use Rattle.its_plain.specs.declared.layout.Layout.{Layout}
use Rattle.plain_soundness.proofs.Migrated.{tracks_of, tracked_of}
use Rattle.lpi_config.specs.Conf.{Conf as ConfInHand}
use Rattle.lpi_pending.specs.InHand.{RedistParts, conf_in, pend_in}
use Rattle.lpi_pending.specs.Pend.{Pend as PendInHand}
use Rattle.owned_parts.specs.Owned.{AreAllInHand, HasLpisOfConf, HasLpisOfPend, conf_or, pend_or, redistributors_in, state_of_parts}
use Rattle.owned_machine.specs.Whole.{IsMachine, GoesOn}
use Rattle.table_save.specs.Checked.{Answers}
use Rattle.owned_parts.specs.declared.parts.Parts.{Parts}
use Rattle.its_steps.specs.Parts.{Setup, IsOfMachine, vcpu_count}
use Rattle.its_steps.specs.World.{View, first_view}
use Rattle.its_turns.specs.Closed.{AreAllParts}
use Rattle.its_turns.specs.Machines.{setup, view, IsOf}
use Rattle.its_turns.specs.Opening.{setup_from, kept_of}
use Rattle.its_turns.specs.Told.{IsLone}
use Rattle.its_turns.specs.declared.machine.Machine.{Machine}
use Rattle.its_turns.specs.declared.machine.Pass.{Pass}
use Rattle.held_parts.specs.Wholes.{TakesWhole}
use Rattle.held_parts.specs.declared.whole.Whole.{Whole}
use Rattle.held_parts.proofs.Wholes.{AllConfs, AllPends, both_parts, firsts_are}
use Rattle.its_migrate.specs.Precopying.{AreLeft, AreTaken, AreUnpacked, IsLeftFor, Precopies, WentOnCopied, renewed, untracked, with_track}
use Rattle.its_migrate.specs.Resting.{IsCause, Rests, resting}
use Rattle.its_migrate.specs.declared.outcome.Precopy.{Precopy}
use Rattle.its_migrate.proofs.Copying.{moved_memory}
use Rattle.its_migrate.proofs.Moving.{went_on}
use Rattle.its_migrate.proofs.Pendings.{rests_seen}
use Rattle.its_migrate.proofs.Taken.{HasNoOthers, taken_hand, taken_others, rest_of_machine, taken_rest}

-- ---- a second memory that begins anew

sound_renewed : (u : Plain) → IsSound u → IsSound (renewed u)
sound_renewed u h = record {
  layout = h.layout;
  translators = h.translators;
  vcpus = h.vcpus;
  redistributors = h.redistributors;
  memory = h.memory;
  tracks = tracks_of u.layout.track u.memory;
  tracked = tracked_of u.layout.track u.memory;
}

are_left : (u : Plain) (p : Parts) → IsSound u → state_of_parts p ≡ untracked u → AreAllInHand p.layout.shape p.redists → HasNoOthers p.layout p.redists
    → AreLeft u p
are_left u p sound same all none =
    let track : Option Tracked = track_of u.layout.track u.memory in
    record {
      state = same;
      machine = record {
        sound = subst IsSound (sym (ap (λ (x : Plain). record x { track = track }) same)) (sound_renewed u sound);
        all_in_hand = all;
        no_others = none;
      };
    }

-- ---- all parts of a machine that was closed

module _ (s : Setup) (u : Plain) (m : IsOfMachine s u) (p : Parts) (are : AreAllParts s u p) where
  abbrev n : ℕ
  n = p.layout.shape.vcpus

  counted : vcpu_count s ≡ n
  counted = ap (λ (l : Layout). l.shape.vcpus) (m.layout ∙ sym are.layout)

  below : (v : ℕ) → v < n → v < vcpu_count s
  below v lt = omega (arith, lt, counted)

  -- what is in hand has the machine's LPIs, and the places above are empty
  confs_left : AllConfs s p.redists
  confs_left = record {
    first = λ v lt.
        let b = are.confs.below v lt in
        (b.0, b.1, subst (λ (l : Layout). HasLpisOfConf l.shape b.0) (sym m.layout) b.2.lpis);
    others = are.confs.others;
  }

  pends_left : AllPends s p.redists
  pends_left = record {
    first = λ v lt.
        let b = are.pends.below v lt in
        (b.0, b.1, subst (λ (l : Layout). HasLpisOfPend l.shape b.0) (sym m.layout) b.2.lpis);
    others = are.pends.others;
  }

  redists_are : redistributors_in n p.redists ≡ u.redistributors
  redists_are = subst (λ (k : ℕ). redistributors_in k p.redists ≡ u.redistributors) counted
      (firsts_are s p.redists confs_left pends_left u.redistributors (m.sound.vcpus ∙ ap (λ (l : Layout). l.shape.vcpus) (sym m.layout))
      (λ v lt.
      let c = are.confs.below v lt in let d = are.pends.below v lt in
      let conf = c.2.same ∙ ap (λ (o : Option ConfInHand). Some (conf_or o)) (sym c.1) in
      let pend = d.2.same ∙ ap (λ (o : Option PendInHand). Some (pend_or o)) (sym d.1) in
      both_parts (slice_get u.redistributors v) (conf_or (conf_in p.redists v)) (pend_or (pend_in p.redists v)) conf pend))

  state_left : state_of_parts (with_track None p) ≡ untracked u
  state_left = λ d. record {
    layout = are.layout d;
    translators = are.translators d;
    redistributors = redists_are d;
    memory = sym are.parts.memory_is d;
    track = None;
  }

  all_left : AreAllInHand p.layout.shape p.redists
  all_left v lt =
      let c = are.confs.below v (below v lt) in let d = are.pends.below v (below v lt) in (
        (c.0, c.1, subst (λ (l : Layout). HasLpisOfConf l.shape c.0) (sym are.layout) c.2.lpis),
        (d.0, d.1, subst (λ (l : Layout). HasLpisOfPend l.shape d.0) (sym are.layout) d.2.lpis),
      )

  above : (v : ℕ) → n ≤ v → vcpu_count s ≤ v
  above v le = omega (arith, le, counted)

  no_others_left : HasNoOthers p.layout p.redists
  no_others_left v le = record { conf = are.confs.others v (above v le); pend = are.pends.others v (above v le) }

  pub parts_left : AreLeft u (with_track None p)
  parts_left = are_left u (with_track None p) m.sound state_left all_left no_others_left

-- ---- parts that were taken out of a machine at rest

module _ (m : Machine) (r : Pass) (w : View) (x : Whole) (taken : TakesWhole (setup m) (view r) x w) (lone : IsLone (view r)) (l : Layout)
    (same : l ≡ (setup m).start.layout) (q : Parts × Option Tracked) (are : AreUnpacked l x q) where
  abbrev whole : Parts
  whole = with_track q.1 q.0

  pub unpacked_state : state_of_parts whole ≡ resting m r
  unpacked_state = are.state ∙ taken_rest m r w x taken lone l same

  pub unpacked_machine : IsMachine whole
  unpacked_machine = record {
    sound = subst IsSound (sym unpacked_state) (rest_of_machine m r w x taken lone).sound;
    all_in_hand = subst (λ (k : Layout). AreAllInHand k.shape q.0.redists) (sym are.layout)
        (subst (λ (rs : RedistParts). AreAllInHand l.shape rs) (sym are.redists) (taken_hand (setup m) (view r) w x taken l same));
    no_others = subst (λ (k : Layout). HasNoOthers k q.0.redists) (sym are.layout)
        (subst (HasNoOthers l) (sym are.redists) (taken_others (setup m) (view r) w x taken l same));
  }

  pub unpacked_taken : savable (resting m r) ≡ Ok tt → AreTaken (setup m) q
  unpacked_taken can = record {
    machine = unpacked_machine;
    of = subst (λ (u : Plain). IsOfMachine (setup m) u) (sym unpacked_state) (rest_of_machine m r w x taken lone);
    savable = ap (λ (u : Plain). savable u) unpacked_state ∙ can;
    track = are.track;
  }

-- why a state can't be saved, why an equal one can't
pub cause_at : (u w : Plain) → u ≡ w → (e : SaveError) → Answers (Err e) (savable u) → IsCause w e
cause_at u w same (errors.Fault f) is = sym (ap (λ (x : Plain). savable x) same) ∙ is
cause_at u w same errors.NoMemory is = tt

-- ---- parts that were taken of a machine at rest

module _ (m : Machine) (r : Pass) (q : Parts × Option Tracked) (are : AreTaken (setup m) q) (same : state_of_parts (with_track q.1 q.0) ≡ resting m r) where
  pub taken_left : AreLeft (resting m r) q.0
  taken_left =
      are_left (resting m r) q.0 (subst IsSound same are.machine.sound) (λ d. record (same d) { track = are.track d }) are.machine.all_in_hand
      are.machine.no_others

  -- a machine that begins with the parts that go on
  module _ (n : Machine) (s : Pass) (p : Parts) (count : ℕ) (goes : GoesOn p (moved (state_of_parts (with_track q.1 q.0))))
      (counted : count ≡ moved_count (state_of_parts (with_track q.1 q.0))) where
    pub went_copied : IsOf n s → setup n ≡ setup_from m.desc p → n.desc ≡ kept_of m.desc → view s ≡ first_view (setup n) → WentOnCopied m r n s count
    went_copied of made desc fresh =
        let can = sym (ap (λ (u : Plain). savable u) same) ∙ are.savable in
        let went = went_on m n r s p can (subst (λ (u : Plain). GoesOn p (moved u)) same goes) of made desc fresh in
        record {
          went = went;
          memory = ap (λ (u : Plain). u.memory) went.start ∙ moved_memory (resting m r);
          count_is = counted ∙ ap (λ (u : Plain). moved_count u) same;
        }

-- a machine at rest comes back, or its parts
pub left_for : (m : Machine) (r s : Pass) (e : SaveError) (x : Precopy) → IsOf m s → Rests (view r) (view s) → IsCause (resting m r) e → IsLeftFor m s e x
    → Precopies m r (Err x)
left_for m r s (errors.Fault f) x of rests cause left = subst (λ (y : Precopy). Precopies m r (Err y)) (sym left) (refl, of, rests, cause)
left_for m r s errors.NoMemory x of rests cause left =
    subst (λ (y : Precopy). Precopies m r (Err y)) (sym left.1)
    (subst (λ (h : List Entry). AreLeft (after (setup m).start h) left.0.parts) (rests_seen (view r) (view s) rests) left.2)
