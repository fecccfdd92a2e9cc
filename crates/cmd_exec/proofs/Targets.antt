-- What is in hand where the parts of redistributors that a command reads or changes are.
use Rattle.std.proofs.Common.{◌≡◌, ℕ, zero, suc, ◌<◌, Bool, true, false, cond, ◌&&◌, ◌||◌, eqb, ltb, nat_lt, inl, inr, arith, List, [], ◌∷◌, ◌++◌, Option}
use Rattle.std.proofs.Common.{Some, None, refl, ap, ◌∙◌, sym, subst}
use Rattle.std.specs.Prelude.{is_some}
use Rattle.std.proofs.lemmas.Bool.{eq-eqb, ne_eqb, lt-ltb, le-ltb, or_left, or_right, or_from, cond-true, cond-false, cases_order}
use Rattle.its_command.specs.declared.command.Command.TheVariants as command
use Rattle.its_types.specs.Maps.{Maps, collection_of}
use Rattle.its_types.specs.declared.ids.DeviceId.{DeviceId}
use Rattle.its_types.specs.declared.ids.EventId.{EventId}
use Rattle.its_types.specs.declared.ids.Icid.{Icid}
use Rattle.its_types.specs.declared.ids.Intid.{Intid}
use Rattle.its_types.specs.declared.ids.Vcpu.{Vcpu}
use Rattle.its_types.specs.declared.machine.Part.{Part}
use Rattle.its_types.specs.declared.machine.Profile.{Profile}
use Rattle.its_types.specs.declared.machine.Profile.TheVariants.{One, Two}
use Rattle.its_types.specs.declared.machine.Shape.{Shape}
use Rattle.its_plain.specs.Parts.{conf, pend, pend_at, target_of_event, moved_targets, confs_below, needed}
use Rattle.lpi_pending.specs.InHand.{RedistParts, conf_in, pend_in}
use Rattle.cmd_exec.specs.Needs.{is_conf, is_pend, has_some, AreNeededInHand}
use Rattle.cmd_exec.specs.Ready.{IsTargetInHand, AreBothInHand, AreTargetsInHand}

-- ---- lists of parts

abbrev IsHeld : RedistParts → ℕ → Type 0
IsHeld rs v = is_some (pend_in rs v) ≡ true

abbrev AreHeld : RedistParts → List Part → Type 0
AreHeld rs ps = (v : ℕ) → has_some (is_pend v) ps ≡ true → IsHeld rs v

first_held : (rs : RedistParts) (v : ℕ) (ps : List Part) → AreHeld rs (pend v ∷ ps) → IsHeld rs v
first_held rs v ps h = h v (or_left (eqb v v) (has_some (is_pend v) ps) (eq-eqb v v refl))

rest_held : (rs : RedistParts) (v : ℕ) (ps : List Part) → AreHeld rs (pend v ∷ ps) → AreHeld rs ps
rest_held rs v ps h = λ w e. h w (or_right (eqb v w) (has_some (is_pend w) ps) e)

target_held : (rs : RedistParts) (o : Option Vcpu) (ps : List Part) → AreHeld rs (pend_at o ++ ps) → IsTargetInHand rs o
target_held rs None ps h = tt
target_held rs (Some v) ps h = first_held rs v.0 ps h

after_target : (rs : RedistParts) (o : Option Vcpu) (ps : List Part) → AreHeld rs (pend_at o ++ ps) → AreHeld rs ps
after_target rs None ps h = h
after_target rs (Some v) ps h = rest_held rs v.0 ps h

only_target : (rs : RedistParts) (o : Option Vcpu) → AreHeld rs (pend_at o) → IsTargetInHand rs o
only_target rs None h = tt
only_target rs (Some v) h = first_held rs v.0 [] h

both_held : (rs : RedistParts) (v w : ℕ) → AreHeld rs (pend v ∷ pend w ∷ []) → AreBothInHand rs v w
both_held rs v w h = (first_held rs v (pend w ∷ []) h, first_held rs w [] (rest_held rs v (pend w ∷ []) h))

moved_held : (p : Profile) (rs : RedistParts) (o : Option Vcpu) (to : ℕ) → AreHeld rs (moved_targets p o to) → AreTargetsInHand rs p o to
moved_held One rs o to h = tt
moved_held Two rs None to h = tt
moved_held Two rs (Some from) to h = λ other.
    both_held rs from.0 to (subst (AreHeld rs) (cond-false (eqb from.0 to) [] (pend from.0 ∷ pend to ∷ []) other) h)

pub has_append : (test : Part → Bool) (ps qs : List Part) → has_some test (ps ++ qs) ≡ (has_some test ps || has_some test qs)
has_append test [] qs = refl
has_append test (p ∷ ps) qs =
    ap (λ (b : Bool). test p || b) (has_append test ps qs) ∙ sym (or_assoc (test p) (has_some test ps) (has_some test qs))
  where
    or_assoc : (a b c : Bool) → (a || b || c) ≡ (a || (b || c))
    or_assoc true b c = refl
    or_assoc false b c = refl

pub has_below : (n v : ℕ) → has_some (is_conf v) (confs_below n) ≡ nat_lt v n
has_below zero v = sym (le-ltb v 0 (omega arith))
has_below (suc n) v =
    has_append (is_conf v) (confs_below n) (conf n ∷ []) ∙ ap (λ (b : Bool). b || (eqb n v || false)) (has_below n v) ∙ last
  where
    last : (ltb v n || (eqb n v || false)) ≡ ltb v (suc n)
    last =
        elim (cases_order v n) [
          | inl same ↦ or_right (ltb v n) (eqb n v || false) (or_left (eqb n v) false (eq-eqb n v (sym same))) ∙ sym (lt-ltb v (suc n) (omega (arith, same)))
          | inr (inl below) ↦ or_left (ltb v n) (eqb n v || false) (lt-ltb v n below) ∙ sym (lt-ltb v (suc n) (omega (arith, below)))
          | inr (inr above) ↦
              or_from (ltb v n) (eqb n v || false) (le-ltb v n (omega (arith, above)))
              (or_from (eqb n v) false (ne_eqb n v (λ (e : n ≡ v). omega (arith, e, above))) refl)
              ∙ sym (le-ltb v (suc n) (omega (arith, above)))
        ]

abbrev AreRead : RedistParts → List Part → Type 0
AreRead rs ps = (v : ℕ) → has_some (is_conf v) ps ≡ true → is_some (conf_in rs v) ≡ true

below_read : (n v : ℕ) (rs : RedistParts) → v < n → AreRead rs (confs_below n) → is_some (conf_in rs v) ≡ true
below_read n v rs lt h = h v (has_below n v ∙ lt-ltb v n lt)

-- ---- commands

module _ (s : Shape) (m : Maps) (rs : RedistParts) where
  pub movi_old : (dev : DeviceId) (ev : EventId) (icid : Icid) → AreNeededInHand s m (command.Movi dev ev icid) rs
      → IsTargetInHand rs (target_of_event m dev.0 ev.0)
  unfolding needed
  movi_old dev ev icid h = target_held rs (target_of_event m dev.0 ev.0) (pend_at (collection_of m icid.0)) h.pends

  pub movi_new : (dev : DeviceId) (ev : EventId) (icid : Icid) → AreNeededInHand s m (command.Movi dev ev icid) rs → IsTargetInHand rs (collection_of m icid.0)
  unfolding needed
  movi_new dev ev icid h = only_target rs (collection_of m icid.0) (after_target rs (target_of_event m dev.0 ev.0) (pend_at (collection_of m icid.0)) h.pends)

  pub int_target : (dev : DeviceId) (ev : EventId) → AreNeededInHand s m (command.Int dev ev) rs → IsTargetInHand rs (target_of_event m dev.0 ev.0)
  unfolding needed
  int_target dev ev h = only_target rs (target_of_event m dev.0 ev.0) h.pends

  pub clear_target : (dev : DeviceId) (ev : EventId) → AreNeededInHand s m (command.Clear dev ev) rs → IsTargetInHand rs (target_of_event m dev.0 ev.0)
  unfolding needed
  clear_target dev ev h = only_target rs (target_of_event m dev.0 ev.0) h.pends

  pub discard_target : (dev : DeviceId) (ev : EventId) → AreNeededInHand s m (command.Discard dev ev) rs → IsTargetInHand rs (target_of_event m dev.0 ev.0)
  unfolding needed
  discard_target dev ev h = only_target rs (target_of_event m dev.0 ev.0) h.pends

  pub mapc_targets : (icid : Icid) (target : ℕ) → AreNeededInHand s m (command.Mapc icid target true) rs → target < s.vcpus
      → AreTargetsInHand rs s.profile (collection_of m icid.0) target
  unfolding needed
  mapc_targets icid target h lt =
      moved_held s.profile rs (collection_of m icid.0) target
      (subst (AreHeld rs) (cond-true (nat_lt target s.vcpus) (moved_targets s.profile (collection_of m icid.0) target) [] (lt-ltb target s.vcpus lt)) h.pends)

  pub movall_targets : (from to : ℕ) → AreNeededInHand s m (command.Movall from to) rs → from < s.vcpus → to < s.vcpus → AreBothInHand rs from to
  unfolding needed
  movall_targets from to h lt lt' =
      both_held rs from to
      (subst (λ (a : Bool). AreHeld rs (cond a (pend from ∷ pend to ∷ []) [])) (ap (λ (a : Bool). a && nat_lt to s.vcpus) (lt-ltb from s.vcpus lt)
      ∙ lt-ltb to s.vcpus lt') h.pends)

  -- each configuration is
  pub mapti_each : (dev : DeviceId) (ev : EventId) (intid : Intid) (icid : Icid) → AreNeededInHand s m (command.Mapti dev ev intid icid) rs → (v : ℕ)
      → v < s.vcpus → is_some (conf_in rs v) ≡ true
  unfolding needed
  mapti_each dev ev intid icid h v lt = below_read s.vcpus v rs lt h.confs

  pub mapi_each : (dev : DeviceId) (ev : EventId) (icid : Icid) → AreNeededInHand s m (command.Mapi dev ev icid) rs → (v : ℕ) → v < s.vcpus → is_some (conf_in rs v) ≡ true
  unfolding needed
  mapi_each dev ev icid h v lt = below_read s.vcpus v rs lt h.confs

  pub inv_each : (dev : DeviceId) (ev : EventId) → AreNeededInHand s m (command.Inv dev ev) rs → (v : ℕ) → v < s.vcpus → is_some (conf_in rs v) ≡ true
  unfolding needed
  inv_each dev ev h v lt = below_read s.vcpus v rs lt h.confs

  pub invall_each : (icid : Icid) → AreNeededInHand s m (command.Invall icid) rs → (v : ℕ) → v < s.vcpus → is_some (conf_in rs v) ≡ true
  unfolding needed
  invall_each icid h v lt = below_read s.vcpus v rs lt h.confs
