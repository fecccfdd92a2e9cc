-- The parts of redistributors that a command reads or changes, as two sets.
use Rattle.std.proofs.Common.{◌≡◌, ◌↔◌, ℕ, zero, suc, Bool, true, false, not, ◌&&◌, ◌||◌, cond, eqb, nat_lt, List, [], ◌∷◌, ◌++◌, Option}
use Rattle.std.proofs.Common.{Some, None, inl, inr, refl, sym, ap, subst, ◌∙◌}
use Rattle.std.specs.Prelude.{slice_get}
use Rattle.std.specs.List.{AllByRecursion}
use Rattle.std.proofs.lemmas.Bool.{eq-eqb, eqb-true, or_left, or_right, or_cases, cond_both}
use Rattle.std.proofs.lemmas.Option.{same_Some}
use Rattle.its_command.specs.declared.command.Command.{Command}
use Rattle.its_command.specs.declared.command.Command.TheVariants as command
use Rattle.its_types.specs.Maps.{Maps, collection_of}
use Rattle.its_types.specs.declared.ids.Vcpu.{Vcpu}
use Rattle.its_types.specs.declared.machine.Part.{Part}
use Rattle.its_types.specs.declared.machine.Part.TheVariants.{Maps as MapsOf, Mem, Shard, Conf, Pend}
use Rattle.its_types.specs.declared.machine.Profile.{Profile}
use Rattle.its_types.specs.declared.machine.Profile.TheVariants.{One, Two}
use Rattle.its_types.specs.declared.machine.Shape.{Shape}
use Rattle.its_plain.specs.Plain.{Plain, maps_of}
use Rattle.its_plain.specs.Parts.{conf, pend, pend_at, target_of_event, moved_targets, confs_below, needed, IsIn}
use Rattle.cmd_exec.specs.Needs.{bare, is_conf, is_pend, has_some, needs_conf, needs_pend, reads_confs, is_either, is_moved, is_concerned, IsPartOf}
use Rattle.cmd_exec.specs.Needs.{ArePartsOfStep}
use Rattle.cmd_exec.specs.declared.needed.Needed.{Needed}
use Rattle.owned_parts.specs.RedistSets.{is_in, is_target}
use Rattle.cmd_exec.proofs.Targets.{has_append, has_below}

or_false : (b : Bool) → (b || false) ≡ b
or_false true = refl
or_false false = refl

-- ---- which part each is

abbrev pub IsConf : Part → Type 0
IsConf (Conf v) = Unit {0}
IsConf (Pend v) = ⊥
IsConf (MapsOf its) = ⊥
IsConf Mem = ⊥
IsConf (Shard its n) = ⊥

abbrev pub IsPend : Part → Type 0
IsPend (Pend v) = Unit {0}
IsPend (Conf v) = ⊥
IsPend (MapsOf its) = ⊥
IsPend Mem = ⊥
IsPend (Shard its n) = ⊥

abbrev pub AreConfs : List Part → Type 0
AreConfs ps = AllByRecursion IsConf ps

abbrev pub ArePends : List Part → Type 0
ArePends ps = AllByRecursion IsPend ps

append_all : (P : Part → Type 0) (ps qs : List Part) → AllByRecursion P ps → AllByRecursion P qs → AllByRecursion P (ps ++ qs)
append_all P [] qs h k = k
append_all P (p ∷ ps) qs h k = (h.0, append_all P ps qs h.1 k)

below_confs : (n : ℕ) → AreConfs (confs_below n)
below_confs zero = tt
below_confs (suc n) = append_all IsConf (confs_below n) (conf n ∷ []) (below_confs n) (tt, tt)

target_pends : (o : Option Vcpu) → ArePends (pend_at o)
target_pends None = tt
target_pends (Some v) = (tt, tt)

moved_pends : (p : Profile) (o : Option Vcpu) (to : ℕ) → ArePends (moved_targets p o to)
moved_pends One o to = tt
moved_pends Two None to = tt
moved_pends Two (Some from) to = cond_both (eqb from.0 to) [] (pend from.0 ∷ pend to ∷ []) ArePends (λ _. tt) (λ _. (tt, (tt, tt)))

-- all are configurations, or all are pending
abbrev pub IsOfKind : Bool → Part → Type 0
IsOfKind true p = IsConf p
IsOfKind false p = IsPend p

abbrev pub AreOfKind : Bool → List Part → Type 0
AreOfKind b ps = AllByRecursion (IsOfKind b) ps

pub needed_kind : (s : Shape) (m : Maps) (c : Command) → AreOfKind (reads_confs c) (needed (bare s m) 0 c)
unfolding needed
needed_kind s m (command.Movi dev ev icid) =
    append_all IsPend (pend_at (target_of_event m dev.0 ev.0)) (pend_at (collection_of m icid.0)) (target_pends (target_of_event m dev.0 ev.0))
    (target_pends (collection_of m icid.0))
needed_kind s m (command.Int dev ev) = target_pends (target_of_event m dev.0 ev.0)
needed_kind s m (command.Clear dev ev) = target_pends (target_of_event m dev.0 ev.0)
needed_kind s m (command.Discard dev ev) = target_pends (target_of_event m dev.0 ev.0)
needed_kind s m (command.Mapc icid target valid) =
    cond_both (valid && nat_lt target s.vcpus) (moved_targets s.profile (collection_of m icid.0) target) [] ArePends
    (λ _. moved_pends s.profile (collection_of m icid.0) target) (λ _. tt)
needed_kind s m (command.Movall from to) = cond_both (nat_lt from s.vcpus && nat_lt to s.vcpus) (pend from ∷ pend to ∷ []) [] ArePends
    (λ _. (tt, (tt, tt))) (λ _. tt)
needed_kind s m (command.Mapti dev ev intid icid) = below_confs s.vcpus
needed_kind s m (command.Mapi dev ev icid) = below_confs s.vcpus
needed_kind s m (command.Inv dev ev) = below_confs s.vcpus
needed_kind s m (command.Invall icid) = below_confs s.vcpus
needed_kind s m (command.Mapd dev bits itt valid) = tt
needed_kind s m (command.Sync target) = tt
needed_kind s m (command.Unknown opcode) = tt

no_pends : (v : ℕ) (ps : List Part) → AreConfs ps → has_some (is_pend v) ps ≡ false
no_pends v [] h = refl
no_pends v (Conf w ∷ ps) h = no_pends v ps h.1
no_pends v (Pend w ∷ ps) h = absurd h.0
no_pends v (MapsOf its ∷ ps) h = absurd h.0
no_pends v (Mem ∷ ps) h = absurd h.0
no_pends v (Shard its n ∷ ps) h = absurd h.0

no_confs : (v : ℕ) (ps : List Part) → ArePends ps → has_some (is_conf v) ps ≡ false
no_confs v [] h = refl
no_confs v (Pend w ∷ ps) h = no_confs v ps h.1
no_confs v (Conf w ∷ ps) h = absurd h.0
no_confs v (MapsOf its ∷ ps) h = absurd h.0
no_confs v (Mem ∷ ps) h = absurd h.0
no_confs v (Shard its n ∷ ps) h = absurd h.0

-- ---- the virtual processors that a command needs

has_target : (o : Option Vcpu) (v : ℕ) → is_target o v ≡ has_some (is_pend v) (pend_at o)
has_target None v = refl
has_target (Some x) v = sym (or_false (eqb x.0 v))

has_either : (from to v : ℕ) → is_either from to v ≡ has_some (is_pend v) (pend from ∷ pend to ∷ [])
has_either from to v = ap (λ (b : Bool). eqb from v || b) (sym (or_false (eqb to v)))

has_if : (b : Bool) (test : Part → Bool) (ps : List Part) → (b && has_some test ps) ≡ has_some test (cond b ps [])
has_if true test ps = refl
has_if false test ps = refl

has_unless : (b : Bool) (test : Part → Bool) (ps : List Part) → (not b && has_some test ps) ≡ has_some test (cond b [] ps)
has_unless true test ps = refl
has_unless false test ps = refl

has_moved : (p : Profile) (o : Option Vcpu) (to v : ℕ) → is_moved p o to v ≡ has_some (is_pend v) (moved_targets p o to)
has_moved One o to v = refl
has_moved Two None to v = refl
has_moved Two (Some from) to v =
    ap (λ (b : Bool). not (eqb from.0 to) && b) (has_either from.0 to v) ∙ has_unless (eqb from.0 to) (is_pend v) (pend from.0 ∷ pend to ∷ [])

pub pends_same : (s : Shape) (m : Maps) (c : Command) (v : ℕ) → is_concerned s m c v ≡ needs_pend s m c v
unfolding is_concerned needed
pends_same s m (command.Movi dev ev icid) v =
    ap (λ (b : Bool). b || is_target (collection_of m icid.0) v) (has_target (target_of_event m dev.0 ev.0) v)
    ∙ ap (λ (b : Bool). has_some (is_pend v) (pend_at (target_of_event m dev.0 ev.0)) || b) (has_target (collection_of m icid.0) v)
    ∙ sym (has_append (is_pend v) (pend_at (target_of_event m dev.0 ev.0)) (pend_at (collection_of m icid.0)))
pends_same s m (command.Int dev ev) v = has_target (target_of_event m dev.0 ev.0) v
pends_same s m (command.Clear dev ev) v = has_target (target_of_event m dev.0 ev.0) v
pends_same s m (command.Discard dev ev) v = has_target (target_of_event m dev.0 ev.0) v
pends_same s m (command.Mapc icid target valid) v =
    ap (λ (b : Bool). (valid && nat_lt target s.vcpus) && b) (has_moved s.profile (collection_of m icid.0) target v)
    ∙ has_if (valid && nat_lt target s.vcpus) (is_pend v) (moved_targets s.profile (collection_of m icid.0) target)
pends_same s m (command.Movall from to) v =
    ap (λ (b : Bool). (nat_lt from s.vcpus && nat_lt to s.vcpus) && b) (has_either from to v) ∙ has_if (nat_lt from s.vcpus && nat_lt to s.vcpus) (is_pend v)
    (pend from ∷ pend to ∷ [])
pends_same s m (command.Mapti dev ev intid icid) v = sym (no_pends v (confs_below s.vcpus) (below_confs s.vcpus))
pends_same s m (command.Mapi dev ev icid) v = sym (no_pends v (confs_below s.vcpus) (below_confs s.vcpus))
pends_same s m (command.Inv dev ev) v = sym (no_pends v (confs_below s.vcpus) (below_confs s.vcpus))
pends_same s m (command.Invall icid) v = sym (no_pends v (confs_below s.vcpus) (below_confs s.vcpus))
pends_same s m (command.Mapd dev bits itt valid) v = refl
pends_same s m (command.Sync target) v = refl
pends_same s m (command.Unknown opcode) v = refl

pub confs_same : (s : Shape) (m : Maps) (c : Command) (v : ℕ) → (reads_confs c && nat_lt v s.vcpus) ≡ needs_conf s m c v
unfolding needed
confs_same s m c v = by_kind c (needed_kind s m c)
  where
    by_kind : (x : Command) → AreOfKind (reads_confs x) (needed (bare s m) 0 x) → (reads_confs x && nat_lt v s.vcpus) ≡ needs_conf s m x v
    by_kind (command.Mapti dev ev intid icid) h = sym (has_below s.vcpus v)
    by_kind (command.Mapi dev ev icid) h = sym (has_below s.vcpus v)
    by_kind (command.Inv dev ev) h = sym (has_below s.vcpus v)
    by_kind (command.Invall icid) h = sym (has_below s.vcpus v)
    by_kind (command.Movi dev ev icid) h = sym (no_confs v (needed (bare s m) 0 (command.Movi dev ev icid)) h)
    by_kind (command.Int dev ev) h = sym (no_confs v (needed (bare s m) 0 (command.Int dev ev)) h)
    by_kind (command.Clear dev ev) h = sym (no_confs v (needed (bare s m) 0 (command.Clear dev ev)) h)
    by_kind (command.Discard dev ev) h = sym (no_confs v (needed (bare s m) 0 (command.Discard dev ev)) h)
    by_kind (command.Mapc icid target valid) h = sym (no_confs v (needed (bare s m) 0 (command.Mapc icid target valid)) h)
    by_kind (command.Movall from to) h = sym (no_confs v (needed (bare s m) 0 (command.Movall from to)) h)
    by_kind (command.Mapd dev bits itt valid) h = refl
    by_kind (command.Sync target) h = refl
    by_kind (command.Unknown opcode) h = refl

-- ---- as parts

-- no state has more to say of it than its shape and the translator's maps
pub needed_is : (u : Plain) (i : ℕ) (c : Command) → needed u i c ≡ needed (bare u.layout.shape (maps_of u i)) 0 c
unfolding needed
needed_is u i (command.Movi dev ev icid) = refl
needed_is u i (command.Int dev ev) = refl
needed_is u i (command.Clear dev ev) = refl
needed_is u i (command.Discard dev ev) = refl
needed_is u i (command.Mapc icid target valid) = refl
needed_is u i (command.Movall from to) = refl
needed_is u i (command.Mapti dev ev intid icid) = refl
needed_is u i (command.Mapi dev ev icid) = refl
needed_is u i (command.Inv dev ev) = refl
needed_is u i (command.Invall icid) = refl
needed_is u i (command.Mapd dev bits itt valid) = refl
needed_is u i (command.Sync target) = refl
needed_is u i (command.Unknown opcode) = refl

module _ (its : ℕ) (n : Needed) where
  abbrev AreIn : List Part → Type 0
  AreIn ps = ((v : ℕ) → has_some (is_conf v) ps ≡ true → is_in n.confs v ≡ true) × ((v : ℕ) → has_some (is_pend v) ps ≡ true → is_in n.pends v ≡ true)

  is_first : (b : Bool) (p q : Part) (ps : List Part) → IsOfKind b p → AreIn (p ∷ ps) → p ≡ q → IsPartOf its n q
  is_first true (Conf v) q ps h has e =
      subst (IsPartOf its n) e (has.0 v.0 (or_left (eqb v.0 v.0) (has_some (is_conf v.0) ps) (eq-eqb v.0 v.0 refl)))
  is_first true (Pend v) q ps h has e = absurd h
  is_first true (MapsOf j) q ps h has e = absurd h
  is_first true Mem q ps h has e = absurd h
  is_first true (Shard j k) q ps h has e = absurd h
  is_first false (Pend v) q ps h has e =
      subst (IsPartOf its n) e (has.1 v.0 (or_left (eqb v.0 v.0) (has_some (is_pend v.0) ps) (eq-eqb v.0 v.0 refl)))
  is_first false (Conf v) q ps h has e = absurd h
  is_first false (MapsOf j) q ps h has e = absurd h
  is_first false Mem q ps h has e = absurd h
  is_first false (Shard j k) q ps h has e = absurd h

  at_part : (b : Bool) (ps : List Part) → AreOfKind b ps → AreIn ps → (k : ℕ) (q : Part) → slice_get ps k ≡ Some q → IsPartOf its n q
  at_part b [] h has k q e = absurd cc
  at_part b (p ∷ ps) h has zero q e = is_first b p q ps h.0 has (same_Some p q e)
  at_part b (p ∷ ps) h has (suc k) q e =
      at_part b ps h.1
      (λ v there. has.0 v (or_right (is_conf v p) (has_some (is_conf v) ps) there), λ v there. has.1 v (or_right (is_pend v p) (has_some (is_pend v) ps) there))
      k q e

  is_named_conf : (v : Vcpu) (p : Part) → is_conf v.0 p ≡ true → p ≡ Conf v
  is_named_conf v (Conf w) e = ap conf (eqb-true w.0 v.0 e)
  is_named_conf v (Pend w) e = absurd cc
  is_named_conf v (MapsOf j) e = absurd cc
  is_named_conf v Mem e = absurd cc
  is_named_conf v (Shard j k) e = absurd cc

  is_named_pend : (v : Vcpu) (p : Part) → is_pend v.0 p ≡ true → p ≡ Pend v
  is_named_pend v (Pend w) e = ap pend (eqb-true w.0 v.0 e)
  is_named_pend v (Conf w) e = absurd cc
  is_named_pend v (MapsOf j) e = absurd cc
  is_named_pend v Mem e = absurd cc
  is_named_pend v (Shard j k) e = absurd cc

  found_part : (test : Part → Bool) (q : Part) → ((p : Part) → test p ≡ true → p ≡ q) → (ps : List Part) → has_some test ps ≡ true → IsIn q ps
  found_part test q named [] e = absurd cc
  found_part test q named (p ∷ ps) e =
      elim (or_cases (test p) (has_some test ps) e) [
        | inl here ↦ (0, ap some (named p here))
        | inr there ↦ let n = found_part test q named ps there in (suc n.0, n.1)
      ]
    where
      some : Part → Option Part
      some x = Some x

pub parts_same : (s : Shape) (m : Maps) (c : Command) (n : Needed) → ((v : ℕ) → is_in n.confs v ≡ needs_conf s m c v)
    → ((v : ℕ) → is_in n.pends v ≡ needs_pend s m c v) → ArePartsOfStep s m c n
parts_same s m c n confs pends = λ u its same_shape same_maps.
    let ps = needed (bare s m) 0 c in
    let is : needed u its c ≡ ps =
    needed_is u its c ∙ ap (λ (x : Shape). needed (bare x (maps_of u its)) 0 c) same_shape ∙ ap (λ (x : Maps). needed (bare s x) 0 c) same_maps in
    subst (λ (qs : List Part). (p : Part) → IsIn p (MapsOf its ∷ Mem ∷ qs) ↔ IsPartOf its n p) (sym is)
    (λ p. (λ there. is_part its (needed_kind s m c) there.0 p there.1, λ part. has_it its p part))
  where
    is_part : (its : ℕ) → AreOfKind (reads_confs c) (needed (bare s m) 0 c) → (k : ℕ) (p : Part)
        → slice_get (MapsOf its ∷ Mem ∷ needed (bare s m) 0 c) k ≡ Some p → IsPartOf its n p
    is_part its are zero p e = subst (IsPartOf its n) (same_Some (MapsOf its) p e) refl
    is_part its are (suc zero) p e = subst (IsPartOf its n) (same_Some Mem p e) tt
    is_part its are (suc (suc k)) p e =
        at_part its n (reads_confs c) (needed (bare s m) 0 c) are (λ v there. confs v ∙ there, λ v there. pends v ∙ there) k p e

    has_it : (its : ℕ) (p : Part) → IsPartOf its n p → IsIn p (MapsOf its ∷ Mem ∷ needed (bare s m) 0 c)
    has_it its (MapsOf j) e = (0, ap (λ (k : ℕ). Some (MapsOf k)) (sym e))
    has_it its Mem e = (1, refl)
    has_it its (Shard j k) e = absurd e
    has_it its (Conf v) e =
        let k = found_part its n (is_conf v.0) (Conf v) (is_named_conf its n v) (needed (bare s m) 0 c) (sym (confs v.0) ∙ e) in (suc (suc k.0), k.1)
    has_it its (Pend v) e =
        let k = found_part its n (is_pend v.0) (Pend v) (is_named_pend its n v) (needed (bare s m) 0 c) (sym (pends v.0) ∙ e) in (suc (suc k.0), k.1)
