-- What a command reads or changes of what is pending is that of virtual processors that there are.
use Rattle.std.proofs.Common.{◌≡◌, ℕ, ◌<◌, Bool, true, false, ◌&&◌, ◌||◌, eqb, nat_lt, Option, Some, None, subst, refl}
use Rattle.std.proofs.lemmas.Bool.{ltb-true, eqb-true, and_parts, both_ways}
use Rattle.its_command.specs.declared.command.Command.{Command}
use Rattle.its_command.specs.declared.command.Command.TheVariants as command
use Rattle.its_types.specs.Maps.{Maps, event_of, collection_of}
use Rattle.its_types.specs.declared.ids.Vcpu.{Vcpu}
use Rattle.its_types.specs.declared.machine.Profile.{Profile}
use Rattle.its_types.specs.declared.machine.Profile.TheVariants.{One, Two}
use Rattle.its_types.specs.declared.machine.Shape.{Shape}
use Rattle.its_types.specs.declared.translation.Event.{Event}
use Rattle.its_plain.specs.Parts.{target_of_event}
use Rattle.owned_parts.specs.RedistSets.{is_target}
use Rattle.cmd_exec.specs.Needs.{AreTargets, is_either, is_moved, is_concerned}

or_else : (a b : Bool) (P : Type 0) → (a ≡ true → P) → (b ≡ true → P) → (a || b) ≡ true → P
or_else true b P f g h = f refl
or_else false b P f g h = g h

module _ (s : Shape) (m : Maps) (targets : AreTargets s m) where
  target : (o : Option Vcpu) (v : ℕ) → ((t : Vcpu) → o ≡ Some t → t.0 < s.vcpus) → is_target o v ≡ true → v < s.vcpus
  target None v below is = absurd (both_ways false refl is)
  target (Some t) v below is = subst (λ (n : ℕ). n < s.vcpus) (eqb-true t.0 v is) (below t refl)

  of_collection : (icid v : ℕ) → is_target (collection_of m icid) v ≡ true → v < s.vcpus
  of_collection icid v is = target (collection_of m icid) v (λ t at. targets icid t at) is

  of_event : (dev ev v : ℕ) → is_target (target_of_event m dev ev) v ≡ true → v < s.vcpus
  of_event dev ev v is = by_event (event_of m dev ev) is
    where
      by_event : (o : Option Event) → is_target (elim o as (λ _. Option Vcpu) [ None ↦ None | Some event ↦ collection_of m event.icid.0 ]) v ≡ true
          → v < s.vcpus
      by_event None is = absurd (both_ways false refl is)
      by_event (Some event) is = of_collection event.icid.0 v is

  either : (from to v : ℕ) → from < s.vcpus → to < s.vcpus → is_either from to v ≡ true → v < s.vcpus
  either from to v low high is =
      or_else (eqb from v) (eqb to v) (v < s.vcpus) (λ e. subst (λ (n : ℕ). n < s.vcpus) (eqb-true from v e) low)
      (λ e. subst (λ (n : ℕ). n < s.vcpus) (eqb-true to v e) high) is

  moved : (p : Profile) (before : Option Vcpu) (to v : ℕ) → ((t : Vcpu) → before ≡ Some t → t.0 < s.vcpus) → to < s.vcpus → is_moved p before to v ≡ true
      → v < s.vcpus
  moved One before to v below high is = absurd (both_ways false refl is)
  moved Two None to v below high is = absurd (both_ways false refl is)
  moved Two (Some from) to v below high is = either from.0 to v (below from refl) high (and_parts _ _ is).1

  pub concerned_below : (c : Command) (v : ℕ) → is_concerned s m c v ≡ true → v < s.vcpus
  unfolding is_concerned
  concerned_below (command.Movi dev ev icid) v is = or_else _ _ (v < s.vcpus) (of_event dev.0 ev.0 v) (of_collection icid.0 v) is
  concerned_below (command.Int dev ev) v is = of_event dev.0 ev.0 v is
  concerned_below (command.Clear dev ev) v is = of_event dev.0 ev.0 v is
  concerned_below (command.Discard dev ev) v is = of_event dev.0 ev.0 v is
  concerned_below (command.Mapc icid to valid) v is =
      let parts = and_parts (valid && nat_lt to s.vcpus) (is_moved s.profile (collection_of m icid.0) to v) is in
      moved s.profile (collection_of m icid.0) to v (λ t at. targets icid.0 t at) (ltb-true to s.vcpus (and_parts valid (nat_lt to s.vcpus) parts.0).1) parts.1
  concerned_below (command.Movall from to) v is =
      let parts = and_parts (nat_lt from s.vcpus && nat_lt to s.vcpus) (is_either from to v) is in
      let both = and_parts (nat_lt from s.vcpus) (nat_lt to s.vcpus) parts.0 in
      either from to v (ltb-true from s.vcpus both.0) (ltb-true to s.vcpus both.1) parts.1
  concerned_below (command.Mapti dev ev intid icid) v is = absurd (both_ways false refl is)
  concerned_below (command.Mapi dev ev icid) v is = absurd (both_ways false refl is)
  concerned_below (command.Inv dev ev) v is = absurd (both_ways false refl is)
  concerned_below (command.Invall icid) v is = absurd (both_ways false refl is)
  concerned_below (command.Mapd dev bits itt valid) v is = absurd (both_ways false refl is)
  concerned_below (command.Sync to) v is = absurd (both_ways false refl is)
  concerned_below (command.Unknown opcode) v is = absurd (both_ways false refl is)

-- so are the configurations
pub confs_below : (n : ℕ) (b : Bool) (v : ℕ) → (b && nat_lt v n) ≡ true → v < n
confs_below n b v is = ltb-true v n (and_parts b (nat_lt v n) is).1
