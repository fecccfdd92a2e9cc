-- A command does the same whatever the second memory has, and leaves that as it is.
use Rattle.std.proofs.Common.{◌≡◌, ℕ, Bool, true, false, ◌&&◌, is_some, nat_lt, nat_le, eqb, if◌then◌else◌, ◌^◌, List, [], ◌∷◌, Option, Some, None}
use Rattle.std.proofs.Common.{Result, Ok, Err, refl, ap, ◌∙◌}
use Rattle.std.specs.Prelude.{ok_or}
use Rattle.gits_regs.specs.Registers.{collection_places}
use Rattle.baser_place.specs.Places.{device_place}
use Rattle.its_types.specs.Ranges.{is_device_id, is_lpi}
use Rattle.its_types.specs.Lpis.{is_pending}
use Rattle.its_types.specs.Maps.{device_of, event_of, collection_of, event_mapped, event_unmapped}
use Rattle.its_types.specs.declared.ids.Vcpu.{Vcpu}
use Rattle.its_types.specs.declared.machine.Profile.{Profile}
use Rattle.its_types.specs.declared.machine.Profile.TheVariants.{One, Two}
use Rattle.its_command.specs.declared.command.Command.{Command}
use Rattle.its_command.specs.declared.command.Command.TheVariants as command
use Rattle.its_plain.specs.Commands.{ensure, ◌>>=◌, event_at, target_at, lpi_at, cleared_at, followed, followed_in, intids_of, lpi_set, lpi_cleared, lpi_moved}
use Rattle.its_plain.specs.Commands.{lpis_moved, all_moved, ran, mapd, unmapd, mapc, mapti, movi, discard, int, clear, inv, invall, movall}
use Rattle.its_plain.specs.Commands.{with_collection}
use Rattle.its_plain.specs.Plain.{Plain, regs_of, maps_of, pending_of, is_on, with_maps}
use Rattle.its_plain.specs.declared.call.Reason.{Reason}
use Rattle.its_plain.specs.declared.call.Reason.TheVariants.{DeviceRange, SizeRange, TargetRange, CollectionRange, NoDevice, EventRange, IntidRange, LpisOff}
use Rattle.its_migrate.specs.Precopying.{untracked}

abbrev pub bare : {E : Type 0} → Result Plain E → Result Plain E
bare (Ok u) = Ok (untracked u)
bare (Err e) = Err e

-- ---- the forms that commands have

through : {A : Type 0} (r : Result A Reason) (f g : A → Result Plain Reason) → ((x : A) → g x ≡ bare (f x)) → (r >>= g) ≡ bare (r >>= f)
through (Ok x) f g h = h x
through (Err e) f g h = refl

either : (test : Bool) (x y z w : Plain) → z ≡ untracked x → w ≡ untracked y → (if test then z else w) ≡ untracked (if test then x else y)
either true x y z w p q = p
either false x y z w p q = q

either_ran : (test : Bool) (x y z w : Result Plain Reason) → z ≡ bare x → w ≡ bare y → (if test then z else w) ≡ bare (if test then x else y)
either_ran true x y z w p q = p
either_ran false x y z w p q = q

-- ---- pending LPIs

moved_bare : (u : Plain) (intid from to : ℕ) → lpi_moved intid from to (untracked u) ≡ untracked (lpi_moved intid from to u)
moved_bare u intid from to =
    either (is_pending intid (pending_of u from)) (lpi_set intid to (lpi_cleared intid from u)) u
    (lpi_set intid to (lpi_cleared intid from (untracked u))) (untracked u) refl refl

all_moved_bare : (u : Plain) (intids : List ℕ) (from to : ℕ) → lpis_moved intids from to (untracked u) ≡ untracked (lpis_moved intids from to u)
all_moved_bare u [] from to = refl
all_moved_bare u (intid ∷ intids) from to =
    ap (λ (w : Plain). lpis_moved intids from to w) (moved_bare u intid from to) ∙ all_moved_bare (lpi_moved intid from to u) intids from to

followed_bare : (u : Plain) (i icid from to : ℕ) → followed (untracked u) i icid from to ≡ untracked (followed u i icid from to)
followed_bare u i icid from to =
    let intids : List ℕ = intids_of (maps_of u i) icid in
    either (is_on u from && is_on u to) (lpis_moved intids from to u) u (lpis_moved intids from to (untracked u)) (untracked u)
    (all_moved_bare u intids from to) refl

followed_in_bare : (p : Profile) (u : Plain) (i icid : ℕ) (before : Option Vcpu) (to : ℕ)
    → followed_in p (untracked u) i icid before to ≡ untracked (followed_in p u i icid before to)
followed_in_bare One u i icid before to = refl
followed_in_bare Two u i icid None to = refl
followed_in_bare Two u i icid (Some from) to =
    either (eqb from.0 to) u (followed u i icid from.0 to) (untracked u) (followed (untracked u) i icid from.0 to) refl (followed_bare u i icid from.0 to)

whole_moved_bare : (u : Plain) (from to : ℕ) → all_moved from to (untracked u) ≡ untracked (all_moved from to u)
unfolding all_moved
whole_moved_bare u from to = either (eqb from to) _ _ _ _ refl refl

cleared_bare : (u : Plain) (intid : ℕ) (o : Option Vcpu) → cleared_at intid o (untracked u) ≡ untracked (cleared_at intid o u)
cleared_bare u intid None = refl
cleared_bare u intid (Some vcpu) = refl

-- ---- commands

mapd_bare : (u : Plain) (i dev bits itt : ℕ) → mapd (untracked u) i dev bits itt ≡ bare (mapd u i dev bits itt)
unfolding mapd
mapd_bare u i dev bits itt =
    through (ensure (is_some (device_place (regs_of u i) u.memory dev)) DeviceRange) _ _ (λ _. through (ensure (nat_le bits 16) SizeRange) _ _ (λ _. refl))

unmapd_bare : (u : Plain) (i dev : ℕ) → unmapd (untracked u) i dev ≡ bare (unmapd u i dev)
unfolding unmapd
unmapd_bare u i dev = through (ensure (is_device_id u.layout.shape.dev_bits dev) DeviceRange) _ _ (λ _. refl)

mapc_bare : (u : Plain) (i icid target : ℕ) → mapc (untracked u) i icid target ≡ bare (mapc u i icid target)
unfolding mapc
mapc_bare u i icid target =
    through (ensure (nat_lt target u.layout.shape.vcpus) TargetRange) _ _ (λ _.
    through (ensure (nat_lt icid (collection_places (regs_of u i))) CollectionRange) _ _ (λ _.
    ap (λ (w : Plain). Ok (with_collection w i icid target)) (followed_in_bare u.layout.shape.profile u i icid (collection_of (maps_of u i) icid) target)))

mapti_bare : (u : Plain) (i dev ev intid icid : ℕ) → mapti (untracked u) i dev ev intid icid ≡ bare (mapti u i dev ev intid icid)
unfolding mapti
mapti_bare u i dev ev intid icid =
    through (ok_or (device_of (maps_of u i) dev) NoDevice) _ _ (λ device.
    through (ensure (nat_lt ev (2 ^ device.bits)) EventRange) _ _ (λ _.
    through (ensure (is_lpi u.layout.shape.lpi_bits intid) IntidRange) _ _ (λ _.
    through (ensure (nat_lt icid (collection_places (regs_of u i))) CollectionRange) _ _ (λ _.
    ap (λ (w : Plain). Ok w) (either (is_some (event_of (maps_of u i) dev ev)) _ _ _ _ refl refl)))))

movi_bare : (u : Plain) (i dev ev icid : ℕ) → movi (untracked u) i dev ev icid ≡ bare (movi u i dev ev icid)
unfolding movi
movi_bare u i dev ev icid =
    through (event_at (maps_of u i) dev ev) _ _ (λ event.
    through (target_at (maps_of u i) event.icid.0) _ _ (λ from.
    through (target_at (maps_of u i) icid) _ _ (λ to.
    through (ensure (is_on u from.0 && is_on u to.0) LpisOff) _ _ (λ _.
    let m = event_mapped (maps_of u i) dev ev (record event { icid = record { 0 = icid } }) in
    ap (λ (w : Plain). Ok w) (moved_bare (with_maps u i m) event.intid.0 from.0 to.0)))))

int_bare : (u : Plain) (i dev ev : ℕ) → int (untracked u) i dev ev ≡ bare (int u i dev ev)
unfolding int lpi_at
int_bare u i dev ev = through (lpi_at u i dev ev) _ _ (λ _. refl)

clear_bare : (u : Plain) (i dev ev : ℕ) → clear (untracked u) i dev ev ≡ bare (clear u i dev ev)
unfolding clear lpi_at
clear_bare u i dev ev = through (lpi_at u i dev ev) _ _ (λ _. refl)

discard_bare : (u : Plain) (i dev ev : ℕ) → discard (untracked u) i dev ev ≡ bare (discard u i dev ev)
unfolding discard
discard_bare u i dev ev = through (event_at (maps_of u i) dev ev) _ _ (λ event.
    ap (λ (w : Plain). Ok w) (cleared_bare (with_maps u i (event_unmapped (maps_of u i) dev ev)) event.intid.0 (collection_of (maps_of u i) event.icid.0)))

inv_bare : (u : Plain) (i dev ev : ℕ) → inv (untracked u) i dev ev ≡ bare (inv u i dev ev)
unfolding inv
inv_bare u i dev ev = through (event_at (maps_of u i) dev ev) _ _ (λ _. refl)

invall_bare : (u : Plain) (i icid : ℕ) → invall (untracked u) i icid ≡ bare (invall u i icid)
unfolding invall
invall_bare u i icid = through (target_at (maps_of u i) icid) _ _ (λ _. refl)

movall_bare : (u : Plain) (from to : ℕ) → movall (untracked u) from to ≡ bare (movall u from to)
unfolding movall
movall_bare u from to =
    through (ensure (nat_lt from u.layout.shape.vcpus && nat_lt to u.layout.shape.vcpus) TargetRange) _ _ (λ _.
    through (ensure (is_on u from && is_on u to) LpisOff) _ _ (λ _. ap (λ (w : Plain). Ok w) (whole_moved_bare u from to)))

pub ran_bare : (u : Plain) (i : ℕ) (c : Command) → ran (untracked u) i c ≡ bare (ran u i c)
unfolding ran
ran_bare u i (command.Movi dev ev icid) = movi_bare u i dev.0 ev.0 icid.0
ran_bare u i (command.Int dev ev) = int_bare u i dev.0 ev.0
ran_bare u i (command.Clear dev ev) = clear_bare u i dev.0 ev.0
ran_bare u i (command.Sync target) = refl
ran_bare u i (command.Mapd dev bits itt valid) = either_ran valid _ _ _ _ (mapd_bare u i dev.0 bits itt) (unmapd_bare u i dev.0)
ran_bare u i (command.Mapc icid target valid) = either_ran valid _ _ _ _ (mapc_bare u i icid.0 target) refl
ran_bare u i (command.Mapti dev ev intid icid) = mapti_bare u i dev.0 ev.0 intid.0 icid.0
ran_bare u i (command.Mapi dev ev icid) = mapti_bare u i dev.0 ev.0 ev.0 icid.0
ran_bare u i (command.Inv dev ev) = inv_bare u i dev.0 ev.0
ran_bare u i (command.Invall icid) = invall_bare u i icid.0
ran_bare u i (command.Movall from to) = movall_bare u from to
ran_bare u i (command.Discard dev ev) = discard_bare u i dev.0 ev.0
ran_bare u i (command.Unknown opcode) = refl
