-- What each command keeps.
use Rattle.std.proofs.Common.{◌≡◌, ℕ, ◌^◌, Bool, true, false, ◌&&◌, is_some, nat_lt, nat_le, eqb, List, [], ◌∷◌, Option, Some, None, Result, Ok, Err, IfOk}
use Rattle.std.proofs.Common.{refl, sym, subst}
use Rattle.std.specs.Prelude.{ok_or, slice_index_or}
use Rattle.std.proofs.lemmas.Bool.{and_parts, cond_both, ltb-true, leb-true}
use Rattle.gits_regs.specs.Registers.{Registers, is_valid, collection_places}
use Rattle.baser_place.specs.Places.{device_place}
use Rattle.its_types.specs.Ranges.{is_device_id, is_lpi}
use Rattle.its_types.specs.Maps.{Maps, device_of, event_of, collection_of, device_mapped, device_unmapped, event_mapped, event_unmapped, collection_mapped}
use Rattle.its_types.specs.Maps.{collection_unmapped}
use Rattle.its_types.specs.declared.ids.Intid.{Intid}
use Rattle.its_types.specs.declared.ids.Vcpu.{Vcpu}
use Rattle.its_types.specs.declared.machine.Profile.{Profile}
use Rattle.its_types.specs.declared.machine.Profile.TheVariants.{One, Two}
use Rattle.its_types.specs.declared.translation.Device.{Device}
use Rattle.its_types.specs.declared.translation.Event.{Event}
use Rattle.its_command.specs.declared.command.Command.TheVariants as command
use Rattle.its_plain.specs.Plain.{Plain, Translator, no_translator, regs_of, maps_of, is_on, with_maps}
use Rattle.its_plain.specs.declared.layout.Layout.{Layout}
use Rattle.its_plain.specs.Sound.{IsSound, IsCollection}
use Rattle.its_plain.specs.Commands.{ensure, ◌>>=◌, event_at, lpi_at, cleared_at, followed, followed_in, intids_of, lpis_moved, reread, ran, mapd, unmapd}
use Rattle.its_plain.specs.Commands.{mapc, mapti, movi, discard, int, clear, inv, invall, movall}
use Rattle.its_plain.specs.declared.call.Reason.{Reason}
use Rattle.its_plain.specs.declared.call.Reason.TheVariants.{DeviceRange, SizeRange, TargetRange, CollectionRange, NoDevice, EventRange, IntidRange, NoEvent}
use Rattle.its_plain.specs.declared.call.Reason.TheVariants.{NoCollection, LpisOff}
use Rattle.plain_soundness.specs.Laws.{MapdKeepsSound, UnmapdKeepsSound, MapcKeepsSound, UnmapcKeepsSound, MaptiKeepsSound, MoviKeepsSound, DiscardKeepsSound}
use Rattle.plain_soundness.specs.Laws.{IntKeepsSound, ClearKeepsSound, InvKeepsSound, InvallKeepsSound, MovallKeepsSound, CommandsKeepSound}
use Rattle.plain_soundness.proofs.Mapped.{AreMaps, device_added, device_removed, event_added, event_removed, collection_added, collection_removed}
use Rattle.plain_soundness.proofs.States.{IsLpi, translator_sound, enabled_within, are_maps, maps_replaced}
use Rattle.plain_soundness.proofs.Pending.{set_sound, cleared_sound, moved_sound, all_moved_sound, IsFollowed, followed_itself, all_followed}
use Rattle.plain_soundness.proofs.Places.{has_place, small_icid}
use Rattle.plain_soundness.proofs.Reread.{reread_sound}

-- ---- a command's steps

-- behind a test that holds
passed : {B : Type 0} (P : B → Type 0) (test : Bool) (reason : Reason) (f : Unit {0} → Result B Reason) → (test ≡ true → IfOk (f tt) P)
    → IfOk (ensure test reason >>= f) P
passed P true reason f h = h refl
passed P false reason f h = tt

-- with a value that was found
found : {A B : Type 0} (P : B → Type 0) (o : Option A) (reason : Reason) (f : A → Result B Reason) → ((x : A) → o ≡ Some x → IfOk (f x) P)
    → IfOk (ok_or o reason >>= f) P
found P None reason f h = tt
found P (Some x) reason f h = h x refl

then_ok : {A B : Type 0} (Q : A → Type 0) (P : B → Type 0) (r : Result A Reason) (f : A → Result B Reason) → IfOk r Q → ((x : A) → Q x → IfOk (f x) P)
    → IfOk (r >>= f) P
then_ok Q P (Ok x) f q h = h x q
then_ok Q P (Err e) f q h = tt

is_found : {A : Type 0} (o : Option A) (reason : Reason) → IfOk (ok_or o reason) (λ x. o ≡ Some x)
is_found None reason = tt
is_found (Some x) reason = refl

event_found : (m : Maps) (dev ev : ℕ) → IfOk (event_at m dev ev) (λ event. event_of m dev ev ≡ Some event)
unfolding event_at
event_found m dev ev =
    let P : Event → Type 0 = λ event. event_of m dev ev ≡ Some event in
    found P (device_of m dev) NoDevice _ (λ device _. passed P (nat_lt ev (2 ^ device.bits)) EventRange _ (λ _. is_found (event_of m dev ev) NoEvent))

-- what follows where an event is found
with_found : {B : Type 0} (P : B → Type 0) (m : Maps) (dev ev : ℕ) (f : Event → Result B Reason)
    → ((event : Event) → event_of m dev ev ≡ Some event → IfOk (f event) P) → IfOk (event_at m dev ev >>= f) P
with_found P m dev ev f h = then_ok (λ event. event_of m dev ev ≡ Some event) P (event_at m dev ev) f (event_found m dev ev) h

-- ---- devices

pub mapd_keeps : MapdKeepsSound
unfolding mapd
mapd_keeps u i dev bits itt some whole low h =
    let device : Device = record { itt = record { 0 = itt }; bits = bits } in
    passed IsSound (is_some (device_place (regs_of u i) u.memory dev)) DeviceRange _ (λ placed.
    passed IsSound (nat_le bits 16) SizeRange _ (λ small.
    let place = has_place (regs_of u i) u.memory dev placed in
    maps_replaced u i (device_mapped (maps_of u i) dev device) h
    (device_added u.layout.shape (regs_of u i) (maps_of u i) dev device (record {
      table = place.table;
      in_range = place.in_range;
      in_table = place.in_table;
      least_bits = some;
      most_bits = leb-true bits 16 small;
      itt_whole = whole;
      itt_low = low;
    }) (are_maps u i h))))

pub unmapd_keeps : UnmapdKeepsSound
unfolding unmapd
unmapd_keeps u i dev h =
    passed IsSound (is_device_id u.layout.shape.dev_bits dev) DeviceRange _ (λ _.
    maps_replaced u i (device_unmapped (maps_of u i) dev) h (device_removed u.layout.shape (regs_of u i) (maps_of u i) dev (are_maps u i h)))

-- ---- collections

followed_sound : (u : Plain) (i icid from to : ℕ) → IsSound u → IsFollowed u (followed u i icid from to)
followed_sound u i icid from to h =
    cond_both (is_on u from && is_on u to) (lpis_moved (intids_of (maps_of u i) icid) from to u) u (IsFollowed u)
    (λ on. all_followed u u (intids_of (maps_of u i) icid) from to (followed_itself u h) (and_parts (is_on u from) (is_on u to) on).1)
    (λ _. followed_itself u h)

followed_in_sound : (p : Profile) (u : Plain) (i icid : ℕ) (before : Option Vcpu) (to : ℕ) → IsSound u → IsFollowed u (followed_in p u i icid before to)
followed_in_sound One u i icid before to h = followed_itself u h
followed_in_sound Two u i icid None to h = followed_itself u h
followed_in_sound Two u i icid (Some from) to h =
    cond_both (eqb from.0 to) u (followed u i icid from.0 to) (IsFollowed u) (λ _. followed_itself u h) (λ _. followed_sound u i icid from.0 to h)

-- an enabled translator has a collection table
has_table : (u : Plain) (i : ℕ) → (regs_of u i).enabled ≡ true → IsSound u → is_valid (regs_of u i).baser1 ≡ true
has_table u i on h =
    let r : Registers = regs_of u i in
    (and_parts (is_valid r.cbaser && is_valid r.baser0) (is_valid r.baser1) ((translator_sound u i h (enabled_within u i on)).regs.enabled on)).1

-- a collection fits in any state with the same translators
collection_fits : (u v : Plain) (i icid : ℕ) (vcpu : Vcpu) → IsFollowed u v → IsCollection u.layout.shape (regs_of u i) icid vcpu
    → IsCollection v.layout.shape (regs_of v i) icid vcpu
collection_fits u v i icid vcpu same fits =
    subst (λ (ts : List Translator). IsCollection v.layout.shape (slice_index_or ts i no_translator).regs icid vcpu) (sym same.translators)
    (subst (λ (l : Layout). IsCollection l.shape (regs_of u i) icid vcpu) (sym same.layout) fits)

pub mapc_keeps : MapcKeepsSound
unfolding mapc
mapc_keeps u i icid target on h =
    let vcpu : Vcpu = record { 0 = target } in
    passed IsSound (nat_lt target u.layout.shape.vcpus) TargetRange _ (λ there.
    passed IsSound (nat_lt icid (collection_places (regs_of u i))) CollectionRange _ (λ placed.
    let v : Plain = followed_in u.layout.shape.profile u i icid (collection_of (maps_of u i) icid) target in
    let same : IsFollowed u v = followed_in_sound u.layout.shape.profile u i icid (collection_of (maps_of u i) icid) target h in
    let fits : IsCollection u.layout.shape (regs_of u i) icid vcpu = record {
      table = has_table u i on h;
      in_table = ltb-true icid (collection_places (regs_of u i)) placed;
      target = ltb-true target u.layout.shape.vcpus there;
    } in
    maps_replaced v i (collection_mapped (maps_of v i) icid vcpu) same.sound
    (collection_added v.layout.shape (regs_of v i) (maps_of v i) icid vcpu (collection_fits u v i icid vcpu same fits) (are_maps v i same.sound))))

pub unmapc_keeps : UnmapcKeepsSound
unmapc_keeps u i icid h = maps_replaced u i (collection_unmapped (maps_of u i) icid) h (collection_removed u.layout.shape (regs_of u i) (maps_of u i) icid
    (are_maps u i h))

-- ---- events

pub mapti_keeps : MaptiKeepsSound
unfolding mapti
mapti_keeps u i dev ev intid icid h =
    let m : Maps = maps_of u i in
    let event : Event = record { intid = record { 0 = intid }; icid = record { 0 = icid } } in
    let mapped : Plain = with_maps u i (event_mapped m dev ev event) in
    found IsSound (device_of m dev) NoDevice _ (λ device is.
    passed IsSound (nat_lt ev (2 ^ device.bits)) EventRange _ (λ in_bits.
    passed IsSound (is_lpi u.layout.shape.lpi_bits intid) IntidRange _ (λ lpi.
    passed IsSound (nat_lt icid (collection_places (regs_of u i))) CollectionRange _ (λ placed.
    cond_both (is_some (event_of m dev ev)) u (reread (intid ∷ []) mapped) IsSound (λ _. h) (λ _.
    reread_sound mapped (intid ∷ []) (maps_replaced u i (event_mapped m dev ev event) h
    (event_added u.layout.shape (regs_of u i) m dev ev event (record {
      device = device;
      device_is = is;
      in_bits = ltb-true ev (2 ^ device.bits) in_bits;
      lpi = lpi;
      icid = small_icid (regs_of u i) icid (ltb-true icid (collection_places (regs_of u i)) placed);
    }) (are_maps u i h))))))))

pub movi_keeps : MoviKeepsSound
unfolding movi
movi_keeps u i dev ev icid h =
    let m : Maps = maps_of u i in
    let maps : AreMaps u.layout.shape (regs_of u i) m = are_maps u i h in
    with_found IsSound m dev ev _ (λ event is.
    found IsSound (collection_of m event.icid.0) NoCollection _ (λ from _.
    found IsSound (collection_of m icid) NoCollection _ (λ to mapped.
    passed IsSound (is_on u from.0 && is_on u to.0) LpisOff _ (λ on.
    let moved : Event = record event { icid = record { 0 = icid } } in
    let old = maps.events dev ev event is in
    moved_sound (with_maps u i (event_mapped m dev ev moved)) event.intid.0 from.0 to.0
    (maps_replaced u i (event_mapped m dev ev moved) h
    (event_added u.layout.shape (regs_of u i) m dev ev moved (record {
      device = old.device;
      device_is = old.device_is;
      in_bits = old.in_bits;
      lpi = old.lpi;
      icid = small_icid (regs_of u i) icid (maps.collections icid to mapped).in_table;
    }) maps))
    (and_parts (is_on u from.0) (is_on u to.0) on).1))))

cleared_at_sound : (u : Plain) (intid : ℕ) (at : Option Vcpu) → IsSound u → IsSound (cleared_at intid at u)
cleared_at_sound u intid None h = h
cleared_at_sound u intid (Some vcpu) h = cleared_sound u intid vcpu.0 h

pub discard_keeps : DiscardKeepsSound
unfolding discard
discard_keeps u i dev ev h =
    let m : Maps = maps_of u i in
    with_found IsSound m dev ev _ (λ event _.
    cleared_at_sound (with_maps u i (event_unmapped m dev ev)) event.intid.0 (collection_of m event.icid.0)
    (maps_replaced u i (event_unmapped m dev ev) h (event_removed u.layout.shape (regs_of u i) m dev ev (are_maps u i h))))

-- ---- pending LPIs

-- an event's LPI is one of the machine's, and the LPIs of its target are on
lpi_found : (u : Plain) (i dev ev : ℕ) → IsSound u → IfOk (lpi_at u i dev ev) (λ lpi. IsLpi u lpi.0.0 × (is_on u lpi.1.0 ≡ true))
unfolding lpi_at
lpi_found u i dev ev h =
    let m : Maps = maps_of u i in
    let P : Intid × Vcpu → Type 0 = λ lpi. IsLpi u lpi.0.0 × (is_on u lpi.1.0 ≡ true) in
    with_found P m dev ev _ (λ event is.
    found P (collection_of m event.icid.0) NoCollection _ (λ vcpu _.
    passed P (is_on u vcpu.0) LpisOff _ (λ on. (((are_maps u i h).events dev ev event is).lpi, on))))

pub int_keeps : IntKeepsSound
unfolding int
int_keeps u i dev ev h =
    then_ok (λ lpi. IsLpi u lpi.0.0 × (is_on u lpi.1.0 ≡ true)) IsSound (lpi_at u i dev ev) _ (lpi_found u i dev ev h)
    (λ lpi is. set_sound u lpi.0.0 lpi.1.0 h is.0 is.1)

pub clear_keeps : ClearKeepsSound
unfolding clear
clear_keeps u i dev ev h =
    then_ok (λ lpi. IsLpi u lpi.0.0 × (is_on u lpi.1.0 ≡ true)) IsSound (lpi_at u i dev ev) _ (lpi_found u i dev ev h)
    (λ lpi _. cleared_sound u lpi.0.0 lpi.1.0 h)

pub movall_keeps : MovallKeepsSound
unfolding movall
movall_keeps u from to h =
    passed IsSound (nat_lt from u.layout.shape.vcpus && nat_lt to u.layout.shape.vcpus) TargetRange _ (λ _.
    passed IsSound (is_on u from && is_on u to) LpisOff _ (λ on. all_moved_sound u from to h (and_parts (is_on u from) (is_on u to) on).1))

-- ---- configurations

pub inv_keeps : InvKeepsSound
unfolding inv
inv_keeps u i dev ev h = with_found IsSound (maps_of u i) dev ev _ (λ event _. reread_sound u (event.intid.0 ∷ []) h)

pub invall_keeps : InvallKeepsSound
unfolding invall
invall_keeps u i icid h = found IsSound (collection_of (maps_of u i) icid) NoCollection _ (λ _ _. reread_sound u (intids_of (maps_of u i) icid) h)

-- ---- all commands

pub commands_keep : CommandsKeepSound
unfolding ran
commands_keep u i (command.Movi dev ev icid) fits on h = movi_keeps u i dev.0 ev.0 icid.0 h
commands_keep u i (command.Int dev ev) fits on h = int_keeps u i dev.0 ev.0 h
commands_keep u i (command.Clear dev ev) fits on h = clear_keeps u i dev.0 ev.0 h
commands_keep u i (command.Sync target) fits on h = h
commands_keep u i (command.Mapd dev bits itt true) fits on h = mapd_keeps u i dev.0 bits itt fits.1.0 fits.2.0 fits.2.1 h
commands_keep u i (command.Mapd dev bits itt false) fits on h = unmapd_keeps u i dev.0 h
commands_keep u i (command.Mapc icid target true) fits on h = mapc_keeps u i icid.0 target on h
commands_keep u i (command.Mapc icid target false) fits on h = unmapc_keeps u i icid.0 h
commands_keep u i (command.Mapti dev ev intid icid) fits on h = mapti_keeps u i dev.0 ev.0 intid.0 icid.0 h
commands_keep u i (command.Mapi dev ev icid) fits on h = mapti_keeps u i dev.0 ev.0 ev.0 icid.0 h
commands_keep u i (command.Inv dev ev) fits on h = inv_keeps u i dev.0 ev.0 h
commands_keep u i (command.Invall icid) fits on h = invall_keeps u i icid.0 h
commands_keep u i (command.Movall from to) fits on h = movall_keeps u from to h
commands_keep u i (command.Discard dev ev) fits on h = discard_keeps u i dev.0 ev.0 h
commands_keep u i (command.Unknown opcode) fits on h = tt
