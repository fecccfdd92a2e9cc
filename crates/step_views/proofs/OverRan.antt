-- What a command does over another memory that has the bytes which it reads.
use Rattle.std.proofs.Common.{◌≡◌, ℕ, ◌^◌, Bool, true, false, cond, ◌&&◌, ◌==◌, nat_lt, nat_le, List, [], ◌∷◌, map, Option, Some, None, is_some}
use Rattle.std.proofs.Common.{Result, Ok, Err, refl}
use Rattle.std.proofs.Common.{sym, ap, subst, ◌∙◌}
use Rattle.std.specs.Prelude.{not}
use Rattle.std.specs.List.{AllByRecursion}
use Rattle.std.specs.Option.{ok_or}
use Rattle.dirty_log.specs.declared.tracked.Tracked.{Tracked}
use Rattle.guest_windows.specs.Windows.{Window, extent, share_no_byte}
use Rattle.guest_windows.proofs.Bytes.{windows_apart}
use Rattle.gits_regs.specs.Registers.{collection_places}
use Rattle.baser_place.specs.Places.{device_place}
use Rattle.its_command.specs.declared.command.Command.{Command}
use Rattle.its_command.specs.declared.command.Command.TheVariants as command
use Rattle.its_types.specs.Ranges.{is_device_id, is_lpi}
use Rattle.its_types.specs.Lpis.{is_pending, with_lpis}
use Rattle.its_types.specs.Maps.{device_of, event_of, collection_of, device_mapped, event_mapped, event_unmapped}
use Rattle.its_types.specs.declared.ids.Vcpu.{Vcpu}
use Rattle.its_types.specs.declared.machine.Profile.{Profile}
use Rattle.its_types.specs.declared.machine.Profile.TheVariants.{One, Two}
use Rattle.its_types.specs.declared.translation.Device.{Device}
use Rattle.its_types.specs.declared.translation.Event.{Event}
use Rattle.its_plain.specs.Plain.{Plain, Redistributor, regs_of, maps_of, pending_of, is_on, with_maps, with_pending}
use Rattle.its_plain.specs.Commands.{◌>>=◌, ensure, lpi_set, lpi_cleared, lpi_moved, lpis_moved, all_moved, all_reread_at, reread, event_at, target_at}
use Rattle.its_plain.specs.Commands.{intids_of, mapd, unmapd, followed, followed_in, mapc, mapti, movi, lpi_at, int, clear, cleared_at, discard, inv}
use Rattle.its_plain.specs.Commands.{invall, movall, with_collection, ran}
use Rattle.its_plain.specs.Sound.{IsSound}
use Rattle.its_plain.specs.declared.call.Reason.{Reason}
use Rattle.its_plain.specs.declared.call.Reason.TheVariants.{DeviceRange, SizeRange, TargetRange, CollectionRange, NoDevice, EventRange, IntidRange, LpisOff}
use Rattle.cmd_exec.specs.Room.{adds_event}
use Rattle.plain_footprint.proofs.Chains.{ensure_is, ok_or_is, event_at_is, target_at_is}
use Rattle.step_views.specs.Laws.{HasSameBytes, over}
use Rattle.step_views.specs.Reads.{level1_reads, byte_reads, table_reads, event_reads, new_reads, command_reads}
use Rattle.step_views.proofs.Rereads.{bytes_same, tables_same}
use Rattle.step_views.proofs.MappedLpis.{collection_lpis}
use Rattle.step_views.proofs.PlacesOver.{place_same}

module _ (memory : List Window) (track : Option Tracked) where
  -- the same outcome, over the other memory
  abbrev pub lifted : Result Plain Reason → Result Plain Reason
  lifted (Ok u) = Ok (over memory track u)
  lifted (Err r) = Err r

  lift_from : {A : Type 0} (x : Result A Reason) (f g : A → Result Plain Reason) → ((a : A) → x ≡ Ok a → f a ≡ lifted (g a)) → (x >>= f) ≡ lifted (x >>= g)
  lift_from (Ok a) f g h = h a refl
  lift_from (Err r) f g h = refl

  lift_if : (b : Bool) (u w : Plain) → cond b (over memory track u) (over memory track w) ≡ over memory track (cond b u w)
  lift_if true u w = refl
  lift_if false u w = refl

  -- ---- pending LPIs

  moved_over : (u : Plain) (x from to : ℕ) → lpi_moved x from to (over memory track u) ≡ over memory track (lpi_moved x from to u)
  moved_over u x from to = lift_if (is_pending x (pending_of u from)) (lpi_set x to (lpi_cleared x from u)) u

  lpis_over : (xs : List ℕ) (u : Plain) (from to : ℕ) → lpis_moved xs from to (over memory track u) ≡ over memory track (lpis_moved xs from to u)
  lpis_over [] u from to = refl
  lpis_over (x ∷ xs) u from to = ap (lpis_moved xs from to) (moved_over u x from to) ∙ lpis_over xs (lpi_moved x from to u) from to

  all_over : (u : Plain) (from to : ℕ) → all_moved from to (over memory track u) ≡ over memory track (all_moved from to u)
  unfolding all_moved
  all_over u from to = lift_if (from == to) u (with_pending (with_pending u from []) to (with_lpis (pending_of u from) (pending_of u to)))

  followed_over : (u : Plain) (i icid from to : ℕ) → followed (over memory track u) i icid from to ≡ over memory track (followed u i icid from to)
  followed_over u i icid from to =
      ap (λ (w : Plain). cond (is_on u from && is_on u to) w (over memory track u)) (lpis_over (intids_of (maps_of u i) icid) u from to)
      ∙ lift_if (is_on u from && is_on u to) (lpis_moved (intids_of (maps_of u i) icid) from to u) u

  followed_in_over : (profile : Profile) (u : Plain) (i icid : ℕ) (before : Option Vcpu) (to : ℕ)
      → followed_in profile (over memory track u) i icid before to ≡ over memory track (followed_in profile u i icid before to)
  followed_in_over One u i icid before to = refl
  followed_in_over Two u i icid None to = refl
  followed_in_over Two u i icid (Some from) to =
      ap (λ (w : Plain). cond (from.0 == to) (over memory track u) w) (followed_over u i icid from.0 to)
      ∙ lift_if (from.0 == to) u (followed u i icid from.0 to)

  cleared_over : (u : Plain) (intid : ℕ) (o : Option Vcpu) → cleared_at intid o (over memory track u) ≡ over memory track (cleared_at intid o u)
  cleared_over u intid None = refl
  cleared_over u intid (Some v) = refl

  -- ---- commands that read none of it

  module _ (u : Plain) (i : ℕ) where
    unmapd_over : (dev : ℕ) → unmapd (over memory track u) i dev ≡ lifted (unmapd u i dev)
    unfolding unmapd
    unmapd_over dev = lift_from (ensure (is_device_id u.layout.shape.dev_bits dev) DeviceRange) _ _ (λ _ _. refl)

    mapc_over : (icid target : ℕ) → mapc (over memory track u) i icid target ≡ lifted (mapc u i icid target)
    unfolding mapc
    mapc_over icid target =
        lift_from (ensure (nat_lt target u.layout.shape.vcpus) TargetRange) _ _ (λ _ _.
        lift_from (ensure (nat_lt icid (collection_places (regs_of u i))) CollectionRange) _ _ (λ _ _.
        ap (λ (w : Plain). Ok (with_collection w i icid target))
        (followed_in_over u.layout.shape.profile u i icid (collection_of (maps_of u i) icid) target)))

    movi_over : (dev ev icid : ℕ) → movi (over memory track u) i dev ev icid ≡ lifted (movi u i dev ev icid)
    unfolding movi
    movi_over dev ev icid =
        lift_from (event_at (maps_of u i) dev ev) _ _ (λ event _.
        lift_from (target_at (maps_of u i) event.icid.0) _ _ (λ from _.
        lift_from (target_at (maps_of u i) icid) _ _ (λ to _.
        lift_from (ensure (is_on u from.0 && is_on u to.0) LpisOff) _ _ (λ _ _.
        ap (λ (w : Plain). Ok w)
        (moved_over (with_maps u i (event_mapped (maps_of u i) dev ev (record event { icid = record { 0 = icid } }))) event.intid.0 from.0 to.0)))))

    int_over : (dev ev : ℕ) → int (over memory track u) i dev ev ≡ lifted (int u i dev ev)
    unfolding int lpi_at
    int_over dev ev = lift_from (lpi_at u i dev ev) _ _ (λ _ _. refl)

    clear_over : (dev ev : ℕ) → clear (over memory track u) i dev ev ≡ lifted (clear u i dev ev)
    unfolding clear lpi_at
    clear_over dev ev = lift_from (lpi_at u i dev ev) _ _ (λ _ _. refl)

    discard_over : (dev ev : ℕ) → discard (over memory track u) i dev ev ≡ lifted (discard u i dev ev)
    unfolding discard
    discard_over dev ev =
        lift_from (event_at (maps_of u i) dev ev) _ _ (λ event _.
        ap (λ (w : Plain). Ok w)
        (cleared_over (with_maps u i (event_unmapped (maps_of u i) dev ev)) event.intid.0 (collection_of (maps_of u i) event.icid.0)))

    movall_over : (from to : ℕ) → movall (over memory track u) from to ≡ lifted (movall u from to)
    unfolding movall
    movall_over from to =
        lift_from (ensure (nat_lt from u.layout.shape.vcpus && nat_lt to u.layout.shape.vcpus) TargetRange) _ _ (λ _ _.
        lift_from (ensure (is_on u from && is_on u to) LpisOff) _ _ (λ _ _. ap (λ (w : Plain). Ok w) (all_over u from to)))

    -- ---- those that read

    -- the same windows
    module _ (windows : map extent memory ≡ map extent u.memory) where
      mapd_over : (dev bits itt : ℕ) → AllByRecursion (HasSameBytes u.memory memory) (level1_reads (regs_of u i) dev)
          → mapd (over memory track u) i dev bits itt ≡ lifted (mapd u i dev bits itt)
      unfolding mapd
      mapd_over dev bits itt h =
          let place : device_place (regs_of u i) memory dev ≡ device_place (regs_of u i) u.memory dev =
          place_same (regs_of u i) u.memory memory dev windows h in
          ap (λ (o : Option ℕ). ensure (is_some o) DeviceRange >>= (λ _. ensure (nat_le bits 16) SizeRange >>= (λ _.
          Ok (with_maps (over memory track u) i (device_mapped (maps_of u i) dev (record { itt = record { 0 = itt }; bits = bits })))))) place
          ∙ lift_from (ensure (is_some (device_place (regs_of u i) u.memory dev)) DeviceRange) _ _ (λ _ _.
          lift_from (ensure (nat_le bits 16) SizeRange) _ _ (λ _ _. refl))

    reread_over : (intids : List ℕ) (w : Plain) → w.memory ≡ u.memory
        → map (all_reread_at memory intids) w.redistributors ≡ map (all_reread_at u.memory intids) w.redistributors
        → reread intids (over memory track w) ≡ over memory track (reread intids w)
    reread_over intids w there same =
        ap (λ (rs : List Redistributor). record w { memory = memory; track = track; redistributors = rs })
        (same ∙ ap (λ (m : List Window). map (all_reread_at m intids) w.redistributors) (sym there))

    -- a new event's LPI is read again
    event_over : (dev ev : ℕ) (event : Event) (is : Bool)
        → (is ≡ false → AllByRecursion (HasSameBytes u.memory memory) (byte_reads event.intid.0 u.redistributors))
        → cond is (over memory track u) (reread (event.intid.0 ∷ []) (with_maps (over memory track u) i (event_mapped (maps_of u i) dev ev event)))
        ≡ over memory track (cond is u (reread (event.intid.0 ∷ []) (with_maps u i (event_mapped (maps_of u i) dev ev event))))
    event_over dev ev event true h = refl
    event_over dev ev event false h =
        reread_over (event.intid.0 ∷ []) (with_maps u i (event_mapped (maps_of u i) dev ev event)) refl
        (bytes_same u.memory memory event.intid.0 u.redistributors (h refl))

    -- it is among what the command reads
    new_there : (dev ev intid : ℕ) (device : Device)
        → AllByRecursion (HasSameBytes u.memory memory) (new_reads u.layout.shape (maps_of u i) u.redistributors dev ev intid)
        → device_of (maps_of u i) dev ≡ Some device → is_lpi u.layout.shape.lpi_bits intid ≡ true → is_some (event_of (maps_of u i) dev ev) ≡ false
        → AllByRecursion (HasSameBytes u.memory memory) (byte_reads intid u.redistributors)
    new_there dev ev intid device h mapped lpi new =
        let adds : (is_lpi u.layout.shape.lpi_bits intid && adds_event (maps_of u i) dev ev) ≡ true =
        ap (λ (b : Bool). b && adds_event (maps_of u i) dev ev) lpi
        ∙ ap (λ (o : Option Device). is_some o && not (is_some (event_of (maps_of u i) dev ev))) mapped
        ∙ ap not new in
        subst (λ (b : Bool). AllByRecursion (HasSameBytes u.memory memory) (cond b (byte_reads intid u.redistributors) [])) adds h

    mapti_over : (dev ev intid icid : ℕ) → AllByRecursion (HasSameBytes u.memory memory) (new_reads u.layout.shape (maps_of u i) u.redistributors dev ev intid)
        → mapti (over memory track u) i dev ev intid icid ≡ lifted (mapti u i dev ev intid icid)
    unfolding mapti
    mapti_over dev ev intid icid h =
        lift_from (ok_or (device_of (maps_of u i) dev) NoDevice) _ _ (λ device mapped.
        lift_from (ensure (nat_lt ev (2 ^ device.bits)) EventRange) _ _ (λ _ _.
        lift_from (ensure (is_lpi u.layout.shape.lpi_bits intid) IntidRange) _ _ (λ a lpi.
        lift_from (ensure (nat_lt icid (collection_places (regs_of u i))) CollectionRange) _ _ (λ _ _.
        ap (λ (w : Plain). Ok w)
        (event_over dev ev (record { intid = record { 0 = intid }; icid = record { 0 = icid } }) (is_some (event_of (maps_of u i) dev ev))
        (new_there dev ev intid device h (ok_or_is (device_of (maps_of u i) dev) NoDevice device mapped)
        (ensure_is (is_lpi u.layout.shape.lpi_bits intid) IntidRange a lpi)))))))

    inv_over : (dev ev : ℕ) → AllByRecursion (HasSameBytes u.memory memory) (event_reads (event_of (maps_of u i) dev ev) u.redistributors)
        → inv (over memory track u) i dev ev ≡ lifted (inv u i dev ev)
    unfolding inv
    inv_over dev ev h =
        lift_from (event_at (maps_of u i) dev ev) _ _ (λ event at.
        ap (λ (w : Plain). Ok w) (reread_over (event.intid.0 ∷ []) u refl (bytes_same u.memory memory event.intid.0 u.redistributors
        (subst (λ (o : Option Event). AllByRecursion (HasSameBytes u.memory memory) (event_reads o u.redistributors))
        (event_at_is (maps_of u i) dev ev event at) h))))

    invall_over : (icid : ℕ) → IsSound u → map extent memory ≡ map extent u.memory
        → AllByRecursion (HasSameBytes u.memory memory) (cond (is_some (collection_of (maps_of u i) icid)) (table_reads u.layout.shape u.redistributors) [])
        → invall (over memory track u) i icid ≡ lifted (invall u i icid)
    unfolding invall
    invall_over icid sound windows h =
        let apart = windows_apart (map extent u.memory) sound.memory in
        lift_from (target_at (maps_of u i) icid) _ _ (λ vcpu at.
        let tables : AllByRecursion (HasSameBytes u.memory memory) (table_reads u.layout.shape u.redistributors) =
        subst (λ (o : Option Vcpu). AllByRecursion (HasSameBytes u.memory memory) (cond (is_some o) (table_reads u.layout.shape u.redistributors) []))
        (target_at_is (maps_of u i) icid vcpu at) h in
        ap (λ (w : Plain). Ok w) (reread_over (intids_of (maps_of u i) icid) u refl
        (tables_same u.layout.shape u.memory memory apart (subst (λ (ws : List (ℕ × ℕ)). share_no_byte ws ≡ true) (sym windows) apart)
        (intids_of (maps_of u i) icid) (collection_lpis u i icid sound) u.redistributors tables
        (λ v r is on. ((sound.redistributors v r is).tables on).config))))

    -- ---- all commands

    pub ran_over : IsSound u → map extent memory ≡ map extent u.memory → (c : Command)
        → AllByRecursion (HasSameBytes u.memory memory) (command_reads u.layout.shape (regs_of u i) (maps_of u i) u.redistributors c)
        → ran (over memory track u) i c ≡ lifted (ran u i c)
    unfolding ran command_reads
    ran_over sound windows (command.Mapd dev bits itt true) h = mapd_over windows dev.0 bits itt h
    ran_over sound windows (command.Mapd dev bits itt false) h = unmapd_over dev.0
    ran_over sound windows (command.Mapc icid target true) h = mapc_over icid.0 target
    ran_over sound windows (command.Mapc icid target false) h = refl
    ran_over sound windows (command.Mapti dev ev intid icid) h = mapti_over dev.0 ev.0 intid.0 icid.0 h
    ran_over sound windows (command.Mapi dev ev icid) h = mapti_over dev.0 ev.0 ev.0 icid.0 h
    ran_over sound windows (command.Movi dev ev icid) h = movi_over dev.0 ev.0 icid.0
    ran_over sound windows (command.Int dev ev) h = int_over dev.0 ev.0
    ran_over sound windows (command.Clear dev ev) h = clear_over dev.0 ev.0
    ran_over sound windows (command.Sync target) h = refl
    ran_over sound windows (command.Inv dev ev) h = inv_over dev.0 ev.0 h
    ran_over sound windows (command.Invall icid) h = invall_over icid.0 sound windows h
    ran_over sound windows (command.Movall from to) h = movall_over from to
    ran_over sound windows (command.Discard dev ev) h = discard_over dev.0 ev.0
    ran_over sound windows (command.Unknown opcode) h = refl
