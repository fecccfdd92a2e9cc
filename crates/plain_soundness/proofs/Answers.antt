-- What each kind of call keeps.
use Rattle.plain_soundness.proofs.Migrated.{saves_keep}
use Rattle.plain_soundness.proofs.Gicr.{gicr_read_keeps, gicr_write_keeps}
use Rattle.std.proofs.Common.{◌≡◌, ℕ, Bool, true, cond, List, [], ◌∷◌, length, Option, Some, None, not, Result, Ok, Err, IfOk, ◌∙◌, refl, sym}
use Rattle.std.specs.Prelude.{◌&&◌, nat_eq}
use Rattle.std.specs.Option.{option_map}
use Rattle.std.proofs.lemmas.Bool.{and_parts, cond_both, eqb-true, not-false, or_parts}
use Rattle.guest_windows.specs.Windows.{Window, write_at}
use Rattle.guest_windows.proofs.Laws.{extents-write_at}
use Rattle.dirty_log.specs.Copies.{IsTracked, wrote, caught_up}
use Rattle.dirty_log.specs.declared.tracked.Tracked.{Tracked}
use Rattle.dirty_log.proofs.Tracks.{writes_keep, copies_keep}
use Rattle.its_plain.specs.Plain.{Plain, redistributor, with_redistributor, translator, regs_of, maps_of, is_on}
use Rattle.its_plain.specs.Sound.{IsSound}
use Rattle.gits_regs.specs.Registers.{Registers, write_reg, advanced, is_queue_empty}
use Rattle.gits_regs.proofs.Rules.{creadr_advanced}
use Rattle.gits_regs.proofs.Kept.{write_keeps as regs_kept}
use Rattle.its_types.specs.Maps.{Maps}
use Rattle.its_types.specs.declared.ids.Addr.{Addr}
use Rattle.its_types.specs.declared.ids.DeviceId.{DeviceId}
use Rattle.its_types.specs.declared.ids.EventId.{EventId}
use Rattle.its_types.specs.declared.ids.Target.{Target}
use Rattle.its_types.specs.declared.machine.Shape.{Shape}
use Rattle.its_plain.specs.Translation.{translated}
use Rattle.its_plain.specs.declared.call.Cause.{Cause}
use Rattle.its_plain.specs.Answer.{answer, left, reply_of, lowest, claimed, taken, written, translator_written, emptied, signal_left, signal_reply}
use Rattle.its_plain.specs.Answer.{step_left, met_left}
use Rattle.its_plain.specs.Answer.{command_left, went_on, is_idle, next_bytes, poke_left, poked, has_same_tables, route_reply, route_left}
use Rattle.its_plain.specs.declared.call.Route.{Route}
use Rattle.its_plain.specs.declared.call.Route.TheVariants as route
use Rattle.its_plain.specs.Commands.{ran}
use Rattle.its_plain.specs.declared.call.Reason.{Reason}
use Rattle.its_command.specs.Commands.{decoded}
use Rattle.its_plain.specs.declared.call.Call.TheVariants as call
use Rattle.plain_soundness.specs.Laws.{ShowKeepsSound, BestKeepsSound, ClaimKeepsSound, PeekKeepsSound, RegisterReadKeepsSound, TakeKeepsSound}
use Rattle.plain_soundness.specs.Laws.{PokeKeepsSound, RegisterWriteKeepsSound}
use Rattle.plain_soundness.specs.Laws.{SignalKeepsSound, StepKeepsSound, CallsKeepSound, HistoriesKeepSound, CopyKeepsSound, DmaKeepsSound}
use Rattle.plain_soundness.proofs.States.{IsLpi, translator_replaced, translator_sound, redistributor_replaced, redistributor_sound, regs_replaced}
use Rattle.plain_soundness.proofs.States.{memory_replaced, some_map, each_map}
use Rattle.plain_soundness.proofs.Places.{decoded_fits}
use Rattle.plain_soundness.proofs.Run.{commands_keep}
use Rattle.plain_soundness.proofs.Pending.{set_sound, cleared_sound}
use Rattle.plain_soundness.proofs.Mapped.{AreMaps, SameTables, maps_sound, same_tables, translator_made}
use Rattle.plain_soundness.proofs.Written.{write_keeps}
use Rattle.plain_soundness.proofs.Translated.{goes_to_lpi, if_ok_at}

pub show_keeps : ShowKeepsSound
unfolding left
show_keeps u vcpu h = h

pub best_keeps : BestKeepsSound
unfolding left
best_keeps u vcpu mask h = h

pub peek_keeps : PeekKeepsSound
unfolding left
peek_keeps u addr count h = h

pub register_read_keeps : RegisterReadKeepsSound
unfolding left
register_read_keeps u its off size h = h

taken_sound : (u : Plain) (v : ℕ) (o : Option ℕ) → IsSound u → IsSound (with_redistributor u v (taken (redistributor u v) o))
taken_sound u v None h = redistributor_replaced u v (redistributor u v) h (redistributor_sound u v h)
taken_sound u v (Some intid) h = cleared_sound u intid v h

pub take_keeps : TakeKeepsSound
unfolding left
take_keeps u vcpu h = taken_sound u vcpu.0 (lowest (redistributor u vcpu.0)) h

pub claim_keeps : ClaimKeepsSound
unfolding left
claim_keeps u vcpu intid h = taken_sound u vcpu.0 (claimed (redistributor u vcpu.0) intid.0) h

write_kept : (u : Plain) (address : ℕ) (bytes : List ℕ) (o : Option (List Window)) → write_at u.memory address bytes ≡ o → IsSound u
    → IsSound (poke_left u address bytes o)
write_kept u address bytes None e h = h
write_kept u address bytes (Some now) e h =
    let marks : Tracked → Tracked = wrote address (length bytes) in
    memory_replaced u now (option_map marks u.track) (extents-write_at u.memory address bytes now e) (some_map u.track marks ∙ h.tracks)
    (each_map u.track marks (IsTracked u.memory) (IsTracked now) h.tracked (λ t. writes_keep u.memory now address bytes t e)) h

poked_sound : (u : Plain) (address : ℕ) (bytes : List ℕ) → IsSound u → IsSound (poked u address bytes)
poked_sound u address bytes h = write_kept u address bytes (write_at u.memory address bytes) refl h

pub poke_keeps : PokeKeepsSound
unfolding left
poke_keeps u addr bytes h = poked_sound u addr.0 bytes h

pub copy_keeps : CopyKeepsSound
unfolding left
copy_keeps u h =
    let catches : Tracked → Tracked = caught_up u.memory in
    memory_replaced u u.memory (option_map catches u.track) refl (some_map u.track catches ∙ h.tracks)
    (each_map u.track catches (IsTracked u.memory) (IsTracked u.memory) h.tracked (copies_keep u.memory)) h

tables_same : (keeps : Bool) (r q : Registers) → q.dev_bits ≡ r.dev_bits → (keeps && has_same_tables r q) ≡ true → SameTables r q
tables_same keeps r q bits e =
    let both = and_parts (nat_eq r.baser0 q.baser0) (nat_eq r.baser1 q.baser1) (and_parts keeps (has_same_tables r q) e).1 in
    record { dev_bits = bits; baser0 = sym (eqb-true r.baser0 q.baser0 both.0); baser1 = sym (eqb-true r.baser1 q.baser1 both.1) }

pub register_write_keeps : RegisterWriteKeepsSound
unfolding left written
register_write_keeps u its off size value h =
    let w = write_reg (regs_of u its) off size value in
    let s : Shape = u.layout.shape in
    let r : Registers = regs_of u its in
    let m : Maps = maps_of u its in
    let keeps : Bool = s.linux && has_same_tables r w.regs in
    translator_replaced u its (translator_written s (translator u its) w) h (λ within.
    let t = translator_sound u its h within in
    let maps = maps_sound s (translator u its) t in
    let after = write_keeps s r m maps off size value in
    translator_made s w.regs (cond keeps m (emptied w.change m)) (regs_kept r off size value t.regs) (after.dev_bits ∙ t.dev_bits)
    (cond_both keeps m (emptied w.change m) (AreMaps s w.regs) (λ yes. same_tables s r w.regs m (tables_same s.linux r w.regs after.dev_bits yes) maps)
    (λ no. after.maps)))

signal_kept : (u : Plain) (r : Result Target Cause) → ((target : Target) → r ≡ Ok target → IsLpi u target.intid.0 × (is_on u target.vcpu.0 ≡ true)) → IsSound u
    → IsSound (signal_left u (signal_reply r))
signal_kept u (Err cause) goes h = h
signal_kept u (Ok target) goes h = let g = goes target refl in set_sound u target.intid.0 target.vcpu.0 h g.0 g.1

signal_sound : (u : Plain) (its : ℕ) (dev : DeviceId) (ev : EventId) → IsSound u → IsSound (signal_left u (signal_reply (translated u its dev.0 ev.0)))
signal_sound u its dev ev h = signal_kept u (translated u its dev.0 ev.0) (λ target e. if_ok_at (λ t. IsLpi u t.intid.0 × (is_on u t.vcpu.0 ≡ true))
    (translated u its dev.0 ev.0) target (goes_to_lpi u its dev.0 ev.0 h) e) h

pub signal_keeps : SignalKeepsSound
unfolding left reply_of
signal_keeps u its dev ev h = signal_sound u its dev ev h

-- ---- writes by address

route_sound : (u : Plain) (addr : Addr) (bytes : List ℕ) (to : Route) → IsSound u → IsSound (route_left u addr bytes to (route_reply u addr bytes to))
route_sound u addr bytes (route.Signal its dev ev) h = signal_sound u its dev ev h
route_sound u addr bytes route.Poke h = poked_sound u addr.0 bytes h
route_sound u addr bytes route.NoRequester h = h
route_sound u addr bytes route.Frame h = h

pub dma_keeps : DmaKeepsSound
unfolding left reply_of
dma_keeps u req addr bytes to h = route_sound u addr bytes to h

-- ---- steps

went_on_sound : (u : Plain) (i : ℕ) → IsSound u → IsSound (went_on i u)
went_on_sound u i h = regs_replaced u i (advanced (regs_of u i)) h (creadr_advanced (regs_of u i)) (record { dev_bits = refl; baser0 = refl; baser1 = refl })

ran_sound : (u : Plain) (r : Result Plain Reason) → IfOk r IsSound → IsSound u → IsSound (command_left u r)
ran_sound u (Ok after) sound h = sound
ran_sound u (Err reason) sound h = h

met_sound : (u : Plain) (i : ℕ) (next : Option (List ℕ)) → (regs_of u i).enabled ≡ true → IsSound u → IsSound (met_left u i next)
met_sound u i None on h = h
met_sound u i (Some bytes) on h =
    went_on_sound (command_left u (ran u i (decoded bytes))) i
    (ran_sound u (ran u i (decoded bytes)) (commands_keep u i (decoded bytes) (decoded_fits bytes) on h) h)

pub step_keeps : StepKeepsSound
unfolding left step_left
step_keeps u i h =
    cond_both (is_idle u i) u (met_left u i (next_bytes u i)) IsSound (λ _. h)
    (λ busy. met_sound u i (next_bytes u i) (not-false (regs_of u i).enabled (or_parts (not (regs_of u i).enabled) (is_queue_empty (regs_of u i)) busy).0) h)

-- ---- all calls

pub calls_keep : CallsKeepSound
calls_keep u (call.Signal its dev ev) h = signal_keeps u its dev ev h
calls_keep u (call.Take vcpu) h = take_keeps u vcpu h
calls_keep u (call.Show vcpu) h = show_keeps u vcpu h
calls_keep u (call.Best vcpu mask) h = best_keeps u vcpu mask h
calls_keep u (call.Claim vcpu intid) h = claim_keeps u vcpu intid h
calls_keep u (call.Poke addr bytes) h = poke_keeps u addr bytes h
calls_keep u (call.Peek addr count) h = peek_keeps u addr count h
calls_keep u (call.ReadReg its off size) h = register_read_keeps u its off size h
calls_keep u (call.WriteReg its off size value) h = register_write_keeps u its off size value h
calls_keep u (call.ReadGicr vcpu off size) h = gicr_read_keeps u vcpu off size h
calls_keep u (call.WriteGicr vcpu off size value) h = gicr_write_keeps u vcpu off size value h
calls_keep u (call.Step its) h = step_keeps u its h
calls_keep u call.Save h = saves_keep u h
calls_keep u call.Copy h = copy_keeps u h
calls_keep u (call.Dma req addr bytes to) h = dma_keeps u req addr bytes to h

pub histories_keep : HistoriesKeepSound
histories_keep u [] sound = sound
histories_keep u (e ∷ h) sound = histories_keep (answer u e.call).1 h (calls_keep u e.call sound)
