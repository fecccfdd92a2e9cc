-- What each call leaves in memory, and tells of it.
use Rattle.std.proofs.Common.{◌≡◌, ℕ, true, ◌&&◌, nat_lt, nat_le, List, length, Option, Some, None, Result, Ok, Err, IfOk, refl, sym, subst}
use Rattle.std.specs.Prelude.{IfSome}
use Rattle.std.proofs.lemmas.Bool.{cond_both}
use Rattle.std.proofs.lemmas.List.{length-map}
use Rattle.guest_windows.specs.Windows.{Window, read_at, write_at}
use Rattle.gicr_regs.specs.Redistributors.{reloaded}
use Rattle.gicr_regs.specs.Registers.{written_gicr}
use Rattle.its_types.specs.declared.ids.Addr.{Addr}
use Rattle.its_types.specs.declared.ids.Target.{Target}
use Rattle.its_command.specs.Commands.{decoded}
use Rattle.its_plain.specs.Plain.{Plain, redistributor, with_redistributor}
use Rattle.its_plain.specs.Translation.{translated}
use Rattle.its_plain.specs.Commands.{ran}
use Rattle.its_plain.specs.Answer.{reply_of, left, signal_left, signal_reply, lowest, claimed, taken, written, is_idle, next_bytes, met_left, step_left}
use Rattle.its_plain.specs.Answer.{command_left, save_left, poke_reply, poke_left, poked, route_reply, route_left, peeked, peek_reply, save_reply}
use Rattle.its_plain.specs.Regions.{savable}
use Rattle.its_plain.specs.Saved.{saved, words_of, moved}
use Rattle.its_plain.specs.declared.call.Call.{Call}
use Rattle.its_plain.specs.declared.call.Call.TheVariants as call
use Rattle.its_plain.specs.declared.call.Cause.{Cause}
use Rattle.its_plain.specs.declared.call.Route.{Route}
use Rattle.its_plain.specs.declared.call.Route.TheVariants as route
use Rattle.its_plain.specs.declared.call.Reason.{Reason}
use Rattle.its_plain.specs.declared.fault.SaveFault.{SaveFault}
use Rattle.event_script.specs.Limits.{are_bytes}
use Rattle.report_reading.specs.Bytes.{AllBytes, HasBytes, GivesBytes, TellsBytes}
use Rattle.report_reading.specs.Laws.{CallsKeepBytes, RepliesTellBytes, MigrationsKeepBytes}
use Rattle.report_reading.proofs.Kept.{Keeps, kept, kept_set, set_kept}
use Rattle.report_reading.proofs.Commands.{ran_kept}
use Rattle.report_reading.proofs.Memory.{AreBytes, read_small, written_small, tables_small}

-- ---- what leaves memory alone

signal_kept : (u : Plain) (r : Result Target Cause) → Keeps u (signal_left u (signal_reply r))
signal_kept u (Ok target) = set_kept u target.intid.0 target.vcpu.0
signal_kept u (Err cause) = kept u

command_kept : (u : Plain) (r : Result Plain Reason) → IfOk r (Keeps u) → Keeps u (command_left u r)
command_kept u (Ok w) k = k
command_kept u (Err reason) k = kept u

met_kept : (u : Plain) (i : ℕ) (next : Option (List ℕ)) → Keeps u (met_left u i next)
met_kept u i None = kept u
met_kept u i (Some bytes) = command_kept u (ran u i (decoded bytes)) (ran_kept u i (decoded bytes))

step_kept : (u : Plain) (i : ℕ) → Keeps u (step_left u i)
unfolding step_left
step_kept u i = cond_both (is_idle u i) u (met_left u i (next_bytes u i)) (Keeps u) (λ _. kept u) (λ _. met_kept u i (next_bytes u i))

-- ---- all calls

-- bytes stay bytes, and there are as many redistributors
abbrev pub Goes : Plain → Plain → Type 0
Goes u w = (HasBytes u → HasBytes w) × (length w.redistributors ≡ length u.redistributors)

goes : (u w : Plain) → Keeps u w → Goes u w
goes u w k = ((λ h. subst AllBytes (sym k.0) h), k.1)

saved_small : (u : Plain) → HasBytes u → AllBytes (saved u)
saved_small u h = tables_small u.memory (words_of u) h

save_goes : (u : Plain) (r : Result (Unit {0}) SaveFault) → Goes u (save_left u r)
save_goes u (Ok done) = ((λ h. saved_small u h), refl)
save_goes u (Err fault) = ((λ h. h), refl)

poke_goes : (u : Plain) (address : ℕ) (bytes : List ℕ) (o : Option (List Window)) → (HasBytes u → IfSome o AllBytes) → Goes u (poke_left u address bytes o)
poke_goes u address bytes None small = ((λ h. h), refl)
poke_goes u address bytes (Some memory) small = (small, refl)

poked_goes : (u : Plain) (address : ℕ) (bytes : List ℕ) → are_bytes bytes ≡ true → Goes u (poked u address bytes)
poked_goes u address bytes g = poke_goes u address bytes (write_at u.memory address bytes) (λ h. written_small u.memory address bytes h g)

-- a write by address does what its route does
route_goes : (u : Plain) (addr : Addr) (bytes : List ℕ) (to : Route) → are_bytes bytes ≡ true
    → Goes u (route_left u addr bytes to (route_reply u addr bytes to))
route_goes u addr bytes (route.Signal its dev ev) g =
    let r = translated u its dev.0 ev.0 in goes u (signal_left u (signal_reply r)) (signal_kept u r)
route_goes u addr bytes route.Poke g = poked_goes u addr.0 bytes g
route_goes u addr bytes route.NoRequester g = goes u u (kept u)
route_goes u addr bytes route.Frame g = goes u u (kept u)

pub calls_go : (u : Plain) (c : Call) → GivesBytes c → Goes u (left u c (reply_of u c))
unfolding reply_of left written
calls_go u (call.Signal its dev ev) g =
    let r = translated u its dev.0 ev.0 in goes u (signal_left u (signal_reply r)) (signal_kept u r)
calls_go u (call.Take vcpu) g =
    let now = taken (redistributor u vcpu.0) (lowest (redistributor u vcpu.0)) in goes u (with_redistributor u vcpu.0 now) (kept_set u vcpu.0 now)
calls_go u (call.Show vcpu) g = goes u u (kept u)
calls_go u (call.Best vcpu mask) g = goes u u (kept u)
calls_go u (call.Claim vcpu intid) g =
    let now = taken (redistributor u vcpu.0) (claimed (redistributor u vcpu.0) intid.0) in
    goes u (with_redistributor u vcpu.0 now) (kept_set u vcpu.0 now)
calls_go u (call.Poke addr bytes) g = poked_goes u addr.0 bytes g
calls_go u (call.Peek addr count) g = goes u u (kept u)
calls_go u (call.ReadReg its off size) g = goes u u (kept u)
calls_go u (call.WriteReg its off size value) g = ((λ h. h), refl)
calls_go u (call.ReadGicr vcpu off size) g = goes u u (kept u)
calls_go u (call.WriteGicr vcpu off size value) g =
    let now = written_gicr u.layout.shape u.memory (redistributor u vcpu.0) off size value in
    let w : Plain = with_redistributor u vcpu.0 now in
    cond_both u.layout.gicr w u (Goes u) (λ _. goes u w (kept_set u vcpu.0 now)) (λ _. goes u u (kept u))
calls_go u (call.Step its) g = goes u (step_left u its) (step_kept u its)
calls_go u call.Save g = save_goes u (savable u)
calls_go u call.Copy g = ((λ h. h), refl)
calls_go u (call.Dma req addr bytes to) g = route_goes u addr bytes to g

pub calls_bytes : CallsKeepBytes
calls_bytes u c g h = (calls_go u c g).0 h

pub moved_goes : (u : Plain) → Goes u (moved u)
unfolding moved
moved_goes u = ((λ h. saved_small u h), length-map u.redistributors (reloaded u.layout.shape (saved u)))

pub migrations_bytes : MigrationsKeepBytes
migrations_bytes u h = (moved_goes u).0 h

-- ---- replies

poke_tells : (o : Option (List Window)) → TellsBytes (poke_reply o)
poke_tells None = tt
poke_tells (Some memory) = tt

peek_tells : (o : Option (List ℕ)) → IfSome o AreBytes → TellsBytes (peek_reply o)
peek_tells None h = tt
peek_tells (Some bytes) h = h

save_tells : (r : Result (Unit {0}) SaveFault) → TellsBytes (save_reply r)
save_tells (Ok done) = tt
save_tells (Err fault) = tt

peeked_small : (u : Plain) (address count : ℕ) → HasBytes u → IfSome (peeked u address count) AreBytes
peeked_small u address count h =
    cond_both (nat_lt 0 count && nat_le count 64) (read_at u.memory address count) None (λ o. IfSome o AreBytes)
    (λ _. read_small u.memory address count h) (λ _. tt)

route_tells : (u : Plain) (addr : Addr) (bytes : List ℕ) (to : Route) → TellsBytes (route_reply u addr bytes to)
route_tells u addr bytes (route.Signal its dev ev) = tt
route_tells u addr bytes route.Poke = poke_tells (write_at u.memory addr.0 bytes)
route_tells u addr bytes route.NoRequester = tt
route_tells u addr bytes route.Frame = tt

pub replies_bytes : RepliesTellBytes
unfolding reply_of
replies_bytes u (call.Signal its dev ev) h = tt
replies_bytes u (call.Take vcpu) h = tt
replies_bytes u (call.Show vcpu) h = tt
replies_bytes u (call.Best vcpu mask) h = tt
replies_bytes u (call.Claim vcpu intid) h = tt
replies_bytes u (call.Poke addr bytes) h = poke_tells (write_at u.memory addr.0 bytes)
replies_bytes u (call.Peek addr count) h = peek_tells (peeked u addr.0 count) (peeked_small u addr.0 count h)
replies_bytes u (call.ReadReg its off size) h = tt
replies_bytes u (call.WriteReg its off size value) h = tt
replies_bytes u (call.ReadGicr vcpu off size) h = tt
replies_bytes u (call.WriteGicr vcpu off size value) h = tt
replies_bytes u (call.Step its) h = tt
replies_bytes u call.Save h = save_tells (savable u)
replies_bytes u call.Copy h = tt
replies_bytes u (call.Dma req addr bytes to) h = route_tells u addr bytes to
