-- No call changes how many redistributors there are.
use Rattle.std.proofs.Common.{◌≡◌, ℕ, Bool, true, false, ◌==◌, List, [], length, Option, Some, None, Result, Ok, Err, IfOk, refl, ◌∙◌, if◌then◌else◌}
use Rattle.std.proofs.lemmas.List.{length-map, length-set}
use Rattle.guest_windows.specs.Windows.{Window, write_at}
use Rattle.gicr_regs.specs.Registers.{written_gicr}
use Rattle.its_command.specs.Commands.{decoded}
use Rattle.its_types.specs.Lpis.{with_lpi, with_lpis, without_lpi}
use Rattle.its_types.specs.declared.ids.Addr.{Addr}
use Rattle.its_plain.specs.Plain.{Plain, Redistributor, redistributor, pending_of, with_pending, with_redistributor}
use Rattle.its_plain.specs.Translation.{translated}
use Rattle.its_plain.specs.Commands.{all_moved, all_reread_at, ran}
use Rattle.its_plain.specs.Answer.{signal_reply, signal_left, lowest, claimed, taken, written, poke_left, route_reply, route_left, command_left, save_left}
use Rattle.its_plain.specs.Answer.{is_idle, next_bytes, met_left, step_left, reply_of, left, answer}
use Rattle.its_plain.specs.Regions.{savable}
use Rattle.its_plain.specs.declared.call.Call.{Call}
use Rattle.its_plain.specs.declared.call.Call.TheVariants as call
use Rattle.its_plain.specs.declared.call.Reason.{Reason}
use Rattle.its_plain.specs.declared.call.Route.{Route}
use Rattle.its_plain.specs.declared.call.Route.TheVariants as route
use Rattle.its_plain.specs.declared.call.Signal.{Signal}
use Rattle.its_plain.specs.declared.call.Signal.TheVariants.{Delivered, Dropped}
use Rattle.its_plain.specs.declared.fault.SaveFault.{SaveFault}
use Rattle.plain_footprint.specs.Commands.{IsKept}
use Rattle.plain_footprint.proofs.Kept.{commands_keep}

-- as many redistributors
abbrev pub AsMany : Plain → Plain → Type 0
AsMany u w = length w.redistributors ≡ length u.redistributors

many_redist : (u w : Plain) (v : ℕ) (r : Redistributor) → AsMany u w → AsMany u (with_redistributor w v r)
many_redist u w v r s = length-set w.redistributors v r ∙ s

many_pending : (u w : Plain) (v : ℕ) (pending : List ℕ) → AsMany u w → AsMany u (with_pending w v pending)
many_pending u w v pending s = many_redist u w v (record (redistributor w v) { pending = pending }) s

many_if : (u a b : Plain) (test : Bool) → AsMany u a → AsMany u b → AsMany u (if test then a else b)
many_if u a b true s t = s
many_if u a b false s t = t

-- ---- steps

all_moved_many : (u w : Plain) (from to : ℕ) → AsMany u w → AsMany u (all_moved from to w)
unfolding all_moved
all_moved_many u w from to s =
    many_if u w (with_pending (with_pending w from []) to (with_lpis (pending_of w from) (pending_of w to))) (from == to) s
    (many_pending u (with_pending w from []) to (with_lpis (pending_of w from) (pending_of w to)) (many_pending u w from [] s))

parts_many : (u : Plain) → IsKept (AsMany u)
parts_many u = record {
  lpis = record {
    set = λ w intid vcpu on s. many_pending u w vcpu (with_lpi intid (pending_of w vcpu)) s;
    cleared = λ w intid vcpu s. many_pending u w vcpu (without_lpi intid (pending_of w vcpu)) s;
    all_moved = λ w from to on s. all_moved_many u w from to s;
    reread = λ w intids s. length-map w.redistributors (all_reread_at w.memory intids) ∙ s;
  };
  maps = λ w i m s. s;
}

command_many : (u : Plain) (r : Result Plain Reason) → IfOk r (AsMany u) → AsMany u (command_left u r)
command_many u (Ok w) s = s
command_many u (Err reason) s = refl

met_many : (u : Plain) (i : ℕ) (bytes : Option (List ℕ)) → AsMany u (met_left u i bytes)
met_many u i None = refl
met_many u i (Some bytes) = command_many u (ran u i (decoded bytes)) (commands_keep (AsMany u) (parts_many u) u i (decoded bytes) refl)

step_many : (u : Plain) (i : ℕ) → AsMany u (step_left u i)
unfolding step_left
step_many u i = many_if u u (met_left u i (next_bytes u i)) (is_idle u i) refl (met_many u i (next_bytes u i))

-- ---- all calls

signal_many : (u : Plain) (s : Signal) → AsMany u (signal_left u s)
signal_many u (Delivered vcpu intid) = many_pending u u vcpu.0 (with_lpi intid.0 (pending_of u vcpu.0)) refl
signal_many u (Dropped cause) = refl

save_many : (u : Plain) (r : Result (Unit {0}) SaveFault) → AsMany u (save_left u r)
save_many u (Ok done) = refl
save_many u (Err fault) = refl

poke_many : (u : Plain) (address : ℕ) (bytes : List ℕ) (o : Option (List Window)) → AsMany u (poke_left u address bytes o)
poke_many u address bytes None = refl
poke_many u address bytes (Some memory) = refl

-- a write by address does what its route does
route_many : (u : Plain) (addr : Addr) (bytes : List ℕ) (to : Route) → AsMany u (route_left u addr bytes to (route_reply u addr bytes to))
route_many u addr bytes (route.Signal its dev ev) = signal_many u (signal_reply (translated u its dev.0 ev.0))
route_many u addr bytes route.Poke = poke_many u addr.0 bytes (write_at u.memory addr.0 bytes)
route_many u addr bytes route.NoRequester = refl
route_many u addr bytes route.Frame = refl

pub answer_many : (u : Plain) (c : Call) → AsMany u (answer u c).1
unfolding reply_of left written
answer_many u (call.Signal its dev ev) = signal_many u (signal_reply (translated u its dev.0 ev.0))
answer_many u (call.Take vcpu) = many_redist u u vcpu.0 (taken (redistributor u vcpu.0) (lowest (redistributor u vcpu.0))) refl
answer_many u (call.Show vcpu) = refl
answer_many u (call.Best vcpu mask) = refl
answer_many u (call.Claim vcpu intid) = many_redist u u vcpu.0 (taken (redistributor u vcpu.0) (claimed (redistributor u vcpu.0) intid.0)) refl
answer_many u (call.Poke addr bytes) = poke_many u addr.0 bytes (write_at u.memory addr.0 bytes)
answer_many u (call.Peek addr count) = refl
answer_many u (call.ReadReg its off size) = refl
answer_many u (call.WriteReg its off size value) = refl
answer_many u (call.ReadGicr vcpu off size) = refl
answer_many u (call.WriteGicr vcpu off size value) =
    many_if u (with_redistributor u vcpu.0 (written_gicr u.layout.shape u.memory (redistributor u vcpu.0) off size value)) u u.layout.gicr
    (many_redist u u vcpu.0 (written_gicr u.layout.shape u.memory (redistributor u vcpu.0) off size value) refl) refl
answer_many u (call.Step its) = step_many u its
answer_many u call.Save = save_many u (savable u)
answer_many u call.Copy = refl
answer_many u (call.Dma req addr bytes to) = route_many u addr bytes to
