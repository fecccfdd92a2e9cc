-- What calls leave that don't change where maps send events.
use Rattle.std.proofs.Common.{◌≡◌, ℕ, Bool, true, false, List, Option, Some, None, Result, Ok, Err, refl}
use Rattle.std.proofs.Common.{if◌then◌else◌}
use Rattle.guest_windows.specs.Windows.{Window, write_at}
use Rattle.gicr_regs.specs.Registers.{written_gicr}
use Rattle.its_types.specs.Lpis.{with_lpi}
use Rattle.its_plain.specs.Answer.{lowest, claimed, taken, replied, poke_left, save_left, route_left, left}
use Rattle.its_types.specs.declared.ids.Addr.{Addr}
use Rattle.its_plain.specs.declared.call.Route.{Route}
use Rattle.its_plain.specs.declared.call.Route.TheVariants as route
use Rattle.its_plain.specs.Plain.{Plain, Redistributor, translator, redistributor, pending_of, with_redistributor}
use Rattle.its_plain.specs.Regions.{savable}
use Rattle.its_plain.specs.declared.call.Call.{Call}
use Rattle.its_plain.specs.declared.call.Call.TheVariants as call
use Rattle.its_plain.specs.declared.call.Reply.{Reply}
use Rattle.its_plain.specs.declared.call.Reply.TheVariants as reply
use Rattle.its_plain.specs.declared.call.Signal.TheVariants.{Delivered}
use Rattle.its_plain.specs.declared.fault.SaveFault.{SaveFault}
use Rattle.its_steps.specs.Calls.{IsCalm}

pub record Leaves (a z : Plain) : Type 0 where
  pub maps : (i : ℕ) → translator a i ≡ translator z i

pub all_left : (a : Plain) → Leaves a a
all_left a = record { maps = λ i. refl }

pub leaves_if : (a b z : Plain) (test : Bool) → Leaves a b → Leaves a z → Leaves a (if test then b else z)
leaves_if a b z true p q = p
leaves_if a b z false p q = q

pub one_redist : (a : Plain) (v : ℕ) (r : Redistributor) → Leaves a (with_redistributor a v r)
one_redist a v r = record { maps = λ i. refl }

-- ---- calls

replied_leaves : (a : Plain) (r : Reply) → Leaves a (replied a r)
replied_leaves a (reply.Signal (Delivered vcpu intid)) = one_redist a vcpu.0
    (record (redistributor a vcpu.0) { pending = with_lpi intid.0 (pending_of a vcpu.0) })
replied_leaves a r = all_left a

poke_leaves : (a : Plain) (address : ℕ) (bytes : List ℕ) (o : Option (List Window)) → Leaves a (poke_left a address bytes o)
poke_leaves a address bytes None = all_left a
poke_leaves a address bytes (Some now) = record { maps = λ i. refl }

route_leaves : (a : Plain) (addr : Addr) (bytes : List ℕ) (to : Route) (r : Reply) → Leaves a (route_left a addr bytes to r)
route_leaves a addr bytes (route.Signal its dev ev) r = replied_leaves a r
route_leaves a addr bytes route.Poke r = poke_leaves a addr.0 bytes (write_at a.memory addr.0 bytes)
route_leaves a addr bytes route.NoRequester r = replied_leaves a r
route_leaves a addr bytes route.Frame r = replied_leaves a r

save_leaves : (a : Plain) (r : Result (Unit {0}) SaveFault) → Leaves a (save_left a r)
save_leaves a (Ok done) = record { maps = λ i. refl }
save_leaves a (Err fault) = all_left a

pub calm_leaves : (a : Plain) (c : Call) (r : Reply) → IsCalm c → Leaves a (left a c r)
unfolding left
calm_leaves a (call.Signal its dev ev) r calm = replied_leaves a r
calm_leaves a (call.Take vcpu) r calm = one_redist a vcpu.0 (taken (redistributor a vcpu.0) (lowest (redistributor a vcpu.0)))
calm_leaves a (call.Show vcpu) r calm = all_left a
calm_leaves a (call.Best vcpu mask) r calm = all_left a
calm_leaves a (call.Claim vcpu intid) r calm = one_redist a vcpu.0 (taken (redistributor a vcpu.0) (claimed (redistributor a vcpu.0) intid.0))
calm_leaves a (call.Poke addr bytes) r calm = poke_leaves a addr.0 bytes (write_at a.memory addr.0 bytes)
calm_leaves a (call.Peek addr count) r calm = all_left a
calm_leaves a (call.ReadReg its off size) r calm = all_left a
calm_leaves a (call.WriteReg its off size value) r calm = absurd calm
calm_leaves a (call.ReadGicr vcpu off size) r calm = all_left a
calm_leaves a (call.WriteGicr vcpu off size value) r calm =
    let x : Redistributor = written_gicr a.layout.shape a.memory (redistributor a vcpu.0) off size value in
    leaves_if a (with_redistributor a vcpu.0 x) a a.layout.gicr (one_redist a vcpu.0 x) (all_left a)
calm_leaves a (call.Step its) r calm = absurd calm
calm_leaves a call.Save r calm = save_leaves a (savable a)
calm_leaves a call.Copy r calm = record { maps = λ i. refl }
calm_leaves a (call.Dma req addr bytes to) r calm = route_leaves a addr bytes to r
