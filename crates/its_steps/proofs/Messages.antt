-- Calls that are messages, by what they are.
use Rattle.std.proofs.Common.{◌≡◌, ℕ, List, Option, Some, None, refl, subst}
use Rattle.its_types.specs.declared.ids.Addr.{Addr}
use Rattle.its_types.specs.declared.ids.DeviceId.{DeviceId}
use Rattle.its_types.specs.declared.ids.EventId.{EventId}
use Rattle.its_plain.specs.Answer.{signal_reply, signal_left, reply_of, left}
use Rattle.its_plain.specs.Parts.{signal_parts, footprint}
use Rattle.its_plain.specs.Plain.{Plain}
use Rattle.its_plain.specs.Translation.{translated}
use Rattle.its_plain.specs.declared.call.Call.{Call}
use Rattle.its_plain.specs.declared.call.Call.TheVariants as call
use Rattle.its_plain.specs.declared.call.Reply.TheVariants as reply
use Rattle.its_plain.specs.declared.call.Route.TheVariants as route
use Rattle.its_plain.specs.declared.call.Signal.{Signal}
use Rattle.its_steps.specs.Calls.{IsCalm}
use Rattle.its_steps.specs.MayCall.{message_of}
use Rattle.its_steps.specs.Renewal.{its_of}

-- what a message is answered and leaves, and which parts it has
pub record IsMessage (c : Call) (its : ℕ) (dev : DeviceId) (ev : EventId) : Type 0 where
  pub its_is : its_of c ≡ its
  pub calm : IsCalm c
  pub replies : (u : Plain) → reply_of u c ≡ reply.Signal (signal_reply (translated u its dev.0 ev.0))
  pub leaves : (u : Plain) (r : Signal) → left u c (reply.Signal r) ≡ signal_left u r
  pub parts : (u : Plain) → footprint u c ≡ signal_parts u its dev.0 ev.0

signal_is : (its : ℕ) (dev : DeviceId) (ev : EventId) → IsMessage (call.Signal its dev ev) its dev ev
unfolding reply_of left footprint
signal_is its dev ev = record { its_is = refl; calm = tt; replies = λ u. refl; leaves = λ u r. refl; parts = λ u. refl }

dma_is : (req : ℕ) (addr : Addr) (bytes : List ℕ) (its : ℕ) (dev : DeviceId) (ev : EventId) → IsMessage (call.Dma req addr bytes (route.Signal its dev ev)) its
    dev ev
unfolding reply_of left footprint
dma_is req addr bytes its dev ev = record { its_is = refl; calm = tt; replies = λ u. refl; leaves = λ u r. refl; parts = λ u. refl }

-- what was found is what is meant
same_message : (P : ℕ → DeviceId → EventId → Type 0) (i its : ℕ) (d dev : DeviceId) (e ev : EventId) → P i d e
    → (let m : Option (ℕ × (DeviceId × EventId)) = Some (i, (d, e)) in m) ≡ Some (its, (dev, ev)) → P its dev ev
same_message P i its d dev e ev p is = subst (λ (m : Option (ℕ × (DeviceId × EventId))). of m) is p
  where
    of : Option (ℕ × (DeviceId × EventId)) → Type 0
    of None = ⊥
    of (Some m) = P m.0 m.1.0 m.1.1

pub is_message : (c : Call) (its : ℕ) (dev : DeviceId) (ev : EventId) → message_of c ≡ Some (its, (dev, ev)) → IsMessage c its dev ev
is_message (call.Signal i d e) its dev ev is = same_message (IsMessage (call.Signal i d e)) i its d dev e ev (signal_is i d e) is
is_message (call.Dma req addr bytes (route.Signal i d e)) its dev ev is = same_message (IsMessage (call.Dma req addr bytes (route.Signal i d e))) i its d dev e
    ev (dma_is req addr bytes i d e) is
is_message (call.Dma req addr bytes route.Poke) its dev ev is = absurd cc
is_message (call.Dma req addr bytes route.NoRequester) its dev ev is = absurd cc
is_message (call.Dma req addr bytes route.Frame) its dev ev is = absurd cc
is_message (call.Take vcpu) its dev ev is = absurd cc
is_message (call.Show vcpu) its dev ev is = absurd cc
is_message (call.Best vcpu mask) its dev ev is = absurd cc
is_message (call.Claim vcpu intid) its dev ev is = absurd cc
is_message (call.Poke addr bytes) its dev ev is = absurd cc
is_message (call.Peek addr count) its dev ev is = absurd cc
is_message (call.ReadReg i off size) its dev ev is = absurd cc
is_message (call.WriteReg i off size value) its dev ev is = absurd cc
is_message (call.ReadGicr vcpu off size) its dev ev is = absurd cc
is_message (call.WriteGicr vcpu off size value) its dev ev is = absurd cc
is_message (call.Step i) its dev ev is = absurd cc
is_message call.Save its dev ev is = absurd cc
is_message call.Copy its dev ev is = absurd cc
