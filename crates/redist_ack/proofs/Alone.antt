-- A redistributor alone is enough.
use Rattle.std.proofs.Common.{◌≡◌, ◌<◌, ℕ, [], Option, Some, None, refl}
use Rattle.its_types.specs.declared.ids.Vcpu.{Vcpu}
use Rattle.its_types.specs.declared.machine.Word.{Word}
use Rattle.its_plain.specs.Answer.{ack_of, taken}
use Rattle.its_plain.specs.Plain.{Redistributor, ConfState, PendState, joined, pend_of}
use Rattle.its_plain.specs.declared.call.Reply.TheVariants as reply
use Rattle.its_steps.specs.Calls.{staying, redistributor_held, MayLeave}
use Rattle.its_steps.specs.Parts.{HasVcpus, Setup, vcpu_count}
use Rattle.its_steps.specs.declared.change.ShardChange.TheVariants.{Keep}
use Rattle.its_steps.proofs.Ports.{takes, shows, bests, claims}
use Rattle.redist_ack.specs.Offers.{call_of, chosen, left_by, acknowledged}
use Rattle.redist_ack.specs.declared.asked.Asked.{Asked}
use Rattle.redist_ack.specs.declared.asked.Asked.TheVariants as asked

module _ (s : Setup) (vcpu : Vcpu) (c : ConfState) (p : PendState) (vcpus : HasVcpus s) (st : vcpu.0 < vcpu_count s) where
  abbrev r : Redistributor
  r = joined c p

  pub asks_now : (a : Asked) (w : Word) → w.place < s.limits.place_last
      → MayLeave s (staying w (call_of vcpu a) (reply.Ack (ack_of r (chosen r a))) Keep) (redistributor_held vcpu c p [])
      (redistributor_held vcpu c (pend_of (left_by r a)) [])
  asks_now asked.Take w room = takes s w vcpu c p vcpus st room
  asks_now asked.Show w room = shows s w vcpu c p vcpus st room
  asks_now (asked.Best mask) w room = bests s w vcpu mask c p vcpus st room
  asks_now (asked.Claim intid) w room = claims s w vcpu intid c p vcpus st room

-- what is left without the LPI of the answer
pub taken_is : (r : Redistributor) (o : Option ℕ) → acknowledged (pend_of r) (ack_of r o) ≡ pend_of (taken r o)
taken_is r None = refl
taken_is r (Some intid) = refl
