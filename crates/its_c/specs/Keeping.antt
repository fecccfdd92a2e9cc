-- What a handle has: a machine, the description that it was made from, and how much the guest may take.
use Rattle.std.specs.Prelude.{◌≡◌, ◌≢◌, ◌⊎◌, ℕ, Bool, true, false, []}
use Rattle.its_plain.specs.Plain.{Plain}
use Rattle.its_plain.specs.declared.call.Call.{Call}
use Rattle.its_plain.specs.declared.call.Call.TheVariants as call
use Rattle.its_plain.specs.declared.desc.Desc.{Desc}
use Rattle.its_plain.specs.declared.call.Reply.{Reply}
use Rattle.its_numbers.specs.Codes as codes
use Rattle.its_numbers.specs.Counters.{count_reply}
use Rattle.its_numbers.specs.Limits.{no_limit}
use Rattle.its_numbers.specs.declared.counters.Counters.{Counters}
use Rattle.its_numbers.specs.declared.limits.GuestLimits.{GuestLimits}

pub record Held : Type 0 where
  pub machine : Plain
  -- but for the bytes that it put into memory, and with the windows that were added since
  pub desc : Desc
  -- how much the guest may take
  pub limits : GuestLimits
  -- how often a translation may have ended
  pub routes : ℕ
  -- how often signals went where, and commands were refused
  pub counters : Counters

abbrev pub with_machine : Held → Plain → Held
with_machine h u = record h { machine = u }

-- so once a call was answered so
abbrev pub answered_with : Held → Plain → Reply → Held
answered_with h u reply = record h { machine = u; counters = count_reply reply h.counters }

-- what is kept of a description that a machine was made from
abbrev pub kept_of : Desc → Desc
kept_of d = record d { fills = [] }

-- what a write of guest memory may answer where windows have its bytes: it is full only where memory has a limit
abbrev pub IsWriteCode : ℕ → GuestLimits → Type 0
IsWriteCode code l = (code ≡ codes.done) ⊎ ((code ≡ codes.no_memory) ⊎ ((code ≡ codes.full) × (l.memory ≢ no_limit)))

-- a call that leaves as many devices and events mapped, or fewer: all but a step
abbrev pub maps_none : Call → Bool
maps_none (call.Step its) = false
maps_none (call.Signal its dev ev) = true
maps_none (call.Take vcpu) = true
maps_none (call.Show vcpu) = true
maps_none (call.Best vcpu mask) = true
maps_none (call.Claim vcpu intid) = true
maps_none (call.Poke addr bytes) = true
maps_none (call.Peek addr count) = true
maps_none (call.ReadReg its off size) = true
maps_none (call.WriteReg its off size value) = true
maps_none (call.ReadGicr vcpu off size) = true
maps_none (call.WriteGicr vcpu off size value) = true
maps_none call.Save = true
maps_none call.Copy = true
maps_none (call.Dma req addr bytes to) = true
