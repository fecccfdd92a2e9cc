-- What a machine is asked in numbers: which numbers are in their ranges, and what the plain machine answers and leaves.
use Rattle.std.specs.Prelude.{List, ℕ, Bool, ◌&&◌, ◌||◌, ◌==◌, nat_lt, nat_le, length}
use Rattle.its_plain.specs.Plain.{Plain, redistributor, with_redistributor}
use Rattle.its_plain.specs.Answer.{ack_of, lowest, best, claimed, taken, signal_reply, reply_of, left}
use Rattle.its_plain.specs.Translation.{translated}
use Rattle.its_plain.specs.declared.call.Ack.{Ack}
use Rattle.its_plain.specs.Doorbells.{dma_of}
use Rattle.its_plain.specs.declared.call.Call.{Call}
use Rattle.its_plain.specs.declared.call.Reply.{Reply}
use Rattle.its_plain.specs.declared.call.Signal.{Signal}
use Rattle.its_types.specs.Ranges.{most_vcpus}
use Rattle.its_numbers.specs.Translators.{has_translator}
use Rattle.its_c.specs.Keeping.{Held}

-- whether the machine has a virtual processor of this number
abbrev pub has_vcpu : Plain → ℕ → Bool
has_vcpu u vcpu = nat_lt vcpu most_vcpus && nat_lt vcpu (length u.redistributors)

-- whether registers are read and written in so many bytes
abbrev pub is_size : ℕ → Bool
is_size size = size == 4 || size == 8

-- both
abbrev pub has_register : Plain → ℕ → ℕ → Bool
has_register u vcpu size = has_vcpu u vcpu && is_size size

-- the same of the registers of a translator
abbrev pub has_its_register : Plain → ℕ → ℕ → Bool
has_its_register u its size = has_translator u its && is_size size

-- where the message of a device to a translator goes
abbrev pub signalled : Plain → ℕ → ℕ → ℕ → Signal
signalled u its device event = signal_reply (translated u its device event)

-- the LPI that a virtual processor would acknowledge
abbrev pub shown : Plain → ℕ → Ack
shown u vcpu = ack_of (redistributor u vcpu) (lowest (redistributor u vcpu))

-- the state once it has
abbrev pub acknowledged : Plain → ℕ → Plain
acknowledged u vcpu = with_redistributor u vcpu (taken (redistributor u vcpu) (lowest (redistributor u vcpu)))

-- there is such a virtual processor, and such a priority mask
abbrev pub has_mask : Plain → ℕ → ℕ → Bool
has_mask u vcpu mask = has_vcpu u vcpu && nat_lt mask 256

-- the LPI that comes first by priority below a mask
abbrev pub first_below : Plain → ℕ → ℕ → Ack
first_below u vcpu mask = ack_of (redistributor u vcpu) (best (redistributor u vcpu) mask)

-- an LPI, where it is pending and enabled
abbrev pub claimed_by : Plain → ℕ → ℕ → Ack
claimed_by u vcpu intid = ack_of (redistributor u vcpu) (claimed (redistributor u vcpu) intid)

-- the state once it was acknowledged
abbrev pub after_claim : Plain → ℕ → ℕ → Plain
after_claim u vcpu intid = with_redistributor u vcpu (taken (redistributor u vcpu) (claimed (redistributor u vcpu) intid))

-- ---- writes by address

-- 1 to 64 bytes are written at a time
abbrev pub is_count : List ℕ → Bool
is_count bytes = nat_lt 0 (length bytes) && nat_le (length bytes) 64

-- what a requester's write is by the description
abbrev pub wrote : Held → ℕ → ℕ → List ℕ → Call
wrote h requester address bytes = dma_of h.desc requester (record { 0 = address }) bytes

abbrev pub wrote_reply : Held → ℕ → ℕ → List ℕ → Reply
wrote_reply h requester address bytes = reply_of h.machine (wrote h requester address bytes)

abbrev pub wrote_left : Held → ℕ → ℕ → List ℕ → Plain
wrote_left h requester address bytes = left h.machine (wrote h requester address bytes) (wrote_reply h requester address bytes)
