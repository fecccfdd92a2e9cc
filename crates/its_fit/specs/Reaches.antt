-- Which parts a call may read or change, and which of them it may change, in whatever state it is made.
use Rattle.std.specs.Prelude.{◌≡◌, ℕ, ◌^◌, ◌<◌, ◌≢◌, List, [], ◌∷◌, Some, Bool, true, false, not, ◌&&◌, ◌==◌}
use Rattle.its_plain.specs.declared.call.Call.{Call}
use Rattle.its_plain.specs.declared.call.Call.TheVariants as call
use Rattle.its_plain.specs.declared.call.Route.{Route}
use Rattle.its_plain.specs.declared.call.Route.TheVariants as route
use Rattle.its_plain.specs.declared.call.Cause.{Cause}
use Rattle.its_plain.specs.declared.call.Reply.TheVariants as reply
use Rattle.its_plain.specs.declared.call.Signal.TheVariants.{Delivered, Dropped}
use Rattle.its_plain.specs.Answer.{answer, reply_of}
use Rattle.its_plain.specs.Parts.{IsIn, SamePart, footprint}
use Rattle.its_plain.specs.Plain.{Plain}
use Rattle.its_history.specs.Texts.{answered_text}
use Rattle.its_types.specs.declared.ids.Intid.{Intid}
use Rattle.its_types.specs.declared.ids.Vcpu.{Vcpu}
use Rattle.its_types.specs.declared.machine.Part.{Part}
use Rattle.its_types.specs.declared.machine.Part.TheVariants as part
use Rattle.its_plain.specs.Runs.{Phase}
use Rattle.its_fit.specs.Commuting.{IsSmall}
use Rattle.its_fit.specs.Replays.{call_at, told_at}
use Rattle.its_fit.specs.declared.told.Answered.{Answered}
use Rattle.its_fit.specs.declared.bounds.Bounds.{Bounds}
use Rattle.its_fit.specs.declared.reach.Numbers.{Numbers}
use Rattle.its_fit.specs.declared.reach.Numbers.TheVariants.{Empty, Single, Every}
use Rattle.its_fit.specs.declared.reach.Reach.{Reach}

-- ---- parts within a reach

-- a number is one of these
abbrev pub IsAmong : Numbers → ℕ → Type 0
IsAmong Empty n = ⊥
IsAmong (Single k) n = k ≡ n
IsAmong Every n = Unit {0}

abbrev pub IsWithin : Reach → Part → Type 0
IsWithin r (part.Maps its) = IsAmong r.maps its
IsWithin r part.Mem = r.memory ≡ true
IsWithin r (part.Shard its n) = ⊥
IsWithin r (part.Conf vcpu) = IsAmong r.confs vcpu.0
IsWithin r (part.Pend vcpu) = IsAmong r.pends vcpu.0

-- some number is one of both
abbrev pub meet : Numbers → Numbers → Bool
meet Empty b = false
meet (Single n) Empty = false
meet (Single n) (Single m) = n == m
meet (Single n) Every = true
meet Every Empty = false
meet Every (Single m) = true
meet Every Every = true

-- they have no part in common
abbrev pub are_apart : Reach → Reach → Bool
are_apart a b = not (meet a.maps b.maps) && (not (a.memory && b.memory) && (not (meet a.confs b.confs) && not (meet a.pends b.pends)))

-- ---- of calls

abbrev pub nothing : Reach
nothing = record { maps = Empty; memory = false; confs = Empty; pends = Empty }

abbrev pub translator : ℕ → Reach
translator its = record nothing { maps = Single its }

abbrev pub memory : Reach
memory = record nothing { memory = true }

abbrev pub registers : ℕ → Reach
registers vcpu = record nothing { confs = Single vcpu }

abbrev pub redistributor : ℕ → Reach
redistributor vcpu = record nothing { confs = Single vcpu; pends = Single vcpu }

-- a message goes to a virtual processor that the maps tell
abbrev pub message : ℕ → Reach
message its = record nothing { maps = Single its; pends = Every }

abbrev pub everything : Numbers → Reach
everything its = record { maps = its; memory = true; confs = Every; pends = Every }

abbrev pub reach_of_route : Route → Reach
reach_of_route (route.Signal its dev ev) = message its
reach_of_route route.Poke = memory
reach_of_route route.NoRequester = nothing
reach_of_route route.Frame = nothing

abbrev pub reach_of : Call → Reach
reach_of (call.Signal its dev ev) = message its
reach_of (call.Take vcpu) = redistributor vcpu.0
reach_of (call.Show vcpu) = redistributor vcpu.0
reach_of (call.Best vcpu mask) = redistributor vcpu.0
reach_of (call.Claim vcpu intid) = redistributor vcpu.0
reach_of (call.Poke addr bytes) = memory
reach_of (call.Peek addr count) = memory
reach_of (call.ReadReg its off size) = translator its
reach_of (call.WriteReg its off size value) = translator its
reach_of (call.ReadGicr vcpu off size) = registers vcpu.0
reach_of (call.WriteGicr vcpu off size value) = record (redistributor vcpu.0) { memory = true }
reach_of (call.Step its) = everything (Single its)
reach_of call.Save = everything Every
reach_of call.Copy = memory
reach_of (call.Dma req addr bytes to) = reach_of_route to

-- ---- what calls change

abbrev pub pending_at : Numbers → Reach
pending_at vcpus = record nothing { pends = vcpus }

abbrev pub changes_of_route : Route → Reach
changes_of_route (route.Signal its dev ev) = pending_at Every
changes_of_route route.Poke = memory
changes_of_route route.NoRequester = nothing
changes_of_route route.Frame = nothing

abbrev pub changes_of : Call → Reach
changes_of (call.Signal its dev ev) = pending_at Every
changes_of (call.Take vcpu) = pending_at (Single vcpu.0)
changes_of (call.Show vcpu) = nothing
changes_of (call.Best vcpu mask) = nothing
changes_of (call.Claim vcpu intid) = pending_at (Single vcpu.0)
changes_of (call.Poke addr bytes) = memory
changes_of (call.Peek addr count) = nothing
changes_of (call.ReadReg its off size) = nothing
changes_of (call.WriteReg its off size value) = translator its
changes_of (call.ReadGicr vcpu off size) = nothing
changes_of (call.WriteGicr vcpu off size value) = redistributor vcpu.0
changes_of (call.Step its) = record (everything (Single its)) { memory = false }
changes_of call.Save = memory
changes_of call.Copy = memory
changes_of (call.Dma req addr bytes to) = changes_of_route to

-- ---- messages

abbrev pub is_signal_route : Route → Bool
is_signal_route (route.Signal its dev ev) = true
is_signal_route route.Poke = false
is_signal_route route.NoRequester = false
is_signal_route route.Frame = false

-- a message to a translator
abbrev pub is_message : Call → Bool
is_message (call.Signal its dev ev) = true
is_message (call.Take vcpu) = false
is_message (call.Show vcpu) = false
is_message (call.Best vcpu mask) = false
is_message (call.Claim vcpu intid) = false
is_message (call.Poke addr bytes) = false
is_message (call.Peek addr count) = false
is_message (call.ReadReg its off size) = false
is_message (call.WriteReg its off size value) = false
is_message (call.ReadGicr vcpu off size) = false
is_message (call.WriteGicr vcpu off size value) = false
is_message (call.Step its) = false
is_message call.Save = false
is_message call.Copy = false
is_message (call.Dma req addr bytes to) = is_signal_route to

-- ---- calls that were answered

-- the virtual processors whose LPIs a message read that was sent to some: where it was dropped, any
abbrev pub read_for : Numbers → Numbers
read_for Empty = Every
read_for (Single vcpu) = Single vcpu
read_for Every = Every

-- a message that was sent to one of some virtual processors
abbrev pub sent_to : Call → Numbers → Bounds
sent_to c vcpus = record { reach = record (reach_of c) { pends = read_for vcpus }; changes = pending_at vcpus; message = true }

abbrev pub bounds_of : Call → Bounds
bounds_of c = record { reach = reach_of c; changes = changes_of c; message = false }

-- no such byte stands in a text
abbrev pub Lacks : ℕ → List ℕ → Type 0
Lacks byte [] = Unit {0}
Lacks byte (x ∷ xs) = (x ≢ byte) × Lacks byte xs

-- what the text of a message and its reply tells of its target
pub record IsSentTo (c : Call) (text : List ℕ) (vcpus : Numbers) : Type 0 where
  pub delivered : (vcpu : Vcpu) (intid : Intid) → vcpu.0 < 2 ^ 16 → text ≡ answered_text c (reply.Signal (Delivered vcpu intid)) → IsAmong vcpus vcpu.0
  pub dropped : (cause : Cause) → text ≡ answered_text c (reply.Signal (Dropped cause)) → (x : ℕ) → IsAmong (read_for vcpus) x

-- Where it is answered as a text says, a call reads or changes parts within its bounds alone, and changes none but those within them.
pub record IsBounded (c : Call) (text : List ℕ) (b : Bounds) : Type 0 where
  pub reaches : (u : Plain) (p : Part) → IsSmall u → text ≡ answered_text c (reply_of u c) → IsIn p (footprint u c) → IsWithin b.reach p
  pub stays : (u : Plain) (p : Part) → IsSmall u → text ≡ answered_text c (reply_of u c) → ¬ IsWithin b.changes p → SamePart u (answer u c).1 p
  pub message : b.message ≡ true → is_message c ≡ true

-- ---- those of a recording

-- the bounds of a call by what it was answered
pub record IsKnown (calls : Phase) (told : List (List Answered)) (i k : ℕ) (b : Bounds) : Type 0 where
  pub call : Call
  pub is_call : call_at calls i k ≡ Some call
  pub answered : Answered
  pub is_told : told_at told i k ≡ Some answered
  pub bounded : IsBounded call answered.text b
