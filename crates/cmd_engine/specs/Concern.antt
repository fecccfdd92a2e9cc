-- Whom a step concerns.
use Rattle.std.specs.Prelude.{◌≡◌, ◌⊎◌, ℕ, Bool, true, false, List, [], ◌∷◌, ◌++◌, Result, Ok, Err, slice_get}
use Rattle.its_types.specs.declared.machine.Placed.{Placed}
use Rattle.its_plain.specs.Answer.{step_reply, step_left}
use Rattle.its_plain.specs.History.{after}
use Rattle.its_plain.specs.Parts.{footprint, conf, pend, IsIn}
use Rattle.its_plain.specs.Plain.{Plain}
use Rattle.its_plain.specs.declared.call.Call.TheVariants as call
use Rattle.its_plain.specs.declared.call.Entry.{Entry}
use Rattle.its_plain.specs.declared.call.Reply.{Reply}
use Rattle.its_plain.specs.declared.call.Reply.TheVariants as reply
use Rattle.its_plain.specs.declared.call.StepReply.{StepReply}
use Rattle.its_plain.specs.declared.call.StepReply.TheVariants.{Idle, Ran, Refused, QueueFault}
use Rattle.owned_parts.specs.RedistSets.{is_in}
use Rattle.owned_parts.specs.declared.redist_set.RedistSet.{RedistSet}
use Rattle.its_turns.specs.declared.turns.Busy.{Busy}
use Rattle.cmd_engine.specs.declared.missed.Missed.{Missed}
use Rattle.cmd_engine.specs.declared.stepped.Stepped.{Stepped}
use Rattle.cmd_engine.specs.declared.tried.Tried.{Tried}
use Rattle.cmd_engine.specs.declared.tried.Tried.TheVariants as tried

-- its reply, as the history has it
abbrev pub step_said : Stepped → Reply
step_said s = reply.Step s.reply

-- the same try, which tells the reply alone
abbrev pub untold_of : Tried Stepped → Tried StepReply
untold_of (tried.Done p) = tried.Done (record { place = p.place; reply = p.reply.reply })
untold_of (tried.Busy b) = tried.Busy b
untold_of (tried.Raced r) = tried.Raced r
untold_of tried.Late = tried.Late
untold_of tried.Spent = tried.Spent
untold_of tried.NoMemory = tried.NoMemory
untold_of tried.Full = tried.Full

-- ---- in a state

-- a command was taken that wasn't refused
abbrev pub is_ran : StepReply → Bool
is_ran (Ran op) = true
is_ran (Refused op reason) = false
is_ran (QueueFault addr) = false
is_ran Idle = false

-- the next step of translator number i runs its command, and reads or changes the configuration of the virtual processor or what is pending there
pub record IsConcerned (u : Plain) (i vcpu : ℕ) : Type 0 where
  pub ran : is_ran (step_reply u i) ≡ true
  pub part : IsIn (conf vcpu) (footprint u (call.Step i)) ⊎ IsIn (pend vcpu) (footprint u (call.Step i))

-- it leaves the redistributor of each virtual processor that isn't named
abbrev pub UnconcernedStay : Plain → ℕ → RedistSet → Type 0
UnconcernedStay u i set = (vcpu : ℕ) → is_in set vcpu ≡ false → slice_get (step_left u i).redistributors vcpu ≡ slice_get u.redistributors vcpu

-- and concerns each that is
abbrev pub AreConcerned : Plain → ℕ → RedistSet → Type 0
AreConcerned u i set = (vcpu : ℕ) → is_in set vcpu ≡ true → IsConcerned u i vcpu

pub record Concerns (u : Plain) (i : ℕ) (set : RedistSet) : Type 0 where
  pub others : UnconcernedStay u i set
  pub named : AreConcerned u i set

-- ---- in the state before the last call, after which this was seen of a machine that began so

abbrev pub BeforeLast : (Plain → Type 0) → Plain → List Entry → Type 0
BeforeLast P start seen = (before : List Entry) (last : Entry) → seen ≡ before ++ last ∷ [] → P (after start before)

-- a step that was made tells whom it concerned
abbrev pub TellsMade : Plain → ℕ → List Entry → Result (Placed Stepped) Missed → Type 0
TellsMade start i seen (Ok p) = BeforeLast (λ u. Concerns u i p.reply.concerned) start seen
TellsMade start i seen (Err m) = Unit {0}

abbrev pub TellsOnce : Plain → ℕ → List Entry → Result (Result (Placed Stepped) Missed) Busy → Type 0
TellsOnce start i seen (Ok made) = TellsMade start i seen made
TellsOnce start i seen (Err b) = Unit {0}

-- as the whole call answers it
abbrev pub TellsOthers : Plain → ℕ → List Entry → Tried Stepped → Type 0
TellsOthers start i seen (tried.Done p) = BeforeLast (λ u. UnconcernedStay u i p.reply.concerned) start seen
TellsOthers start i seen other = Unit {0}

abbrev pub TellsConcerned : Plain → ℕ → List Entry → Tried Stepped → Type 0
TellsConcerned start i seen (tried.Done p) = BeforeLast (λ u. AreConcerned u i p.reply.concerned) start seen
TellsConcerned start i seen other = Unit {0}
