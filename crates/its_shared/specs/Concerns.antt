-- Whom a step through a pass concerned.
use Rattle.std.specs.Prelude.{◌≡◌, ◌<◌, ℕ, List, true, false, slice_get}
use Rattle.its_types.specs.Bitmap.{word_bit}
use Rattle.its_types.specs.Ranges.{most_vcpus}
use Rattle.its_plain.specs.Answer.{step_left}
use Rattle.its_plain.specs.Plain.{Plain}
use Rattle.its_plain.specs.declared.call.Entry.{Entry}
use Rattle.its_plain.specs.declared.call.StepReply.{StepReply}
use Rattle.owned_parts.specs.RedistSets.{is_in}
use Rattle.cmd_engine.specs.Concern.{IsConcerned, Concerns, BeforeLast}
use Rattle.cmd_engine.specs.declared.stepped.Stepped.{Stepped}
use Rattle.its_shared.specs.declared.answer.Answer.{Answer}
use Rattle.its_shared.specs.declared.answer.Answer.TheVariants.{Made, Busy, Spent, NoMemory, Full}

-- ---- of an answer

-- its reply alone
abbrev pub untold_answer : Answer Stepped → Answer StepReply
untold_answer (Made p) = Made (record { place = p.place; reply = p.reply.reply })
untold_answer Busy = Busy
untold_answer Spent = Spent
untold_answer NoMemory = NoMemory
untold_answer Full = Full

-- a step that was made names whom it concerned in the state before it, the last call that was seen
abbrev pub NamesConcerned : ℕ → Plain → List Entry → Answer Stepped → Type 0
NamesConcerned its start seen (Made p) = BeforeLast (λ u. Concerns u its p.reply.concerned) start seen
NamesConcerned its start seen other = Unit {0}

-- these words have the bits of those that it concerned
abbrev pub HaveBitsOf : List ℕ → Answer Stepped → Type 0
HaveBitsOf words (Made p) = (vcpu : ℕ) → vcpu < most_vcpus → word_bit words vcpu ≡ is_in p.reply.concerned vcpu
HaveBitsOf words other = Unit {0}

-- ---- as a caller in another language is told it

-- a virtual processor whose bit is clear is after the next step of a translator as it was
abbrev pub UnconcernedStay : List ℕ → ℕ → Plain → Type 0
UnconcernedStay words its u =
    (vcpu : ℕ) → vcpu < most_vcpus → word_bit words vcpu ≡ false → slice_get (step_left u its).redistributors vcpu ≡ slice_get u.redistributors vcpu

-- one whose bit is set has its pending LPIs or its configuration read or changed by a command that isn't refused
abbrev pub AreConcerned : List ℕ → ℕ → Plain → Type 0
AreConcerned words its u = (vcpu : ℕ) → vcpu < most_vcpus → word_bit words vcpu ≡ true → IsConcerned u its vcpu
