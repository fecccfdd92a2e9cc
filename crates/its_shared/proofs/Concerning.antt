-- Whom a step through a pass concerned.
use Rattle.std.proofs.Common.{◌≡◌, ℕ, List, refl, sym, ◌∙◌}
use Rattle.its_plain.specs.Plain.{Plain}
use Rattle.its_plain.specs.declared.call.Entry.{Entry}
use Rattle.its_plain.specs.declared.call.Reply.TheVariants as reply
use Rattle.its_plain.specs.declared.call.StepReply.{StepReply}
use Rattle.its_plain.specs.declared.call.StepReply.TheVariants.{Idle, Ran, Refused, QueueFault}
use Rattle.its_numbers.specs.Codes as codes
use Rattle.its_numbers.specs.Replies.{step_out}
use Rattle.its_steps.specs.World.{View}
use Rattle.cmd_engine.specs.Concern.{step_said, BeforeLast, TellsOthers, TellsConcerned}
use Rattle.cmd_engine.specs.declared.stepped.Stepped.{Stepped}
use Rattle.cmd_engine.specs.declared.tried.Tried.{Tried}
use Rattle.cmd_engine.specs.declared.tried.Tried.TheVariants as tried
use Rattle.its_shared.specs.Answers.{Answers, answer_of_tried}
use Rattle.its_shared.specs.Asked as asked
use Rattle.its_shared.specs.Concerns.{untold_answer, NamesConcerned, HaveBitsOf, UnconcernedStay, AreConcerned}
use Rattle.its_shared.specs.Telling.{code_of, place_after, is_done}
use Rattle.its_shared.specs.declared.answer.Answer.{Answer}
use Rattle.its_shared.specs.declared.answer.Answer.TheVariants.{Made, Busy, Spent, NoMemory, Full}

-- what a port says of a try
pub names_concerned : (its : ℕ) (start : Plain) (seen : List Entry) (t : Tried Stepped) → TellsOthers start its seen t → TellsConcerned start its seen t
    → NamesConcerned its start seen (answer_of_tried t)
names_concerned its start seen (tried.Done p) others named =
    λ before last is. record { others = others before last is; named = named before last is }
names_concerned its start seen (tried.Busy b) others named = tt
names_concerned its start seen (tried.Raced r) others named = tt
names_concerned its start seen tried.Late others named = tt
names_concerned its start seen tried.Spent others named = tt
names_concerned its start seen tried.NoMemory others named = tt
names_concerned its start seen tried.Full others named = tt

-- the reply alone is an answer of the same call, with the same number
pub untold_answers : (its : ℕ) (v w : View) (a : Answer Stepped) → Answers (asked.step its) step_said v w a
    → Answers (asked.step its) (λ (k : StepReply). reply.Step k) v w (untold_answer a)
untold_answers its v w (Made p) t = t
untold_answers its v w Busy t = t
untold_answers its v w Spent t = t
untold_answers its v w NoMemory t = t
untold_answers its v w Full t = t

pub untold_code : (a : Answer Stepped) → code_of is_done a ≡ code_of is_done (untold_answer a)
untold_code (Made p) = refl
untold_code Busy = refl
untold_code Spent = refl
untold_code NoMemory = refl
untold_code Full = refl

pub untold_place : (a : Answer Stepped) (place : ℕ) → place_after a place ≡ place_after (untold_answer a) place
untold_place (Made p) place = refl
untold_place Busy place = refl
untold_place Spent place = refl
untold_place NoMemory place = refl
untold_place Full place = refl

-- the words that were told
pub words_told : (r : StepReply) (words : List ℕ) → (step_out r words).concerned ≡ words
words_told Idle words = refl
words_told (Ran op) words = refl
words_told (Refused op why) words = refl
words_told (QueueFault at) words = refl

-- ---- as a number

busy_apart : codes.busy ≡ codes.done → ⊥
busy_apart e = cc

spent_apart : codes.spent ≡ codes.done → ⊥
spent_apart e = cc

no_memory_apart : codes.no_memory ≡ codes.done → ⊥
no_memory_apart e = cc

full_apart : codes.full ≡ codes.done → ⊥
full_apart e = cc

module _ (its : ℕ) (start : Plain) (seen : List Entry) (words : List ℕ) where
  -- the bits are those of whom it concerned
  pub names_words : (a : Answer Stepped) (code : ℕ) → code ≡ code_of is_done a → NamesConcerned its start seen a → HaveBitsOf words a → code ≡ codes.done
      → BeforeLast (λ u. UnconcernedStay words its u × AreConcerned words its u) start seen
  names_words (Made p) code is names bits done = λ before last eq. (
    λ vcpu below clear. (names before last eq).others vcpu (sym (bits vcpu below) ∙ clear),
    λ vcpu below set. (names before last eq).named vcpu (sym (bits vcpu below) ∙ set),
  )
  names_words Busy code is names bits done = absurd (busy_apart (sym is ∙ done))
  names_words Spent code is names bits done = absurd (spent_apart (sym is ∙ done))
  names_words NoMemory code is names bits done = absurd (no_memory_apart (sym is ∙ done))
  names_words Full code is names bits done = absurd (full_apart (sym is ∙ done))
