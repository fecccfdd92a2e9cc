-- An answer that was put where a caller wants it.
use Rattle.std.proofs.Common.{ℕ, List}
use Rattle.its_answers.specs.declared.status.Status.{Status}
use Rattle.its_web.specs.Answers.{IsCaused, IsGiven, IsPut, status_of, text_of}
use Rattle.its_web.specs.declared.answers.Answer.{Answer}
use Rattle.its_web.specs.declared.answers.Answer.TheVariants.{Answered, Refused}

pub given : (causes : Status → List ℕ → Type 0) (a : Answer) (number : ℕ) (old new : List ℕ) (len : ℕ) → IsCaused causes a
    → IsPut (status_of a) (text_of a) number old new len → IsGiven causes number old new len
given causes (Answered e) number old new len h p = record { status = status_of (Answered e); text = text_of (Answered e); caused = h; put = p }
given causes (Refused s) number old new len h p = record { status = s; text = text_of (Refused s); caused = h; put = p }
