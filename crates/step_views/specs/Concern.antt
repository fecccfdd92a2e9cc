-- Whom a step concerns.
use Rattle.std.specs.Prelude.{◌≡◌, ◌⊎◌, ℕ, true}
use Rattle.its_plain.specs.Answer.{step_reply}
use Rattle.its_plain.specs.Parts.{footprint, conf, pend, IsIn}
use Rattle.its_plain.specs.Plain.{Plain}
use Rattle.its_plain.specs.declared.call.Call.TheVariants as call
use Rattle.step_views.specs.Counts.{is_ran}

-- the step of translator number i runs its command, and reads or changes the configuration of the virtual processor or what is pending there
pub record IsConcerned (u : Plain) (i vcpu : ℕ) : Type 0 where
  pub ran : is_ran (step_reply u i) ≡ true
  pub part : IsIn (conf vcpu) (footprint u (call.Step i)) ⊎ IsIn (pend vcpu) (footprint u (call.Step i))
