-- What the parts of a machine owe: those outside a call's footprint stay, and those within it decide the answer.
use Rattle.std.specs.Prelude.{◌≡◌, ℕ, length}
use Rattle.its_types.specs.declared.machine.Part.{Part}
use Rattle.its_plain.specs.Plain.{Plain}
use Rattle.its_plain.specs.Sound.{IsSound}
use Rattle.its_plain.specs.Answer.{answer, reply_of, step_reply, step_left, went_on}
use Rattle.its_plain.specs.Parts.{SamePart, IsIn, AgreesOn, footprint}
use Rattle.its_command.specs.declared.command.Op.{Op}
use Rattle.its_plain.specs.declared.call.Call.{Call}
use Rattle.its_plain.specs.declared.call.Reason.{Reason}
use Rattle.its_plain.specs.declared.call.StepReply.TheVariants.{Refused}

-- a call changes no part outside its footprint; a sound state has just the redistributors that its layout says
abbrev pub OtherPartsStay : Type 0
OtherPartsStay = (u : Plain) (c : Call) (p : Part) → IsSound u → ¬ IsIn p (footprint u c) → SamePart u (answer u c).1 p

-- two states of one machine that have a call's footprint in common answer it alike, and have those parts in common afterwards
abbrev pub FootprintDecides : Type 0
FootprintDecides =
    (u w : Plain) (c : Call) → AgreesOn u w (footprint u c)
    → (reply_of u c ≡ reply_of w c) × ((p : Part) → IsIn p (footprint u c) → SamePart (answer u c).1 (answer w c).1 p)

-- no call changes the layout
abbrev pub LayoutStays : Type 0
LayoutStays = (u : Plain) (c : Call) → IsSound u → u.layout ≡ (answer u c).1.layout

-- there are just the redistributors that the layout says
pub record HasRedistributors (u : Plain) : Type 0 where
  pub vcpus : length u.redistributors ≡ u.layout.shape.vcpus

-- a call changes neither the layout nor how many translators there are, and no part outside its footprint
pub record LeavesOthers (u : Plain) (c : Call) : Type 0 where
  pub layout : u.layout ≡ (answer u c).1.layout
  pub translators : length u.translators ≡ length (answer u c).1.translators
  pub parts : (p : Part) → ¬ IsIn p (footprint u c) → SamePart u (answer u c).1 p

-- so it is of every state with its redistributors, sound or not
abbrev pub CallsLeaveOthers : Type 0
CallsLeaveOthers = (u : Plain) (c : Call) → HasRedistributors u → LeavesOthers u c

-- two states of one machine that have a call's footprint in common have the same footprint of it
abbrev pub FootprintsAreAlike : Type 0
FootprintsAreAlike = (u w : Plain) (c : Call) → AgreesOn u w (footprint u c) → footprint u c ≡ footprint w c

-- a refused command changes nothing but CREADR, which goes on
abbrev pub RefusedChangesNothing : Type 0
RefusedChangesNothing = (u : Plain) (its : ℕ) (op : Op) (reason : Reason) → step_reply u its ≡ Refused op reason → step_left u its ≡ went_on its u
