-- What a write has in hand that waits for nobody.
use Rattle.std.specs.Prelude.{◌≡◌, true, None, is_some}
use Rattle.gicr_regs.specs.Registers.{reads_tables}
use Rattle.its_types.specs.declared.machine.Part.TheVariants as part
use Rattle.its_steps.specs.Contents.{Conf}
use Rattle.its_steps.specs.Parts.{Setup}
use Rattle.its_steps.specs.World.{View}
use Rattle.its_turns.specs.Told.{HasStood}
use Rattle.owned_parts.specs.Owned.{conf_state}
use Rattle.gicr_lpi.specs.Accesses.{asked, IsOfWrite}
use Rattle.gicr_lpi.specs.Hands.{state_of, held_of, HasEnough, IsHand}
use Rattle.gicr_lpi.specs.Tries.{GotAtOnce}
use Rattle.gicr_lpi.specs.declared.access.GicrAccess.{GicrAccess}
use Rattle.gicr_lpi.specs.declared.hand.Hand.{Hand}

-- the configuration, with memory where it says that tables are to be read
pub record HasRegisters (s : Setup) (a : GicrAccess) (v : View) (h : Hand) (w : View) : Type 0 where
  pub took : GotAtOnce (IsOfWrite s a) v w
  pub held : w.held ≡ held_of a.vcpu (state_of h)
  pub memory : reads_tables (asked a (conf_state h.conf.value)) ≡ true → is_some h.memory ≡ true
  pub stood : HasStood s (part.Conf a.vcpu) (Conf (conf_state h.conf.value))
  pub none : h.pend ≡ None
  pub hand : IsHand s.start.layout.shape h

-- all that the write needs
pub record HasHand (s : Setup) (a : GicrAccess) (v : View) (h : Hand) (w : View) : Type 0 where
  pub took : GotAtOnce (IsOfWrite s a) v w
  pub held : w.held ≡ held_of a.vcpu (state_of h)
  pub enough : HasEnough a (state_of h)
  pub stood : HasStood s (part.Conf a.vcpu) (Conf (conf_state h.conf.value))
  pub hand : IsHand s.start.layout.shape h
