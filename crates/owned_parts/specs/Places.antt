-- Whether both parts of a redistributor are in hand, or neither.
use Rattle.std.specs.Prelude.{◌≡◌, ℕ, Some, None}
use Rattle.lpi_config.specs.Conf.{Conf}
use Rattle.lpi_pending.specs.InHand.{RedistParts, conf_in, pend_in}
use Rattle.lpi_pending.specs.Pend.{Pend}

-- both parts of the virtual processor's redistributor are in hand, and are these
pub record AreInHandAt (redists : RedistParts) (vcpu : ℕ) (c : Conf) (p : Pend) : Type 0 where
  pub conf : conf_in redists vcpu ≡ Some c
  pub pend : pend_in redists vcpu ≡ Some p

-- neither is in hand
pub record AreNotInHand (redists : RedistParts) (vcpu : ℕ) : Type 0 where
  pub conf : conf_in redists vcpu ≡ None
  pub pend : pend_in redists vcpu ≡ None
