-- A part of a redistributor that is lent out of its place.
use Rattle.std.specs.Prelude.{ℕ, Some}
use Rattle.std.specs.Borrow.{Lends, MutBor, Fml}
use Rattle.lpi_config.specs.Conf.{Conf}
use Rattle.lpi_config.specs.contracts.conf.Conf.{the_row as conf_row}
use Rattle.lpi_pending.specs.InHand.{RedistParts, set_conf, set_pend}
use Rattle.lpi_pending.specs.Pend.{Pend}
use Rattle.lpi_pending.specs.contracts.pend.Pend.{the_row as pend_row}
use Rattle.lpi_pending.specs.contracts.places.HeldConf.{the_row as held_conf_row}
use Rattle.lpi_pending.specs.contracts.places.HeldPend.{the_row as held_pend_row}
use Rattle.lpi_pending.specs.contracts.places.Redists.{the_row as redists_row}

-- the box holds what is last written
abbrev pub LendsHeldConf : MutBor Conf → MutBor Conf → Fml
LendsHeldConf held lent = Lends held_conf_row conf_row held lent (λ c. c)

abbrev pub LendsHeldPend : MutBor Pend → MutBor Pend → Fml
LendsHeldPend held lent = Lends held_pend_row pend_row held lent (λ p. p)

-- the place of one virtual processor holds what is last written, and the others what they held
abbrev pub LendsConf : MutBor RedistParts → ℕ → MutBor Conf → Fml
LendsConf redists vcpu lent = Lends redists_row conf_row redists lent (λ c. set_conf redists.now vcpu (Some c))

abbrev pub LendsPend : MutBor RedistParts → ℕ → MutBor Pend → Fml
LendsPend redists vcpu lent = Lends redists_row pend_row redists lent (λ p. set_pend redists.now vcpu (Some p))
