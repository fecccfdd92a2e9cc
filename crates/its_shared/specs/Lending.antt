-- What the loan of the pass of a handle leaves of the handle.
use Rattle.std.specs.Prelude.{Some}
use base.Fml.{Fml}
use denote.Ref.{MutBor}
use denote.Follow.{follows}
use Rattle.its_shared.specs.Knowing.{Known}
use Rattle.its_shared.specs.declared.pass.Pass.{Pass}
use Rattle.its_shared.specs.contracts.pass.Pass.{the_row as handle_row}
use Rattle.its_shared.specs.contracts.port.Port.{the_row as port_row}

-- the handle, once its pass knows k
abbrev pub holding : Pass → Known → Pass
holding handle k = record { at = handle.at; alloc = handle.alloc; known = Some k }

-- at the loan's end the handle's pass knows what was last written through it
abbrev pub port_follows : MutBor Pass → MutBor Known → Fml
port_follows handle loan = follows handle_row port_row handle.ghost_name loan.ghost_name (holding handle.now)
