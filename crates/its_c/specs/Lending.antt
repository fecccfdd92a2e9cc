-- What the loan of the machine of a handle leaves of the handle.
use Rattle.std.specs.Prelude.{Some}
use base.Fml.{Fml}
use denote.Ref.{MutBor}
use denote.Follow.{follows}
use Rattle.its_c.specs.Keeping.{Held}
use Rattle.its_c.specs.declared.handle.Handle.{Handle}
use Rattle.its_c.specs.contracts.handle.Handle.{the_row as handle_row}
use Rattle.its_c.specs.contracts.kept.Kept.{the_row as machine_row}

-- the handle, once its machine is in the state u
abbrev pub holding : Handle → Held → Handle
holding handle h = record { at = handle.at; alloc = handle.alloc; machine = Some h }

-- at the loan's end the handle's machine is in the state that was last written through it
abbrev pub machine_follows : MutBor Handle → MutBor Held → Fml
machine_follows handle loan = follows handle_row machine_row handle.ghost_name loan.ghost_name (holding handle.now)
