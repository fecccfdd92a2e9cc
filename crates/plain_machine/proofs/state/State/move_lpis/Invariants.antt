use Rattle.std.proofs.Common.{◌≡◌, drop}
use Rattle.its_plain.specs.Commands.{lpis_moved}
use Rattle.plain_machine.proofs.state.State.move_lpis.Given as goal

abbrev pub invariant-loop-intid : goal.invariant-loop-intid
invariant-loop-intid l = lpis_moved (drop l.intid-index l.intids) l.from l.to l.self ≡ lpis_moved l.intids l.from l.to l.initial.self
