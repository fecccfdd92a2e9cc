use Rattle.std.proofs.Common.{◌≡◌, drop}
use Rattle.its_plain.specs.Doorbells.{rung}
use Rattle.dma_routes.proofs.routes.rung.Given as goal

abbrev pub invariant-loop-its : goal.invariant-loop-its
invariant-loop-its l = rung l.its l.addr.0 l.count (drop l.its l.translators) ≡ rung 0 l.addr.0 l.count l.translators
