use Rattle.report_places.proofs.Reaches.{Passing}
use Rattle.report_places.proofs.place.go_to.Given as goal

abbrev pub invariant-loop-index : goal.invariant-loop-index
invariant-loop-index l = Passing l.fn.machine l.legs l.told l.index l.machine
