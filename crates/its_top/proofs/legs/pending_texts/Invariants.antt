use Rattle.std.proofs.Common.{◌≡◌, map, take}
use Rattle.its_history.specs.Report as report
use Rattle.its_top.proofs.legs.pending_texts.Given as goal

abbrev pub invariant-loop-lpis : goal.invariant-loop-lpis
invariant-loop-lpis l = l.texts ≡ map (λ lpis. report.pending_text (map (λ i. i.0) lpis)) (take l.lpis-index l.lpis-items)
