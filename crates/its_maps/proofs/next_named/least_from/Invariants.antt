use Rattle.std.proofs.Common.{ℕ, take}
use Rattle.std.specs.List.{sum_by}
use Rattle.its_maps.specs.Counting.{is_named}
use Rattle.its_maps.specs.NextNamed.{IsNext}
use Rattle.its_maps.proofs.next_named.least_from.Given as goal

-- of the ICIDs so far
abbrev pub invariant-loop-icid : goal.invariant-loop-icid
invariant-loop-icid l = IsNext (λ n. sum_by (λ i. is_named i.0 n) (take l.icid-index l.icids)) l.from l.least
