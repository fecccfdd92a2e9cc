use Rattle.std.proofs.Common.{take}
use Rattle.std.specs.List.{AllByRecursion}
use Rattle.its_player.specs.Shared.{setup_of}
use Rattle.its_player.proofs.MayTests.{KeepsPair}
use Rattle.its_player.proofs.shared.Shared.keeps_pairs.Given as goal

abbrev pub invariant-loop-pair : goal.invariant-loop-pair
invariant-loop-pair l = AllByRecursion (KeepsPair (setup_of l.self) l.its l.owed l.before l.after) (take l.pair-index l.pair-items)
