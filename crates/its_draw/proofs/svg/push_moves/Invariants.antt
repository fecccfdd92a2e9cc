use Rattle.std.proofs.Common.{◌≡◌, ◌++◌, take}
use Rattle.std.specs.List.{flat_map}
use Rattle.std.specs.String.{string_bytes}
use Rattle.its_draw.specs.Rest.{move_text}
use Rattle.its_draw.proofs.svg.push_moves.Given as goal

abbrev pub invariant-loop-moved : goal.invariant-loop-moved
invariant-loop-moved l = string_bytes l.out ≡ string_bytes l.initial.out ++ flat_map (move_text l.frame) (take l.moved-index l.moves)
