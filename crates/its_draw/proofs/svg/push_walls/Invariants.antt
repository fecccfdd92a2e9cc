use Rattle.std.proofs.Common.{◌≡◌, ◌++◌, take}
use Rattle.std.specs.List.{flat_map}
use Rattle.std.specs.String.{string_bytes}
use Rattle.its_draw.specs.Rest.{wall_text}
use Rattle.its_draw.proofs.svg.push_walls.Given as goal

abbrev pub invariant-loop-wall : goal.invariant-loop-wall
invariant-loop-wall l = string_bytes l.out ≡ string_bytes l.initial.out ++ flat_map (wall_text l.frame) (take l.wall-index l.walls)
