use Rattle.std.proofs.Common.{◌≡◌}
use Rattle.std.specs.Slots.{slots_items, slots_filled, slots_len}
use Rattle.its_turns.specs.Closed.{AreTaken}
use Rattle.its_turns.proofs.ending.take_part.Given as goal

-- all slots before this one were taken
abbrev pub invariant-loop-behind : goal.invariant-loop-behind
invariant-loop-behind l =
    (slots_items l.closed.slots ≡ slots_items l.fn.closed.slots) × (slots_len l.closed.slots ≡ slots_len l.fn.closed.slots)
    × (l.closed.words ≡ l.fn.closed.words)
    × AreTaken l.behind (slots_len l.closed.slots) (slots_filled l.closed.slots)
