use Rattle.std.specs.Vec.{vec_len}
use Rattle.guest_windows.proofs.Numbers.{no_numbering, no_rows}
use Rattle.guest_windows.proofs.draft_chunk.DraftChunk.new.Goals as goal

pub invariant_of-result-clause-numbered : goal.invariant_of-result-clause-numbered
invariant_of-result-clause-numbered c =
    no_numbering c.in_ok-numbers.numbers.items (vec_len c.new.result) c.in_ok-numbers.ensures.none c.new.ensures.len

pub returns-clause-none : goal.returns-clause-none
returns-clause-none c = no_rows c.in_ok-numbers.numbers.items c.new.result.items c.in_ok-numbers.ensures.none
