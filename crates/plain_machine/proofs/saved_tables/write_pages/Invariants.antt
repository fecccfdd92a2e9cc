use Rattle.std.proofs.Common.{◌≡◌}
use Rattle.its_plain.specs.Saved as spec
use Rattle.plain_machine.specs.Memories.{put_all}
use Rattle.plain_machine.proofs.saved_tables.write_pages.Given as goal

abbrev pub invariant-loop-k : goal.invariant-loop-k
invariant-loop-k l = l.memory ≡ put_all l.initial.memory (spec.pages_words (record { regs = l.regs; maps = l.maps }) l.before l.k)
