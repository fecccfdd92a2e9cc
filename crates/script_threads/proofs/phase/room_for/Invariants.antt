use Rattle.std.proofs.Common.{◌≡◌, take, vec_len}
use Rattle.script_threads.specs.Jobs.{HasRoom}
use Rattle.script_threads.proofs.phase.room_for.Given as goal

abbrev pub invariant-loop-calls : goal.invariant-loop-calls
invariant-loop-calls l = (vec_len l.lists ≡ l.calls-index) × HasRoom (take l.calls-index l.threads) l.lists.items
