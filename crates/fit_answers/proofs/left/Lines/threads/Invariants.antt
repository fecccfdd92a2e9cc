use Rattle.std.proofs.Common.{◌≡◌, ◌-◌}
use Rattle.its_history.proofs.ReadLegs.{in_front}
use Rattle.fit_answers.specs.ToldText.{left, threads_from}
use Rattle.fit_answers.proofs.left.Lines.threads.Given as goal

abbrev pub invariant-loop-index : goal.invariant-loop-index
invariant-loop-index l = threads_from 0 l.count (left l.fn.self) ≡ in_front l.threads (threads_from l.index (l.count - l.index) (left l.self))
