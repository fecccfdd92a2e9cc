use Rattle.std.proofs.Common.{◌≡◌, length}
use Rattle.its_history.specs.Reading.{parts}
use Rattle.its_history.proofs.ReadLegs.{in_front}
use Rattle.fit_answers.specs.ToldText.{calls_from}
use Rattle.fit_answers.proofs.left.Lines.calls.Given as goal

abbrev pub invariant-loop-line : goal.invariant-loop-line
invariant-loop-line l =
    calls_from l.thread 0 l.fn.self.number (parts l.fn.self.rest.now)
    ≡ in_front l.calls (calls_from l.thread l.last l.self.number (parts l.self.rest.now))

abbrev pub decreases-loop-line : goal.decreases-loop-line
decreases-loop-line l = length l.self.rest.now
