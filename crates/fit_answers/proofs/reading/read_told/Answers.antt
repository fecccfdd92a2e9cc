use Rattle.std.proofs.Common.{◌≡◌, ◌∙◌, false, length, refl, sym}
use Rattle.its_history.specs.Reading.{is_over, parts}
use Rattle.its_history.proofs.ReadLines.{above_zero, not_over}
use Rattle.fit_answers.specs.ToldText.{left}
use Rattle.fit_answers.proofs.ToldLines.{told_at}
use Rattle.fit_answers.proofs.reading.read_told.Goals as goal

pub returns-else-is_empty : goal.returns-else-is_empty
returns-else-is_empty c =
    let rest = c.pending_lists.new.self.rest.now in
    let over : is_over (parts rest) ≡ false = not_over rest (above_zero (length rest) (sym c.is_empty.ensures ∙ c.if-is_empty.false)) in
    told_at c.args.threads c.args.vcpus (parts c.args.text.now) c.in_ok-threads.threads c.in_ok-pending.pending (left c.threads.new.self)
    (left c.pending_lists.new.self) c.in_ok-threads.ensures c.in_ok-pending.ensures
    ∙ rw over refl
