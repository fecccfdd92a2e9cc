use Rattle.std.proofs.Common.{Bool, ◌∙◌, ap, refl, if◌then◌else◌, Some}
use Rattle.its_explain.specs.Book.{changer, writer}
use Rattle.its_explain.proofs.Keys.{asked_tied}
use Rattle.its_explain.proofs.book.Book.change.Goals as goal

pub returns-clause-changers : goal.returns-clause-changers
unfolding changer
returns-clause-changers c =
    λ i k. c.in_ok-insert.ensures.updates.0 (record { its = i; key = k })
    ∙ ap (λ (b : Bool). if b then Some c.args.line else changer c.args.self.now i k) (asked_tied c.args.its i c.args.key k)

pub returns-clause-writers : goal.returns-clause-writers
unfolding writer
returns-clause-writers c = λ a. refl
