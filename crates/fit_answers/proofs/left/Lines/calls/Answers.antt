use Rattle.std.proofs.Common.{◌≡◌, ◌∙◌, ◌++◌, ◌∷◌, ℕ, List, [], rules, sym, ap}
use Rattle.its_history.specs.Reading.{parts}
use Rattle.its_history.proofs.ReadLegs.{in_front}
use Rattle.its_fit.specs.declared.told.Answered.{Answered}
use Rattle.fit_answers.specs.ToldText.{answered_by, calls_from, left}
use Rattle.fit_answers.proofs.ToldLines.{calls_on, calls_stop}
use Rattle.fit_answers.proofs.left.Lines.calls.Goals as goal

pub loop-line-preserved : goal.loop-line-preserved
loop-line-preserved c =
    let l = c.loop-line in let line = c.in-Some.line in let after = c.in-Some.after in
    let pushed : l.calls ++ answered_by line ∷ [] ≡ c.push.new.self =
    ap (λ (t : List ℕ). l.calls ++ (let a : Answered = record { span = line.span; text = t } in a) ∷ []) (sym c.in_ok-text.ensures)
    ∙ sym c.in_ok-push.ensures.ok in
    l.invariant ∙ calls_on l.calls c.args.thread l.last (left l.self) (answered_by line) (left after) (sym c.in-Some.ensures.said) (search rules)
    ∙ ap (λ (xs : List Answered). in_front xs (calls_from c.args.thread line.span.end after.number (parts after.rest.now))) pushed

pub returns-then-not-is_in_order : goal.returns-then-not-is_in_order
returns-then-not-is_in_order c =
    let l = c.loop-line in
    l.invariant ∙ calls_stop l.calls c.args.thread l.last (left l.self) (answered_by c.in-Some.line) (left c.in-Some.after) (sym c.in-Some.ensures.said)
    (search rules)
