use Rattle.std.proofs.Common.{◌≡◌, true, false, sym, ap, ◌∙◌}
use Rattle.its_plain.specs.Answer.{left}
use Rattle.its_player.proofs.answers.left_by.Goals as goal

pub returns-then-equals : goal.returns-then-equals
returns-then-equals c =
    let same : c.in_ok-after.answer ≡ c.args.reply.now = c.equals.ensures.0 c.if-equals.true in
    (sym same ∙ c.in_ok-after.ensures.reply, c.in_ok-after.ensures.left ∙ ap (left c.args.state c.args.call.now) same)

pub returns-else-equals : goal.returns-else-equals
returns-else-equals c = λ h.
    let same : c.in_ok-after.answer ≡ c.args.reply.now = c.in_ok-after.ensures.reply ∙ sym h in
    let two : true ≡ false = sym (c.equals.ensures.1 same) ∙ c.if-equals.false in
    cc
