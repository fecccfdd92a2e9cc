use Rattle.std.proofs.Common.{◌≡◌, true, false, sym, ◌∙◌}
use Rattle.its_plain.specs.Parts.{footprint}
use Rattle.its_player.proofs.MayTests.{covers_decides, answered_so}
use Rattle.its_player.proofs.answers.answered.Goals as goal

pub returns-then-are_held : goal.returns-then-are_held
returns-then-are_held c = answered_so c.args.state c.args.call.now c.args.reply.now c.args.held.now
    (sym c.in-Ok.ensures ∙ c.if-are_held.true) c.left_by.result c.left_by.ensures

pub returns-else-are_held : goal.returns-else-are_held
returns-else-are_held c = λ a.
    let passes = (covers_decides c.args.held.now (footprint c.args.state c.args.call.now)).1 a.covers in
    let two : true ≡ false = sym passes ∙ (sym c.in-Ok.ensures ∙ c.if-are_held.false) in
    cc
