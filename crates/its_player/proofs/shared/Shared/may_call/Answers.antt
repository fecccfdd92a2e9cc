use Rattle.std.proofs.Common.{◌≡◌, true, false, sym, ◌∙◌}
use Rattle.its_player.proofs.MayTests.{all_out_decides}
use Rattle.its_player.proofs.shared.Shared.may_call.Goals as goal

pub returns-then-not-all_out : goal.returns-then-not-all_out
returns-then-not-all_out c = λ m. let two : true ≡ false = sym ((all_out_decides c.args.held.now).1 m.out)
    ∙ (sym c.all_out.ensures ∙ c.if-not-all_out.true) in cc

pub owed_after-owed-requires-clause-out : goal.owed_after-owed-requires-clause-out
owed_after-owed-requires-clause-out c = (all_out_decides c.args.held.now).0 (sym c.all_out.ensures ∙ c.if-not-all_out.false)

pub owed_after-owed-requires-clause-answered : goal.owed_after-owed-requires-clause-answered
owed_after-owed-requires-clause-answered c = let h = rw c.in-Some.is at c.in_ok-after.ensures in h.0

pub owed_after-owed-requires-clause-leaves : goal.owed_after-owed-requires-clause-leaves
owed_after-owed-requires-clause-leaves c = let h = rw c.in-Some.is at c.in_ok-after.ensures in h.1
