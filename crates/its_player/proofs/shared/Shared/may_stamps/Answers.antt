use Rattle.std.proofs.Common.{◌≡◌, true, false, sym, ap, ◌∙◌, arith}
use borrow.Author.Count.{below_more}
use Rattle.std.proofs.Common.{length}
use Rattle.its_steps.specs.MayCall.{MayStamp}
use Rattle.its_player.specs.Shared.{setup_of}
use Rattle.its_player.proofs.shared.Shared.may_stamps.Goals as goal

pub returns-then-not-may : goal.returns-then-not-may
returns-then-not-may c = (
  (λ e. absurd cc),
  (λ f. absurd (let two : true ≡ false =
      sym (c.in_ok-may.ensures.1 (f c.loop-its.its (let lt = c.loop-its-test.true in omega (arith, lt, ap length c.translators-its-end.ensures))))
      ∙ c.if-not-may.true in cc)),
)

pub loop-its-preserved : goal.loop-its-preserved
loop-its-preserved c = below_more (MayStamp (setup_of c.args.self.now) c.args.commit.now c.args.held.now c.args.owed.now) c.loop-its.its c.loop-its.invariant
    (c.in_ok-may.ensures.0 c.if-not-may.false)
