use Rattle.std.proofs.Common.{sym, ◌∙◌}
use borrow.Author.Count.{below_more}
use Rattle.its_types.specs.declared.machine.Part.TheVariants as part
use Rattle.its_steps.specs.Good.{Holds}
use Rattle.its_player.proofs.MayTests.{holds_sure, holds_not}
use Rattle.its_player.proofs.stamps.holds_shards.Goals as goal

pub returns-then-not-holds_shard : goal.returns-then-not-holds_shard
returns-then-not-holds_shard c = (
  (λ e. absurd cc),
  (λ f. absurd (holds_not (part.Shard c.args.its c.loop-n.n) c.args.held.now (sym c.holds_shard.ensures ∙ c.if-not-holds_shard.true)
      (f c.loop-n.n c.loop-n-test.true))),
)

pub loop-n-preserved : goal.loop-n-preserved
loop-n-preserved c = below_more (λ k. Holds (part.Shard c.args.its k) c.args.held.now) c.loop-n.n c.loop-n.invariant
    (holds_sure (part.Shard c.args.its c.loop-n.n) c.args.held.now (sym c.holds_shard.ensures ∙ c.if-not-holds_shard.false))
