use Rattle.std.proofs.Common.{◌≡◌, cond, ap, sym, ◌∙◌}
use Rattle.xlate_cache.specs.Ways.{entry, filled}
use Rattle.its_steps.specs.Parts.{stamp_of}
use Rattle.its_steps.specs.Renewal.{changed}
use Rattle.its_steps.specs.declared.change.ShardChange.{ShardChange}
use Rattle.its_player.specs.Shared.{setup_of}
use Rattle.its_player.proofs.shared.Shared.change_shard.Goals as goal

pub returns-then-is_shard_of : goal.returns-then-is_shard_of
unfolding changed
returns-then-is_shard_of c =
    let s = setup_of c.args.self.now in
    let stamp : stamp_of s c.args.to c.args.its ≡ c.stamp_of.result = sym (c.stamp_of.ensures ∙ ap (stamp_of s c.args.to) c.from.ensures) in
    let own = sym c.is_shard_of.ensures ∙ c.if-is_shard_of.true in
    c.fill.ensures.ways
    ∙ (sym (λ d. cond (own d) (filled c.args.shard.now (entry c.in-Fill.dev c.in-Fill.ev (stamp d) c.in-Fill.target)) c.args.shard.now)
    ∙ ap (λ (ch : ShardChange). changed s c.args.to c.args.commit.now.call ch c.args.its c.args.number c.args.shard.now) (sym c.in-Fill.is))

pub returns-else-is_shard_of : goal.returns-else-is_shard_of
unfolding changed
returns-else-is_shard_of c =
    let s = setup_of c.args.self.now in
    let new = filled c.args.shard.now (entry c.in-Fill.dev c.in-Fill.ev (stamp_of s c.args.to c.args.its) c.in-Fill.target) in
    let own = sym c.is_shard_of.ensures ∙ c.if-is_shard_of.false in
    sym (λ d. cond (own d) new c.args.shard.now)
    ∙ ap (λ (ch : ShardChange). changed s c.args.to c.args.commit.now.call ch c.args.its c.args.number c.args.shard.now) (sym c.in-Fill.is)
