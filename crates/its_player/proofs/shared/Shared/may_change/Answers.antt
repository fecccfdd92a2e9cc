use Rattle.std.proofs.Common.{◌≡◌, sym, subst, ◌∙◌}
use Rattle.std.specs.Bool.{Decides}
use Rattle.its_types.specs.declared.machine.Part.{Part}
use Rattle.its_types.specs.declared.machine.Part.TheVariants as part
use Rattle.its_steps.specs.Good.{Holds}
use Rattle.its_steps.specs.MayCall.{MayChange}
use Rattle.its_steps.specs.Renewal.{shard_of}
use Rattle.its_player.specs.Shared.{setup_of}
use Rattle.its_steps.specs.declared.change.ShardChange.{ShardChange}
use Rattle.its_player.proofs.HeldTests.{holds_decides}
use Rattle.its_player.proofs.shared.Shared.may_change.Goals as goal

pub returns-in-Drop : goal.returns-in-Drop
returns-in-Drop c =
    let s = setup_of c.args.self.now in
    let P : ShardChange → Type 0 = λ ch. Decides c.holds.result (MayChange s c.args.commit.now.call ch c.args.after.now c.args.held.now) in
    let Q : Part → Type 0 = λ p. Decides c.holds.result (Holds p c.args.held.now) in
    let same : part.Shard c.its_of.result c.shard_of.result ≡ shard_of s c.args.commit.now.call c.in-Drop.dev c.in-Drop.ev =
    (λ d. part.Shard (c.its_of.ensures d) (c.shard_of.ensures d)) in
    let h = holds_decides (part.Shard c.its_of.result c.shard_of.result) c.args.held.now in
    subst P (sym c.in-Drop.is) (subst Q same ((λ e. h.0 (sym c.holds.ensures ∙ e)), (λ e. c.holds.ensures ∙ h.1 e)))
