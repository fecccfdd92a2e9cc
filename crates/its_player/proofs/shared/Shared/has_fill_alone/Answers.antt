use Rattle.std.proofs.Common.{◌≡◌, sym, subst, ◌∙◌}
use Rattle.std.specs.Bool.{Decides}
use Rattle.its_types.specs.declared.machine.Part.{Part}
use Rattle.its_types.specs.declared.machine.Part.TheVariants as part
use Rattle.its_steps.specs.MayCall.{HasFillsAlone}
use Rattle.its_player.specs.Contents.{content_of}
use Rattle.its_player.specs.Shared.{setup_of}
use Rattle.its_player.specs.declared.content.Content.{Content}
use Rattle.its_player.specs.declared.content.Content.TheVariants.{Shard}
use Rattle.its_player.proofs.shared.Shared.has_fill_alone.Goals as goal

pub returns : goal.returns
returns c =
    let other : c.in-Shard.other ≡ c.args.its = sym c.from.ensures ∙ c.if-from-its.false in
    let P : Part × Content → Type 0 = λ k. Decides c.holds_only.result
    (HasFillsAlone (setup_of c.args.self.now) c.args.to c.args.commit.now.call c.args.commit.now.change c.args.its k.0 (content_of k.1)) in
    let there : P (part.Shard c.in-Shard.other c.in-Shard.field-1, Shard c.in-Shard-owed.shard) = (
      (λ e. λ same k entry at. c.fill_of.ensures.fill entry (c.holds_only.ensures.only.0 e k entry at)),
      (λ f. c.holds_only.ensures.only.1 (λ k entry at. c.fill_of.ensures.only entry (f other k entry at))),
    ) in
    subst P (λ d. (sym c.in-Shard.is d, sym c.in-Shard-owed.is d)) there
