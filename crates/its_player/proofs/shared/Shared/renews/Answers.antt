use Rattle.std.proofs.Common.{ap, subst, sym, ◌∙◌}
use Rattle.std.specs.List.{AllByRecursion}
use Rattle.its_types.specs.declared.machine.Part.TheVariants as part
use Rattle.its_types.specs.declared.machine.Word.{Word}
use Rattle.its_steps.specs.Contents.{Held}
use Rattle.its_steps.specs.MayCall.{HasFillsAlone}
use Rattle.its_steps.specs.Parts.{stamp_of}
use Rattle.its_player.specs.Shared.{setup_of}
use Rattle.its_player.proofs.MayTests.{holds_sure, holds_not}
use Rattle.its_player.proofs.shared.Shared.renews.Goals as goal

pub returns-then-not-holds_maps : goal.returns-then-not-holds_maps
returns-then-not-holds_maps c =
    ((λ e. absurd cc), (λ f. absurd (holds_not (part.Maps c.args.its) c.args.held.now (sym c.holds_maps.ensures ∙ c.if-not-holds_maps.true) f.maps)))

pub returns : goal.returns
returns c = (
  (λ e. record {
    own = sym c.if-from-its.false ∙ (c.from.ensures ∙ c.its_of.ensures);
    maps = holds_sure (part.Maps c.args.its) c.args.held.now (sym c.holds_maps.ensures ∙ c.if-not-holds_maps.false);
    shards = c.holds_shards.ensures.0 c.if-not-holds_shards.false;
    zero = ap (λ (w : Word). stamp_of (setup_of c.args.self.now) w c.args.its) (sym c.requires) ∙ (sym c.stamp_of.ensures ∙ c.if-stamp_of-ne0.false);
    fills = subst (λ (w : Word). AllByRecursion (λ (x : Held). HasFillsAlone (setup_of c.args.self.now) w c.args.commit.now.call c.args.commit.now.change
        c.args.its x.part x.owed) c.args.owed.now) c.requires (c.have_fills_alone.ensures.0 e);
  }),
  (λ f. c.have_fills_alone.ensures.1
      (subst (λ (w : Word). AllByRecursion (λ (x : Held). HasFillsAlone (setup_of c.args.self.now) w c.args.commit.now.call c.args.commit.now.change c.args.its
      x.part x.owed) c.args.owed.now) (sym c.requires) f.fills)),
)
