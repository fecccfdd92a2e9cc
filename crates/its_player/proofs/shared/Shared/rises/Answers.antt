use Rattle.std.proofs.Common.{◌≡◌, ap, sym, ◌∙◌, refl, arith}
use Rattle.its_types.specs.declared.machine.Part.TheVariants as part
use Rattle.its_types.specs.declared.machine.Word.{Word}
use Rattle.its_steps.specs.Parts.{stamp_of}
use Rattle.its_steps.specs.World.{word_after}
use Rattle.its_player.specs.Shared.{setup_of}
use Rattle.its_player.proofs.MayTests.{holds_sure, holds_not}
use Rattle.its_player.proofs.shared.Shared.rises.Goals as goal

pub returns-then-not-holds_maps : goal.returns-then-not-holds_maps
returns-then-not-holds_maps c =
    ((λ e. absurd cc), (λ f. absurd (holds_not (part.Maps c.args.its) c.args.held.now (sym c.holds_maps.ensures ∙ c.if-not-holds_maps.true) f.maps)))

pub returns : goal.returns
returns c =
    let s = setup_of c.args.self.now in
    let to : stamp_of s (word_after c.args.commit.now) c.args.its ≡ c.stamp_of-stamp.result = ap (λ (w : Word). stamp_of s w c.args.its) (sym c.requires)
    ∙ sym c.stamp_of-stamp.ensures in (
      (λ e. record {
        own = sym c.if-from-its.false ∙ (c.from.ensures ∙ c.its_of.ensures);
        maps = holds_sure (part.Maps c.args.its) c.args.held.now (sym c.holds_maps.ensures ∙ c.if-not-holds_maps.false);
        next = omega (arith, to, c.if-from.false, c.from-2.ensures, c.from-3.ensures, c.stamp_of.ensures);
        most = omega (arith, to, c.if-stamp-self.false);
      }),
      (λ f. refl),
    )
