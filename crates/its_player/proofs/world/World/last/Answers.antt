use Rattle.std.proofs.Common.{refl, sym, ap, subst, ◌∙◌}
use Rattle.std.specs.List.{position}
use Rattle.its_player.specs.Shared.{setup_of, known, is_pass}
use Rattle.its_steps.specs.Steps.{Core, IsAt}
use Rattle.its_player.proofs.PassesMet.{pass_at, no_pass_at}
use Rattle.its_player.proofs.world.World.last.Goals as goal

pub returns-in_default : goal.returns-in_default
returns-in_default c = λ i v a. no_pass_at c.self.inside.shared c.args.pass i v (ap (position (is_pass c.args.pass)) (sym c.deref.ensures.value)
    ∙ (sym c.find_pass.ensures ∙ c.in_default.is)) (subst (λ (x : Core). IsAt x c.args.pass i v) (sym c.self.view_is) a)

pub returns : goal.returns
returns c =
    let found = ap (position (is_pass c.args.pass)) (sym c.deref.ensures.value) ∙ (sym c.find_pass.ensures ∙ c.in-Some.is) in (
      c.in-Some.at,
      known (setup_of c.self.inside.shared) c.index.result.now,
      subst
          (λ (x : Core). IsAt x c.args.pass c.in-Some.at (known (setup_of c.self.inside.shared) c.index.result.now)) c.self.view_is
          (pass_at c.self.inside.shared c.args.pass c.in-Some.at c.index.result.now found c.index.ensures),
      refl,
    )
