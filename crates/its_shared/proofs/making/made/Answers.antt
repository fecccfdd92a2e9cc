use Rattle.std.proofs.Common.{◌≡◌, Some, ap, sym, subst, ◌∙◌}
use Rattle.its_shared.specs.Knowing.{Known}
use Rattle.its_shared.specs.Making.{IsShared}
use Rattle.its_shared.proofs.Rooted.{root_of}
use Rattle.its_shared.proofs.making.made.Goals as goal

pub returns-clause-made : goal.returns-clause-made
returns-clause-made c =
    let d = c.args.desc.now in
    let l = c.args.limits in
    let port = c.in_ok-port in
    let known : c.of.result.known ≡ Some port.port = c.of.ensures ∙ ap (λ (k : Known). Some k) c.in_ok-new.ensures.ok in
    subst (IsShared d l) (sym known) (root_of d l c.in_ok-owned.owned port.port port.ensures.made port.ensures.start port.ensures.limits
    (c.is_too_much.ensures.over c.if-is_too_much.false))
