use Rattle.std.proofs.Common.{◌∙◌, sym}
use Rattle.its_fit.proofs.Commuting.{bounded_commute}
use Rattle.its_fit.proofs.Messages.{messages_commute}
use Rattle.its_fit.proofs.bounds.commute.Goals as goal

pub returns-then-other : goal.returns-then-other
returns-then-other c = λ e m d s t in_m in_d u small so_d so_m. messages_commute m d (in_m.message c.if-one.true) (in_d.message c.if-other.true) u small.has

pub returns-then-are_apart : goal.returns-then-are_apart
returns-then-are_apart c =
    λ e m d s t. bounded_commute m d s t c.args.one c.args.other (sym c.are_apart.ensures ∙ c.if-are_apart.true) (sym c.are_apart-then-are_apart.ensures ∙ e)
