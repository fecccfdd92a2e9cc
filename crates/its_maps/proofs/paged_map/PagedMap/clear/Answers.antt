use Rattle.std.proofs.Common.{ap, sym, ◌∙◌, subst}
use Rattle.its_maps.specs.Pages.{paged_map, NumbersFit}
use Rattle.its_maps.proofs.Paged.{none_paged, numbers_none}
use Rattle.its_maps.proofs.paged_map.PagedMap.clear.Goals as goal

pub invariant_of-self : goal.invariant_of-self
invariant_of-self g c = subst NumbersFit (sym c.clear.ensures) (numbers_none _)

pub returns : goal.returns
returns g c = ap paged_map c.clear.ensures ∙ none_paged
