use Rattle.std.proofs.Common.{ap, sym, ◌∙◌, subst}
use Rattle.its_maps.specs.Pages.{paged_map, NumbersFit}
use Rattle.its_maps.proofs.Paged.{none_paged, numbers_none}
use Rattle.its_maps.proofs.paged_map.PagedMap.new.Goals as goal

pub invariant_of-result : goal.invariant_of-result
invariant_of-result g c = subst NumbersFit (sym c.new.ensures) (numbers_none _)

pub returns : goal.returns
returns g c = ap paged_map c.new.ensures ∙ none_paged
