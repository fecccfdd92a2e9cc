use Rattle.std.proofs.Common.{ap, sym, ◌∙◌, subst}
use Rattle.std.specs.FinMap as map
use Rattle.its_maps.specs.Pages.{paged, EachNumberFits, FollowFrom}
use Rattle.its_maps.proofs.Slots.{entries-paged}
use Rattle.its_maps.proofs.Paged.{each_number_fits}
use Rattle.its_maps.proofs.Walked.{sorted_follow}
use Rattle.its_maps.proofs.paged_map.PagedMap.walk.Goals as goal

pub new-requires-clause-fit : goal.new-requires-clause-fit
new-requires-clause-fit g c = subst EachNumberFits (sym c.entries.ensures) (each_number_fits c.self.inside.pages.map c.self.invariant)

pub new-requires-clause-follow : goal.new-requires-clause-follow
new-requires-clause-follow g c =
    let pages = c.self.inside.pages.map in
    subst (FollowFrom 0) (sym c.entries.ensures) (sorted_follow (map.entries pages) (map.entries_sorted pages))

pub returns : goal.returns
returns g c = c.new.ensures ∙ ap paged c.entries.ensures ∙ sym (entries-paged c.self.inside.pages.map) ∙ ap (λ s. map.entries s.map) c.self.view_is
