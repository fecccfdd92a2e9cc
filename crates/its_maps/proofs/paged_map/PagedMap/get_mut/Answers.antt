use Rattle.std.proofs.Common.{◌/◌, refl, ap, sym, ◌∙◌, arith}
use Rattle.std.specs.FinMap as map
use Rattle.its_maps.specs.Lending.{with_value}
use Rattle.its_maps.specs.declared.page.TheConstants.{PLACES}
use Rattle.its_maps.proofs.Shown.{same_room}
use Rattle.its_maps.proofs.Paged.{page_there, page_has, key_in, after_put, numbers_insert}
use Rattle.its_maps.proofs.paged_map.PagedMap.get_mut.Goals as goal

pub get_mut-page-requires : goal.get_mut-page-requires
get_mut-page-requires g c = page_has c.self.inside.pages.map c.args.key (ap (λ s. map.contains_key s.map c.args.key) c.self.view_is ∙ c.requires)

pub get_mut-requires-clause-there : goal.get_mut-requires-clause-there
get_mut-requires-clause-there g c =
    let m = c.self.inside.pages.map in
    let page = c.get_mut-page.result.now in
    sym (key_in m c.args.key page (page_there m c.args.key page c.get_mut-page.ensures.value)) ∙ ap (λ s. map.contains_key s.map c.args.key) c.self.view_is
    ∙ c.requires

pub invariant_of-self-lent : goal.invariant_of-self-lent
invariant_of-self-lent g c = λ w. numbers_insert c.self.inside.pages.map (c.args.key / PLACES) _ c.self.invariant (omega arith)

pub returns : goal.returns
returns g c =
    let m = c.self.inside.pages.map in
    let page = c.get_mut-page.result.now in
    let there = page_there m c.args.key page c.get_mut-page.ensures.value in (
      (refl, λ w. same_room _ _ _ _ (after_put m c.args.key page w there c.get_mut.ensures.full) refl ∙ ap (λ s. with_value s c.args.key w) c.self.view_is),
      record { writes_back = tt; value = c.get_mut.ensures.value ∙ sym (there c.args.key refl) ∙ ap (λ s. map.get s.map c.args.key) c.self.view_is },
    )
