use Rattle.std.proofs.Common.{◌/◌, ap, sym, ◌∙◌, subst, arith}
use Rattle.std.specs.FinMap as map
use Rattle.its_maps.specs.Pages.{paged_map, NumbersFit}
use Rattle.its_maps.specs.declared.page.TheConstants.{PLACES}
use Rattle.its_maps.proofs.Paged.{page_there, page_new, after_put, key_out, numbers_insert}
use Rattle.its_maps.proofs.paged_map.PagedMap.insert.Goals as goal

-- the key's page is there
pub invariant_of-self : goal.invariant_of-self
invariant_of-self g c = numbers_insert c.self.inside.pages.map (c.args.key / PLACES) c.put.new.self c.self.invariant (omega arith)

pub returns-then-contains : goal.returns-then-contains
returns-then-contains g c =
    let m = c.self.inside.pages.map in
    let page = c.get_mut-page.result.now in
    ap (λ p. paged_map (map.insert m (c.args.key / PLACES) p)) c.put.ensures.page
    ∙ after_put m c.args.key page c.args.value (page_there m c.args.key page c.get_mut-page.ensures.value) c.put.ensures.full
    ∙ ap (λ s. map.insert s.map c.args.key c.args.value) c.self.view_is

-- the page is new
pub take-page-requires : goal.take-page-requires
take-page-requires g c = c.requires.reserve (ap (λ s. map.contains_key s.map c.args.key) (sym c.self.view_is) ∙ key_out c.self.inside.pages.map c.args.key
    (sym c.if-contains.ensures))

pub insert-requires : goal.insert-requires
insert-requires g c = λ absent.
    let room = c.requires.spare (ap (λ s. map.contains_key s.map c.args.key) (sym c.self.view_is) ∙ key_out c.self.inside.pages.map c.args.key absent) in
    omega (arith, room, ap (λ s. s.spare) c.self.view_is)

pub invariant_of-self-else-contains : goal.invariant_of-self-else-contains
invariant_of-self-else-contains g c =
    subst NumbersFit (sym c.insert.ensures) (numbers_insert c.self.inside.pages.map (c.args.key / PLACES) c.put-else-contains.new.self c.self.invariant
    (omega arith))

pub returns-else-contains : goal.returns-else-contains
returns-else-contains g c =
    let m = c.self.inside.pages.map in
    let page = c.take-page.result in
    ap paged_map c.insert.ensures
    ∙ ap (λ p. paged_map (map.insert m (c.args.key / PLACES) p)) c.put-else-contains.ensures.page
    ∙ after_put m c.args.key page c.args.value (page_new m c.args.key page (sym c.if-contains.ensures) c.take-page.ensures) c.put-else-contains.ensures.full
    ∙ ap (λ s. map.insert s.map c.args.key c.args.value) c.self.view_is
