use Rattle.std.proofs.Common.{◌/◌, not, ◌==◌, ap, sym, ◌∙◌, subst, arith}
use Rattle.std.specs.FinMap as map
use Rattle.its_maps.specs.MapRoom.{without}
use Rattle.its_maps.specs.Pages.{paged_map, NumbersFit}
use Rattle.its_maps.specs.declared.page.TheConstants.{PLACES}
use Rattle.its_maps.proofs.Paged.{page_there, after_take, after_drop, after_nothing, numbers_insert, numbers_retain}
use Rattle.its_maps.proofs.paged_map.PagedMap.remove.Goals as goal

-- the page is left blank, and goes
pub invariant_of-self : goal.invariant_of-self
invariant_of-self g c =
    let m = c.self.inside.pages.map in
    subst NumbersFit (sym c.remove.ensures)
    (numbers_retain (map.insert m (c.args.key / PLACES) c.take.new.self) (λ k. not (k == c.args.key / PLACES))
    (numbers_insert m (c.args.key / PLACES) c.take.new.self c.self.invariant (omega arith)))

pub returns-then-is_blank : goal.returns-then-is_blank
returns-then-is_blank g c =
    let m = c.self.inside.pages.map in
    let page = c.get_mut-page.result.now in
    ap paged_map c.remove.ensures
    ∙ after_drop m (c.args.key / PLACES) c.take.new.self (c.is_blank.ensures.0 c.if-is_blank.true)
    ∙ ap (λ p. paged_map (map.insert m (c.args.key / PLACES) p)) c.take.ensures.page
    ∙ after_take m c.args.key page (page_there m c.args.key page c.get_mut-page.ensures.value) c.take.ensures.full
    ∙ ap (λ s. without s.map c.args.key) c.self.view_is

-- it has values yet
pub invariant_of-self-else-is_blank : goal.invariant_of-self-else-is_blank
invariant_of-self-else-is_blank g c = numbers_insert c.self.inside.pages.map (c.args.key / PLACES) c.take.new.self c.self.invariant (omega arith)

pub returns-else-is_blank : goal.returns-else-is_blank
returns-else-is_blank g c =
    let m = c.self.inside.pages.map in
    let page = c.get_mut-page.result.now in
    ap (λ p. paged_map (map.insert m (c.args.key / PLACES) p)) c.take.ensures.page
    ∙ after_take m c.args.key page (page_there m c.args.key page c.get_mut-page.ensures.value) c.take.ensures.full
    ∙ ap (λ s. without s.map c.args.key) c.self.view_is

-- it wasn't there
pub returns-else-contains : goal.returns-else-contains
returns-else-contains g c =
    ap (λ s. s.map) (sym c.self.view_is) ∙ after_nothing c.self.inside.pages.map c.args.key (sym c.if-contains.ensures)
    ∙ ap (λ s. without s.map c.args.key) c.self.view_is
