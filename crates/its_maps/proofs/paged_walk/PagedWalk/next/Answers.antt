use Rattle.std.proofs.Common.{◌+◌, ◌*◌, ◌<◌, length, ◌∙◌, subst, arith}
use Rattle.its_maps.specs.Pages.{EachNumberFits, FollowFrom}
use Rattle.its_maps.specs.declared.page.TheConstants.{PLACES}
use Rattle.its_maps.proofs.Walked.{page_opens, later_follow, first_number, rest_numbers}
use Rattle.its_maps.proofs.paged_walk.PagedWalk.next.Goals as goal

pub overflow_mul-page : goal.overflow_mul-page
overflow_mul-page g c =
    let small : c.in_ok-page-in-None.page.now.0 * PLACES < 4294967296 = first_number c.in_ok-page-in-None.page.now c.in_ok-page-in-None.rest.now
    (subst EachNumberFits c.in_ok-page-in-None.ensures.cases.0 c.loop-slot.invariant.2) in
    omega (arith, small)

-- the places of a page are passed over, and the next page is opened
pub loop-slot-preserved : goal.loop-slot-preserved
loop-slot-preserved g c =
    let inv = c.loop-slot.invariant in
    let d = c.in_ok-page-in-None.page.now in
    let rest = c.in_ok-page-in-None.rest.now in
    let is = c.in_ok-page-in-None.ensures.cases.0 in
    let each = subst EachNumberFits is inv.2 in
    let small : d.0 * PLACES < 4294967296 = first_number d rest each in (
      inv.0 ∙ page_opens c.loop-slot.self-inside.key c.loop-slot.self-inside.slots.now d c.loop-slot.self-inside.pages.now rest c.from-self-inside.result
          c.slots-self-inside.result.now c.in-None.ensures.cases is c.from-self-inside.ensures c.slots-self-inside.ensures.slots
          c.slots-self-inside.ensures.length,
      omega (arith, small, c.from-self-inside.ensures, c.slots-self-inside.ensures.length),
      rest_numbers d rest each,
      later_follow (d.0 * PLACES + PLACES) (c.from-self-inside.result + length c.slots-self-inside.result.now) rest
          (subst (FollowFrom (c.loop-slot.self-inside.key + length c.loop-slot.self-inside.slots.now)) is inv.3).1
          (omega (arith, c.from-self-inside.ensures, c.slots-self-inside.ensures.length)),
    )
