use Rattle.std.proofs.Common.{◌≡◌, ◌+◌, ◌-◌, List, [], length, take, map, refl, ap, ◌∙◌, arith}
use Rattle.guest_windows.specs.Windows.{extent}
use Rattle.guest_windows.proofs.Mixed.{extents_mixed}
use Rattle.dirty_log.specs.Copies.{in_dirty, copied}
use Rattle.dirty_log.specs.Stretches.{numbers, paged}
use Rattle.dirty_log.proofs.Copying.{never}
use Rattle.dirty_log.proofs.Listed.{take_all}
use Rattle.dirty_log.proofs.Paged.{length_paged, clean_to, dirty_to}
use Rattle.dirty_log.proofs.log.copy_marked.Goals as goal

pub loop-place-init : goal.loop-place-init
loop-place-init c = record { inside = omega arith; copied = never (in_dirty []) (λ a. refl) c.args.memory.now c.args.copy.now }

pub copy_page-requires-clause-same : goal.copy_page-requires-clause-same
copy_page-requires-clause-same c =
    let l = c.loop-place in
    ap (map extent) l.invariant.copied
    ∙ extents_mixed (in_dirty (take l.at (paged (numbers c.args.stretches.now) c.args.marks.now))) c.args.memory.now c.args.copy.now ∙ c.requires.same

pub overflow_add-at : goal.overflow_add-at
overflow_add-at c = omega (arith, c.in-Some.ensures.below, c.requires.log.few)

pub loop-place-preserved : goal.loop-place-preserved
loop-place-preserved c =
    let l = c.loop-place in
    let lt = c.in-Some.ensures.below in
    record {
      inside = omega (arith, lt);
      copied = dirty_to c.args.memory.now c.args.copy.now (numbers c.args.stretches.now) c.args.marks.now c.requires.log.size l.at c.in-Some.place
          c.number_at.result l.copy c.copy_page.new.self c.in-Some.ensures c.number_at.ensures l.invariant.copied c.copy_page.ensures;
    }

pub returns : goal.returns
returns c =
    let l = c.loop-place in
    let ns = numbers c.args.stretches.now in
    let size = c.requires.log.size in
    let inside = l.invariant.inside in
    let split : l.at + (length c.args.marks.now - l.at) ≡ length (paged ns c.args.marks.now) = omega (
      arith,
      inside,
      size,
      length_paged ns c.args.marks.now size,
    ) in
    l.invariant.copied
    ∙ clean_to c.args.memory.now c.args.copy.now ns c.args.marks.now size l.at (length c.args.marks.now - l.at) (omega (arith, inside, size))
    (λ y low lt. c.in_default.ensures y low (omega (arith, lt, inside)))
    ∙ ap (λ (pages : List Rattle.dirty_log.specs.declared.page.Page.Page). copied c.args.memory.now pages c.args.copy.now)
    (take_all (paged ns c.args.marks.now) (l.at + (length c.args.marks.now - l.at)) split)
