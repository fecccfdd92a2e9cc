use Rattle.std.proofs.Common.{◌≡◌, ℕ, ◌/◌, ◌<◌, length, get_or, ap, sym, ◌∙◌, arith}
use Rattle.std.specs.Prelude.{◌==◌}
use Rattle.std.proofs.lemmas.List.{length-set}
use Rattle.guest_windows.specs.Mixed.{mixed_window}
use Rattle.guest_windows.specs.Fields.{window}
use Rattle.guest_windows.specs.declared.frame.Frame.{Frame}
use Rattle.guest_windows.proofs.Wholes.{any_default, same_place, sizes, done_set, left_set, whole_set, mixed_each}
use Rattle.guest_windows.proofs.whole.copy_frames.Goals as goal

pub copy_page-requires-clause-base : goal.copy_page-requires-clause-base
copy_page-requires-clause-base c =
    let l = c.loop-at in
    let olds = c.args.frames.now.items in
    let f = c.index_mut.result.now in
    let g = c.index-from-at.result in
    let there : l.at < length olds = omega (arith, c.loop-at-test.true, l.auto, l.invariant.size, l.frames.ok.0, c.args.frames.now.ok.0) in
    ap (λ (h : Frame). h.base) (c.index_mut.ensures.value ∙ l.invariant.left l.at f (omega arith))
    ∙ (same_place olds c.args.from.now l.at f g c.requires.same there).0 ∙ ap (λ (h : Frame). h.base) (sym c.index-from-at.is)

pub copy_page-requires-clause-len : goal.copy_page-requires-clause-len
copy_page-requires-clause-len c =
    let l = c.loop-at in
    let olds = c.args.frames.now.items in
    let f = c.index_mut.result.now in
    let g = c.index-from-at.result in
    let there : l.at < length olds = omega (arith, c.loop-at-test.true, l.auto, l.invariant.size, l.frames.ok.0, c.args.frames.now.ok.0) in
    ap (λ (h : Frame). h.len) (c.index_mut.ensures.value ∙ l.invariant.left l.at f (omega arith))
    ∙ (same_place olds c.args.from.now l.at f g c.requires.same there).1 ∙ ap (λ (h : Frame). h.len) (sym c.index-from-at.is)

pub loop-at-preserved : goal.loop-at-preserved
loop-at-preserved c =
    let l = c.loop-at in
    let olds = c.args.frames.now.items in
    let froms = c.args.from.now in
    let fs = l.frames.items in
    let at = l.at in
    let f = c.index_mut.result.now in
    let from = c.index-from-at.result in
    let g = c.copy_page.new.self in
    let there : at < length fs = omega (arith, c.loop-at-test.true, l.auto, l.invariant.size, l.frames.ok.0, c.args.frames.now.ok.0) in
    let before : at < length olds = omega (arith, there, l.invariant.size) in
    let beside : at < length froms = omega (arith, before, sizes olds froms c.requires.same) in
    let mix = λ (h k : Frame). mixed_window (λ a. a / 4096 == c.args.page) (window h) (window k) in
    record {
      size = length-set fs at g ∙ l.invariant.size;
      copied = done_set fs at g there (λ (j : ℕ) (d h : Frame). window h ≡ mix (get_or froms j d) (get_or olds j d)) l.invariant.copied
          (λ d. c.copy_page.ensures.copied ∙ ap (λ (h : Frame). mix h f) (c.index-from-at.is ∙ any_default froms at from d beside)
          ∙ ap (mix (get_or froms at d)) (c.index_mut.ensures.value ∙ any_default fs at f d there ∙ l.invariant.left at d (omega arith)));
      left = left_set fs at g there olds l.invariant.left;
      whole = λ j d lt. whole_set fs at g there l.invariant.whole c.copy_page.ensures.whole j d (omega (arith, lt, length-set fs at g));
    }

pub returns-clause-copied : goal.returns-clause-copied
returns-clause-copied c =
    let l = c.loop-at in
    let olds = c.args.frames.now.items in
    mixed_each (λ a. a / 4096 == c.args.page) l.frames.items c.args.from.now olds l.invariant.size (sizes olds c.args.from.now c.requires.same)
    (λ j d lt. l.invariant.copied j d (omega (arith, lt, c.loop-at-test.false, l.auto, l.invariant.size, l.frames.ok.0, c.args.frames.now.ok.0)))
