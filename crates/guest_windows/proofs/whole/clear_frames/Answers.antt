use Rattle.std.proofs.Common.{◌≡◌, ℕ, ◌<◌, length, get_or, ap, sym, ◌∙◌, arith}
use Rattle.std.proofs.lemmas.List.{length-set}
use Rattle.guest_windows.specs.Windows.{zeros, extent}
use Rattle.guest_windows.specs.Fields.{window}
use Rattle.guest_windows.specs.Pages.{rows}
use Rattle.guest_windows.specs.declared.frame.Frame.{Frame}
use Rattle.guest_windows.proofs.Sparse.{length-bytes}
use Rattle.guest_windows.proofs.Wholes.{any_default, done_set, left_set, whole_set, zeros_each}
use Rattle.guest_windows.proofs.whole.clear_frames.Goals as goal

pub loop-at-preserved : goal.loop-at-preserved
loop-at-preserved c =
    let l = c.loop-at in
    let olds = c.args.frames.now.items in
    let fs = l.frames.items in
    let at = l.at in
    let f = c.index_mut.result.now in
    let g = c.clear.new.self in
    let there : at < length fs = omega (arith, c.loop-at-test.true, l.auto, l.invariant.size, l.frames.ok.0, c.args.frames.now.ok.0) in
    record {
      size = length-set fs at g ∙ l.invariant.size;
      zero = done_set fs at g there (λ (j : ℕ) (d h : Frame). window h ≡ zeros (extent (window (get_or olds j d)))) l.invariant.zero
          (λ d. c.clear.ensures.zero ∙ ap (λ (n : ℕ). zeros (f.base, n)) (sym (length-bytes f.len (rows f.groups.items)))
          ∙ ap (λ (h : Frame). zeros (extent (window h))) (c.index_mut.ensures.value ∙ any_default fs at f d there ∙ l.invariant.left at d (omega arith)));
      left = left_set fs at g there olds l.invariant.left;
      whole = λ j d lt. whole_set fs at g there l.invariant.whole c.clear.ensures.whole j d (omega (arith, lt, length-set fs at g));
    }

pub returns-clause-zero : goal.returns-clause-zero
returns-clause-zero c =
    let l = c.loop-at in
    zeros_each l.frames.items c.args.frames.now.items l.invariant.size
    (λ j d lt. l.invariant.zero j d (omega (arith, lt, c.loop-at-test.false, l.auto, l.invariant.size, l.frames.ok.0, c.args.frames.now.ok.0)))
