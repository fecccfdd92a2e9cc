use Rattle.std.proofs.Common.{ℕ, ◌<◌, length, get_or, ◌∙◌, arith}
use Rattle.std.proofs.lemmas.List.{length-set}
use Rattle.guest_windows.specs.Fields.{IsWhole}
use Rattle.guest_windows.specs.declared.frame.Frame.{Frame}
use Rattle.guest_windows.proofs.Frames.{same_frame}
use Rattle.guest_windows.proofs.Wholes.{any_default, done_set}
use Rattle.guest_windows.proofs.whole.hold_frames.Goals as goal

pub returns-in_err-hold_all-clause-same : goal.returns-in_err-hold_all-clause-same
returns-in_err-hold_all-clause-same c =
    let l = c.loop-at in
    let fs = l.frames in
    let d = c.index-frames-at.result in
    let f = get_or fs l.at d in
    let there : l.at < length fs = omega (arith, c.loop-at-test.true, l.auto, l.invariant.size) in
    same_frame fs l.at f c.hold_all.new.self there (any_default fs l.at d f there) c.hold_all.ensures.same ∙ l.invariant.same

pub loop-at-preserved : goal.loop-at-preserved
loop-at-preserved c =
    let l = c.loop-at in
    let fs = l.frames in
    let d = c.index-frames-at.result in
    let f = get_or fs l.at d in
    let g = c.hold_all.new.self in
    let there : l.at < length fs = omega (arith, c.loop-at-test.true, l.auto, l.invariant.size) in
    record {
      size = length-set fs l.at g ∙ l.invariant.size;
      same = same_frame fs l.at f g there (any_default fs l.at d f there) c.hold_all.ensures.same ∙ l.invariant.same;
      whole = done_set fs l.at g there (λ (j : ℕ) (e h : Frame). IsWhole h) l.invariant.whole (λ e. c.in_ok-hold_all.ensures.whole);
    }
