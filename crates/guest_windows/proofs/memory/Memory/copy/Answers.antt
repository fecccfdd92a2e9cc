use Rattle.std.proofs.Common.{◌≡◌, ◌+◌, ◌<◌, ℕ, List, [], ◌∷◌, ◌++◌, length, take, get_or, sym, ap, ◌∙◌, arith}
use Rattle.std.proofs.lemmas.List.{map-append, set-get_or, take_more_set}
use Rattle.guest_windows.specs.Windows.{Window}
use Rattle.guest_windows.specs.Fields.{window, windows}
use Rattle.guest_windows.specs.declared.frame.Frame.{Frame}
use Rattle.guest_windows.proofs.memory.Memory.copy.Goals as goal

-- one more
windows_more : (fs : List Frame) (i : ℕ) (d : Frame) → i < length fs → windows (take (i + 1) fs) ≡ windows (take i fs) ++ window (get_or fs i d) ∷ []
windows_more fs i d lt =
    ap (λ (xs : List Frame). windows (take (i + 1) xs)) (sym (set-get_or fs i d)) ∙ ap windows (take_more_set fs i (get_or fs i d) lt)
    ∙ map-append window (take i fs) (get_or fs i d ∷ [])

pub loop-frame-preserved : goal.loop-frame-preserved
loop-frame-preserved c =
    let fs = c.deref-frame-items.result.now in
    let i = c.loop-frame.frame-index in
    let f = c.frame-item.result in
    let g = c.in_ok-copy.field-0 in
    let lt : i < length fs = omega (arith, c.loop-frame-test.true) in
    ap windows c.in_ok-push.ensures.items ∙ map-append window c.loop-frame.frames.items (g ∷ [])
    ∙ ap (λ (ws : List Window). ws ++ window g ∷ []) c.loop-frame.invariant
    ∙ ap (λ (w : Window). windows (take i fs) ++ w ∷ []) (c.in_ok-copy.ensures ∙ ap window c.frame-item.is)
    ∙ sym (windows_more fs i f lt)
