use Rattle.std.proofs.Common.{◌≡◌, ◌<◌, ◌≤◌, ◌∙◌, true, length, get_or, subst, arith}
use Rattle.guest_windows.specs.Windows.{has}
use Rattle.guest_windows.specs.Zeros.{IsZeroIn}
use Rattle.guest_windows.specs.Fields.{window, IsHeldIn}
use Rattle.std.proofs.lemmas.List.{get_or_default}
use Rattle.guest_windows.proofs.Holding.{zeros_less, zeros_more, has_inside, zero_less, none_less, one_more}
use Rattle.guest_windows.proofs.pages.first_page.Goals.{then-next-first, else-next-first}
use Rattle.guest_windows.proofs.pages.first_page.Goals as goal

pub loop-frame-preserved : goal.loop-frame-preserved
loop-frame-preserved c =
    let l = c.loop-frame in
    let fs = c.args.frames.now in
    let i = l.frame-index in
    let f = c.frame-item.result in
    let from = c.args.from.0 in
    let next = c.next_page-next.result in
    let tells = c.next_page-next.ensures in
    let lt : i < length fs = omega (arith, c.loop-frame-test.true) in
    elim c.if-next-first.branch [
      | then-next-first w ↦
          let less : next.0.0 ≤ l.first.0.0 = omega (arith, w.if-next-first) in
          rw w.first-is (record {
            zero = zeros_more from next.0.0 fs i f lt (zeros_less from next.0.0 l.first.0.0 _ less l.invariant.zero)
                (subst (λ g. IsZeroIn from next.0.0 (window g)) c.frame-item.is tells.zero);
            from = tells.from;
            part = λ some. has_inside fs i next.0.0 next.1 f lt (subst (λ g. has (window g) next.0.0 next.1 ≡ true) c.frame-item.is (tells.part some));
            few = tells.few;
            none = tells.none;
            held = λ some. (i, lt, λ d. subst (IsHeldIn next.0.0) (c.frame-item.is ∙ get_or_default fs i f d lt) (tells.held some));
            skipped = λ j d low. one_more fs i j f d from next.0.0 lt low c.frame-item.is
                (λ k e few. none_less from next.0.0 l.first.0.0 (get_or fs k e) less (l.invariant.skipped k e few)) tells.skipped;
          })
      | else-next-first w ↦
          let less : l.first.0.0 ≤ next.0.0 = omega (arith, w.if-next-first) in
          rw w.first-is (record {
            zero = zeros_more from l.first.0.0 fs i f lt l.invariant.zero
                (subst (λ g. IsZeroIn from l.first.0.0 (window g)) c.frame-item.is (zero_less from l.first.0.0 next.0.0 (window f) less tells.zero));
            from = l.invariant.from;
            part = l.invariant.part;
            few = l.invariant.few;
            none = l.invariant.none;
            held = l.invariant.held;
            skipped = λ j d low. one_more fs i j f d from l.first.0.0 lt low c.frame-item.is l.invariant.skipped
                (none_less from l.first.0.0 next.0.0 f less tells.skipped);
          })
    ]
