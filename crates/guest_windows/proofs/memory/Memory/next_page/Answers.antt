use Rattle.std.proofs.Common.{◌≡◌, ◌^◌, subst}
use Rattle.std.specs.List.{AllByRecursion}
use Rattle.guest_windows.specs.Zeros.{AreZero, AreZeroFrom, IsZeroIn}
use Rattle.guest_windows.specs.Fields.{windows}
use Rattle.guest_windows.proofs.Holding.{all_zero, all_zero_from}
use Rattle.guest_windows.proofs.memory.Memory.next_page.Goals as goal

pub returns-then-first-eq0-clause-zero : goal.returns-then-first-eq0-clause-zero
returns-then-first-eq0-clause-zero c =
    let fs = c.self.inside.frames.items in
    let from = c.args.from.0 in
    let p = c.first_page-first in
    let end : p.result.0.0 ≡ 2 ^ 52 = p.ensures.none c.if-first-eq0.true in
    let all : AllByRecursion (IsZeroIn from (2 ^ 52)) (windows fs) =
    subst (λ k. AllByRecursion (IsZeroIn from k) (windows fs)) end (subst (λ gs. AllByRecursion (IsZeroIn from p.result.0.0)
    (windows gs)) c.deref.ensures.value p.ensures.zero) in
    subst (λ ws. AreZeroFrom ws from) c.self.view_is (all_zero_from fs from all)

pub returns-else-first-eq0-clause-zero : goal.returns-else-first-eq0-clause-zero
returns-else-first-eq0-clause-zero c =
    let fs = c.self.inside.frames.items in
    let from = c.args.from.0 in
    let p = c.first_page-first in
    subst (λ ws. AreZero ws from p.result.0.0) c.self.view_is (all_zero (windows fs) from p.result.0.0
    (subst (λ gs. AllByRecursion (IsZeroIn from p.result.0.0) (windows gs)) c.deref.ensures.value p.ensures.zero))
