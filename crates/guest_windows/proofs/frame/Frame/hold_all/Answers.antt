use Rattle.std.proofs.Common.{◌∙◌}
use Rattle.guest_windows.proofs.Fitting.{same_window}
use Rattle.guest_windows.proofs.frame.Frame.hold_all.Goals as goal

pub returns-in_err-hold_page-clause-same : goal.returns-in_err-hold_page-clause-same
returns-in_err-hold_page-clause-same c =
    let inv = c.loop-page.invariant in
    let hold = c.hold_page.ensures in
    same_window c.args.self.now c.hold_page.new.self (hold.base ∙ inv.base) (hold.len ∙ inv.len) (λ i. hold.same i ∙ inv.same i)

pub returns-clause-same : goal.returns-clause-same
returns-clause-same c =
    let inv = c.loop-page.invariant in
    same_window c.args.self.now c.loop-page.self inv.base inv.len inv.same
