use Rattle.std.proofs.Common.{◌/◌, ◌%◌, ℕ, List, [], get_or, refl, ap, arith}
use Rattle.guest_windows.specs.Pages.{rows}
use Rattle.guest_windows.proofs.Groups.{group_unheld}
use Rattle.guest_windows.proofs.Fitting.{has_group, zero_chunk}
use Rattle.guest_windows.proofs.frame.Frame.next_from.Goals as goal

pub returns-then-not-is_held-clause-zero : goal.returns-then-not-is_held-clause-zero
returns-then-not-is_held-clause-zero c i low high =
    let f = c.args.self.now in
    let q = c.args.page in
    zero_chunk (rows f.groups.items) (i / 65536) i
    (group_unheld f.groups.items (q / 4096 / 1024) (has_group f q c.requires) c.index.result.now (i / 65536 / 4096) c.index.ensures
    (c.is_held.ensures.none c.if-not-is_held.true) (omega (arith, low, high))) refl

pub returns-then-not-is_held-clause-skipped : goal.returns-then-not-is_held-clause-skipped
returns-then-not-is_held-clause-skipped c p low high =
    let f = c.args.self.now in
    let q = c.args.page in
    ap (λ (r : List (List ℕ)). get_or r (p % 4096) [])
    (group_unheld f.groups.items (q / 4096 / 1024) (has_group f q c.requires) c.index.result.now (p / 4096) c.index.ensures
    (c.is_held.ensures.none c.if-not-is_held.true) (omega (arith, low, high)))
