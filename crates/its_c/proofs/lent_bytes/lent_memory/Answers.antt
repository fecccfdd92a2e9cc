use Rattle.std.proofs.Common.{ℕ, List, map, ap, ◌∙◌}
use Rattle.guest_windows.specs.Windows.{Window, extent, zeros}
use Rattle.guest_windows.specs.Fields.{pairs}
use Rattle.its_types.specs.declared.ids.Addr.{Addr}
use Rattle.its_c.specs.LentBytes.{laid}
use Rattle.its_c.proofs.LentWindows.{lent_windows}
use Rattle.its_c.proofs.lent_bytes.lent_memory.Goals as goal

pub returns-clause-bytes : goal.returns-clause-bytes
returns-clause-bytes c =
    c.in_ok-lay.ensures ∙ ap (λ (m : List Window). laid m c.args.list.now c.args.bytes.now)
    (c.in_ok-lent.ensures ∙ ap (λ (list : List (Addr × ℕ)). map zeros (pairs list)) c.deref.ensures.value
    ∙ ap (λ (ws : List (ℕ × ℕ)). map zeros ws) c.in_ok-windows.ensures)

pub returns-clause-windows : goal.returns-clause-windows
returns-clause-windows c =
    ap (λ (m : List Window). map extent m) (returns-clause-bytes c) ∙ lent_windows c.args.memory.now c.args.list.now c.args.bytes.now
