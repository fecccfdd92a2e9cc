use Rattle.std.proofs.Common.{◌≡◌, ℕ, true, cond, List, sym, subst, ap, ◌∙◌}
use Rattle.guest_windows.specs.Windows.{Window, inside}
use Rattle.gicr_regs.specs.Redistributors.{pending_in}
use Rattle.its_types.specs.Ranges.{pending_bytes}
use Rattle.its_plain.specs.Stands.{ArePendingIn}
use Rattle.lpi_pending.specs.PendingSets.{PendingSet, none_pending}
use Rattle.lpi_pending.proofs.Tables.{pending_in_rises, is_pending-pending_in}
use Rattle.table_restore.proofs.redists.pending_of.Goals as goal

abbrev with_table : List Window → ℕ → PendingSet → PendingSet
with_table memory base old =
    cond (inside memory base (pending_bytes old.lpi_bits)) (record old { lpis = pending_in old.lpi_bits memory base }) old

read_is : (bits base : ℕ) (memory : List Window) (old new : PendingSet) → old ≡ none_pending bits → inside memory base (pending_bytes bits) ≡ true
    → new ≡ with_table memory base old → new ≡ record { lpi_bits = bits; lpis = pending_in bits memory base }
read_is bits base memory old new none is e =
    e ∙ ap (with_table memory base) none
    ∙ ap (λ b. cond b (record { lpi_bits = bits; lpis = pending_in bits memory base }) (none_pending bits)) is

pub returns-clause-bits : goal.returns-clause-bits
returns-clause-bits c =
    ap (λ (p : PendingSet). p.lpi_bits) (read_is c.args.shape.lpi_bits c.args.base.0 c.args.memory.now _ _ c.in_ok-pending.ensures c.requires.inside
    c.read_table.ensures)

pub returns-clause-pending : goal.returns-clause-pending
returns-clause-pending c =
    let bits = c.args.shape.lpi_bits in
    let memory = c.args.memory.now in
    let base = c.args.base.0 in
    let is = read_is bits base memory _ _ c.in_ok-pending.ensures c.requires.inside c.read_table.ensures in
    subst (ArePendingIn bits memory base) (sym (ap (λ (p : PendingSet). p.lpis) is))
    (record { rising = pending_in_rises bits memory base; are = is_pending-pending_in bits memory base })
