use Rattle.std.proofs.Common.{sym, ap, subst, ◌∙◌}
use Rattle.its_types.specs.declared.translation.Bases.{Bases}
use Rattle.lpi_pending.specs.Pend.{Pend}
use Rattle.lpi_pending.specs.PendingSets.{none_pending}
use Rattle.owned_machine.specs.Start.{IsFirstOf}
use Rattle.owned_machine.proofs.make.first_redist.Goals as goal

pub returns : goal.returns
returns c =
    let conf = c.in_ok-conf.conf in
    let idle : Bases → Pend = λ (b : Bases). record { pending = none_pending c.args.shape.now.lpi_bits; accepts = b.on } in
    subst (IsFirstOf c.args.shape.now c.args.memory.now c.args.tables.now c.args.vcpu conf) (sym (c.in_ok-pend.ensures ∙ ap idle c.bases.ensures))
    c.in_ok-conf.ensures
