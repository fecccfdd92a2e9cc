use Rattle.std.proofs.Common.{◌<◌, length, ℕ, subst, sym, ap, ◌∙◌}
use Rattle.gicr_regs.specs.Registers.{AreLow, values_of, restored_bases}
use Rattle.gicr_regs.specs.declared.values.GicrRegisters.{GicrRegisters}
use Rattle.its_plain.specs.Plain.{Plain, ConfState, redistributor}
use Rattle.owned_parts.specs.Owned.{state_of_parts}
use Rattle.owned_machine.proofs.Kept.{conf_there, conf_here}
use Rattle.owned_machine.proofs.Programmed.{bases_low, bases_kept}
use Rattle.owned_machine.proofs.machine.Machine.lpi_registers.Goals as goal

pub conf-conf-requires : goal.conf-conf-requires
conf-conf-requires c =
    let i = c.self.inside in
    let within : c.args.vcpu < length (state_of_parts i.parts).redistributors = subst (λ (u : Plain). c.args.vcpu < length u.redistributors)
    (sym c.self.view_is) c.requires in
    conf_there i.parts c.args.vcpu c.self.invariant (subst (λ (n : ℕ). c.args.vcpu < n) c.self.invariant.sound.vcpus within)

pub values_of-requires : goal.values_of-requires
values_of-requires c =
    subst AreLow (sym c.bases.ensures) (bases_low c.self.inside.parts c.args.vcpu c.conf-conf.result.now c.self.invariant c.if-not-self.false c.conf-conf.ensures)

pub returns-clause-values : goal.returns-clause-values
returns-clause-values c =
    let p = c.self.inside.parts in
    let here = conf_here p c.args.vcpu c.conf-conf.result.now c.self.invariant c.conf-conf.ensures in
    c.values_of.ensures ∙ ap values_of c.bases.ensures ∙ ap (λ (x : ConfState). values_of x.bases) (sym here)
    ∙ ap (λ (u : Plain). values_of (redistributor u c.args.vcpu).bases) c.self.view_is

pub returns-clause-back : goal.returns-clause-back
returns-clause-back c =
    let p = c.self.inside.parts in
    let conf = c.conf-conf.result.now in
    let here = conf_here p c.args.vcpu conf c.self.invariant c.conf-conf.ensures in
    ap (λ (v : GicrRegisters). restored_bases v) (c.values_of.ensures ∙ ap values_of c.bases.ensures)
    ∙ c.values_come_back.ensures conf.bases (bases_kept p c.args.vcpu conf c.self.invariant c.if-not-self.false c.conf-conf.ensures)
    ∙ ap (λ (x : ConfState). x.bases) (sym here)
    ∙ ap (λ (u : Plain). (redistributor u c.args.vcpu).bases) c.self.view_is
