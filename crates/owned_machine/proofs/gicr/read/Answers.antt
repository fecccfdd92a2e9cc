use Rattle.std.proofs.Common.{Bool, if◌then◌else◌, sym, ap, ◌∙◌}
use Rattle.gicr_regs.specs.Registers.{read_gicr}
use Rattle.its_plain.specs.Plain.{ConfState, redistributor}
use Rattle.owned_parts.specs.Owned.{state_of_parts}
use Rattle.owned_machine.proofs.Kept.{conf_there, conf_here}
use Rattle.owned_machine.proofs.Programmed.{bases_low}
use Rattle.owned_machine.proofs.gicr.read.Goals as goal

pub conf-requires : goal.conf-requires
conf-requires c = conf_there c.args.parts.now c.args.vcpu.0 c.requires c.if-vcpu-shape.false

pub gicr_read-requires : goal.gicr_read-requires
gicr_read-requires c = bases_low c.args.parts.now c.args.vcpu.0 c.conf.result.now c.requires c.if-not-parts.false c.conf.ensures

pub returns : goal.returns
returns c =
    let p = c.args.parts.now in
    let linux = p.layout.shape.linux in
    let here = conf_here p c.args.vcpu.0 c.conf.result.now c.requires c.conf.ensures in
    let bases = (redistributor (state_of_parts p) c.args.vcpu.0).bases in
    c.gicr_read.ensures ∙ ap (λ (x : ConfState). read_gicr linux x.bases c.args.off c.args.size) (sym here)
    ∙ sym (ap (λ (b : Bool). if b then read_gicr linux bases c.args.off c.args.size else 0) c.if-not-parts.false)
