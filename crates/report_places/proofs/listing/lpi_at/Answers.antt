use Rattle.std.proofs.Common.{ℕ, sym, ap, ◌∙◌}
use Rattle.call_facts.specs.Lpis.{lpi_state}
use Rattle.its_plain.specs.Plain.{Redistributor}
use Rattle.owned_machine.proofs.Kept.{conf_there, pend_there, conf_lpis, pend_lpis, redistributor_here}
use Rattle.owned_parts.specs.Owned.{redistributor_of}
use Rattle.report_places.proofs.listing.lpi_at.Goals as goal

pub conf-requires : goal.conf-requires
conf-requires c = conf_there c.args.parts.now c.args.vcpu.0 c.requires.whole c.requires.below

pub pend-requires : goal.pend-requires
pend-requires c = pend_there c.args.parts.now c.args.vcpu.0 c.requires.whole c.requires.below

pub lpi_state-requires : goal.lpi_state-requires
lpi_state-requires c =
    pend_lpis c.args.parts.now c.args.vcpu.0 c.pend.result.now c.requires.whole c.pend.ensures
    ∙ sym (conf_lpis c.args.parts.now c.args.vcpu.0 c.conf.result.now c.requires.whole c.conf.ensures)

pub returns : goal.returns
returns c =
    let p = c.args.parts.now in
    let v = c.args.vcpu.0 in
    let conf = c.conf.result.now in
    let pend = c.pend.result.now in
    c.lpi_state.ensures
    ∙ ap (λ (n : ℕ). lpi_state n (redistributor_of conf pend) c.args.intid.0) (pend_lpis p v pend c.requires.whole c.pend.ensures)
    ∙ ap (λ (r : Redistributor). lpi_state p.layout.shape.lpi_bits r c.args.intid.0)
    (sym (redistributor_here p v conf pend c.requires.whole (record { conf = c.conf.ensures; pend = c.pend.ensures })))
