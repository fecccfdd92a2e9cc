use Rattle.std.proofs.Common.{◌≡◌, Bool, true, false, if◌then◌else◌, List, ℕ, refl, ap, ◌∙◌}
use Rattle.guest_windows.specs.Windows.{Window}
use Rattle.its_types.specs.Ranges.{is_lpi}
use Rattle.its_types.specs.declared.ids.Intid.{Intid}
use Rattle.its_types.specs.declared.machine.Shape.{Shape}
use Rattle.gicr_regs.specs.Redistributors.{ConfState, PendState, joined, reread_at, conf_reread_at}
use Rattle.gicr_regs.specs.Registers.{done_by, conf_done_by}
use Rattle.gicr_regs.specs.Registers as spec
use Rattle.gicr_regs.specs.declared.write.GicrWrite.{GicrWrite}
use Rattle.gicr_regs.specs.declared.write.GicrWrite.TheVariants as writes
use Rattle.lpi_config.specs.Conf.{conf_state}
use Rattle.lpi_pending.specs.InHand.{pend_state}
use Rattle.lpi_pending.proofs.gicr.gicr_write.Goals as goal

-- an LPI's byte is read again, if it is one: only the configuration changes
reread_joined : (lpi : Bool) (memory : List Window) (intid : ℕ) (c : ConfState) (p : PendState)
    → joined (if lpi then conf_reread_at memory intid c else c) p ≡ (if lpi then reread_at memory intid (joined c p) else joined c p)
reread_joined true memory intid c p = refl
reread_joined false memory intid c p = refl

reread : (s : Shape) (memory : List Window) (intid : Intid) (c : ConfState) (p : PendState)
    → joined (conf_done_by s memory (writes.Reread intid) c) p ≡ done_by s memory (writes.Reread intid) (joined c p)
unfolding done_by conf_done_by
reread s memory intid c p = reread_joined (is_lpi s.lpi_bits intid.0) memory intid.0 c p

reload : (s : Shape) (memory : List Window) (c : ConfState) (p : PendState)
    → joined (conf_done_by s memory writes.RereadAll c) p ≡ done_by s memory writes.RereadAll (joined c p)
unfolding done_by conf_done_by
reload s memory c p = refl

-- src/gicr.rt
pub returns-in-Reread-clause-written : goal.returns-in-Reread-clause-written
unfolding spec.written_gicr
returns-in-Reread-clause-written c =
    let p : PendState = pend_state c.args.pend.now in
    ap (λ (k : ConfState). joined k p) c.reread.ensures.done
    ∙ (reread c.args.shape.now c.args.memory.now c.in-Reread.intid (conf_state c.args.conf.now) p
    ∙ ap (λ (w : GicrWrite). done_by c.args.shape.now c.args.memory.now w (joined (conf_state c.args.conf.now) p)) (c.in-Reread.ensures.asked))

-- src/gicr.rt
pub returns-in-RereadAll-clause-written : goal.returns-in-RereadAll-clause-written
unfolding spec.written_gicr
returns-in-RereadAll-clause-written c =
    let p : PendState = pend_state c.args.pend.now in
    ap (λ (k : ConfState). joined k p) c.reload.ensures.done
    ∙ (reload c.args.shape.now c.args.memory.now (conf_state c.args.conf.now) p
    ∙ ap (λ (w : GicrWrite). done_by c.args.shape.now c.args.memory.now w (joined (conf_state c.args.conf.now) p)) (c.in-RereadAll.ensures.asked))
