use Rattle.std.proofs.Common.{ap, sym, ◌∙◌, ℕ, set, get_or}
use Rattle.its_types.specs.Ranges.{is_lpi}
use Rattle.its_types.specs.Lpis.{with_lpi}
use Rattle.lpi_pending.specs.PendingSets.{PendingSet}
use Rattle.owned_machine.proofs.Kept.{pend_there, pend_lpis}
use Rattle.owned_machine.proofs.Led.{adds_none, adds_one, rising_in, pending_in_hand, set_bits}
use Rattle.owned_machine.proofs.stale.add.Goals as goal

pub pend-requires : goal.pend-requires
pend-requires c = pend_there c.args.parts.now c.args.vcpu.0 c.requires.whole c.requires.vcpu

pub has-requires : goal.has-requires
has-requires c =
    ap (λ (n : ℕ). is_lpi n c.args.intid.0) (pend_lpis c.args.parts.now c.args.vcpu.0 c.pend.result.now c.requires.whole c.pend.ensures) ∙ c.requires.lpi

pub set-requires : goal.set-requires
set-requires c =
    ap (λ (n : ℕ). is_lpi n c.args.intid.0)
    (set_bits c.args.parts.now c.args.sets.now c.args.vcpu.0 c.from.result c.index-sets-from.result c.requires.sets c.requires.vcpu c.from.ensures)
    ∙ c.requires.lpi

pub returns-then-has : goal.returns-then-has
returns-then-has c =
    let p = c.args.parts.now in
    let x = c.args.intid.0 in
    let old = c.args.sets.now in
    let d = c.index-sets-from.result in
    adds_one p c.args.vcpu x old _ d c.requires.vcpu (rising_in p c.args.vcpu.0 c.requires.whole c.requires.vcpu)
    (pending_in_hand p c.args.vcpu.0 x c.pend.result.now c.pend.ensures ∙ sym c.has.ensures ∙ c.if-has.true)
    (ap (λ (s : PendingSet). set old c.from.result s) c.set.ensures
    ∙ ap (λ (i : ℕ). set old i (record (get_or old i d) { lpis = with_lpi x (get_or old i d).lpis })) c.from.ensures)

pub returns-else-has : goal.returns-else-has
returns-else-has c =
    let p = c.args.parts.now in
    let x = c.args.intid.0 in
    adds_none p c.args.vcpu x c.args.sets.now
    (pending_in_hand p c.args.vcpu.0 x c.pend.result.now c.pend.ensures ∙ sym c.has.ensures ∙ c.if-has.false)
