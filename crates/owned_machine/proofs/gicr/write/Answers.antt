use Rattle.std.proofs.Common.{◌≡◌, ℕ, Option, Some, None, refl, sym, ap, subst, ◌∙◌}
use Rattle.std.specs.Prelude.{is_some, Result, Ok, Err, OnErr}
use Rattle.std.proofs.lemmas.Option.{same_Some}
use Rattle.gicr_regs.specs.Registers.{asked_by}
use Rattle.gicr_regs.specs.declared.write.GicrWrite.{GicrWrite}
use Rattle.lpi_config.specs.Conf.{Conf}
use Rattle.lpi_pending.specs.InHand.{RedistParts, pend_in, set_conf}
use Rattle.lpi_pending.specs.Rooms.{HasRoomFor}
use Rattle.owned_machine.proofs.Kept.{conf_there, pend_there, conf_lpis, pend_lpis}
use Rattle.owned_machine.proofs.Programmed.{bases_low, enables_is, gicr_left}
use Rattle.owned_machine.proofs.gicr.write.Goals as goal

pub conf-conf-requires : goal.conf-conf-requires
conf-conf-requires c = conf_there c.args.parts.now c.args.vcpu.0 c.requires c.if-vcpu-parts.false

pub pend-pend-requires : goal.pend-pend-requires
pend-pend-requires c = pend_there c.args.parts.now c.args.vcpu.0 c.requires c.if-vcpu-parts.false

pub room_for-requires-clause-low : goal.room_for-requires-clause-low
room_for-requires-clause-low c =
    bases_low c.args.parts.now c.args.vcpu.0 c.conf-conf.result.now c.requires c.if-not-parts.false c.conf-conf.ensures

pub room_for-requires-clause-same : goal.room_for-requires-clause-same
room_for-requires-clause-same c =
    pend_lpis c.args.parts.now c.args.vcpu.0 c.pend-pend.result.now c.requires c.pend-pend.ensures
    ∙ sym (conf_lpis c.args.parts.now c.args.vcpu.0 c.conf-conf.result.now c.requires c.conf-conf.ensures)

on_err : {T E P : Type 0} (r : Result T E) → P → OnErr r P
on_err (Ok x) p = tt
on_err (Err e) p = p

pub returns-in_err-room-clause-rare : goal.returns-in_err-room-clause-rare
returns-in_err-room-clause-rare c =
    on_err c.from_residual.result
    (enables_is c.args.parts.now c.args.vcpu.0 c.args.off c.args.size c.args.value c.conf-conf.result.now c.requires c.if-not-parts.false c.conf-conf.ensures
    c.in_err-room.ensures.rare)

pub take_conf-conf-requires : goal.take_conf-conf-requires
take_conf-conf-requires c = conf_there c.args.parts.now c.args.vcpu.0 c.requires c.if-vcpu-parts.false

same_part : {X : Type 0} {o : Option X} {x y : X} → o ≡ Some x → y ≡ x → o ≡ Some y
same_part {X} {o} {x} {y} is same = is ∙ ap (λ (z : X). Some z) (sym same)

-- what is pending stays where the configuration is taken
pend_still : (old : RedistParts) {taken : RedistParts} (v : ℕ) → taken ≡ set_conf old v None → pend_in old v ≡ pend_in taken v
pend_still old v took = sym (ap (λ (r : RedistParts). pend_in r v) took)

pub pend_mut-pend-requires : goal.pend_mut-pend-requires
pend_mut-pend-requires c =
    ap (λ (r : RedistParts). is_some (pend_in r c.args.vcpu.0)) c.take_conf-conf.ensures.taken
    ∙ pend_there c.args.parts.now c.args.vcpu.0 c.requires c.if-vcpu-parts.false

pub gicr_write-requires-clause-low : goal.gicr_write-requires-clause-low
gicr_write-requires-clause-low c =
    bases_low c.args.parts.now c.args.vcpu.0 c.deref_mut.result.now c.requires c.if-not-parts.false
    (same_part c.take_conf-conf.ensures.value c.deref_mut.ensures.value)

pub gicr_write-requires-clause-conf_lpis : goal.gicr_write-requires-clause-conf_lpis
gicr_write-requires-clause-conf_lpis c =
    conf_lpis c.args.parts.now c.args.vcpu.0 c.deref_mut.result.now c.requires (same_part c.take_conf-conf.ensures.value c.deref_mut.ensures.value)

pub gicr_write-requires-clause-pend_lpis : goal.gicr_write-requires-clause-pend_lpis
gicr_write-requires-clause-pend_lpis c =
    pend_lpis c.args.parts.now c.args.vcpu.0 c.pend_mut-pend.result.now c.requires
    (pend_still c.args.parts.now.redists c.args.vcpu.0 c.take_conf-conf.ensures.taken ∙ c.pend_mut-pend.ensures.value)

pub gicr_write-requires-clause-room : goal.gicr_write-requires-clause-room
gicr_write-requires-clause-room c =
    let p = c.args.parts.now in
    let read = c.conf-conf.result.now in
    let asks : Conf → GicrWrite = λ (x : Conf). asked_by x.bases c.args.off c.args.size c.args.value in
    let same : read ≡ c.deref_mut.result.now =
    same_Some read c.deref_mut.result.now (sym c.conf-conf.ensures ∙ same_part c.take_conf-conf.ensures.value c.deref_mut.ensures.value) in
    subst (λ (x : Conf). HasRoomFor p.layout.shape.lpi_bits (asks x) c.in_ok-room.room) same
    (subst (λ (n : ℕ). HasRoomFor n (asks read) c.in_ok-room.room) (conf_lpis p c.args.vcpu.0 read c.requires c.conf-conf.ensures) c.in_ok-room.ensures.room)

pub returns-clause-left : goal.returns-clause-left
returns-clause-left c =
    gicr_left c.args.parts.now c.args.vcpu.0 c.deref_mut.result.now c.gicr_write.new.conf c.pend_mut-pend.result.now c.gicr_write.new.pend c.args.off
    c.args.size c.args.value c.requires c.if-not-parts.false
    (record {
      conf = same_part c.take_conf-conf.ensures.value c.deref_mut.ensures.value;
      pend = pend_still c.args.parts.now.redists c.args.vcpu.0 c.take_conf-conf.ensures.taken ∙ c.pend_mut-pend.ensures.value;
    }) c.gicr_write.ensures.conf_lpis c.gicr_write.ensures.pend_lpis c.gicr_write.ensures.written c.take_conf-conf.new.self _ c.place_conf.new.self
    c.take_conf-conf.ensures.taken refl c.place_conf.ensures.placed
