use Rattle.std.proofs.Common.{Result, IfOk, sym, ap, subst, ◌∙◌}
use Rattle.std.specs.Prelude.{is_some, length}
use Rattle.gits_regs.specs.Registers.{Registers, advanced}
use Rattle.its_types.specs.Maps.{Maps}
use Rattle.its_plain.specs.declared.call.Reason.{Reason}
use Rattle.lpi_pending.specs.InHand.{RedistParts, conf_in, pend_in}
use Rattle.cmd_exec.specs.declared.effect.Effect.{Effect}
use Rattle.cmd_exec.specs.Effects.{maps_after, redists_after}
use Rattle.cmd_exec.specs.Executed.{AreLeftBy}
use Rattle.cmd_exec.specs.Room.{HasRoom}
use Rattle.cmd_exec.proofs.Executed.{after_alike, ready, ran_left, refused_left}
use Rattle.cmd_exec.proofs.execute.apply.Goals as goal

pub carry_out-requires : goal.carry_out-requires
carry_out-requires c =
    let s = c.args.shape.now in let r = c.args.regs.now in let mr = c.args.maps.now in let memory = c.args.memory.now in let rs = c.args.redists.now in
    let room = subst (λ (x : Result Effect Reason). IfOk x (HasRoom mr)) c.in-Ok.is c.requires.room in
    ready s r mr memory rs c.args.planned.command c.requires.in_hand c.requires.parts c.in-Ok.effect (sym c.requires.plan.outcome ∙ c.in-Ok.is) room

pub returns-in-Ok-clause-left : goal.returns-in-Ok-clause-left
returns-in-Ok-clause-left c =
    let s = c.args.shape.now in let r = c.args.regs.now in let mr = c.args.maps.now in let memory = c.args.memory.now in let rs = c.args.redists.now in
    let command = c.args.planned.command in let e = c.in-Ok.effect in
    let old : Registers × Maps × RedistParts = (r, mr.maps, rs) in
    let maps = maps_after e mr.maps in
    let redists = redists_after s mr.maps memory e rs in
    let room = subst (λ (x : Result Effect Reason). IfOk x (HasRoom mr)) c.in-Ok.is c.requires.room in
    subst (λ (x : Registers). AreLeftBy command s memory old (x, c.carry_out.new.maps.maps, c.carry_out.new.redists)) (sym c.advance.ensures)
    (subst (λ (x : Maps). AreLeftBy command s memory old (advanced r, x, c.carry_out.new.redists)) (sym c.carry_out.ensures.maps)
    (subst (λ (x : RedistParts). AreLeftBy command s memory old (advanced r, maps, x)) (sym c.carry_out.ensures.redists)
    (ran_left s r mr memory rs command c.requires.in_hand c.requires.parts e (sym c.requires.plan.outcome ∙ c.in-Ok.is) room)))

pub returns-in-Ok-clause-confs : goal.returns-in-Ok-clause-confs
returns-in-Ok-clause-confs c = λ v.
    let s = c.args.shape.now in let m = c.args.maps.now.maps in let rs = c.args.redists.now in
    ap (λ (x : RedistParts). is_some (conf_in x v)) c.carry_out.ensures.redists ∙ (after_alike s m c.args.memory.now c.in-Ok.effect rs).confs v

pub returns-in-Ok-clause-pends : goal.returns-in-Ok-clause-pends
returns-in-Ok-clause-pends c = λ v.
    let s = c.args.shape.now in let m = c.args.maps.now.maps in let rs = c.args.redists.now in
    ap (λ (x : RedistParts). is_some (pend_in x v)) c.carry_out.ensures.redists ∙ (after_alike s m c.args.memory.now c.in-Ok.effect rs).pends v

pub returns-in-Ok-clause-room : goal.returns-in-Ok-clause-room
returns-in-Ok-clause-room c =
    let s = c.args.shape.now in let m = c.args.maps.now.maps in let rs = c.args.redists.now in let now = c.carry_out.ensures.redists in
    let same = (after_alike s m c.args.memory.now c.in-Ok.effect rs).room in
    (ap (λ (x : RedistParts). length x.confs) now ∙ same.0, ap (λ (x : RedistParts). length x.pends) now ∙ same.1)

pub returns-in_default-clause-left : goal.returns-in_default-clause-left
returns-in_default-clause-left c =
    let s = c.args.shape.now in let r = c.args.regs.now in let mr = c.args.maps.now in let memory = c.args.memory.now in let rs = c.args.redists.now in
    let command = c.args.planned.command in
    subst (λ (x : Registers). AreLeftBy command s memory (r, mr.maps, rs) (x, mr.maps, rs)) (sym c.advance.ensures)
    (refused_left s r mr memory rs command c.requires.in_hand c.in_default.field-0 (sym c.requires.plan.outcome ∙ c.in_default.is))
