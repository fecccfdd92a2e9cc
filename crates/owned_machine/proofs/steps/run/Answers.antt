use Rattle.std.proofs.Common.{Result, Ok, Err, OnErr, sym, subst, ◌∙◌}
use Rattle.its_command.specs.declared.command.Command.{Command}
use Rattle.its_types.specs.Maps.{Maps}
use Rattle.owned_parts.specs.Owned.{ArePartsOf, ArePartsOfSound}
use Rattle.cmd_exec.specs.Executed.{left_by}
use Rattle.cmd_exec.specs.Needs.{AreNeededInHand}
use Rattle.owned_machine.proofs.Stepped.{needed_held}
use Rattle.owned_machine.proofs.steps.run.Goals as goal

pub plan-planned-requires : goal.plan-planned-requires
plan-planned-requires c =
    let t = c.args.translator.now in
    needed_held c.args.shape.now t.regs t.maps.maps c.args.memory.now c.args.redists.now c.args.command.now c.requires.parts c.requires.holds

on_err : {A E : Type 0} (P : Type 0) (r : Result A E) → P → OnErr r P
on_err P (Ok x) h = tt
on_err P (Err e) h = h

pub returns-in_err-make_room-clause-adding : goal.returns-in_err-make_room-clause-adding
returns-in_err-make_room-clause-adding c =
    on_err _ c.from_residual.result (λ u i parts. sym (c.plan-planned.ensures.adds u i parts) ∙ c.in_err-make_room.ensures.growing)

pub apply-requires-clause-parts : goal.apply-requires-clause-parts
apply-requires-clause-parts c =
    let t = c.args.translator.now in
    subst (λ (m : Maps). ArePartsOfSound c.args.shape.now t.regs m c.args.memory.now c.args.redists.now) (sym c.make_room.ensures.maps) c.requires.parts

pub apply-requires-clause-in_hand : goal.apply-requires-clause-in_hand
apply-requires-clause-in_hand c =
    let t = c.args.translator.now in
    let s = c.args.shape.now in
    let rs = c.args.redists.now in
    subst (λ (m : Maps). AreNeededInHand s m c.plan-planned.result.command rs) (sym c.make_room.ensures.maps)
    (subst (λ (x : Command). AreNeededInHand s t.maps.maps x rs) (sym c.plan-planned.ensures.plan.command)
    (needed_held s t.regs t.maps.maps c.args.memory.now rs c.args.command.now c.requires.parts c.requires.holds))

pub returns-clause-reply : goal.returns-clause-reply
returns-clause-reply c = λ u i parts. c.step_reply.ensures ∙ c.plan-planned.ensures.reply u i parts

pub returns-clause-left : goal.returns-clause-left
returns-clause-left c =
    let t = c.args.translator.now in
    let s = c.args.shape.now in
    let memory = c.args.memory.now in
    λ u i parts.
    subst (λ (x : Command). ArePartsOf (left_by x u i) i s c.apply.new.regs c.apply.new.maps.maps memory c.apply.new.redists) c.plan-planned.ensures.plan.command
    (c.apply.ensures.left u i
    (subst (λ (m : Maps). ArePartsOf u i s t.regs m memory c.args.redists.now) (sym c.make_room.ensures.maps) parts))
