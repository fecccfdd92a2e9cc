use Rattle.std.proofs.Common.{◌≡◌, Bool, true, subst, ap, ◌∙◌}
use Rattle.its_command.specs.declared.command.Command.{Command}
use Rattle.its_command.specs.declared.command.Command.TheVariants.{Mapc}
use Rattle.cmd_exec.specs.Needs.{AreNeededInHand}
use Rattle.cmd_exec.proofs.Targets.{movi_old, movi_new, int_target, clear_target, mapc_targets, movall_targets}
use Rattle.cmd_exec.proofs.planning.InHand.plan.Goals as goal

pub movi-requires-clause-from : goal.movi-requires-clause-from
movi-requires-clause-from c =
    let s = c.args.self.now.shape.now in let m = c.args.self.now.maps.now.maps in let rs = c.args.self.now.redists.now in
    movi_old s m rs c.in-Movi.dev c.in-Movi.ev c.in-Movi.icid (subst (λ (x : Command). AreNeededInHand s m x rs) c.in-Movi.is c.requires)

pub movi-requires-clause-to : goal.movi-requires-clause-to
movi-requires-clause-to c =
    let s = c.args.self.now.shape.now in let m = c.args.self.now.maps.now.maps in let rs = c.args.self.now.redists.now in
    movi_new s m rs c.in-Movi.dev c.in-Movi.ev c.in-Movi.icid (subst (λ (x : Command). AreNeededInHand s m x rs) c.in-Movi.is c.requires)

pub int-requires : goal.int-requires
int-requires c =
    let s = c.args.self.now.shape.now in let m = c.args.self.now.maps.now.maps in let rs = c.args.self.now.redists.now in
    int_target s m rs c.in-Int.dev c.in-Int.ev (subst (λ (x : Command). AreNeededInHand s m x rs) c.in-Int.is c.requires)

pub clear-requires : goal.clear-requires
clear-requires c =
    let s = c.args.self.now.shape.now in let m = c.args.self.now.maps.now.maps in let rs = c.args.self.now.redists.now in
    clear_target s m rs c.in-Clear.dev c.in-Clear.ev (subst (λ (x : Command). AreNeededInHand s m x rs) c.in-Clear.is c.requires)

pub mapc-requires : goal.mapc-requires
mapc-requires c =
    let s = c.args.self.now.shape.now in let m = c.args.self.now.maps.now.maps in let rs = c.args.self.now.redists.now in
    let is : c.args.command.now ≡ Mapc c.in-Mapc.icid c.in-Mapc.target true = c.in-Mapc.is ∙ ap (λ (v : Bool). Mapc c.in-Mapc.icid c.in-Mapc.target v)
    c.if-valid-2.true in
    mapc_targets s m rs c.in-Mapc.icid c.in-Mapc.target (subst (λ (x : Command). AreNeededInHand s m x rs) is c.requires)

pub movall-requires : goal.movall-requires
movall-requires c =
    let s = c.args.self.now.shape.now in let m = c.args.self.now.maps.now.maps in let rs = c.args.self.now.redists.now in
    movall_targets s m rs c.in-Movall.from c.in-Movall.to (subst (λ (x : Command). AreNeededInHand s m x rs) c.in-Movall.is c.requires)
