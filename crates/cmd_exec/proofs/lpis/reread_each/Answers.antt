use Rattle.std.proofs.Common.{[], ◌∷◌, sym, ap, ◌∙◌}
use Rattle.std.specs.Prelude.{is_some}
use Rattle.its_plain.specs.Commands.{conf_all_reread_at}
use Rattle.lpi_pending.specs.InHand.{conf_in}
use Rattle.cmd_exec.proofs.InHand.{held_some, held_can, below_now, below_step}
use Rattle.cmd_exec.proofs.lpis.reread_each.Goals as goal

pub conf_mut-conf-requires : goal.conf_mut-conf-requires
conf_mut-conf-requires c =
    let v = c.loop-vcpu.vcpu in let rs = c.args.redists.now in let xs = c.args.intid.0 ∷ [] in
    ap is_some (below_now v (conf_all_reread_at c.args.memory.now xs) rs c.loop-vcpu.redists c.loop-vcpu.invariant) ∙ held_some (conf_in rs v) xs
    (c.requires v c.loop-vcpu-test.true)

pub reread-requires : goal.reread-requires
reread-requires c =
    let v = c.loop-vcpu.vcpu in let rs = c.args.redists.now in let xs = c.args.intid.0 ∷ [] in
    (held_can (conf_in rs v) xs c.conf_mut-conf.result.now (c.requires v c.loop-vcpu-test.true)
    (sym (below_now v (conf_all_reread_at c.args.memory.now xs) rs c.loop-vcpu.redists c.loop-vcpu.invariant) ∙ c.conf_mut-conf.ensures.value)).0

pub loop-vcpu-preserved : goal.loop-vcpu-preserved
loop-vcpu-preserved c =
    let v = c.loop-vcpu.vcpu in let rs = c.args.redists.now in let xs = c.args.intid.0 ∷ [] in
    below_step v (conf_all_reread_at c.args.memory.now xs) rs c.loop-vcpu.redists c.conf_mut-conf.result.now c.reread.new.conf c.loop-vcpu.invariant
    c.conf_mut-conf.ensures.value c.reread.ensures
