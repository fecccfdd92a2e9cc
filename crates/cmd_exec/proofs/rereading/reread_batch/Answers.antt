use Rattle.std.proofs.Common.{sym, ap, ◌∙◌}
use Rattle.std.specs.Prelude.{is_some}
use Rattle.its_plain.specs.Commands.{conf_all_reread_at}
use Rattle.lpi_pending.specs.InHand.{conf_in}
use Rattle.cmd_exec.specs.Reloaded.{numbers}
use Rattle.cmd_exec.proofs.InHand.{held_some, held_can, below_now, below_step}
use Rattle.cmd_exec.proofs.rereading.reread_batch.Goals as goal

pub conf_mut-conf-requires : goal.conf_mut-conf-requires
conf_mut-conf-requires c =
    let v = c.loop-vcpu.vcpu in let rs = c.args.redists.now in let xs = numbers c.args.intids.now in
    ap is_some (below_now v (conf_all_reread_at c.args.memory.now xs) rs c.loop-vcpu.redists c.loop-vcpu.invariant.read) ∙ held_some (conf_in rs v) xs
    (c.requires.each v c.loop-vcpu-test.true)

pub reread_all-requires : goal.reread_all-requires
reread_all-requires c =
    let v = c.loop-vcpu.vcpu in let rs = c.args.redists.now in let xs = numbers c.args.intids.now in
    record {
      can =
          held_can (conf_in rs v) xs c.conf_mut-conf.result.now (c.requires.each v c.loop-vcpu-test.true)
          (sym (below_now v (conf_all_reread_at c.args.memory.now xs) rs c.loop-vcpu.redists c.loop-vcpu.invariant.read) ∙ c.conf_mut-conf.ensures.value);
      most = c.requires.most;
      last = c.loop-vcpu.invariant.last;
    }

pub loop-vcpu-preserved : goal.loop-vcpu-preserved
loop-vcpu-preserved c =
    let v = c.loop-vcpu.vcpu in let rs = c.args.redists.now in let xs = numbers c.args.intids.now in
    record {
      read =
          below_step v (conf_all_reread_at c.args.memory.now xs) rs c.loop-vcpu.redists c.conf_mut-conf.result.now c.reread_all.new.conf
          c.loop-vcpu.invariant.read c.conf_mut-conf.ensures.value c.reread_all.ensures.conf;
      last = c.reread_all.ensures.last;
    }
