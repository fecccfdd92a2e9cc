use Rattle.std.proofs.Common.{ap, ◌∙◌, refl}
use Rattle.lpi_config.specs.Conf.{Conf, conf_state}
use Rattle.cmd_exec.proofs.Reloaded.{reload_step, bases_kept}
use Rattle.cmd_exec.proofs.rereading.reload_each.Goals as goal

pub loop-at-preserved : goal.loop-at-preserved
loop-at-preserved c =
    let xs = c.args.intids.now in let bytes = c.args.bytes.now in let at = c.loop-at.at in let conf = c.loop-at.conf in let conf' = c.reload_one.new.conf in
    let is = c.reload_one.ensures in
    record {
      rest = reload_step xs bytes at _ _ _ conf conf' c.loop-at-test.true c.requires.size refl is ∙ c.loop-at.invariant.rest;
      bits = ap (λ (x : Conf). x.config.lpi_bits) is ∙ c.loop-at.invariant.bits;
      bases = ap (λ (x : Conf). x.bases) is ∙ bases_kept _ (conf_state conf) _ ∙ c.loop-at.invariant.bases;
    }
