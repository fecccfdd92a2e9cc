use Rattle.std.proofs.Common.{ap, sym, ◌∙◌, subst}
use Rattle.std.specs.Prelude.{is_some}
use Rattle.gicr_regs.specs.Registers.{AreLow}
use Rattle.guest_windows.specs.Fields.{pairs}
use Rattle.lpi_config.specs.Conf.{Conf}
use Rattle.lpi_pending.specs.InHand.{conf_in}
use Rattle.step_views.specs.Pairs.{all_told}
use Rattle.its_shared.specs.Besides.{conf_read}
use Rattle.its_shared.proofs.Needing.{one_told}
use Rattle.its_shared.proofs.Seen.{same_some}
use Rattle.its_shared.proofs.needed.tell_configs.Goals as goal

pub conf-requires : goal.conf-requires
conf-requires c = ap is_some (c.requires.there c.loop-vcpu.vcpu c.loop-vcpu-test.true).1

pub tell_config-requires-clause-low : goal.tell_config-requires-clause-low
tell_config-requires-clause-low c =
    let h = c.requires.there c.loop-vcpu.vcpu c.loop-vcpu-test.true in
    subst (λ (x : Conf). AreLow x.bases) (same_some h.0 c.conf.result.now (sym h.1 ∙ c.conf.ensures)) h.2

pub loop-vcpu-preserved : goal.loop-vcpu-preserved
loop-vcpu-preserved c =
    let l = c.loop-vcpu in
    one_told (λ v. conf_read c.args.offset c.args.length (conf_in c.args.redists.now v)) (pairs l.told.items) (pairs c.tell_config.new.told.items) l.vcpu
    c.args.vcpus c.loop-vcpu-test.true
    (c.in_ok-tell_config.ensures ∙ ap (λ o. all_told (pairs l.told.items) (conf_read c.args.offset c.args.length o)) (sym c.conf.ensures)) ∙ l.invariant
