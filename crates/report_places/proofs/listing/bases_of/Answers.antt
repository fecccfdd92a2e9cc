use Rattle.std.proofs.Common.{sym, ap, ◌∙◌}
use Rattle.its_plain.specs.Plain.{ConfState}
use Rattle.owned_machine.proofs.Kept.{conf_there, conf_here}
use Rattle.report_places.proofs.listing.bases_of.Goals as goal

pub conf-requires : goal.conf-requires
conf-requires c = conf_there c.args.parts.now c.args.vcpu.0 c.requires.whole c.requires.below

pub returns : goal.returns
returns c = c.bases.ensures ∙ sym (ap (λ (x : ConfState). x.bases) (conf_here c.args.parts.now c.args.vcpu.0 c.conf.result.now c.requires.whole c.conf.ensures))
