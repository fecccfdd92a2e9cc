use Rattle.std.proofs.Common.{ap, ◌∙◌}
use Rattle.step_views.specs.ConfigReads.{left_of}
use Rattle.step_views.proofs.AfterCommand.{have_confs, after_bytes}
use Rattle.step_views.proofs.reading.bytes.Goals as goal

pub new-requires-clause-there : goal.new-requires-clause-there
new-requires-clause-there c = have_confs c.args.shape c.args.redists.now c.requires.in_hand c.requires.low

pub returns : goal.returns
returns c =
    after_bytes c.args.shape c.args.redists.now c.args.intid.0 c.new.result c.requires.shape.most_vcpus
    (c.new.ensures ∙ ap (λ offset. left_of c.args.redists.now offset 1 0 c.args.shape.vcpus) (c.from-place.ensures ∙ c.saturating_sub.ensures))
