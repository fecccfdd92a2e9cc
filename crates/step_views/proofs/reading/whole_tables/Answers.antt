use Rattle.std.proofs.Common.{ap, ◌∙◌, subst}
use Rattle.std.proofs.Common.{◌≤◌, ℕ}
use Rattle.step_views.specs.ConfigReads.{left_of}
use Rattle.step_views.proofs.AfterCommand.{have_confs, after_tables}
use Rattle.step_views.proofs.reading.whole_tables.Goals as goal

pub new-requires-clause-there : goal.new-requires-clause-there
new-requires-clause-there c = have_confs c.args.shape c.args.redists.now c.requires.in_hand c.requires.low

pub returns : goal.returns
returns c =
    after_tables c.args.shape c.args.redists.now c.new.result c.requires.shape.most_vcpus
    (subst (λ (n : ℕ). 8192 ≤ n) c.lpi_count.ensures.count c.lpi_count.ensures.at_least)
    (c.new.ensures ∙ ap (λ len. left_of c.args.redists.now 0 len 0 c.args.shape.vcpus) c.lpi_count.ensures.count)
