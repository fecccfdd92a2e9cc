use Rattle.std.proofs.Common.{◌∙◌}
use Rattle.std.specs.String.{string_bytes}
use Rattle.its_turns.specs.Machines.{setup}
use Rattle.its_top.proofs.Summaries.{summed}
use Rattle.its_top.proofs.summarize.summarize_script.Goals as goal

pub returns : goal.returns
returns g c =
    summed string_bytes c.args.signals c.args.threads c.args.script.now (setup c.in_ok-first.first.machine).start c.in_ok-counts.counts c.in_ok-counts.moved c.deref.result.now c.summary_text.result
    c.requires c.in_ok-first.ensures.first c.in_ok-counts.ensures (c.deref.ensures.value ∙ c.in_ok-pending.ensures) c.summary_text.ensures
