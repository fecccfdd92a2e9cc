use Rattle.report_places.proofs.Starts.{listed}
use Rattle.report_places.proofs.say.list_trace.Goals as goal

pub returns : goal.returns
returns c =
    listed c.args.script.now c.args.trace.now.legs _ _ c.args.leg c.args.place _ c.in_ok-machine.ensures c.as_slice.ensures c.in_ok-text.ensures
