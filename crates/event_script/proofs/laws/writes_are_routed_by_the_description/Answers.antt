use Rattle.event_script.proofs.Reached.{call_described}
use Rattle.event_script.proofs.laws.writes_are_routed_by_the_description.Goals as goal

pub returns : goal.returns
returns c = call_described
