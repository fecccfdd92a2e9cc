use Rattle.trace_check.specs.Verdicts.{copies_of}
use Rattle.trace_check.proofs.Checked.{agrees_of, differs_of, exact_of}
use Rattle.trace_check.proofs.legs.check.Goals as goal

pub returns-clause-agrees : goal.returns-clause-agrees
returns-clause-agrees c = agrees_of c.args.machine c.args.legs.now (copies_of c.args.moves.now) c.args.trace.now.legs c.check_legs.result c.check_legs.ensures

pub returns-clause-differs : goal.returns-clause-differs
returns-clause-differs c = differs_of c.args.machine c.args.legs.now (copies_of c.args.moves.now) c.args.trace.now.legs c.check_legs.result c.check_legs.ensures

pub returns-clause-exact : goal.returns-clause-exact
returns-clause-exact c = exact_of c.args.machine c.args.legs.now (copies_of c.args.moves.now) c.args.trace.now.legs c.check_legs.result c.check_legs.ensures
