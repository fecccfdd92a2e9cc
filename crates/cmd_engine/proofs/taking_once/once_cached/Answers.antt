use Rattle.std.proofs.Common.{rules}
use Rattle.its_turns.specs.Machines.{setup, view}
use Rattle.cmd_engine.specs.Cached.{ending_by}
use Rattle.cmd_engine.proofs.Trying.{gets_none}
use Rattle.cmd_engine.proofs.taking_once.once_cached.Goals as goal

pub returns-in-Nothing-clause-result : goal.returns-in-Nothing-clause-result
returns-in-Nothing-clause-result c =
    gets_none (setup c.args.machine.now) c.args.its (ending_by c.args.ends) c.args.cached.now (view c.args.pass.now) c.requires.nothing (search rules)
