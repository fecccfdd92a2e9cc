use Rattle.std.proofs.Common.{refl}
use Rattle.its_types.specs.declared.machine.Part.TheVariants as part
use Rattle.its_steps.specs.Contents as content
use Rattle.its_turns.specs.Machines.{view}
use Rattle.cmd_engine.specs.Hands.{IsOfTranslator}
use Rattle.cmd_engine.proofs.Getting.{goes_one}
use Rattle.cmd_engine.proofs.taking.take_pair.Goals as goal

pub take_shard-shard-requires-clause-order : goal.take_shard-shard-requires-clause-order
take_shard-shard-requires-clause-order g c = c.requires.order c.shard_of-number.result

pub returns-clause-goes : goal.returns-clause-goes
returns-clause-goes g c = goes_one (IsOfTranslator c.args.its) (view c.args.pass.now) (view c.take_shard-shard.new.pass)
    (part.Shard c.args.its c.shard_of-number.result) (content.Shard c.take_shard-shard.result) refl c.take_shard-shard.ensures.takes
