use Rattle.its_types.specs.declared.machine.Part.TheVariants as part
use Rattle.owned_parts.specs.Owned.{translator_of}
use Rattle.its_steps.specs.Contents.{Maps}
use Rattle.its_turns.specs.Machines.{view}
use Rattle.held_parts.specs.Wholes.{IsNoShard}
use Rattle.held_parts.proofs.Going.{takes_one}
use Rattle.held_parts.proofs.whole.take_second.Goals as goal

pub returns-then-translators-eq2-clause-takes : goal.returns-then-translators-eq2-clause-takes
returns-then-translators-eq2-clause-takes g c = takes_one IsNoShard (view c.args.pass.now) (view c.take_maps.new.pass) (part.Maps 1)
    (Maps (translator_of c.take_maps.result.value)) tt c.take_maps.ensures.takes
