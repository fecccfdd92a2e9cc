use Rattle.std.proofs.Common.{refl}
use Rattle.its_types.specs.declared.machine.Part.TheVariants as part
use Rattle.owned_parts.specs.Owned.{translator_of}
use Rattle.its_steps.specs.Contents.{Maps}
use Rattle.its_turns.specs.Machines.{view}
use Rattle.held_parts.specs.Wholes.{IsNoShard}
use Rattle.held_parts.proofs.Once.{once_first, once_one, got_held, busy_one}
use Rattle.held_parts.proofs.whole_once.once_second.Goals as goal

pub returns-then-translators-ne2-clause-result : goal.returns-then-translators-ne2-clause-result
returns-then-translators-ne2-clause-result c = (once_first IsNoShard (view c.args.pass.now), refl)

pub returns-in-Ok-clause-result : goal.returns-in-Ok-clause-result
returns-in-Ok-clause-result c =
    let v = view c.args.pass.now in let x = view c.try_take_maps.new.pass in let t = translator_of c.in-Ok.second.value in (
      once_one IsNoShard v x (part.Maps 1) (Maps t) tt c.in-Ok.ensures.result,
      got_held v x (part.Maps 1) (Maps t) c.in-Ok.ensures.result,
    )

pub returns-in-Err-clause-result : goal.returns-in-Err-clause-result
returns-in-Err-clause-result c = busy_one IsNoShard (view c.args.pass.now) (view c.try_take_maps.new.pass) (part.Maps 1) c.in-Err.busy tt c.in-Err.ensures.result
