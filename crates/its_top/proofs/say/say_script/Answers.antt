use Rattle.std.proofs.Common.{refl, rules}
use Rattle.its_answers.proofs.Saying.{run_said, so_far_said}
use Rattle.its_top.proofs.Sharing.{is_ready, some_shards, most_shards, stamps, stamps_of_two, places, few_stamps, alone}
use Rattle.its_top.proofs.say.say_script.Goals as goal

pub share-requires-clause-description : goal.share-requires-clause-description
share-requires-clause-description g c = c.requires.within.description

pub share-requires-clause-some_shards : goal.share-requires-clause-some_shards
share-requires-clause-some_shards g c = some_shards c.args.script.now c.requires.within

pub share-requires-clause-most_shards : goal.share-requires-clause-most_shards
share-requires-clause-most_shards g c = most_shards c.args.script.now c.requires.within

pub share-requires-clause-stamps : goal.share-requires-clause-stamps
share-requires-clause-stamps g c = stamps c.args.script.now c.requires.within

pub share-requires-clause-stamps_of_two : goal.share-requires-clause-stamps_of_two
share-requires-clause-stamps_of_two g c = stamps_of_two c.args.script.now c.requires.within

pub share-requires-clause-places : goal.share-requires-clause-places
share-requires-clause-places g c = places c.args.script.now c.requires.within

pub share-requires-clause-few_stamps : goal.share-requires-clause-few_stamps
share-requires-clause-few_stamps g c = few_stamps c.args.script.now c.requires.within

pub share-requires-clause-alone : goal.share-requires-clause-alone
share-requires-clause-alone g c = alone c.args.script.now c.requires.within

pub run-requires-clause-ready : goal.run-requires-clause-ready
run-requires-clause-ready g c κs within =
    is_ready c.args.script.now c.in-Ok.made.0 c.in-Ok.made.1 c.requires.within c.in-Ok.ensures

pub returns-in_err-ending-clause-err : goal.returns-in_err-ending-clause-err
returns-in_err-ending-clause-err g c =
    let e = so_far_said c.args.script.now _ _ c.in-Ok.ensures.start refl _ c.in_err-ending.ensures.err in
    search rules

pub returns-clause-ok : goal.returns-clause-ok
returns-clause-ok g c = run_said c.args.script.now _ _ c.in-Ok.ensures.start refl c.in_ok-ending.ending.status _ c.in_ok-ending.ensures.ok
