-- What tries no turn.
use Rattle.std.proofs.Common.{◌≡◌, ap}
use Rattle.its_types.specs.declared.machine.Word.{Word}
use Rattle.its_steps.specs.World.{View}
use Rattle.its_steps.specs.declared.commit.Commit.{Commit}
use Rattle.its_turns.specs.Told.{Looks, Commits}
use Rattle.cmd_engine.specs.Telling.{IsRaceOf}
use Rattle.cmd_engine.specs.declared.missed.Missed.{Missed}
use Rattle.cmd_engine.specs.declared.missed.Missed.TheVariants as missed

pub looked_tries : (v w : View) (z : Word) → Looks v z w → w.tries ≡ v.tries
looked_tries v w z looks = ap (λ (y : View). y.tries) looks.same

pub committed_tries : (v w : View) (a : Commit) → Commits v a w → w.tries ≡ v.tries
committed_tries v w a commits = ap (λ (y : View). y.tries) commits.view

pub raced_tries : (v w : View) (z : Word) (m : Missed) → IsRaceOf v z m w → w.tries ≡ v.tries
raced_tries v w z missed.Spent race = absurd race
raced_tries v w z missed.NoMemory race = absurd race
raced_tries v w z missed.Late race = absurd race
raced_tries v w z missed.Full race = absurd race
raced_tries v w z (missed.Raced r) race = looked_tries v w r.found race.looks
