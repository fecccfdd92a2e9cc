-- What a pass knows after it took parts, and what it knows as a call goes on.
use Rattle.std.specs.Prelude.{◌≡◌, ◌<◌, ◌≤◌, List, length}
use mathlib.Core.Option.{some}
use Rattle.its_types.specs.declared.machine.Part.{Part}
use Rattle.its_steps.specs.Contents.{Content, Held}
use Rattle.its_steps.specs.World.{View}
use Rattle.its_steps.specs.declared.commit.Commit.{Commit}
use Rattle.its_turns.specs.Calls.{GotOnly, GoesOn, IsMade, HasLooked}
use Rattle.its_turns.specs.Contents.{content_of, IsFit}
use Rattle.its_turns.specs.Steps.{TakesPart}
use Rattle.its_turns.specs.Told.{HasStood, IsLone}
use Rattle.its_turns.specs.declared.attempts.Lost.{Lost}
use Rattle.its_turns.specs.declared.attempts.Lost.TheVariants as lost
use Rattle.its_turns.specs.declared.commits.Raced.{Raced}
use Rattle.its_turns.specs.declared.value.Value.{Value}

-- no try was lost
abbrev pub LostNone : View → View → Type 0
LostNone v w = w.tries ≡ record v.tries { won = w.tries.won }

-- it tried turns, and lost them; alone it lost none
pub record Waits (v w : View) : Type 0 where
  pub same : w ≡ record v { tries = w.tries }
  pub won : w.tries.won ≡ v.tries.won
  pub lost : v.tries.lost ≤ w.tries.lost
  pub alone : IsLone v → w ≡ v

-- the turn was got in the end, and the part has this content
pub record TakesInTime (v : View) (p : Part) (c : Content) (w : View) : Type 0 where
  pub waited : View
  pub waits : Waits v waited
  pub takes : TakesPart waited p c w

-- and this is its value
pub record TakesValue (v : View) (p : Part) (x : Value) (w : View) : Type 0 where
  pub content : Content
  pub content_is : content_of x ≡ some content
  pub fit : IsFit v.setup x
  pub takes : TakesInTime v p content w
  pub stood : HasStood v.setup p content

-- Parts were taken, and nothing else was done: no call was made, and no more was seen. Only such turns were got, and alone none was lost
pub record TakesOnly (P : Part → Type 0) (v w : View) : Type 0 where
  pub same : w ≡ record v { held = w.held; cache = w.cache; tries = w.tries }
  pub got : GotOnly P v w
  pub alone : IsLone v → LostNone v w

-- A call goes on: none was made so far, more may have been seen, and parts may have been taken and put back. Only such turns were got
pub record Goes (P : Part → Type 0) (v w : View) : Type 0 where
  pub on : GoesOn v w.tries w
  pub got : GotOnly P v w
  -- alone nothing was added to what was seen
  pub still : IsLone v → w.seen ≡ v.seen

-- all places are used, as the word said that this call read
abbrev pub FindsSpent : View → View → Type 0
FindsSpent v w = HasLooked v w.last w × (length w.seen ≡ v.setup.limits.place_last)

-- another call was made after this call read the word and before its commit, so another pass is out
pub record LosesRace (v : View) (r : Raced) (w : View) : Type 0 where
  pub room : r.expected.place < v.setup.limits.place_last
  pub later : r.expected.place < r.found.place
  pub read : HasLooked v r.expected w
  pub last : w.last ≡ r.found
  pub out : ¬ IsLone v

-- why a call was not made that had its parts
abbrev pub Loses : View → Lost → View → Type 0
Loses v lost.Spent w = FindsSpent v w
Loses v (lost.Raced r) w = LosesRace v r w

-- the call was made, whatever is held, and only such turns were got
pub record WasMade (P : Part → Type 0) (v : View) (a : Commit) (w : View) : Type 0 where
  pub made : IsMade v w.tries a w
  pub got : GotOnly P v w

-- the parts taken last were put back, and those are left
abbrev pub holding : View → List Held → View
holding v left = record v { held = left }
