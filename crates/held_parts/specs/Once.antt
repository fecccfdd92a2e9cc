-- What a pass knows that tried the turns of some parts once, in their order.
use Rattle.std.specs.Prelude.{◌≡◌, ◌≢◌, List}
use Rattle.std.specs.List.{AllByRecursion}
use Rattle.its_types.specs.declared.machine.Part.{Part}
use Rattle.its_steps.specs.World.{View, lost_to}
use Rattle.its_turns.specs.Calls.{got_all}
use Rattle.its_turns.specs.Told.{IsLone}
use Rattle.its_turns.specs.declared.turns.Busy.{Busy}

-- each was free: these turns were got, the last one first, and nothing else was done
pub record TakesAtOnce (P : Part → Type 0) (v w : View) : Type 0 where
  pub same : w ≡ record v { held = w.held; cache = w.cache; tries = w.tries }
  pub got : List Part
  pub only : AllByRecursion P got
  pub tries : w.tries ≡ got_all got v.tries

-- One was another pass's, so another is out. Those that were got before it were put back, and nothing else was done
pub record FindsBusy (P : Part → Type 0) (v : View) (b : Busy) (w : View) : Type 0 where
  pub same : w ≡ record v { cache = w.cache; tries = w.tries }
  pub part : P b.part
  pub got : List Part
  pub only : AllByRecursion P got
  pub tries : w.tries ≡ lost_to (got_all got v.tries) b.part b.holder
  pub another : b.holder ≢ v.number
  pub out : ¬ IsLone v
