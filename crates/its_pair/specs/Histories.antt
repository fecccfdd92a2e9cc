-- What two translators over one memory and one set of redistributors were asked, as one history.
use Rattle.std.specs.Prelude.{◌≡◌, length}
use mathlib.Core.List.{IsPrefix}
use Rattle.its_types.specs.declared.machine.Word.{Word}
use Rattle.its_plain.specs.History.{IsLegal, after, placed}
use Rattle.its_plain.specs.Plain.{Plain}
use Rattle.its_steps.specs.World.{View, loaded}
use Rattle.its_turns.specs.Told.{KnowsOthers}

-- All that a pass has seen, of either translator, is one history of the plain machine with two translators: each reply is what that
-- gives after the calls before it. The pass's own calls stand in it, each once and in its order, and what it saw before is its beginning.
-- To the root so do those of every pass that it joined, and no call is there of a number that wasn't given. The word is that of the
-- history's end, and the one that the pass then knows
pub record AreOneHistory (start : Plain) (v : View) (word : Word) (w : View) : Type 0 where
  pub legal : IsLegal start w.seen
  pub two : length (after start w.seen).translators ≡ 2
  pub longer : IsPrefix v.seen w.seen
  pub place : length w.seen ≡ word.place
  -- nothing else of what it knows is other than before
  pub same : w ≡ loaded v word w.seen
  pub own : w.mine ≡ placed w.number 0 w.seen
  pub others : w.number ≡ 0 → KnowsOthers w w.seen
