use Rattle.std.specs.Prelude.{◌≡◌}
use Rattle.its_steps.specs.World.{View}
use Rattle.its_turns.specs.Machines.{setup, view, IsOf}
use Rattle.its_turns.specs.Steps.{at_word, IsRacedAt}
use Rattle.its_turns.proofs.commits.commit_further.Given as goal

abbrev pub invariant-loop : goal.invariant-loop
invariant-loop l = IsOf l.machine l.pass × (l.raced.found ≡ (view l.pass).last) × ((view l.pass).held ≡ (view l.fn.pass).held)
    × ((v : View) → v.setup ≡ setup l.machine → IsRacedAt v l.made.value.expected l.fn.first (view l.fn.pass)
    → IsRacedAt v l.made.value.expected l.raced (view l.pass))

abbrev pub ghosts-exchange_at : goal.ghosts-exchange_at
ghosts-exchange_at a = record { what = at_word a.made.now.value a.expected }
