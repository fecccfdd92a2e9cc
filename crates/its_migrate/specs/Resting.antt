-- A machine at rest, which the root has alone, and the outcome of a migration (KVM document arm-vgic-its, "ITS Restore Sequence").
use Rattle.std.specs.Prelude.{◌≡◌, ℕ, List, map, Result, Ok, Err}
use Rattle.its_plain.specs.History.{after}
use Rattle.its_plain.specs.Plain.{Plain, Redistributor}
use Rattle.its_plain.specs.Regions.{savable}
use Rattle.its_plain.specs.Saved.{moved}
use Rattle.its_plain.specs.declared.fault.SaveError.{SaveError}
use Rattle.its_plain.specs.declared.fault.SaveError.TheVariants as errors
use Rattle.its_steps.specs.World.{View, first_view}
use Rattle.its_turns.specs.Machines.{setup, view, IsOf}
use Rattle.its_turns.specs.declared.machine.Machine.{Machine}
use Rattle.its_turns.specs.declared.machine.Pass.{Pass}

-- the state that the history leaves which the root has seen
abbrev pub resting : Machine → Pass → Plain
resting m p = after (setup m).start (view p).seen

-- nothing that a pass knows is other than before but the cache and which turns it got
pub record Rests (v w : View) : Type 0 where
  pub same : w ≡ record v { cache = w.cache; tries = record v.tries { won = w.tries.won } }

-- for each virtual processor what is pending
abbrev pub pending_at_rest : Plain → List (List ℕ)
pending_at_rest u = map (λ (r : Redistributor). r.pending) u.redistributors

-- ---- migrations

-- another machine with its root begins where this one could be saved, with nothing made and nothing seen
pub record WentOn (m : Machine) (r : Pass) (n : Machine) (s : Pass) : Type 0 where
  pub of : IsOf n s
  pub savable : savable (resting m r) ≡ Ok tt
  pub start : (setup n).start ≡ moved (resting m r)
  pub limits : (setup n).limits ≡ (setup m).limits
  pub shards : (setup n).shards ≡ (setup m).shards
  pub desc : n.desc ≡ m.desc
  pub view : view s ≡ first_view (setup n)

-- why none does
abbrev pub IsCause : Plain → SaveError → Type 0
IsCause u (errors.Fault f) = savable u ≡ Err f
IsCause u errors.NoMemory = Unit {0}

abbrev pub Migrates : Machine → Pass → Result (Machine × Pass) (Machine × Pass × SaveError) → Type 0
Migrates m r (Ok x) = WentOn m r x.0 x.1
Migrates m r (Err x) = (x.0 ≡ m) × IsOf x.0 x.1 × Rests (view r) (view x.1) × IsCause (resting m r) x.2
