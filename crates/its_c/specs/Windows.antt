-- A window that guest memory gets while the machine runs.
use Rattle.std.specs.Prelude.{◌≡◌, ℕ, suc, if◌then◌else◌, List, [], ◌∷◌, ◌++◌, Option, Some, None, Result, Ok, Err}
use Rattle.its_plain.specs.Doorbells.{meets_frames}
use Rattle.its_plain.specs.Machine.{ensure, ◌>>=◌}
use Rattle.its_plain.specs.declared.desc.Desc.{Desc}
use Rattle.its_plain.specs.declared.desc.DescFault.{DescFault}
use Rattle.its_plain.specs.declared.desc.DescFault.TheVariants as fault
use Rattle.its_plain.specs.declared.desc.Its.{Its}
use Rattle.its_plain.specs.declared.make.MakeError.{MakeError}
use Rattle.its_plain.specs.declared.make.MakeError.TheVariants as errors
use Rattle.its_types.specs.declared.ids.Addr.{Addr}
use Rattle.owned_machine.specs.Windows.{can_have, with_window}
use Rattle.its_numbers.specs.declared.counters.Counters.{Counters}
use Rattle.its_numbers.specs.declared.limits.GuestLimits.{GuestLimits}
use Rattle.its_c.specs.Keeping.{Held}

-- windows with one more, a base and a length
abbrev pub one_more : List (Addr × ℕ) → ℕ × ℕ → List (Addr × ℕ)
one_more windows w = windows ++ (record { 0 = w.0 }, w.1) ∷ []

-- a description with it
abbrev pub described_with : Desc → ℕ × ℕ → Desc
described_with d w = record d { windows = one_more d.windows w }

-- so what is beside a machine
abbrev pub beside_with : ℕ × ℕ → Desc × GuestLimits × Counters → Desc × GuestLimits × Counters
beside_with w b = (described_with b.0 w, b.1, b.2)

-- what a handle has, whose machine has it and whose description has it
abbrev pub held_with : Held → ℕ × ℕ → Held
held_with h w = record h { machine = with_window h.machine w; desc = described_with h.desc w }

-- the first of these, counted from i, with whose frames it shares a byte
abbrev pub met : ℕ → ℕ × ℕ → List Its → Option ℕ
met i w [] = None
met i w (t ∷ ts) = if meets_frames w.0 w.1 t then Some i else met (suc i) w ts

abbrev pub ensure_none : Option ℕ → Result (Unit {0}) DescFault
ensure_none None = Ok tt
ensure_none (Some its) = Err (fault.Frames its)

-- guest memory can have it, or the first thing that is wrong with it
abbrev pub window_test : Held → ℕ × ℕ → Result (Unit {0}) DescFault
window_test h w = ensure_none (met 0 w h.desc.translators) >>= λ _. ensure (can_have h.machine.memory w) fault.Windows

-- why it hasn't, unless memory ran out
abbrev pub IsWindowFault : Held → ℕ × ℕ → MakeError → Type 0
IsWindowFault h w (errors.Fault f) = window_test h w ≡ Err f
IsWindowFault h w errors.NoMemory = Unit {0}
