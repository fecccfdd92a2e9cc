-- Rules on what a step may add to the maps.
use Rattle.std.specs.Prelude.{◌≡◌, ℕ, Bool, true, false, not, ◌&&◌, List, [], ◌∷◌, ◌++◌, Option, Some, None, is_ok, Result, Ok, Err}
use Rattle.its_command.specs.Commands.{decoded}
use Rattle.its_command.specs.declared.command.Command.{Command}
use Rattle.its_types.specs.Maps.{Maps}
use Rattle.its_types.specs.declared.machine.Placed.{Placed}
use Rattle.its_plain.specs.Answer.{is_idle, next_bytes}
use Rattle.its_plain.specs.Commands.{ran}
use Rattle.its_plain.specs.History.{after}
use Rattle.its_plain.specs.Plain.{Plain, maps_of}
use Rattle.its_plain.specs.declared.call.CmdReply.{CmdReply}
use Rattle.its_plain.specs.declared.call.CmdReply.TheVariants.{Ran, Refused}
use Rattle.its_plain.specs.declared.call.Entry.{Entry}
use Rattle.its_turns.specs.declared.turns.Busy.{Busy}
use Rattle.cmd_engine.specs.declared.missed.Missed.{Missed}
use Rattle.cmd_engine.specs.declared.missed.Missed.TheVariants as missed
use Rattle.cmd_engine.specs.declared.tried.Tried.{Tried}
use Rattle.cmd_engine.specs.declared.tried.Tried.TheVariants as tried

-- which commands may not be taken where this is mapped, if they aren't refused
abbrev pub Rule : Type 0
Rule = Maps → Command → Bool

-- each may be
abbrev pub no_rule : Rule
no_rule m c = false

-- ---- in a state

abbrev pub forbids_in : Rule → Plain → ℕ → Command → Bool
forbids_in r u i c = is_ok (ran u i c) && r (maps_of u i) c

abbrev pub met_forbidden : Rule → Plain → ℕ → Option (List ℕ) → Bool
met_forbidden r u i None = false
met_forbidden r u i (Some bytes) = forbids_in r u i (decoded bytes)

-- the next step of translator number i would take a command that isn't refused, and that the rule forbids
unfoldable pub is_forbidden : Rule → Plain → ℕ → Bool
is_forbidden r u i = not (is_idle u i) && met_forbidden r u i (next_bytes u i)

-- the command wasn't refused
abbrev pub has_run : CmdReply → Bool
has_run (Ran op) = true
has_run (Refused op why) = false

-- ---- one try, after which this was seen of a machine that began so

-- the state before the last call
abbrev pub WasAllowed : Rule → Plain → ℕ → List Entry → Type 0
WasAllowed r start its seen = (before : List Entry) (last : Entry) → seen ≡ before ++ last ∷ [] → is_forbidden r (after start before) its ≡ false

-- A step that was made was allowed where it was made. One that was not made is full only where it is forbidden
abbrev pub KeepsTo : {T : Type 0} → Rule → Plain → ℕ → List Entry → Result (Placed T) Missed → Type 0
KeepsTo r start its seen (Ok p) = WasAllowed r start its seen
KeepsTo r start its seen (Err missed.Full) = is_forbidden r (after start seen) its ≡ true
KeepsTo r start its seen (Err m) = Unit {0}

abbrev pub KeepsOnce : {T : Type 0} → Rule → Plain → ℕ → List Entry → Result (Result (Placed T) Missed) Busy → Type 0
KeepsOnce r start its seen (Ok made) = KeepsTo r start its seen made
KeepsOnce r start its seen (Err b) = Unit {0}

-- as the whole call answers it
abbrev pub KeepsTried : {T : Type 0} → Rule → Plain → ℕ → List Entry → Tried T → Type 0
KeepsTried r start its seen (tried.Done p) = WasAllowed r start its seen
KeepsTried r start its seen tried.Full = is_forbidden r (after start seen) its ≡ true
KeepsTried r start its seen other = Unit {0}

-- ---- without a rule

abbrev pub NeverFull : {T : Type 0} → Result (Placed T) Missed → Type 0
NeverFull (Err missed.Full) = ⊥
NeverFull other = Unit {0}

abbrev pub IsNotFull : {T : Type 0} → Tried T → Type 0
IsNotFull tried.Full = ⊥
IsNotFull other = Unit {0}
