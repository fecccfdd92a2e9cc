-- When the LPIs of a virtual processor are turned on (GICR_CTLR.EnableLPIs: IHI 0069, section 12.11), and what follows only then.
use Rattle.std.specs.Prelude.{◌≡◌, ◌⊎◌, ℕ, true, false, List, [], ◌∷◌, ◌++◌}
use Rattle.std.specs.List.{AllByRecursion}
use Rattle.gicr_regs.specs.Redistributors.{Redistributor}
use Rattle.its_types.specs.Bits.{bit_of}
use Rattle.its_types.specs.Lpis.{is_pending}
use Rattle.its_plain.specs.Plain.{Plain, redistributor, pending_of, is_on}
use Rattle.its_plain.specs.Answer.{answer}
use Rattle.its_plain.specs.History.{after}
use Rattle.its_plain.specs.Saved.{moved}
use Rattle.its_plain.specs.declared.call.Ack.TheVariants as ack
use Rattle.its_plain.specs.declared.call.Call.{Call}
use Rattle.its_plain.specs.declared.call.Call.TheVariants as call
use Rattle.its_plain.specs.declared.call.Entry.{Entry}
use Rattle.its_plain.specs.declared.call.Reply.{Reply}
use Rattle.its_plain.specs.declared.call.Reply.TheVariants as reply
use Rattle.its_plain.specs.declared.call.Signal.TheVariants.{Delivered}
use Rattle.its_plain.specs.declared.desc.LpiTables.{LpiTables}
use Rattle.its_plain.specs.declared.desc.LpiTables.TheVariants.{Described, Registers}

-- ---- states

-- it takes LPIs where they are on, as in every sound state
abbrev pub TakesWhereOn : Redistributor → Type 0
TakesWhereOn r = r.accepts ≡ r.bases.on

-- LPIs are off: none is taken, and none is pending
pub record IsOff (r : Redistributor) : Type 0 where
  pub off : r.bases.on ≡ false
  pub none_taken : r.accepts ≡ false
  pub none_pending : r.pending ≡ []

-- so it is of every virtual processor
abbrev pub AllOff : Plain → Type 0
AllOff u = (vcpu : ℕ) → IsOff (redistributor u vcpu)

-- the guest programs the LPI registers, and no redistributor is restored with LPIs on: a script has the line `gicr`, and each of
-- its lines `rrestore`, if there are any, has bit 0 of GICR_CTLR clear
abbrev pub RestoresOff : LpiTables → Type 0
RestoresOff (Described config pending) = ⊥
RestoresOff (Registers values) = AllByRecursion (λ r. bit_of r.ctlr 0 ≡ false) values.registers

-- ---- calls

-- the guest writes 1 to GICR_CTLR.EnableLPIs of the virtual processor: 4 bytes at offset 0
abbrev pub WritesEnableLpis : ℕ → Call → Type 0
WritesEnableLpis vcpu (call.WriteGicr written off size value) = (written.0 ≡ vcpu) × (off ≡ 0) × (size ≡ 4) × (bit_of value 0 ≡ true)
WritesEnableLpis vcpu _ = ⊥

-- the guest writes 0 to it, of a machine that lets it turn LPIs off
abbrev pub WritesDisableLpis : ℕ → Call → Type 0
WritesDisableLpis vcpu (call.WriteGicr written off size value) = (written.0 ≡ vcpu) × (off ≡ 0) × (size ≡ 4) × (bit_of value 0 ≡ false)
WritesDisableLpis vcpu _ = ⊥

abbrev pub Disables : Plain → ℕ → Call → Type 0
Disables u vcpu c = (u.layout.gicr ≡ true) × (u.layout.shape.linux ≡ true) × WritesDisableLpis vcpu c

-- no call of a history does that, which begins in this state
abbrev pub NoneDisables : Plain → ℕ → List Entry → Type 0
NoneDisables u vcpu [] = Unit {0}
NoneDisables u vcpu (e ∷ h) = (¬ Disables u vcpu e.call) × NoneDisables (answer u e.call).1 vcpu h

-- nor of these legs
abbrev pub NoneDisablesInLegs : Plain → ℕ → List (List Entry) → Type 0
NoneDisablesInLegs u vcpu [] = Unit {0}
NoneDisablesInLegs u vcpu (h ∷ hs) = NoneDisables u vcpu h × NoneDisablesInLegs (moved (after u h)) vcpu hs

-- the write takes effect: LPIs were off before it, and are on after it
pub record TurnsOn (u : Plain) (vcpu : ℕ) (c : Call) : Type 0 where
  pub write : WritesEnableLpis vcpu c
  pub off_before : is_on u vcpu ≡ false
  pub on_after : is_on (answer u c).1 vcpu ≡ true

-- one of the calls of a history does so, which begins in this state, and no later one of it writes 0
abbrev pub TurnsOnIn : Plain → ℕ → List Entry → Type 0
TurnsOnIn u vcpu [] = ⊥
TurnsOnIn u vcpu (e ∷ h) = (TurnsOn u vcpu e.call × NoneDisables (answer u e.call).1 vcpu h) ⊎ TurnsOnIn (answer u e.call).1 vcpu h

-- one of the calls of these legs, of which each but the first goes on from the machine moved
abbrev pub TurnsOnInLegs : Plain → ℕ → List (List Entry) → Type 0
TurnsOnInLegs u vcpu [] = ⊥
TurnsOnInLegs u vcpu (h ∷ hs) = (TurnsOnIn u vcpu h × NoneDisablesInLegs (moved (after u h)) vcpu hs) ⊎ TurnsOnInLegs (moved (after u h)) vcpu hs

-- the state that a leg begins in, and then so many calls of it
abbrev pub state_after : Plain → List (List Entry) → List Entry → Plain
state_after u [] before = after u before
state_after u (h ∷ hs) before = state_after (moved (after u h)) hs before

-- ---- LPIs

-- an LPI was delivered to the virtual processor, or is the one that it takes or is shown
abbrev pub TellsLpi : ℕ → Call → Reply → Type 0
TellsLpi vcpu (call.Signal its dev ev) (reply.Signal (Delivered target intid)) = target.0 ≡ vcpu
TellsLpi vcpu (call.Dma req addr bytes to) (reply.Signal (Delivered target intid)) = target.0 ≡ vcpu
TellsLpi vcpu (call.Take taker) (reply.Ack (ack.Some intid priority)) = taker.0 ≡ vcpu
TellsLpi vcpu (call.Show shown) (reply.Ack (ack.Some intid priority)) = shown.0 ≡ vcpu
TellsLpi vcpu (call.Best shown mask) (reply.Ack (ack.Some intid priority)) = shown.0 ≡ vcpu
TellsLpi vcpu (call.Claim taker asked) (reply.Ack (ack.Some intid priority)) = taker.0 ≡ vcpu
TellsLpi vcpu _ _ = ⊥

-- before each reply that tells of an LPI, and wherever one is pending, an earlier call of the same leg or of an earlier one turned
-- the LPIs of that virtual processor on
pub record FollowEnabling (first : Plain) (histories : List (List Entry)) : Type 0 where
  pub told :
      (earlier : List (List Entry)) (before : List Entry) (e : Entry) (rest : List Entry) (later : List (List Entry)) (vcpu : ℕ)
      → histories ≡ earlier ++ (before ++ e ∷ rest) ∷ later → TellsLpi vcpu e.call e.reply → TurnsOnInLegs first vcpu (earlier ++ before ∷ [])
  -- also what INT or another command made pending, or moved there
  pub pending :
      (earlier : List (List Entry)) (before rest : List Entry) (later : List (List Entry)) (vcpu intid : ℕ)
      → histories ≡ earlier ++ (before ++ rest) ∷ later → is_pending intid (pending_of (state_after first earlier before) vcpu) ≡ true
      → TurnsOnInLegs first vcpu (earlier ++ before ∷ [])
