-- What a call tells that waits for its turns.
use Rattle.std.specs.Prelude.{◌≡◌, ◌<◌, ℕ, true, false, List, [], length, Some, Result, Ok, Err}
use mathlib.Core.List.{IsPrefix}
use Rattle.its_command.specs.Commands.{decoded}
use Rattle.its_types.specs.declared.machine.Part.{Part}
use Rattle.its_types.specs.declared.machine.Placed.{Placed}
use Rattle.its_types.specs.declared.machine.Word.{Word}
use Rattle.its_plain.specs.Answer.{is_idle, next_bytes}
use Rattle.its_plain.specs.History.{after}
use Rattle.its_plain.specs.Plain.{Plain}
use Rattle.its_plain.specs.declared.call.Call.{Call}
use Rattle.its_plain.specs.declared.call.Call.TheVariants as call
use Rattle.its_plain.specs.declared.call.Reply.{Reply}
use Rattle.its_plain.specs.declared.call.Reply.TheVariants as reply
use Rattle.its_plain.specs.declared.call.StepReply.{StepReply}
use Rattle.cmd_exec.specs.Room.{adds_to}
use Rattle.its_steps.specs.Parts.{stamp_of}
use Rattle.its_steps.specs.Renewal.{its_of}
use Rattle.its_steps.specs.World.{View}
use Rattle.its_turns.specs.Calls.{Stays, GotOnly, HasLooked}
use Rattle.its_turns.specs.Steps.{IsRaced}
use Rattle.its_turns.specs.declared.attempts.NotMade.{NotMade}
use Rattle.its_turns.specs.declared.attempts.NotMade.TheVariants as none
use Rattle.its_turns.specs.declared.attempts.Spent.{Spent as AllUsed}
use Rattle.held_parts.specs.Taking.{Goes, FindsSpent, LosesRace}
use Rattle.cmd_engine.specs.Cached.{IsAny}
use Rattle.cmd_engine.specs.Hands.{IsOfStep}
use Rattle.cmd_engine.specs.Leaving.{EndsAs, MadeAs}
use Rattle.cmd_engine.specs.declared.cached.Cached.{Cached}
use Rattle.cmd_engine.specs.declared.missed.Missed.{Missed}
use Rattle.cmd_engine.specs.declared.missed.Missed.TheVariants as missed

-- in this state the translator would take a command that isn't refused and adds a device, a collection or an event
pub record WantsMemory (u : Plain) (its : ℕ) : Type 0 where
  pub busy : is_idle u its ≡ false
  pub bytes : List ℕ
  pub bytes_are : next_bytes u its ≡ Some bytes
  pub adds : adds_to u its (decoded bytes) ≡ true

-- ---- one try

-- a step may want memory
abbrev pub CallWants : Plain → Call → Type 0
CallWants u (call.Step its) = WantsMemory u its
CallWants u c = ⊥

-- a rule is of steps alone
abbrev pub MayBeFull : Call → Type 0
MayBeFull (call.Step its) = Unit {0}
MayBeFull c = ⊥

-- Why a try was not made. Each time the word was read in it. Where the stamp was found to be the last one, this is known too
abbrev pub IsWhyWith : Type 0 → View → Call → Missed → View → Type 0
IsWhyWith late v c missed.Spent w = FindsSpent v w
IsWhyWith late v c missed.NoMemory w = HasLooked v w.last w × CallWants (after v.setup.start w.seen) c
IsWhyWith late v c missed.Full w = HasLooked v w.last w × MayBeFull c
IsWhyWith late v c (missed.Raced r) w = LosesRace v r w
IsWhyWith late v c missed.Late w = HasLooked v w.last w × (stamp_of v.setup w.last (its_of c) ≡ v.setup.limits.stamp_last) × late

-- this call read the word when the translator's stamp was lower than the last one
pub record ReadLow (v : View) (its : ℕ) (w : View) : Type 0 where
  pub word : Word
  pub read : HasLooked v word w
  pub low : stamp_of v.setup word its < v.setup.limits.stamp_last

-- the commit lost a race
abbrev pub IsRaceOf : View → Word → Missed → View → Type 0
IsRaceOf v word (missed.Raced r) w = IsRaced v word r w
IsRaceOf v word m w = ⊥

-- tried once, whatever is held
abbrev pub ComesWith : {T : Type 0} → Type 0 → (Part → Type 0) → View → Call → (T → Reply) → View → Result (Placed T) Missed → Type 0
ComesWith late P v c reply w (Ok x) = MadeAs P v c (reply x.reply) x.place w
ComesWith late P v c reply w (Err m) = Goes P v w × IsWhyWith late v c m w

-- the stamp became the last one in this try, if it was found to be
abbrev pub Comes : {T : Type 0} → (Part → Type 0) → View → Call → (T → Reply) → View → Result (Placed T) Missed → Type 0
Comes P v c reply w r = ComesWith (ReadLow v (its_of c) w) P v c reply w r

-- a try that goes on from here comes to this, whatever it began with
abbrev pub ComesFrom : {T : Type 0} → (Part → Type 0) → View → Call → (T → Reply) → View → Result (Placed T) Missed → Type 0
ComesFrom P y c reply w r = (v : View) → v.held ≡ [] → Goes P v y → Comes P v c reply w r

-- with these shards in hand: the stamp was found to be the last one only where it should have risen
abbrev pub ComesFromShards : {T : Type 0} → Cached → (Part → Type 0) → View → Call → (T → Reply) → View → Result (Placed T) Missed → Type 0
ComesFromShards h P y c reply w r = (v : View) → v.held ≡ [] → Goes P v y → ComesWith (IsAny h × IsPrefix y.seen w.seen) P v c reply w r

-- ---- and again until it was made

-- a write
abbrev pub AsksUntilMade : {T : Type 0} → (Part → Type 0) → View → Call → (T → Reply) → View → Result (Placed T) AllUsed → Type 0
AsksUntilMade P v c reply w (Ok x) = EndsAs v c (reply x.reply) x.place w × GotOnly P v w
AsksUntilMade P v c reply w (Err spent) = Stays v w × (length w.seen ≡ v.setup.limits.place_last) × GotOnly P v w

-- why no step was made
abbrev pub IsWhyNone : View → ℕ → NotMade → View → Type 0
IsWhyNone v its none.Spent w = length w.seen ≡ v.setup.limits.place_last
IsWhyNone v its none.NoMemory w = WantsMemory (after v.setup.start w.seen) its

-- A step of one translator. It gets turns of no part of another translator: neither of its maps nor of a shard
abbrev pub Steps : View → ℕ → Result (Placed StepReply) NotMade → View → Type 0
Steps v its (Ok p) w = EndsAs v (call.Step its) (reply.Step p.reply) p.place w × GotOnly (IsOfStep its) v w
Steps v its (Err e) w = Stays v w × IsWhyNone v its e w × GotOnly (IsOfStep its) v w
