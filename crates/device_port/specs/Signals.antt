-- What the port of the devices answers to a call that is a message.
use Rattle.std.specs.Prelude.{◌≡◌, ◌⊎◌, Bool, ◌<◌, ◌≤◌, List, [], ◌∷◌, ◌++◌, length, Option, Some, None, Result, Ok, Err}
use Rattle.std.specs.List.{AllByRecursion}
use Rattle.its_types.specs.declared.ids.Target.{Target}
use Rattle.its_types.specs.declared.ids.Vcpu.{Vcpu}
use Rattle.its_types.specs.declared.machine.Part.{Part}
use Rattle.its_types.specs.declared.machine.Part.TheVariants as part
use Rattle.its_types.specs.declared.machine.Placed.{Placed}
use Rattle.its_types.specs.declared.machine.Word.{Word}
use Rattle.its_plain.specs.declared.call.Call.{Call}
use Rattle.its_plain.specs.declared.call.Reply.TheVariants as reply
use Rattle.its_plain.specs.declared.call.Signal.{Signal}
use Rattle.its_plain.specs.declared.call.Signal.TheVariants.{Delivered, Dropped}
use Rattle.xlate_cache.specs.Pairs.{shard_number}
use Rattle.xlate_cache.specs.Ways.{found}
use Rattle.its_steps.specs.Contents.{Looked}
use Rattle.its_steps.specs.MayCall.{met}
use Rattle.its_steps.specs.Parts.{Setup, stamp_of}
use Rattle.its_steps.specs.World.{View}
use Rattle.its_steps.specs.declared.change.ShardChange.TheVariants as change
use Rattle.its_turns.specs.Calls.{Stays, IsPlaced, Leaves, got_all, WasBusy, WasRaced, WasSpent}
use Rattle.its_turns.specs.declared.attempts.Attempt.{Attempt}
use Rattle.its_turns.specs.declared.attempts.Attempt.TheVariants as attempt
use Rattle.its_turns.specs.declared.attempts.Spent.{Spent as AllUsed}
use Rattle.device_port.specs.declared.message.Message.{Message}
use Rattle.device_port.specs.declared.hits.Now.{Now}
use Rattle.device_port.specs.declared.hits.Now.TheVariants.{Done, Miss, Busy, Raced, Spent}

-- the shard of the pair, of the message's translator
abbrev pub shard_of : Setup → Message → Part
shard_of s m = part.Shard m.its (shard_number m.dev.0 m.ev.0 s.shards)

-- the pair's shard was looked at, and under the translator's stamp in the word this was found for the pair
pub record Finds (s : Setup) (m : Message) (looked : Looked) (word : Word) (target : Option Target) : Type 0 where
  pub its : looked.its ≡ m.its
  pub number : looked.number ≡ shard_number m.dev.0 m.ev.0 s.shards
  pub finds : found looked.ways m.dev.0 m.ev.0 (stamp_of s word m.its) ≡ target

-- in the shard held last
abbrev pub FindsLast : Message → View → Option Target → Type 0
FindsLast m w target = Finds w.setup m w.cache.looked w.last target

-- ---- by the cache, tried once

-- The word is read first. What is in the cache is delivered, or dropped where the target's LPIs are off
abbrev pub SignalsNow : View → Call → Message → View → Now → Type 0
SignalsNow v c m w (Done p) = (t : Target) × (on : Bool) × (p.reply ≡ met on t) × IsPlaced v c (reply.Signal p.reply) p.place w
    × Leaves change.Keep w
    × (w.tries ≡ got_all (part.Pend t.vcpu ∷ shard_of v.setup m ∷ []) v.tries) × FindsLast m w (Some t)
SignalsNow v c m w Miss = Stays v w × (w.tries ≡ got_all (shard_of v.setup m ∷ []) v.tries) × (length w.seen < v.setup.limits.place_last)
    × FindsLast m w None
SignalsNow v c m w (Busy b) = (length w.seen < v.setup.limits.place_last) × (((b.part ≡ shard_of v.setup m) × WasBusy v [] b w)
    ⊎ ((t : Target) × (b.part ≡ part.Pend t.vcpu) × WasBusy v (shard_of v.setup m ∷ []) b w × FindsLast m w (Some t)))
SignalsNow v c m w (Raced r) = (t : Target) × WasRaced v (part.Pend t.vcpu ∷ shard_of v.setup m ∷ []) r w
SignalsNow v c m w Spent = WasSpent v [] w

-- the maps were not got: what had been looked at by then is as it was
pub record KeepsEarly (v w : View) : Type 0 where
  pub early : w.cache.early ≡ v.cache.early
  pub word : w.cache.early_word ≡ v.cache.early_word

-- ---- by the cache or the maps

-- the turns that a signal may get: the maps, the pair's shard, what is pending at a processor
abbrev pub IsOfSignal : Setup → Message → Part → Type 0
IsOfSignal s m p = (p ≡ part.Maps m.its) ⊎ ((p ≡ shard_of s m) ⊎ ((u : Vcpu) × (p ≡ part.Pend u)))

abbrev pub Among : Part → List Part → Type 0
Among p [] = ⊥
Among p (q ∷ qs) = (q ≡ p) ⊎ Among p qs

-- Such turns were got, the last one first. The maps' only where the pair's shard had been got, and had no translation of the pair
pub record SignalGot (v : View) (m : Message) (got : List Part) (w : View) : Type 0 where
  pub only : AllByRecursion (IsOfSignal v.setup m) got
  pub shard : Among (part.Maps m.its) got → Among (shard_of v.setup m) got
  pub missed : Among (part.Maps m.its) got → Finds w.setup m w.cache.early w.cache.early_word None
  pub kept : ¬ Among (part.Maps m.its) got → KeepsEarly v w

-- A message that was delivered is in the cache, under the stamp that the call found: the call filled it, or found it there. One
-- that was dropped changes nothing
abbrev pub Sent : Message → Signal → View → Type 0
Sent m (Delivered vcpu intid) w = let t : Target = record { vcpu = vcpu; intid = intid } in (Leaves change.Keep w ⊎ Leaves (change.Fill m.dev m.ev t) w)
    × FindsLast m w (Some t)
Sent m (Dropped cause) w = Leaves change.Keep w

-- each turn tried once
abbrev pub SignalsOnce : View → Call → Message → View → Attempt Signal → Type 0
SignalsOnce v c m w (attempt.Done p) = (got : List Part) × SignalGot v m got w × IsPlaced v c (reply.Signal p.reply) p.place w
    × Sent m p.reply w × (w.tries ≡ got_all got v.tries)
SignalsOnce v c m w (attempt.Busy b) = (got : List Part) × SignalGot v m got w × WasBusy v got b w × IsOfSignal v.setup m b.part
    × (length w.seen < v.setup.limits.place_last)
SignalsOnce v c m w (attempt.Raced r) = (got : List Part) × SignalGot v m got w × WasRaced v got r w
SignalsOnce v c m w attempt.Spent = (got : List Part) × SignalGot v m got w × WasSpent v got w

-- and again until it was made
pub record SignalAsks (v : View) (m : Message) (w : View) : Type 0 where
  pub got : List Part
  pub won : w.tries.won ≡ got ++ v.tries.won
  pub turns : SignalGot v m got w
  pub lost : v.tries.lost ≤ w.tries.lost

abbrev pub Signals : View → Call → Message → View → Result (Placed Signal) AllUsed → Type 0
Signals v c m w (Ok p) = SignalAsks v m w × IsPlaced v c (reply.Signal p.reply) p.place w × Sent m p.reply w
Signals v c m w (Err spent) = SignalAsks v m w × Stays v w × (length w.seen ≡ v.setup.limits.place_last)

-- the pair's translation is found, where the call was made
abbrev pub FindsIfDone : Message → View → Option Target → Attempt Signal → Type 0
FindsIfDone m w target (attempt.Done p) = FindsLast m w target
FindsIfDone m w target other = Unit {0}
