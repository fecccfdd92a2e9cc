-- When a pass may commit a call, told by what it holds.
use Rattle.std.specs.Prelude.{◌≡◌, ◌⊎◌, ℕ, ◌+◌, ◌<◌, ◌≤◌, Bool, true, false, Option, Some, None, Ok, List, [], ◌∷◌, slice_index_or}
use Rattle.std.specs.List.{AllByRecursion}
use Rattle.its_types.specs.declared.ids.DeviceId.{DeviceId}
use Rattle.its_types.specs.declared.ids.EventId.{EventId}
use Rattle.its_types.specs.declared.ids.Target.{Target}
use Rattle.its_types.specs.declared.machine.Part.{Part}
use Rattle.its_types.specs.declared.machine.Part.TheVariants as part
use Rattle.its_types.specs.declared.machine.Word.{Word}
use Rattle.its_plain.specs.Answer.{reply_of, left}
use Rattle.its_plain.specs.Parts.{footprint}
use Rattle.its_plain.specs.Plain.{Plain, PendState}
use Rattle.its_plain.specs.Translation.{located, translated}
use Rattle.its_plain.specs.declared.call.Call.{Call}
use Rattle.its_plain.specs.declared.call.Call.TheVariants as call
use Rattle.its_plain.specs.declared.call.Route.{Route}
use Rattle.its_plain.specs.declared.call.Route.TheVariants as route
use Rattle.its_plain.specs.declared.call.Reply.{Reply}
use Rattle.its_plain.specs.declared.call.Reply.TheVariants as reply
use Rattle.its_plain.specs.declared.call.Cause.TheVariants.{LpisOff}
use Rattle.its_plain.specs.declared.call.Signal.{Signal}
use Rattle.its_plain.specs.declared.call.Signal.TheVariants.{Delivered, Dropped}
use Rattle.xlate_cache.specs.Pairs.{shard_number}
use Rattle.xlate_cache.specs.Ways.{is_of, entry, found}
use Rattle.xlate_cache.specs.declared.entry.Entry.{Entry as Translation}
use Rattle.its_steps.specs.Contents.{Content, Maps, Shard, Pend, Held}
use Rattle.its_steps.specs.Good.{Holds, Apart}
use Rattle.its_steps.specs.MayCommit.{IsOut}
use Rattle.its_steps.specs.Parts.{Setup, Stands, translator_count, stamp_of}
use Rattle.its_steps.specs.Renewal.{assembled, its_of, shard_of, renewal_in}
use Rattle.its_steps.specs.World.{word_after}
use Rattle.its_steps.specs.declared.change.ShardChange.{ShardChange}
use Rattle.its_steps.specs.declared.change.ShardChange.TheVariants as change
use Rattle.its_steps.specs.declared.commit.Commit.{Commit}

-- the part is held and owes this
abbrev pub Owes : Part → Content → List Held → Type 0
Owes p c [] = ⊥
Owes p c (x ∷ xs) = ((x.part ≡ p) × (x.owed ≡ c)) ⊎ Owes p c xs

-- ---- the reply

-- every part that the call reads or changes in this state is held
abbrev pub Covers : Plain → Call → List Held → Type 0
Covers u call held = AllByRecursion (λ p. Holds p held) (footprint u call)

-- and this is the reply there
pub record IsAnswered (u : Plain) (call : Call) (reply : Reply) (held : List Held) : Type 0 where
  pub covers : Covers u call held
  pub reply_is : reply ≡ reply_of u call

abbrev message_in : Route → Option (ℕ × (DeviceId × EventId))
message_in (route.Signal its dev ev) = Some (its, (dev, ev))
message_in to = None

-- the message that a call is, to a translator, from a device with an event: a signal, or a write by address
abbrev pub message_of : Call → Option (ℕ × (DeviceId × EventId))
message_of (call.Signal its dev ev) = Some (its, (dev, ev))
message_of (call.Dma req addr bytes to) = message_in to
message_of c = None

-- what a redistributor makes of a message that is for it
abbrev pub met : Bool → Target → Signal
met true target = Delivered target.vcpu target.intid
met false target = Dropped LpisOff

-- A signal that is found in the cache: its pair's shard has the translation under the stamp expected, and what is pending at the target's redistributor is
-- held, which says whether it takes LPIs. Neither maps nor configurations need be
pub record IsHit (s : Setup) (a : Commit) (held : List Held) : Type 0 where
  pub its : ℕ
  pub dev : DeviceId
  pub ev : EventId
  pub target : Target
  pub message : message_of a.call ≡ Some (its, (dev, ev))
  pub ways : List (Option Translation)
  pub owes : Owes (part.Shard its (shard_number dev.0 ev.0 s.shards)) (Shard ways) held
  pub is_found : found ways dev.0 ev.0 (stamp_of s a.expected its) ≡ Some target
  pub pend : PendState
  pub target_owes : Owes (part.Pend target.vcpu) (Pend pend) held
  pub reply_is : a.reply ≡ reply.Signal (met pend.accepts target)

-- ---- the change of the shards, where the call leaves this state

pub record MayFill (s : Setup) (call : Call) (after : Plain) (held : List Held) (dev : DeviceId) (ev : EventId) (target : Target) : Type 0 where
  pub maps : Holds (part.Maps (its_of call)) held
  pub shard : Holds (shard_of s call dev ev) held
  pub pend : Holds (part.Pend target.vcpu) held
  pub agrees : translated after (its_of call) dev.0 ev.0 ≡ Ok target

abbrev pub MayChange : Setup → Call → ShardChange → Plain → List Held → Type 0
MayChange s call (change.Fill dev ev target) after held = MayFill s call after held dev ev target
MayChange s call (change.Drop dev ev) after held = Holds (shard_of s call dev ev) held
MayChange s call change after held = Unit {0}

-- ---- the stamp

-- the pair's shard is held, and has no entry of the pair from then on
pub record IsWithout (s : Setup) (its dev ev : ℕ) (owed : List Held) : Type 0 where
  pub ways : List (Option Translation)
  pub owes : Owes (part.Shard its (shard_number dev ev s.shards)) (Shard ways) owed
  pub none : (i : ℕ) → is_of dev ev (slice_index_or ways i None) ≡ false

-- Each pair that the maps sent somewhere they send there as before, unless its translation is in no shard any more
abbrev pub IsSteady : Setup → ℕ → List Held → Part → Content → Content → Type 0
IsSteady s its owed (part.Maps i) (Maps t) (Maps t') = i ≡ its → (dev ev : ℕ) (target : Target) → located t dev ev ≡ Ok target → (located t' dev ev ≡ Ok target)
    ⊎ IsWithout s its dev ev owed
IsSteady s its owed p c c' = Unit {0}

abbrev pub AreSteady : Setup → ℕ → List Held → List Held → List Held → Type 0
AreSteady s its owed (x ∷ xs) (y ∷ ys) = IsSteady s its owed x.part x.owed y.owed × AreSteady s its owed xs ys
AreSteady s its owed [] ys = Unit {0}
AreSteady s its owed (x ∷ xs) [] = Unit {0}

-- the entry is what the change puts in, where the commit of the call leaves this word
abbrev pub IsFill : Setup → Word → Call → ShardChange → ℕ → Translation → Type 0
IsFill s to call (change.Fill dev ev target) its e = (its ≡ its_of call) × (e ≡ entry dev ev (stamp_of s to its) target)
IsFill s to call change its e = ⊥

-- no entry was in the translator's shard before
abbrev pub HasFillsAlone : Setup → Word → Call → ShardChange → ℕ → Part → Content → Type 0
HasFillsAlone s to call change its (part.Shard i n) (Shard ways) = i ≡ its → (k : ℕ) (e : Translation) → slice_index_or ways k None ≡ Some e
    → IsFill s to call change its e
HasFillsAlone s to call change its p c = Unit {0}

-- The stamp of a translator stays, where no current translation ends
pub record StampStays (s : Setup) (a : Commit) (its : ℕ) (held owed : List Held) : Type 0 where
  pub same : stamp_of s (word_after a) its ≡ stamp_of s a.expected its
  pub steady : AreSteady s its owed held owed

-- or that of the call's own rises by one, with its maps held, so that none is current any more
pub record StampRises (s : Setup) (a : Commit) (its : ℕ) (held : List Held) : Type 0 where
  pub own : its ≡ its_of a.call
  pub maps : Holds (part.Maps its) held
  pub next : stamp_of s (word_after a) its ≡ stamp_of s a.expected its + 1
  pub most : stamp_of s (word_after a) its ≤ s.limits.stamp_last

-- or is 0 again, with its maps and all its shards held, none of which keeps an entry
pub record StampRenews (s : Setup) (a : Commit) (its : ℕ) (held owed : List Held) : Type 0 where
  pub own : its ≡ its_of a.call
  pub maps : Holds (part.Maps its) held
  pub shards : (n : ℕ) → n < s.shards → Holds (part.Shard its n) held
  pub zero : stamp_of s (word_after a) its ≡ 0
  pub fills : AllByRecursion (λ x. HasFillsAlone s (word_after a) a.call a.change its x.part x.owed) owed

abbrev pub MayStamp : Setup → Commit → List Held → List Held → ℕ → Type 0
MayStamp s a held owed its = StampStays s a its held owed ⊎ (StampRises s a its held ⊎ StampRenews s a its held owed)

-- ---- the commit

-- told of a state that has what is held
pub record MayCallIn (s : Setup) (u : Plain) (a : Commit) (held : List Held) : Type 0 where
  pub room : a.expected.place < s.limits.place_last
  pub stands : AllByRecursion (λ x. Stands s x.part) held
  pub apart : Apart held
  pub out : AllByRecursion IsOut held
  pub answered : IsAnswered u a.call a.reply held ⊎ IsHit s a held
  pub may_change : MayChange s a.call a.change (left u a.call a.reply) held
  pub stamps : (its : ℕ) → its < translator_count s → MayStamp s a held (renewal_in s u a held) its

-- and of the first state, with what is held put in
abbrev pub MayCall : Setup → Commit → List Held → Type 0
MayCall s a held = MayCallIn s (assembled s held) a held
