-- What a commit leaves in the parts that a pass holds.
use Rattle.std.specs.Prelude.{ℕ, Bool, ◌==◌, ◌&&◌, if◌then◌else◌, Option, List, [], ◌∷◌}
use Rattle.its_types.specs.declared.ids.DeviceId.{DeviceId}
use Rattle.its_types.specs.declared.ids.EventId.{EventId}
use Rattle.its_types.specs.declared.machine.Part.{Part}
use Rattle.its_types.specs.declared.machine.Part.TheVariants as part
use Rattle.its_types.specs.declared.machine.Word.{Word}
use Rattle.its_plain.specs.Answer.{left}
use Rattle.its_plain.specs.Plain.{Plain, conf_of, pend_of, with_conf, with_pend, translator, redistributor, with_translator, with_redistributor}
use Rattle.its_plain.specs.declared.call.Call.{Call}
use Rattle.its_plain.specs.declared.call.Call.TheVariants as call
use Rattle.its_plain.specs.declared.call.Route.{Route}
use Rattle.its_plain.specs.declared.call.Route.TheVariants as route
use Rattle.xlate_cache.specs.Pairs.{shard_number}
use Rattle.xlate_cache.specs.Ways.{entry, filled, dropped, no_entries}
use Rattle.xlate_cache.specs.declared.entry.Entry.{Entry as Translation}
use Rattle.its_steps.specs.Contents.{Content, Maps, Mem, Shard, Conf, Pend, Held}
use Rattle.its_steps.specs.Parts.{Setup, stamp_of}
use Rattle.its_steps.specs.World.{word_after}
use Rattle.its_steps.specs.declared.change.ShardChange.{ShardChange}
use Rattle.its_steps.specs.declared.change.ShardChange.TheVariants as change
use Rattle.its_steps.specs.declared.commit.Commit.{Commit}

-- ---- the state that parts stand for

abbrev pub with_part : Part → Content → Plain → Plain
with_part (part.Maps its) (Maps t) u = with_translator u its t
with_part part.Mem (Mem memory track) u = record u { memory = memory; track = track }
with_part (part.Conf vcpu) (Conf c) u = with_redistributor u vcpu.0 (with_conf c (redistributor u vcpu.0))
with_part (part.Pend vcpu) (Pend p) u = with_redistributor u vcpu.0 (with_pend p (redistributor u vcpu.0))
with_part p c u = u

-- the first state, but with what the parts held owe
abbrev pub assembled : Setup → List Held → Plain
assembled s [] = s.start
assembled s (x ∷ xs) = with_part x.part x.owed (assembled s xs)

-- ---- shards

abbrev its_of_route : Route → ℕ
its_of_route (route.Signal its dev ev) = its
its_of_route to = 0

-- the translator that a call is of
abbrev pub its_of : Call → ℕ
its_of (call.Signal its dev ev) = its
its_of (call.ReadReg its off size) = its
its_of (call.WriteReg its off size value) = its
its_of (call.Step its) = its
its_of (call.Dma req addr bytes to) = its_of_route to
its_of c = 0

-- the shard of a pair, of the call's translator
abbrev pub shard_of : Setup → Call → DeviceId → EventId → Part
shard_of s call dev ev = part.Shard (its_of call) (shard_number dev.0 ev.0 s.shards)

abbrev pub is_shard_of : Setup → Call → DeviceId → EventId → ℕ → ℕ → Bool
is_shard_of s call dev ev its n = its == its_of call && n == shard_number dev.0 ev.0 s.shards

-- shard n of a translator after a change, where the commit of the call leaves this word
unfoldable pub changed : Setup → Word → Call → ShardChange → ℕ → ℕ → List (Option Translation) → List (Option Translation)
changed s to call change.Keep its n ways = ways
changed s to call (change.Fill dev ev target) its n ways = if is_shard_of s call dev ev its n then filled ways
    (entry dev ev (stamp_of s to its) target) else ways
changed s to call (change.Drop dev ev) its n ways = if is_shard_of s call dev ev its n then dropped ways dev.0 ev.0 else ways
changed s to call change.Empty its n ways = if its == its_of call then no_entries else ways

-- ---- all parts

-- what a part owes where the commit's call leaves this state
abbrev pub content_in : Setup → Commit → Plain → Part → Content → Content
content_in s a after (part.Maps its) c = Maps (translator after its)
content_in s a after part.Mem c = Mem after.memory after.track
content_in s a after (part.Conf vcpu) c = Conf (conf_of (redistributor after vcpu.0))
content_in s a after (part.Pend vcpu) c = Pend (pend_of (redistributor after vcpu.0))
content_in s a after (part.Shard its n) (Shard ways) = Shard (changed s (word_after a) a.call a.change its n ways)
content_in s a after (part.Shard its n) c = c

abbrev pub renewed : Setup → Commit → Plain → List Held → List Held
renewed s a after [] = []
renewed s a after (x ∷ xs) = record x { owed = content_in s a after x.part x.owed } ∷ renewed s a after xs

-- what the parts held owe after the commit, where a state has them
abbrev pub renewal_in : Setup → Plain → Commit → List Held → List Held
renewal_in s u a held = renewed s a (left u a.call a.reply) held

abbrev pub renewal : Setup → Commit → List Held → List Held
renewal s a held = renewal_in s (assembled s held) a held
