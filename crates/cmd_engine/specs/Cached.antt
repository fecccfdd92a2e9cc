-- The shards of a translator's cache that a call has in hand, and what its commit does to them and to the stamp.
use Rattle.std.specs.Prelude.{◌≡◌, ◌⊎◌, ℕ, ◌+◌, ◌<◌, List, ◌∷◌, Option}
use Rattle.its_types.specs.declared.machine.Word.{Word}
use Rattle.its_plain.specs.declared.call.Call.{Call}
use Rattle.its_plain.specs.declared.call.CmdReply.{CmdReply}
use Rattle.its_plain.specs.declared.call.CmdReply.TheVariants.{Ran, Refused}
use Rattle.its_plain.specs.declared.call.Reply.{Reply}
use Rattle.xlate_cache.specs.Pairs.{shard_number}
use Rattle.xlate_cache.specs.Ways.{dropped}
use Rattle.its_steps.specs.Contents.{Held}
use Rattle.its_steps.specs.Endings.{Ending, Nothing, Pair, All}
use Rattle.its_steps.specs.Parts.{Setup, translator_count, stamp_of, stamp_with}
use Rattle.its_steps.specs.declared.change.ShardChange.{ShardChange}
use Rattle.its_steps.specs.declared.change.ShardChange.TheVariants as change
use Rattle.its_steps.specs.declared.commit.Commit.{Commit}
use Rattle.held_parts.specs.Shards.{Ways, shard_held, shards_held, AreShards, AreEmptied}
use Rattle.cmd_engine.specs.declared.cached.Cached.{Cached}
use Rattle.cmd_engine.specs.declared.cached.Cached.TheVariants as cached
use Rattle.cmd_engine.specs.declared.cached.Mark.{Mark}
use Rattle.cmd_engine.specs.declared.endings.Ending.{Ending as Ends}
use Rattle.cmd_engine.specs.declared.endings.Ending.TheVariants as ends

-- what the call ends, if it takes effect
abbrev pub ending_by : Ends → Ending
ending_by ends.Nothing = Nothing
ending_by (ends.Pair dev ev) = Pair dev.0 ev.0
ending_by ends.All = All

abbrev pub ending_as : Cached → Ending
ending_as cached.Nothing = Nothing
ending_as (cached.Pair dev ev ways) = Pair dev.0 ev.0
ending_as cached.Any = All
ending_as (cached.Every shards) = All

-- of the translator's n shards those in hand, before other parts
abbrev pub cached_held : ℕ → ℕ → Cached → List Held → List Held
cached_held its n cached.Nothing others = others
cached_held its n (cached.Pair dev ev ways) others = shard_held its (shard_number dev.0 ev.0 n) ways ∷ others
cached_held its n cached.Any others = others
cached_held its n (cached.Every shards) others = shards_held its shards n others

-- they are shards of this translator: the pair's is one; and where every one should be in hand, each is
abbrev pub AreWhole : Setup → ℕ → Cached → Type 0
AreWhole s its (cached.Pair dev ev ways) = (its < translator_count s) × (shard_number dev.0 ev.0 s.shards < s.shards)
AreWhole s its (cached.Every shards) = (its < translator_count s) × AreShards s.shards shards
AreWhole s its other = Unit {0}

abbrev pub HasEvery : Cached → Type 0
HasEvery (cached.Every shards) = Unit {0}
HasEvery other = ⊥

-- it may end any, and none is in hand
abbrev pub IsAny : Cached → Type 0
IsAny cached.Any = Unit {0}
IsAny other = ⊥

abbrev pub mark_of : ℕ → ShardChange → Mark
mark_of stamp ch = record { stamp = stamp; change = ch }

-- the commit that leaves it
abbrev pub commit_of : Word → Mark → Call → Reply → Commit
commit_of w m c r = record { expected = w; stamp = m.stamp; call = c; reply = r; change = m.change }

-- the translator's stamp is one higher, and every other stays
pub record IsRisen (s : Setup) (its : ℕ) (word : Word) (m : Mark) : Type 0 where
  pub room : stamp_of s word its < s.limits.stamp_last
  pub stamp : m.stamp ≡ stamp_with (translator_count s) word.stamp its (stamp_of s word its + 1)
  pub change_is : m.change ≡ change.Keep

-- after the last stamp it is 0, and its shards are emptied
pub record IsRenewed (s : Setup) (its : ℕ) (word : Word) (m : Mark) : Type 0 where
  pub most : stamp_of s word its ≡ s.limits.stamp_last
  pub stamp : m.stamp ≡ stamp_with (translator_count s) word.stamp its 0
  pub change_is : m.change ≡ change.Empty

-- what a commit leaves that ends nothing, or a pair that is dropped, or all
abbrev pub LeavesBy : Setup → ℕ → Ending → Word → Mark → Type 0
LeavesBy s its Nothing word m = (m.stamp ≡ word.stamp) × (m.change ≡ change.Keep)
LeavesBy s its (Pair dev ev) word m = (m.stamp ≡ word.stamp) × (m.change ≡ change.Drop (record { 0 = dev }) (record { 0 = ev }))
LeavesBy s its All word m = IsRisen s its word m ⊎ IsRenewed s its word m

-- a commit may leave this: it empties all shards only where they are in hand
pub record MayMark (s : Setup) (its : ℕ) (c : Cached) (word : Word) (m : Mark) : Type 0 where
  pub leaves : LeavesBy s its (ending_as c) word m
  pub every : m.change ≡ change.Empty → HasEvery c

-- of a command, which ends nothing where it is refused
abbrev pub ending_said : Cached → CmdReply → Ending
ending_said c (Ran op) = ending_as c
ending_said c (Refused op why) = Nothing

pub record MayMarkSaid (s : Setup) (its : ℕ) (c : Cached) (said : CmdReply) (word : Word) (m : Mark) : Type 0 where
  pub leaves : LeavesBy s its (ending_said c said) word m
  pub every : m.change ≡ change.Empty → HasEvery c

-- the shards after it
abbrev pub AreChanged : ShardChange → Cached → Cached → Type 0
AreChanged (change.Drop d e) (cached.Pair dev ev ways) new = new ≡ cached.Pair dev ev (dropped ways dev.0 ev.0)
AreChanged change.Empty (cached.Every shards) new = (now : List (Option Ways)) × (new ≡ cached.Every now) × AreEmptied shards now
AreChanged ch old new = new ≡ old
