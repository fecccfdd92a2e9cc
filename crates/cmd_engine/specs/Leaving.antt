-- What a call leaves of the stamps, and what it does to the shards, by the translations that it ends.
use Rattle.std.specs.Prelude.{◌≡◌, ◌≢◌, ◌⊎◌, ℕ, ◌+◌, ◌<◌, ◌++◌}
use Rattle.its_types.specs.declared.machine.Part.{Part}
use Rattle.its_plain.specs.History.{after}
use Rattle.its_plain.specs.declared.call.Call.{Call}
use Rattle.its_plain.specs.declared.call.Reply.{Reply}
use Rattle.its_steps.specs.Endings.{Ending, Nothing, Pair, All, ending_of}
use Rattle.its_steps.specs.Parts.{Setup, translator_count, stamp_of}
use Rattle.its_steps.specs.Renewal.{its_of}
use Rattle.its_steps.specs.World.{View}
use Rattle.its_steps.specs.declared.change.ShardChange.TheVariants as change
use Rattle.its_steps.specs.declared.commit.Commit.{Commit}
use Rattle.its_turns.specs.Calls.{IsPlaced, Leaves}
use Rattle.held_parts.specs.Taking.{WasMade}

-- the translator's stamp is one higher, so that no translation of it is current
pub record Rises (s : Setup) (its : ℕ) (w : View) : Type 0 where
  pub room : stamp_of s w.commit.base its < s.limits.stamp_last
  pub stamp : stamp_of s w.last its ≡ stamp_of s w.commit.base its + 1
  pub change_is : w.commit.change ≡ change.Keep

-- after the last stamp it is 0 again, and each of its shards was emptied
pub record Renews (s : Setup) (its : ℕ) (w : View) : Type 0 where
  pub most : stamp_of s w.commit.base its ≡ s.limits.stamp_last
  pub stamp : stamp_of s w.last its ≡ 0
  pub change_is : w.commit.change ≡ change.Empty

-- where none ends, all stays; one pair's leaves its shard; for all the stamp rises, or is renewed
abbrev pub LeavesAs : Setup → ℕ → Ending → View → Type 0
LeavesAs s its Nothing w = Leaves change.Keep w
LeavesAs s its (Pair dev ev) w = Leaves (change.Drop (record { 0 = dev }) (record { 0 = ev })) w
LeavesAs s its All w = Rises s its w ⊎ Renews s its w

-- the stamps of the other translators are as they were
abbrev pub OthersStay : Setup → ℕ → View → Type 0
OthersStay s its w = (other : ℕ) → other < translator_count s → other ≢ its → stamp_of s w.last other ≡ stamp_of s w.commit.base other

-- the call was made at this place, and left what it ends in the state there, and no other translator's stamp is another
pub record EndsAs (v : View) (call : Call) (reply : Reply) (place : ℕ) (w : View) : Type 0 where
  pub placed : IsPlaced v call reply place w
  pub leaves : LeavesAs v.setup (its_of call) (ending_of (after v.setup.start (v.seen ++ placed.between)) call) w
  pub others : OthersStay v.setup (its_of call) w

-- the same, whatever is held
pub record MadeAs (P : Part → Type 0) (v : View) (call : Call) (reply : Reply) (place : ℕ) (w : View) : Type 0 where
  pub commit : Commit
  pub call_is : commit.call ≡ call
  pub reply_is : commit.reply ≡ reply
  pub place_is : commit.expected.place ≡ place
  pub made : WasMade P v commit w
  pub leaves : LeavesAs v.setup (its_of call) (ending_of (after v.setup.start (v.seen ++ made.made.between)) call) w
  pub others : OthersStay v.setup (its_of call) w
