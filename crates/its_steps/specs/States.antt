-- What a commit may do where a state of the machine has what is held. Who holds the parts knows such a state: the one that its history leaves.
use Rattle.std.specs.Prelude.{◌≡◌, ℕ, ◌+◌, ◌<◌, ◌≤◌, List}
use Rattle.std.specs.List.{AllByRecursion}
use Rattle.its_types.specs.declared.ids.DeviceId.{DeviceId}
use Rattle.its_types.specs.declared.ids.EventId.{EventId}
use Rattle.its_types.specs.declared.machine.Part.TheVariants as part
use Rattle.its_types.specs.declared.machine.Word.{Word}
use Rattle.its_plain.specs.Answer.{left}
use Rattle.its_plain.specs.Plain.{Plain}
use Rattle.its_plain.specs.declared.call.Call.{Call}
use Rattle.its_plain.specs.declared.call.Reply.{Reply}
use Rattle.its_steps.specs.Calls.{staying, stamping, MayLeave, IsCalm}
use Rattle.its_steps.specs.Contents.{Held}
use Rattle.its_steps.specs.Endings.{Nothing, Pair, ending_of}
use Rattle.its_steps.specs.Good.{Holds, Apart}
use Rattle.its_steps.specs.MayCall.{IsAnswered, MayChange, MayCallIn}
use Rattle.its_steps.specs.MayCommit.{IsRight, IsOut}
use Rattle.its_steps.specs.Parts.{Setup, Stands, IsOfMachine, HasAll, HasStamps, stamp_of}
use Rattle.its_steps.specs.Renewal.{its_of, shard_of, renewal_in}
use Rattle.its_steps.specs.declared.change.ShardChange.{ShardChange}
use Rattle.its_steps.specs.declared.change.ShardChange.TheVariants as change
use Rattle.its_steps.specs.declared.commit.Commit.{Commit}

-- where what is held is right, the state has it
abbrev pub RightIsHad : Type 0
RightIsHad = (s : Setup) (word : Word) (u : Plain) (held : List Held) → AllByRecursion (IsRight s word u) held → HasAll u held

-- what may be committed in such a state may be committed, and leaves what it leaves there
abbrev pub StateMayCommit : Type 0
StateMayCommit = (s : Setup) (u : Plain) (a : Commit) (held : List Held) → IsOfMachine s u → HasAll u held → MayCallIn s u a held
    → MayLeave s a held (renewal_in s u a held)

-- a state has the parts held, which are those of a call and out, and this is its reply there
pub record IsReady (s : Setup) (u : Plain) (last : Word) (c : Call) (r : Reply) (held : List Held) : Type 0 where
  pub machine : IsOfMachine s u
  pub has : HasAll u held
  pub room : last.place < s.limits.place_last
  pub stands : AllByRecursion (λ x. Stands s x.part) held
  pub apart : Apart held
  pub out : AllByRecursion IsOut held
  pub answered : IsAnswered u c r held

-- then this commit may be made, and leaves what it leaves there
abbrev pub MayLeaveIn : Setup → Plain → Commit → List Held → Type 0
MayLeaveIn s u a held = MayLeave s a held (renewal_in s u a held)

abbrev pub WhenReady : (Setup → Plain → Word → Call → Reply → List Held → Type 0) → Type 0
WhenReady F = (s : Setup) (u : Plain) (last : Word) (c : Call) (r : Reply) (held : List Held) → IsReady s u last c r held → F s u last c r held

-- ---- from what a call ends to its stamp and its change

-- nothing: the stamp as before, no change
abbrev pub NothingEnds : Type 0
NothingEnds = WhenReady (λ s u last c r held. ending_of u c ≡ Nothing → MayLeaveIn s u (staying last c r change.Keep) held)

-- one pair: its shard is held, and loses it; the stamp as before
abbrev pub PairEnds : Type 0
PairEnds = WhenReady (λ s u last c r held. (dev : DeviceId) (ev : EventId) → ending_of u c ≡ Pair dev.0 ev.0 → Holds (shard_of s c dev ev) held
    → MayLeaveIn s u (staying last c r (change.Drop dev ev)) held)

-- all, or any: the maps are held, and the stamp is one higher
abbrev pub AllEnd : Type 0
AllEnd = WhenReady (λ s u last c r held. HasStamps s → Holds (part.Maps (its_of c)) held → stamp_of s last (its_of c) + 1 ≤ s.limits.stamp_last
    → MayLeaveIn s u (stamping s last c r (stamp_of s last (its_of c) + 1) change.Keep) held)

-- at the last stamp: every shard of the translator is held, and is emptied; the stamp is 0
abbrev pub AllEndAtLast : Type 0
AllEndAtLast = WhenReady (λ s u last c r held. HasStamps s → Holds (part.Maps (its_of c)) held → ((n : ℕ) → n < s.shards → Holds (part.Shard (its_of c) n) held)
    → MayLeaveIn s u (stamping s last c r 0 change.Empty) held)

-- ---- by kinds of call

-- a call that neither writes a register of a translator nor takes a command ends nothing, and may fill its pair's shard
abbrev pub CalmInState : Type 0
CalmInState = WhenReady (λ s u last c r held. (ch : ShardChange) → IsCalm c → MayChange s c ch (left u c r) held → MayLeaveIn s u (staying last c r ch) held)
