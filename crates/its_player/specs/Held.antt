-- Tests of the parts that a pass holds.
use Rattle.std.specs.Prelude.{◌≡◌, ℕ, Bool, true, false, not, ◌==◌, ◌&&◌, Option, Some, None, List}
use Rattle.std.specs.List.{list_any, list_all}
use Rattle.its_types.specs.declared.machine.Part.{Part}
use Rattle.its_types.specs.declared.machine.Part.TheVariants as part
use Rattle.its_types.specs.declared.ids.DeviceId.{DeviceId}
use Rattle.its_types.specs.declared.ids.EventId.{EventId}
use Rattle.its_types.specs.declared.ids.Target.{Target}
use Rattle.its_plain.specs.declared.call.Call.{Call}
use Rattle.its_plain.specs.declared.call.Reply.{Reply}
use Rattle.its_plain.specs.declared.call.Reply.TheVariants as reply
use Rattle.its_plain.specs.declared.call.Cause.TheVariants.{LpisOff}
use Rattle.its_plain.specs.declared.call.Signal.{Signal}
use Rattle.its_plain.specs.declared.call.Signal.TheVariants.{Delivered, Dropped}
use Rattle.xlate_cache.specs.Ways.{found}
use Rattle.xlate_cache.specs.Observed.{has_entry_of}
use Rattle.its_steps.specs.Contents.{Content, Shard, Pend, Held}
use Rattle.its_steps.specs.MayCall.{message_of}

abbrev pub same_part : Part → Part → Bool
same_part (part.Maps a) (part.Maps b) = a == b
same_part part.Mem part.Mem = true
same_part (part.Shard a n) (part.Shard b m) = a == b && n == m
same_part (part.Conf a) (part.Conf b) = a.0 == b.0
same_part (part.Pend a) (part.Pend b) = a.0 == b.0
same_part p q = false

abbrev pub holds : Part → List Held → Bool
holds p held = list_any (λ x. same_part x.part p) held

-- the part is held, and is out of its slot or in it
abbrev pub is_out : Part → Held → Bool
is_out p x = same_part x.part p && x.out

abbrev pub is_kept : Part → Held → Bool
is_kept p x = same_part x.part p && not x.out

-- the part is held, and what it owes passes
abbrev pub owes_such : Part → (Content → Bool) → List Held → Bool
owes_such p test held = list_any (λ x. same_part x.part p && test x.owed) held

-- the target that a shard has for a pair under a stamp
abbrev pub target_in : ℕ → ℕ → ℕ → Content → Option Target
target_in dev ev stamp (Shard ways) = found ways dev ev stamp
target_in dev ev stamp c = None

-- a message for the target is told this where LPIs are on, or off
abbrev pub is_told : Signal → Target → Bool → Bool
is_told (Delivered vcpu intid) target true = vcpu.0 == target.vcpu.0 && intid.0 == target.intid.0
is_told (Dropped LpisOff) target false = true
is_told signal target on = false

-- and by what is pending at a redistributor
abbrev pub tells : Signal → Target → Content → Bool
tells signal target (Pend p) = is_told signal target p.accepts
tells signal target c = false

-- what is pending at the target is held, and tells this
abbrev pub target_tells : List Held → Signal → Option Target → Bool
target_tells held signal None = false
target_tells held signal (Some target) = owes_such (part.Pend target.vcpu) (tells signal target) held

-- that of the target that a shard has
abbrev pub meets : List Held → ℕ → ℕ → ℕ → Signal → Content → Bool
meets held dev ev stamp signal c = target_tells held signal (target_in dev ev stamp c)

-- the shard has no entry of the pair
abbrev pub lacks : ℕ → ℕ → Content → Bool
lacks dev ev (Shard ways) = not (has_entry_of ways dev ev)
lacks dev ev c = false

abbrev pub all_out : List Held → Bool
all_out held = list_all (λ x. x.out) held

-- every one of the parts is held
abbrev pub covers : List Held → List Part → Bool
covers held parts = list_all (λ p. holds p held) parts

-- the call is a message, and this is its reply
pub record IsMessage (c : Call) (r : Reply) (signal : Signal) : Type 0 where
  pub its : ℕ
  pub dev : DeviceId
  pub ev : EventId
  pub message : message_of c ≡ Some (its, (dev, ev))
  pub reply_is : r ≡ reply.Signal signal
