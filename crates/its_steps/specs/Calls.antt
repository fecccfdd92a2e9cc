-- When each kind of call may be committed with the stamp as it is, told by the parts that it needs, and what it leaves in them.
use Rattle.std.specs.Prelude.{◌≡◌, ◌⊎◌, ℕ, zero, suc, ◌+◌, ◌<◌, ◌≤◌, Bool, true, false, not, ◌&&◌, nat_lt, nat_le, if◌then◌else◌, Option, Some, None}
use Rattle.std.specs.Prelude.{Ok, Err, List, [], ◌∷◌, length}
use Rattle.std.specs.Option.{option_map}
use Rattle.dirty_log.specs.Copies.{wrote, caught_up}
use Rattle.dirty_log.specs.declared.tracked.Tracked.{Tracked}
use Rattle.std.specs.List.{AllByRecursion}
use Rattle.guest_windows.specs.Windows.{Window, read_at, write_at}
use Rattle.gicr_regs.specs.Registers.{asked_by, changes_pending, reads_tables, conf_done_by, done_by, written_gicr, turned_off}
use Rattle.gits_regs.specs.Registers.{read_reg, write_reg}
use Rattle.its_types.specs.Lpis.{with_lpi}
use Rattle.its_types.specs.declared.ids.Addr.{Addr}
use Rattle.its_types.specs.declared.ids.DeviceId.{DeviceId}
use Rattle.its_types.specs.declared.ids.EventId.{EventId}
use Rattle.its_types.specs.declared.ids.Target.{Target}
use Rattle.its_types.specs.declared.ids.Intid.{Intid}
use Rattle.its_types.specs.declared.ids.Vcpu.{Vcpu}
use Rattle.its_types.specs.declared.machine.Part.{Part}
use Rattle.its_types.specs.declared.machine.Part.TheVariants as part
use Rattle.its_types.specs.declared.machine.Shape.{Shape}
use Rattle.its_types.specs.declared.machine.Word.{Word}
use Rattle.its_plain.specs.Answer.{ack_of, lowest, best, claimed, taken, poke_reply, peek_reply, translator_written, save_reply, save_left, copy_count, left}
use Rattle.its_plain.specs.Parts.{conf, pend}
use Rattle.its_plain.specs.Plain.{Plain, Translator, Redistributor, ConfState, PendState, conf_of, pend_of, joined, translator, redistributor}
use Rattle.its_plain.specs.Regions.{savable}
use Rattle.its_plain.specs.Translation.{located}
use Rattle.its_plain.specs.declared.call.Call.{Call}
use Rattle.its_plain.specs.declared.call.Call.TheVariants as call
use Rattle.its_plain.specs.declared.call.Cause.{Cause}
use Rattle.its_plain.specs.declared.call.Cause.TheVariants.{LpisOff}
use Rattle.its_plain.specs.declared.call.Route.TheVariants as route
use Rattle.its_plain.specs.declared.call.Reply.{Reply}
use Rattle.its_plain.specs.declared.call.Reply.TheVariants as reply
use Rattle.its_plain.specs.declared.call.Signal.TheVariants.{Delivered, Dropped}
use Rattle.xlate_cache.specs.Pairs.{shard_number}
use Rattle.xlate_cache.specs.Ways.{entry, filled, found}
use Rattle.xlate_cache.specs.declared.entry.Entry.{Entry as Translation}
use Rattle.its_steps.specs.Contents.{Content, Maps, Mem, Shard, Conf, Pend, Held}
use Rattle.its_steps.specs.Good.{Apart}
use Rattle.its_steps.specs.MayCall.{message_of, AreSteady, IsAnswered, IsHit, MayChange, MayCall}
use Rattle.its_steps.specs.MayCommit.{IsOut}
use Rattle.its_steps.specs.Parts.{Setup, HasVcpus, HasStamps, Stands, IsOfMachine, translator_count, vcpu_count, stamp_of, stamp_with}
use Rattle.its_steps.specs.Renewal.{assembled, its_of, renewal}
use Rattle.its_steps.specs.World.{out}
use Rattle.its_steps.specs.declared.change.ShardChange.{ShardChange}
use Rattle.its_steps.specs.declared.change.ShardChange.TheVariants as change
use Rattle.its_steps.specs.declared.commit.Commit.{Commit}

-- a commit with the stamp as it is
abbrev pub staying : Word → Call → Reply → ShardChange → Commit
staying last call reply change = record { expected = last; stamp = last.stamp; call = call; reply = reply; change = change }

-- one that leaves another stamp of the call's translator
abbrev pub stamping : Setup → Word → Call → Reply → ℕ → ShardChange → Commit
stamping s last call reply stamp change = record {
  expected = last;
  stamp = stamp_with (translator_count s) last.stamp (its_of call) stamp;
  call = call;
  reply = reply;
  change = change;
}

-- a pass that holds these parts may make the commit, and owes those from then on
abbrev pub MayLeave : Setup → Commit → List Held → List Held → Type 0
MayLeave s a held owed = MayCall s a held × (renewal s a held ≡ owed)

-- ---- calls that end no current translation

-- it writes no register of a translator and takes no command
abbrev pub IsCalm : Call → Type 0
IsCalm (call.WriteReg its off size value) = ⊥
IsCalm (call.Step its) = ⊥
IsCalm c = Unit {0}

-- a calm call doesn't change where maps send events, whatever parts are held
abbrev pub CalmCallsAreSteady : Type 0
CalmCallsAreSteady = (s : Setup) (a : Commit) (its : ℕ) (owed held : List Held) → HasVcpus s → IsCalm a.call → Apart held
    → AllByRecursion (λ x. Stands s x.part) held → AreSteady s its owed held (renewal s a held)

-- so whoever holds its parts may commit it with the stamp as it is, and fill the pair's shard with what the maps say
abbrev pub CalmCallsMayCommit : Type 0
CalmCallsMayCommit = (s : Setup) (last : Word) (c : Call) (r : Reply) (ch : ShardChange) (held : List Held) → HasVcpus s → IsCalm c
    → last.place < s.limits.place_last → Apart held → AllByRecursion (λ x. Stands s x.part) held
    → AllByRecursion IsOut held → IsAnswered (assembled s held) c r held ⊎ IsHit s (staying last c r ch) held
    → MayChange s c ch (left (assembled s held) c r) held → MayCall s (staying last c r ch) held

-- ---- redistributors

-- both parts of one, of which what is pending was got last
abbrev pub redistributor_held : Vcpu → ConfState → PendState → List Held → List Held
redistributor_held vcpu c p rest = out (part.Pend vcpu) (Pend p) ∷ out (part.Conf vcpu) (Conf c) ∷ rest

-- those of a redistributor
abbrev pub parts_held : Vcpu → Redistributor → List Held → List Held
parts_held vcpu r rest = redistributor_held vcpu (conf_of r) (pend_of r) rest

-- a redistributor alone is enough for an acknowledgement, which changes only what is pending
abbrev pub TakeMayCommit : Type 0
TakeMayCommit = (s : Setup) (last : Word) (vcpu : Vcpu) (c : ConfState) (p : PendState) → HasVcpus s → vcpu.0 < vcpu_count s
    → last.place < s.limits.place_last → let r : Redistributor = joined c p in
    MayLeave s (staying last (call.Take vcpu) (reply.Ack (ack_of r (lowest r))) change.Keep) (redistributor_held vcpu c p [])
    (redistributor_held vcpu c (pend_of (taken r (lowest r))) [])

-- and to show what would be acknowledged
abbrev pub ShowMayCommit : Type 0
ShowMayCommit = (s : Setup) (last : Word) (vcpu : Vcpu) (c : ConfState) (p : PendState) → HasVcpus s → vcpu.0 < vcpu_count s
    → last.place < s.limits.place_last → let r : Redistributor = joined c p in
    let held : List Held = redistributor_held vcpu c p [] in
    MayLeave s (staying last (call.Show vcpu) (reply.Ack (ack_of r (lowest r))) change.Keep) held held

-- and to show the first by priority
abbrev pub BestMayCommit : Type 0
BestMayCommit = (s : Setup) (last : Word) (vcpu : Vcpu) (mask : ℕ) (c : ConfState) (p : PendState) → HasVcpus s → vcpu.0 < vcpu_count s
    → last.place < s.limits.place_last → let r : Redistributor = joined c p in
    let held : List Held = redistributor_held vcpu c p [] in
    MayLeave s (staying last (call.Best vcpu mask) (reply.Ack (ack_of r (best r mask))) change.Keep) held held

-- and for an acknowledgement of one LPI
abbrev pub ClaimMayCommit : Type 0
ClaimMayCommit = (s : Setup) (last : Word) (vcpu : Vcpu) (intid : Intid) (c : ConfState) (p : PendState) → HasVcpus s → vcpu.0 < vcpu_count s
    → last.place < s.limits.place_last → let r : Redistributor = joined c p in
    MayLeave s (staying last (call.Claim vcpu intid) (reply.Ack (ack_of r (claimed r intid.0))) change.Keep) (redistributor_held vcpu c p [])
    (redistributor_held vcpu c (pend_of (taken r (claimed r intid.0))) [])

-- ---- writes of a redistributor's LPI registers, whatever they do to LPIs: the stamp stays and no shard is held

-- the configuration alone is enough for one that neither reads tables nor turns LPIs on or off
abbrev pub ConfMayCommit : Type 0
ConfMayCommit = (s : Setup) (last : Word) (vcpu : Vcpu) (off size value : ℕ) (c : ConfState) → HasVcpus s → vcpu.0 < vcpu_count s
    → last.place < s.limits.place_last → s.start.layout.gicr ≡ true → reads_tables (asked_by c.bases off size value) ≡ false
    → changes_pending (asked_by c.bases off size value) ≡ false
    → MayLeave s (staying last (call.WriteGicr vcpu off size value) reply.Ok change.Keep) (out (part.Conf vcpu) (Conf c) ∷ [])
    (out (part.Conf vcpu) (Conf (conf_done_by s.start.layout.shape [] (asked_by c.bases off size value) c)) ∷ [])

-- with memory, for one that turns LPIs neither on nor off
abbrev pub RereadMayCommit : Type 0
RereadMayCommit = (s : Setup) (last : Word) (vcpu : Vcpu) (off size value : ℕ) (c : ConfState) (memory : List Window) (track : Option Tracked) → HasVcpus s
    → vcpu.0 < vcpu_count s → last.place < s.limits.place_last → s.start.layout.gicr ≡ true → changes_pending (asked_by c.bases off size value) ≡ false
    → let mem : Held = out part.Mem (Mem memory track) in
    MayLeave s (staying last (call.WriteGicr vcpu off size value) reply.Ok change.Keep) (out (part.Conf vcpu) (Conf c) ∷ mem ∷ [])
    (out (part.Conf vcpu) (Conf (conf_done_by s.start.layout.shape memory (asked_by c.bases off size value) c)) ∷ mem ∷ [])

-- both parts, for one that doesn't read tables, as to turn LPIs off
abbrev pub TurnOffMayCommit : Type 0
TurnOffMayCommit = (s : Setup) (last : Word) (vcpu : Vcpu) (off size value : ℕ) (c : ConfState) (p : PendState) → HasVcpus s → vcpu.0 < vcpu_count s
    → last.place < s.limits.place_last → s.start.layout.gicr ≡ true → reads_tables (asked_by c.bases off size value) ≡ false
    → MayLeave s (staying last (call.WriteGicr vcpu off size value) reply.Ok change.Keep) (redistributor_held vcpu c p [])
    (parts_held vcpu (done_by s.start.layout.shape [] (asked_by c.bases off size value) (joined c p)) [])

-- both parts with memory, for any
abbrev pub GicrMayCommit : Type 0
GicrMayCommit = (s : Setup) (last : Word) (vcpu : Vcpu) (off size value : ℕ) (c : ConfState) (p : PendState) (memory : List Window) (track : Option Tracked)
    → HasVcpus s → vcpu.0 < vcpu_count s → last.place < s.limits.place_last → s.start.layout.gicr ≡ true
    → let mem : Held = out part.Mem (Mem memory track) in
    MayLeave s (staying last (call.WriteGicr vcpu off size value) reply.Ok change.Keep) (redistributor_held vcpu c p (mem ∷ []))
    (parts_held vcpu (written_gicr s.start.layout.shape memory (joined c p) off size value) (mem ∷ []))

-- the write of 0 to GICR_CTLR turns LPIs off that are on, where the layout lets it
abbrev pub WriteTurnsOff : Type 0
WriteTurnsOff = (s : Shape) (memory : List Window) (r : Redistributor) → s.linux ≡ true → r.bases.on ≡ true → written_gicr s memory r 0x0 4 0 ≡ turned_off s r

-- ---- guest memory

-- memory where so many bytes were written, or not
abbrev pub poked_content : List Window → Option Tracked → ℕ → List ℕ → Option (List Window) → Content
poked_content memory track address bytes None = Mem memory track
poked_content memory track address bytes (Some now) = Mem now (option_map (wrote address (length bytes)) track)

-- memory alone is enough for a write of it
abbrev pub PokeMayCommit : Type 0
PokeMayCommit = (s : Setup) (last : Word) (addr : Addr) (bytes : List ℕ) (memory : List Window) (track : Option Tracked) → HasVcpus s
    → last.place < s.limits.place_last
    → MayLeave s (staying last (call.Poke addr bytes) (poke_reply (write_at memory addr.0 bytes)) change.Keep) (out part.Mem (Mem memory track) ∷ [])
    (out part.Mem (poked_content memory track addr.0 bytes (write_at memory addr.0 bytes)) ∷ [])

-- for a write by address too
abbrev pub DmaMayCommit : Type 0
DmaMayCommit = (s : Setup) (last : Word) (req : ℕ) (addr : Addr) (bytes : List ℕ) (memory : List Window) (track : Option Tracked) → HasVcpus s
    → last.place < s.limits.place_last
    → MayLeave s (staying last (call.Dma req addr bytes route.Poke) (poke_reply (write_at memory addr.0 bytes)) change.Keep)
    (out part.Mem (Mem memory track) ∷ [])
    (out part.Mem (poked_content memory track addr.0 bytes (write_at memory addr.0 bytes)) ∷ [])

-- one that is nothing needs no part
abbrev pub NothingMayCommit : Type 0
NothingMayCommit = (s : Setup) (last : Word) (req : ℕ) (addr : Addr) (bytes : List ℕ) → HasVcpus s → last.place < s.limits.place_last
    → MayLeave s (staying last (call.Dma req addr bytes route.NoRequester) reply.NoRequester change.Keep) [] []
    × MayLeave s (staying last (call.Dma req addr bytes route.Frame) reply.Outside change.Keep) [] []

-- and for a copy
abbrev pub CopyMayCommit : Type 0
CopyMayCommit = (s : Setup) (last : Word) (memory : List Window) (track : Option Tracked) → HasVcpus s → last.place < s.limits.place_last
    → MayLeave s (staying last call.Copy (reply.Copied (copy_count track)) change.Keep) (out part.Mem (Mem memory track) ∷ [])
    (out part.Mem (Mem memory (option_map (caught_up memory) track)) ∷ [])

-- 1 to 64 bytes, where one window has them
abbrev pub peeked_in : List Window → ℕ → ℕ → Option (List ℕ)
peeked_in memory address count = if nat_lt 0 count && nat_le count 64 then read_at memory address count else None

-- and for a read
abbrev pub PeekMayCommit : Type 0
PeekMayCommit = (s : Setup) (last : Word) (addr : Addr) (count : ℕ) (memory : List Window) (track : Option Tracked) → HasVcpus s
    → last.place < s.limits.place_last → let held : List Held = out part.Mem (Mem memory track) ∷ [] in MayLeave s
    (staying last (call.Peek addr count) (peek_reply (peeked_in memory addr.0 count)) change.Keep) held held

-- ---- registers

-- a translator's maps alone are enough for a read of its registers
abbrev pub ReadMayCommit : Type 0
ReadMayCommit = (s : Setup) (last : Word) (its off size : ℕ) (t : Translator) → HasVcpus s → its < translator_count s → last.place < s.limits.place_last
    → let held : List Held = out (part.Maps its) (Maps t) ∷ [] in MayLeave s (staying last (call.ReadReg its off size) (reply.Value (read_reg t.regs off size))
    change.Keep) held held

-- the write turns the translator off
abbrev pub turns_off : Translator → ℕ → ℕ → ℕ → Bool
turns_off t off size value = t.regs.enabled && not (write_reg t.regs off size value).regs.enabled

-- and for a write that doesn't turn it off
abbrev pub WriteMayCommit : Type 0
WriteMayCommit = (s : Setup) (last : Word) (its off size value : ℕ) (t : Translator) → HasVcpus s → its < translator_count s → last.place < s.limits.place_last
    → turns_off t off size value ≡ false
    → MayLeave s (staying last (call.WriteReg its off size value) reply.Ok change.Keep) (out (part.Maps its) (Maps t) ∷ [])
    (out (part.Maps its) (Maps (translator_written s.start.layout.shape t (write_reg t.regs off size value))) ∷ [])

-- and for any write, with the stamp one higher
abbrev pub WriteMayRise : Type 0
WriteMayRise = (s : Setup) (last : Word) (its off size value : ℕ) (t : Translator) → HasVcpus s → HasStamps s → its < translator_count s
    → last.place < s.limits.place_last → stamp_of s last its + 1 ≤ s.limits.stamp_last
    → MayLeave s (stamping s last (call.WriteReg its off size value) reply.Ok (stamp_of s last its + 1) change.Keep) (out (part.Maps its) (Maps t) ∷ [])
    (out (part.Maps its) (Maps (translator_written s.start.layout.shape t (write_reg t.regs off size value))) ∷ [])

-- ---- messages: signals, and writes by address that are such

-- a signal that is found in its pair's shard needs that and what is pending at the target, where LPIs are on
abbrev pub HitMayCommit : Type 0
HitMayCommit = (s : Setup) (last : Word) (c : Call) (its : ℕ) (dev : DeviceId) (ev : EventId) (target : Target) (ways : List (Option Translation))
    (p : PendState)
    → message_of c ≡ Some (its, (dev, ev)) → HasVcpus s → its < translator_count s → target.vcpu.0 < vcpu_count s
    → shard_number dev.0 ev.0 s.shards < s.shards → last.place < s.limits.place_last → found ways dev.0 ev.0 (stamp_of s last its) ≡ Some target
    → p.accepts ≡ true
    → let shard : Held = out (part.Shard its (shard_number dev.0 ev.0 s.shards)) (Shard ways) in
    MayLeave s (staying last c (reply.Signal (Delivered target.vcpu target.intid)) change.Keep)
    (out (part.Pend target.vcpu) (Pend p) ∷ shard ∷ []) (out (part.Pend target.vcpu) (Pend (record p { pending = with_lpi target.intid.0 p.pending }))
    ∷ shard ∷ [])

-- also where they are off: it is dropped
abbrev pub HitOffMayCommit : Type 0
HitOffMayCommit = (s : Setup) (last : Word) (c : Call) (its : ℕ) (dev : DeviceId) (ev : EventId) (target : Target) (ways : List (Option Translation))
    (p : PendState)
    → message_of c ≡ Some (its, (dev, ev)) → HasVcpus s → its < translator_count s → target.vcpu.0 < vcpu_count s
    → shard_number dev.0 ev.0 s.shards < s.shards → last.place < s.limits.place_last → found ways dev.0 ev.0 (stamp_of s last its) ≡ Some target
    → p.accepts ≡ false
    → let held : List Held = out (part.Pend target.vcpu) (Pend p) ∷ out (part.Shard its (shard_number dev.0 ev.0 s.shards)) (Shard ways) ∷ [] in
    MayLeave s (staying last c (reply.Signal (Dropped LpisOff)) change.Keep) held held

-- one that the maps send somewhere where LPIs are on needs the maps too, and may fill its pair's shard
abbrev pub FillMayCommit : Type 0
FillMayCommit = (s : Setup) (last : Word) (c : Call) (its : ℕ) (dev : DeviceId) (ev : EventId) (target : Target) (t : Translator) (ways : List
    (Option Translation))
    (p : PendState) → message_of c ≡ Some (its, (dev, ev)) → HasVcpus s → its < translator_count s → target.vcpu.0 < vcpu_count s
    → shard_number dev.0 ev.0 s.shards < s.shards → last.place < s.limits.place_last → located t dev.0 ev.0 ≡ Ok target → p.accepts ≡ true
    → let n : ℕ = shard_number dev.0 ev.0 s.shards in
    MayLeave s (staying last c (reply.Signal (Delivered target.vcpu target.intid)) (change.Fill dev ev target))
    (out (part.Pend target.vcpu) (Pend p) ∷ out (part.Shard its n) (Shard ways) ∷ out (part.Maps its) (Maps t) ∷ [])
    (out (part.Pend target.vcpu) (Pend (record p { pending = with_lpi target.intid.0 p.pending })) ∷ out (part.Shard its n)
    (Shard (filled ways (entry dev ev (stamp_of s last its) target))) ∷ out (part.Maps its) (Maps t) ∷ [])

-- one that the maps send nowhere needs the maps alone
abbrev pub DropMayCommit : Type 0
DropMayCommit = (s : Setup) (last : Word) (c : Call) (its : ℕ) (dev : DeviceId) (ev : EventId) (cause : Cause) (t : Translator) → message_of c ≡ Some (
  its,
  (dev, ev),
) → HasVcpus s → its < translator_count s
    → last.place < s.limits.place_last → located t dev.0 ev.0 ≡ Err cause
    → let held : List Held = out (part.Maps its) (Maps t) ∷ [] in MayLeave s (staying last c (reply.Signal (Dropped cause)) change.Keep)
    held held

-- one whose target's LPIs are off needs what is pending there too; the pair's shard was taken before that was seen, and stays as it was
abbrev pub OffMayCommit : Type 0
OffMayCommit = (s : Setup) (last : Word) (c : Call) (its : ℕ) (dev : DeviceId) (ev : EventId) (target : Target) (t : Translator) (ways : List
    (Option Translation))
    (p : PendState) → message_of c ≡ Some (its, (dev, ev)) → HasVcpus s → its < translator_count s → target.vcpu.0 < vcpu_count s
    → shard_number dev.0 ev.0 s.shards < s.shards → last.place < s.limits.place_last → located t dev.0 ev.0 ≡ Ok target → p.accepts ≡ false
    → let held : List Held = out (part.Pend target.vcpu) (Pend p) ∷ out (part.Shard its (shard_number dev.0 ev.0 s.shards)) (Shard ways) ∷ out
    (part.Maps its) (Maps t) ∷ [] in
    MayLeave s (staying last c (reply.Signal (Dropped LpisOff)) change.Keep) held held

-- ---- saves

-- n parts of a kind before other parts, the last one got first
abbrev pub each_held : (ℕ → Part) → (ℕ → Content) → ℕ → List Held → List Held
each_held p c zero rest = rest
each_held p c (suc n) rest = out (p n) (c n) ∷ each_held p c n rest

-- of a state the maps of n translators
abbrev pub maps_held : Plain → ℕ → List Held
maps_held u n = each_held (λ i. part.Maps i) (λ i. Maps (translator u i)) n []

-- and the configurations of n redistributors
abbrev pub confs_held : Plain → ℕ → List Held → List Held
confs_held u n rest = each_held conf (λ i. Conf (conf_of (redistributor u i))) n rest

-- and what is pending at n of them
abbrev pub pends_held : Plain → ℕ → List Held → List Held
pends_held u n rest = each_held pend (λ i. Pend (pend_of (redistributor u i))) n rest

-- both of all, the configurations got first
abbrev pub redists_held : Plain → List Held → List Held
redists_held u rest = pends_held u (length u.redistributors) (confs_held u (length u.redistributors) rest)

-- all maps of a state, its memory, and all redistributors, each got after the one that follows it here
abbrev pub whole_held : Plain → List Held
whole_held u = redists_held u (out part.Mem (Mem u.memory u.track) ∷ maps_held u (length u.translators))

-- a save needs all but the shards
abbrev pub SaveMayCommit : Type 0
SaveMayCommit = (s : Setup) (last : Word) (u : Plain) → IsOfMachine s u → last.place < s.limits.place_last
    → MayLeave s (staying last call.Save (save_reply (savable u)) change.Keep) (whole_held u) (whole_held (save_left u (savable u)))
