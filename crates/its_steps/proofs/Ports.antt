-- Calls that need one redistributor, memory, or one translator's maps.
use Rattle.std.proofs.Common.{◌≡◌, ℕ, Bool, false, ◌+◌, ◌<◌, if◌then◌else◌, List, [], ◌∷◌, length, set, Option, Some, None, refl, ap, sym, ◌∙◌, inl, inr, arith}
use Rattle.std.proofs.Common.{length-set}
use Rattle.std.proofs.Common.{get_or-set_same}
use Rattle.guest_windows.specs.Windows.{Window, write_at}
use Rattle.dirty_log.specs.declared.tracked.Tracked.{Tracked}
use Rattle.its_types.specs.declared.ids.Addr.{Addr}
use Rattle.its_plain.specs.declared.call.Route.TheVariants as route
use Rattle.gits_regs.specs.Registers.{read_reg, write_reg}
use Rattle.its_types.specs.declared.ids.Intid.{Intid}
use Rattle.its_types.specs.declared.ids.Vcpu.{Vcpu}
use Rattle.its_types.specs.declared.machine.Part.{Part}
use Rattle.its_types.specs.declared.machine.Part.TheVariants as part
use Rattle.its_types.specs.declared.machine.Word.{Word}
use Rattle.its_plain.specs.Answer.{ack_of, lowest, best, claimed, taken, poke_reply, peek_reply, written, translator_written, poke_left, poked, copy_count}
use Rattle.its_plain.specs.Answer.{reply_of, left}
use Rattle.its_plain.specs.Parts.{footprint}
use Rattle.its_plain.specs.Plain.{Plain, Translator, Redistributor, ConfState, PendState, conf_of, pend_of, joined, translator, redistributor}
use Rattle.its_plain.specs.Plain.{with_redistributor, no_translator, no_redistributor}
use Rattle.its_plain.specs.declared.call.Call.{Call}
use Rattle.its_plain.specs.declared.call.Call.TheVariants as call
use Rattle.its_plain.specs.declared.call.Reply.{Reply}
use Rattle.its_plain.specs.declared.call.Reply.TheVariants as reply
use Rattle.its_steps.specs.Calls.{staying, stamping, redistributor_held, IsCalm, turns_off, poked_content, peeked_in, DmaMayCommit, NothingMayCommit, CopyMayCommit}
use Rattle.its_steps.specs.Calls.{TakeMayCommit, ShowMayCommit, BestMayCommit, ClaimMayCommit, PokeMayCommit, PeekMayCommit, ReadMayCommit}
use Rattle.its_steps.specs.Calls.{WriteMayCommit, WriteMayRise}
use Rattle.its_steps.specs.Contents.{Content, Maps, Mem, Held}
use Rattle.its_steps.specs.Endings.{Nothing, All, ending_of}
use Rattle.its_steps.specs.MayCall.{IsAnswered, MayCall}
use Rattle.its_steps.specs.Parts.{Setup, HasVcpus, Stands, translator_count, vcpu_count, stamp_of}
use Rattle.its_steps.specs.Renewal.{assembled, renewal}
use Rattle.its_steps.specs.World.{out}
use Rattle.its_steps.specs.declared.change.ShardChange.TheVariants as change
use Rattle.its_steps.proofs.Assembled.{assembled_has}
use Rattle.its_steps.proofs.Calm.{calm_may}
use Rattle.its_steps.proofs.PutIn.{has_both, both_long, both_apart}
use Rattle.its_steps.proofs.Stamping.{IsEnough, nothing_may, all_may}

-- one part is held
module _ (s : Setup) (last : Word) (vcpus : HasVcpus s) (room : last.place < s.limits.place_last) (p : Part) (x : Content) (st : Stands s p) where
  abbrev one : List Held
  one = out p x ∷ []

  -- a calm call that needs no more may be committed
  one_may : (c : Call) (r : Reply) → IsCalm c → IsAnswered (assembled s one) c r one → MayCall s (staying last c r change.Keep) one
  one_may c r calm answered = calm_may s last c r change.Keep one vcpus calm room ((λ h. h), tt) (st, tt) (refl, tt) (inl answered) tt

  -- and so may any other, where what it ends is known
  one_enough : (c : Call) (r : Reply) → IsAnswered (assembled s one) c r one → IsEnough s (assembled s one) last c r one
  one_enough c r answered = record {
    has = assembled_has s vcpus one ((λ h. h), tt) (st, tt);
    room = room;
    stands = (st, tt);
    apart = ((λ h. h), tt);
    out = (refl, tt);
    answered = answered;
  }

-- ---- one redistributor

module _ (s : Setup) (last : Word) (vcpu : Vcpu) (c : ConfState) (p : PendState) (vcpus : HasVcpus s) (st : vcpu.0 < vcpu_count s)
    (room : last.place < s.limits.place_last) where
  abbrev held : List Held
  held = redistributor_held vcpu c p []

  abbrev a : Plain
  a = assembled s held

  abbrev r : Redistributor
  r = joined c p

  inside : vcpu.0 < length s.start.redistributors
  inside = omega (arith, st, vcpus)

  has : redistributor a vcpu.0 ≡ r
  has = has_both s.start vcpu inside c p

  -- a calm call that needs no more may be committed
  both_may : (k : Call) (x : Reply) → IsCalm k → IsAnswered a k x held → MayCall s (staying last k x change.Keep) held
  both_may k x calm answered = calm_may s last k x change.Keep held vcpus calm room (both_apart vcpu c p [] (λ h. h) (λ h. h) tt) (st, (st, tt))
      (refl, (refl, tt)) (inl answered) tt

  -- both parts as they are
  stay_both : redistributor_held vcpu (conf_of (redistributor a vcpu.0)) (pend_of (redistributor a vcpu.0)) [] ≡ held
  stay_both = λ d. redistributor_held vcpu (conf_of (has d)) (pend_of (has d)) []

  -- what is told of an LPI that is picked there, and what is left once it is taken
  module _ (pick : Redistributor → Option ℕ) where
    abbrev ack : Reply
    ack = reply.Ack (ack_of r (pick r))

    acked : ack ≡ reply.Ack (ack_of (redistributor a vcpu.0) (pick (redistributor a vcpu.0)))
    acked = ap (λ (x : Redistributor). reply.Ack (ack_of x (pick x))) (sym has)

    abbrev after : Redistributor → Redistributor
    after x = taken x (pick x)

    abbrev z : Plain
    z = with_redistributor a vcpu.0 (after (redistributor a vcpu.0))

    took : redistributor z vcpu.0 ≡ after r
    took =
        let long : vcpu.0 < length a.redistributors = omega (arith, inside, both_long s.start vcpu inside c p) in
        get_or-set_same a.redistributors vcpu.0 (after (redistributor a vcpu.0)) no_redistributor long ∙ ap after has

    conf_stays : (o : Option ℕ) → conf_of (taken r o) ≡ c
    conf_stays None = refl
    conf_stays (Some intid) = refl

    leaves : redistributor_held vcpu (conf_of (redistributor z vcpu.0)) (pend_of (redistributor z vcpu.0)) [] ≡ redistributor_held vcpu c (pend_of (after r)) []
    leaves = λ d. redistributor_held vcpu ((ap (λ (x : Redistributor). conf_of x) took ∙ conf_stays (pick r)) d) (pend_of (took d)) []

  take_answered : IsAnswered a (call.Take vcpu) (ack lowest) held
  unfolding footprint reply_of
  take_answered = record { covers = (inr (inl refl), (inl refl, tt)); reply_is = acked lowest }

  take_leaves : renewal s (staying last (call.Take vcpu) (ack lowest) change.Keep) held ≡ redistributor_held vcpu c (pend_of (taken r (lowest r))) []
  unfolding left
  take_leaves = leaves lowest

  show_answered : IsAnswered a (call.Show vcpu) (ack lowest) held
  unfolding footprint reply_of
  show_answered = record { covers = (inr (inl refl), (inl refl, tt)); reply_is = acked lowest }

  show_leaves : renewal s (staying last (call.Show vcpu) (ack lowest) change.Keep) held ≡ held
  unfolding left
  show_leaves = stay_both

  best_answered : (mask : ℕ) → IsAnswered a (call.Best vcpu mask) (ack (λ x. best x mask)) held
  unfolding footprint reply_of
  best_answered mask = record { covers = (inr (inl refl), (inl refl, tt)); reply_is = acked (λ x. best x mask) }

  best_leaves : (mask : ℕ) → renewal s (staying last (call.Best vcpu mask) (ack (λ x. best x mask)) change.Keep) held ≡ held
  unfolding left
  best_leaves mask = stay_both

  claim_answered : (intid : Intid) → IsAnswered a (call.Claim vcpu intid) (ack (λ x. claimed x intid.0)) held
  unfolding footprint reply_of
  claim_answered intid = record { covers = (inr (inl refl), (inl refl, tt)); reply_is = acked (λ x. claimed x intid.0) }

  claim_leaves : (intid : Intid) → renewal s (staying last (call.Claim vcpu intid) (ack (λ x. claimed x intid.0)) change.Keep) held
      ≡ redistributor_held vcpu c (pend_of (taken r (claimed r intid.0))) []
  unfolding left
  claim_leaves intid = leaves (λ x. claimed x intid.0)

pub takes : TakeMayCommit
takes s last vcpu c p vcpus st room = (
  both_may s last vcpu c p vcpus st room (call.Take vcpu) (ack s last vcpu c p vcpus st room lowest) tt (take_answered s last vcpu c p vcpus st room),
  take_leaves s last vcpu c p vcpus st room,
)

pub shows : ShowMayCommit
shows s last vcpu c p vcpus st room = (
  both_may s last vcpu c p vcpus st room (call.Show vcpu) (ack s last vcpu c p vcpus st room lowest) tt (show_answered s last vcpu c p vcpus st room),
  show_leaves s last vcpu c p vcpus st room,
)

pub bests : BestMayCommit
bests s last vcpu mask c p vcpus st room = (
  both_may s last vcpu c p vcpus st room (call.Best vcpu mask) (ack s last vcpu c p vcpus st room (λ x. best x mask)) tt
      (best_answered s last vcpu c p vcpus st room mask),
  best_leaves s last vcpu c p vcpus st room mask,
)

pub claims : ClaimMayCommit
claims s last vcpu intid c p vcpus st room = (
  both_may s last vcpu c p vcpus st room (call.Claim vcpu intid) (ack s last vcpu c p vcpus st room (λ x. claimed x intid.0)) tt
      (claim_answered s last vcpu c p vcpus st room intid),
  claim_leaves s last vcpu c p vcpus st room intid,
)

-- ---- memory

-- what a write leaves of memory
poked_is : (u : Plain) (address : ℕ) (bytes : List ℕ) (o : Option (List Window)) → let z : Plain = poke_left u address bytes o in
    Mem z.memory z.track ≡ poked_content u.memory u.track address bytes o
poked_is u address bytes None = refl
poked_is u address bytes (Some now) = refl

one_poked : (s : Setup) (addr : Addr) (bytes : List ℕ) (memory : List Window) (track : Option Tracked)
    → let b : Plain = assembled s (out part.Mem (Mem memory track) ∷ []) in
    let z : Plain = poked b addr.0 bytes in
    (let xs : List Held = out part.Mem (Mem z.memory z.track) ∷ [] in xs)
    ≡ out part.Mem (poked_content memory track addr.0 bytes (write_at memory addr.0 bytes)) ∷ []
one_poked s addr bytes memory track =
    λ d. out part.Mem (poked_is (assembled s (out part.Mem (Mem memory track) ∷ [])) addr.0 bytes (write_at memory addr.0 bytes) d) ∷ []

pub pokes : PokeMayCommit
unfolding footprint reply_of left
pokes s last addr bytes memory track vcpus room = (
  one_may s last vcpus room part.Mem (Mem memory track) tt (call.Poke addr bytes) (poke_reply (write_at memory addr.0 bytes)) tt record {
    covers = (inl refl, tt);
    reply_is = refl;
  },
  one_poked s addr bytes memory track,
)

pub dmas : DmaMayCommit
unfolding footprint reply_of left
dmas s last req addr bytes memory track vcpus room = (
  one_may s last vcpus room part.Mem (Mem memory track) tt (call.Dma req addr bytes route.Poke) (poke_reply (write_at memory addr.0 bytes)) tt record {
    covers = (inl refl, tt);
    reply_is = refl;
  },
  one_poked s addr bytes memory track,
)

pub copies : CopyMayCommit
unfolding footprint reply_of left
copies s last memory track vcpus room = (
  one_may s last vcpus room part.Mem (Mem memory track) tt call.Copy (reply.Copied (copy_count track)) tt record { covers = (inl refl, tt); reply_is = refl },
  refl,
)

pub nothings : NothingMayCommit
unfolding footprint reply_of left
nothings s last req addr bytes vcpus room = (
  (
    calm_may s last (call.Dma req addr bytes route.NoRequester) reply.NoRequester change.Keep [] vcpus tt room tt tt tt
        (inl record { covers = tt; reply_is = refl })
        tt,
    refl,
  ),
  (
    calm_may s last (call.Dma req addr bytes route.Frame) reply.Outside change.Keep [] vcpus tt room tt tt tt (inl record { covers = tt; reply_is = refl }) tt,
    refl,
  ),
)

pub peeks : PeekMayCommit
unfolding footprint reply_of left
peeks s last addr count memory track vcpus room = (
  one_may s last vcpus room part.Mem (Mem memory track) tt (call.Peek addr count) (peek_reply (peeked_in memory addr.0 count)) tt record {
    covers = (inl refl, tt);
    reply_is = refl;
  },
  refl,
)

-- ---- registers

module _ (s : Setup) (its : ℕ) (t : Translator) (it : its < translator_count s) where
  abbrev maps : List Held
  maps = out (part.Maps its) (Maps t) ∷ []

  abbrev b : Plain
  b = assembled s maps

  has_maps : translator b its ≡ t
  has_maps = get_or-set_same s.start.translators its t no_translator it

  read_answered : (off size : ℕ) → IsAnswered b (call.ReadReg its off size) (reply.Value (read_reg t.regs off size)) maps
  unfolding footprint reply_of
  read_answered off size = record { covers = (inl refl, tt); reply_is = ap (λ (x : Translator). reply.Value (read_reg x.regs off size)) (sym has_maps) }

  read_leaves : (last : Word) (off size : ℕ) → renewal s (staying last (call.ReadReg its off size) (reply.Value (read_reg t.regs off size)) change.Keep) maps
      ≡ maps
  unfolding left
  read_leaves last off size = λ d. out (part.Maps its) (Maps (has_maps d)) ∷ []

  module _ (off size value : ℕ) where
    abbrev write : Call
    write = call.WriteReg its off size value

    write_answered : IsAnswered b write reply.Ok maps
    unfolding footprint reply_of
    write_answered = record { covers = (inl refl, tt); reply_is = refl }

    write_leaves : (last : Word) (stamp : ℕ) → renewal s (record { expected = last; stamp = stamp; call = write; reply = reply.Ok; change = change.Keep }) maps
        ≡ out (part.Maps its) (Maps (translator_written s.start.layout.shape t (write_reg t.regs off size value))) ∷ []
    unfolding left written
    write_leaves last stamp =
        let after : Translator → Translator = λ x. translator_written s.start.layout.shape x (write_reg x.regs off size value) in
        let there : its < length (set s.start.translators its t) = omega (arith, it, length-set s.start.translators its t) in
        λ d. out (part.Maps its) (Maps ((get_or-set_same b.translators its (after (translator b its)) no_translator there ∙ ap after has_maps) d)) ∷ []

    ends_nothing : turns_off t off size value ≡ false → ending_of b write ≡ Nothing
    unfolding ending_of
    ends_nothing stays_on = ap (λ (x : Translator). if turns_off x off size value then All else Nothing) has_maps
        ∙ ap (λ (y : Bool). if y then All else Nothing) stays_on

pub reads : ReadMayCommit
reads s last its off size t vcpus it room = (
  one_may s last vcpus room (part.Maps its) (Maps t) it (call.ReadReg its off size) (reply.Value (read_reg t.regs off size)) tt
      (read_answered s its t it off size),
  read_leaves s its t it last off size,
)

pub writes : WriteMayCommit
writes s last its off size value t vcpus it room on =
    let answered = write_answered s its t it off size value in (
      nothing_may s (assembled s (maps s its t it)) last (call.WriteReg its off size value) reply.Ok (maps s its t it)
          (one_enough s last vcpus room (part.Maps its) (Maps t) it (call.WriteReg its off size value) reply.Ok answered) change.Keep tt
          (ends_nothing s its t it off size value on),
      write_leaves s its t it off size value last last.stamp,
    )

pub rises : WriteMayRise
rises s last its off size value t vcpus fits it room more =
    let answered = write_answered s its t it off size value in (
      all_may s (assembled s (maps s its t it)) last (call.WriteReg its off size value) reply.Ok (maps s its t it)
          (one_enough s last vcpus room (part.Maps its) (Maps t) it (call.WriteReg its off size value) reply.Ok answered) fits (inl refl) more,
      write_leaves s its t it off size value last (stamping s last (call.WriteReg its off size value) reply.Ok (stamp_of s last its + 1) change.Keep).stamp,
    )
