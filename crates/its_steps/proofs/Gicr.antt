-- Writes of the LPI registers of a redistributor.
use Rattle.std.proofs.Common.{◌≡◌, ℕ, Bool, true, false, ◌<◌, ◌++◌, if◌then◌else◌, List, [], ◌∷◌, length, Option, refl, ap, sym, ◌∙◌, subst, inl, inr}
use Rattle.std.proofs.Common.{arith, length-set, get_or-set_same}
use Rattle.std.specs.List.{AllByRecursion}
use Rattle.guest_windows.specs.Windows.{Window}
use Rattle.dirty_log.specs.declared.tracked.Tracked.{Tracked}
use Rattle.gicr_regs.specs.Registers.{asked_by, asked_by_word, done_by, conf_done_by, written_gicr, turned_off, changes_pending, reads_tables}
use Rattle.gicr_regs.specs.declared.write.GicrWrite.{GicrWrite}
use Rattle.gicr_regs.specs.declared.write.GicrWrite.TheVariants as writes
use Rattle.gicr_regs.proofs.Split.{split, looks_away, conf_looks_away}
use Rattle.its_types.specs.declared.ids.Vcpu.{Vcpu}
use Rattle.its_types.specs.declared.machine.Part.{Part}
use Rattle.its_types.specs.declared.machine.Part.TheVariants as part
use Rattle.its_types.specs.declared.machine.Shape.{Shape}
use Rattle.its_types.specs.declared.machine.Word.{Word}
use Rattle.its_plain.specs.Answer.{reply_of, left}
use Rattle.its_plain.specs.Parts.{footprint, write_parts}
use Rattle.its_plain.specs.Plain.{Plain, Redistributor, ConfState, PendState, conf_of, with_conf, joined, redistributor, no_redistributor}
use Rattle.its_plain.specs.Plain.{with_redistributor}
use Rattle.its_plain.specs.declared.call.Call.{Call}
use Rattle.its_plain.specs.declared.call.Call.TheVariants as call
use Rattle.its_plain.specs.declared.call.Reply.TheVariants as reply
use Rattle.its_steps.specs.Calls.{staying, redistributor_held, parts_held, MayLeave, ConfMayCommit, RereadMayCommit, TurnOffMayCommit, GicrMayCommit}
use Rattle.its_steps.specs.Calls.{WriteTurnsOff}
use Rattle.its_steps.specs.Contents.{Mem, Conf, Held}
use Rattle.its_steps.specs.Good.{Holds, Apart}
use Rattle.its_steps.specs.MayCall.{IsAnswered, MayCall}
use Rattle.its_steps.specs.MayCommit.{IsOut}
use Rattle.its_steps.specs.Parts.{Setup, HasVcpus, Stands, vcpu_count}
use Rattle.its_steps.specs.Renewal.{assembled}
use Rattle.its_steps.specs.World.{out}
use Rattle.its_steps.specs.declared.change.ShardChange.TheVariants as change
use Rattle.its_steps.proofs.Calm.{calm_may}
use Rattle.its_steps.proofs.PutIn.{has_both, both_long, both_apart}

-- ---- the parts that a write needs

needs : (held : List Held) (p : Part) (b : Bool) → (b ≡ true → Holds p held) → AllByRecursion (λ q. Holds q held) (if b then p ∷ [] else [])
needs held p true h = (h refl, tt)
needs held p false h = tt

both_needs : (held : List Held) (xs ys : List Part) → AllByRecursion (λ q. Holds q held) xs → AllByRecursion (λ q. Holds q held) ys
    → AllByRecursion (λ q. Holds q held) (xs ++ ys)
both_needs held [] ys a b = b
both_needs held (x ∷ xs) ys a b = (a.0, both_needs held xs ys a.1 b)

all_needs : (held : List Held) (vcpu : Vcpu) (w : GicrWrite) → (reads_tables w ≡ true → Holds part.Mem held)
    → (changes_pending w ≡ true → Holds (part.Pend vcpu) held) → AllByRecursion (λ q. Holds q held) (write_parts vcpu w)
all_needs held vcpu w mem pend = both_needs held (if reads_tables w then part.Mem ∷ [] else []) (if changes_pending w then part.Pend vcpu ∷ [] else [])
    (needs held part.Mem (reads_tables w) mem) (needs held (part.Pend vcpu) (changes_pending w) pend)

not_both : (A : Type 0) (b : Bool) → b ≡ false → b ≡ true → A
not_both A true e f = cc
not_both A false e f = cc

-- ---- one write, where the parts held have this redistributor

module _ (s : Setup) (last : Word) (vcpu : Vcpu) (off size value : ℕ) (vcpus : HasVcpus s) (st : vcpu.0 < vcpu_count s)
    (room : last.place < s.limits.place_last) (gicr : s.start.layout.gicr ≡ true) where
  abbrev k : Call
  k = call.WriteGicr vcpu off size value

  abbrev asked : ConfState → GicrWrite
  asked c = asked_by c.bases off size value

  inside : vcpu.0 < length s.start.redistributors
  inside = omega (arith, st, vcpus)

  module _ (held : List Held) (long : length (assembled s held).redistributors ≡ length s.start.redistributors)
      (same : (assembled s held).layout ≡ s.start.layout) (r : Redistributor) (has : redistributor (assembled s held) vcpu.0 ≡ r) where
    abbrev a : Plain
    a = assembled s held

    abbrev after : Redistributor → Redistributor
    after x = written_gicr a.layout.shape a.memory x off size value

    abbrev z : Plain
    z = with_redistributor a vcpu.0 (after (redistributor a vcpu.0))

    pub left_is : left a k reply.Ok ≡ z
    unfolding left
    left_is = ap (λ (b : Bool). if b then z else a) (ap (λ l. l.gicr) same ∙ gicr)

    pub memory_is : Mem ((left a k reply.Ok).memory) ((left a k reply.Ok).track) ≡ Mem a.memory a.track
    memory_is = ap (λ (x : Plain). Mem x.memory x.track) left_is

    pub wrote : redistributor (left a k reply.Ok) vcpu.0 ≡ after r
    wrote =
        let there : vcpu.0 < length a.redistributors = omega (arith, inside, long) in
        ap (λ (x : Plain). redistributor x vcpu.0) left_is
        ∙ get_or-set_same a.redistributors vcpu.0 (after (redistributor a vcpu.0)) no_redistributor there ∙ ap after has

    pub answered : Holds (part.Conf vcpu) held → (reads_tables (asked (conf_of r)) ≡ true → Holds part.Mem held)
        → (changes_pending (asked (conf_of r)) ≡ true → Holds (part.Pend vcpu) held) → IsAnswered a k reply.Ok held
    unfolding footprint reply_of
    answered conf mem pend = record {
      covers = (
        conf,
        subst (λ (x : Redistributor). AllByRecursion (λ q. Holds q held) (write_parts vcpu (asked_by x.bases off size value))) (sym has)
            (all_needs held vcpu (asked (conf_of r)) mem pend),
      );
      reply_is = refl;
    }

  abbrev shape : Shape
  shape = s.start.layout.shape

  abbrev MayWrite : List Held → List Held → Type 0
  MayWrite held owed = MayLeave s (staying last k reply.Ok change.Keep) held owed

  may : (held : List Held) → Apart held → AllByRecursion (λ x. Stands s x.part) held → AllByRecursion IsOut held → IsAnswered (assembled s held) k reply.Ok held
      → MayCall s (staying last k reply.Ok change.Keep) held
  may held apart stands outs answered = calm_may s last k reply.Ok change.Keep held vcpus tt room apart stands outs (inl answered) tt

  -- what the configuration is after a write that turns LPIs neither on nor off
  conf_after : (memory : List Window) (r : Redistributor) → changes_pending (asked (conf_of r)) ≡ false
      → conf_of (written_gicr shape memory r off size value) ≡ conf_done_by shape memory (asked (conf_of r)) (conf_of r)
  unfolding written_gicr
  conf_after memory r none = ap (λ (x : Redistributor). conf_of x) (split shape memory (asked (conf_of r)) r none)

  write_looks_away : (c : ConfState) (p : PendState) → reads_tables (asked c) ≡ false
      → written_gicr shape s.start.memory (joined c p) off size value ≡ done_by shape [] (asked c) (joined c p)
  unfolding written_gicr
  write_looks_away c p looks_at_none = looks_away shape s.start.memory [] (asked c) (joined c p) looks_at_none

  -- ---- the configuration alone, or with memory

  module _ (c : ConfState) (none : changes_pending (asked c) ≡ false) where
    abbrev own : Redistributor
    own = with_conf c (redistributor s.start vcpu.0)

    abbrev alone : List Held
    alone = out (part.Conf vcpu) (Conf c) ∷ []

    one_long : length (assembled s alone).redistributors ≡ length s.start.redistributors
    one_long = length-set s.start.redistributors vcpu.0 own

    one_has : redistributor (assembled s alone) vcpu.0 ≡ own
    one_has = get_or-set_same s.start.redistributors vcpu.0 own no_redistributor inside

    alone_may : reads_tables (asked c) ≡ false → MayWrite alone (out (part.Conf vcpu) (Conf (conf_done_by shape [] (asked c) c)) ∷ [])
    alone_may looks_at_none = (
      may alone ((λ h. h), tt) (st, tt) (refl, tt)
          (answered alone one_long refl own one_has (inl refl) (λ e. not_both (Holds part.Mem alone) (reads_tables (asked c)) looks_at_none e)
          (λ e. not_both (Holds (part.Pend vcpu) alone) (changes_pending (asked c)) none e)),
      (λ d. out (part.Conf vcpu) (Conf (conf_is d)) ∷ []),
    )
      where
        conf_is : conf_of (redistributor (left (assembled s alone) k reply.Ok) vcpu.0) ≡ conf_done_by shape [] (asked c) c
        conf_is =
            ap (λ (x : Redistributor). conf_of x) (wrote alone one_long refl own one_has)
            ∙ (conf_after s.start.memory own none ∙ conf_looks_away shape s.start.memory [] (asked c) c looks_at_none)

    module _ (memory : List Window) (track : Option Tracked) where
      abbrev mem : List Held
      mem = out part.Mem (Mem memory track) ∷ []

      abbrev two : List Held
      two = out (part.Conf vcpu) (Conf c) ∷ mem

      two_may : MayWrite two (out (part.Conf vcpu) (Conf (conf_done_by shape memory (asked c) c)) ∷ mem)
      two_may = (
        may two ((λ h. no_mem h), ((λ h. h), tt)) (st, (tt, tt)) (refl, (refl, tt))
            (answered two one_long refl own one_has (inl refl) (λ e. inr (inl refl))
            (λ e. not_both (Holds (part.Pend vcpu) two) (changes_pending (asked c)) none e)),
        (λ d. out (part.Conf vcpu) (Conf (conf_is d)) ∷ out part.Mem (memory_is two one_long refl own one_has d) ∷ []),
      )
        where
          no_mem : Holds (part.Conf vcpu) mem → ⊥
          no_mem (inl e) = cc
          no_mem (inr h) = h

          conf_is : conf_of (redistributor (left (assembled s two) k reply.Ok) vcpu.0) ≡ conf_done_by shape memory (asked c) c
          conf_is = ap (λ (x : Redistributor). conf_of x) (wrote two one_long refl own one_has) ∙ conf_after memory own none

  -- ---- both parts, alone or with memory

  module _ (c : ConfState) (p : PendState) where
    abbrev both : List Held
    both = redistributor_held vcpu c p []

    both_may : reads_tables (asked c) ≡ false → MayWrite both (parts_held vcpu (done_by shape [] (asked c) (joined c p)) [])
    both_may looks_at_none = (
      may both (both_apart vcpu c p [] (λ h. h) (λ h. h) tt) (st, (st, tt)) (refl, (refl, tt))
          (answered both (both_long s.start vcpu inside c p) refl (joined c p) (has_both s.start vcpu inside c p) (inr (inl refl))
          (λ e. not_both (Holds part.Mem both) (reads_tables (asked c)) looks_at_none e) (λ e. inl refl)),
      (λ d. parts_held vcpu (all_is d) []),
    )
      where
        all_is : redistributor (left (assembled s both) k reply.Ok) vcpu.0 ≡ done_by shape [] (asked c) (joined c p)
        all_is = wrote both (both_long s.start vcpu inside c p) refl (joined c p) (has_both s.start vcpu inside c p)
            ∙ write_looks_away c p looks_at_none

    module _ (memory : List Window) (track : Option Tracked) where
      abbrev mem_last : List Held
      mem_last = out part.Mem (Mem memory track) ∷ []

      abbrev three : List Held
      three = redistributor_held vcpu c p mem_last

      abbrev base : Plain
      base = assembled s mem_last

      all_is : redistributor (left (assembled s three) k reply.Ok) vcpu.0 ≡ written_gicr shape memory (joined c p) off size value
      all_is = wrote three (both_long base vcpu inside c p) refl (joined c p) (has_both base vcpu inside c p)

      three_may : MayWrite three (parts_held vcpu (written_gicr shape memory (joined c p) off size value) mem_last)
      three_may = (
        may three (both_apart vcpu c p mem_last (λ h. no_pend h) (λ h. no_conf h) ((λ h. h), tt)) (st, (st, (tt, tt))) (refl, (refl, (refl, tt)))
            (answered three (both_long base vcpu inside c p) refl (joined c p) (has_both base vcpu inside c p) (inr (inl refl)) (λ e. inr (inr (inl refl)))
            (λ e. inl refl)),
        (λ d. parts_held vcpu (all_is d) (out part.Mem (memory_is three (both_long base vcpu inside c p) refl (joined c p) (has_both base vcpu inside c p) d) ∷ [])),
      )
        where
          no_pend : Holds (part.Pend vcpu) mem_last → ⊥
          no_pend (inl e) = cc
          no_pend (inr h) = h

          no_conf : Holds (part.Conf vcpu) mem_last → ⊥
          no_conf (inl e) = cc
          no_conf (inr h) = h

pub confs : ConfMayCommit
confs s last vcpu off size value c vcpus st room gicr reads_none none = alone_may s last vcpu off size value vcpus st room gicr c none reads_none

pub rereads : RereadMayCommit
rereads s last vcpu off size value c memory track vcpus st room gicr none = two_may s last vcpu off size value vcpus st room gicr c none memory track

pub turn_offs : TurnOffMayCommit
turn_offs s last vcpu off size value c p vcpus st room gicr reads_none = both_may s last vcpu off size value vcpus st room gicr c p reads_none

pub gicrs : GicrMayCommit
gicrs s last vcpu off size value c p memory track vcpus st room gicr = three_may s last vcpu off size value vcpus st room gicr c p memory track

pub turns_off : WriteTurnsOff
unfolding written_gicr asked_by asked_by_word done_by
turns_off s memory r linux on =
    ap (λ (b : Bool). done_by s memory (if b then writes.Disable else writes.Ignored) r) on ∙ ap (λ (b : Bool). if b then turned_off s r else r) linux
