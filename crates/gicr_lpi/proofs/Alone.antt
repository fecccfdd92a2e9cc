-- A configuration is enough for a read of the LPI registers, and with what a write asks for it is enough for that.
use Rattle.std.proofs.Common.{◌≡◌, ℕ, ◌<◌, ◌++◌, Bool, true, false, if◌then◌else◌, List, [], ◌∷◌, Option, Some, None, length, refl, ap, sym, ◌∙◌, subst, inl, inr}
use Rattle.std.proofs.Common.{arith}
use Rattle.std.specs.List.{AllByRecursion}
use Rattle.dirty_log.specs.declared.tracked.Tracked.{Tracked}
use Rattle.gicr_regs.specs.Registers.{asked_by, reads_tables, changes_pending, written_gicr}
use Rattle.gicr_regs.specs.declared.write.GicrWrite.{GicrWrite}
use Rattle.guest_windows.specs.Windows.{Window}
use Rattle.its_types.specs.declared.ids.Vcpu.{Vcpu}
use Rattle.its_types.specs.declared.machine.Part.{Part}
use Rattle.its_types.specs.declared.machine.Part.TheVariants as part
use Rattle.its_types.specs.declared.machine.Word.{Word}
use Rattle.its_plain.specs.Answer.{reply_of, left}
use Rattle.its_plain.specs.Parts.{footprint, write_parts}
use Rattle.its_plain.specs.Plain.{Plain, Redistributor, ConfState, PendState, conf_of, redistributor, with_redistributor}
use Rattle.its_plain.specs.declared.call.Call.TheVariants as call
use Rattle.its_plain.specs.declared.call.Reply.{Reply}
use Rattle.its_plain.specs.declared.call.Reply.TheVariants as reply
use Rattle.its_steps.specs.Calls.{staying, redistributor_held, parts_held, MayLeave}
use Rattle.its_steps.specs.Contents.{Held, Mem, Conf}
use Rattle.its_steps.specs.Good.{Holds, Apart}
use Rattle.its_steps.specs.MayCall.{IsAnswered, MayCall}
use Rattle.its_steps.specs.MayCommit.{IsOut}
use Rattle.its_steps.specs.Parts.{Setup, HasVcpus, Stands, vcpu_count}
use Rattle.its_steps.specs.Renewal.{assembled, renewal}
use Rattle.its_steps.specs.World.{out}
use Rattle.its_steps.specs.declared.change.ShardChange.TheVariants.{Keep}
use Rattle.its_steps.proofs.Calm.{calm_may}
use Rattle.its_steps.proofs.Gicr.{confs, rereads, turn_offs, gicrs}
use Rattle.its_steps.proofs.PutIn.{put_conf, has_both, both_apart}
use Rattle.gicr_lpi.specs.Accesses.{read_by, write_call, asked}
use Rattle.gicr_lpi.specs.Hands.{HandState, HasEnough, held_of, done_to, after_write}
use Rattle.gicr_lpi.specs.declared.access.GicrAccess.{GicrAccess}

not_both : (A : Type 0) (b : Bool) → b ≡ false → b ≡ true → A
not_both A true e f = cc
not_both A false e f = cc

-- what there is not is not asked for
is_not : (b : Bool) → (b ≡ true → false ≡ true) → b ≡ false
is_not true h = sym (h refl)
is_not false h = refl

-- ---- the parts that a write needs

needs : (held : List Held) (p : Part) (b : Bool) → (b ≡ true → Holds p held) → AllByRecursion (λ q. Holds q held) (if b then p ∷ [] else [])
needs held p true h = (h refl, tt)
needs held p false h = tt

both_needs : (held : List Held) (xs ys : List Part) → AllByRecursion (λ q. Holds q held) xs → AllByRecursion (λ q. Holds q held) ys
    → AllByRecursion (λ q. Holds q held) (xs ++ ys)
both_needs held [] ys a b = b
both_needs held (x ∷ xs) ys a b = (a.0, both_needs held xs ys a.1 b)

all_needs : (held : List Held) (vcpu : Vcpu) (w : GicrWrite) → (reads_tables w ≡ true → Holds part.Mem held)
    → (changes_pending w ≡ true → Holds (part.Pend vcpu) held) → AllByRecursion (λ q. Holds q held) (write_parts vcpu w)
all_needs held vcpu w mem pend = both_needs held (if reads_tables w then part.Mem ∷ [] else []) (if changes_pending w then part.Pend vcpu ∷ [] else [])
    (needs held part.Mem (reads_tables w) mem) (needs held (part.Pend vcpu) (changes_pending w) pend)

module _ (s : Setup) (vcpus : HasVcpus s) (w : Word) (room : w.place < s.limits.place_last) (vcpu : Vcpu) (st : vcpu.0 < vcpu_count s) where
  inside : vcpu.0 < length s.start.redistributors
  inside = omega (arith, st, vcpus)

  -- ---- reads

  module _ (c : ConfState) (off size : ℕ) where
    abbrev one : List Held
    one = out (part.Conf vcpu) (Conf c) ∷ []

    abbrev a : Plain
    a = assembled s one

    has_one : conf_of (redistributor a vcpu.0) ≡ c
    has_one = put_conf s.start vcpu.0 c inside

    abbrev value : Reply
    value = reply.Value (read_by s.start.layout c off size)

    read_answered : IsAnswered a (call.ReadGicr vcpu off size) value one
    unfolding footprint reply_of
    read_answered = record {
      covers = (inl refl, tt);
      reply_is = ap (λ (x : ConfState). reply.Value (read_by s.start.layout x off size))
          (sym has_one);
    }

    read_leaves : renewal s (staying w (call.ReadGicr vcpu off size) value Keep) one ≡ one
    unfolding left
    read_leaves = λ d. out (part.Conf vcpu) (Conf (has_one d)) ∷ []

    pub may_read : MayLeave s (staying w (call.ReadGicr vcpu off size) value Keep) one one
    may_read = (
      calm_may s w (call.ReadGicr vcpu off size) value Keep one vcpus tt room ((λ h. h), tt) (st, tt) (refl, tt)
          (inl read_answered) tt,
      read_leaves,
    )

  -- ---- writes

  module _ (off size value : ℕ) where
    abbrev access : GicrAccess
    access = record { vcpu = vcpu; off = off; size = size; value = value }

    abbrev MayWrite : List Held → List Held → Type 0
    MayWrite held owed = MayLeave s (staying w (write_call access) reply.Ok Keep) held owed

    -- where the guest programs the tables
    programmed : (m : Option (List Window × Option Tracked)) (c : ConfState) (p : Option PendState)
        → (let g : HandState = record { memory = m; conf = c; pend = p } in HasEnough access g → s.start.layout.gicr ≡ true
        → MayWrite (held_of vcpu g) (held_of vcpu (done_to s.start.layout.shape access g p)))
    unfolding written_gicr
    programmed None c None enough gicr = confs s w vcpu off size value c vcpus st room gicr
        (is_not (reads_tables (asked access c)) enough.memory) (is_not (changes_pending (asked access c)) enough.pend)
    programmed (Some x) c None enough gicr = rereads s w vcpu off size value c x.0 x.1 vcpus st room gicr
        (is_not (changes_pending (asked access c)) enough.pend)
    programmed None c (Some p) enough gicr = turn_offs s w vcpu off size value c p vcpus st room gicr
        (is_not (reads_tables (asked access c)) enough.memory)
    programmed (Some x) c (Some p) enough gicr = gicrs s w vcpu off size value c p x.0 x.1 vcpus st room gicr

    -- ---- where it doesn't, nothing is written

    module _ (gicr : s.start.layout.gicr ≡ false) where
      module _ (held : List Held) (same : (assembled s held).layout ≡ s.start.layout) (c : ConfState)
          (has : conf_of (redistributor (assembled s held) vcpu.0) ≡ c) where
        abbrev b : Plain
        b = assembled s held

        left_is : left b (write_call access) reply.Ok ≡ b
        unfolding left
        left_is = ap (λ (x : Bool). if x then with_redistributor b vcpu.0
            (written_gicr b.layout.shape b.memory (redistributor b vcpu.0) off size value) else b) (ap (λ l. l.gicr) same ∙ gicr)

        redist_is : redistributor (left b (write_call access) reply.Ok) vcpu.0 ≡ redistributor b vcpu.0
        redist_is = ap (λ (x : Plain). redistributor x vcpu.0) left_is

        conf_is : conf_of (redistributor (left b (write_call access) reply.Ok) vcpu.0) ≡ c
        conf_is = ap (λ (r : Redistributor). conf_of r) redist_is ∙ has

        memory_is : Mem ((left b (write_call access) reply.Ok).memory) ((left b (write_call access) reply.Ok).track) ≡ Mem b.memory b.track
        memory_is = ap (λ (x : Plain). Mem x.memory x.track) left_is

        answered : Holds (part.Conf vcpu) held → (reads_tables (asked access c) ≡ true → Holds part.Mem held)
            → (changes_pending (asked access c) ≡ true → Holds (part.Pend vcpu) held) → IsAnswered b (write_call access) reply.Ok held
        unfolding footprint reply_of
        answered conf mem pend = record {
          covers = (
            conf,
            subst (λ (x : ConfState). AllByRecursion (λ q. Holds q held) (write_parts vcpu (asked_by x.bases off size value))) (sym has)
                (all_needs held vcpu (asked access c) mem pend),
          );
          reply_is = refl;
        }

        may : Apart held → AllByRecursion (λ x. Stands s x.part) held → AllByRecursion IsOut held → IsAnswered b (write_call access) reply.Ok held
            → MayCall s (staying w (write_call access) reply.Ok Keep) held
        may apart stands outs is = calm_may s w (write_call access) reply.Ok Keep held vcpus tt room apart stands outs (inl is) tt

      module _ (c : ConfState) where
        -- the configuration alone
        alone : reads_tables (asked access c) ≡ false → changes_pending (asked access c) ≡ false → MayWrite (out (part.Conf vcpu) (Conf c) ∷ [])
            (out (part.Conf vcpu) (Conf c) ∷ [])
        alone none steady = let held : List Held = out (part.Conf vcpu) (Conf c) ∷ [] in let has = put_conf s.start vcpu.0 c inside in (
          may held refl c has ((λ h. h), tt) (st, tt) (refl, tt)
              (answered held refl c has (inl refl) (not_both (Holds part.Mem held) (reads_tables (asked access c)) none)
              (not_both (Holds (part.Pend vcpu) held) (changes_pending (asked access c)) steady)),
          (λ d. out (part.Conf vcpu) (Conf (conf_is held refl c has d)) ∷ []),
        )

        module _ (memory : List Window) (track : Option Tracked) where
          abbrev mem : List Held
          mem = out part.Mem (Mem memory track) ∷ []

          no_pend : Holds (part.Pend vcpu) mem → ⊥
          no_pend (inl e) = cc
          no_pend (inr h) = h

          no_conf : Holds (part.Conf vcpu) mem → ⊥
          no_conf (inl e) = cc
          no_conf (inr h) = h

          -- with memory
          with_memory : changes_pending (asked access c) ≡ false → MayWrite (out (part.Conf vcpu) (Conf c) ∷ mem) (out (part.Conf vcpu) (Conf c) ∷ mem)
          with_memory steady = let held : List Held = out (part.Conf vcpu) (Conf c) ∷ mem in let has = put_conf (assembled s mem) vcpu.0 c inside in (
            may held refl c has (no_conf, ((λ h. h), tt)) (st, (tt, tt)) (refl, (refl, tt))
                (answered held refl c has (inl refl) (λ e. inr (inl refl))
                (not_both (Holds (part.Pend vcpu) held) (changes_pending (asked access c)) steady)),
            (λ d. out (part.Conf vcpu) (Conf (conf_is held refl c has d)) ∷ out part.Mem (memory_is held refl c has d) ∷ []),
          )

          -- with all that a write can ask for
          with_all : (p : PendState) → MayWrite (redistributor_held vcpu c p mem) (redistributor_held vcpu c p mem)
          with_all p = let held : List Held = redistributor_held vcpu c p mem in let both = has_both (assembled s mem) vcpu inside c p in
              let has = ap (λ (r : Redistributor). conf_of r) both in (
                may held refl c has (both_apart vcpu c p mem no_pend no_conf ((λ h. h), tt)) (st, (st, (tt, tt))) (refl, (refl, (refl, tt)))
                    (answered held refl c has (inr (inl refl)) (λ e. inr (inr (inl refl))) (λ e. inl refl)),
                (λ d. parts_held vcpu ((redist_is held refl c has ∙ both) d) (out part.Mem (memory_is held refl c has d) ∷ [])),
              )

        -- with what is pending
        with_pend : (p : PendState) → reads_tables (asked access c) ≡ false → MayWrite (redistributor_held vcpu c p []) (redistributor_held vcpu c p [])
        with_pend p none = let held : List Held = redistributor_held vcpu c p [] in let both = has_both s.start vcpu inside c p in
            let has = ap (λ (r : Redistributor). conf_of r) both in (
              may held refl c has (both_apart vcpu c p [] (λ h. h) (λ h. h) tt) (st, (st, tt)) (refl, (refl, tt))
                  (answered held refl c has (inr (inl refl)) (not_both (Holds part.Mem held) (reads_tables (asked access c)) none) (λ e. inl refl)),
              (λ d. parts_held vcpu ((redist_is held refl c has ∙ both) d) []),
            )

      -- all of them
      unprogrammed : (m : Option (List Window × Option Tracked)) (c : ConfState) (p : Option PendState)
          → (let g : HandState = record { memory = m; conf = c; pend = p } in HasEnough access g → MayWrite (held_of vcpu g) (held_of vcpu g))
      unprogrammed None c None enough = alone c (is_not (reads_tables (asked access c)) enough.memory)
          (is_not (changes_pending (asked access c)) enough.pend)
      unprogrammed (Some x) c None enough = with_memory c x.0 x.1 (is_not (changes_pending (asked access c)) enough.pend)
      unprogrammed None c (Some p) enough = with_pend c p (is_not (reads_tables (asked access c)) enough.memory)
      unprogrammed (Some x) c (Some p) enough = with_all c x.0 x.1 p

    -- ---- either

    either_way : (h : HandState) → HasEnough access h → (b : Bool) → s.start.layout.gicr ≡ b
        → MayWrite (held_of vcpu h) (held_of vcpu (after_write b s.start.layout.shape access h))
    either_way h enough true gicr = programmed h.memory h.conf h.pend enough gicr
    either_way h enough false gicr = unprogrammed gicr h.memory h.conf h.pend enough

    pub may_write : (h : HandState) → HasEnough access h
        → MayWrite (held_of vcpu h) (held_of vcpu (after_write s.start.layout.gicr s.start.layout.shape access h))
    may_write h enough = either_way h enough s.start.layout.gicr refl
