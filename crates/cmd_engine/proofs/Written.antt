-- A write of a register of a translator, with its maps and the shards that it may change in hand.
use Rattle.std.proofs.Common.{◌≡◌, ◌<◌, ℕ, List, [], ◌∷◌, Some, length, refl, ap, sym, ◌∙◌, subst, arith, get_or-set_same, if◌then◌else◌}
use Rattle.std.specs.List.{AllByRecursion}
use Rattle.std.specs.Prelude.{slice_get}
use Rattle.std.proofs.lemmas.Option.{get_or_from_slice_get}
use Rattle.its_types.specs.declared.machine.Part.TheVariants as part
use Rattle.its_types.specs.declared.machine.Shape.{Shape}
use Rattle.its_types.specs.declared.machine.Word.{Word}
use Rattle.its_plain.specs.Answer.{written, left, reply_of}
use Rattle.its_plain.specs.History.{after}
use Rattle.its_plain.specs.Parts.{footprint}
use Rattle.its_plain.specs.Plain.{Plain, Translator, translator, no_translator}
use Rattle.its_plain.specs.declared.call.Call.{Call}
use Rattle.its_plain.specs.declared.call.Reply.TheVariants as reply
use Rattle.its_plain.specs.declared.layout.Layout.{Layout}
use Rattle.owned_parts.specs.Owned.{translator_of}
use Rattle.its_steps.specs.Contents.{Maps, Held}
use Rattle.its_steps.specs.Endings.{Ending, Nothing, All, ending_of}
use Rattle.its_steps.specs.MayCall.{MayCall}
use Rattle.its_steps.specs.MayCommit.{IsRight}
use Rattle.its_steps.specs.Parts.{Setup, HasStamps, IsOfMachine, Right, translator_count, vcpu_count}
use Rattle.its_steps.specs.Renewal.{renewed}
use Rattle.its_steps.specs.States.{IsReady, MayLeaveIn}
use Rattle.its_steps.specs.World.{View, out, word_after}
use Rattle.its_steps.specs.declared.commit.Commit.{Commit}
use Rattle.its_steps.proofs.Assembled.{right_had}
use Rattle.its_steps.proofs.Owed.{owes_all}
use Rattle.its_turns.specs.Machines.{AreWithin}
use Rattle.its_turns.specs.Told.{Looks, Commits}
use Rattle.cmd_exec.specs.declared.needed.Needed.{Needed}
use Rattle.held_parts.specs.Redists.{AreConfsOfSet, ArePendsOfSet}
use Rattle.cmd_engine.specs.Cached.{ending_as, cached_held, AreWhole, commit_of, LeavesBy, MayMark, AreChanged}
use Rattle.cmd_engine.specs.Hands.{Memory, redists_of, memory_held, base_held, all_held, HasRoom, HasInHand, IsOwn}
use Rattle.cmd_engine.specs.Registers.{write_call, after_write, turns_off, write_ending}
use Rattle.cmd_engine.specs.declared.cached.Mark.{Mark}
use Rattle.cmd_engine.specs.declared.hands.Hands.{Hands}
use Rattle.cmd_engine.specs.declared.writing.RegWrite.{RegWrite}
use Rattle.cmd_engine.proofs.Held.{all_out, owes_maps, holds_maps, holds_cached, bare_held}
use Rattle.cmd_engine.proofs.InState.{AreOut}
use Rattle.cmd_engine.proofs.Marks.{HoldsShards, marked_may, within_after, holds_shards, Makes, mark_makes}
use Rattle.cmd_engine.proofs.Reading.{state_machine, state_right, read_held, read_setup, read_within, owed_after}

-- ---- in a state that has the maps

module _ (u : Plain) (its : ℕ) (t : Translator) (r : RegWrite) (has : slice_get u.translators its ≡ Some t) where
  own_maps : translator u its ≡ t
  own_maps = get_or_from_slice_get u.translators its t no_translator has

  ends_by : ending_of u (write_call its r) ≡ write_ending r t
  unfolding ending_of
  ends_by = ap (λ (x : Translator). if turns_off r x then All else Nothing) own_maps

  -- what it leaves of the maps
  left_maps : its < length u.translators → translator (left u (write_call its r) reply.Ok) its ≡ after_write u.layout.shape r t
  unfolding left written
  left_maps inside =
      let done : Translator → Translator = λ x. after_write u.layout.shape r x in
      get_or-set_same u.translators its (done (translator u its)) no_translator inside ∙ ap done own_maps

-- ---- with what is in hand

module _ (s : Setup) (stamps : HasStamps s) (v : View) (h : Hands) (has : HasInHand s v h) (alone : IsOwn h) (r : RegWrite)
    (ends : ending_as h.cached ≡ write_ending r (translator_of h.translator.value)) (x : View) (w : Word) (own : v.setup ≡ s) (looks : Looks v w x)
    (room : w.place < s.limits.place_last) where
  abbrev its : ℕ
  its = h.its

  abbrev t : Translator
  t = translator_of h.translator.value

  abbrev held : List Held
  held = all_held s h

  abbrev u : Plain
  u = after v.setup.start x.seen

  abbrev c : Call
  c = write_call its r

  m : IsOfMachine s u
  m = state_machine s v x w held own has.held looks

  right : AllByRecursion (IsRight s w u) held
  right = state_right s v x w held own has.held looks

  out_of : AreOut s held
  out_of = all_out s v h has

  maps_at : slice_get u.translators its ≡ Some t
  maps_at = owes_all (Right s w u) (part.Maps its) (Maps t) held (owes_maps s v h has) right

  ends_so : ending_of u c ≡ ending_as h.cached
  ends_so = ends_by u its t r maps_at ∙ sym ends

  ready : IsReady s u w c reply.Ok held
  unfolding footprint reply_of
  ready = record {
    machine = m;
    has = right_had s w u held right;
    room = room;
    stands = out_of.stands;
    apart = out_of.apart;
    out = out_of.out;
    answered = record { covers = (holds_maps s v h has, tt); reply_is = refl };
  }

  module _ (mark : Mark) (may : MayMark s its h.cached w mark) where
    abbrev a : Commit
    a = commit_of w mark c reply.Ok

    pub write_leaves : LeavesBy s its (ending_of u c) w mark
    write_leaves = subst (λ (e : Ending). LeavesBy s its e w mark) (sym ends_so) may.leaves

    pub write_within : AreWithin s (word_after a)
    write_within = within_after s stamps its has.its w (read_within s v x w own looks) c reply.Ok (ending_as h.cached) mark may.leaves

    may_leave : MayLeaveIn s u a held
    may_leave = marked_may s stamps u w c reply.Ok held ready (holds_maps s v h has) mark write_leaves
        (subst (λ (e : Ending). HoldsShards s its e mark held) (sym ends_so)
        (holds_shards s its h.cached (base_held h) held mark has.whole (holds_cached s v h has) may.every))

    pub write_may : MayCall s a x.held
    write_may = subst (MayCall s a) (sym (read_held s v x w held own has.held looks)) may_leave.0

    -- written
    module _ (shape : Shape) (same : shape ≡ s.start.layout.shape) (h' : Hands) (its_is : h'.its ≡ its) (mem' : h'.memory ≡ h.memory)
        (needed' : h'.needed ≡ h.needed) (wrote : translator_of h'.translator.value ≡ after_write shape r t)
        (changes : AreChanged mark.change h.cached h'.cached) where
      abbrev z : Plain
      z = left u c reply.Ok

      new : translator z its ≡ translator_of h'.translator.value
      new = left_maps u its t r maps_at (let lt = has.its in let n = m.translators in omega (arith, lt, n))
          ∙ (ap (λ (l : Layout). after_write l.shape r t) (sym m.layout) ∙ (ap (λ (k : Shape). after_write k r t) (sym same) ∙ sym wrote))

      bases : renewed s a z (base_held h) ≡ base_held h'
      bases =
          ap (λ (o : Memory). renewed s a z (memory_held o (out (part.Maps its) (Maps t) ∷ []))) alone
          ∙ ((λ d. out (part.Maps its) (Maps (new d)) ∷ [])
          ∙ (λ d. memory_held (sym (mem' ∙ alone) d) (out (part.Maps (sym its_is d)) (Maps (translator_of h'.translator.value)) ∷ [])))

      makes : Makes s w c reply.Ok z its refl (base_held h) mark h.cached h'.cached
      makes = mark_makes s w c reply.Ok z its refl (base_held h) h.cached h'.cached mark may.leaves may.every changes

      abbrev rest : List Held
      rest = cached_held its s.shards h.cached (base_held h)

      pub in_hand_written : (y : View) → Commits x a y → HasInHand s y h'
      in_hand_written y commits = record {
        held = owed_after s x y a held (read_setup s v x w held own has.held looks) (read_held s v x w held own has.held looks) commits
            ∙ (may_leave.1
            ∙ (ap (renewed s a z) (bare_held (vcpu_count s) h.memory alone rest)
            ∙ (makes.renews
            ∙ ((λ d. cached_held (sym its_is d) s.shards h'.cached (bases d))
            ∙ sym (bare_held (vcpu_count s) h'.memory (mem' ∙ alone) (cached_held h'.its s.shards h'.cached (base_held h')))))));
        its = subst (λ (n : ℕ). n < translator_count s) (sym its_is) has.its;
        whole = subst (λ (n : ℕ). AreWhole s n h'.cached) (sym its_is) (makes.whole has.whole);
        confs = subst (λ (q : Needed × Memory). AreConfsOfSet s q.0.confs (redists_of q.1)) (λ d. (sym needed' d, sym mem' d)) has.confs;
        pends = subst (λ (q : Needed × Memory). ArePendsOfSet s q.0.pends (redists_of q.1)) (λ d. (sym needed' d, sym mem' d)) has.pends;
        room = subst (HasRoom s) (sym mem') has.room;
      }
