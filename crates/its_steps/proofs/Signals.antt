-- Signals: found in the cache, or sent by the maps.
use Rattle.std.proofs.Common.{◌≡◌, ℕ, ◌<◌, ◌&&◌, Bool, true, false, cond, eqb, List, [], ◌∷◌, length, set, get_or, Option, Some, Result, Ok, Err, refl, ap}
use Rattle.std.proofs.Common.{sym, ◌∙◌, subst, inl, inr, arith, length-set, get_or-set_same, eq-eqb}
use Rattle.std.specs.List.{AllByRecursion}
use Rattle.std.specs.Option.{option_map}
use Rattle.std.specs.Result.{result_ok}
use Rattle.its_types.specs.Lpis.{with_lpi}
use Rattle.its_types.specs.declared.ids.DeviceId.{DeviceId}
use Rattle.its_types.specs.declared.ids.EventId.{EventId}
use Rattle.its_types.specs.declared.ids.Target.{Target}
use Rattle.its_types.specs.declared.machine.Part.TheVariants as part
use Rattle.its_types.specs.declared.machine.Word.{Word}
use Rattle.its_plain.specs.Answer.{signal_reply, reply_of, left}
use Rattle.its_plain.specs.Parts.{pend_at}
use Rattle.its_plain.specs.Plain.{Plain, Translator, PendState, translator, redistributor, is_on, pend_of, with_pend, no_translator}
use Rattle.its_plain.specs.Translation.{located, translated, ◌>>=◌, ensure}
use Rattle.its_plain.specs.declared.call.Call.{Call}
use Rattle.its_plain.specs.declared.call.Cause.{Cause}
use Rattle.its_plain.specs.declared.call.Cause.TheVariants.{LpisOff}
use Rattle.its_plain.specs.declared.call.Reply.{Reply}
use Rattle.its_plain.specs.declared.call.Reply.TheVariants as reply
use Rattle.its_plain.specs.declared.call.Signal.TheVariants.{Delivered, Dropped}
use Rattle.xlate_cache.specs.Pairs.{shard_number}
use Rattle.xlate_cache.specs.Ways.{entry, filled, found}
use Rattle.xlate_cache.specs.declared.entry.Entry.{Entry as Translation}
use Rattle.its_steps.specs.Calls.{staying, MayLeave, HitMayCommit, HitOffMayCommit, FillMayCommit, DropMayCommit, OffMayCommit}
use Rattle.its_steps.specs.Contents.{Maps, Shard, Pend, Held}
use Rattle.its_steps.specs.Good.{Holds, Apart}
use Rattle.its_steps.specs.MayCall.{MayCall, Covers, IsAnswered, MayFill, message_of, met}
use Rattle.its_steps.specs.Parts.{Setup, HasVcpus, translator_count, vcpu_count, stamp_of}
use Rattle.its_steps.specs.Renewal.{assembled, its_of, changed, renewal}
use Rattle.its_steps.specs.World.{out, word_after}
use Rattle.its_steps.specs.declared.change.ShardChange.TheVariants as change
use Rattle.its_steps.specs.declared.commit.Commit.{Commit}
use Rattle.its_steps.proofs.Calm.{calm_may}
use Rattle.its_steps.proofs.PutIn.{put_pend}
use Rattle.its_steps.proofs.Messages.{IsMessage, is_message}
use Rattle.its_types.specs.declared.machine.Part.{Part}

-- on to the target
abbrev sends : Bool → Result Target Cause → Result Target Cause
sends on x = x >>= (λ t. ensure on LpisOff >>= (λ _. Ok t))

-- what a delivery leaves pending
abbrev with_sent : Target → PendState → PendState
with_sent target p = record p { pending = with_lpi target.intid.0 p.pending }

module _ (s : Setup) (last : Word) (c : Call) (its : ℕ) (dev : DeviceId) (ev : EventId) (message : message_of c ≡ Some (its, (dev, ev))) (vcpus : HasVcpus s)
    (it : its < translator_count s) (room : last.place < s.limits.place_last) where
  abbrev is : IsMessage c its dev ev
  is = is_message c its dev ev message

  abbrev n : ℕ
  n = shard_number dev.0 ev.0 s.shards

  -- ---- what is pending at the target before other parts

  module _ (target : Target) (p : PendState) (st : target.vcpu.0 < vcpu_count s) (rest : List Held) where
    abbrev front : List Held
    front = out (part.Pend target.vcpu) (Pend p) ∷ rest

    abbrev sent : Reply
    sent = reply.Signal (Delivered target.vcpu target.intid)

    module _ (long : target.vcpu.0 < length (assembled s rest).redistributors) where
      pub here_pend : pend_of (redistributor (assembled s front) target.vcpu.0) ≡ p
      here_pend = put_pend (assembled s rest) target.vcpu.0 p long

      pub sent_pend : pend_of (redistributor (left (assembled s front) c sent) target.vcpu.0) ≡ with_sent target p
      sent_pend =
          let a : Plain = assembled s front in
          let still : target.vcpu.0 < length a.redistributors =
          omega (arith, long, length-set (assembled s rest).redistributors target.vcpu.0 (with_pend p (redistributor (assembled s rest) target.vcpu.0))) in
          ap (λ (z : Plain). pend_of (redistributor z target.vcpu.0)) (is.leaves a (Delivered target.vcpu target.intid))
          ∙ put_pend a target.vcpu.0 (with_sent target (pend_of (redistributor a target.vcpu.0))) still
          ∙ ap (with_sent target) here_pend

  -- ---- hits

  module _ (target : Target) (ways : List (Option Translation)) (p : PendState) (st : target.vcpu.0 < vcpu_count s) (sh : n < s.shards)
      (has : found ways dev.0 ev.0 (stamp_of s last its) ≡ Some target) where
    abbrev shard : List Held
    shard = out (part.Shard its n) (Shard ways) ∷ []

    abbrev two : List Held
    two = out (part.Pend target.vcpu) (Pend p) ∷ shard

    two_apart : Apart two
    two_apart = ((λ h. no_shard h), ((λ h. h), tt))
      where
        no_shard : Holds (part.Pend target.vcpu) shard → ⊥
        no_shard (inl e) = cc
        no_shard (inr h) = h

    hit_leaves : renewal s (staying last c (sent target p st shard) change.Keep) two ≡ out (part.Pend target.vcpu) (Pend (with_sent target p)) ∷ shard
    unfolding changed
    hit_leaves = λ d. out (part.Pend target.vcpu) (Pend (sent_pend target p st shard (omega (arith, st, vcpus)) d)) ∷ shard

    hit_may : p.accepts ≡ true → MayCall s (staying last c (sent target p st shard) change.Keep) two
    hit_may on = calm_may s last c (sent target p st shard) change.Keep two vcpus is.calm room two_apart (st, ((it, sh), tt)) (refl, (refl, tt))
        (inr record {
          its = its;
          dev = dev;
          ev = ev;
          target = target;
          message = message;
          ways = ways;
          owes = inr (inl (refl, refl));
          is_found = has;
          pend = p;
          target_owes = inl (refl, refl);
          reply_is = ap (λ (b : Bool). reply.Signal (met b target)) (sym on);
        }) tt

    abbrev dropped : Reply
    dropped = reply.Signal (Dropped LpisOff)

    hit_off_may : p.accepts ≡ false → MayCall s (staying last c dropped change.Keep) two
    hit_off_may off = calm_may s last c dropped change.Keep two vcpus is.calm room two_apart (st, ((it, sh), tt)) (refl, (refl, tt))
        (inr record {
          its = its;
          dev = dev;
          ev = ev;
          target = target;
          message = message;
          ways = ways;
          owes = inr (inl (refl, refl));
          is_found = has;
          pend = p;
          target_owes = inl (refl, refl);
          reply_is = ap (λ (b : Bool). reply.Signal (met b target)) (sym off);
        }) tt

    hit_off_leaves : renewal s (staying last c dropped change.Keep) two ≡ two
    unfolding changed
    hit_off_leaves =
        let a : Plain = assembled s two in
        let long : target.vcpu.0 < length (assembled s shard).redistributors = omega (arith, st, vcpus) in
        let same : left a c dropped ≡ a = is.leaves a (Dropped LpisOff) in
        λ d. out (part.Pend target.vcpu) (Pend ((ap (λ (y : Plain). pend_of (redistributor y target.vcpu.0)) same ∙ here_pend target p st shard long) d)) ∷ shard

  -- ---- by the maps

  module _ (t : Translator) where
    here_maps : get_or (set s.start.translators its t) its no_translator ≡ t
    here_maps = get_or-set_same s.start.translators its t no_translator it

    -- in a state that has these maps
    goes_where : (u : Plain) (x : Result Target Cause) → translator u its ≡ t → located t dev.0 ev.0 ≡ x → located (translator u its) dev.0 ev.0 ≡ x
    goes_where u x has e = ap (λ (y : Translator). located y dev.0 ev.0) has ∙ e

    goes_to : (u : Plain) (target : Target) (on : Bool) → translator u its ≡ t → located t dev.0 ev.0 ≡ Ok target → is_on u target.vcpu.0 ≡ on
        → translated u its dev.0 ev.0 ≡ sends on (Ok target)
    unfolding translated
    goes_to u target on has e on_is =
        ap (λ (x : Result Target Cause). x >>= (λ t. ensure (is_on u t.vcpu.0) LpisOff >>= (λ _. Ok t))) (goes_where u (Ok target) has e)
        ∙ ap (λ (b : Bool). sends b (Ok target)) on_is

    goes_nowhere : (u : Plain) (cause : Cause) → translator u its ≡ t → located t dev.0 ev.0 ≡ Err cause → translated u its dev.0 ev.0 ≡ Err cause
    unfolding translated
    goes_nowhere u cause has e = ap (λ (x : Result Target Cause). x >>= (λ t. ensure (is_on u t.vcpu.0) LpisOff >>= (λ _. Ok t)))
        (goes_where u (Err cause) has e)

    answers_as : (u : Plain) (x : Result Target Cause) → translated u its dev.0 ev.0 ≡ x → reply.Signal (signal_reply x) ≡ reply_of u c
    answers_as u x e = ap (λ (y : Result Target Cause). reply.Signal (signal_reply y)) (sym e) ∙ sym (is.replies u)

    covers_as : (u : Plain) (held : List Held) (x : Result Target Cause) → located (translator u its) dev.0 ev.0 ≡ x → Holds (part.Maps its) held
        → AllByRecursion (λ p. Holds p held) (pend_at (option_map (λ t. t.vcpu) (result_ok x))) → Covers u c held
    covers_as u held x e maps pends =
        subst (λ (ps : List Part). AllByRecursion (λ p. Holds p held) ps) (sym (is.parts u))
        (maps, subst (λ (y : Result Target Cause). AllByRecursion (λ p. Holds p held) (pend_at (option_map (λ t. t.vcpu) (result_ok y)))) (sym e) pends)

    abbrev maps : List Held
    maps = out (part.Maps its) (Maps t) ∷ []

    -- ---- dropped by the maps

    module _ (cause : Cause) (lost : located t dev.0 ev.0 ≡ Err cause) where
      drop_answered : IsAnswered (assembled s maps) c (reply.Signal (Dropped cause)) maps
      drop_answered = record {
        covers = covers_as (assembled s maps) maps (Err cause) (goes_where (assembled s maps) (Err cause) here_maps lost) (inl refl) tt;
        reply_is = answers_as (assembled s maps) (Err cause) (goes_nowhere (assembled s maps) cause here_maps lost);
      }

      drop_leaves : renewal s (staying last c (reply.Signal (Dropped cause)) change.Keep) maps ≡ maps
      drop_leaves = λ d. out (part.Maps its) (Maps ((ap (λ (z : Plain). translator z its) (is.leaves (assembled s maps) (Dropped cause)) ∙ here_maps) d)) ∷ []

      pub drop_may : MayLeave s (staying last c (reply.Signal (Dropped cause)) change.Keep) maps maps
      drop_may = (
        calm_may s last c (reply.Signal (Dropped cause)) change.Keep maps vcpus is.calm room ((λ h. h), tt) (it, tt) (refl, tt)
            (inl drop_answered) tt,
        drop_leaves,
      )

    -- ---- sent to a target

    module _ (target : Target) (p : PendState) (st : target.vcpu.0 < vcpu_count s) (goes : located t dev.0 ev.0 ≡ Ok target)
        (ways : List (Option Translation)) (sh : n < s.shards) where
      abbrev behind : List Held
      behind = out (part.Shard its n) (Shard ways) ∷ maps

      abbrev three : List Held
      three = out (part.Pend target.vcpu) (Pend p) ∷ behind

      abbrev a : Plain
      a = assembled s three

      long : target.vcpu.0 < length (assembled s behind).redistributors
      long = omega (arith, st, vcpus)

      three_apart : Apart three
      three_apart = ((λ h. no_pend h), ((λ h. no_shard h), ((λ h. h), tt)))
        where
          no_shard : Holds (part.Shard its n) maps → ⊥
          no_shard (inl e) = cc
          no_shard (inr h) = h

          no_pend : Holds (part.Pend target.vcpu) behind → ⊥
          no_pend (inl e) = cc
          no_pend (inr (inl e)) = cc
          no_pend (inr (inr h)) = h

      goes_on : (on : Bool) (x : Result Target Cause) → p.accepts ≡ on → sends on (Ok target) ≡ x → IsAnswered a c (reply.Signal (signal_reply x)) three
      goes_on on x e sent_as = record {
        covers = covers_as a three (Ok target) (goes_where a (Ok target) here_maps goes) (inr (inr (inl refl))) (inl refl, tt);
        reply_is = answers_as a x (goes_to a target on here_maps goes (ap (λ (y : PendState). y.accepts) (here_pend target p st behind long) ∙ e)
            ∙ sent_as);
      }

      off_leaves : renewal s (staying last c (reply.Signal (Dropped LpisOff)) change.Keep) three ≡ three
      unfolding changed
      off_leaves =
          let z : Plain = left a c (reply.Signal (Dropped LpisOff)) in
          let same : z ≡ a = is.leaves a (Dropped LpisOff) in
          λ d. out (part.Pend target.vcpu) (Pend ((ap (λ (y : Plain). pend_of (redistributor y target.vcpu.0)) same ∙ here_pend target p st behind long) d))
          ∷ out (part.Shard its n) (Shard ways) ∷ out (part.Maps its) (Maps ((ap (λ (y : Plain). translator y its) same ∙ here_maps) d)) ∷ []

      pub off_may : p.accepts ≡ false → MayLeave s (staying last c (reply.Signal (Dropped LpisOff)) change.Keep) three three
      off_may off = (
        calm_may s last c (reply.Signal (Dropped LpisOff)) change.Keep three vcpus is.calm room three_apart (st, ((it, sh), (it, tt)))
            (refl, (refl, (refl, tt))) (inl (goes_on false (Err LpisOff) off refl)) tt,
        off_leaves,
      )

      abbrev fill : Commit
      fill = staying last c (sent target p st behind) (change.Fill dev ev target)

      maps_after : translator (left a c (sent target p st behind)) its ≡ t
      maps_after = ap (λ (z : Plain). translator z its) (is.leaves a (Delivered target.vcpu target.intid)) ∙ here_maps

      may_fill : p.accepts ≡ true → MayFill s c (left a c (sent target p st behind)) three dev ev target
      may_fill on = record {
        maps = subst (λ (i : ℕ). Holds (part.Maps i) three) (sym is.its_is) (inr (inr (inl refl)));
        shard = subst (λ (i : ℕ). Holds (part.Shard i n) three) (sym is.its_is) (inr (inl refl));
        pend = inl refl;
        agrees = ap (λ (i : ℕ). translated (left a c (sent target p st behind)) i dev.0 ev.0) is.its_is
            ∙ goes_to (left a c (sent target p st behind)) target true maps_after goes
            (ap (λ (x : PendState). x.accepts) (sent_pend target p st behind long) ∙ on);
      }

      its_own : (eqb its (its_of c) && eqb n n) ≡ true
      its_own = ap (λ (b : Bool). b && eqb n n) (eq-eqb its (its_of c) (sym is.its_is)) ∙ eq-eqb n n refl

      abbrev full : List (Option Translation)
      full = filled ways (entry dev ev (stamp_of s last its) target)

      shard_after : changed s (word_after fill) c (change.Fill dev ev target) its n ways ≡ full
      unfolding changed
      shard_after = ap (λ (b : Bool). cond b full ways) its_own

      fill_leaves : renewal s fill three ≡ out (part.Pend target.vcpu) (Pend (with_sent target p)) ∷ out (part.Shard its n) (Shard full) ∷ maps
      fill_leaves = λ d. out (part.Pend target.vcpu) (Pend (sent_pend target p st behind long d)) ∷ out (part.Shard its n) (Shard (shard_after d)) ∷ out
          (part.Maps its) (Maps (maps_after d)) ∷ []

      pub fill_may : p.accepts ≡ true → MayCall s fill three
      fill_may on = calm_may s last c (sent target p st behind) (change.Fill dev ev target) three vcpus is.calm room three_apart (st, ((it, sh), (it, tt)))
          (refl, (refl, (refl, tt))) (inl (goes_on true (Ok target) on refl)) (may_fill on)

pub hits : HitMayCommit
hits s last c its dev ev target ways p message vcpus it st sh room has on =
    (hit_may s last c its dev ev message vcpus it room target ways p st sh has on, hit_leaves s last c its dev ev message vcpus it room target ways p st sh has)

pub hits_off : HitOffMayCommit
hits_off s last c its dev ev target ways p message vcpus it st sh room has off = (
  hit_off_may s last c its dev ev message vcpus it room target ways p st sh has off,
  hit_off_leaves s last c its dev ev message vcpus it room target ways p st sh has,
)

pub fills : FillMayCommit
fills s last c its dev ev target t ways p message vcpus it st sh room goes on =
    (fill_may s last c its dev ev message vcpus it room t target p st goes ways sh on, fill_leaves s last c its dev ev message vcpus it room t target p st goes ways sh)

pub drops : DropMayCommit
drops s last c its dev ev cause t message vcpus it room lost = drop_may s last c its dev ev message vcpus it room t cause lost

pub offs : OffMayCommit
offs s last c its dev ev target t ways p message vcpus it st sh room goes off = off_may s last c its dev ev message vcpus it room t target p st goes ways sh off
