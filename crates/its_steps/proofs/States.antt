-- What may be committed in a state of the machine that has what is held.
use Rattle.std.proofs.Common.{◌≡◌, ℕ, List, [], ◌∷◌, Ok, refl, ap, sym, ◌∙◌, subst, inl, inr, ⊎_elim}
use Rattle.its_types.specs.declared.machine.Part.{Part}
use Rattle.its_types.specs.declared.machine.Part.TheVariants as part
use Rattle.its_plain.specs.Answer.{left}
use Rattle.its_plain.specs.Parts.{SamePart}
use Rattle.its_plain.specs.Plain.{Plain, Translator, ConfState, PendState, no_translator, no_redistributor, conf_of, pend_of}
use Rattle.its_plain.specs.Translation.{located}
use Rattle.plain_footprint.proofs.Listed.{same_or, seen_or}
use Rattle.its_steps.specs.Contents.{Content, Maps, Mem, Shard, Conf, Pend, Held}
use Rattle.its_steps.specs.Good.{Holds}
use Rattle.its_steps.specs.MayCall.{IsAnswered, IsHit, MayChange, MayStamp, MayCallIn}
use Rattle.its_steps.specs.Parts.{Setup, HasAll, IsOfMachine}
use Rattle.its_steps.specs.Renewal.{assembled, content_in, renewed, renewal, renewal_in, its_of}
use Rattle.its_steps.specs.States.{StateMayCommit}
use Rattle.its_steps.specs.declared.change.ShardChange.{ShardChange}
use Rattle.its_steps.specs.declared.change.ShardChange.TheVariants as change
use Rattle.its_steps.specs.declared.commit.Commit.{Commit}
use Rattle.its_steps.proofs.Alike.{same_reply, covers_there, left_same}
use Rattle.its_steps.proofs.Assembled.{same_back, machine_sized, machine_vcpus, is_assembled, agree_held}
use Rattle.its_steps.proofs.Translations.{translated_is, translated_from}

-- where a call leaves the same in the parts held, they owe the same
content_as : (s : Setup) (a : Commit) (z z' : Plain) (p : Part) (x : Content) → SamePart z z' p → content_in s a z p x ≡ content_in s a z' p x
content_as s a z z' (part.Maps its) x e = ap (λ (t : Translator). Maps t) (same_or z.translators z'.translators its no_translator e)
content_as s a z z' part.Mem x e = λ d. Mem (e.0 d) (e.1 d)
content_as s a z z' (part.Conf vcpu) x e = ap (λ (c : ConfState). Conf c) (seen_or conf_of z.redistributors z'.redistributors vcpu.0 no_redistributor e)
content_as s a z z' (part.Pend vcpu) x e = ap (λ (q : PendState). Pend q) (seen_or pend_of z.redistributors z'.redistributors vcpu.0 no_redistributor e)
content_as s a z z' (part.Shard its n) (Shard ways) e = refl
content_as s a z z' (part.Shard its n) x e = refl

renewed_as : (s : Setup) (a : Commit) (z z' : Plain) (held : List Held) → ((p : Part) → Holds p held → SamePart z z' p)
    → renewed s a z held ≡ renewed s a z' held
renewed_as s a z z' [] same = refl
renewed_as s a z z' (x ∷ xs) same = λ d. record x { owed = content_as s a z z' x.part x.owed (same x.part (inl refl)) d } ∷ renewed_as s a z z' xs
    (λ p h. same p (inr h)) d

module _ (s : Setup) (u : Plain) (a : Commit) (held : List Held) (m : IsOfMachine s u) (has : HasAll u held) (may : MayCallIn s u a held) where
  abbrev b : Plain
  b = assembled s held

  abbrev z : Plain
  z = left u a.call a.reply

  abbrev z' : Plain
  z' = left b a.call a.reply

  agree : (p : Part) → Holds p held → SamePart u b p
  agree p h = same_back b u p (agree_held s (machine_vcpus s u m) u held may.apart may.stands has p h)

  same : (p : Part) → Holds p held → SamePart z z' p
  same = left_same s (machine_vcpus s u m) held may.stands u b (machine_sized s u m) (is_assembled s held) agree a may.answered

  pub owed_same : renewal_in s u a held ≡ renewal s a held
  owed_same = renewed_as s a z z' held same

  changes : (ch : ShardChange) → MayChange s a.call ch z held → MayChange s a.call ch z' held
  changes (change.Fill dev ev target) f =
      let i : ℕ = its_of a.call in
      let t = translated_is z i dev.0 ev.0 target f.agrees in
      record {
        maps = f.maps;
        shard = f.shard;
        pend = f.pend;
        agrees = translated_from z' i dev.0 ev.0 target
            (subst (λ (x : Translator). located x dev.0 ev.0 ≡ Ok target) (same_or z.translators z'.translators i no_translator (same (part.Maps i) f.maps))
            t.0)
            (ap (λ (q : PendState). q.accepts)
            (sym (seen_or pend_of z.redistributors z'.redistributors target.vcpu.0 no_redistributor (same (part.Pend target.vcpu) f.pend))) ∙ t.1);
      }
  changes (change.Drop dev ev) f = f
  changes ch f = tt

  pub may_there : MayCallIn s b a held
  may_there = record {
    room = may.room;
    stands = may.stands;
    apart = may.apart;
    out = may.out;
    answered = ⊎_elim
        (λ (t : IsAnswered u a.call a.reply held). let v = machine_vcpus s u m in inl record {
          covers = covers_there s v held may.stands u b (machine_sized s u m) (is_assembled s held) agree a.call t.covers;
          reply_is = t.reply_is ∙ same_reply s v held may.stands u b (machine_sized s u m) (is_assembled s held) agree a.call t.covers;
        })
        (λ (t : IsHit s a held). inr t) may.answered;
    may_change = changes a.change may.may_change;
    stamps = λ its lt. subst (λ (owed : List Held). MayStamp s a held owed its) owed_same (may.stamps its lt);
  }

pub states : StateMayCommit
states s u a held m has may = (may_there s u a held m has may, sym (owed_same s u a held m has may))
