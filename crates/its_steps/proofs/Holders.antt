-- A pass that holds the parts of a call may commit it.
use Rattle.std.proofs.Common.{ℕ, ◌<◌, ◌≤◌, List, length, Some, ap, sym, ◌∙◌, ⊎_elim, arith}
use Rattle.std.specs.List.{AllByRecursion}
use Rattle.std.proofs.lemmas.Option.{slice_get-get_or}
use Rattle.its_types.specs.declared.machine.Part.{Part}
use Rattle.its_types.specs.declared.machine.Part.TheVariants as part
use Rattle.its_types.specs.declared.machine.Word.{Word}
use Rattle.its_plain.specs.Answer.{left, answer}
use Rattle.its_plain.specs.Plain.{Plain, Translator, ConfState, PendState, no_translator, no_redistributor, conf_of, pend_of}
use Rattle.its_steps.specs.Parts.{Setup, Stands, IsOfMachine, translator_count, stamp_of, Right}
use Rattle.its_steps.specs.Contents.{Content, Maps, Mem, Shard, Conf, Pend, Held}
use Rattle.its_steps.specs.Good.{Holds}
use Rattle.its_steps.specs.MayCommit.{IsRight, Answers}
use Rattle.its_steps.specs.MayCall.{Owes, StampStays, StampRises, StampRenews, MayCall}
use Rattle.its_steps.specs.Laws.{HoldersMayCommit}
use Rattle.its_steps.specs.Renewal.{assembled, content_in, renewal}
use Rattle.its_steps.specs.World.{word_after}
use Rattle.its_steps.specs.declared.commit.Commit.{Commit}
use Rattle.its_steps.proofs.Caches.{d, m', vcpus, translator_held, conf_held, pend_held, cache_held, cache_other}
use Rattle.its_steps.proofs.Does.{Does}
use Rattle.its_steps.proofs.Lists.{seen_there}
use Rattle.its_steps.proofs.Owed.{owes_holds, same_renewed, all_renewed}

module _ (s : Setup) (a : Commit) (held : List Held) (may : MayCall s a held) (u : Plain) (m : IsOfMachine s u)
    (right : AllByRecursion (IsRight s a.expected u) held) where
  abbrev to : Word
  to = word_after a

  abbrev before : Plain
  before = left (assembled s held) a.call a.reply

  abbrev u' : Plain
  u' = (answer u a.call).1

  after_is : IsOfMachine s u'
  after_is = m' s a held may u m right

  does_so : Does s a held u
  does_so = d s a held may u m right

  owed_right : (p : Part) (x : Content) → Stands s p → Holds p held → Owes p x held → Right s a.expected u p x → Right s to u' p (content_in s a before p x)
  owed_right (part.Maps its) x st h o is =
      let inside : its < length u'.translators = omega (arith, st, after_is.translators) in
      slice_get-get_or u'.translators its no_translator inside ∙ ap (λ (t : Translator). Some t) (sym (translator_held s a held may u m right its h))
  owed_right part.Mem x st h o is = let same = does_so.held_same part.Mem h in (sym same.0, sym same.1)
  owed_right (part.Conf vcpu) x st h o is =
      let inside : vcpu.0 < length u'.redistributors = omega (arith, st, vcpus s a held may u m right u' after_is) in
      seen_there conf_of u'.redistributors vcpu.0 no_redistributor inside ∙ ap (λ (c : ConfState). Some c) (sym (conf_held s a held may u m right vcpu.0 h))
  owed_right (part.Pend vcpu) x st h o is =
      let inside : vcpu.0 < length u'.redistributors = omega (arith, st, vcpus s a held may u m right u' after_is) in
      seen_there pend_of u'.redistributors vcpu.0 no_redistributor inside ∙ ap (λ (q : PendState). Some q) (sym (pend_held s a held may u m right vcpu.0 h))
  owed_right (part.Shard its n) (Shard ways) st h o is = cache_held s a held may u m right its n ways st.0 o is
  owed_right (part.Shard its n) x st h o is = absurd is

  other_right : (p : Part) (x : Content) → Stands s p → ¬ Holds p held → Right s a.expected u p x → Right s to u' p x
  other_right (part.Maps its) (Maps x) st n is = sym (does_so.others_same (part.Maps its) n) ∙ is
  other_right part.Mem (Mem x y) st n is = let same = does_so.others_same part.Mem n in (sym same.0 ∙ is.0, sym same.1 ∙ is.1)
  other_right (part.Shard its k) (Shard ways) st n is = cache_other s a held may u m right its k ways st.0 st.1 n is
  other_right (part.Conf vcpu) (Conf x) st n is = sym (does_so.others_same (part.Conf vcpu) n) ∙ is
  other_right (part.Pend vcpu) (Pend x) st n is = sym (does_so.others_same (part.Pend vcpu) n) ∙ is
  other_right p x st n is = absurd is

  answers : Answers s a held (renewal s a held) u
  answers = record {
    reply_is = does_so.reply_is;
    new = all_renewed s a before a.expected u u' held (λ p x st o is. owed_right p x st (owes_holds p x held o) o is) may.stands right;
    others = λ p x st n is. other_right p x st n is;
  }

most : (s : Setup) (a : Commit) (held : List Held) (may : MayCall s a held) (its : ℕ) → its < translator_count s
    → stamp_of s a.expected its ≤ s.limits.stamp_last → stamp_of s (word_after a) its ≤ s.limits.stamp_last
most s a held may its lt le = ⊎_elim
    (λ (t : StampStays s a its held (renewal s a held)). omega (arith, t.same, le))
    (λ rest. ⊎_elim (λ (t : StampRises s a its held). t.most) (λ (t : StampRenews s a its held (renewal s a held)). omega (arith, t.zero)) rest)
    (may.stamps its lt)

pub holders : HoldersMayCommit
holders s a held may = record {
  room = may.room;
  stamps = most s a held may;
  out = may.out;
  same = same_renewed s a (left (assembled s held) a.call a.reply)
      held may.out;
  answers = λ u m right. answers s a held may u m right;
}
