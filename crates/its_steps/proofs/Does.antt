-- What a call does to the machine, where a pass may commit it.
use Rattle.std.proofs.Common.{◌≡◌, ◌⊎◌, ℕ, Bool, true, false, List, [], ◌∷◌, Ok, Result, refl, ap, sym, ◌∙◌, subst, ⊎_elim}
use Rattle.std.specs.List.{AllByRecursion}
use Rattle.its_types.specs.declared.machine.Part.{Part}
use Rattle.its_types.specs.declared.machine.Part.TheVariants as part
use Rattle.its_types.specs.declared.machine.Word.{Word}
use Rattle.its_types.specs.declared.ids.Target.{Target}
use Rattle.its_plain.specs.Answer.{answer, left, reply_of, signal_reply}
use Rattle.its_plain.specs.Parts.{SamePart}
use Rattle.its_plain.specs.Plain.{Plain, PendState, pend_of, translator, no_redistributor, is_on}
use Rattle.its_plain.specs.Translation.{located, translated}
use Rattle.its_plain.specs.declared.call.Cause.{Cause}
use Rattle.its_plain.specs.declared.call.Reply.{Reply}
use Rattle.its_plain.specs.declared.call.Reply.TheVariants as reply
use Rattle.its_plain.specs.declared.call.Signal.{Signal}
use Rattle.xlate_cache.specs.Pairs.{shard_number}
use Rattle.xlate_cache.specs.Ways.{entry}
use Rattle.its_steps.specs.Contents.{Content, Shard, Pend, Held}
use Rattle.its_steps.specs.Good.{Holds, Apart}
use Rattle.its_steps.specs.MayCall.{Owes, IsAnswered, IsHit, met}
use Rattle.its_steps.specs.MayCommit.{IsRight}
use Rattle.its_steps.specs.Parts.{Setup, Stands, IsOfMachine, Right, stamp_of}
use Rattle.its_steps.specs.Renewal.{assembled}
use Rattle.its_steps.specs.declared.commit.Commit.{Commit}
use Rattle.its_steps.proofs.Messages.{is_message}
use Rattle.its_steps.proofs.Alike.{hit_leaves, met_others, same_reply, others_same, left_same}
use Rattle.its_steps.proofs.Assembled.{machine_sized, machine_vcpus, is_assembled, agree_held, right_had}
use Rattle.its_steps.proofs.Found.{found_at}
use Rattle.its_steps.proofs.Lists.{seen_at}
use Rattle.its_steps.proofs.Owed.{owes_holds}
use Rattle.its_steps.proofs.Translations.{reached}

-- what is owed is right
pub owes_right : (s : Setup) (word : Word) (u : Plain) (p : Part) (c : Content) (held : List Held) → Owes p c held → AllByRecursion (IsRight s word u) held
    → Right s word u p c
owes_right s word u p c [] o right = absurd o
owes_right s word u p c (x ∷ xs) o right = ⊎_elim
    (λ (e : (x.part ≡ p) × (x.owed ≡ c)). subst (λ (q : Part). Right s word u q c) e.0 (subst (λ (d : Content). Right s word u x.part d) e.1 right.0))
    (λ (t : Owes p c xs). owes_right s word u p c xs t right.1) o

-- On the parts held the call leaves what it leaves of the state that they stand for, and it changes no other
pub record Does (s : Setup) (a : Commit) (held : List Held) (u : Plain) : Type 0 where
  pub reply_is : a.reply ≡ reply_of u a.call
  pub held_same : (p : Part) → Holds p held → SamePart (left (assembled s held) a.call a.reply) (answer u a.call).1 p
  pub others_same : (p : Part) → ¬ Holds p held → SamePart u (answer u a.call).1 p

module _ (s : Setup) (a : Commit) (held : List Held) (stands : AllByRecursion (λ x. Stands s x.part) held) (apart : Apart held) (u : Plain)
    (m : IsOfMachine s u) (right : AllByRecursion (IsRight s a.expected u) held) where
  abbrev b : Plain
  b = assembled s held

  agree : (p : Part) → Holds p held → SamePart b u p
  agree = agree_held s (machine_vcpus s u m) u held apart stands (right_had s a.expected u held right)

  met_as : (on : Bool) (target : Target) → signal_reply (reached (Ok target) (λ _. on)) ≡ met on target
  met_as true target = refl
  met_as false target = refl

  -- the translation found is current, so it is where the maps send the pair; and what is pending at the target says whether its LPIs are on
  hit_is : (hit : IsHit s a held) → signal_reply (translated u hit.its hit.dev.0 hit.ev.0) ≡ met hit.pend.accepts hit.target
  unfolding translated
  hit_is hit =
      let stamp : ℕ = stamp_of s a.expected hit.its in
      let at = found_at hit.dev hit.ev stamp hit.target hit.ways hit.is_found in
      let sent : located (translator u hit.its) hit.dev.0 hit.ev.0 ≡ Ok hit.target =
      ((owes_right s a.expected u (part.Shard hit.its (shard_number hit.dev.0 hit.ev.0 s.shards)) (Shard hit.ways) held hit.owes right).entries at.0
      (entry hit.dev hit.ev stamp hit.target) at.1).current refl in
      let has = owes_right s a.expected u (part.Pend hit.target.vcpu) (Pend hit.pend) held hit.target_owes right in
      let on : is_on u hit.target.vcpu.0 ≡ hit.pend.accepts =
      ap (λ (p : PendState). p.accepts) (seen_at pend_of u.redistributors hit.target.vcpu.0 no_redistributor hit.pend has) in
      ap (λ (x : Result Target Cause). signal_reply (reached x (λ t. is_on u t.vcpu.0))) sent
      ∙ ap (λ (b : Bool). signal_reply (reached (Ok hit.target) (λ _. b))) on ∙ met_as hit.pend.accepts hit.target

  replied : IsAnswered b a.call a.reply held ⊎ IsHit s a held → a.reply ≡ reply_of u a.call
  unfolding reply_of
  replied one = ⊎_elim
      (λ (t : IsAnswered b a.call a.reply held). t.reply_is ∙ same_reply s (machine_vcpus s u m) held stands b u (is_assembled s held)
      (machine_sized s u m) agree a.call t.covers)
      (λ (t : IsHit s a held). t.reply_is ∙ (ap (λ (r : Signal). reply.Signal r) (sym (hit_is t))
      ∙ sym ((is_message a.call t.its t.dev t.ev t.message).replies u))) one

  others : IsAnswered b a.call a.reply held ⊎ IsHit s a held → (p : Part) → ¬ Holds p held → SamePart u (answer u a.call).1 p
  others one p lacks = ⊎_elim
      (λ (t : IsAnswered b a.call a.reply held). others_same s (machine_vcpus s u m) held stands b u (is_assembled s held) (machine_sized s u m) agree a.call
      t.covers p lacks)
      (λ (t : IsHit s a held).
      subst (λ (z : Plain). SamePart u z p) (hit_leaves s a held t u ∙ ap (left u a.call) (replied one))
      (met_others s (machine_vcpus s u m) held stands b u (is_assembled s held) (machine_sized s u m) agree t.target
      (owes_holds (part.Pend t.target.vcpu) (Pend t.pend) held t.target_owes) t.pend.accepts p lacks)) one

  pub does : IsAnswered b a.call a.reply held ⊎ IsHit s a held → Does s a held u
  does one = record {
    reply_is = replied one;
    held_same = λ p owns. subst (λ (r : Reply). SamePart (left b a.call a.reply) (left u a.call r) p) (replied one)
        (left_same s (machine_vcpus s u m) held stands b u (is_assembled s held) (machine_sized s u m) agree a one p owns);
    others_same = others one;
  }
