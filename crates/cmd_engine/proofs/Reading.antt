-- What is in hand, in the state that was read with the word.
use Rattle.std.proofs.Common.{◌≡◌, ℕ, List, [], ◌∷◌, refl, ap, ◌∙◌, subst}
use Rattle.std.specs.List.{AllByRecursion}
use Rattle.std.proofs.lemmas.Option.{get_or_from_slice_get}
use Rattle.its_types.specs.declared.machine.Part.{Part}
use Rattle.its_types.specs.declared.machine.Part.TheVariants as part
use Rattle.its_types.specs.declared.machine.Word.{Word}
use Rattle.its_plain.specs.History.{after}
use Rattle.its_plain.specs.Plain.{Plain, Translator, ConfState, PendState, conf_of, pend_of, no_translator, no_redistributor}
use Rattle.cmd_exec.proofs.Places.{viewed}
use Rattle.its_plain.specs.declared.call.Call.{Call}
use Rattle.its_plain.specs.declared.call.Reply.{Reply}
use Rattle.its_steps.specs.Contents.{Content, Maps, Mem, Shard, Conf, Pend, Held}
use Rattle.its_steps.specs.MayCommit.{IsRight}
use Rattle.its_steps.specs.Parts.{Setup, IsOfMachine, Right}
use Rattle.its_steps.specs.Renewal.{renewed, renewal, changed, content_in}
use Rattle.its_steps.specs.World.{View, word_after}
use Rattle.its_steps.specs.declared.change.ShardChange.TheVariants as change
use Rattle.its_steps.specs.declared.commit.Commit.{Commit}
use Rattle.its_turns.specs.Machines.{AreWithin}
use Rattle.its_turns.specs.Told.{Looks, Commits}
use Rattle.its_turns.proofs.Telling.{looked_held}
use Rattle.cmd_engine.specs.Cached.{commit_of, mark_of}
use Rattle.cmd_engine.specs.Hands.{HasInHand}
use Rattle.cmd_engine.specs.declared.hands.Hands.{Hands}

-- it is in hand still
pub still_in_hand : (s : Setup) (v w : View) (h : Hands) → HasInHand s v h → w.held ≡ v.held → HasInHand s w h
still_in_hand s v w h has same = record { held = same ∙ has.held; its = has.its; whole = has.whole; confs = has.confs; pends = has.pends; room = has.room }

-- what is owed after a commit
pub owed_after : (s : Setup) (x z : View) (a : Commit) (held : List Held) → x.setup ≡ s → x.held ≡ held → Commits x a z → z.held ≡ renewal s a held
owed_after s x z a held own has commits = ap (λ (k : View). k.held) commits.view ∙ (λ d. renewal (own d) a (has d))

-- the stamps of a word that was read are within
pub read_within : (s : Setup) (v x : View) (w : Word) → v.setup ≡ s → Looks v w x → AreWithin s w
read_within s v x w own looks = subst (λ (z : Setup). AreWithin z w) own looks.within.stamps

module _ (s : Setup) (v x : View) (w : Word) (held : List Held) (own : v.setup ≡ s) (has : v.held ≡ held) (looks : Looks v w x) where
  abbrev pub state : Plain
  state = after v.setup.start x.seen

  pub state_machine : IsOfMachine s state
  state_machine = subst (λ (z : Setup). IsOfMachine z state) own looks.machine

  pub state_right : AllByRecursion (IsRight s w state) held
  state_right = subst (λ (z : Setup). AllByRecursion (IsRight z w state) held) own
      (subst (λ (l : List Held). AllByRecursion (IsRight v.setup w state) l) has looks.right)

  pub read_held : x.held ≡ held
  read_held = looked_held v x w looks ∙ has

  pub read_setup : x.setup ≡ s
  read_setup = ap (λ (k : View). k.setup) looks.same ∙ own

-- ---- where the call leaves the state as it was, what is held is as it was

module _ (s : Setup) (w : Word) (u : Plain) (c : Call) (r : Reply) where
  abbrev a : Commit
  a = commit_of w (mark_of w.stamp change.Keep) c r

  shard_same : (i n : ℕ) (ways : _) → changed s (word_after a) c change.Keep i n ways ≡ ways
  unfolding changed
  shard_same i n ways = refl

  content_same : (p : Part) (x : Content) → Right s w u p x → content_in s a u p x ≡ x
  content_same (part.Maps i) (Maps t) is = ap (λ (y : Translator). Maps y) (get_or_from_slice_get u.translators i t no_translator is)
  content_same (part.Maps i) (Mem memory track) is = absurd is
  content_same (part.Maps i) (Shard ways) is = absurd is
  content_same (part.Maps i) (Conf q) is = absurd is
  content_same (part.Maps i) (Pend q) is = absurd is
  content_same part.Mem (Mem memory track) is = λ d. Mem (is.0 d) (is.1 d)
  content_same part.Mem (Maps t) is = absurd is
  content_same part.Mem (Shard ways) is = absurd is
  content_same part.Mem (Conf q) is = absurd is
  content_same part.Mem (Pend q) is = absurd is
  content_same (part.Shard i n) (Shard ways) is = ap (λ l. Shard l) (shard_same i n ways)
  content_same (part.Shard i n) (Maps t) is = absurd is
  content_same (part.Shard i n) (Mem memory track) is = absurd is
  content_same (part.Shard i n) (Conf q) is = absurd is
  content_same (part.Shard i n) (Pend q) is = absurd is
  content_same (part.Conf vcpu) (Conf q) is = ap (λ (y : ConfState). Conf y) (viewed conf_of u.redistributors vcpu.0 no_redistributor q is)
  content_same (part.Conf vcpu) (Maps t) is = absurd is
  content_same (part.Conf vcpu) (Mem memory track) is = absurd is
  content_same (part.Conf vcpu) (Shard ways) is = absurd is
  content_same (part.Conf vcpu) (Pend q) is = absurd is
  content_same (part.Pend vcpu) (Pend q) is = ap (λ (y : PendState). Pend y) (viewed pend_of u.redistributors vcpu.0 no_redistributor q is)
  content_same (part.Pend vcpu) (Maps t) is = absurd is
  content_same (part.Pend vcpu) (Mem memory track) is = absurd is
  content_same (part.Pend vcpu) (Shard ways) is = absurd is
  content_same (part.Pend vcpu) (Conf q) is = absurd is

  pub renewed_same : (held : List Held) → AllByRecursion (IsRight s w u) held → renewed s a u held ≡ held
  renewed_same [] all = refl
  renewed_same (x ∷ xs) all =
      let here = content_same x.part x.owed all.0 in let others = renewed_same xs all.1 in λ d. record x { owed = here d } ∷ others d
