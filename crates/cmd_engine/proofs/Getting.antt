-- How a call gets what it has in hand.
use Rattle.std.proofs.Common.{◌≡◌, ◌<◌, ◌&&◌, ℕ, Bool, false, nat_lt, List, [], ◌∷◌, Option, Some, None, refl, ap, sym, ◌∙◌, subst}
use Rattle.std.specs.Prelude.{Box, is_some}
use Rattle.std.specs.Global.{Global}
use Rattle.its_types.specs.declared.machine.Part.{Part}
use Rattle.its_types.specs.declared.machine.Part.TheVariants as part
use Rattle.its_types.specs.declared.machine.Shape.{Shape}
use Rattle.its_types.specs.declared.machine.Word.{Word}
use Rattle.its_plain.specs.declared.layout.Layout.{Layout}
use Rattle.lpi_pending.specs.InHand.{RedistParts, AreEmpty, HasLpisOfConf, HasLpisOfPend}
use Rattle.cmd_exec.specs.declared.needed.Needed.{Needed}
use Rattle.owned_parts.specs.Owned.{translator_of}
use Rattle.owned_parts.specs.RedistSets.{is_in}
use Rattle.owned_parts.specs.declared.redist_set.RedistSet.{RedistSet}
use Rattle.owned_parts.specs.declared.parts.Translator.{Translator as InHand}
use Rattle.cmd_exec.specs.Needs.{AreTargets}
use Rattle.its_steps.specs.Contents.{Content, Maps, Held}
use Rattle.its_steps.specs.Parts.{Setup, translator_count, vcpu_count, stamp_of}
use Rattle.its_steps.specs.World.{View, out}
use Rattle.its_turns.specs.Told.{HasStood, Looks}
use Rattle.its_turns.specs.declared.value.GuestMemory.{GuestMemory}
use Rattle.held_parts.specs.Redists.{AreNone, AreWanted, AreNoConfs, AreNoPends, AreConfsOfSet, ArePendsOfSet}
use Rattle.held_parts.specs.Redists.{AreBeforeConfs, AreBeforePends, IsConfIn, IsPendIn}
use Rattle.held_parts.specs.Shards.{AreBeforeShards, IsShardOf}
use Rattle.held_parts.specs.Taking.{TakesInTime, TakesOnly, Goes}
use Rattle.held_parts.proofs.Going.{takes_wider, takes_one, going_first, going_takes, going_looked, goes_wider}
use Rattle.cmd_engine.specs.Cached.{cached_held, AreWhole}
use Rattle.cmd_engine.specs.Hands.{Memory, redists_of, with_redists, redists_held, memory_held, base_held}
use Rattle.cmd_engine.specs.Hands.{HavePlaces, HasRoom, IsVacant, HasInHand, IsBase, IsOfTranslator, IsOfStep}
use mathlib.Core.List.{IsPrefix}
use Rattle.its_steps.proofs.Lists.{prefix_self}
use Rattle.cmd_engine.specs.Telling.{ReadLow}
use Rattle.cmd_engine.specs.declared.cached.Cached.{Cached}
use Rattle.cmd_engine.specs.declared.cached.Cached.TheVariants as cached
use Rattle.cmd_engine.specs.declared.hands.Hands.{Hands}
use Rattle.cmd_engine.proofs.Held.{base_before_confs, base_before_pends, base_before_shards, cached_before_confs, cached_before_pends, none_held}

-- ---- whose turns are got

pub shard_is_own : (its : ℕ) (p : Part) → IsShardOf its p → IsOfTranslator its p
shard_is_own its (part.Shard i n) is = is
shard_is_own its (part.Maps i) is = absurd is
shard_is_own its part.Mem is = absurd is
shard_is_own its (part.Conf v) is = absurd is
shard_is_own its (part.Pend v) is = absurd is

pub own_of_step : (its : ℕ) (p : Part) → IsOfTranslator its p → IsOfStep its p
own_of_step its (part.Shard i n) is = is
own_of_step its (part.Maps i) is = is
own_of_step its part.Mem is = absurd is
own_of_step its (part.Conf v) is = absurd is
own_of_step its (part.Pend v) is = absurd is

pub conf_of_step : (its : ℕ) (set : RedistSet) (p : Part) → IsConfIn set p → IsOfStep its p
conf_of_step its set (part.Conf v) is = tt
conf_of_step its set (part.Pend v) is = absurd is
conf_of_step its set (part.Maps i) is = absurd is
conf_of_step its set part.Mem is = absurd is
conf_of_step its set (part.Shard i n) is = absurd is

pub pend_of_step : (its : ℕ) (set : RedistSet) (p : Part) → IsPendIn set p → IsOfStep its p
pend_of_step its set (part.Pend v) is = tt
pend_of_step its set (part.Conf v) is = absurd is
pend_of_step its set (part.Maps i) is = absurd is
pend_of_step its set part.Mem is = absurd is
pend_of_step its set (part.Shard i n) is = absurd is

pub goes_one : (P : Part → Type 0) (v x : View) (p : Part) (c : Content) → P p → TakesInTime v p c x → Goes P v x
goes_one P v x p c is t = going_takes P v v x (going_first P v) (takes_one P v x p c is t)

pub goes_shards : (its : ℕ) (v x y : View) (w : Word) → Looks v w x → TakesOnly (IsShardOf its) x y → Goes (IsOfTranslator its) v y
goes_shards its v x y w looks takes = going_takes (IsOfTranslator its) v x y
    (going_looked (IsOfTranslator its) v v x w (going_first (IsOfTranslator its) v) looks)
    (takes_wider (IsShardOf its) (IsOfTranslator its) (shard_is_own its) x y takes)

-- first shards, then parts of redistributors
pub goes_needed : (its : ℕ) (v x y : View) → Goes (IsOfTranslator its) v x → TakesOnly (IsOfStep its) x y → Goes (IsOfStep its) v y
goes_needed its v x y goes takes =
    going_takes (IsOfStep its) v x y (goes_wider (IsOfTranslator its) (IsOfStep its) (own_of_step its) v x goes) takes

-- ---- what is in hand

no_set : {T : Type 0} (has_lpis : T → Type 0) (s : Setup) (set : RedistSet) (places : List (Option T)) → ((v : ℕ) → is_in set v ≡ false) → AreNone places
    → AreWanted T has_lpis s set places
no_set {T} has_lpis s set places none lack = record {
  hand = λ v. ap (λ (o : Option T). is_some o) (lack v) ∙ sym (ap (λ (b : Bool). b && nat_lt v (vcpu_count s)) (none v));
  lpis = λ v x is. absurd (no_some x (sym (lack v) ∙ is));
}
  where
    no_some : (x : T) → None ≡ Some x → ⊥
    no_some x e = cc

-- the places of memory are empty
vacant_confs : (s : Setup) (m : Memory) → IsVacant s m → AreNoConfs (redists_of m)
vacant_confs s None vacant = λ v. refl
vacant_confs s (Some b) vacant = vacant.confs

vacant_pends : (s : Setup) (m : Memory) → IsVacant s m → AreNoPends (redists_of m)
vacant_pends s None vacant = λ v. refl
vacant_pends s (Some b) vacant = vacant.pends

vacant_room : (s : Setup) (m : Memory) → IsVacant s m → HasRoom s m
vacant_room s None vacant = tt
vacant_room s (Some b) vacant = (vacant.conf_room, vacant.pend_room)

-- so with memory alone nothing of a redistributor is in hand
pub base_of : (s : Setup) (h : Hands) (b : Box GuestMemory Global) → h.memory ≡ Some b → h.cached ≡ cached.Nothing → AreEmpty (vcpu_count s) b.value.redists
    → IsBase h
base_of s h b is no_shard empty =
    let here : IsVacant s h.memory = subst (IsVacant s) (sym is) empty in
    record {
      memory = ap (λ (m : Memory). is_some m) is;
      bare = record { cached_is = no_shard; confs = vacant_confs s h.memory here; pends = vacant_pends s h.memory here };
    }

-- the translator's maps, maybe memory, and some of its shards
pub own_in_hand : (s : Setup) (x : View) (h : Hands) (its : ℕ) (t : Box InHand Global) (m : Memory) (c : Cached) → h.its ≡ its → h.translator ≡ t
    → h.memory ≡ m → h.cached ≡ c → IsVacant s m → ((v : ℕ) → is_in h.needed.confs v ≡ false) → ((v : ℕ) → is_in h.needed.pends v ≡ false)
    → its < translator_count s → AreWhole s its c
    → x.held ≡ cached_held its s.shards c (memory_held m (out (part.Maps its) (Maps (translator_of t.value)) ∷ [])) → HasInHand s x h
own_in_hand s x h its t m c its_is t_is m_is c_is vacant no_conf no_pend lt whole held = record {
  held = held
      ∙ ((λ d. cached_held (sym its_is d) s.shards (sym c_is d) (memory_held (sym m_is d)
      (out (part.Maps (sym its_is d)) (Maps (translator_of (sym t_is d).value)) ∷ [])))
      ∙ sym (none_held (vcpu_count s) (redists_of h.memory) (cached_held h.its s.shards h.cached (base_held h)) (vacant_confs s h.memory here)
      (vacant_pends s h.memory here)));
  its = subst (λ (n : ℕ). n < translator_count s) (sym its_is) lt;
  whole = subst (λ (p : ℕ × Cached). AreWhole s p.0 p.1) (λ d. (sym its_is d, sym c_is d)) whole;
  confs = no_set (HasLpisOfConf s.start.layout.shape) s h.needed.confs (redists_of h.memory).confs no_conf (vacant_confs s h.memory here);
  pends = no_set (HasLpisOfPend s.start.layout.shape) s h.needed.pends (redists_of h.memory).pends no_pend (vacant_pends s h.memory here);
  room = vacant_room s h.memory here;
}
  where
    here : IsVacant s h.memory
    here = subst (IsVacant s) (sym m_is) vacant

-- ---- what a command needs is taken

module _ (s : Setup) (v : View) (h : Hands) (has : HasInHand s v h) (base : IsBase h) where
  -- only maps and memory are held
  pub base_only : v.held ≡ base_held h
  base_only = has.held ∙ (none_held (vcpu_count s) (redists_of h.memory) (cached_held h.its s.shards h.cached (base_held h)) base.bare.confs base.bare.pends
      ∙ ap (λ (c : Cached). cached_held h.its s.shards c (base_held h)) base.bare.cached_is)

  pub base_order : AreBeforeShards h.its v.held
  base_order = subst (AreBeforeShards h.its) (sym base_only) (base_before_shards h.its h.its (translator_of h.translator.value) h.memory)

  -- and shards of the translator, and then configurations
  pub confs_order : (x : View) (c : Cached) → x.held ≡ cached_held h.its s.shards c v.held → AreBeforeConfs x.held
  confs_order x c held = subst AreBeforeConfs (sym (held ∙ ap (cached_held h.its s.shards c) base_only))
      (cached_before_confs h.its s.shards c (base_held h) (base_before_confs h.its (translator_of h.translator.value) h.memory))

  pub pends_order : (x : View) (c : Cached) → x.held ≡ cached_held h.its s.shards c v.held → AreBeforePends x.held
  pends_order x c held = subst AreBeforePends (sym (held ∙ ap (cached_held h.its s.shards c) base_only))
      (cached_before_pends h.its s.shards c (base_held h) (base_before_pends h.its (translator_of h.translator.value) h.memory))

  -- the places of memory before anything is taken
  module _ (b : Box GuestMemory Global) (mem : h.memory ≡ Some b) where
    pub base_confs : AreNoConfs b.value.redists
    base_confs = subst (λ (m : Memory). AreNoConfs (redists_of m)) mem base.bare.confs

    pub base_pends : AreNoPends b.value.redists
    base_pends = subst (λ (m : Memory). AreNoPends (redists_of m)) mem base.bare.pends

    pub base_room : HavePlaces s b.value.redists
    base_room = subst (HasRoom s) mem has.room

  -- what stands in the places of memory isn't told of it
  same_held : (m : Memory) (redists : RedistParts) (others : List Held) → memory_held (with_redists m redists) others ≡ memory_held m others
  same_held None redists others = refl
  same_held (Some b) redists others = refl

  pub needed_in_hand : (x z : View) (c : Cached) (n : Needed) (m : Memory) → x.held ≡ cached_held h.its s.shards c v.held → AreWhole s h.its c
      → z.held ≡ redists_held (vcpu_count s) (redists_of m) x.held → m ≡ with_redists h.memory (redists_of m)
      → AreConfsOfSet s n.confs (redists_of m) → ArePendsOfSet s n.pends (redists_of m) → HasRoom s m
      → HasInHand s z (record h { cached = c; needed = n; memory = m })
  needed_in_hand x z c n m held whole more same confs pends room =
      let maps : List Held = out (part.Maps h.its) (Maps (translator_of h.translator.value)) ∷ [] in
      let base_now = ap (λ (k : Memory). memory_held k maps) same ∙ same_held h.memory (redists_of m) maps in
      record {
        held = more ∙ ap (redists_held (vcpu_count s) (redists_of m)) (held ∙ ap (cached_held h.its s.shards c) (base_only ∙ sym base_now));
        its = has.its;
        whole = whole;
        confs = confs;
        pends = pends;
        room = room;
      }

-- the maps taken send collections to virtual processors that there are
pub targets_of : (s : Setup) (its : ℕ) (t : InHand) (shape : Shape) → HasStood s (part.Maps its) (Maps (translator_of t)) → shape ≡ s.start.layout.shape
    → AreTargets shape t.maps.maps
targets_of s its t shape stood same = λ icid vcpu e. let m = stood.machine in
    subst (λ (x : Shape). vcpu.0 < x.vcpus) (sym same) (subst (λ (l : Layout). vcpu.0 < l.shape.vcpus) (sym m.layout)
    ((m.sound.translators its (translator_of t) stood.right).collections icid vcpu e).target)

-- a part that was waited for had its content after some history
pub took_stood : (s : Setup) (v x : View) (p : Part) (c : Content) → v.setup ≡ s → TakesInTime v p c x → HasStood s p c
took_stood s v x p c own t = subst (λ (z : Setup). HasStood z p c) (ap (λ (y : View). y.setup) t.waits.same ∙ own) t.takes.stood

-- ---- the stamp that was read

pub read_low : (s : Setup) (v x : View) (word : Word) (its : ℕ) → v.setup ≡ s → Looks v word x → stamp_of s word its < s.limits.stamp_last → ReadLow v its x
read_low s v x word its own looks low = record {
  word = word;
  read = record { mid = x; looks = looks; before = prefix_self x.seen };
  low = subst (λ (k : Setup). stamp_of k word its < k.limits.stamp_last) (sym own) low;
}

pub low_kept : (P : Part → Type 0) (v x y : View) (its : ℕ) → ReadLow v its x → TakesOnly P x y → ReadLow v its y
low_kept P v x y its low takes = record {
  word = low.word;
  read = record {
    mid = low.read.mid;
    looks = low.read.looks;
    before = subst (IsPrefix low.read.mid.seen) (sym (ap (λ (k : View). k.seen) takes.same)) low.read.before;
  };
  low = low.low;
}
