-- What is in hand after turns that were tried once.
use Rattle.std.proofs.Common.{◌≡◌, ℕ, List, Option, Some, None, true, refl, ap, sym, ◌∙◌, subst}
use Rattle.std.specs.Prelude.{is_some}
use Rattle.its_types.specs.declared.machine.Part.{Part}
use Rattle.its_types.specs.declared.machine.Part.TheVariants as part
use Rattle.its_steps.specs.Parts.{Setup, vcpu_count}
use Rattle.its_steps.specs.World.{View}
use Rattle.owned_parts.specs.declared.redist_set.RedistSet.{RedistSet}
use Rattle.owned_parts.specs.Owned.{translator_of}
use Rattle.held_parts.specs.Shards.{AreBeforeShards}
use Rattle.held_parts.specs.Redists.{AreNone, AreWanted, AreNoConfs, AreNoPends, AreNoRedists, HavePlaces, IsRedistIn}
use Rattle.cmd_engine.specs.Cached.{cached_held, AreWhole}
use Rattle.cmd_engine.specs.Hands.{Memory, redists_of, with_redists, base_held, HasRoom, HasInHand, IsBase, IsOwn, IsOfStep}
use Rattle.cmd_engine.specs.declared.cached.Cached.{Cached}
use Rattle.cmd_engine.specs.declared.cached.Cached.TheVariants as cached
use Rattle.cmd_engine.specs.declared.hands.Hands.{Hands}
use Rattle.cmd_engine.proofs.Getting.{needed_in_hand}
use Rattle.cmd_engine.proofs.Held.{none_held, bare_held, base_before_shards}

-- nothing was taken
pub kept_in_hand : (s : Setup) (v x : View) (h : Hands) (c : Cached) → HasInHand s v h → h.cached ≡ c → x.held ≡ v.held → HasInHand s x (record h { cached = c })
kept_in_hand s v x h c has is same = subst (λ (k : Cached). HasInHand s x (record h { cached = k })) is record {
  held = same ∙ has.held;
  its = has.its;
  whole = has.whole;
  confs = has.confs;
  pends = has.pends;
  room = has.room;
}

-- memory with what stands in its places is as it is
pub kept_memory : (m : Memory) → m ≡ with_redists m (redists_of m)
kept_memory None = refl
kept_memory (Some b) = refl

-- only maps are held
own_held : (s : Setup) (v : View) (h : Hands) → HasInHand s v h → IsOwn h → h.cached ≡ cached.Nothing → v.held ≡ base_held h
own_held s v h has own nothing = has.held ∙ (bare_held (vcpu_count s) h.memory own (cached_held h.its s.shards h.cached (base_held h))
    ∙ ap (λ (k : Cached). cached_held h.its s.shards k (base_held h)) nothing)

pub own_order : (s : Setup) (v : View) (h : Hands) → HasInHand s v h → IsOwn h → h.cached ≡ cached.Nothing → AreBeforeShards h.its v.held
own_order s v h has own nothing = subst (AreBeforeShards h.its) (sym (own_held s v h has own nothing))
    (base_before_shards h.its h.its (translator_of h.translator.value) h.memory)

-- shards were taken to the translator's maps
pub shards_in_hand : (s : Setup) (v x : View) (h : Hands) (c : Cached) → HasInHand s v h → IsOwn h → h.cached ≡ cached.Nothing
    → x.held ≡ cached_held h.its s.shards c v.held → AreWhole s h.its c → HasInHand s x (record h { cached = c })
shards_in_hand s v x h c has own nothing held whole =
    let n = vcpu_count s in
    let base : v.held ≡ base_held h = own_held s v h has own nothing in
    record {
      held = held ∙ (ap (cached_held h.its s.shards c) base ∙ sym (bare_held n h.memory own (cached_held h.its s.shards c (base_held h))));
      its = has.its;
      whole = whole;
      confs = has.confs;
      pends = has.pends;
      room = has.room;
    }

-- with memory alone its places are empty
pub no_redists : (s : Setup) (v : View) (h : Hands) → HasInHand s v h → IsBase h → AreNoRedists s (redists_of h.memory)
no_redists s v h has base = in_memory h.memory base.memory base.bare.confs base.bare.pends has.room
  where
    in_memory : (m : Memory) → is_some m ≡ true → AreNoConfs (redists_of m) → AreNoPends (redists_of m) → HasRoom s m → AreNoRedists s (redists_of m)
    in_memory None some confs pends room = absurd cc
    in_memory (Some b) some confs pends room = record { confs = confs; pends = pends; places = record { confs = room.0; pends = room.1 } }

pub places_room : (s : Setup) (m : Memory) → HavePlaces s (redists_of m) → HasRoom s m
places_room s None places = tt
places_room s (Some b) places = (places.confs, places.pends)

-- none of a set is in hand, before and after
still_wanted : {T : Type 0} (has_lpis : T → Type 0) (s : Setup) (set : RedistSet) (old new : List (Option T)) → AreNone old → AreNone new
    → AreWanted T has_lpis s set old → AreWanted T has_lpis s set new
still_wanted {T} has_lpis s set old new before after are = record {
  hand = λ k. ap (λ (o : Option T). is_some o) (after k) ∙ (sym (ap (λ (o : Option T). is_some o) (before k)) ∙ are.hand k);
  lpis = λ k x is. absurd (no_some x (sym (after k) ∙ is));
}
  where
    no_some : (x : T) → None ≡ Some x → ⊥
    no_some x e = cc

-- shards were taken, and parts of redistributors went home again
pub freed_in_hand : (s : Setup) (v : View) (h : Hands) (has : HasInHand s v h) (base : IsBase h) (x z : View) (c : Cached) (m : Memory)
    → x.held ≡ cached_held h.its s.shards c v.held → AreWhole s h.its c → z.held ≡ x.held → m ≡ with_redists h.memory (redists_of m)
    → AreNoConfs (redists_of m) → AreNoPends (redists_of m) → HasRoom s m → HasInHand s z (record h { cached = c; memory = m })
freed_in_hand s v h has base x z c m held whole same memory no_confs no_pends room =
    needed_in_hand s v h has base x z c h.needed m held whole
    (same ∙ sym (none_held (vcpu_count s) (redists_of m) x.held no_confs no_pends)) memory
    (still_wanted _ s h.needed.confs (redists_of h.memory).confs (redists_of m).confs base.bare.confs no_confs has.confs)
    (still_wanted _ s h.needed.pends (redists_of h.memory).pends (redists_of m).pends base.bare.pends no_pends has.pends)
    room

pub redist_of_step : (its : ℕ) (confs pends : RedistSet) (p : Part) → IsRedistIn confs pends p → IsOfStep its p
redist_of_step its confs pends (part.Conf v) is = tt
redist_of_step its confs pends (part.Pend v) is = tt
redist_of_step its confs pends (part.Maps i) is = absurd is
redist_of_step its confs pends part.Mem is = absurd is
redist_of_step its confs pends (part.Shard i n) is = absurd is
