-- What is in hand, in the order in which it is held.
use Rattle.std.proofs.Common.{◌≡◌, ◌<◌, ℕ, true, nat_lt, List, [], ◌∷◌, Option, Some, None, refl, ap, sym, ◌∙◌, subst, inl, inr, arith}
use Rattle.std.specs.Prelude.{is_some, Box}
use Rattle.std.specs.Global.{Global}
use Rattle.std.proofs.lemmas.Bool.{and_parts, ltb-true}
use Rattle.its_types.specs.declared.machine.Part.{Part}
use Rattle.its_types.specs.declared.machine.Part.TheVariants as part
use Rattle.its_plain.specs.Plain.{Translator}
use Rattle.its_plain.specs.Parts.{conf, pend}
use Rattle.lpi_config.specs.Conf.{Conf as ConfInHand}
use Rattle.lpi_pending.specs.InHand.{RedistParts, no_redists, HasLpisOfConf, HasLpisOfPend}
use Rattle.lpi_pending.specs.Pend.{Pend as PendInHand}
use Rattle.owned_parts.specs.Owned.{translator_of}
use Rattle.owned_parts.specs.RedistSets.{is_in}
use Rattle.owned_parts.specs.declared.redist_set.RedistSet.{RedistSet}
use Rattle.xlate_cache.specs.Pairs.{shard_number}
use Rattle.its_steps.specs.Contents.{Content, Maps, Mem, Held}
use Rattle.its_steps.specs.Good.{Holds}
use Rattle.its_steps.specs.MayCall.{Owes}
use Rattle.its_steps.specs.Parts.{Setup, translator_count, vcpu_count}
use Rattle.its_steps.specs.World.{View, out}
use Rattle.its_steps.proofs.Owed.{owes_holds}
use Rattle.its_turns.specs.declared.value.GuestMemory.{GuestMemory}
use Rattle.its_turns.proofs.Ordering.{in_order_free}
use Rattle.held_parts.specs.Redists.{at_place, row_of, held_if_in, conf_held, pend_held, confs_held, AreNone, AreWanted, AreNoConfs, AreNoPends}
use Rattle.held_parts.specs.Redists.{AreBeforeConfs, AreBeforePends}
use Rattle.held_parts.specs.Rows.{in_row}
use Rattle.held_parts.specs.Shards.{AreBeforeShards}
use Rattle.held_parts.proofs.InRows.{row_short, row_none}
use Rattle.held_parts.proofs.RedistRows.{conf_kind, pend_kind, parts_hold, parts_owe, part_owed, parts_before, parts_out, parts_apart, parts_stand}
use Rattle.held_parts.proofs.ShardRows.{shards_owe, shards_before, shards_out, shards_apart, shards_stand}
use Rattle.cmd_engine.specs.Cached.{cached_held, AreWhole}
use Rattle.cmd_engine.specs.Hands.{Memory, redists_of, memory_held, base_held, redists_held, all_held, HasInHand}
use Rattle.cmd_engine.specs.declared.cached.Cached.{Cached}
use Rattle.cmd_engine.specs.declared.cached.Cached.TheVariants as cached
use Rattle.cmd_engine.specs.declared.hands.Hands.{Hands}
use Rattle.cmd_engine.proofs.InState.{AreOut, HoldsBase, HoldsRedists}

-- ---- the maps, and memory

abbrev maps_only : ℕ → Translator → List Held
maps_only its t = out (part.Maps its) (Maps t) ∷ []

no_mem : (its : ℕ) (t : Translator) → Holds part.Mem (maps_only its t) → ⊥
no_mem its t (inl e) = cc
no_mem its t (inr h) = h

pub base_before_confs : (its : ℕ) (t : Translator) (m : Memory) → AreBeforeConfs (memory_held m (maps_only its t))
base_before_confs its t None v = (tt, tt)
base_before_confs its t (Some b) v = (tt, (tt, tt))

pub base_before_pends : (its : ℕ) (t : Translator) (m : Memory) → AreBeforePends (memory_held m (maps_only its t))
base_before_pends its t None v = (tt, tt)
base_before_pends its t (Some b) v = (tt, (tt, tt))

pub base_before_shards : (i its : ℕ) (t : Translator) (m : Memory) → AreBeforeShards i (memory_held m (maps_only its t))
base_before_shards i its t None n = (tt, tt)
base_before_shards i its t (Some b) n = (tt, (tt, tt))

base_out : (s : Setup) (its : ℕ) (t : Translator) (m : Memory) → its < translator_count s → AreOut s (memory_held m (maps_only its t))
base_out s its t None lt = record { stands = (lt, tt); apart = ((λ h. h), tt); out = (refl, tt) }
base_out s its t (Some b) lt = record { stands = (tt, (lt, tt)); apart = (no_mem its t, ((λ h. h), tt)); out = (refl, (refl, tt)) }

base_maps : (its : ℕ) (t : Translator) (m : Memory) → Owes (part.Maps its) (Maps t) (memory_held m (maps_only its t))
base_maps its t None = inl (refl, refl)
base_maps its t (Some b) = inr (inl (refl, refl))

-- ---- shards

-- they come before parts of redistributors
pub cached_before_confs : (its n : ℕ) (c : Cached) (others : List Held) → AreBeforeConfs others → AreBeforeConfs (cached_held its n c others)
cached_before_confs its n cached.Nothing others order = order
cached_before_confs its n (cached.Pair dev ev ways) others order = λ v. (tt, order v)
cached_before_confs its n cached.Any others order = order
cached_before_confs its n (cached.Every shards) others order = λ v. shards_before its shards others n (part.Conf v) (λ k lt. tt) (order v)

pub cached_before_pends : (its n : ℕ) (c : Cached) (others : List Held) → AreBeforePends others → AreBeforePends (cached_held its n c others)
cached_before_pends its n cached.Nothing others order = order
cached_before_pends its n (cached.Pair dev ev ways) others order = λ v. (tt, order v)
cached_before_pends its n cached.Any others order = order
cached_before_pends its n (cached.Every shards) others order = λ v. shards_before its shards others n (part.Pend v) (λ k lt. tt) (order v)

cached_owes : (its n : ℕ) (c : Cached) (others : List Held) (p : Part) (x : Content) → Owes p x others → Owes p x (cached_held its n c others)
cached_owes its n cached.Nothing others p x o = o
cached_owes its n (cached.Pair dev ev ways) others p x o = inr o
cached_owes its n cached.Any others p x o = o
cached_owes its n (cached.Every shards) others p x o = shards_owe its shards others n p x o

cached_out : (s : Setup) (its : ℕ) (c : Cached) (others : List Held) → AreWhole s its c → AreBeforeShards its others → AreOut s others
    → AreOut s (cached_held its s.shards c others)
cached_out s its cached.Nothing others whole order o = o
cached_out s its (cached.Pair dev ev ways) others whole order o = record {
  stands = (whole, o.stands);
  apart = (in_order_free (part.Shard its (shard_number dev.0 ev.0 s.shards)) others (order (shard_number dev.0 ev.0 s.shards)), o.apart);
  out = (refl, o.out);
}
cached_out s its cached.Any others whole order o = o
cached_out s its (cached.Every shards) others whole order o = record {
  stands = shards_stand its shards others s s.shards whole.0 (omega arith) o.stands;
  apart = shards_apart its shards others s.shards order o.apart;
  out = shards_out its shards others s.shards o.out;
}

-- ---- parts of redistributors

module _ {T : Type 0} (as_held : ℕ → T → Held) (places : List (Option T)) where
  none_in : (n : ℕ) (others : List Held) → AreNone places → in_row (row_of as_held places) n others ≡ others
  none_in n others none = row_short (row_of as_held places) others 0 n (omega arith) (λ k le lt. ap (held_if_in as_held k) (none k))
      ∙ row_none (row_of as_held places) others 0 refl

  some_is : (x : T) (o : Option T) → o ≡ Some x → is_some o ≡ true
  some_is x o is = ap (λ (y : Option T). is_some y) is

  -- the machine has those in hand
  pub is_of : (has_lpis : T → Type 0) (s : Setup) (set : RedistSet) → AreWanted T has_lpis s set places → (k : ℕ) (x : T) → at_place places k ≡ Some x
      → k < vcpu_count s
  is_of has_lpis s set are k x is =
      ltb-true k (vcpu_count s) (and_parts (is_in set k) (nat_lt k (vcpu_count s)) (sym (are.hand k) ∙ some_is x (at_place places k) is)).1

-- none
pub none_held : (n : ℕ) (redists : RedistParts) (others : List Held) → AreNoConfs redists → AreNoPends redists → redists_held n redists others ≡ others
none_held n redists others no_confs no_pends =
    none_in pend_held redists.pends n (confs_held redists n others) no_pends ∙ none_in conf_held redists.confs n others no_confs

-- nor is any without memory
pub bare_held : (n : ℕ) (m : Memory) → m ≡ None → (others : List Held) → redists_held n (redists_of m) others ≡ others
bare_held n m none others = ap (λ (o : Memory). redists_held n (redists_of o) others) none ∙ none_held n (no_redists 0) others (λ k. refl) (λ k. refl)

-- configurations come before what is pending
pub confs_before_pends : (n : ℕ) (redists : RedistParts) (others : List Held) → AreBeforePends others → AreBeforePends (confs_held redists n others)
confs_before_pends n redists others order v = parts_before conf_held conf conf_kind redists.confs others n (part.Pend v) (λ k lt. tt) (order v)

-- ---- all of it

module _ (s : Setup) (v : View) (h : Hands) (has : HasInHand s v h) where
  abbrev t : Translator
  t = translator_of h.translator.value

  abbrev n : ℕ
  n = vcpu_count s

  abbrev rs : RedistParts
  rs = redists_of h.memory

  abbrev cs : List (Option ConfInHand)
  cs = rs.confs

  abbrev ps : List (Option PendInHand)
  ps = rs.pends

  abbrev rest : List Held
  rest = cached_held h.its s.shards h.cached (base_held h)

  -- without what is pending
  abbrev read : List Held
  read = confs_held rs n rest

  before_confs : AreBeforeConfs rest
  before_confs = cached_before_confs h.its s.shards h.cached (base_held h) (base_before_confs h.its t h.memory)

  before_pends : AreBeforePends read
  before_pends = confs_before_pends n rs rest (cached_before_pends h.its s.shards h.cached (base_held h) (base_before_pends h.its t h.memory))

  rest_out : AreOut s rest
  rest_out = cached_out s h.its h.cached (base_held h) has.whole (base_before_shards h.its h.its t h.memory) (base_out s h.its t h.memory has.its)

  read_out : AreOut s read
  read_out = record {
    stands = parts_stand conf_held conf conf_kind cs rest (HasLpisOfConf s.start.layout.shape) s h.needed.confs n has.confs rest_out.stands;
    apart = parts_apart conf_held conf conf_kind cs rest n (λ k. before_confs (record { 0 = k })) rest_out.apart;
    out = parts_out conf_held conf conf_kind cs rest n rest_out.out;
  }

  pub all_out : AreOut s (all_held s h)
  all_out = record {
    stands = parts_stand pend_held pend pend_kind ps read (HasLpisOfPend s.start.layout.shape) s h.needed.pends n has.pends read_out.stands;
    apart = parts_apart pend_held pend pend_kind ps read n (λ k. before_pends (record { 0 = k })) read_out.apart;
    out = parts_out pend_held pend pend_kind ps read n read_out.out;
  }

  all_owe : (p : Part) (x : Content) → Owes p x rest → Owes p x (all_held s h)
  all_owe p x o = parts_owe pend_held pend pend_kind ps read n p x (parts_owe conf_held conf conf_kind cs rest n p x o)

  pub owes_maps : Owes (part.Maps h.its) (Maps t) (all_held s h)
  owes_maps = all_owe (part.Maps h.its) (Maps t) (cached_owes h.its s.shards h.cached (base_held h) (part.Maps h.its) (Maps t) (base_maps h.its t h.memory))

  pub holds_maps : Holds (part.Maps h.its) (all_held s h)
  holds_maps = owes_holds (part.Maps h.its) (Maps t) (all_held s h) owes_maps

  mem_in : (m : Memory) (b : Box GuestMemory Global) → m ≡ Some b → Owes part.Mem (Mem b.value.memory b.value.track) (memory_held m (maps_only h.its t))
  mem_in m b is = subst (λ (x : Memory). Owes part.Mem (Mem b.value.memory b.value.track) (memory_held x (maps_only h.its t))) (sym is) (inl (refl, refl))

  -- with memory
  pub holds_base : (b : Box GuestMemory Global) → h.memory ≡ Some b → HoldsBase h.its t b.value.memory b.value.track (all_held s h)
  holds_base b is = record {
    maps = owes_maps;
    mem = all_owe part.Mem (Mem b.value.memory b.value.track) (cached_owes h.its s.shards h.cached (base_held h) part.Mem
        (Mem b.value.memory b.value.track) (mem_in h.memory b is));
  }

  pub holds_redists : HoldsRedists s rs (all_held s h)
  holds_redists = record {
    confs = λ vcpu c is. (
      has.confs.lpis vcpu.0 c is,
      parts_owe pend_held pend pend_kind ps read n (conf vcpu.0) (conf_held vcpu.0 c).owed
          (part_owed conf_held conf conf_kind cs rest n vcpu.0 c
          (is_of conf_held cs (HasLpisOfConf s.start.layout.shape) s h.needed.confs has.confs vcpu.0 c is) is),
    );
    pends = λ vcpu p is. (
      has.pends.lpis vcpu.0 p is,
      part_owed pend_held pend pend_kind ps read n vcpu.0 p
          (is_of pend_held ps (HasLpisOfPend s.start.layout.shape) s h.needed.pends has.pends vcpu.0 p is) is,
    );
  }

  -- what configurations and all else hold, all of it holds
  pub holds_read : (p : Part) → Holds p read → Holds p (all_held s h)
  holds_read p held = parts_hold pend_held pend pend_kind ps read n p held

  -- so it does what its shards hold
  pub holds_cached : (p : Part) → Holds p rest → Holds p (all_held s h)
  holds_cached p held = holds_read p (parts_hold conf_held conf conf_kind cs rest n p held)
