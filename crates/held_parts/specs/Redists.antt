-- Parts of redistributors that a pass holds: configurations, and what is pending.
use Rattle.std.specs.Prelude.{◌≡◌, ◌&&◌, ℕ, true, nat_lt, Option, Some, None, is_some, List, length, slice_index_or}
use Rattle.its_types.specs.declared.ids.Vcpu.{Vcpu}
use Rattle.its_types.specs.declared.machine.Part.{Part}
use Rattle.its_types.specs.declared.machine.Part.TheVariants as part
use Rattle.lpi_config.specs.Conf.{conf_state}
use Rattle.lpi_config.specs.Conf.{Conf as ConfInHand}
use Rattle.lpi_pending.specs.InHand.{RedistParts, pend_state, HasLpisOfConf, HasLpisOfPend}
use Rattle.lpi_pending.specs.Pend.{Pend as PendInHand}
use Rattle.owned_parts.specs.RedistSets.{is_in}
use Rattle.owned_parts.specs.declared.redist_set.RedistSet.{RedistSet}
use Rattle.its_plain.specs.Parts.{conf, pend}
use Rattle.its_steps.specs.Contents.{Held, Conf, Pend}
use Rattle.its_steps.specs.Parts.{Setup, vcpu_count}
use Rattle.its_steps.specs.World.{out}
use Rattle.its_turns.specs.Order.{IsInOrder}
use Rattle.held_parts.specs.Rows.{Row, in_row}

-- ---- of one kind: `as_held` says how the one of a virtual processor is held

-- the one at a place, if it is in hand
abbrev pub at_place : {T : Type 0} → List (Option T) → ℕ → Option T
at_place places vcpu = slice_index_or places vcpu None

abbrev pub held_if_in : {T : Type 0} → (ℕ → T → Held) → ℕ → Option T → Option Held
held_if_in as_held vcpu None = None
held_if_in as_held vcpu (Some x) = Some (as_held vcpu x)

-- those in hand
abbrev pub row_of : {T : Type 0} → (ℕ → T → Held) → List (Option T) → Row
row_of as_held places vcpu = held_if_in as_held vcpu (at_place places vcpu)

-- none is in hand
abbrev pub AreNone : {T : Type 0} → List (Option T) → Type 0
AreNone places = (vcpu : ℕ) → at_place places vcpu ≡ None

-- those of the set below n are in hand, and no other; they have so many LPIs
pub record AreBelow (T : Type 0) (has_lpis : T → Type 0) (n : ℕ) (set : RedistSet) (places : List (Option T)) : Type 0 where
  pub hand : (vcpu : ℕ) → is_some (at_place places vcpu) ≡ (is_in set vcpu && nat_lt vcpu n)
  pub lpis : (vcpu : ℕ) (x : T) → at_place places vcpu ≡ Some x → has_lpis x

-- those of the set that the machine has are in hand, and no other; they have the machine's LPIs
abbrev pub AreWanted : (T : Type 0) → (T → Type 0) → Setup → RedistSet → List (Option T) → Type 0
AreWanted T has_lpis s set places = AreBelow T has_lpis (vcpu_count s) set places

-- ---- configurations

abbrev pub conf_held : ℕ → ConfInHand → Held
conf_held vcpu c = out (conf vcpu) (Conf (conf_state c))

-- those in hand of the first n before other parts, the highest first
abbrev pub confs_held : RedistParts → ℕ → List Held → List Held
confs_held redists n others = in_row (row_of conf_held redists.confs) n others

abbrev pub AreNoConfs : RedistParts → Type 0
AreNoConfs redists = AreNone redists.confs

abbrev pub AreConfsOfSet : Setup → RedistSet → RedistParts → Type 0
AreConfsOfSet s set redists = AreWanted ConfInHand (HasLpisOfConf s.start.layout.shape) s set redists.confs

abbrev pub AreConfsBelow : Setup → ℕ → RedistSet → RedistParts → Type 0
AreConfsBelow s n set redists = AreBelow ConfInHand (HasLpisOfConf s.start.layout.shape) n set redists.confs

-- all that is held comes before them
abbrev pub AreBeforeConfs : List Held → Type 0
AreBeforeConfs held = (vcpu : Vcpu) → IsInOrder (part.Conf vcpu) held

-- the part is the configuration of one of the set
abbrev pub IsConfIn : RedistSet → Part → Type 0
IsConfIn set (part.Conf vcpu) = is_in set vcpu.0 ≡ true
IsConfIn set p = ⊥

-- ---- what is pending

abbrev pub pend_held : ℕ → PendInHand → Held
pend_held vcpu p = out (pend vcpu) (Pend (pend_state p))

abbrev pub pends_held : RedistParts → ℕ → List Held → List Held
pends_held redists n others = in_row (row_of pend_held redists.pends) n others

abbrev pub AreNoPends : RedistParts → Type 0
AreNoPends redists = AreNone redists.pends

abbrev pub ArePendsOfSet : Setup → RedistSet → RedistParts → Type 0
ArePendsOfSet s set redists = AreWanted PendInHand (HasLpisOfPend s.start.layout.shape) s set redists.pends

abbrev pub ArePendsBelow : Setup → ℕ → RedistSet → RedistParts → Type 0
ArePendsBelow s n set redists = AreBelow PendInHand (HasLpisOfPend s.start.layout.shape) n set redists.pends

abbrev pub AreBeforePends : List Held → Type 0
AreBeforePends held = (vcpu : Vcpu) → IsInOrder (part.Pend vcpu) held

abbrev pub IsPendIn : RedistSet → Part → Type 0
IsPendIn set (part.Pend vcpu) = is_in set vcpu.0 ≡ true
IsPendIn set p = ⊥

-- ---- both

-- the part is the configuration of one of the first set, or what is pending at one of the second
abbrev pub IsRedistIn : RedistSet → RedistSet → Part → Type 0
IsRedistIn confs pends (part.Conf vcpu) = is_in confs vcpu.0 ≡ true
IsRedistIn confs pends (part.Pend vcpu) = is_in pends vcpu.0 ≡ true
IsRedistIn confs pends p = ⊥

-- each before other parts, what is pending at the highest first
abbrev pub redists_held : RedistParts → ℕ → List Held → List Held
redists_held redists n others = pends_held redists n (confs_held redists n others)

-- there are places for each virtual processor
pub record HavePlaces (s : Setup) (redists : RedistParts) : Type 0 where
  pub confs : length redists.confs ≡ vcpu_count s
  pub pends : length redists.pends ≡ vcpu_count s

-- none is in hand
pub record AreNoRedists (s : Setup) (redists : RedistParts) : Type 0 where
  pub confs : AreNoConfs redists
  pub pends : AreNoPends redists
  pub places : HavePlaces s redists

-- those of the sets are, and no other
pub record AreRedistsOf (s : Setup) (of_confs of_pends : RedistSet) (redists : RedistParts) : Type 0 where
  pub confs : AreConfsOfSet s of_confs redists
  pub pends : ArePendsOfSet s of_pends redists
  pub places : HavePlaces s redists
