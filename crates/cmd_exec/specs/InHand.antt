-- What becomes of the parts of redistributors in hand: what is pending, and the configurations (IHI 0069, section 5.1).
use Rattle.std.specs.Prelude.{◌≡◌, ◌≤◌, ℕ, zero, suc, ◌^◌, Bool, true, false, ◌==◌, if◌then◌else◌, List, [], ◌∷◌, slice_index_or, slice_set, Option, Some}
use Rattle.std.specs.Prelude.{None}
use Rattle.std.specs.Option.{option_map}
use Rattle.its_types.specs.Lpis.{is_pending, with_lpi, with_lpis, without_lpi}
use Rattle.its_types.specs.Ranges.{is_lpi}
use Rattle.its_plain.specs.Plain.{ConfState, PendState}
use Rattle.lpi_config.specs.Conf.{conf_state}
use Rattle.lpi_config.specs.Conf.{Conf}
use Rattle.lpi_pending.specs.InHand.{RedistParts, pend_in, pend_state}
use Rattle.lpi_pending.specs.Pend.{Pend}

-- ---- one part

-- as the plain machine has it, with the number of bits that it has
abbrev pub conf_as : Conf → ConfState → Conf
conf_as c x = record { config = record { lpi_bits = c.config.lpi_bits; bytes = x.config }; bases = x.bases }

abbrev pub conf_by : (ConfState → ConfState) → Conf → Conf
conf_by f c = conf_as c (f (conf_state c))

abbrev pub pend_as : Pend → PendState → Pend
pend_as p x = record { pending = record { lpi_bits = p.pending.lpi_bits; lpis = x.pending }; accepts = x.accepts }

abbrev pub pend_by : (PendState → PendState) → Pend → Pend
pend_by f p = pend_as p (f (pend_state p))

abbrev pub with_set : ℕ → PendState → PendState
with_set intid x = record x { pending = with_lpi intid x.pending }

abbrev pub with_cleared : ℕ → PendState → PendState
with_cleared intid x = record x { pending = without_lpi intid x.pending }

abbrev pub with_none : PendState → PendState
with_none x = record x { pending = [] }

abbrev pub with_all : List ℕ → PendState → PendState
with_all intids x = record x { pending = with_lpis intids x.pending }

-- ---- some of those in hand

-- what is at a place is changed, if it is in hand
abbrev pub changed_at : {X : Type 0} → ℕ → (X → X) → List (Option X) → List (Option X)
changed_at place f xs = slice_set xs place (option_map f (slice_index_or xs place None))

-- at the first n places
abbrev pub changed_below : {X : Type 0} → ℕ → (X → X) → List (Option X) → List (Option X)
changed_below zero f xs = xs
changed_below (suc n) f xs = changed_at n f (changed_below n f xs)

-- what is pending at a virtual processor
unfoldable pub pend_changed : ℕ → (PendState → PendState) → RedistParts → RedistParts
pend_changed vcpu f redists = record redists { pends = changed_at vcpu (pend_by f) redists.pends }

-- the configurations of the first n virtual processors
unfoldable pub confs_changed : ℕ → (ConfState → ConfState) → RedistParts → RedistParts
confs_changed n f redists = record redists { confs = changed_below n (conf_by f) redists.confs }

abbrev pub is_held_on : Option Pend → Bool
is_held_on None = false
is_held_on (Some p) = p.accepts

-- whether a virtual processor's LPIs are on
abbrev pub is_on_in : RedistParts → ℕ → Bool
is_on_in redists vcpu = is_held_on (pend_in redists vcpu)

abbrev pub held_lpis : Option Pend → List ℕ
held_lpis None = []
held_lpis (Some p) = p.pending.lpis

abbrev pub lpis_in : RedistParts → ℕ → List ℕ
lpis_in redists vcpu = held_lpis (pend_in redists vcpu)

-- ---- pending LPIs that move

-- where it is pending at one virtual processor, it is cleared there and set at another
abbrev pub lpi_moved_in : ℕ → ℕ → ℕ → RedistParts → RedistParts
lpi_moved_in intid from to redists =
    if is_pending intid (lpis_in redists from) then pend_changed to (with_set intid) (pend_changed from (with_cleared intid) redists) else redists

abbrev pub lpis_moved_in : List ℕ → ℕ → ℕ → RedistParts → RedistParts
lpis_moved_in [] from to redists = redists
lpis_moved_in (intid ∷ intids) from to redists = lpis_moved_in intids from to (lpi_moved_in intid from to redists)

abbrev pub all_moved_in : ℕ → ℕ → RedistParts → RedistParts
all_moved_in from to redists = if from == to then redists else pend_changed to (with_all (lpis_in redists from)) (pend_changed from with_none redists)

-- ---- what a part in hand can do

abbrev pub has_lpi : ℕ → Option Pend → Bool
has_lpi intid None = false
has_lpi intid (Some p) = is_lpi p.pending.lpi_bits intid

-- what is pending at a virtual processor is in hand, and the INTID is one of its LPIs
abbrev pub takes_lpi : RedistParts → ℕ → ℕ → Bool
takes_lpi redists vcpu intid = has_lpi intid (pend_in redists vcpu)

-- the INTID is one of its LPIs, and its table stands where memory can be
pub record CanReread (c : Conf) (intid : ℕ) : Type 0 where
  pub lpi : is_lpi c.config.lpi_bits intid ≡ true
  pub low : c.bases.on ≡ true → c.bases.prop.table.0 ≤ 2 ^ 52

abbrev pub CanRereadAll : Conf → List ℕ → Type 0
CanRereadAll c [] = Unit {0}
CanRereadAll c (intid ∷ intids) = CanReread c intid × CanRereadAll c intids
