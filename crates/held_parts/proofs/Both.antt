-- Both parts of redistributors, the configurations first.
use Rattle.std.proofs.Common.{ℕ, List, ◌∷◌}
use Rattle.its_types.specs.declared.machine.Part.{Part}
use Rattle.its_types.specs.declared.machine.Part.TheVariants as part
use Rattle.its_plain.specs.Parts.{conf}
use Rattle.lpi_pending.specs.InHand.{RedistParts, AreEmpty}
use Rattle.owned_parts.specs.declared.redist_set.RedistSet.{RedistSet}
use Rattle.its_steps.specs.Contents.{Content, Held}
use Rattle.its_steps.specs.Parts.{Setup, vcpu_count}
use Rattle.its_steps.specs.World.{out}
use Rattle.held_parts.specs.Redists.{conf_held, confs_held, AreBeforeConfs, AreBeforePends, AreNoRedists, IsConfIn, IsPendIn, IsRedistIn}
use Rattle.held_parts.specs.Wholes.{IsNoShard}
use Rattle.held_parts.proofs.RedistRows.{conf_kind, parts_before}

pub conf_of_both : (confs pends : RedistSet) (p : Part) → IsConfIn confs p → IsRedistIn confs pends p
conf_of_both confs pends (part.Conf v) is = is
conf_of_both confs pends (part.Pend v) is = absurd is
conf_of_both confs pends (part.Maps i) is = absurd is
conf_of_both confs pends part.Mem is = absurd is
conf_of_both confs pends (part.Shard i n) is = absurd is

pub pend_of_both : (confs pends : RedistSet) (p : Part) → IsPendIn pends p → IsRedistIn confs pends p
pend_of_both confs pends (part.Pend v) is = is
pend_of_both confs pends (part.Conf v) is = absurd is
pend_of_both confs pends (part.Maps i) is = absurd is
pend_of_both confs pends part.Mem is = absurd is
pend_of_both confs pends (part.Shard i n) is = absurd is

pub both_no_shard : (confs pends : RedistSet) (p : Part) → IsRedistIn confs pends p → IsNoShard p
both_no_shard confs pends (part.Conf v) is = tt
both_no_shard confs pends (part.Pend v) is = tt
both_no_shard confs pends (part.Maps i) is = absurd is
both_no_shard confs pends part.Mem is = absurd is
both_no_shard confs pends (part.Shard i n) is = absurd is

-- a configuration comes before what is pending
pub confs_before_pends : (n : ℕ) (redists : RedistParts) (others : List Held) → AreBeforePends others → AreBeforePends (confs_held redists n others)
confs_before_pends n redists others order v = parts_before conf_held conf conf_kind redists.confs others n (part.Pend v) (λ k lt. tt) (order v)

-- and guest memory before both
pub mem_before_confs : (c : Content) (held : List Held) → AreBeforeConfs held → AreBeforeConfs (out part.Mem c ∷ held)
mem_before_confs c held order v = (tt, order v)

pub mem_before_pends : (c : Content) (held : List Held) → AreBeforePends held → AreBeforePends (out part.Mem c ∷ held)
mem_before_pends c held order v = (tt, order v)

-- the places that memory comes with
pub empty_places : (s : Setup) (redists : RedistParts) → AreEmpty (vcpu_count s) redists → AreNoRedists s redists
empty_places s redists e = record { confs = e.confs; pends = e.pends; places = record { confs = e.conf_room; pends = e.pend_room } }
