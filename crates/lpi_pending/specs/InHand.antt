-- Redistributors by the number of their virtual processor: of each the two parts, in hand or not.
use Rattle.std.specs.Prelude.{◌≡◌, ℕ, Bool, List, Option, None, slice_index_or, slice_set, length, replicate, refl}
use Rattle.std.specs.Coded.{Coded, code_by, coded×, coded_bool, coded_list, coded_option}
use Rattle.its_types.specs.declared.machine.Shape.{Shape}
use Rattle.its_types.specs.declared.translation.Bases.{Bases}
use Rattle.its_types.specs.Lpis.{bases_code}
use Rattle.gicr_regs.specs.Redistributors.{Redistributor, PendState, joined}
use Rattle.lpi_config.specs.Conf.{conf_state}
use Rattle.lpi_config.specs.Configurations.{Configuration, configuration_code}
use Rattle.lpi_config.specs.Conf.{Conf}
use Rattle.lpi_pending.specs.PendingSets.{PendingSet, pending_set_code}
use Rattle.lpi_pending.specs.Pend.{Pend}

-- ---- one redistributor

abbrev pub pend_state : Pend → PendState
pend_state p = record { pending = p.pending.lpis; accepts = p.accepts }

-- both parts, as the plain machine has them
abbrev pub redistributor_of : Conf → Pend → Redistributor
redistributor_of c p = joined (conf_state c) (pend_state p)

-- its configuration is that of a machine's LPIs
abbrev pub HasLpisOfConf : Shape → Conf → Type 0
HasLpisOfConf shape c = c.config.lpi_bits ≡ shape.lpi_bits

-- so is its pending set
abbrev pub HasLpisOfPend : Shape → Pend → Type 0
HasLpisOfPend shape p = p.pending.lpi_bits ≡ shape.lpi_bits

-- ---- those of a machine

pub record RedistParts : Type 0 where
  pub confs : List (Option Conf)
  pub pends : List (Option Pend)

-- the part at a place, if it is in hand
abbrev pub conf_in : RedistParts → ℕ → Option Conf
conf_in r vcpu = slice_index_or r.confs vcpu None

abbrev pub pend_in : RedistParts → ℕ → Option Pend
pend_in r vcpu = slice_index_or r.pends vcpu None

-- with another at a place, or none
abbrev pub set_conf : RedistParts → ℕ → Option Conf → RedistParts
set_conf r vcpu c = record r { confs = slice_set r.confs vcpu c }

abbrev pub set_pend : RedistParts → ℕ → Option Pend → RedistParts
set_pend r vcpu p = record r { pends = slice_set r.pends vcpu p }

-- places of each for so many virtual processors, all empty
abbrev pub no_redists : ℕ → RedistParts
no_redists n = record { confs = replicate n None; pends = replicate n None }

-- every place for so many virtual processors is empty
pub record AreEmpty (n : ℕ) (r : RedistParts) : Type 0 where
  pub confs : (vcpu : ℕ) → conf_in r vcpu ≡ None
  pub pends : (vcpu : ℕ) → pend_in r vcpu ≡ None
  pub conf_room : length r.confs ≡ n
  pub pend_room : length r.pends ≡ n

-- ---- a code for each, by which models tell values apart

abbrev pub held_conf_code : Coded Conf
held_conf_code =
    code_by (Configuration × Bases) (coded× configuration_code bases_code) (λ c. (c.config, c.bases)) (λ p. record { config = p.0; bases = p.1 }) (λ _. refl)

abbrev pub held_pend_code : Coded Pend
held_pend_code =
    code_by (PendingSet × Bool) (coded× pending_set_code coded_bool) (λ p. (p.pending, p.accepts)) (λ q. record { pending = q.0; accepts = q.1 }) (λ _. refl)

abbrev pub redist_parts_code : Coded RedistParts
redist_parts_code =
    code_by (List (Option Conf) × List (Option Pend)) (coded× (coded_list (coded_option held_conf_code)) (coded_list (coded_option held_pend_code)))
    (λ r. (r.confs, r.pends)) (λ p. record { confs = p.0; pends = p.1 }) (λ _. refl)
