-- What is pending at a redistributor in hand, and whether it takes LPIs.
use Rattle.std.specs.Prelude.{◌≡◌, ◌≤◌, ℕ, Bool, true, false, if◌then◌else◌, Option, List, MatchOption, refl}
use Rattle.std.specs.Coded.{Coded, code_by, coded×, coded_bool}
use Rattle.guest_windows.specs.Windows.{Window, inside}
use Rattle.gicr_regs.specs.Redistributors.{pending_in}
use Rattle.its_types.specs.Ranges.{pending_bytes}
use Rattle.its_types.specs.declared.translation.Pendbaser.{Pendbaser}
use Rattle.lpi_pending.specs.PendingSets.{PendingSet, pending_set_code, none_pending}

pub record Pend : Type 0 where
  -- the LPIs that are pending
  pub pending : PendingSet
  -- whether LPIs are on: the same as its registers say
  pub accepts : Bool

-- LPIs are off, and none is pending
abbrev pub off_pend : ℕ → Pend
off_pend lpi_bits = record { pending = none_pending lpi_bits; accepts = false }

-- with other LPIs pending
abbrev pub with_lpis : Pend → List ℕ → Pend
with_lpis p lpis = record p { pending = record p.pending { lpis = lpis } }

-- what a table says is pending, where it lies in one window
abbrev pub read_from : List Window → ℕ → PendingSet → PendingSet
read_from memory base p =
    if inside memory base (pending_bytes p.lpi_bits) then record p { lpis = pending_in p.lpi_bits memory base } else p

-- LPIs are on, with what the table says, or with what was pending where Pending Table Zero is set
abbrev pub turned_on : List Window → Pendbaser → Pend → Pend
turned_on memory b p = record { pending = if b.ptz then p.pending else read_from memory b.table.0 p.pending; accepts = true }

-- ---- what holds of the fields

pub record IsHeld (lpi_bits : ℕ) (pending : Option PendingSet) : Type 0 where
  pub low : 14 ≤ lpi_bits
  pub high : lpi_bits ≤ 20
  pub held : MatchOption pending (Unit {0}) (λ p. p.lpi_bits ≡ lpi_bits)

-- ---- a code, by which models tell values apart

abbrev pub pend_in_hand_code : Coded Pend
pend_in_hand_code =
    code_by (PendingSet × Bool) (coded× pending_set_code coded_bool) (λ p. (p.pending, p.accepts)) (λ q. record { pending = q.0; accepts = q.1 }) (λ _. refl)
