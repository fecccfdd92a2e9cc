-- The machine that a description makes, or why it makes none.
use Rattle.std.specs.Prelude.{◌≡◌, ◌≤◌, ℕ, suc, ◌+◌, ◌-◌, ◌^◌, length, replicate, slice_get, sum, Bool, true, false, not, ◌&&◌, nat_lt, nat_le}
use Rattle.std.specs.Prelude.{if◌then◌else◌, List, [], ◌∷◌, ◌++◌, map, Some, None, Result, Ok, Err}
use Rattle.std.specs.List.{list_any}
use Rattle.std.specs.Option.{ok_or}
use Rattle.guest_windows.specs.Windows.{Window, are_windows, zeros, inside, read_at, write_at}
use Rattle.guest_windows.specs.Fields.{pairs}
use Rattle.gits_regs.specs.Registers.{reset}
use Rattle.its_types.specs.Maps.{no_maps}
use Rattle.its_types.specs.Ranges.{lpi_count, pending_bytes}
use Rattle.its_types.specs.declared.ids.Addr.{Addr}
use Rattle.its_types.specs.declared.translation.Bases.{Bases}
use Rattle.gicr_regs.specs.Redistributors.{off_redistributor}
use Rattle.gicr_regs.specs.Registers.{all_restored_bases}
use Rattle.gicr_regs.specs.declared.values.GicrValues.{GicrValues}
pub use Rattle.its_types.specs.Lpis.{described_bases}
use Rattle.its_types.specs.Lpis.{no_bases}
use Rattle.its_types.specs.declared.machine.Shape.{Shape}
use Rattle.its_plain.specs.Plain.{Plain, Layout, Redistributor}
use Rattle.its_plain.specs.Sound.{IsShape}
use Rattle.its_plain.specs.declared.desc.Desc.{Desc}
use Rattle.its_plain.specs.declared.desc.Fill.{Fill}
use Rattle.its_plain.specs.declared.desc.LpiTables.{LpiTables}
use Rattle.its_plain.specs.declared.desc.LpiTables.TheVariants.{Described, Registers}
use Rattle.its_plain.specs.declared.desc.DescFault.{DescFault}
use Rattle.its_plain.specs.declared.desc.DescFault.TheVariants.{Windows, Config, Pending, Bytes, Frames, Requesters as BadRequesters}
use Rattle.its_plain.specs.declared.desc.Its.{Its}
use Rattle.its_plain.specs.declared.desc.Requesters.{Requesters}
use Rattle.its_plain.specs.Doorbells.{frames_size}
use Rattle.its_plain.specs.Saved.{track_of}

infixl 10 ◌>>=◌
abbrev pub ◌>>=◌ : {A B : Type 0} → Result A DescFault → (A → Result B DescFault) → Result B DescFault
(Ok x) >>= f = f x
(Err e) >>= f = Err e

abbrev pub ensure : Bool → DescFault → Result (Unit {0}) DescFault
ensure test fault = if test then Ok tt else Err fault

-- ---- the tables of the redistributors

-- whether the guest programs them
abbrev pub are_programmed : LpiTables → Bool
are_programmed (Described config pending) = false
are_programmed (Registers values) = true

-- the tables described for each virtual processor, if they are
abbrev pub described_in : LpiTables → List Bases
described_in (Described config pending) = map (described_bases config) pending
described_in (Registers values) = []

-- where a restore finds the tables of so many virtual processors
abbrev pub bases_given : ℕ → LpiTables → List Bases
bases_given vcpus (Described config pending) = map (described_bases config) pending
bases_given vcpus (Registers values) = all_restored_bases vcpus values

abbrev pub registers : GicrValues → LpiTables
registers values = Registers values

-- what a description fixes for good
abbrev pub layout_of : Desc → Layout
layout_of d = record { shape = d.shape; gicr = are_programmed d.tables; described = described_in d.tables; track = d.track }

-- each virtual processor has a pending table, or values of its LPI registers where the guest programs the tables
abbrev pub HasTablesFor : ℕ → LpiTables → Type 0
HasTablesFor vcpus (Described config pending) = length pending ≡ vcpus
HasTablesFor vcpus (Registers values) = length values.registers ≡ vcpus

-- the counts of a description are in their ranges
pub record IsDescription (d : Desc) : Type 0 where
  pub shape : IsShape d.shape
  pub tables : HasTablesFor d.shape.vcpus d.tables
  pub some_translator : 1 ≤ length d.translators
  pub most_translators : length d.translators ≤ 2

-- ---- checks

-- each pending table lies in one window, or the first virtual processor whose table doesn't
abbrev pub pending_inside : List Window → ℕ → ℕ → List Addr → Result (Unit {0}) DescFault
pending_inside memory size vcpu [] = Ok tt
pending_inside memory size vcpu (base ∷ bases) =
    if inside memory base.0 size then pending_inside memory size (vcpu + 1) bases else Err (Pending (record { 0 = vcpu }))

-- the described tables lie in one window each, the configuration table before the pending tables
abbrev pub tables_inside : Shape → List Window → LpiTables → Result (Unit {0}) DescFault
tables_inside s memory (Described config pending) =
    ensure (inside memory config.0 (lpi_count s.lpi_bits)) Config >>= λ _. pending_inside memory (pending_bytes s.lpi_bits) 0 pending
tables_inside s memory (Registers values) = Ok tt

-- ---- frames and requesters

-- two stretches share a byte
abbrev pub share : ℕ × ℕ → ℕ × ℕ → Bool
share v w = nat_lt v.0 (w.0 + w.1) && nat_lt w.0 (v.0 + v.1)

-- the frames that stand here lie below 2^52, and share no byte with a stretch of the list
abbrev pub frames_fit : List (ℕ × ℕ) → Addr → Bool
frames_fit taken base = nat_le (base.0 + frames_size) (2 ^ 52) && not (list_any (share (base.0, frames_size)) taken)

-- the frames of those that have some
abbrev pub frames_of : List Its → List (ℕ × ℕ)
frames_of [] = []
frames_of (t ∷ ts) = elim t.frames [ None ↦ frames_of ts | Some base ↦ (base.0, frames_size) ∷ frames_of ts ]

-- each translator's frames fit beside the windows and the frames of the others, or the first whose frames don't: those after it are looked at, since those
-- before it were looked at beside it
abbrev pub all_frames_fit : List (ℕ × ℕ) → ℕ → List Its → Result (Unit {0}) DescFault
all_frames_fit windows i [] = Ok tt
all_frames_fit windows i (t ∷ ts) = elim t.frames [
  | None ↦ all_frames_fit windows (suc i) ts
  | Some base ↦ if frames_fit (frames_of ts ++ windows) base then all_frames_fit windows (suc i) ts else Err (Frames i)
]

-- a number of both
abbrev pub meet : Requesters → Requesters → Bool
meet r q = nat_le r.first q.last && nat_le q.first r.last

-- there are some, each is a device, and none is one of those before
abbrev pub are_new : List Requesters → Requesters → Bool
are_new before r = nat_le r.first r.last && nat_lt (r.dev.0 + (r.last - r.first)) (2 ^ 32) && not (list_any (meet r) before)

abbrev pub all_new : List Requesters → ℕ → List Requesters → Result (Unit {0}) DescFault
all_new before n [] = Ok tt
all_new before n (r ∷ rs) = if are_new before r then all_new (r ∷ before) (suc n) rs else Err (BadRequesters n)

-- memory with the bytes that the description puts there, or the first of these fills, from number n on, that doesn't lie in one window
abbrev pub filled : List Window → ℕ → List Fill → Result (List Window) DescFault
filled memory n [] = Ok memory
filled memory n (f ∷ fills) = ok_or (write_at memory f.addr.0 f.bytes) (Bytes n) >>= λ m. filled m (n + 1) fills

-- ---- the first state

-- nothing is pending
abbrev pub idle_redistributor : List ℕ → Bases → Redistributor
idle_redistributor config bases = record { bases = bases; pending = []; accepts = bases.on; config = config }

-- nothing pending, and the configuration as memory has it; or LPIs off, where the guest programs the tables
abbrev pub first_redistributors : Shape → List Window → LpiTables → Result (List Redistributor) DescFault
first_redistributors s memory (Described config pending) =
    ok_or (read_at memory config.0 (lpi_count s.lpi_bits)) Config >>= λ bytes. Ok (map (idle_redistributor bytes) (map (described_bases config) pending))
first_redistributors s memory (Registers values) = Ok (replicate s.vcpus (off_redistributor s no_bases))

-- registers at reset, and no map
abbrev pub started : Desc → List Window → List Redistributor → Plain
started d memory redistributors = record {
  layout = layout_of d;
  translators = replicate (length d.translators) (record { regs = reset d.shape.dev_bits; maps = no_maps });
  redistributors = redistributors;
  memory = memory;
  track = track_of d.track memory;
}

-- memory can have these windows, and they have no more bytes together than the limit
abbrev pub windows_fit : Desc → Bool
windows_fit d = are_windows (pairs d.windows) && nat_le (sum (map (λ w. w.1) (pairs d.windows))) d.memory_limit

-- the first state of the machine, or the first thing that is wrong with the description
unfoldable pub made : Desc → Result Plain DescFault
made d = do
  _ ← ensure (windows_fit d) Windows
  _ ← tables_inside d.shape (map zeros (pairs d.windows)) d.tables
  memory ← filled (map zeros (pairs d.windows)) 0 d.fills
  _ ← all_frames_fit (pairs d.windows) 0 d.translators
  _ ← all_new [] 0 d.requesters
  redistributors ← first_redistributors d.shape memory d.tables
  Ok (started d memory redistributors)
