-- The lines of a description. Each gives the draft with what it says, or the kind of its first fault.
use Rattle.std.specs.Prelude.{ℕ, ◌+◌, ◌-◌, ◌%◌, ◌^◌, Bool, true, false, not, ◌&&◌, ◌||◌, ◌==◌, nat_lt, nat_le, if◌then◌else◌, List, [], ◌∷◌, ◌++◌, length, replicate}
use Rattle.std.specs.Prelude.{slice_index_or, slice_set, Option, Some, None, is_some, is_none, Result, Ok}
use Rattle.std.specs.List.{list_all}
use Rattle.byteorder.specs.Endian.{little_bytes}
use Rattle.gicr_regs.specs.declared.values.GicrRegisters.{GicrRegisters}
use Rattle.gits_regs.specs.declared.values.RegValues.{RegValues}
use Rattle.its_types.specs.Ranges.{most_vcpus}
use Rattle.its_types.specs.declared.ids.Addr.{Addr}
use Rattle.its_types.specs.declared.machine.Limits.{Limits}
use Rattle.its_types.specs.declared.machine.Profile.{Profile}
use Rattle.its_types.specs.declared.machine.Profile.TheVariants.{One, Two}
use Rattle.event_script.specs.Text.{number}
use Rattle.event_script.specs.Outcome.{◌>>=◌, ensure}
use Rattle.event_script.specs.Fields.{arg, number_within, any_number, address, device, processor, bytes_within}
use Rattle.event_script.specs.Described.{most_stamp}
use Rattle.event_script.specs.declared.fault.Kind.{Kind}
use Rattle.event_script.specs.declared.fault.Kind.TheVariants as kind
use Rattle.its_plain.specs.declared.desc.Its.{Its}
use Rattle.event_script.specs.declared.draft.Draft.{Draft}
use Rattle.event_script.specs.declared.draft.Stage.{Stage}
use Rattle.event_script.specs.declared.draft.Stage.TheVariants as stage
use Rattle.event_script.specs.declared.draft.TheConstants.{FEW_VCPUS, MOST_REQUESTERS}

-- ---- how far a script has come

abbrev pub at_start : Stage → Bool
at_start stage.Start = true
at_start s = false

abbrev pub in_description : Stage → Bool
in_description stage.Description = true
in_description s = false

abbrev pub in_phase : Stage → Bool
in_phase stage.Phase = true
in_phase s = false

abbrev pub in_thread : Stage → Bool
in_thread stage.Thread = true
in_thread s = false

abbrev pub is_ended : Stage → Bool
is_ended stage.Ended = true
is_ended s = false

-- a translator that starts at reset, and has no frames
abbrev pub no_its : Its
no_its = record { restore = None; frames = None }

-- nothing was read
abbrev pub empty : Draft
empty = record {
  stage = stage.Start;
  shards = None;
  limits = None;
  ids = None;
  profile = None;
  windows = [];
  config = None;
  pending = [];
  gicr = false;
  linux = false;
  track = false;
  pair = false;
  first = no_its;
  second = no_its;
  requesters = [];
  requester_lines = [];
  from_kvm = false;
  registers = [];
  fills = [];
  fill_lines = [];
  legs = [];
  moves = [];
  phases = [];
  threads = [];
  calls = [];
}

-- ---- lines

-- the first line of a script: the machine has from so many to so many processors
unfoldable pub count_line : ℕ → ℕ → Draft → List (List ℕ) → Result Draft Kind
count_line least most d fs = do
  _ ← ensure (at_start d.stage) kind.Order
  _ ← ensure (length fs == 2) kind.Fields
  n ← number_within least most (arg fs 1)
  Ok (record d { stage = stage.Description; pending = replicate n None; registers = replicate n None })

-- a machine of few processors
abbrev pub vcpus_line : Draft → List (List ℕ) → Result Draft Kind
vcpus_line d fs = count_line 1 FEW_VCPUS d fs

-- a machine of more
abbrev pub processors_line : Draft → List (List ℕ) → Result Draft Kind
processors_line d fs = count_line (FEW_VCPUS + 1) most_vcpus d fs

abbrev pub is_shard_count : ℕ → Bool
is_shard_count n = n == 1 || n == 2 || n == 4 || n == 8 || n == 16 || n == 32 || n == 64

unfoldable pub shards_line : Draft → List (List ℕ) → Result Draft Kind
shards_line d fs = do
  _ ← ensure (in_description d.stage && is_none d.shards) kind.Order
  _ ← ensure (length fs == 2) kind.Fields
  n ← number_within 1 64 (arg fs 1)
  _ ← ensure (is_shard_count n) kind.Number
  Ok (record d { shards = Some n })

unfoldable pub limits_line : Draft → List (List ℕ) → Result Draft Kind
limits_line d fs = do
  _ ← ensure (in_description d.stage && is_none d.limits) kind.Order
  _ ← ensure (length fs == 3) kind.Fields
  stamp ← number_within 1 (most_stamp d.pair) (arg fs 1)
  place ← number_within 1 (2 ^ 40 - 1) (arg fs 2)
  Ok (record d { limits = Some (record { stamp_last = stamp; place_last = place }) })

-- how many bits a DeviceID has, and then the INTID of an LPI
unfoldable pub ids_line : Draft → List (List ℕ) → Result Draft Kind
ids_line d fs = do
  _ ← ensure (in_description d.stage && is_none d.ids) kind.Order
  _ ← ensure (length fs == 3) kind.Fields
  dev ← number_within 16 20 (arg fs 1)
  lpi ← number_within 14 20 (arg fs 2)
  Ok (record d { ids = Some (record { dev = dev; lpi = lpi }) })

-- the profile with a number, which is 1 or 2
abbrev pub profile_of : ℕ → Profile
profile_of n = if n == 1 then One else Two

unfoldable pub profile_line : Draft → List (List ℕ) → Result Draft Kind
profile_line d fs = do
  _ ← ensure (in_description d.stage && is_none d.profile) kind.Order
  _ ← ensure (length fs == 2) kind.Fields
  n ← number_within 1 2 (arg fs 1)
  Ok (record d { profile = Some (profile_of n) })

unfoldable pub window_line : Draft → List (List ℕ) → Result Draft Kind
window_line d fs = do
  _ ← ensure (in_description d.stage) kind.Order
  _ ← ensure (length fs == 3) kind.Fields
  base ← address (arg fs 1)
  len ← any_number (arg fs 2)
  _ ← ensure (nat_lt (length d.windows) 16) kind.Many
  Ok (record d { windows = d.windows ++ (base, len) ∷ [] })

-- the tables of the redistributors are described where the guest doesn't program them
abbrev pub describes_tables : Draft → Bool
describes_tables d = in_description d.stage && not d.gicr

unfoldable pub config_line : Draft → List (List ℕ) → Result Draft Kind
config_line d fs = do
  _ ← ensure (describes_tables d && is_none d.config) kind.Order
  _ ← ensure (length fs == 2) kind.Fields
  base ← address (arg fs 1)
  Ok (record d { config = Some base })

-- given already of a processor, where the number is that of one
abbrev pub is_given : {A : Type 0} → List (Option A) → Option ℕ → Bool
is_given places None = false
is_given places (Some vcpu) = is_some (slice_index_or places vcpu None)

unfoldable pub pending_line : Draft → List (List ℕ) → Result Draft Kind
pending_line d fs = do
  _ ← ensure (describes_tables d && not (is_given d.pending (number (arg fs 1)))) kind.Order
  _ ← ensure (length fs == 3) kind.Fields
  vcpu ← processor (length d.pending) (arg fs 1)
  base ← address (arg fs 2)
  Ok (record d { pending = slice_set d.pending vcpu.0 (Some base) })

-- the guest programs the tables of the redistributors, of which none is described
unfoldable pub gicr_line : Draft → List (List ℕ) → Result Draft Kind
gicr_line d fs = do
  _ ← ensure (describes_tables d && is_none d.config && list_all is_none d.pending) kind.Order
  _ ← ensure (length fs == 1) kind.Fields
  Ok (record d { gicr = true })

-- the machine has what a Linux guest counts on
unfoldable pub linux_line : Draft → List (List ℕ) → Result Draft Kind
linux_line d fs = do
  _ ← ensure (in_description d.stage && not d.linux) kind.Order
  _ ← ensure (length fs == 1) kind.Fields
  Ok (record d { linux = true })

-- the machine has a second memory
unfoldable pub track_line : Draft → List (List ℕ) → Result Draft Kind
track_line d fs = do
  _ ← ensure (in_description d.stage && not d.track) kind.Order
  _ ← ensure (length fs == 1) kind.Fields
  Ok (record d { track = true })

-- limits that were given leave room for the stamp of a second translator
abbrev pub allow_pair : Option Limits → Bool
allow_pair None = true
allow_pair (Some l) = nat_le l.stamp_last (most_stamp true)

-- the machine has a second translator
unfoldable pub pair_line : Draft → List (List ℕ) → Result Draft Kind
pair_line d fs = do
  _ ← ensure (in_description d.stage && not d.pair) kind.Order
  _ ← ensure (length fs == 1) kind.Fields
  _ ← ensure (allow_pair d.limits) kind.Number
  Ok (record d { pair = true })

-- ---- frames and requesters

-- where two frames of 64 KiB may stand
unfoldable pub frames_base : List ℕ → Result Addr Kind
frames_base f = do
  base ← address f
  _ ← ensure (base.0 % 65536 == 0) kind.Number
  Ok base

unfoldable pub its_base_line : Draft → List (List ℕ) → Result Draft Kind
its_base_line d fs = do
  _ ← ensure (in_description d.stage && is_none d.first.frames) kind.Order
  _ ← ensure (length fs == 2) kind.Fields
  base ← frames_base (arg fs 1)
  Ok (record d { first = record d.first { frames = Some base } })

-- the second translator's
unfoldable pub b_base_line : Draft → List (List ℕ) → Result Draft Kind
b_base_line d fs = do
  _ ← ensure (in_description d.stage && d.pair && is_none d.second.frames) kind.Order
  _ ← ensure (length fs == 2) kind.Fields
  base ← frames_base (arg fs 1)
  Ok (record d { second = record d.second { frames = Some base } })

-- the n-th line: requesters, and the device that the first of them is
unfoldable pub requester_line : Draft → ℕ → List (List ℕ) → Result Draft Kind
requester_line d n fs = do
  _ ← ensure (in_description d.stage) kind.Order
  _ ← ensure (length fs == 4) kind.Fields
  first ← number_within 0 (2 ^ 32 - 1) (arg fs 1)
  last ← number_within 0 (2 ^ 32 - 1) (arg fs 2)
  dev ← device (arg fs 3)
  _ ← ensure (nat_lt (length d.requesters) MOST_REQUESTERS) kind.Many
  Ok (record d { requesters = d.requesters ++ record { first = first; last = last; dev = dev } ∷ []; requester_lines = d.requester_lines ++ n ∷ [] })

-- ---- what is restored

-- the registers to restore, in the order of a line's fields
unfoldable pub register_values : List (List ℕ) → Result RegValues Kind
register_values fs = do
  ctlr ← any_number (arg fs 1)
  cbaser ← any_number (arg fs 2)
  creadr ← any_number (arg fs 3)
  cwriter ← any_number (arg fs 4)
  baser0 ← any_number (arg fs 5)
  baser1 ← any_number (arg fs 6)
  Ok (record { ctlr = ctlr; cbaser = cbaser; creadr = creadr; cwriter = cwriter; baser0 = baser0; baser1 = baser1 })

unfoldable pub restore_line : Draft → List (List ℕ) → Result Draft Kind
restore_line d fs = do
  _ ← ensure (in_description d.stage && is_none d.first.restore) kind.Order
  _ ← ensure (length fs == 7) kind.Fields
  values ← register_values fs
  Ok (record d { first = record d.first { restore = Some values } })

-- the second translator's
unfoldable pub brestore_line : Draft → List (List ℕ) → Result Draft Kind
brestore_line d fs = do
  _ ← ensure (in_description d.stage && d.pair && is_none d.second.restore) kind.Order
  _ ← ensure (length fs == 7) kind.Fields
  values ← register_values fs
  Ok (record d { second = record d.second { restore = Some values } })

-- the registers of a redistributor, in the order of a line's fields
unfoldable pub redistributor_values : List (List ℕ) → Result GicrRegisters Kind
redistributor_values fs = do
  ctlr ← any_number (arg fs 2)
  propbaser ← any_number (arg fs 3)
  pendbaser ← any_number (arg fs 4)
  Ok (record { ctlr = ctlr; propbaser = propbaser; pendbaser = pendbaser })

-- registers to restore are given for redistributors that the guest programs, where the first translator's were given
abbrev pub restores_registers : Draft → Bool
restores_registers d = in_description d.stage && d.gicr && is_some d.first.restore

unfoldable pub rrestore_line : Draft → List (List ℕ) → Result Draft Kind
rrestore_line d fs = do
  _ ← ensure (restores_registers d && not (is_given d.registers (number (arg fs 1)))) kind.Order
  _ ← ensure (length fs == 5) kind.Fields
  vcpu ← processor (length d.registers) (arg fs 1)
  values ← redistributor_values fs
  Ok (record d { registers = slice_set d.registers vcpu.0 (Some values) })

-- KVM saved what is restored
unfoldable pub from_kvm_line : Draft → List (List ℕ) → Result Draft Kind
from_kvm_line d fs = do
  _ ← ensure (in_description d.stage && is_some d.first.restore && not d.from_kvm) kind.Order
  _ ← ensure (length fs == 1) kind.Fields
  Ok (record d { from_kvm = true })

-- ---- bytes for the memory

-- with bytes for the memory, from the n-th line
abbrev pub with_fill : Draft → ℕ → Addr → List ℕ → Draft
with_fill d n addr bytes = record d { fills = d.fills ++ record { addr = addr; bytes = bytes } ∷ []; fill_lines = d.fill_lines ++ n ∷ [] }

unfoldable pub bytes_line : Draft → ℕ → List (List ℕ) → Result Draft Kind
bytes_line d n fs = do
  _ ← ensure (in_description d.stage) kind.Order
  _ ← ensure (length fs == 3) kind.Fields
  addr ← address (arg fs 1)
  bytes ← bytes_within 4096 (arg fs 2)
  Ok (with_fill d n addr bytes)

-- a `word` line of the description
unfoldable pub word_fill_line : Draft → ℕ → List (List ℕ) → Result Draft Kind
word_fill_line d n fs = do
  _ ← ensure (length fs == 3) kind.Fields
  addr ← address (arg fs 1)
  value ← any_number (arg fs 2)
  Ok (with_fill d n addr (little_bytes 8 value))
