-- What each script keeps to: how many there may be of each thing, and in which range each field of its calls is.
use Rattle.std.specs.Prelude.{◌≡◌, ◌<◌, ◌≤◌, ◌⊎◌, ℕ, ◌+◌, ◌*◌, ◌%◌, ◌^◌, Bool, true, ◌&&◌, ◌||◌, ◌==◌, nat_lt, nat_le, List, length, Some, None}
use Rattle.std.specs.List.{list_all}
use Rattle.its_types.specs.declared.machine.Limits.{Limits}
use Rattle.its_plain.specs.declared.call.Call.{Call}
use Rattle.its_plain.specs.declared.call.Call.TheVariants as call
use Rattle.its_plain.specs.Machine.{IsDescription}
use Rattle.its_plain.specs.declared.desc.Desc.{Desc}
use Rattle.its_plain.specs.declared.desc.Its.{Its}
use Rattle.its_plain.specs.declared.desc.Fill.{Fill}
use Rattle.its_plain.specs.declared.desc.LpiTables.{LpiTables}
use Rattle.its_plain.specs.declared.desc.LpiTables.TheVariants.{Described, Registers}
use Rattle.event_script.specs.Description.{is_shard_count}
use Rattle.event_script.specs.Body.{may_move}
use Rattle.event_script.specs.Routes.{said_route, same_route}
use Rattle.event_script.specs.declared.draft.TheConstants.{MOST_LEGS, MOST_PHASES, MOST_THREADS, MOST_CALLS, MOST_REQUESTERS}
use Rattle.event_script.specs.declared.script.Script.{Script}

-- ---- bytes

-- each is below 256
abbrev pub are_bytes : List ℕ → Bool
are_bytes bytes = list_all (λ b. nat_lt b 256) bytes

-- bytes, one or more, and no more than so many
abbrev pub has_bytes : ℕ → List ℕ → Bool
has_bytes most bytes = nat_lt 0 (length bytes) && nat_le (length bytes) most && are_bytes bytes

-- ---- calls

-- 4 or 8 bytes
abbrev pub is_access_size : ℕ → Bool
is_access_size size = size == 4 || size == 8

-- a call of a machine with this description
abbrev pub is_call : Desc → Call → Bool
is_call d (call.Signal its dev ev) = nat_lt its (length d.translators)
is_call d (call.Take vcpu) = nat_lt vcpu.0 d.shape.vcpus
is_call d (call.Show vcpu) = nat_lt vcpu.0 d.shape.vcpus
is_call d (call.Best vcpu mask) = nat_lt vcpu.0 d.shape.vcpus
is_call d (call.Claim vcpu intid) = nat_lt vcpu.0 d.shape.vcpus
is_call d (call.Poke addr bytes) = has_bytes 64 bytes
is_call d (call.Peek addr count) = nat_le 1 count && nat_le count 64
is_call d (call.ReadReg its off size) = nat_lt its (length d.translators) && is_access_size size
is_call d (call.WriteReg its off size value) = nat_lt its (length d.translators) && is_access_size size && nat_lt value (2 ^ (8 * size))
is_call d (call.ReadGicr vcpu off size) = nat_lt vcpu.0 d.shape.vcpus && is_access_size size
is_call d (call.WriteGicr vcpu off size value) = nat_lt vcpu.0 d.shape.vcpus && is_access_size size && nat_lt value (2 ^ (8 * size))
is_call d (call.Step its) = nat_lt its (length d.translators)
is_call d call.Save = true
is_call d call.Copy = d.track
is_call d (call.Dma req addr bytes route) = has_bytes 64 bytes && same_route route (said_route d req addr.0 bytes)

abbrev pub is_thread : Desc → List Call → Bool
is_thread d calls = nat_le (length calls) MOST_CALLS && list_all (is_call d) calls

abbrev pub is_phase : Desc → List (List Call) → Bool
is_phase d threads = nat_lt 0 (length threads) && nat_le (length threads) MOST_THREADS && list_all (is_thread d) threads

abbrev pub is_leg : Desc → List (List (List Call)) → Bool
is_leg d phases = nat_le (length phases) MOST_PHASES && list_all (is_phase d) phases

-- ---- descriptions

abbrev pub are_limits : Limits → Bool
are_limits l = nat_le 1 l.stamp_last && nat_lt l.stamp_last (2 ^ 24) && nat_le 1 l.place_last && nat_lt l.place_last (2 ^ 40)

abbrev pub is_fill : Fill → Bool
is_fill f = has_bytes 4096 f.bytes

-- two translators have stamps that share a word
abbrev pub HasStamps : Desc → Type 0
HasStamps d = (length d.translators ≡ 1) ⊎ ((length d.translators ≡ 2) × (d.limits.stamp_last < 4096))

-- frames stand at a multiple of 64 KiB
abbrev pub has_frames : Its → Bool
has_frames t = elim t.frames [ None ↦ true | Some base ↦ base.0 % 65536 == 0 ]

-- values to restore are there for each of so many redistributors, where the guest programs their tables
abbrev pub HasRegisters : ℕ → LpiTables → Type 0
HasRegisters vcpus (Described config pending) = Unit {0}
HasRegisters vcpus (Registers values) = length values.registers ≡ vcpus

pub record IsWithinLimits (s : Script) : Type 0 where
  pub description : IsDescription s.desc
  pub shards : is_shard_count s.desc.shards ≡ true
  pub limits : are_limits s.desc.limits ≡ true
  pub stamps : HasStamps s.desc
  pub some_windows : 0 < length s.desc.windows
  pub most_windows : length s.desc.windows ≤ 16
  pub fills : list_all is_fill s.desc.fills ≡ true
  pub fill_lines : length s.fill_lines ≡ length s.desc.fills
  pub registers : HasRegisters s.desc.shape.vcpus s.desc.tables
  pub frames : list_all has_frames s.desc.translators ≡ true
  pub requesters : length s.desc.requesters ≤ MOST_REQUESTERS
  pub requester_lines : length s.requester_lines ≡ length s.desc.requesters
  pub some_legs : 0 < length s.legs
  pub most_legs : length s.legs ≤ MOST_LEGS
  pub legs : list_all (is_leg s.desc) s.legs ≡ true
  pub moves : length s.moves + 1 ≡ length s.legs
  pub ways : list_all (may_move s.desc.track) s.moves ≡ true
