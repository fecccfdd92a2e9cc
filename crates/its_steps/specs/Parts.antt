-- The parts of a shared machine: which there are, where each has its turn and its slot, and what each may contain.
use Rattle.std.specs.Prelude.{◌≡◌, ◌⊎◌, ℕ, ◌+◌, ◌*◌, ◌/◌, ◌%◌, ◌<◌, ◌≤◌, true, ◌==◌, if◌then◌else◌, List, length, slice_get, slice_index_or, Option, Some}
use Rattle.std.specs.Prelude.{None, Ok}
use Rattle.std.specs.List.{AllByRecursion}
use Rattle.std.specs.Option.{option_map}
use Rattle.its_types.specs.Ranges.{is_lpi}
use Rattle.its_types.specs.declared.machine.Limits.{Limits}
use Rattle.its_types.specs.declared.machine.Part.{Part}
use Rattle.its_types.specs.declared.machine.Part.TheVariants as part
use Rattle.its_types.specs.declared.machine.Word.{Word}
use Rattle.its_plain.specs.Plain.{Plain, conf_of, pend_of, translator}
use Rattle.its_plain.specs.Sound.{IsSound}
use Rattle.its_plain.specs.Translation.{located}
use Rattle.xlate_cache.specs.Pairs.{shard_number}
use Rattle.xlate_cache.specs.Ways.{IsShard}
use Rattle.xlate_cache.specs.declared.entry.Entry.{Entry as Translation}
use Rattle.its_steps.specs.Contents.{Content, Maps, Mem, Shard, Conf, Pend, Held}

-- what no step changes: the first state, the limits, and how many shards each translator's cache has
pub record Setup : Type 0 where
  pub start : Plain
  pub limits : Limits
  pub shards : ℕ

abbrev pub translator_count : Setup → ℕ
translator_count s = length s.start.translators

abbrev pub vcpu_count : Setup → ℕ
vcpu_count s = s.start.layout.shape.vcpus

-- the first state has just the redistributors that its layout says
abbrev pub HasVcpus : Setup → Type 0
HasVcpus s = length s.start.redistributors ≡ vcpu_count s

-- a state of this machine
pub record IsOfMachine (s : Setup) (u : Plain) : Type 0 where
  pub sound : IsSound u
  pub layout : s.start.layout ≡ u.layout
  pub translators : length s.start.translators ≡ length u.translators
  pub redistributors : length s.start.redistributors ≡ length u.redistributors

-- ---- which parts there are

abbrev pub Stands : Setup → Part → Type 0
Stands s (part.Maps its) = its < translator_count s
Stands s part.Mem = Unit {0}
Stands s (part.Shard its n) = (its < translator_count s) × (n < s.shards)
Stands s (part.Conf vcpu) = vcpu.0 < vcpu_count s
Stands s (part.Pend vcpu) = vcpu.0 < vcpu_count s

-- The number of a part's turn and of its slot: each translator's maps, guest memory, the shards of one translator after another, the configurations of all
-- redistributors, and what is pending at each
abbrev pub index_of : Setup → Part → ℕ
index_of s (part.Maps its) = its
index_of s part.Mem = translator_count s
index_of s (part.Shard its n) = translator_count s + 1 + (its * s.shards + n)
index_of s (part.Conf vcpu) = translator_count s + 1 + translator_count s * s.shards + vcpu.0
index_of s (part.Pend vcpu) = translator_count s + 1 + translator_count s * s.shards + vcpu_count s + vcpu.0

abbrev pub part_count : Setup → ℕ
part_count s = translator_count s + 1 + translator_count s * s.shards + vcpu_count s + vcpu_count s

-- ---- stamps

-- The stamp of a translator in the word's: one translator has all 24 bits, and of two the first has the upper 12 and the second the lower 12
unfoldable pub stamp_at : ℕ → ℕ → ℕ → ℕ
stamp_at translators stamp its = if translators == 2 then (if its == 0 then stamp / 4096 else stamp % 4096) else stamp

-- the word's stamp, where that of a translator is another
unfoldable pub stamp_with : ℕ → ℕ → ℕ → ℕ → ℕ
stamp_with translators stamp its new = if translators == 2 then (if its == 0 then new * 4096 + stamp % 4096 else stamp / 4096 * 4096 + new) else new

-- the stamp that a translator's cached translations have while they are current
abbrev pub stamp_of : Setup → Word → ℕ → ℕ
stamp_of s word its = stamp_at (translator_count s) word.stamp its

-- there are one or two translators, and the stamps of two have room in 12 bits each
abbrev pub HasStamps : Setup → Type 0
HasStamps s = (translator_count s ≡ 1) ⊎ ((translator_count s ≡ 2) × (s.limits.stamp_last < 4096))

-- ---- what they contain

-- An entry in shard n of a translator's cache: it is of a pair of that shard, no stamp is of the future, and its target is one
-- that the machine has, however old it is. One of the current stamp is where registers and maps send its pair, whether or not the
-- target's LPIs are on
pub record IsCached (s : Setup) (word : Word) (u : Plain) (its n : ℕ) (e : Translation) : Type 0 where
  pub shard : shard_number e.dev.0 e.ev.0 s.shards ≡ n
  pub stamp : e.stamp ≤ stamp_of s word its
  pub vcpu : e.target.vcpu.0 < vcpu_count s
  pub lpi : is_lpi s.start.layout.shape.lpi_bits e.target.intid.0 ≡ true
  pub current : e.stamp ≡ stamp_of s word its → located (translator u its) e.dev.0 e.ev.0 ≡ Ok e.target

pub record IsCache (s : Setup) (word : Word) (u : Plain) (its n : ℕ) (ways : List (Option Translation)) : Type 0 where
  pub shard : IsShard ways
  pub entries : (i : ℕ) (e : Translation) → slice_index_or ways i None ≡ Some e → IsCached s word u its n e

-- What a part may contain, where the machine's state is u: of maps, memory and redistributors just what the state has
abbrev pub Right : Setup → Word → Plain → Part → Content → Type 0
Right s word u (part.Maps its) (Maps t) = slice_get u.translators its ≡ Some t
Right s word u part.Mem (Mem memory track) = (u.memory ≡ memory) × (u.track ≡ track)
Right s word u (part.Shard its n) (Shard ways) = IsCache s word u its n ways
Right s word u (part.Conf vcpu) (Conf c) = option_map conf_of (slice_get u.redistributors vcpu.0) ≡ Some c
Right s word u (part.Pend vcpu) (Pend p) = option_map pend_of (slice_get u.redistributors vcpu.0) ≡ Some p
Right s word u p c = ⊥

-- The state has this in the part. Of a shard it has nothing
abbrev pub Has : Plain → Part → Content → Type 0
Has u (part.Maps its) (Maps t) = slice_get u.translators its ≡ Some t
Has u part.Mem (Mem memory track) = (u.memory ≡ memory) × (u.track ≡ track)
Has u (part.Shard its n) (Shard ways) = Unit {0}
Has u (part.Conf vcpu) (Conf c) = option_map conf_of (slice_get u.redistributors vcpu.0) ≡ Some c
Has u (part.Pend vcpu) (Pend p) = option_map pend_of (slice_get u.redistributors vcpu.0) ≡ Some p
Has u p c = ⊥

-- it has all that is held, as it is owed
abbrev pub HasAll : Plain → List Held → Type 0
HasAll u held = AllByRecursion (λ x. Has u x.part x.owed) held

-- the content is of the part's kind
abbrev pub Suits : Part → Content → Type 0
Suits (part.Maps its) (Maps t) = Unit {0}
Suits part.Mem (Mem memory track) = Unit {0}
Suits (part.Shard its n) (Shard ways) = Unit {0}
Suits (part.Conf vcpu) (Conf c) = Unit {0}
Suits (part.Pend vcpu) (Pend p) = Unit {0}
Suits p c = ⊥
