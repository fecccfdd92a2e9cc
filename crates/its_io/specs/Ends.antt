-- What the sources and sinks in memory show of their fields.
use Rattle.std.specs.Prelude.{ℕ, ◌-◌, ◌==◌, nat_lt, ◌&&◌, ◌||◌, Bool, List, length, drop, min, if◌then◌else◌, Option, Some, None}
use Rattle.its_io.specs.Script.{Script, refuses, with_call, with_fault}
use Rattle.its_io.specs.declared.memory.MemSource.{MemSource}
use Rattle.its_io.specs.declared.memory.MemSink.{MemSink}
use Rattle.its_io.specs.declared.sure.SureSource.{SureSource}
use Rattle.its_io.specs.declared.sure.SureSink.{SureSink}

-- ---- with a script

abbrev pub bytes_left : MemSource → List ℕ
bytes_left s = drop s.at s.bytes.items

abbrev pub source_script : MemSource → Script
source_script s = s.script

-- how many bytes a read into a buffer of n moves
abbrev pub read_count : MemSource → ℕ → ℕ
read_count s n = min (min (length (bytes_left s)) n) s.script.most

abbrev pub bytes_held : MemSink → List ℕ
bytes_held s = s.bytes.items

abbrev pub sink_script : MemSink → Script
sink_script s = s.script

abbrev pub sink_room : MemSink → ℕ
sink_room s = s.room - length s.bytes.items

-- how many bytes a write of n moves
abbrev pub write_count : MemSink → ℕ → ℕ
write_count s n = min (min n (sink_room s)) s.script.most

-- whether a write of n fails: the script says so, or the sink is full and there is something to write
abbrev pub fails_to_write : MemSink → ℕ → Bool
fails_to_write s n = refuses s.script || (sink_room s == 0 && nat_lt 0 n)

-- the script after a call that failed or not
abbrev pub after_call : Script → Bool → Script
after_call s failed = if failed then with_fault (with_call s) else with_call s

-- ---- that never fail

abbrev pub sure_left : SureSource → List ℕ
sure_left s = drop s.at s.bytes.items

-- none after more bytes came than there is room for
abbrev pub sure_held : SureSink → Option (List ℕ)
sure_held s = if s.over then None else Some s.bytes.items

abbrev pub sure_room : SureSink → ℕ
sure_room s = s.room - length s.bytes.items
