-- Bytes of guest memory, of calls and of replies: numbers below 256.
use Rattle.std.specs.Prelude.{◌≡◌, true, List}
use Rattle.std.specs.List.{AllByRecursion}
use Rattle.guest_windows.specs.Windows.{Window}
use Rattle.its_plain.specs.Plain.{Plain}
use Rattle.its_plain.specs.declared.call.Call.{Call}
use Rattle.its_plain.specs.declared.call.Call.TheVariants as call
use Rattle.its_plain.specs.declared.call.Reply.{Reply}
use Rattle.its_plain.specs.declared.call.Reply.TheVariants as reply
use Rattle.its_plain.specs.declared.desc.Fill.{Fill}
use Rattle.event_script.specs.Limits.{are_bytes}

-- in each window
abbrev pub AllBytes : List Window → Type 0
AllBytes memory = AllByRecursion (λ w. are_bytes w.bytes ≡ true) memory

-- in guest memory
abbrev pub HasBytes : Plain → Type 0
HasBytes u = AllBytes u.memory

-- in each fill of a description
abbrev pub FillBytes : List Fill → Type 0
FillBytes fills = AllByRecursion (λ f. are_bytes f.bytes ≡ true) fills

-- what a call puts into memory
abbrev pub GivesBytes : Call → Type 0
GivesBytes (call.Poke addr bytes) = are_bytes bytes ≡ true
GivesBytes (call.Dma req addr bytes route) = are_bytes bytes ≡ true
GivesBytes _ = Unit {0}

-- what a reply tells of memory
abbrev pub TellsBytes : Reply → Type 0
TellsBytes (reply.Bytes bytes) = are_bytes bytes ≡ true
TellsBytes _ = Unit {0}
