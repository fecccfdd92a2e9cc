-- Which line's command last changed what a translator's maps answer, and which line wrote each 32 bytes of guest memory.
use Rattle.std.specs.Prelude.{ℕ, Bool, true, false, ◌&&◌, ◌==◌, ◌+◌, ◌-◌, ◌^◌, ◌/◌, nat_le, nat_lt, min, if◌then◌else◌, List, [], ◌∷◌, length, Option, Some, None}
use Rattle.std.specs.List.{list_any}
use Rattle.std.specs.Option.{unwrap_or}
use Rattle.std.specs.BTreeMap as tree
use Rattle.std.specs.Ordering.{nat_cmp}
use Rattle.its_plain.specs.declared.call.Call.{Call}
use Rattle.its_plain.specs.declared.call.Call.TheVariants as call
use Rattle.its_plain.specs.declared.call.Reply.{Reply}
use Rattle.its_plain.specs.declared.call.Reply.TheVariants as reply
use Rattle.its_plain.specs.declared.desc.Fill.{Fill}
use Rattle.its_types.specs.declared.ids.Addr.{Addr}
use Rattle.its_explain.specs.contracts.book.AskedOrd.TheImpl as asked
use Rattle.call_facts.specs.declared.answers.Key.{Key}
use Rattle.call_facts.specs.declared.answers.Key.TheVariants as key
use Rattle.its_explain.specs.declared.book.Book.{Book}

-- two questions to the maps are the same
abbrev pub is_key : Key → Key → Bool
is_key (key.Device d) (key.Device e) = d.0 == e.0
is_key (key.Device d) (key.Event e w) = false
is_key (key.Device d) (key.Collection c) = false
is_key (key.Event d v) (key.Device e) = false
is_key (key.Event d v) (key.Event e w) = d.0 == e.0 && v.0 == w.0
is_key (key.Event d v) (key.Collection c) = false
is_key (key.Collection b) (key.Device e) = false
is_key (key.Collection b) (key.Event e w) = false
is_key (key.Collection b) (key.Collection c) = b.0 == c.0

-- a question is one of these to this translator
abbrev pub is_among : ℕ → List Key → ℕ → Key → Bool
is_among its keys i k = its == i && list_any (λ (x : Key). is_key x k) keys

-- the line whose command last changed an answer
unfoldable pub changer : Book → ℕ → Key → Option ℕ
changer b i k = tree.get asked.ghosts.cmp b.changers (record { its = i; key = k })

-- the 32 bytes that an address lies in, and those of the last of so many bytes
abbrev pub slot_of : ℕ → ℕ
slot_of addr = addr / 32

abbrev pub last_slot : ℕ → ℕ → ℕ
last_slot addr count = slot_of (min (addr + (count - 1)) (2 ^ 64 - 1))

-- the second lies in the slots from the first on, up to before the third
abbrev pub lies_in : ℕ → ℕ → ℕ → Bool
lies_in first slot end = nat_le first slot && nat_lt slot end

-- writing so many bytes from an address on meets the 32 bytes of another
abbrev pub meets : ℕ → ℕ → ℕ → Bool
meets addr count a = lies_in (slot_of addr) (slot_of a) (last_slot addr count + 1)

-- the line that last wrote the 32 bytes of an address
unfoldable pub writer : Book → ℕ → Option ℕ
writer b a = tree.get nat_cmp b.writers (slot_of a)

-- the last of these lines that filled the 32 bytes of an address
abbrev pub line_after : Option ℕ → List Fill → List ℕ → ℕ → Option ℕ
line_after last [] lines a = last
line_after last (f ∷ fs) [] a = last
line_after last (f ∷ fs) (l ∷ ls) a = line_after (if meets f.addr.0 (length f.bytes) a then Some l else last) fs ls a

abbrev pub line_of : List Fill → List ℕ → ℕ → Option ℕ
line_of = line_after None

-- the line by which a call of a line changes answers: of a step that takes the command there, the one that wrote it, if one did
abbrev pub line_by : Book → Option Addr → ℕ → ℕ
line_by b None line = line
line_by b (Some addr) line = unwrap_or (writer b addr.0) line

-- a call that was taken wrote bytes of guest memory
abbrev pub is_ok : Reply → Bool
is_ok reply.Ok = true
is_ok (reply.Signal s) = false
is_ok (reply.Ack a) = false
is_ok reply.Outside = false
is_ok (reply.Bytes b) = false
is_ok (reply.Value v) = false
is_ok (reply.Step s) = false
is_ok reply.Saved = false
is_ok (reply.SaveFault f) = false
is_ok (reply.Copied n) = false
is_ok reply.NoRequester = false

-- a call writes the 32 bytes of an address
abbrev pub asks : Call → ℕ → Bool
asks (call.Poke addr bytes) a = meets addr.0 (length bytes) a
asks (call.Dma req addr bytes route) a = meets addr.0 (length bytes) a
asks (call.Signal its dev ev) a = false
asks (call.Take vcpu) a = false
asks (call.Show vcpu) a = false
asks (call.Best vcpu mask) a = false
asks (call.Claim vcpu intid) a = false
asks (call.Peek addr count) a = false
asks (call.ReadReg its off size) a = false
asks (call.WriteReg its off size value) a = false
asks (call.ReadGicr vcpu off size) a = false
asks (call.WriteGicr vcpu off size value) a = false
asks (call.Step its) a = false
asks call.Save a = false
asks call.Copy a = false

abbrev pub writes : Call → Reply → ℕ → Bool
writes c r a = is_ok r && asks c a
