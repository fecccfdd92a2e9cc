-- The lines of calls.
use Rattle.std.specs.Prelude.{ℕ, ◌-◌, ◌*◌, ◌^◌, ◌||◌, ◌==◌, List, length, Result, Ok}
use Rattle.byteorder.specs.Endian.{little_bytes}
use Rattle.its_command.specs.Commands.{encoded}
use Rattle.its_plain.specs.declared.call.Call.{Call}
use Rattle.its_plain.specs.declared.call.Call.TheVariants as call
use Rattle.its_plain.specs.declared.desc.Desc.{Desc}
use Rattle.event_script.specs.Outcome.{◌>>=◌, ensure}
use Rattle.event_script.specs.Fields.{arg, number_within, any_number, address, device, event, interrupt, processor, bytes_within}
use Rattle.event_script.specs.Words.{command_word_of}
use Rattle.event_script.specs.Commands.{command_fields, command_of}
use Rattle.event_script.specs.Routes.{dma_call}
use Rattle.event_script.specs.declared.fault.Kind.{Kind}
use Rattle.event_script.specs.declared.fault.Kind.TheVariants as kind
use Rattle.event_script.specs.declared.words.CallWord.{CallWord}
use Rattle.event_script.specs.declared.words.CallWord.TheVariants as on

-- ---- the call of each line

-- of the translator with a number
unfoldable pub signal_of : ℕ → List (List ℕ) → Result Call Kind
signal_of its fs = do
  _ ← ensure (length fs == 3) kind.Fields
  dev ← device (arg fs 1)
  ev ← event (arg fs 2)
  Ok (call.Signal its dev ev)

unfoldable pub take_of : ℕ → List (List ℕ) → Result Call Kind
take_of vcpus fs = do
  _ ← ensure (length fs == 2) kind.Fields
  vcpu ← processor vcpus (arg fs 1)
  Ok (call.Take vcpu)

unfoldable pub show_of : ℕ → List (List ℕ) → Result Call Kind
show_of vcpus fs = do
  _ ← ensure (length fs == 2) kind.Fields
  vcpu ← processor vcpus (arg fs 1)
  Ok (call.Show vcpu)

-- the mask is a priority
unfoldable pub best_of : ℕ → List (List ℕ) → Result Call Kind
best_of vcpus fs = do
  _ ← ensure (length fs == 3) kind.Fields
  vcpu ← processor vcpus (arg fs 1)
  mask ← number_within 0 (2 ^ 8 - 1) (arg fs 2)
  Ok (call.Best vcpu mask)

unfoldable pub claim_of : ℕ → List (List ℕ) → Result Call Kind
claim_of vcpus fs = do
  _ ← ensure (length fs == 3) kind.Fields
  vcpu ← processor vcpus (arg fs 1)
  intid ← interrupt (arg fs 2)
  Ok (call.Claim vcpu intid)

unfoldable pub poke_of : List (List ℕ) → Result Call Kind
poke_of fs = do
  _ ← ensure (length fs == 3) kind.Fields
  addr ← address (arg fs 1)
  bytes ← bytes_within 64 (arg fs 2)
  Ok (call.Poke addr bytes)

-- the poke of a number's 8 bytes
unfoldable pub word_of : List (List ℕ) → Result Call Kind
word_of fs = do
  _ ← ensure (length fs == 3) kind.Fields
  addr ← address (arg fs 1)
  value ← any_number (arg fs 2)
  Ok (call.Poke addr (little_bytes 8 value))

-- the poke of a command's 32 bytes
unfoldable pub command_call_of : List (List ℕ) → Result Call Kind
command_call_of fs = do
  word ← command_word_of (arg fs 2)
  _ ← ensure (length fs == command_fields word) kind.Fields
  addr ← address (arg fs 1)
  c ← command_of word fs
  Ok (call.Poke addr (encoded c))

unfoldable pub peek_of : List (List ℕ) → Result Call Kind
peek_of fs = do
  _ ← ensure (length fs == 3) kind.Fields
  addr ← address (arg fs 1)
  count ← number_within 1 64 (arg fs 2)
  Ok (call.Peek addr count)

-- 4 or 8
unfoldable pub access_size : List ℕ → Result ℕ Kind
access_size f = do
  size ← number_within 4 8 f
  _ ← ensure (size == 4 || size == 8) kind.Number
  Ok size

unfoldable pub read_of : ℕ → List (List ℕ) → Result Call Kind
read_of its fs = do
  _ ← ensure (length fs == 3) kind.Fields
  off ← number_within 0 (2 ^ 32 - 1) (arg fs 1)
  size ← access_size (arg fs 2)
  Ok (call.ReadReg its off size)

unfoldable pub write_of : ℕ → List (List ℕ) → Result Call Kind
write_of its fs = do
  _ ← ensure (length fs == 4) kind.Fields
  off ← number_within 0 (2 ^ 32 - 1) (arg fs 1)
  size ← access_size (arg fs 2)
  value ← number_within 0 (2 ^ (8 * size) - 1) (arg fs 3)
  Ok (call.WriteReg its off size value)

-- a read of an LPI register of a processor's redistributor
unfoldable pub rread_of : ℕ → List (List ℕ) → Result Call Kind
rread_of vcpus fs = do
  _ ← ensure (length fs == 4) kind.Fields
  vcpu ← processor vcpus (arg fs 1)
  off ← number_within 0 (2 ^ 32 - 1) (arg fs 2)
  size ← access_size (arg fs 3)
  Ok (call.ReadGicr vcpu off size)

unfoldable pub rwrite_of : ℕ → List (List ℕ) → Result Call Kind
rwrite_of vcpus fs = do
  _ ← ensure (length fs == 5) kind.Fields
  vcpu ← processor vcpus (arg fs 1)
  off ← number_within 0 (2 ^ 32 - 1) (arg fs 2)
  size ← access_size (arg fs 3)
  value ← number_within 0 (2 ^ (8 * size) - 1) (arg fs 4)
  Ok (call.WriteGicr vcpu off size value)

unfoldable pub step_of : ℕ → List (List ℕ) → Result Call Kind
step_of its fs = do
  _ ← ensure (length fs == 1) kind.Fields
  Ok (call.Step its)

unfoldable pub save_of : List (List ℕ) → Result Call Kind
save_of fs = do
  _ ← ensure (length fs == 1) kind.Fields
  Ok call.Save

unfoldable pub copy_of : List (List ℕ) → Result Call Kind
copy_of fs = do
  _ ← ensure (length fs == 1) kind.Fields
  Ok call.Copy

-- a requester's write, of a machine with this description
unfoldable pub dma_of : Desc → List (List ℕ) → Result Call Kind
dma_of d fs = do
  _ ← ensure (length fs == 4) kind.Fields
  req ← number_within 0 (2 ^ 32 - 1) (arg fs 1)
  addr ← address (arg fs 2)
  bytes ← bytes_within 64 (arg fs 3)
  Ok (dma_call d req addr bytes)

-- ---- by their first words

-- the call of a line with this word, for the translator with a number where it is a translator's
unfoldable pub call_of : Desc → ℕ → CallWord → List (List ℕ) → Result Call Kind
call_of d its on.Signal fs = signal_of its fs
call_of d its on.Take fs = take_of d.shape.vcpus fs
call_of d its on.Show fs = show_of d.shape.vcpus fs
call_of d its on.Best fs = best_of d.shape.vcpus fs
call_of d its on.Claim fs = claim_of d.shape.vcpus fs
call_of d its on.Poke fs = poke_of fs
call_of d its on.Word fs = word_of fs
call_of d its on.Command fs = command_call_of fs
call_of d its on.Peek fs = peek_of fs
call_of d its on.Read fs = read_of its fs
call_of d its on.Write fs = write_of its fs
call_of d its on.Rread fs = rread_of d.shape.vcpus fs
call_of d its on.Rwrite fs = rwrite_of d.shape.vcpus fs
call_of d its on.Step fs = step_of its fs
call_of d its on.Save fs = save_of fs
call_of d its on.Copy fs = copy_of fs
call_of d its on.Dma fs = dma_of d fs
