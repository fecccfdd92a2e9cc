-- Stretches of guest memory of any length. They are read and written in pieces of 64 bytes, counted from the first byte; the
-- last piece may be shorter.
use Rattle.std.specs.Prelude.{ℕ, zero, suc, ◌+◌, ◌-◌, ◌*◌, ◌/◌, min, if◌then◌else◌, List, length, take, drop, unwrap_or}
use Rattle.std.specs.Option.{option_map}
use Rattle.dirty_log.specs.Copies.{wrote}
use Rattle.guest_windows.specs.Windows.{Window, inside, write_at}
use Rattle.its_plain.specs.Plain.{Plain}

-- how many pieces n bytes have
abbrev pub piece_count : ℕ → ℕ
piece_count n = (n + 63) / 64

-- how long piece i of n bytes is
abbrev pub piece_length : ℕ → ℕ → ℕ
piece_length n i = min 64 (n - 64 * i)

-- piece i of some bytes
abbrev pub piece_of : List ℕ → ℕ → List ℕ
piece_of bytes i = take (piece_length (length bytes) i) (drop (64 * i) bytes)

-- memory with the bytes at an address, where one window has them all
abbrev pub with_bytes : List Window → ℕ → List ℕ → List Window
with_bytes memory address bytes = unwrap_or (write_at memory address bytes) memory

-- memory with the first i pieces of the bytes from an address on, those that lie in one window each
unfoldable pub with_pieces : List Window → ℕ → List ℕ → ℕ → List Window
with_pieces memory address bytes zero = memory
with_pieces memory address bytes (suc i) = with_bytes (with_pieces memory address bytes i) (address + 64 * i) (piece_of bytes i)

-- all at once, or piece by piece where no window has them all
abbrev pub with_stretch : List Window → ℕ → List ℕ → List Window
with_stretch memory address bytes =
    if inside memory address (length bytes) then with_bytes memory address bytes
    else with_pieces memory address bytes (piece_count (length bytes))

-- the state with all of them, their pages dirty
abbrev pub written_to : Plain → ℕ → List ℕ → Plain
written_to u address bytes = record u {
  memory = with_stretch u.memory address bytes;
  track = option_map (wrote address (length bytes)) u.track;
}
