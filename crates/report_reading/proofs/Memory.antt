-- Bytes that are written to memory, and read of it.
use Rattle.std.proofs.Common.{◌≡◌, ℕ, zero, suc, ◌+◌, ◌-◌, true, nat_lt, List, [], ◌∷◌, ◌++◌, length, take, drop, replicate, map, Option, Some, None}
use Rattle.std.proofs.Common.{refl}
use Rattle.std.specs.Prelude.{IfSome, unwrap_or}
use Rattle.std.specs.Option.{option_map}
use Rattle.std.proofs.lemmas.Bool.{and_from, and_parts, cond_both}
use Rattle.byteorder.specs.Endian.{little_bytes}
use Rattle.guest_windows.specs.Windows.{Window, has, piece, put, read_at, write_at, zeros}
use Rattle.baser_place.specs.Places.{entry_address}
use Rattle.its_plain.specs.Saved.{Words, put_word, put_words, put_tables}
use Rattle.event_script.specs.Limits.{are_bytes}
use Rattle.event_script.proofs.Bytes.{little_bytes_small, bytes_appended}
use Rattle.report_reading.specs.Bytes.{AllBytes}

abbrev pub AreBytes : List ℕ → Type 0
AreBytes bytes = are_bytes bytes ≡ true

-- ---- parts of a list

taken : (n : ℕ) (xs : List ℕ) → AreBytes xs → AreBytes (take n xs)
taken zero xs h = refl
taken (suc n) [] h = refl
taken (suc n) (x ∷ xs) h =
    let parts = and_parts (nat_lt x 256) (are_bytes xs) h in and_from (nat_lt x 256) (are_bytes (take n xs)) parts.0 (taken n xs parts.1)

dropped : (n : ℕ) (xs : List ℕ) → AreBytes xs → AreBytes (drop n xs)
dropped zero xs h = h
dropped (suc n) [] h = refl
dropped (suc n) (x ∷ xs) h = dropped n xs (and_parts (nat_lt x 256) (are_bytes xs) h).1

zero_bytes : (n : ℕ) → AreBytes (replicate n 0)
zero_bytes zero = refl
zero_bytes (suc n) = zero_bytes n

pub empty_windows : (ws : List (ℕ × ℕ)) → AllBytes (map zeros ws)
empty_windows [] = tt
empty_windows (w ∷ ws) = (zero_bytes w.1, empty_windows ws)

-- ---- reads

pub read_small : (memory : List Window) (address n : ℕ) → AllBytes memory → IfSome (read_at memory address n) AreBytes
read_small [] address n h = tt
read_small (w ∷ ws) address n h =
    cond_both (has w address n) (Some (piece w address n)) (read_at ws address n) (λ o. IfSome o AreBytes)
    (λ _. taken n (drop (address - w.base) w.bytes) (dropped (address - w.base) w.bytes h.0)) (λ _. read_small ws address n h.1)

-- ---- writes

put_small : (w : Window) (address : ℕ) (bytes : List ℕ) → AreBytes w.bytes → AreBytes bytes → AreBytes (put w address bytes).bytes
put_small w address bytes old new =
    let at : ℕ = address - w.base in
    bytes_appended (take at w.bytes ++ bytes) (drop (at + length bytes) w.bytes) (bytes_appended (take at w.bytes) bytes (taken at w.bytes old) new)
    (dropped (at + length bytes) w.bytes old)

with_first : (w : Window) (o : Option (List Window)) → AreBytes w.bytes → IfSome o AllBytes → IfSome (option_map (λ others. w ∷ others) o) AllBytes
with_first w None first others = tt
with_first w (Some ws) first others = (first, others)

pub written_small : (memory : List Window) (address : ℕ) (bytes : List ℕ) → AllBytes memory → AreBytes bytes → IfSome (write_at memory address bytes) AllBytes
written_small [] address bytes h new = tt
written_small (w ∷ ws) address bytes h new =
    cond_both (has w address (length bytes)) (Some (put w address bytes ∷ ws)) (option_map (λ others. w ∷ others) (write_at ws address bytes))
    (λ o. IfSome o AllBytes)
    (λ _. (put_small w address bytes h.0 new, h.1)) (λ _. with_first w (write_at ws address bytes) h.0 (written_small ws address bytes h.1 new))

pub maybe_written : (memory : List Window) (o : Option (List Window)) → AllBytes memory → IfSome o AllBytes → AllBytes (unwrap_or o memory)
maybe_written memory None old new = old
maybe_written memory (Some now) old new = new

-- ---- saves

word_small : (memory : List Window) (address word : ℕ) → AllBytes memory → AllBytes (put_word memory address word)
word_small memory address word h =
    let bytes : List ℕ = little_bytes 8 word in
    maybe_written memory (write_at memory address bytes) h (written_small memory address bytes h (little_bytes_small 8 word))

words_small : (memory : List Window) (base : ℕ) (word : ℕ → ℕ) (n : ℕ) → AllBytes memory → AllBytes (put_words memory base word n)
words_small memory base word zero h = h
words_small memory base word (suc n) h = word_small (put_words memory base word n) (entry_address base n) (word n) (words_small memory base word n h)

pub tables_small : (memory : List Window) (ts : List Words) → AllBytes memory → AllBytes (put_tables memory ts)
tables_small memory [] h = h
tables_small memory (t ∷ ts) h = tables_small (put_words memory t.base t.word t.count) ts (words_small memory t.base t.word t.count h)
