-- Guest memory with bytes of any length.
use Rattle.std.proofs.Common.{◌≡◌, ℕ, zero, suc, ◌+◌, ◌-◌, ◌*◌, ◌≤◌, Bool, true, false, List, length, drop, min, map, Option, Some, None}
use Rattle.std.proofs.Common.{inl, inr, refl, sym, ap, subst, ◌∙◌, arith}
use Rattle.std.specs.Prelude.{if◌then◌else◌, unwrap_or, slice_index, is_some, replicate, MatchOption, Result, Ok, Err}
use Rattle.std.specs.Option.{option_map}
use Rattle.std.proofs.lemmas.Bool.{cond_both}
use Rattle.std.proofs.lemmas.List.{length-take, length-drop, length-replicate}
use Rattle.guest_windows.specs.Windows.{Window, inside, write_at, byte_at, extent}
use Rattle.guest_windows.specs.declared.errors.Outside.{Outside}
use Rattle.guest_windows.proofs.Laws.{Apart, extents-write_at, read_at-write_at_apart, is_some-write_at}
use Rattle.its_types.specs.declared.ids.Addr.{Addr}
use Rattle.dirty_log.specs.Copies.{wrote, IsTracked}
use Rattle.dirty_log.specs.declared.tracked.Tracked.{Tracked}
use Rattle.dirty_log.proofs.Tracks.{marked_keeps}
use Rattle.plain_soundness.proofs.States.{memory_replaced, some_map, each_map}
use Rattle.owned_parts.specs.Owned.{state_of_parts}
use Rattle.owned_parts.specs.declared.parts.Parts.{Parts}
use Rattle.owned_machine.specs.Pieces.{piece_of, piece_count, piece_length, with_bytes, with_pieces, with_stretch, written_to}
use Rattle.owned_machine.specs.Whole.{IsMachine, GoesOn}

-- the same windows, with other bytes at most in a stretch
record ChangesWithin (address len : ℕ) (memory now : List Window) : Type 0 where
  windows : map extent now ≡ map extent memory
  bytes : (a : ℕ) → Apart address len a 1 → byte_at now a ≡ byte_at memory a

bytes_within : (address len : ℕ) (memory now : List Window) (from : ℕ) (bytes : List ℕ) → address ≤ from → from + length bytes ≤ address + len
    → ChangesWithin address len memory now → ChangesWithin address len memory (with_bytes now from bytes)
bytes_within address len memory now from bytes low high h =
    elim (write_at now from bytes) as (λ o. write_at now from bytes ≡ o → ChangesWithin address len memory (unwrap_or o now)) [
      | None ↦ λ e. h
      | Some next ↦ λ e. record {
        windows = extents-write_at now from bytes next e ∙ h.windows;
        bytes = λ a apart.
            let piece : Apart from (length bytes) a 1 =
            elim apart [ inl before ↦ inl (omega (arith, before, low, high)) | inr after ↦ inr (omega (arith, after, low, high)) ] in
            ap (option_map (λ found. slice_index found 0)) (read_at-write_at_apart now from bytes next a 1 e piece) ∙ h.bytes a apart;
      }
    ] refl

pieces_within : (address : ℕ) (memory : List Window) (bytes : List ℕ) (i : ℕ) → i ≤ piece_count (length bytes)
    → ChangesWithin address (length bytes) memory (with_pieces memory address bytes i)
unfolding with_pieces
pieces_within address memory bytes zero le = record { windows = refl; bytes = λ a apart. refl }
pieces_within address memory bytes (suc i) le =
    let long : length (drop (64 * i) bytes) ≡ length bytes - 64 * i = length-drop (64 * i) bytes in
    let short : length (piece_of bytes i) ≡ min (piece_length (length bytes) i) (length (drop (64 * i) bytes)) =
    length-take (piece_length (length bytes) i) (drop (64 * i) bytes) in
    bytes_within address (length bytes) memory (with_pieces memory address bytes i) (address + 64 * i) (piece_of bytes i) (omega arith)
    (omega (arith, long, short, le)) (pieces_within address memory bytes i (omega (arith, le)))

-- it is gone on to where its pages are marked
within_goes : (p : Parts) (address len : ℕ) (memory : List Window) (track : Option Tracked) → IsMachine p → ChangesWithin address len p.memory memory
    → track ≡ option_map (wrote address len) p.track
    → GoesOn (record p { memory = memory; track = track }) (record (state_of_parts p) {
      memory = memory;
      track = option_map (wrote address len) p.track;
    })
within_goes p address len memory track m h marks =
    let u = state_of_parts p in
    let now : Option Tracked = option_map (wrote address len) p.track in
    subst (λ (t : Option Tracked). GoesOn (record p { memory = memory; track = t }) (record u { memory = memory; track = now })) (sym marks) (record {
      state = refl;
      whole = record {
        sound = memory_replaced u memory now h.windows (some_map p.track (wrote address len) ∙ m.sound.tracks)
            (each_map p.track (wrote address len) (IsTracked p.memory) (IsTracked memory) m.sound.tracked
            (λ t tracked. marked_keeps p.memory memory address len t h.windows h.bytes tracked)) m.sound;
        all_in_hand = m.all_in_hand;
        no_others = m.no_others;
      };
    })

stretch_within : (address : ℕ) (memory : List Window) (bytes : List ℕ) → ChangesWithin address (length bytes) memory (with_stretch memory address bytes)
stretch_within address memory bytes =
    cond_both (inside memory address (length bytes)) (with_bytes memory address bytes) (with_pieces memory address bytes (piece_count (length bytes)))
    (ChangesWithin address (length bytes) memory)
    (λ _. bytes_within address (length bytes) memory memory address bytes (omega arith) (omega arith) (record { windows = refl; bytes = λ a apart. refl }))
    (λ _. pieces_within address memory bytes (piece_count (length bytes)) (omega arith))

pub stretch_goes : (p : Parts) (address : ℕ) (bytes : List ℕ) (memory : List Window) (track : Option Tracked) → IsMachine p
    → memory ≡ with_stretch p.memory address bytes → track ≡ option_map (wrote address (length bytes)) p.track
    → GoesOn (record p { memory = memory; track = track }) (written_to (state_of_parts p) address bytes)
stretch_goes p address bytes memory track m is marks =
    subst (λ (x : List Window). GoesOn (record p { memory = x; track = track }) (written_to (state_of_parts p) address bytes)) (sym is)
    (within_goes p address (length bytes) (with_stretch p.memory address bytes) track m (stretch_within address p.memory bytes) marks)

pub once_put : (memory : List Window) (address : ℕ) (bytes : List ℕ) → inside memory address (length bytes) ≡ true
    → with_bytes memory address bytes ≡ with_stretch memory address bytes
once_put memory address bytes is =
    sym (ap (λ (b : Bool). if b then with_bytes memory address bytes else with_pieces memory address bytes (piece_count (length bytes))) is)

pub pieces_put : (memory : List Window) (address : ℕ) (bytes : List ℕ) → inside memory address (length bytes) ≡ false
    → with_pieces memory address bytes (piece_count (length bytes)) ≡ with_stretch memory address bytes
pieces_put memory address bytes is =
    sym (ap (λ (b : Bool). if b then with_bytes memory address bytes else with_pieces memory address bytes (piece_count (length bytes))) is)

-- ---- bytes that are made zero

-- what comes of it, where one window has them or none
abbrev pub Forgets : Addr → Option (List Window) → Result (Unit {0}) Outside → List Window → List Window → Type 0
Forgets addr o r old new = MatchOption o ((r ≡ Err (record { 0 = addr })) × (new ≡ old)) (λ m. (r ≡ Ok tt) × (new ≡ m))

pub forgot : (addr : Addr) (o : Option (List Window)) (r : Result (Unit {0}) Outside) (old new : List Window) → Forgets addr o r old new → r ≡ Ok tt
    → o ≡ Some new
forgot addr None r old new h is = absurd (let no = sym is ∙ h.0 in cc)
forgot addr (Some m) r old new h is = ap (λ (x : List Window). Some x) (sym h.1)

pub none_forgot : (addr : Addr) (e : Outside) (o : Option (List Window)) (r : Result (Unit {0}) Outside) (old new : List Window) → Forgets addr o r old new
    → r ≡ Err e → (o ≡ None) × (new ≡ old) × (e.0 ≡ addr)
none_forgot addr e None r old new h is = (refl, h.1, let same = sym is ∙ h.0 in cc)
none_forgot addr e (Some m) r old new h is = absurd (let no = sym is ∙ h.0 in cc)

-- one window has them just where they were written
pub forgot_inside : (memory : List Window) (addr len : ℕ) (o : Option (List Window)) → write_at memory addr (replicate len 0) ≡ o
    → is_some o ≡ inside memory addr len
forgot_inside memory addr len o e =
    ap is_some (sym e) ∙ is_some-write_at memory addr (replicate len 0) ∙ ap (inside memory addr) (length-replicate len 0)

-- zeros that one window has go there at once
pub zeros_put : (memory now : List Window) (addr len : ℕ) → write_at memory addr (replicate len 0) ≡ Some now
    → now ≡ with_stretch memory addr (replicate len 0)
zeros_put memory now addr len e =
    ap (λ (o : Option (List Window)). unwrap_or o memory) (sym e)
    ∙ once_put memory addr (replicate len 0) (sym (is_some-write_at memory addr (replicate len 0)) ∙ ap is_some e)
