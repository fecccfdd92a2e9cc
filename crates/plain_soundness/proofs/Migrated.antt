-- A migration goes on from a sound state.
use Rattle.std.proofs.Common.{◌≡◌, ℕ, zero, suc, ◌*◌, Bool, true, false, List, [], ◌∷◌, length, map, Option, Some, None, Result, Ok, Err, inl, inr, refl}
use Rattle.std.proofs.Common.{sym, ap, subst}
use Rattle.std.proofs.Common.{◌∙◌, arith}
use Rattle.std.specs.Prelude.{unwrap_or, is_some, slice_index}
use Rattle.std.specs.Option.{option_map}
use Rattle.std.proofs.lemmas.Option.{same_Some}
use Rattle.std.proofs.lemmas.Bool.{both_ways, cond_both}
use Rattle.byteorder.specs.Endian.{little_bytes}
use Rattle.byteorder.specs.Numbers.{length-bytes_low_first}
use Rattle.guest_windows.specs.Windows.{Window, extent, read_at, write_at, byte_at}
use Rattle.guest_windows.proofs.Laws.{Apart, extents-write_at, length-read_at, read_at-write_at_apart}
use Rattle.dirty_log.specs.Copies.{IsTracked, wrote, untouched}
use Rattle.dirty_log.specs.declared.tracked.Tracked.{Tracked}
use Rattle.dirty_log.proofs.Tracks.{marked_keeps, untouched_is}
use Rattle.baser_place.specs.Places.{entry_address}
use Rattle.its_types.specs.Ranges.{lpi_count}
use Rattle.its_plain.specs.Plain.{Plain, Redistributor, conf_of, with_conf}
use Rattle.its_plain.specs.declared.layout.Layout.{Layout}
use Rattle.its_plain.specs.Sound.{IsSound, IsRedistributor}
use Rattle.its_plain.specs.Answer.{save_left, left}
use Rattle.its_plain.specs.Regions.{savable}
use Rattle.its_plain.specs.declared.fault.SaveFault.{SaveFault}
use Rattle.its_plain.specs.Saved.{Words, put_word, put_words, put_tables, words_of, wrote_tables, saved, reloaded, track_of, moved}
use Rattle.plain_soundness.specs.Laws.{MigrationsKeepSound, SaveKeepsSound}
use Rattle.plain_soundness.proofs.States.{memory_replaced, redistributors_mapped, some_map, each_map}

-- ---- a save leaves the windows where they are

maybe_written : (memory : List Window) (o : Option (List Window)) → ((now : List Window) → o ≡ Some now → map extent now ≡ map extent memory)
    → map extent (unwrap_or o memory) ≡ map extent memory
maybe_written memory None same = refl
maybe_written memory (Some now) same = same now refl

word_kept : (memory : List Window) (address word : ℕ) → map extent (put_word memory address word) ≡ map extent memory
word_kept memory address word = maybe_written memory (write_at memory address (little_bytes 8 word)) (extents-write_at memory address (little_bytes 8 word))

words_kept : (memory : List Window) (base : ℕ) (word : ℕ → ℕ) (n : ℕ) → map extent (put_words memory base word n) ≡ map extent memory
words_kept memory base word zero = refl
words_kept memory base word (suc n) = word_kept (put_words memory base word n) (entry_address base n) (word n) ∙ words_kept memory base word n

tables_kept : (memory : List Window) (ts : List Words) → map extent (put_tables memory ts) ≡ map extent memory
tables_kept memory [] = refl
tables_kept memory (t ∷ ts) = tables_kept (put_words memory t.base t.word t.count) ts ∙ words_kept memory t.base t.word t.count

-- ---- a save marks the pages that it writes

-- a byte apart from a word stays
word_stays : (memory : List Window) (address word a : ℕ) → Apart address 8 a 1 → byte_at (put_word memory address word) a ≡ byte_at memory a
word_stays memory address word a apart = maybe (write_at memory address (little_bytes 8 word)) (λ now e.
    ap (option_map (λ found. slice_index found 0))
    (read_at-write_at_apart memory address (little_bytes 8 word) now a 1 e
    (subst (λ (k : ℕ). Apart address k a 1) (sym (length-bytes_low_first 0 8 word)) apart)))
  where
    maybe : (o : Option (List Window)) → ((now : List Window) → o ≡ Some now → byte_at now a ≡ byte_at memory a) → byte_at (unwrap_or o memory) a
        ≡ byte_at memory a
    maybe None after = refl
    maybe (Some now) after = after now refl

words_stay : (memory : List Window) (base : ℕ) (word : ℕ → ℕ) (n a : ℕ) → Apart base (8 * n) a 1 → byte_at (put_words memory base word n) a ≡ byte_at memory a
words_stay memory base word zero a apart = refl
words_stay memory base word (suc n) a apart =
    let last : Apart (entry_address base n) 8 a 1 = elim apart [ inl e ↦ inl (omega arith) | inr e ↦ inr (omega arith) ] in
    let others : Apart base (8 * n) a 1 = elim apart [ inl e ↦ inl (omega arith) | inr e ↦ inr (omega arith) ] in
    word_stays (put_words memory base word n) (entry_address base n) (word n) a last ∙ words_stay memory base word n a others

tables_tracked : (memory : List Window) (ts : List Words) (t : Tracked) → IsTracked memory t → IsTracked (put_tables memory ts) (wrote_tables ts t)
tables_tracked memory [] t h = h
tables_tracked memory (w ∷ ws) t h =
    let next : List Window = put_words memory w.base w.word w.count in
    tables_tracked next ws (wrote w.base (8 * w.count) t)
    (marked_keeps memory next w.base (8 * w.count) t (words_kept memory w.base w.word w.count) (words_stay memory w.base w.word w.count) h)

-- ---- configurations

pub config_read : (old : List ℕ) (n : ℕ) (o : Option (List ℕ)) → length old ≡ n → ((bytes : List ℕ) → o ≡ Some bytes → length bytes ≡ n)
    → length (unwrap_or o old) ≡ n
config_read old n None before now = before
config_read old n (Some bytes) before now = now bytes refl

pub reloaded_sound : (l : Layout) (memory : List Window) (v : ℕ) (r : Redistributor) → IsRedistributor l memory v r
    → IsRedistributor l memory v (reloaded l.shape memory r)
reloaded_sound l memory v r h =
    let n : ℕ = lpi_count l.shape.lpi_bits in
    let read : Option (List ℕ) = read_at memory r.bases.prop.table.0 n in
    cond_both r.bases.on (record (conf_of r) { config = unwrap_or read r.config }) (conf_of r) (λ c. IsRedistributor l memory v (with_conf c r)) (λ on. record {
      rising = h.rising;
      lpis = h.lpis;
      config = config_read r.config n read h.config (length-read_at memory r.bases.prop.table.0 n);
      accepts = h.accepts;
      tables = h.tables;
      off_pending = h.off_pending;
      off_config = λ off. absurd (both_ways r.bases.on off on);
      kept = h.kept;
      described = h.described;
      always_on = h.always_on;
    }) (λ _. h)

-- ---- saves

saves_sound : (u : Plain) (r : Result (Unit {0}) SaveFault) → IsSound u → IsSound (save_left u r)
saves_sound u (Ok done) h =
    let marks : Tracked → Tracked = wrote_tables (words_of u) in
    memory_replaced u (saved u) (option_map marks u.track) (tables_kept u.memory (words_of u)) (some_map u.track marks ∙ h.tracks)
    (each_map u.track marks (IsTracked u.memory) (IsTracked (saved u)) h.tracked (tables_tracked u.memory (words_of u))) h
saves_sound u (Err fault) h = h

pub saves_keep : SaveKeepsSound
unfolding left
saves_keep u h = saves_sound u (savable u) h

-- ---- the copy of zeros

pub tracks_of : (tracks : Bool) (memory : List Window) → is_some (track_of tracks memory) ≡ tracks
tracks_of true memory = refl
tracks_of false memory = refl

pub tracked_of : (tracks : Bool) (memory : List Window) (t : Tracked) → track_of tracks memory ≡ Some t → IsTracked memory t
tracked_of true memory t e = subst (IsTracked memory) (same_Some (untouched (map extent memory)) t e) (untouched_is memory)
tracked_of false memory t e = absurd cc

pub migrations_keep : MigrationsKeepSound
unfolding moved
migrations_keep u h =
    let track : Option Tracked = track_of u.layout.track (saved u) in
    let stored : Plain = record u { memory = saved u; track = track } in
    redistributors_mapped stored (reloaded u.layout.shape (saved u)) (reloaded_sound u.layout (saved u))
    (memory_replaced u (saved u) track (tables_kept u.memory (words_of u)) (tracks_of u.layout.track (saved u)) (tracked_of u.layout.track (saved u)) h)
