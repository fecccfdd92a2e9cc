-- What a save leaves of guest memory.
use Rattle.std.proofs.Common.{◌≡◌, ℕ, zero, suc, List, [], ◌∷◌, map, Option, Some, None, refl, ap, ◌∙◌}
use Rattle.std.specs.Prelude.{slice_index, unwrap_or}
use Rattle.std.specs.List.{AllByRecursion}
use Rattle.std.specs.Option.{option_map}
use Rattle.byteorder.specs.Endian.{little_bytes}
use Rattle.guest_windows.specs.Windows.{Window, write_at, extent}
use Rattle.guest_windows.proofs.Laws.{extents-write_at}
use Rattle.baser_place.specs.Places.{entry_address}
use Rattle.its_plain.specs.Saved.{Words, put_word, put_words, put_tables, words_of}
use Rattle.saved_state.proofs.Written.{Spares, tables_stay}
use Rattle.table_save.specs.Stretches.{stretches_of}
use Rattle.step_views.specs.Laws.{IsOutside, SavesStayInside}

-- ---- where windows are

maybe_written : (memory : List Window) (o : Option (List Window)) → ((now : List Window) → o ≡ Some now → map extent now ≡ map extent memory)
    → map extent (unwrap_or o memory) ≡ map extent memory
maybe_written memory None same = refl
maybe_written memory (Some now) same = same now refl

word_kept : (memory : List Window) (address word : ℕ) → map extent (put_word memory address word) ≡ map extent memory
word_kept memory address word = maybe_written memory (write_at memory address (little_bytes 8 word)) (extents-write_at memory address (little_bytes 8 word))

words_kept : (memory : List Window) (base : ℕ) (word : ℕ → ℕ) (n : ℕ) → map extent (put_words memory base word n) ≡ map extent memory
words_kept memory base word zero = refl
words_kept memory base word (suc n) = word_kept (put_words memory base word n) (entry_address base n) (word n) ∙ words_kept memory base word n

tables_kept : (memory : List Window) (ts : List Words) → map extent (put_tables memory ts) ≡ map extent memory
tables_kept memory [] = refl
tables_kept memory (t ∷ ts) = tables_kept (put_words memory t.base t.word t.count) ts ∙ words_kept memory t.base t.word t.count

-- ---- bytes

outside_tables : (a : ℕ) (ts : List Words) → IsOutside (stretches_of ts) a → AllByRecursion (Spares a 1) ts
outside_tables a [] h = tt
outside_tables a (t ∷ ts) h = (h.0, outside_tables a ts h.1)

pub saved_inside : SavesStayInside
saved_inside u = (
  tables_kept u.memory (words_of u),
  λ a out. ap (λ (o : Option (List ℕ)). option_map (λ bytes. slice_index bytes 0) o)
      (tables_stay u.memory (words_of u) a 1 (outside_tables a (words_of u) out)),
)
