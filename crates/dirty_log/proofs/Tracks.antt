-- Outside dirty pages memory and its copy agree.
use Rattle.std.proofs.Common.{◌≡◌, ℕ, Bool, true, false, cond, List, [], ◌∷◌, length, map, Option, Some, None, ⊎_elim, refl, sym, ap, ◌∙◌}
use Rattle.std.specs.Prelude.{slice_index, is_some}
use Rattle.std.specs.Option.{option_map}
use Rattle.std.proofs.lemmas.Bool.{both_ways}
use Rattle.guest_windows.specs.Windows.{Window, read_at, byte_at, extent}
use Rattle.guest_windows.proofs.Laws.{Apart, extents_of_zeros, extents-write_at, inside-extents, is_some-read_at, read_at-write_at_apart}
use Rattle.dirty_log.specs.Pages.{page_of, pages_of, page, all_pages, marked, set_all, is_clean, is_dirty}
use Rattle.dirty_log.specs.Copies.{number_of, in_dirty, copied, wrote, IsTracked, WritesKeepTracked, CopiesKeepTracked, UntouchedIsTracked}
use Rattle.dirty_log.specs.Copies.{CopyHasAllBytes}
use Rattle.dirty_log.specs.declared.page.Page.{Page}
use Rattle.dirty_log.specs.declared.tracked.Tracked.{Tracked}
use Rattle.dirty_log.proofs.Marks.{clean_after, dirty_or_clean, none_clean}
use Rattle.dirty_log.specs.Listing.{is_in}
use Rattle.dirty_log.proofs.Members.{page_listed, byte_there, listed_clean}
use Rattle.guest_windows.proofs.Mixed.{byte_mixed, extents_mixed}

numbers_marked : (address len : ℕ) (pages : List Page) → map number_of (marked address len pages) ≡ map number_of pages
numbers_marked address len [] = refl
numbers_marked address len (p ∷ pages) = ap (λ (ns : List ℕ). p.number ∷ ns) (numbers_marked address len pages)

numbers_set : (dirty : Bool) (pages : List Page) → map number_of (set_all dirty pages) ≡ map number_of pages
numbers_set dirty [] = refl
numbers_set dirty (p ∷ pages) = ap (λ (ns : List ℕ). p.number ∷ ns) (numbers_set dirty pages)

numbers_of : (dirty : Bool) (ns : List ℕ) → map number_of (map (page dirty) ns) ≡ ns
numbers_of dirty [] = refl
numbers_of dirty (n ∷ ns) = ap (λ (ks : List ℕ). n ∷ ks) (numbers_of dirty ns)

-- other bytes, in the same windows, only where pages were marked
pub marked_keeps : (memory now : List Window) (address len : ℕ) (t : Tracked) → map extent now ≡ map extent memory
    → ((a : ℕ) → Apart address len a 1 → byte_at now a ≡ byte_at memory a) → IsTracked memory t → IsTracked now (wrote address len t)
marked_keeps memory now address len t same stay h = record {
  windows = h.windows ∙ sym same;
  pages = numbers_marked address len t.log ∙ h.pages ∙ ap pages_of (sym same);
  agree = λ a clean.
      let was = clean_after address len a t.log clean in h.agree a was.clean ∙ sym (stay a was.apart);
}

pub writes_keep : WritesKeepTracked
writes_keep memory now address bytes t e h =
    marked_keeps memory now address (length bytes) t (extents-write_at memory address bytes now e)
    (λ a apart. ap (option_map (λ found. slice_index found 0)) (read_at-write_at_apart memory address bytes now a 1 e apart)) h

-- the copy has each byte of a page that is there
copied_byte : (memory : List Window) (t : Tracked) → IsTracked memory t → (a : ℕ) → is_clean (set_all false t.log) (page_of a) ≡ true
    → byte_at (copied memory t.log t.copy) a ≡ byte_at memory a
copied_byte memory t h a there =
    byte_mixed (in_dirty t.log) memory t.copy a h.windows
    ∙ ⊎_elim (λ (dirty : is_dirty t.log (page_of a) ≡ true). ap (λ (b : Bool). cond b (byte_at memory a) (byte_at t.copy a)) dirty)
    (λ (clean : is_clean t.log (page_of a) ≡ true). either (in_dirty t.log a) (byte_at memory a) (byte_at t.copy a) (h.agree a clean))
    (dirty_or_clean (page_of a) t.log there)
  where
    either : {A : Type 0} (b : Bool) (x y : A) → y ≡ x → cond b x y ≡ x
    either true x y e = refl
    either false x y e = e

pub copies_keep : CopiesKeepTracked
copies_keep memory t h = record {
  windows = extents_mixed (in_dirty t.log) memory t.copy ∙ h.windows;
  pages = numbers_set false t.log ∙ h.pages;
  agree = λ a clean. copied_byte memory t h a clean;
}

pub untouched_is : UntouchedIsTracked
untouched_is memory = record {
  windows = extents_of_zeros (map extent memory);
  pages = numbers_of true (pages_of (map extent memory));
  agree = λ a clean. absurd (both_ways (is_clean (all_pages true (map extent memory)) (page_of a)) (none_clean (page_of a) (page true)
      (pages_of (map extent memory)) (λ k. refl)) clean);
}

-- no byte of the one where the other has none
no_item : (o : Option (List ℕ)) → option_map (λ bytes. slice_index bytes 0) o ≡ None → is_some o ≡ false
no_item None e = refl
no_item (Some bytes) e = absurd cc

pub nothing : (o : Option (List ℕ)) → is_some o ≡ false → option_map (λ bytes. slice_index bytes 0) o ≡ None
nothing None e = refl
nothing (Some bytes) e = absurd cc

no_byte : (v w : List Window) → map extent v ≡ map extent w → (a : ℕ) → byte_at w a ≡ None → byte_at v a ≡ None
no_byte v w e a n = nothing (read_at v a 1) (is_some-read_at v a 1 ∙ inside-extents v w a 1 e ∙ sym (is_some-read_at w a 1) ∙ no_item (read_at w a 1) n)

pub copy_has_all : CopyHasAllBytes
copy_has_all memory t a h = by_byte (byte_at memory a) refl
  where
    by_byte : (o : Option ℕ) → byte_at memory a ≡ o → byte_at (copied memory t.log t.copy) a ≡ byte_at memory a
    by_byte None e = no_byte (copied memory t.log t.copy) memory (extents_mixed (in_dirty t.log) memory t.copy ∙ h.windows) a e ∙ sym e
    by_byte (Some x) e =
        copied_byte memory t h a (listed_clean (page_of a) t.log
        (ap (is_in (page_of a)) h.pages ∙ page_listed (map extent memory) (page_of a) (byte_there memory a x e)))
