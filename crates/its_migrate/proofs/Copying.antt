-- The second memory of a machine, which the next one begins with.
use Rattle.std.proofs.Common.{◌≡◌, ℕ, ◌*◌, true, ◌&&◌, nat_lt, nat_le, List, [], ◌∷◌, map, length, Option, Some, refl, ap, sym}
use Rattle.std.specs.List.{list_all}
use Rattle.std.proofs.lemmas.Bool.{and_parts}
use Rattle.dirty_log.specs.Copies.{IsTracked, caught_up, wrote}
use Rattle.dirty_log.specs.Pages.{dirty_count}
use Rattle.dirty_log.specs.declared.tracked.Tracked.{Tracked}
use Rattle.dirty_log.proofs.Tracks.{marked_keeps}
use Rattle.dirty_log.proofs.Whole.{copy_is}
use Rattle.guest_windows.specs.Windows.{Window, extent, are_windows, share_no_byte, in_range}
use Rattle.its_plain.specs.Plain.{Plain}
use Rattle.its_plain.specs.Regions.{savable, areas_of}
use Rattle.its_plain.specs.Saved.{Words, words_of, wrote_tables, saved, moved, moved_count}
use Rattle.its_plain.specs.Sound.{IsSound}

-- ---- what doesn't depend on the second memory

pub same_words : (u : Plain) (t : Option Tracked) → words_of (record u { track = t }) ≡ words_of u
unfolding words_of
same_words u t = refl

pub same_savable : (u : Plain) (t : Option Tracked) → savable (record u { track = t }) ≡ savable u
unfolding savable areas_of
same_savable u t = refl

pub same_saved : (u : Plain) (t : Option Tracked) → saved (record u { track = t }) ≡ saved u
unfolding words_of
same_saved u t = refl

pub same_moved : (u : Plain) (t : Option Tracked) → moved (record u { track = t }) ≡ moved u
unfolding moved words_of
same_moved u t = refl

pub moved_memory : (u : Plain) → (moved u).memory ≡ saved u
unfolding moved
moved_memory u = refl

-- ---- the copy

-- pages that are marked keep the copy right
marks_keep : (memory : List Window) (ws : List Words) (t : Tracked) → IsTracked memory t → IsTracked memory (wrote_tables ws t)
marks_keep memory [] t h = h
marks_keep memory (w ∷ ws) t h = marks_keep memory ws (wrote w.base (8 * w.count) t)
    (marked_keeps memory memory w.base (8 * w.count) t refl (λ a apart. refl) h)

none_shared : (ws : List (ℕ × ℕ)) → are_windows ws ≡ true → share_no_byte ws ≡ true
none_shared ws h =
    let few = nat_lt 0 (length ws) && nat_le (length ws) 16 in
    (and_parts (few && list_all in_range ws) (share_no_byte ws) h).1

module _ (u : Plain) (t : Tracked) (sound : IsSound (record u { track = Some t })) where
  abbrev now : Tracked
  now = wrote_tables (words_of u) t

  tracked : IsTracked u.memory now
  tracked = marks_keep u.memory (words_of u) t (sound.tracked t refl)

  pub same_windows : map extent now.copy ≡ map extent u.memory
  same_windows = tracked.windows

  pub copied_is : (caught_up u.memory now).copy ≡ u.memory
  copied_is = copy_is u.memory now (none_shared (map extent u.memory) sound.memory) tracked

  pub counted_is : dirty_count now.log ≡ moved_count (record u { track = Some t })
  counted_is = ap (λ (ws : List Words). dirty_count (wrote_tables ws t).log) (sym (same_words u (Some t)))
