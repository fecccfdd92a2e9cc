-- Guest memory, with a second one beside it where the machine has one.
use Rattle.std.specs.Prelude.{◌≡◌, ℕ, ◌*◌, List, [], ◌∷◌, map, Option, Some, refl}
use Rattle.std.specs.Option.{option_map}
use Rattle.std.specs.Coded.{Coded, code_by, coded×, coded_ℕ, coded_list, coded_option}
use Rattle.guest_windows.specs.Windows.{Window, extent}
use Rattle.dirty_log.specs.Copies.{number_of, wrote}
use Rattle.dirty_log.specs.Pages.{pages_of, page_code}
use Rattle.dirty_log.specs.declared.page.Page.{Page}
use Rattle.dirty_log.specs.declared.tracked.Tracked.{Tracked}
use Rattle.its_plain.specs.Saved.{Words, put_words}

pub record Memories : Type 0 where
  pub memory : List Window
  pub track : Option Tracked

-- the copy has the windows of the memory, and the pages are theirs
pub record IsPaired (memory : List Window) (t : Tracked) : Type 0 where
  pub windows : map extent t.copy ≡ map extent memory
  pub pages : map number_of t.log ≡ pages_of (map extent memory)

abbrev pub ArePaired : List Window → Option Tracked → Type 0
ArePaired memory track = (t : Tracked) → track ≡ Some t → IsPaired memory t

-- ---- tables that are written: their pages are dirty

abbrev pub put_table : Memories → Words → Memories
put_table m w = record { memory = put_words m.memory w.base w.word w.count; track = option_map (wrote w.base (8 * w.count)) m.track }

abbrev pub put_all : Memories → List Words → Memories
put_all m [] = m
put_all m (w ∷ ws) = put_all (put_table m w) ws

-- ---- codes, by which models tell values apart

abbrev coded_window : Coded Window
coded_window = code_by (ℕ × List ℕ) (coded× coded_ℕ (coded_list coded_ℕ)) (λ w. (w.base, w.bytes)) (λ p. record { base = p.0; bytes = p.1 }) (λ _. refl)

abbrev pub tracked_code : Coded Tracked
tracked_code =
    code_by (List Window × List Page) (coded× (coded_list coded_window) (coded_list page_code)) (λ t. (t.copy, t.log)) (λ p. record { copy = p.0; log = p.1 })
    (λ _. refl)

abbrev pub memories_code : Coded Memories
memories_code =
    code_by (List Window × Option Tracked) (coded× (coded_list coded_window) (coded_option tracked_code)) (λ m. (m.memory, m.track))
    (λ p. record { memory = p.0; track = p.1 }) (λ _. refl)
