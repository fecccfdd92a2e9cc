-- Pages of guest memory: which there are, and which were written since they were last copied.
use Rattle.std.specs.Prelude.{ℕ, zero, suc, ◌+◌, ◌*◌, ◌/◌, Bool, not, ◌&&◌, ◌||◌, ◌==◌, nat_lt, nat_le, if◌then◌else◌, max, List, [], ◌∷◌, ◌++◌, map}
use Rattle.std.specs.Prelude.{count_by, find, Option, refl}
use Rattle.std.specs.Option.{option_map}
use Rattle.std.specs.List.{list_any}
use Rattle.std.specs.Coded.{Coded, code_by, coded×, coded_ℕ, coded_bool}
use Rattle.dirty_log.specs.declared.page.Page.{Page}

-- ---- which pages there are

-- the page of an address: a page has 4096 bytes
abbrev pub page_of : ℕ → ℕ
page_of address = address / 4096

-- a page has one of so many bytes from an address on
abbrev pub meets : ℕ → ℕ → ℕ → Bool
meets address len n = nat_lt 0 len && nat_le (page_of address) n && nat_lt (4096 * n) (address + len)

-- it has a byte in one of the windows
abbrev pub is_there : List (ℕ × ℕ) → ℕ → Bool
is_there windows n = list_any (λ w. meets w.0 w.1 n) windows

-- no window has a byte in this page or in a later one
abbrev pub pages_end : List (ℕ × ℕ) → ℕ
pages_end [] = 0
pages_end (w ∷ ws) = max (page_of (w.0 + w.1) + 1) (pages_end ws)

abbrev pub pages_below : List (ℕ × ℕ) → ℕ → List ℕ
pages_below windows zero = []
pages_below windows (suc n) = pages_below windows n ++ (if is_there windows n then n ∷ [] else [])

-- the pages of windows, given as bases and lengths, in rising order
unfoldable pub pages_of : List (ℕ × ℕ) → List ℕ
pages_of windows = pages_below windows (pages_end windows)

-- ---- which were written

abbrev pub page : Bool → ℕ → Page
page dirty n = record { number = n; dirty = dirty }

-- all pages of windows, each dirty or none
abbrev pub all_pages : Bool → List (ℕ × ℕ) → List Page
all_pages dirty windows = map (page dirty) (pages_of windows)

-- one that has one of the bytes was written
abbrev pub mark_one : ℕ → ℕ → Page → Page
mark_one address len p = record p { dirty = p.dirty || meets address len p.number }

-- those that have one of the bytes were
abbrev pub marked : ℕ → ℕ → List Page → List Page
marked address len pages = map (mark_one address len) pages

abbrev pub set_one : Bool → Page → Page
set_one dirty p = record p { dirty = dirty }

-- all were, or none
abbrev pub set_all : Bool → List Page → List Page
set_all dirty pages = map (set_one dirty) pages

-- how many are dirty
abbrev pub dirty_count : List Page → ℕ
dirty_count pages = count_by (λ p. p.dirty) pages

-- whether a page is dirty
abbrev pub is_dirty : List Page → ℕ → Bool
is_dirty pages n = list_any (λ p. p.number == n && p.dirty) pages

-- whether it is there and clean
abbrev pub is_clean : List Page → ℕ → Bool
is_clean pages n = list_any (λ p. p.number == n && not p.dirty) pages

-- the first dirty page from one on
abbrev pub next_dirty : ℕ → List Page → Option ℕ
next_dirty from pages = option_map (λ p. p.number) (find (λ p. p.dirty && nat_le from p.number) pages)

-- ---- a code, by which models tell pages apart

abbrev pub page_code : Coded Page
page_code = code_by (ℕ × Bool) (coded× coded_ℕ coded_bool) (λ p. (p.number, p.dirty)) (λ p. record { number = p.0; dirty = p.1 }) (λ _. refl)
