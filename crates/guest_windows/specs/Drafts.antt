-- Pages that are laid over guest memory: for each window, by its number, and each page of it, the bytes of the page, if it is laid.
use Rattle.std.specs.Prelude.{◌≡◌, ◌<◌, ℕ, suc, ◌+◌, ◌/◌, ◌%◌, ◌==◌, ◌&&◌, if◌then◌else◌, List, [], ◌∷◌, length, map, Option, Some, None, is_some}
use Rattle.std.specs.Prelude.{slice_index, slice_index_or}
use Rattle.guest_windows.specs.Windows.{Window}
use Rattle.guest_windows.specs.Chunks.{page_rows}
use Rattle.guest_windows.specs.Pages.{rows, byte_in}
use Rattle.guest_windows.specs.declared.frame.Frame.{Frame}
use Rattle.guest_windows.specs.declared.page.Page.{Page}
use Rattle.guest_windows.specs.declared.draft_chunk.DraftChunk.{DraftChunk}

-- ---- what is laid

-- the page with a number, counted from one on: none has the number 0
abbrev pub numbered : List (List ℕ) → ℕ → Option (List ℕ)
numbered rows n = slice_index_or (None ∷ map (λ row. Some row) rows) n None

-- by the number of each page, and the pages that are laid
abbrev pub own_rows : List ℕ → List Page → List (Option (List ℕ))
own_rows numbers laid = map (numbered (page_rows laid)) numbers

abbrev pub chunk_rows : DraftChunk → List (Option (List ℕ))
chunk_rows c = own_rows c.numbers.items c.laid.items

-- the first of the two, if there is one
abbrev pub first_of : {X : Type 0} → Option X → Option X → Option X
first_of None other = other
first_of (Some x) other = Some x

-- the pages of one chunk of a window, each where it is laid
pub record Laid : Type 0 where
  pub window : ℕ
  pub at : ℕ
  pub rows : List (Option (List ℕ))

abbrev pub laid_of : DraftChunk → Laid
laid_of c = record { window = c.window; at = c.at; rows = chunk_rows c }

abbrev pub own_in : Laid → ℕ → ℕ → Option (List ℕ)
own_in c window page = if c.window == window && c.at == page / 4096 then slice_index_or c.rows (page % 4096) None else None

-- the first of some chunks that has a page
abbrev pub own_by : List Laid → ℕ → ℕ → Option (List ℕ)
own_by [] window page = None
own_by (c ∷ cs) window page = first_of (own_in c window page) (own_by cs window page)

abbrev pub own_page : DraftChunk → ℕ → ℕ → Option (List ℕ)
own_page c = own_in (laid_of c)

abbrev pub own_of : List DraftChunk → ℕ → ℕ → Option (List ℕ)
own_of cs = own_by (map laid_of cs)

-- ---- memory with them

-- byte k of a page, where another would be
abbrev pub byte_over : Option (List ℕ) → ℕ → ℕ → ℕ
byte_over None k x = x
byte_over (Some row) k x = slice_index row k

-- the bytes from place i on
abbrev pub laid_bytes : (ℕ → Option (List ℕ)) → ℕ → List ℕ → List ℕ
laid_bytes own i [] = []
laid_bytes own i (x ∷ xs) = byte_over (own (i / 65536)) (i % 65536) x ∷ laid_bytes own (suc i) xs

abbrev pub laid_window : (ℕ → Option (List ℕ)) → Window → Window
laid_window own w = record w { bytes = laid_bytes own 0 w.bytes }

-- the windows from number k on
abbrev pub laid_from : (ℕ → ℕ → Option (List ℕ)) → ℕ → List Window → List Window
laid_from own k [] = []
laid_from own k (w ∷ ws) = laid_window (own k) w ∷ laid_from own (suc k) ws

abbrev pub laid : List Laid → List Window → List Window
laid chunks windows = laid_from (own_by chunks) 0 windows

-- ---- where a draft has what

-- the byte at place i of a window
abbrev pub byte_laid : List DraftChunk → Frame → ℕ → ℕ → ℕ
byte_laid cs f window i = byte_over (own_of cs window (i / 65536)) (i % 65536) (byte_in (rows f.groups.items) i)

-- the first chunk that has a page, counted from i
abbrev pub own_place : ℕ → List DraftChunk → ℕ → ℕ → Option ℕ
own_place i [] window page = None
own_place i (c ∷ cs) window page = if is_some (own_page c window page) then Some i else own_place (i + 1) cs window page

-- the first with these numbers
abbrev pub key_place : ℕ → List DraftChunk → ℕ → ℕ → Option ℕ
key_place i [] window number = None
key_place i (c ∷ cs) window number = if c.window == window && c.at == number then Some i else key_place (i + 1) cs window number

-- what chunk j has of a page is what all have of it, and it can be written there
pub record Lays (cs : List DraftChunk) (window page j : ℕ) : Type 0 where
  pub inside : j < length cs
  pub window_is : (d : DraftChunk) → (slice_index_or cs j d).window ≡ window
  pub at_is : (d : DraftChunk) → (slice_index_or cs j d).at ≡ page / 4096
  pub before : (k : ℕ) (d : DraftChunk) → k < j → own_page (slice_index_or cs k d) window page ≡ None
  pub own : (d : DraftChunk) → own_of cs window page ≡ own_page (slice_index_or cs j d) window page

-- a page was laid, and no other
pub record Wrote (before after : List DraftChunk) (window page : ℕ) (row : List ℕ) : Type 0 where
  pub here : own_of after window page ≡ Some row
  pub others : (k q : ℕ) → ((k ≡ window) × (q ≡ page) → ⊥) → own_of after k q ≡ own_of before k q
