-- Chunks in groups: what is read of a group, and what another in its place leaves.
use Rattle.std.proofs.Common.{◌≡◌, ℕ, ◌*◌, ◌/◌, ◌%◌, ◌<◌, List, [], length, get_or, set, replicate, refl, sym, ap, ◌∙◌, inl, inr, arith}
use Rattle.std.proofs.lemmas.Bool.{cases_lt, cases_eq}
use Rattle.std.proofs.lemmas.List.{length-map, length-set, map-set, get_or-map, get_or-set_same, get_or-set_other, get_or-replicate, get_or_past}
use Rattle.std.proofs.lemmas.List.{length-replicate, ext_get_or}
use Rattle.std.proofs.lemmas.List.FromFn.{length-map-range_with_len, get_or-map-range_with_len}
use Rattle.guest_windows.specs.Chunks.{page_rows}
use Rattle.guest_windows.specs.Groups.{group_rows}
use Rattle.guest_windows.specs.Pages.{groups_of, chunk_in, rows_of, rows}
use Rattle.guest_windows.specs.declared.chunk.Chunk.{Chunk}
use Rattle.guest_windows.specs.declared.group.Group.{Group}

abbrev Rows : Type 0
Rows = List (List (List (List ℕ)))

pub length-rows_of : (gs : Rows) → length (rows_of gs) ≡ 1024 * length gs
length-rows_of gs = length-map-range_with_len (chunk_in gs) 0 (1024 * length gs)

-- past the last there is none
pub chunk_at : (gs : Rows) (n : ℕ) → get_or (rows_of gs) n [] ≡ chunk_in gs n
chunk_at gs n =
    let none : List (List (List ℕ)) = [] in
    elim (cases_lt n (1024 * length gs)) [
      | inl inside ↦ get_or-map-range_with_len (chunk_in gs) 0 (1024 * length gs) n n [] inside (omega arith)
      | inr past ↦
          get_or_past (rows_of gs) n [] (omega (arith, past, length-rows_of gs))
          ∙ sym (ap (λ (r : List (List (List ℕ))). get_or r (n % 1024) []) (get_or_past gs (n / 1024) none (omega (arith, past))))
    ]

-- groups of which none is held
pub none_in : (count n : ℕ) → chunk_in (replicate count []) n ≡ []
none_in count n =
    let none : List (List (List ℕ)) = [] in
    let group : get_or (replicate count none) (n / 1024) none ≡ none =
    elim (cases_lt (n / 1024) count) [
      | inl inside ↦ get_or-replicate count (n / 1024) none none inside
      | inr past ↦ get_or_past (replicate count none) (n / 1024) none (omega (arith, past, length-replicate count none))
    ] in
    ap (λ (r : List (List (List ℕ))). get_or r (n % 1024) []) group

pub length-chunks : (cs : List Chunk) → length (group_rows cs) ≡ length cs
length-chunks cs = length-map cs (λ (c : Chunk). page_rows c.pages.items)

pub length-groups : (gs : List Group) → length (groups_of gs) ≡ length gs
length-groups gs = length-map gs (λ (g : Group). group_rows g.chunks.items)

pub length-rows : (gs : List Group) → length (rows gs) ≡ 1024 * length gs
length-rows gs = length-rows_of (groups_of gs) ∙ ap (λ (n : ℕ). 1024 * n) (length-groups gs)

-- ---- one group, at place k

module _ (gs : List Group) (k : ℕ) (inside : k < length gs) where
  -- another in its place
  pub group-set : (h : Group) (n : ℕ) → n / 1024 ≡ k → get_or (rows (set gs k h)) n [] ≡ get_or (group_rows h.chunks.items) (n % 1024) []
  group-set h n is =
      let row : List (List (List ℕ)) = group_rows h.chunks.items in
      chunk_at (groups_of (set gs k h)) n
      ∙ ap (λ (all : Rows). chunk_in all n) (map-set (λ (g : Group). group_rows g.chunks.items) gs k h)
      ∙ ap (λ (j : ℕ). get_or (get_or (set (groups_of gs) k row) j []) (n % 1024) []) is
      ∙ ap (λ (r : List (List (List ℕ))). get_or r (n % 1024) []) (get_or-set_same (groups_of gs) k row [] (omega (arith, inside, length-groups gs)))

  pub group-set_other : (h : Group) (n : ℕ) → (n / 1024 ≡ k → ⊥) → get_or (rows (set gs k h)) n [] ≡ get_or (rows gs) n []
  group-set_other h n not =
      let row : List (List (List ℕ)) = group_rows h.chunks.items in
      chunk_at (groups_of (set gs k h)) n
      ∙ ap (λ (all : Rows). chunk_in all n) (map-set (λ (g : Group). group_rows g.chunks.items) gs k h)
      ∙ ap (λ (r : List (List (List ℕ))). get_or r (n % 1024) []) (get_or-set_other (groups_of gs) k (n / 1024) row [] not)
      ∙ sym (chunk_at (groups_of gs) n)

  pub group_put : (h : Group) → get_or (groups_of (set gs k h)) k [] ≡ group_rows h.chunks.items
  group_put h =
      ap (λ (all : Rows). get_or all k []) (map-set (λ (g : Group). group_rows g.chunks.items) gs k h)
      ∙ get_or-set_same (groups_of gs) k (group_rows h.chunks.items) [] (omega (arith, inside, length-groups gs))

  pub group_is : (g : Group) → g ≡ get_or gs k g → get_or (groups_of gs) k [] ≡ group_rows g.chunks.items
  group_is g is =
      get_or-map (λ (x : Group). group_rows x.chunks.items) gs k g [] inside ∙ ap (λ (x : Group). group_rows x.chunks.items) (sym is)

  pub group_read : (g : Group) (n : ℕ) → g ≡ get_or gs k g → n / 1024 ≡ k → get_or (rows gs) n [] ≡ get_or (group_rows g.chunks.items) (n % 1024) []
  group_read g n is at =
      chunk_at (groups_of gs) n ∙ ap (λ (j : ℕ). get_or (get_or (groups_of gs) j []) (n % 1024) []) at
      ∙ ap (λ (r : List (List (List ℕ))). get_or r (n % 1024) []) (group_is g is)

  -- one that isn't held
  pub group_unheld : (g : Group) (n : ℕ) → g ≡ get_or gs k g → g.chunks.items ≡ [] → n / 1024 ≡ k → get_or (rows gs) n [] ≡ []
  group_unheld g n is none at = group_read g n is at ∙ ap (λ (cs : List Chunk). get_or (group_rows cs) (n % 1024) []) none

  pub group-set_none : (h : Group) (n : ℕ) → h.chunks.items ≡ [] → n / 1024 ≡ k → get_or (rows (set gs k h)) n [] ≡ []
  group-set_none h n none at = group-set h n at ∙ ap (λ (cs : List Chunk). get_or (group_rows cs) (n % 1024) []) none

-- ---- one chunk, with number n

module _ (gs : List Group) (n : ℕ) (g : Group) (c : Chunk) (inside : n / 1024 < length gs) (is : g ≡ get_or gs (n / 1024) g)
    (within : n % 1024 < length g.chunks.items) (was : c ≡ get_or g.chunks.items (n % 1024) c) where
  pub chunk_is : get_or (rows gs) n [] ≡ page_rows c.pages.items
  chunk_is =
      group_read gs (n / 1024) inside g n is refl ∙ get_or-map (λ (x : Chunk). page_rows x.pages.items) g.chunks.items (n % 1024) c [] within
      ∙ ap (λ (x : Chunk). page_rows x.pages.items) (sym was)

-- another in its place
pub rows_set : (gs : List Group) (n : ℕ) (g h : Group) (d : Chunk) → n / 1024 < length gs → g ≡ get_or gs (n / 1024) g → n % 1024 < length g.chunks.items
    → h.chunks.items ≡ set g.chunks.items (n % 1024) d → rows (set gs (n / 1024) h) ≡ set (rows gs) n (page_rows d.pages.items)
rows_set gs n g h d inside is within new =
    let row : List (List ℕ) = page_rows d.pages.items in
    let k : ℕ = n / 1024 in
    let long : length (rows gs) ≡ 1024 * length gs = length-rows gs in
    let there : n < length (rows gs) = omega (arith, long, inside) in
    let all : List (List (List ℕ)) = group_rows g.chunks.items in
    let group : group_rows h.chunks.items ≡ set all (n % 1024) row =
    ap group_rows new ∙ map-set (λ (x : Chunk). page_rows x.pages.items) g.chunks.items (n % 1024) d in
    ext_get_or [] (rows (set gs k h)) (set (rows gs) n row)
    (length-rows (set gs k h) ∙ ap (λ (m : ℕ). 1024 * m) (length-set gs k h) ∙ sym long ∙ sym (length-set (rows gs) n row))
    (λ m lt. elim (cases_eq (m / 1024) k) [
      | inr other ↦
          group-set_other gs k inside h m other ∙ sym (get_or-set_other (rows gs) n m row [] (λ same. other (ap (λ (j : ℕ). j / 1024) same)))
      | inl at ↦
          group-set gs k inside h m at ∙ ap (λ (r : List (List (List ℕ))). get_or r (m % 1024) []) group
          ∙ elim (cases_eq m n) [
            | inl same ↦
                ap (λ (j : ℕ). get_or (set all (n % 1024) row) (j % 1024) []) same
                ∙ get_or-set_same all (n % 1024) row [] (omega (arith, within, length-chunks g.chunks.items))
                ∙ sym (get_or-set_same (rows gs) n row [] there) ∙ ap (λ (j : ℕ). get_or (set (rows gs) n row) j []) (sym same)
            | inr other ↦
                get_or-set_other all (n % 1024) (m % 1024) row [] (λ rest. other (omega (arith, at, rest)))
                ∙ sym (group_read gs k inside g m is at) ∙ sym (get_or-set_other (rows gs) n m row [] other)
          ]
    ])
