-- Numbers of pages that are laid: what laying one more, and writing one, leaves of the others.
use Rattle.std.proofs.Common.{◌≡◌, ℕ, zero, suc, ◌+◌, ◌<◌, ◌≤◌, List, [], ◌∷◌, ◌++◌, length, get_or, set, map}
use Rattle.std.proofs.Common.{Option, Some, None, refl, sym, subst, ap, ◌∙◌, inl, inr, arith, length-append}
use Rattle.std.proofs.lemmas.Bool.{cases_eq}
use Rattle.std.proofs.lemmas.List.{ext_get_or, get_or-map, get_or-set_same, get_or-set_other, get_or_append_left, length-map, length-set, map-set}
use Rattle.guest_windows.specs.Chunks.{page_rows, used, IsNumbering}
use Rattle.guest_windows.specs.Drafts.{numbered, own_rows, chunk_rows}
use Rattle.guest_windows.specs.declared.draft_chunk.DraftChunk.{DraftChunk}
use Rattle.guest_windows.specs.declared.page.Page.{Page}
use Rattle.std.specs.Vec.{vec_len}

-- ---- how many have one

used_within : (numbers : List ℕ) → used numbers ≤ length numbers
used_within [] = omega arith
used_within (zero ∷ numbers) = omega (arith, used_within numbers)
used_within (suc n ∷ numbers) = omega (arith, used_within numbers)

used_set : (numbers : List ℕ) (k n : ℕ) → k < length numbers → get_or numbers k 0 ≡ 0 → used (set numbers k (suc n)) ≡ suc (used numbers)
used_set [] k n lt free = absurd (omega (arith, lt))
used_set (zero ∷ numbers) zero n lt free = refl
used_set (suc m ∷ numbers) zero n lt free = absurd (omega (arith, free))
used_set (zero ∷ numbers) (suc k) n lt free = used_set numbers k n (omega (arith, lt)) free
used_set (suc m ∷ numbers) (suc k) n lt free = ap suc (used_set numbers k n (omega (arith, lt)) free)

-- there is room for one more
pub used_below : (numbers : List ℕ) (k : ℕ) → k < length numbers → get_or numbers k 0 ≡ 0 → used numbers < length numbers
used_below numbers k lt free =
    omega (arith, used_set numbers k 0 lt free, used_within (set numbers k 1), length-set numbers k 1)

-- ---- numberings

none_used : (numbers : List ℕ) → ((k : ℕ) → get_or numbers k 0 ≡ 0) → used numbers ≡ 0
none_used [] none = refl
none_used (zero ∷ numbers) none = none_used numbers (λ k. none (suc k))
none_used (suc n ∷ numbers) none = absurd (omega (arith, none 0))

pub no_numbering : (numbers : List ℕ) (count : ℕ) → ((k : ℕ) → get_or numbers k 0 ≡ 0) → count ≡ 0 → IsNumbering numbers count
no_numbering numbers count none is =
    (none_used numbers none ∙ sym is, λ k. omega (arith, none k), λ k j some same. absurd (omega (arith, some, none k)))

pub numbering_more : (numbers : List ℕ) (k n count : ℕ) → IsNumbering numbers count → n ≡ suc count → k < length numbers → get_or numbers k 0 ≡ 0
    → IsNumbering (set numbers k n) n
numbering_more numbers k n count is next lt free =
    let here : get_or (set numbers k n) k 0 ≡ n = get_or-set_same numbers k n 0 lt in (
      ap (λ (m : ℕ). used (set numbers k m)) next ∙ used_set numbers k count lt free ∙ ap suc is.0 ∙ sym next,
      λ j. elim (cases_eq j k) [
        | inl same ↦ omega (arith, here, ap (λ (i : ℕ). get_or (set numbers k n) i 0) same)
        | inr other ↦ omega (arith, get_or-set_other numbers k j n 0 other, is.1 j, next)
      ],
      λ i j some same. elim (cases_eq i k) [
        | inl at ↦
            let full : get_or (set numbers k n) i 0 ≡ n = ap (λ (m : ℕ). get_or (set numbers k n) m 0) at ∙ here in
            elim (cases_eq j k) [
              | inl there ↦ there ∙ sym at
              | inr other ↦ absurd (omega (arith, full, same, get_or-set_other numbers k j n 0 other, is.1 j, next))
            ]
        | inr past ↦
            let old : get_or (set numbers k n) i 0 ≡ get_or numbers i 0 = get_or-set_other numbers k i n 0 past in
            elim (cases_eq j k) [
              | inl there ↦ absurd (omega (arith, ap (λ (m : ℕ). get_or (set numbers k n) m 0) there, here, same, old, is.1 i, next))
              | inr other ↦
                  is.2 i j (omega (arith, some, old)) (sym (get_or-set_other numbers k j n 0 other) ∙ same ∙ old)
            ]
      ],
    )

-- ---- pages by their numbers

pub row_numbered : (numbers : List ℕ) (laid : List Page) (k : ℕ) → get_or (own_rows numbers laid) k None ≡ numbered (page_rows laid) (get_or numbers k 0)
row_numbered [] laid k = refl
row_numbered (n ∷ numbers) laid zero = refl
row_numbered (n ∷ numbers) laid (suc k) = row_numbered numbers laid k

pub numbered_is : (rows : List (List ℕ)) (n m : ℕ) → n ≡ m + 1 → m < length rows → numbered rows n ≡ Some (get_or rows m [])
numbered_is rows n m is lt =
    let next : n ≡ suc m = omega (arith, is) in
    ap (numbered rows) next ∙ get_or-map (λ (row : List ℕ). Some row) rows m [] None lt

numbered_before : (rows more : List (List ℕ)) (n : ℕ) → n ≤ length rows → numbered (rows ++ more) n ≡ numbered rows n
numbered_before rows more zero low = refl
numbered_before rows more (suc m) low =
    let lt : m < length rows = omega (arith, low) in
    numbered_is (rows ++ more) (suc m) m (omega arith) (omega (arith, lt, length-append rows more))
    ∙ ap (λ (row : List ℕ). Some row) (get_or_append_left rows more [] m lt) ∙ sym (numbered_is rows (suc m) m (omega arith) lt)

numbered_other : (rows : List (List ℕ)) (m n : ℕ) (row : List ℕ) → (n ≡ m + 1 → ⊥) → numbered (set rows m row) n ≡ numbered rows n
numbered_other rows m zero row other = refl
numbered_other rows m (suc k) row other =
    ap (λ (rs : List (Option (List ℕ))). get_or rs k None) (map-set (λ (r : List ℕ). Some r) rows m row)
    ∙ get_or-set_other (map (λ (r : List ℕ). Some r) rows) m k (Some row) None (λ same. other (omega (arith, same)))

rows_more : (laid : List Page) (p : Page) → page_rows (laid ++ p ∷ []) ≡ page_rows laid ++ p.bytes.items ∷ []
rows_more [] p = refl
rows_more (x ∷ laid) p = ap (λ (rs : List (List ℕ)). x.bytes.items ∷ rs) (rows_more laid p)

last_row : (rows : List (List ℕ)) (row : List ℕ) → get_or (rows ++ row ∷ []) (length rows) [] ≡ row
last_row [] row = refl
last_row (r ∷ rows) row = last_row rows row

same_numbered : (rows more : List (List ℕ)) (numbers : List ℕ) → ((k : ℕ) → get_or numbers k 0 ≤ length rows)
    → map (numbered (rows ++ more)) numbers ≡ map (numbered rows) numbers
same_numbered rows more [] low = refl
same_numbered rows more (n ∷ numbers) low =
    ap (λ (o : Option (List ℕ)). o ∷ map (numbered (rows ++ more)) numbers) (numbered_before rows more n (low 0))
    ∙ ap (λ (rs : List (Option (List ℕ))). numbered rows n ∷ rs) (same_numbered rows more numbers (λ k. low (suc k)))

-- one more page is laid
pub rows_laid : (numbers : List ℕ) (laid : List Page) (k n : ℕ) (p : Page) → IsNumbering numbers (length laid) → n ≡ length laid + 1
    → own_rows (set numbers k n) (laid ++ p ∷ []) ≡ set (own_rows numbers laid) k (Some p.bytes.items)
rows_laid numbers laid k n p is next =
    let rows : List (List ℕ) = page_rows laid in
    let row : List ℕ = p.bytes.items in
    let long : length rows ≡ length laid = length-map laid (λ (x : Page). x.bytes.items) in
    let all : List (List ℕ) = rows ++ row ∷ [] in
    let last : numbered all n ≡ Some row =
    numbered_is all n (length rows) (omega (arith, next, long)) (omega (arith, length-append rows (row ∷ [])))
    ∙ ap (λ (r : List ℕ). Some r) (last_row rows row) in
    ap (λ (rs : List (List ℕ)). map (numbered rs) (set numbers k n)) (rows_more laid p) ∙ map-set (numbered all) numbers k n
    ∙ ap (λ (o : Option (List ℕ)). set (map (numbered all) numbers) k o) last
    ∙ ap (λ (rs : List (Option (List ℕ))). set rs k (Some row)) (same_numbered rows (row ∷ []) numbers (λ j. omega (arith, is.1 j, long)))

-- one that is laid is written
pub rows_written : (numbers : List ℕ) (laid : List Page) (k m : ℕ) (p : Page) → IsNumbering numbers (length laid) → k < length numbers
    → get_or numbers k 0 ≡ m + 1 → m < length laid → own_rows numbers (set laid m p) ≡ set (own_rows numbers laid) k (Some p.bytes.items)
rows_written numbers laid k m p is lt at inside =
    let rows : List (List ℕ) = page_rows laid in
    let row : List ℕ = p.bytes.items in
    let before : List (Option (List ℕ)) = own_rows numbers laid in
    let long : length before ≡ length numbers = length-map numbers (numbered rows) in
    let there : m < length rows = omega (arith, inside, length-map laid (λ (x : Page). x.bytes.items)) in
    let after : page_rows (set laid m p) ≡ set rows m row = map-set (λ (x : Page). x.bytes.items) laid m p in
    ext_get_or None (own_rows numbers (set laid m p)) (set before k (Some row))
    (length-map numbers (numbered (page_rows (set laid m p))) ∙ sym long ∙ sym (length-set before k (Some row)))
    (λ i low.
    row_numbered numbers (set laid m p) i ∙ ap (λ (rs : List (List ℕ)). numbered rs (get_or numbers i 0)) after
    ∙ elim (cases_eq i k) [
      | inl same ↦
          ap (λ (j : ℕ). numbered (set rows m row) (get_or numbers j 0)) same
          ∙ numbered_is (set rows m row) (get_or numbers k 0) m at (omega (arith, there, length-set rows m row))
          ∙ ap (λ (r : List ℕ). Some r) (get_or-set_same rows m row [] there)
          ∙ sym (ap (λ (j : ℕ). get_or (set before k (Some row)) j None) same ∙ get_or-set_same before k (Some row) None (omega (arith, lt, long)))
      | inr other ↦
          numbered_other rows m (get_or numbers i 0) row (λ same. other (is.2 k i (omega (arith, at)) (same ∙ sym at)))
          ∙ sym (row_numbered numbers laid i) ∙ sym (get_or-set_other before k i (Some row) None other)
    ])

pub no_rows : (numbers : List ℕ) (laid : List Page) → ((k : ℕ) → get_or numbers k 0 ≡ 0) → (k : ℕ) → get_or (own_rows numbers laid) k None ≡ None
no_rows numbers laid none k = row_numbered numbers laid k ∙ ap (numbered (page_rows laid)) (none k)

-- other pages have the rows that they had
pub same_page : (rows ts : List (List ℕ)) (n : ℕ) → n ≤ length rows → length ts ≡ length rows → ((k : ℕ) → n ≡ k + 1 → get_or ts k [] ≡ get_or rows k [])
    → numbered ts n ≡ numbered rows n
same_page rows ts zero low long same = refl
same_page rows ts (suc m) low long same =
    numbered_is ts (suc m) m (omega arith) (omega (arith, low, long)) ∙ ap (λ (r : List ℕ). Some r) (same m (omega arith))
    ∙ sym (numbered_is rows (suc m) m (omega arith) (omega (arith, low)))

-- ---- a chunk of a draft

pub chunk_numbering : (c : DraftChunk) → IsNumbering c.numbers.items (length c.laid.items)
chunk_numbering c = let long : vec_len c.laid ≡ length c.laid.items = omega (arith, c.laid.ok.0) in subst (IsNumbering c.numbers.items) long c.numbered

pub has_number : (c : DraftChunk) (page : ℕ) → page < 4096 → page < length c.numbers.items
has_number c page lt = omega (arith, lt, c.numbers.ok.0, c.sized)

-- the row of a page that is laid
pub row_laid : (c : DraftChunk) (page place : ℕ) (row : List ℕ) → get_or c.numbers.items page 0 ≡ place + 1 → place < length c.laid.items
    → get_or (chunk_rows c) page None ≡ Some row → row ≡ get_or (page_rows c.laid.items) place []
row_laid c page place row at inside is =
    some_same row (get_or (page_rows c.laid.items) place []) (sym is ∙ row_numbered c.numbers.items c.laid.items page
    ∙ numbered_is (page_rows c.laid.items) (get_or c.numbers.items page 0) place at
    (omega (arith, inside, length-map c.laid.items (λ (x : Page). x.bytes.items))))
  where
    some_same : (r s : List ℕ) → Some r ≡ Some s → r ≡ s
    some_same r s e = cc

pub slot_there : (c : DraftChunk) (page : ℕ) → page < 4096 → page < length (chunk_rows c)
slot_there c page lt = omega (arith, has_number c page lt, length-map c.numbers.items (numbered (page_rows c.laid.items)))
