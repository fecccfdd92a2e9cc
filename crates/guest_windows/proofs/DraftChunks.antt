-- The chunks of a draft: which has a page, and what writing one leaves of the others.
use Rattle.std.proofs.Common.{◌≡◌, ℕ, zero, suc, ◌+◌, ◌/◌, ◌%◌, ◌==◌, ◌<◌, Bool, true, false, cond, List, [], ◌∷◌, ◌++◌, length, get_or, set}
use Rattle.std.proofs.Common.{Option, Some, None, refl, sym, subst, ap, ◌∙◌, inl, inr, arith, length-append}
use Rattle.std.specs.Prelude.{◌&&◌, is_some}
use Rattle.std.proofs.lemmas.Bool.{and_parts, eqb-true, cases_Bool}
use Rattle.std.proofs.lemmas.Bool.Decides.{nat_tests}
use Rattle.std.proofs.lemmas.List.{get_or-set_same, get_or-set_other, get_or_append_left, length-map}
use Rattle.guest_windows.specs.Pages.{rows, page_row}
use Rattle.guest_windows.specs.Drafts.{chunk_rows, numbered, first_of, own_page, own_of, own_place, key_place, byte_over, byte_laid, Lays, Wrote}
use Rattle.guest_windows.specs.declared.frame.Frame.{Frame}
use Rattle.guest_windows.specs.Chunks.{page_rows}
use Rattle.guest_windows.specs.declared.draft_chunk.DraftChunk.{DraftChunk}
use Rattle.guest_windows.proofs.Places.{chosen}

-- ---- one chunk

pub own_there : (c : DraftChunk) (k q : ℕ) → c.window ≡ k → c.at ≡ q / 4096 → own_page c k q ≡ get_or (chunk_rows c) (q % 4096) None
own_there c k q window at =
    let here : (c.window == k && c.at == q / 4096) ≡ true = grind (arith, nat_tests, window, at) in
    ap (λ (b : Bool). cond b (get_or (chunk_rows c) (q % 4096) None) None) here

key_of : (c : DraftChunk) (k n : ℕ) → (c.window == k && c.at == n) ≡ true → (c.window ≡ k) × (c.at ≡ n)
key_of c k n same = let p = and_parts (c.window == k) (c.at == n) same in (eqb-true c.window k p.0, eqb-true c.at n p.1)

own_key : (c : DraftChunk) (k q : ℕ) → is_some (own_page c k q) ≡ true → (c.window ≡ k) × (c.at ≡ q / 4096)
own_key c k q some =
    elim (cases_Bool (c.window == k && c.at == q / 4096)) [
      | inl here ↦ key_of c k (q / 4096) here
      | inr other ↦ absurd (let e = ap (λ (b : Bool). is_some (cond b (get_or (chunk_rows c) (q % 4096) None) None)) other in cc)
    ]

-- other pages stay
own_other : (c d : DraftChunk) (j : ℕ) (row : List ℕ) (k q : ℕ) → d.window ≡ c.window → d.at ≡ c.at
    → chunk_rows d ≡ set (chunk_rows c) j (Some row) → (c.window ≡ k → c.at ≡ q / 4096 → q % 4096 ≡ j → ⊥)
    → own_page d k q ≡ own_page c k q
own_other c d j row k q window at after not =
    let keys : (d.window == k && d.at == q / 4096) ≡ (c.window == k && c.at == q / 4096) =
    ap (λ (x : ℕ). x == k && d.at == q / 4096) window ∙ ap (λ (y : ℕ). c.window == k && y == q / 4096) at in
    ap (λ (b : Bool). cond b (get_or (chunk_rows d) (q % 4096) None) None) keys
    ∙ ap (λ (rs : List (Option (List ℕ))). cond (c.window == k && c.at == q / 4096) (get_or rs (q % 4096) None) None) after
    ∙ elim (cases_Bool (c.window == k && c.at == q / 4096)) [
      | inl here ↦
          let p = key_of c k (q / 4096) here in
          ap (λ (o : Option (List ℕ)). cond (c.window == k && c.at == q / 4096) o None)
          (get_or-set_other (chunk_rows c) j (q % 4096) (Some row) None (λ is. not p.0 p.1 is))
      | inr other ↦
          ap (λ (b : Bool). cond b (get_or (set (chunk_rows c) j (Some row)) (q % 4096) None) None) other
          ∙ sym (ap (λ (b : Bool). cond b (get_or (chunk_rows c) (q % 4096) None) None) other)
    ]

-- ---- all chunks

of_set_here : (cs : List DraftChunk) (j : ℕ) (c : DraftChunk) (k q : ℕ) (row : List ℕ) → j < length cs
    → ((i : ℕ) (d : DraftChunk) → i < j → own_page (get_or cs i d) k q ≡ None) → own_page c k q ≡ Some row → own_of (set cs j c) k q ≡ Some row
of_set_here [] j c k q row lt before is = absurd (omega arith)
of_set_here (x ∷ xs) zero c k q row lt before is = ap (λ (o : Option (List ℕ)). first_of o (own_of xs k q)) is
of_set_here (x ∷ xs) (suc j) c k q row lt before is =
    ap (λ (o : Option (List ℕ)). first_of o (own_of (set xs j c) k q)) (before 0 x (omega arith))
    ∙ of_set_here xs j c k q row (omega arith) (λ i d low. before (suc i) d (omega (arith, low))) is

of_set_other : (cs : List DraftChunk) (j : ℕ) (c d : DraftChunk) (k q : ℕ) → j < length cs → own_page c k q ≡ own_page (get_or cs j d) k q
    → own_of (set cs j c) k q ≡ own_of cs k q
of_set_other [] j c d k q lt same = absurd (omega arith)
of_set_other (x ∷ xs) zero c d k q lt same = ap (λ (o : Option (List ℕ)). first_of o (own_of xs k q)) same
of_set_other (x ∷ xs) (suc j) c d k q lt same = ap (first_of (own_page x k q)) (of_set_other xs j c d k q (omega arith) same)

pub of_append : (cs : List DraftChunk) (c : DraftChunk) (k q : ℕ) → own_of (cs ++ c ∷ []) k q ≡ first_of (own_of cs k q) (own_page c k q)
of_append [] c k q = last (own_page c k q)
  where
    last : (o : Option (List ℕ)) → first_of o None ≡ o
    last None = refl
    last (Some row) = refl
of_append (x ∷ xs) c k q =
    ap (first_of (own_page x k q)) (of_append xs c k q) ∙ assoc (own_page x k q) (own_of xs k q) (own_page c k q)
  where
    assoc : (a b o : Option (List ℕ)) → first_of a (first_of b o) ≡ first_of (first_of a b) o
    assoc None b o = refl
    assoc (Some row) b o = refl

-- chunk j written in page q
pub wrote : (cs : List DraftChunk) (k q j : ℕ) (c d : DraftChunk) (row : List ℕ) → Lays cs k q j → c ≡ get_or cs j c
    → q % 4096 < length (chunk_rows c) → d.window ≡ c.window → d.at ≡ c.at
    → chunk_rows d ≡ set (chunk_rows c) (q % 4096) (Some row) → Wrote cs (set cs j d) k q row
wrote cs k q j c d row lays is there window at after =
    let window_is : c.window ≡ k = ap (λ (x : DraftChunk). x.window) is ∙ lays.window_is c in
    let at_is : c.at ≡ q / 4096 = ap (λ (x : DraftChunk). x.at) is ∙ lays.at_is c in
    record {
      here = of_set_here cs j d k q row lays.inside (λ i e low. lays.before i e low)
          (own_there d k q (window ∙ window_is) (at ∙ at_is) ∙ ap (λ (rs : List (Option (List ℕ))). get_or rs (q % 4096) None) after
          ∙ get_or-set_same (chunk_rows c) (q % 4096) (Some row) None there);
      others = λ n p not. of_set_other cs j d c n p lays.inside
          (own_other c d (q % 4096) row n p window at after
          (λ w a rest. not (sym w ∙ window_is, omega (arith, a, at_is, rest)))
          ∙ ap (λ (x : DraftChunk). own_page x n p) is);
    }

pub own_elsewhere : (c : DraftChunk) (k q : ℕ) → (c.window ≡ k → c.at ≡ q / 4096 → ⊥) → own_page c k q ≡ None
own_elsewhere c k q not =
    elim (cases_Bool (c.window == k && c.at == q / 4096)) [
      | inl here ↦ absurd (let p = key_of c k (q / 4096) here in not p.0 p.1)
      | inr other ↦ ap (λ (b : Bool). cond b (get_or (chunk_rows c) (q % 4096) None) None) other
    ]

pub no_items : {X : Type 0} (xs : List X) → length xs ≡ 0 → xs ≡ []
no_items [] none = refl
no_items (x ∷ xs) none = absurd (omega (arith, none))

-- there is a place for each page
pub has_slot : (c : DraftChunk) (q : ℕ) → q % 4096 < length (chunk_rows c)
has_slot c q = omega (arith, length-map c.numbers.items (numbered (page_rows c.laid.items)), c.numbers.ok.0, c.sized)

pub bare_chunk : (c : DraftChunk) → ((k : ℕ) → get_or (chunk_rows c) k None ≡ None) → (k q : ℕ) → own_page c k q ≡ None
bare_chunk c none k q =
    ap (λ (o : Option (List ℕ)). cond (c.window == k && c.at == q / 4096) o None) (none (q % 4096)) ∙ either (c.window == k && c.at == q / 4096) None
  where
    either : (b : Bool) → (o : Option (List ℕ)) → cond b o o ≡ o
    either true o = refl
    either false o = refl

pub first_none : (o : Option (List ℕ)) → first_of o None ≡ o
first_none None = refl
first_none (Some row) = refl

pub slot_is : (cs : List DraftChunk) (k q j : ℕ) (d : DraftChunk) → Lays cs k q j
    → own_of cs k q ≡ get_or (chunk_rows (get_or cs j d)) (q % 4096) None
slot_is cs k q j d lays = lays.own d ∙ own_there (get_or cs j d) k q (lays.window_is d) (lays.at_is d)

pub some_chunk : (cs : List DraftChunk) (j : ℕ) → j < length cs → DraftChunk
some_chunk [] j lt = absurd (omega (arith, lt))
some_chunk (c ∷ cs) j lt = c

pub zero_unheld : (o : Option (List ℕ)) (k x : ℕ) → is_some o ≡ true → ((row : List ℕ) → o ≡ Some row → row ≡ []) → byte_over o k x ≡ 0
zero_unheld None k x some none = absurd cc
zero_unheld (Some row) k x some none = ap (λ (r : List ℕ). get_or r k 0) (none row refl)

-- the byte at a place, by its page
pub in_page : (cs : List DraftChunk) (f : Frame) (k q i : ℕ) → i / 65536 ≡ q
    → byte_laid cs f k i ≡ byte_over (own_of cs k q) (i % 65536) (get_or (page_row (rows f.groups.items) q) (i % 65536) 0)
in_page cs f k q i is = ap (λ (p : ℕ). byte_over (own_of cs k p) (i % 65536) (get_or (page_row (rows f.groups.items) p) (i % 65536) 0)) is

-- ---- where a page is

module _ (k q : ℕ) where
  none_later : (o p : Option (List ℕ)) → is_some o ≡ false → first_of o p ≡ p
  none_later None p none = refl
  none_later (Some row) p none = absurd cc

  none_is : (o : Option (List ℕ)) → is_some o ≡ false → o ≡ None
  none_is None none = refl
  none_is (Some row) none = absurd cc

  some_first : (o p : Option (List ℕ)) → is_some o ≡ true → first_of o p ≡ o
  some_first None p some = absurd cc
  some_first (Some row) p some = refl

  next : (c : DraftChunk) (cs : List DraftChunk) (n : ℕ) → own_page c k q ≡ None → Lays cs k q n → Lays (c ∷ cs) k q (suc n)
  next c cs n none lays = record {
    inside = omega (arith, lays.inside);
    window_is = λ d. lays.window_is d;
    at_is = λ d. lays.at_is d;
    before = λ i d low. earlier i d low;
    own = λ d. ap (λ (o : Option (List ℕ)). first_of o (own_of cs k q)) none ∙ lays.own d;
  }
    where
      earlier : (i : ℕ) (d : DraftChunk) → i < suc n → own_page (get_or (c ∷ cs) i d) k q ≡ None
      earlier zero d low = none
      earlier (suc i) d low = lays.before i d (omega (arith, low))

  pub page_found : (cs : List DraftChunk) (i j : ℕ) → own_place i cs k q ≡ Some j → (n : ℕ) × (j ≡ i + n) × Lays cs k q n
  page_found [] i j e = absurd cc
  page_found (c ∷ cs) i j e =
      elim (chosen (is_some (own_page c k q)) (Some i) (own_place (i + 1) cs k q) (Some j) e) [
        | inl p ↦
            let key = own_key c k q p.0 in (
              0,
              omega (arith, (let s : Some i ≡ Some j = p.1 in let r : i ≡ j = cc in r)),
              record {
                inside = omega arith;
                window_is = λ d. key.0;
                at_is = λ d. key.1;
                before = λ n d low. absurd (omega (arith, low));
                own = λ d. some_first (own_page c k q) (own_of cs k q) p.0;
              },
            )
        | inr p ↦
            let r = page_found cs (i + 1) j p.1 in
            (suc r.0, omega (arith, r.1), next c cs r.0 (none_is (own_page c k q) p.0) r.2)
      ]

  pub page_some : (cs : List DraftChunk) (i j : ℕ) → own_place i cs k q ≡ Some j → is_some (own_of cs k q) ≡ true
  page_some [] i j e = absurd cc
  page_some (c ∷ cs) i j e =
      elim (chosen (is_some (own_page c k q)) (Some i) (own_place (i + 1) cs k q) (Some j) e) [
        | inl p ↦ ap is_some (some_first (own_page c k q) (own_of cs k q) p.0) ∙ p.0
        | inr p ↦ ap is_some (none_later (own_page c k q) (own_of cs k q) p.0) ∙ page_some cs (i + 1) j p.1
      ]

  -- no chunk has it
  pub record Absent (cs : List DraftChunk) : Type 0 where
    pub each : (n : ℕ) (d : DraftChunk) → n < length cs → own_page (get_or cs n d) k q ≡ None
    pub all : own_of cs k q ≡ None

  pub page_absent : (cs : List DraftChunk) (i : ℕ) → own_place i cs k q ≡ None → Absent cs
  page_absent [] i e = record { each = λ n d lt. absurd (omega (arith, lt)); all = refl }
  page_absent (c ∷ cs) i e =
      elim (chosen (is_some (own_page c k q)) (Some i) (own_place (i + 1) cs k q) None e) [
        | inl p ↦ absurd (let s : Some i ≡ None = p.1 in cc)
        | inr p ↦
            let r = page_absent cs (i + 1) p.1 in
            let none = none_is (own_page c k q) p.0 in
            record {
              each = λ n d lt. earlier r none n d lt;
              all = ap (λ (o : Option (List ℕ)). first_of o (own_of cs k q)) none ∙ r.all;
            }
      ]
    where
      earlier : Absent cs → own_page c k q ≡ None → (n : ℕ) (d : DraftChunk) → n < length (c ∷ cs) → own_page (get_or (c ∷ cs) n d) k q ≡ None
      earlier r none zero d lt = none
      earlier r none (suc n) d lt = r.each n d (omega (arith, lt))

  -- the chunk that it can be written to
  chunk_found : (cs : List DraftChunk) (i j : ℕ) → key_place i cs k (q / 4096) ≡ Some j
      → (n : ℕ) × (j ≡ i + n) × (n < length cs) × ((d : DraftChunk) → ((get_or cs n d).window ≡ k) × ((get_or cs n d).at ≡ q / 4096))
  chunk_found [] i j e = absurd cc
  chunk_found (c ∷ cs) i j e =
      elim (chosen (c.window == k && c.at == q / 4096) (Some i) (key_place (i + 1) cs k (q / 4096)) (Some j) e) [
        | inl p ↦ (
          0,
          omega (arith, (let s : Some i ≡ Some j = p.1 in let r : i ≡ j = cc in r)),
          omega arith,
          λ d. key_of c k (q / 4096) p.0,
        )
        | inr p ↦ let r = chunk_found cs (i + 1) j p.1 in (suc r.0, omega (arith, r.1), omega (arith, r.2), λ d. r.3 d)
      ]

  pub lays_page : (cs : List DraftChunk) (j : ℕ) → own_place 0 cs k q ≡ Some j → Lays cs k q j
  lays_page cs j e = let r = page_found cs 0 j e in let is : r.0 ≡ j = omega (arith, r.1) in subst (Lays cs k q) is r.2

  pub lays_chunk : (cs : List DraftChunk) (j : ℕ) → own_place 0 cs k q ≡ None → key_place 0 cs k (q / 4096) ≡ Some j → Lays cs k q j
  lays_chunk cs j absent e =
      let none = page_absent cs 0 absent in
      let r = chunk_found cs 0 j e in
      let is : r.0 ≡ j = omega (arith, r.1) in
      subst (Lays cs k q) is (record {
        inside = r.2;
        window_is = λ d. (r.3 d).0;
        at_is = λ d. (r.3 d).1;
        before = λ n d low. none.each n d (omega (arith, low, r.2));
        own = λ d. none.all ∙ sym (none.each r.0 d r.2);
      })

  pub lays_new : (cs : List DraftChunk) (c : DraftChunk) → own_place 0 cs k q ≡ None → c.window ≡ k → c.at ≡ q / 4096
      → ((n p : ℕ) → own_page c n p ≡ None) → Lays (cs ++ c ∷ []) k q (length cs)
  lays_new cs c absent window at bare =
      let none = page_absent cs 0 absent in
      record {
        inside = omega (arith, length-append cs (c ∷ []));
        window_is = λ d. ap (λ (x : DraftChunk). x.window) (last cs d) ∙ window;
        at_is = λ d. ap (λ (x : DraftChunk). x.at) (last cs d) ∙ at;
        before = λ n d low. ap (λ (x : DraftChunk). own_page x k q) (get_or_append_left cs (c ∷ []) d n low) ∙ none.each n d low;
        own = λ d. of_append cs c k q ∙ ap (λ (o : Option (List ℕ)). first_of o (own_page c k q)) none.all
            ∙ sym (ap (λ (x : DraftChunk). own_page x k q) (last cs d));
      }
    where
      last : (xs : List DraftChunk) (d : DraftChunk) → get_or (xs ++ c ∷ []) (length xs) d ≡ c
      last [] d = refl
      last (x ∷ xs) d = last xs d
