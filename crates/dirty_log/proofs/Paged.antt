-- Pages with their numbers and marks in two lists.
use Rattle.std.proofs.Common.{◌≡◌, ℕ, zero, suc, ◌+◌, ◌-◌, ◌*◌, ◌/◌, ◌<◌, ◌≤◌, Bool, true, false, cond, List, [], ◌∷◌, map, take, length, get_or, replicate, Some}
use Rattle.std.proofs.Common.{None, eqb, refl, sym, ap, ◌∙◌, inl, inr, arith}
use Rattle.std.specs.Prelude.{◌&&◌, ◌||◌, nat_le, nat_lt, count_by, find}
use Rattle.std.specs.Option.{option_map}
use Rattle.std.proofs.lemmas.Bool.{cases_lt, cases_eq, eq-eqb, ne_eqb, lt-ltb, le-ltb, le-leb, lt-leb}
use Rattle.std.proofs.lemmas.List.Sums.{sum_by-cons}
use Rattle.guest_windows.specs.Windows.{Window}
use Rattle.guest_windows.specs.Mixed.{mixed_windows}
use Rattle.dirty_log.specs.Pages.{page, meets, marked, set_all, dirty_count, next_dirty}
use Rattle.dirty_log.specs.Copies.{copied}
use Rattle.dirty_log.specs.Listing.{is_of_dirty}
use Rattle.dirty_log.specs.Bits.{NoneIn, IsFirstIn}
use Rattle.dirty_log.specs.Stretches.{paged}
use Rattle.dirty_log.specs.declared.page.Page.{Page}
use Rattle.dirty_log.proofs.Copying.{never, of_clean, copied_more}

pub length_paged : (ns : List ℕ) (bs : List Bool) → length bs ≡ length ns → length (paged ns bs) ≡ length ns
length_paged [] bs e = refl
length_paged (n ∷ ns) [] e = absurd (omega (arith, e))
length_paged (n ∷ ns) (b ∷ bs) e = ap suc (length_paged ns bs (omega (arith, e)))

pub page_at : (ns : List ℕ) (bs : List Bool) (k : ℕ) (d : Page) → length bs ≡ length ns → k < length ns
    → get_or (paged ns bs) k d ≡ page (get_or bs k false) (get_or ns k 0)
page_at [] bs k d e lt = absurd (omega (arith, lt))
page_at (n ∷ ns) [] k d e lt = absurd (omega (arith, e))
page_at (n ∷ ns) (b ∷ bs) zero d e lt = refl
page_at (n ∷ ns) (b ∷ bs) (suc k) d e lt = page_at ns bs k d (omega (arith, e)) (omega (arith, lt))

-- ---- marks

-- these pages have one of the bytes
lt_same : (a b c d : ℕ) → (a < b → c < d) → (c < d → a < b) → nat_lt a b ≡ nat_lt c d
lt_same a b c d there back =
    elim (cases_lt a b) [
      | inl lt ↦ lt-ltb a b lt ∙ sym (lt-ltb c d (there lt))
      | inr le ↦ elim (cases_lt c d) [
        | inl lt ↦ absurd (let less = back lt in omega (arith, le, less))
        | inr ge ↦ le-ltb a b le ∙ sym (le-ltb c d ge)
      ]
    ]

pub meets_is : (address len n : ℕ) → 0 < len → meets address len n ≡ (nat_le (address / 4096) n && nat_lt n ((address + (len - 1)) / 4096 + 1))
meets_is address len n some =
    ap (λ (b : Bool). b && nat_le (address / 4096) n && nat_lt (4096 * n) (address + len)) (lt-ltb 0 len some)
    ∙ ap (λ (b : Bool). nat_le (address / 4096) n && b)
    (lt_same (4096 * n) (address + len) n ((address + (len - 1)) / 4096 + 1) (λ lt. omega (arith, lt, some)) (λ lt. omega (arith, lt, some)))

pub marked_is : (address len : ℕ) (ns : List ℕ) (bs new : List Bool) → length bs ≡ length ns → length new ≡ length ns
    → ((k : ℕ) → k < length ns → get_or new k false ≡ (get_or bs k false || meets address len (get_or ns k 0)))
    → paged ns new ≡ marked address len (paged ns bs)
marked_is address len [] bs new e e' each = refl
marked_is address len (n ∷ ns) [] new e e' each = absurd (omega (arith, e))
marked_is address len (n ∷ ns) (b ∷ bs) [] e e' each = absurd (omega (arith, e'))
marked_is address len (n ∷ ns) (b ∷ bs) (c ∷ new) e e' each =
    let first : c ≡ (b || meets address len n) = each 0 (omega arith) in
    let rest = marked_is address len ns bs new (omega (arith, e)) (omega (arith, e')) (λ k lt. each (suc k) (omega (arith, lt))) in
    λ i. page (first i) n ∷ rest i

pub no_mark : (address : ℕ) (pages : List Page) → pages ≡ marked address 0 pages
no_mark address [] = refl
no_mark address (p ∷ pages) = λ i. record { number = p.number; dirty = or_false p.dirty i } ∷ no_mark address pages i
  where
    or_false : (b : Bool) → b ≡ (b || false)
    or_false true = refl
    or_false false = refl

pub set_is : (dirty : Bool) (ns : List ℕ) (bs new : List Bool) → length bs ≡ length ns → length new ≡ length ns
    → ((k : ℕ) → k < length ns → get_or new k false ≡ dirty) → paged ns new ≡ set_all dirty (paged ns bs)
set_is dirty [] bs new e e' each = refl
set_is dirty (n ∷ ns) [] new e e' each = absurd (omega (arith, e))
set_is dirty (n ∷ ns) (b ∷ bs) [] e e' each = absurd (omega (arith, e'))
set_is dirty (n ∷ ns) (b ∷ bs) (c ∷ new) e e' each =
    let first : c ≡ dirty = each 0 (omega arith) in
    let rest = set_is dirty ns bs new (omega (arith, e)) (omega (arith, e')) (λ k lt. each (suc k) (omega (arith, lt))) in
    λ i. page (first i) n ∷ rest i

pub counted : (ns : List ℕ) (bs : List Bool) → length bs ≡ length ns → count_by (λ (b : Bool). b) bs ≡ dirty_count (paged ns bs)
counted [] [] e = refl
counted [] (b ∷ bs) e = absurd (omega (arith, e))
counted (n ∷ ns) [] e = absurd (omega (arith, e))
counted (n ∷ ns) (b ∷ bs) e =
    sum_by-cons (λ (c : Bool). cond {A = ℕ} c 1 0) b bs
    ∙ ap (λ (m : ℕ). cond {A = ℕ} b 1 0 + m) (counted ns bs (omega (arith, e)))
    ∙ sym (sum_by-cons (λ (p : Page). cond {A = ℕ} p.dirty 1 0) (page b n) (paged ns bs))

pub all_clean : (ns : List ℕ) → paged ns (replicate (length ns) false) ≡ map (page false) ns
all_clean [] = refl
all_clean (n ∷ ns) = ap (λ (ps : List Page). page false n ∷ ps) (all_clean ns)

-- ---- the first dirty page

find_is : (test : Page → Bool) (ps : List Page) (k : ℕ) (d : Page) → k < length ps → test (get_or ps k d) ≡ true
    → ((j : ℕ) → j < k → test (get_or ps j d) ≡ false) → find test ps ≡ Some (get_or ps k d)
find_is test [] k d lt met before = absurd (omega (arith, lt))
find_is test (p ∷ ps) zero d lt met before = ap (λ (b : Bool). cond b (Some p) (find test ps)) met
find_is test (p ∷ ps) (suc k) d lt met before =
    ap (λ (b : Bool). cond b (Some p) (find test ps)) (before 0 (omega arith))
    ∙ find_is test ps k d (omega (arith, lt)) met (λ j below. before (suc j) (omega (arith, below)))

find_none : (test : Page → Bool) (ps : List Page) (d : Page) → ((j : ℕ) → j < length ps → test (get_or ps j d) ≡ false) → find test ps ≡ None
find_none test [] d before = refl
find_none test (p ∷ ps) d before =
    ap (λ (b : Bool). cond b (Some p) (find test ps)) (before 0 (omega arith))
    ∙ find_none test ps d (λ j below. before (suc j) (omega (arith, below)))

-- the places from `start` on are those of the numbers from `from` on
pub record Starts (ns : List ℕ) (bs : List Bool) (from start : ℕ) : Type 0 where
  pub size : length bs ≡ length ns
  pub before : (k : ℕ) → k < start → get_or ns k 0 < from
  pub after : (k : ℕ) → start ≤ k → k < length ns → from ≤ get_or ns k 0

module _ (ns : List ℕ) (bs : List Bool) (from start : ℕ) (s : Starts ns bs from start) where
  abbrev none : Page
  none = record { number = 0; dirty = false }

  abbrev test : Page → Bool
  test p = p.dirty && nat_le from p.number

  clean : (k : ℕ) → k < length ns → get_or bs k false ≡ false → test (get_or (paged ns bs) k none) ≡ false
  clean k lt isnt = ap test (page_at ns bs k none s.size lt) ∙ ap (λ (b : Bool). b && nat_le from (get_or ns k 0)) isnt

  early : (k : ℕ) → k < length ns → k < start → test (get_or (paged ns bs) k none) ≡ false
  early k lt below =
      ap test (page_at ns bs k none s.size lt) ∙ ap (λ (b : Bool). get_or bs k false && b) (lt-leb from (get_or ns k 0) (s.before k below))
      ∙ and_false (get_or bs k false)
    where
      and_false : (b : Bool) → (b && false) ≡ false
      and_false true = refl
      and_false false = refl

  pub first_dirty : (place : ℕ) → IsFirstIn (λ k. get_or bs k false) start (length bs) place → Some (get_or ns place 0) ≡ next_dirty from (paged ns bs)
  first_dirty place first =
      let inside : place < length ns = let lt = first.below in let e = s.size in omega (arith, lt, e) in
      let at = page_at ns bs place none s.size inside in
      let met : test (get_or (paged ns bs) place none) ≡ true = ap test at ∙ ap (λ (b : Bool). b && nat_le from (get_or ns place 0)) first.met
      ∙ le-leb from (get_or ns place 0) (s.after place first.from inside) in
      sym (ap (option_map (λ p. p.number)) (find_is test (paged ns bs) place none (let e = length_paged ns bs s.size in omega (arith, inside, e)) met
      (λ j lt. elim (cases_lt j start) [
        | inl low ↦ early j (omega (arith, lt, inside)) low
        | inr high ↦ clean j (omega (arith, lt, inside)) (first.before j high lt)
      ])) ∙ ap (λ (p : Page). Some p.number) at)

  pub none_dirty : NoneIn (λ k. get_or bs k false) start (length bs) → None ≡ next_dirty from (paged ns bs)
  none_dirty isnt =
      sym (ap (option_map (λ p. p.number)) (find_none test (paged ns bs) none (λ j below.
      let lt : j < length ns = let e = length_paged ns bs s.size in omega (arith, below, e) in
      elim (cases_lt j start) [
        | inl low ↦ early j lt low
        | inr high ↦ clean j lt (isnt j high (let e = s.size in omega (arith, lt, e)))
      ])))

-- ---- a copy from dirty page to dirty page

module _ (memory copy : List Window) (ns : List ℕ) (bs : List Bool) (size : length bs ≡ length ns) where
  abbrev nothing : Page
  nothing = record { number = 0; dirty = false }

  abbrev upto : ℕ → List Window
  upto k = copied memory (take k (paged ns bs)) copy

  one_clean : (k : ℕ) → k < length ns → get_or bs k false ≡ false → upto k ≡ upto (k + 1)
  one_clean k lt isnt =
      let at = page_at ns bs k nothing size lt in
      let p : Page = get_or (paged ns bs) k nothing in
      never (is_of_dirty (get_or (paged ns bs) k nothing)) (of_clean (get_or (paged ns bs) k nothing) (ap (λ (q : Page). q.dirty) at ∙ isnt)) memory (upto k)
      ∙ copied_more memory copy (paged ns bs) k nothing (let e = length_paged ns bs size in omega (arith, lt, e))

  pub clean_to : (at n : ℕ) → at + n ≤ length ns → NoneIn (λ k. get_or bs k false) at (at + n) → upto at ≡ upto (at + n)
  clean_to at zero le none = let e : at ≡ at + 0 = omega arith in ap upto e
  clean_to at (suc n) le none =
      let more : at + n + 1 ≡ at + suc n = omega arith in
      clean_to at n (omega (arith, le)) (λ y from below. none y from (omega (arith, below)))
      ∙ one_clean (at + n) (omega (arith, le)) (none (at + n) (omega arith) (omega arith))
      ∙ ap upto more

  pub dirty_to : (at place number : ℕ) (now next : List Window) → IsFirstIn (λ k. get_or bs k false) at (length bs) place → number ≡ get_or ns place 0
      → now ≡ upto at → next ≡ mixed_windows (λ a. eqb (a / 4096) number) memory now → next ≡ upto (place + 1)
  dirty_to at place number now next first is before copied_is =
      let low = first.from in
      let below = first.below in
      let lt : place < length ns = omega (arith, below, size) in
      let split : at + (place - at) ≡ place = omega (arith, low) in
      let so_far : now ≡ upto place = before ∙ clean_to at (place - at) (omega (arith, low, lt))
      (λ y from under. first.before y from (omega (arith, under, low))) ∙ ap upto split in
      let here = page_at ns bs place nothing size lt in
      let same : (a : ℕ) → eqb (a / 4096) number ≡ is_of_dirty (get_or (paged ns bs) place nothing) a =
      λ a. ap (eqb (a / 4096)) is ∙ same_turned (a / 4096) (get_or ns place 0) ∙ and_true (eqb (get_or ns place 0) (a / 4096))
      ∙ ap (λ (b : Bool). eqb (get_or ns place 0) (a / 4096) && b) (sym first.met) ∙ ap (λ (p : Page). is_of_dirty p a) (sym here)
      in
      copied_is ∙ (λ i. mixed_windows (λ a. same a i) memory (so_far i))
      ∙ copied_more memory copy (paged ns bs) place nothing (let e = length_paged ns bs size in omega (arith, lt, e))
    where
      same_turned : (m n : ℕ) → eqb m n ≡ eqb n m
      same_turned m n = elim (cases_eq m n) [
        | inl e ↦ eq-eqb m n e ∙ sym (eq-eqb n m (sym e))
        | inr ne ↦ ne_eqb m n ne ∙ sym (ne_eqb n m (λ e. ne (sym e)))
      ]

      and_true : (b : Bool) → b ≡ (b && true)
      and_true true = refl
      and_true false = refl
