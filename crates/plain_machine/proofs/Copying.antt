-- Pages that are copied one after another.
use Rattle.std.proofs.Common.{◌≡◌, ℕ, zero, suc, ◌+◌, ◌/◌, ◌<◌, ◌^◌, Bool, true, false, List, [], ◌∷◌, length, get_or, take, map, eqb, refl, sym, ap, ◌∙◌}
use Rattle.std.proofs.Common.{arith, eq-eqb, ne_eqb, inl, inr}
use Rattle.std.specs.Prelude.{◌&&◌, ◌||◌, nat_lt, nat_le}
use Rattle.std.specs.List.{list_all}
use Rattle.std.proofs.lemmas.Bool.{cases_eq, and_parts}
use Rattle.its_types.specs.declared.ids.Addr.{Addr}
use Rattle.guest_windows.specs.Windows.{Window, extent, are_windows, in_range, share_no_byte}
use Rattle.guest_windows.specs.Fields.{pairs}
use Rattle.guest_windows.specs.Mixed.{mixed_windows}
use Rattle.dirty_log.specs.Copies.{copied, number_of}
use Rattle.dirty_log.specs.Pages.{pages_of}
use Rattle.dirty_log.specs.Listing.{is_in, is_of_dirty}
use Rattle.dirty_log.specs.declared.page.Page.{Page}
use Rattle.dirty_log.specs.declared.tracked.Tracked.{Tracked}
use Rattle.dirty_log.proofs.Copying.{copied_more}
use Rattle.dirty_log.proofs.Listed.{low_numbers}
use Rattle.plain_machine.specs.Memories.{IsPaired}

same_turned : (m n : ℕ) → eqb m n ≡ eqb n m
same_turned m n = elim (cases_eq m n) [
  | inl e ↦ eq-eqb m n e ∙ sym (eq-eqb n m (sym e))
  | inr apart ↦ ne_eqb m n apart ∙ sym (ne_eqb n m (λ e. apart (sym e)))
]

and_true : (b : Bool) → b ≡ (b && true)
and_true true = refl
and_true false = refl

-- the addresses of a dirty page
pub dirty_test : (p : Page) → p.dirty ≡ true → (a : ℕ) → eqb (a / 4096) p.number ≡ is_of_dirty p a
dirty_test p is a = same_turned (a / 4096) p.number ∙ and_true (eqb p.number (a / 4096)) ∙ ap (λ (b : Bool). eqb p.number (a / 4096) && b) (sym is)

pub one_more : (memory copy now next : List Window) (pages : List Page) (i : ℕ) (d : Page) → i < length pages → now ≡ copied memory (take i pages) copy
    → next ≡ mixed_windows (is_of_dirty (get_or pages i d)) memory now → next ≡ copied memory (take (i + 1) pages) copy
one_more memory copy now next pages i d lt so_far is =
    is ∙ ap (mixed_windows (is_of_dirty (get_or pages i d)) memory) so_far ∙ copied_more memory copy pages i d lt

-- ---- the numbers of pages

abbrev listed_of : List (ℕ × ℕ) → List (Addr × ℕ)
listed_of es = map (λ e. (record { 0 = e.0 }, e.1)) es

pairs_listed : (es : List (ℕ × ℕ)) → pairs (listed_of es) ≡ es
pairs_listed [] = refl
pairs_listed (e ∷ es) = ap (λ (l : List (ℕ × ℕ)). e ∷ l) (pairs_listed es)

all_in_range : (ws : List (ℕ × ℕ)) → are_windows ws ≡ true → list_all in_range ws ≡ true
all_in_range ws h =
    let some : Bool = nat_lt 0 (length ws) in
    let few : Bool = nat_le (length ws) 16 in
    (and_parts (some && few) (list_all in_range ws) (and_parts ((some && few) && list_all in_range ws) (share_no_byte ws) h).0).1

or_true : (b : Bool) → (b || true) ≡ true
or_true true = refl
or_true false = refl

number_in : (ps : List Page) (k : ℕ) (d : Page) → k < length ps → is_in (get_or ps k d).number (map number_of ps) ≡ true
number_in [] k d lt = absurd (omega (arith, lt))
number_in (p ∷ ps) zero d lt = ap (λ (b : Bool). b || is_in p.number (map number_of ps)) (eq-eqb p.number p.number refl)
number_in (p ∷ ps) (suc k) d lt =
    ap (λ (b : Bool). eqb p.number (get_or ps k d).number || b) (number_in ps k d (omega (arith, lt))) ∙ or_true (eqb p.number (get_or ps k d).number)

pub low_pages : (memory : List Window) (t : Tracked) → are_windows (map extent memory) ≡ true → IsPaired memory t → (k : ℕ) (d : Page) → k < length t.log
    → (get_or t.log k d).number < 2 ^ 40
low_pages memory t windows h k d lt =
    let es : List (ℕ × ℕ) = map extent memory in
    let n : ℕ = (get_or t.log k d).number in
    let back : pairs (listed_of es) ≡ es = pairs_listed es in
    low_numbers (listed_of es) (ap (list_all in_range) back ∙ all_in_range es windows) n
    (sym (ap (is_in n) (h.pages ∙ ap pages_of (sym back))) ∙ number_in t.log k d lt)
