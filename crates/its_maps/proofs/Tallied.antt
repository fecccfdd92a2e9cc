-- A list of ICIDs, and a count for each, as how often each is named.
use Rattle.std.proofs.Common.{◌≡◌, ℕ, ◌+◌, ◌<◌, ◌≤◌, ◌==◌, Bool, cond, ltb, List, ◌∷◌, length, get_or, take, length-take, Some, None, Option, refl, ap}
use Rattle.std.proofs.Common.{◌∙◌, arith}
use Rattle.std.specs.List.{sum_by, position_or_len}
use Rattle.std.proofs.lemmas.Bool.{lt-ltb, eqb-true, eq-eqb}
use Rattle.std.proofs.lemmas.List.{get_or_default}
use Rattle.std.proofs.lemmas.List.Sums.{passes_at_first, count_by-le-length, sum_by-cons}
use Rattle.its_types.specs.declared.ids.Icid.{Icid}
use Rattle.its_types.specs.declared.translation.Event.{Event}
use Rattle.its_maps.specs.Counting.{is_named}
use Rattle.its_maps.proofs.Totals.{place_of_some}

abbrev pub is_of : ℕ → Icid → Bool
is_of n i = i.0 == n

-- where an ICID that is in a list stands first
module _ (n : ℕ) (icids : List Icid) (some : 1 ≤ sum_by (λ i. is_named i.0 n) icids) where
  pub first_place : position_or_len (is_of n) icids < length icids
  first_place = place_of_some (is_of n) icids some

  pub found_first : (r : Option ℕ) → r ≡ cond (ltb (position_or_len (is_of n) icids) (length icids)) (Some (position_or_len (is_of n) icids)) None
      → r ≡ Some (position_or_len (is_of n) icids)
  found_first r is = is ∙ ap (λ t. cond t (Some (position_or_len (is_of n) icids)) None) (lt-ltb _ _ first_place)

  pub first_is : (d : Icid) → (get_or icids (position_or_len (is_of n) icids) d).0 ≡ n
  first_is d = eqb-true _ n (passes_at_first (is_of n) icids d first_place)

-- a count so far is at most how many ICIDs were counted
pub count_so_far : (counts : List ℕ) (icids : List Icid) (i n x : ℕ) → length counts ≡ 65536
    → ((m : ℕ) → m < 65536 → get_or counts m 0 ≡ sum_by (λ d. is_named d.0 m) (take i icids)) → n < 65536 → x ≡ get_or counts n x → x ≤ i
count_so_far counts icids i n x long are below is =
    let same = get_or_default counts n 0 x (omega (arith, long, below)) in
    let most = count_by-le-length (is_of n) (take i icids) in
    let all = are n below in
    let short = length-take i icids in
    omega (arith, is, same, all, most, short)

-- the first of the events that are left
pub first_event : (f : Event → ℕ) (it next : List (ℕ × Event)) (e : ℕ × Event) → it ≡ e ∷ next
    → sum_by (λ d. f d.1) it ≡ f e.1 + sum_by (λ d. f d.1) next
first_event f it next e is = ap (sum_by (λ (d : ℕ × Event). f d.1)) is ∙ sum_by-cons (λ (d : ℕ × Event). f d.1) e next

pub names_itself : (n : ℕ) → is_named n n ≡ 1
names_itself n = let same = eq-eqb n n refl in rw same refl
