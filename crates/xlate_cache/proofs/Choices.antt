-- Which way of a set an entry takes.
use Rattle.std.proofs.Common.{◌≡◌, ℕ, ◌<◌, Bool, true, false, not, cond, nat_lt, List, length, get_or, Some, None, Option, MatchOption, unwrap_or, refl, sym}
use Rattle.std.proofs.Common.{◌∙◌, arith}
use mathlib.Core.Bool.{false≢true}
use Rattle.std.specs.Option.{is_none, option_or}
use Rattle.std.specs.List.{position, position_or_len}
use Rattle.std.proofs.lemmas.Bool.{ltb-true, ltb-false, not-true, not-false}
use Rattle.std.proofs.lemmas.List.Sums.{prefix_len_passes, prefix_len_stops}
use Rattle.xlate_cache.specs.declared.entry.Entry.{Entry}
use Rattle.xlate_cache.specs.Ways.{is_of, has_stamp, chosen}

-- what a position says
abbrev Says : (Option Entry → Bool) → List (Option Entry) → Option ℕ → Type 0
Says p xs r = MatchOption r ((k : ℕ) → k < length xs → p (get_or xs k None) ≡ false) (λ i. (i < length xs) × (p (get_or xs i None) ≡ true)
    × ((k : ℕ) → k < i → p (get_or xs k None) ≡ false))

says : (p : Option Entry → Bool) (xs : List (Option Entry)) → Says p xs (position p xs)
says p xs = at (nat_lt (position_or_len p xs) (length xs)) refl
  where
    at : (t : Bool) → nat_lt (position_or_len p xs) (length xs) ≡ t → Says p xs (cond t (Some (position_or_len p xs)) None)
    at true is =
        let lt = ltb-true _ _ is in
        (lt, not-false _ (prefix_len_stops (λ x. not (p x)) xs None lt), λ k less. not-true _ (prefix_len_passes (λ x. not (p x)) xs k None less))
    at false is = let le = ltb-false _ _ is in λ k lt. not-true _ (prefix_len_passes (λ x. not (p x)) xs k None (omega arith))

-- what the choice says: no earlier way has the pair, and a way of another pair and of the stamp is chosen only where all are such
pub record IsChoice (set : List (Option Entry)) (dev ev stamp way : ℕ) : Type 0 where
  pub in_range : way < length set
  pub first : (k : ℕ) → k < way → is_of dev ev (get_or set k None) ≡ false
  pub full : is_of dev ev (get_or set way None) ≡ false → has_stamp stamp (get_or set way None) ≡ true → (k : ℕ) → k < length set
      → (is_of dev ev (get_or set k None) ≡ false) × (has_stamp stamp (get_or set k None) ≡ true)

vacant_stamp : (stamp : ℕ) (w : Option Entry) → is_none w ≡ true → has_stamp stamp w ≡ false
vacant_stamp stamp None e = refl
vacant_stamp stamp (Some x) e = absurd (false≢true e)

module _ (set : List (Option Entry)) (some : 0 < length set) (dev ev stamp : ℕ) where
  choice : (a b c : Option ℕ) → Says (is_of dev ev) set a → Says is_none set b → Says (λ w. not (has_stamp stamp w)) set c
      → IsChoice set dev ev stamp (unwrap_or (option_or (option_or a b) c) 0)
  choice (Some i) b c p q r = record { in_range = p.0; first = p.2; full = λ another has. absurd (false≢true (sym another ∙ p.1)) }
  choice None (Some i) c p q r = record {
    in_range = q.0;
    first = λ k lt. p k (omega (arith, q.0));
    full = λ another has.
        absurd (false≢true (sym (vacant_stamp stamp _ q.1) ∙ has));
  }
  choice None None (Some i) p q r = record {
    in_range = r.0;
    first = λ k lt. p k (omega (arith, r.0));
    full = λ another has.
        absurd (false≢true (sym (not-true _ r.1) ∙ has));
  }
  choice None None None p q r = record { in_range = some; first = λ k lt. absurd (omega arith); full = λ another has k lt. (p k lt, not-false _ (r k lt)) }

  pub is_choice : IsChoice set dev ev stamp (chosen set dev ev stamp)
  is_choice = choice _ _ _ (says (is_of dev ev) set) (says is_none set) (says (λ w. not (has_stamp stamp w)) set)
