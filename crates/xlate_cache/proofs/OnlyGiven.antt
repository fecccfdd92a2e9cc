-- Shards whose entries are all one.
use Rattle.std.proofs.Common.{◌≡◌, zero, suc, Bool, true, false, ◌&&◌, List, [], ◌∷◌, Some, None, Option, refl, ap, ◌∙◌, rules, tests}
use mathlib.Core.Bool.{false≢true}
use Rattle.xlate_cache.specs.declared.entry.Entry.{Entry}
use Rattle.xlate_cache.specs.Observed.{is_same, is_only, holds_only, HoldsOnly}

front : (a b : Bool) → (a && b) ≡ true → a ≡ true
front true b p = refl
front false b p = absurd (false≢true p)

rest : (a b : Bool) → (a && b) ≡ true → b ≡ true
rest true b p = p
rest false b p = absurd (false≢true p)

both : (a b : Bool) → a ≡ true → b ≡ true → (a && b) ≡ true
both a b p q = ap (λ (t : Bool). t && b) p ∙ q

abbrev is_entry : Option Entry → Bool
is_entry None = false
is_entry (Some e) = true

same_self : (e : Entry) → is_same e e ≡ true
same_self e = search (rules, tests)

same_fields : (e f : Entry) → is_same e f ≡ true → f ≡ e
same_fields e f p = search (rules, tests)

only_given : (given : Option Entry) (e : Entry) → is_only given (Some e) ≡ true → given ≡ Some e
only_given None e p = absurd (false≢true p)
only_given (Some g) e p = ap (λ (x : Entry). Some x) (same_fields e g p)

given_only : (given : Option Entry) (way : Option Entry) → ((e : Entry) → way ≡ Some e → given ≡ Some e) → is_only given way ≡ true
given_only given None p = refl
given_only given (Some e) p = rw (p e refl) (same_self e)

pub all_given : (given : Option Entry) (ways : List (Option Entry)) → holds_only ways given ≡ true → HoldsOnly ways given
all_given given [] p k e is = absurd (false≢true (ap is_entry is))
all_given given (w ∷ ws) p zero e is = only_given given e (rw (← is) (front (is_only given w) (holds_only ws given) p))
all_given given (w ∷ ws) p (suc k) e is = all_given given ws (rest (is_only given w) (holds_only ws given) p) k e is

pub given_all : (given : Option Entry) (ways : List (Option Entry)) → HoldsOnly ways given → holds_only ways given ≡ true
given_all given [] h = refl
given_all given (w ∷ ws) h = both (is_only given w) (holds_only ws given) (given_only given w (λ e is. h 0 e is))
    (given_all given ws (λ k e is. h (suc k) e is))
