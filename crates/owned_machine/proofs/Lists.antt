-- Lists of redistributors in hand, and of translators.
use Rattle.std.proofs.Common.{◌≡◌, ℕ, zero, suc, ◌<◌, List, [], ◌∷◌, Option, Some, None, inl, inr, refl, sym, ap, ◌∙◌, arith}
use Rattle.std.specs.Prelude.{length, slice_get, slice_set, slice_index_or}
use Rattle.std.proofs.lemmas.Bool.{cases_eq}
use Rattle.std.proofs.lemmas.Option.{same_Some, slice_get_within}
use Rattle.std.specs.Option.{option_map}
use Rattle.its_plain.specs.Plain.{Redistributor, Translator, ConfState, PendState, conf_of, pend_of, joined}
use Rattle.lpi_pending.specs.InHand.{RedistParts}
use Rattle.owned_parts.specs.Owned.{redistributor_in, redistributors_in, one_or_two}
use Rattle.owned_parts.proofs.Places.{place_is, many_places}

-- lists of one length with the same elements
pub same_lists : {X : Type 0} (xs ys : List X) → length xs ≡ length ys → ((i : ℕ) (x : X) → slice_get xs i ≡ Some x → slice_get ys i ≡ Some x) → xs ≡ ys
same_lists [] [] e h = refl
same_lists [] (y ∷ ys) e h = absurd cc
same_lists (x ∷ xs) [] e h = absurd cc
same_lists {X} (x ∷ xs) (y ∷ ys) e h =
    let first : y ≡ x = same_Some y x (h 0 x refl) in
    let rest : xs ≡ ys = same_lists xs ys (omega (arith, e)) (λ i z is. h (suc i) z is) in
    ap (λ (z : X). z ∷ xs) (sym first) ∙ ap (λ (zs : List X). y ∷ zs) rest

-- the list of those in hand is the one that has each of them
pub hand_is : (n : ℕ) (rs : RedistParts) (all : List Redistributor) → ((v : ℕ) → v < n → slice_get all v ≡ Some (redistributor_in rs v)) → length all ≡ n
    → redistributors_in n rs ≡ all
hand_is n rs all h e =
    let long : length (redistributors_in n rs) ≡ n = many_places rs n in
    same_lists (redistributors_in n rs) all (long ∙ sym e) (λ i x is.
    let lt : i < n = let within = slice_get_within (redistributors_in n rs) i x is in omega (arith, within, long) in
    h i lt ∙ sym (place_is rs n i lt) ∙ is)

-- a redistributor that shows these two parts has them
pub both_there : (o : Option Redistributor) (c : ConfState) (p : PendState) → option_map conf_of o ≡ Some c → option_map pend_of o ≡ Some p → o ≡ Some (joined c p)
both_there None c p e f = absurd cc
both_there (Some r) c p e f =
    ap (λ (x : ConfState). Some (joined x (pend_of r))) (same_Some (conf_of r) c e) ∙ ap (λ (x : PendState). Some (joined c x)) (same_Some (pend_of r) p f)

-- ---- one or two translators

pub first_there : (f : Translator) (o : Option Translator) → slice_get (one_or_two f o) 0 ≡ Some f
first_there f None = refl
first_there f (Some s) = refl

pub second_there : (f s : Translator) (o : Option Translator) → o ≡ Some s → slice_get (one_or_two f o) 1 ≡ Some s
second_there f s o is = ap (λ (x : Option Translator). slice_get (one_or_two f x) 1) is

pub no_second : (f : Translator) (o : Option Translator) → o ≡ None → slice_get (one_or_two f o) 1 ≡ None
no_second f o is = ap (λ (x : Option Translator). slice_get (one_or_two f x) 1) is

pub no_third : (f : Translator) (o : Option Translator) (i : ℕ) → (i ≡ 0 → ⊥) → (i ≡ 1 → ⊥) → slice_get (one_or_two f o) i ≡ None
no_third f o zero a b = absurd (a refl)
no_third f o (suc zero) a b = absurd (b refl)
no_third f None (suc (suc i)) a b = refl
no_third f (Some s) (suc (suc i)) a b = refl

pub first_set : (f x : Translator) (o : Option Translator) → slice_set (one_or_two f o) 0 x ≡ one_or_two x o
first_set f x None = refl
first_set f x (Some s) = refl

pub first_else : (f x : Translator) (o : Option Translator) (k : ℕ) → (k ≡ 0 → ⊥) → slice_get (one_or_two x o) k ≡ slice_get (one_or_two f o) k
first_else f x o zero other = absurd (other refl)
first_else f x None (suc k) other = refl
first_else f x (Some s) (suc k) other = refl

pub second_else : (f s x : Translator) (k : ℕ) → (k ≡ 1 → ⊥) → slice_get (one_or_two f (Some x)) k ≡ slice_get (one_or_two f (Some s)) k
second_else f s x zero other = refl
second_else f s x (suc zero) other = absurd (other refl)
second_else f s x (suc (suc k)) other = refl

pub first_long : (f x : Translator) (o : Option Translator) → length (one_or_two x o) ≡ length (one_or_two f o)
first_long f x None = refl
first_long f x (Some s) = refl

-- ---- places of a list

pub found_at : {X : Type 0} (xs : List X) (i : ℕ) (x other : X) → slice_get xs i ≡ Some x → slice_index_or xs i other ≡ x
found_at [] i x other e = absurd cc
found_at (y ∷ ys) zero x other e = same_Some y x e
found_at (y ∷ ys) (suc i) x other e = found_at ys i x other e

pub not_found : {X : Type 0} (xs : List X) (i : ℕ) (other : X) → slice_get xs i ≡ None → slice_index_or xs i other ≡ other
not_found [] zero other e = refl
not_found [] (suc i) other e = refl
not_found (y ∷ ys) zero other e = absurd cc
not_found (y ∷ ys) (suc i) other e = not_found ys i other e

pub not_set : {X : Type 0} (xs : List X) (i : ℕ) (x : X) → slice_get xs i ≡ None → slice_set xs i x ≡ xs
not_set [] zero x e = refl
not_set [] (suc i) x e = refl
not_set (y ∷ ys) zero x e = absurd cc
not_set {X} (y ∷ ys) (suc i) x e = ap (λ (zs : List X). y ∷ zs) (not_set ys i x e)

-- a list that has a new element at a place, and else those of another
pub replaced : {X : Type 0} (news us ws : List X) (i : ℕ) (x : X) → length news ≡ length ws → slice_get news i ≡ Some x → slice_get ws i ≡ Some x
    → ((k : ℕ) → (k ≡ i → ⊥) → slice_get news k ≡ slice_get us k) → ((k : ℕ) → (k ≡ i → ⊥) → slice_get us k ≡ slice_get ws k) → news ≡ ws
replaced news us ws i x long here there mine theirs = same_lists news ws long (λ k y e. elim (cases_eq k i) [
  | inl same ↦ ap (slice_get ws) same ∙ there ∙ sym here ∙ ap (slice_get news) (sym same) ∙ e
  | inr apart ↦ sym (theirs k apart) ∙ sym (mine k apart) ∙ e
])
