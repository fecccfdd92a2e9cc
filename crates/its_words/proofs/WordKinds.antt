-- What a word is where no option has a name.
use Rattle.std.proofs.Common.{◌≡◌, ◌⊎◌, ◌==◌, ℕ, Bool, true, false, List, [], ◌∷◌, Option, Some, None, refl, sym, subst, inl, inr}
use Rattle.std.specs.Prelude.{slice_get, slice_index, nat_lt}
use Rattle.std.specs.Str.{bytes_eq, chars}
use Rattle.std.proofs.lemmas.Bool.{eqb-true}
use Rattle.clap.specs.Walk.{Held, Names, Row, arg_by_long, arg_by_short, bundle_met, idle, subcommand_met, value, word_met}
use Rattle.clap.specs.Faults.{flags_fault, word_fault}
use Rattle.clap.specs.Words.{Shape, Text}
use Rattle.its_words.specs.Words.{is_none}

-- nothing of a bundle of flags is left
abbrev pub at_word : List Row → Option (Text × List Text) → Held
at_word rows pending = record { rows = rows; pending = pending; skip = 0 }

-- the word is a value, with which there is no fault
abbrev pub IsValue : Shape → Names → Text → Type 0
IsValue s names word = (rows : List Row) (pending : Option (Text × List Text)) (position : ℕ)
    → (word_fault s names false idle word (at_word rows pending) ≡ [])
    × (word_met s.rules names false idle position word (at_word rows pending) ≡ (at_word rows pending, value))

-- the word begins as no number does, and is not zero either
abbrev pub IsNoNumber : Text → Type 0
IsNoNumber word = (nat_lt 48 (slice_index word 0) ≡ false) × (bytes_eq word (48 ∷ []) ≡ false)

-- there is a fault with the word, which is no number
abbrev pub IsFaulty : Shape → Names → Text → Type 0
IsFaulty s names word = IsNoNumber word × ((rows : List Row) (pending : Option (Text × List Text))
    → is_none (word_fault s names false idle word (at_word rows pending)) ≡ false)

module _ (s : Shape) (names : Names) (no_long : (name : Text) → arg_by_long s.rules name ≡ None) (no_short : (x : ℕ) → arg_by_short s.rules x ≡ None) where
  -- a bundle of flags
  bundle_kind : (y : ℕ) (ys : List ℕ) → subcommand_met names idle (45 ∷ y ∷ ys) ≡ None → (y == 45) ≡ false → (o : Option ℕ) → slice_get (chars (y ∷ ys)) 0 ≡ o
      → IsValue s names (45 ∷ y ∷ ys) ⊎ IsFaulty s names (45 ∷ y ∷ ys)
  unfolding flags_fault bundle_met
  bundle_kind y ys none plain None first = inl (λ rows pending position. (rw (none, plain, plain, first) refl, rw (none, plain, plain, first) refl))
  bundle_kind y ys none plain (Some f) first = inr ((refl, refl), λ rows pending. rw (none, plain, plain, first, no_short f) refl)

  -- a word that begins with one hyphen, or with two
  two_kind : (y : ℕ) (ys : List ℕ) → subcommand_met names idle (45 ∷ y ∷ ys) ≡ None → bytes_eq (45 ∷ y ∷ ys) (45 ∷ 45 ∷ []) ≡ false → (b : Bool) → (y == 45) ≡ b
      → IsValue s names (45 ∷ y ∷ ys) ⊎ IsFaulty s names (45 ∷ y ∷ ys)
  two_kind y ys none other false plain = bundle_kind y ys none plain (slice_get (chars (y ∷ ys)) 0) refl
  two_kind y [] none other true two =
      let is : y ≡ 45 = eqb-true y 45 two in
      let bad : true ≡ false = rw is at other in
      cc
  two_kind y (z ∷ zs) none other true two = inr ((refl, refl), λ rows pending. rw (none, two, no_long _) refl)

  hyphen_kind : (xs : List ℕ) → subcommand_met names idle (45 ∷ xs) ≡ None → bytes_eq (45 ∷ xs) (45 ∷ 45 ∷ []) ≡ false → IsValue s names (45 ∷ xs)
      ⊎ IsFaulty s names (45 ∷ xs)
  hyphen_kind [] none other = inl (λ rows pending position. (rw none refl, rw none refl))
  hyphen_kind (y ∷ ys) none other = two_kind y ys none other (y == 45) refl

  pub kind_of_word : (word : Text) → subcommand_met names idle word ≡ None → bytes_eq word (45 ∷ 45 ∷ []) ≡ false → IsValue s names word ⊎ IsFaulty s names word
  kind_of_word [] none other = inl (λ rows pending position. (rw none refl, rw none refl))
  kind_of_word (x ∷ xs) none other = go (x == 45) refl
    where
      go : (b : Bool) → (x == 45) ≡ b → IsValue s names (x ∷ xs) ⊎ IsFaulty s names (x ∷ xs)
      go true is =
          let same : x ≡ 45 = eqb-true x 45 is in
          let here = hyphen_kind xs (subst (λ y. subcommand_met names idle (y ∷ xs) ≡ None) same none)
          (subst (λ y. bytes_eq (y ∷ xs) (45 ∷ 45 ∷ []) ≡ false) same other) in
          subst (λ y. IsValue s names (y ∷ xs) ⊎ IsFaulty s names (y ∷ xs)) (sym same) here
      go false plain = inl (λ rows pending position. (rw (none, plain, plain) refl, rw (none, plain, plain) refl))
