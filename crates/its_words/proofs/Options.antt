-- An option stands alone where there are two words, of which the first is the program's name.
use Rattle.std.proofs.Common.{◌≡◌, ◌<◌, ◌≤◌, List, [], ◌∷◌, None, refl, ap, arith, length, map}
use Rattle.std.specs.Prelude.{slice_index_or}
use Rattle.clap.specs.Words.{Text}
use Rattle.its_words.specs.Words.{asked_by_option, option_of}

pub few : {X : Type 0} (f : X → Text) (words : List X) → length words < 2 → None ≡ option_of (map f words)
unfolding option_of
few f [] lt = refl
few f (x ∷ []) lt = refl
few f (x ∷ y ∷ rest) lt = absurd (omega arith)

pub many : {X : Type 0} (f : X → Text) (words : List X) → 3 ≤ length words → None ≡ option_of (map f words)
unfolding option_of
many f [] le = refl
many f (x ∷ []) le = refl
many f (x ∷ y ∷ []) le = absurd (omega arith)
many f (x ∷ y ∷ z ∷ rest) le = refl

pub two : {X : Type 0} (f : X → Text) (words : List X) (word : X) → 2 ≤ length words → length words < 3 → word ≡ slice_index_or words 1 word
    → asked_by_option (f word) ≡ option_of (map f words)
unfolding option_of
two f [] word le lt is = absurd (omega arith)
two f (x ∷ []) word le lt is = absurd (omega arith)
two f (x ∷ y ∷ []) word le lt is = ap (λ w. asked_by_option (f w)) is
two f (x ∷ y ∷ z ∷ rest) word le lt is = absurd (omega arith)
