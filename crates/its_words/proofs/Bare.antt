-- A command that has no arguments takes no word but a separator.
use Rattle.std.proofs.Common.{◌≡◌, ◌∙◌, Bool, true, false, List, [], ◌∷◌, None, refl, sym, ap, subst, inl, inr, codes}
use Rattle.std.specs.Str.{bytes_eq}
use Rattle.std.proofs.lemmas.Slice.Eq.{bytes_eq-Decides}
use Rattle.clap.specs.Simple.{new_shape}
use Rattle.clap.specs.Walk.{nothing_held}
use Rattle.clap.specs.Faults.{level_fault}
use Rattle.clap.specs.Words.{Shape, Text}
use Rattle.clap.proofs.OnLiterals.{clap_on_literals}
use Rattle.its_words.specs.Words.{is_none, without_separator}
use Rattle.its_words.proofs.WordKinds.{kind_of_word}
use Rattle.its_words.proofs.Turns.{faulty_turn, first_word, value_turn}

-- a command as it is built below `its`
abbrev pub built_below : Shape → Shape
built_below s = record s { disable_help_flag = true; disable_help_subcommand = true; is_built = true }

abbrev pub bare : Text → Shape
bare name = built_below (new_shape name)

other_word : (name word : Text) (rest : List Text) → bytes_eq word (codes "--") ≡ false
    → is_none (level_fault (bare name) [] nothing_held (word ∷ rest) false []) ≡ false
other_word name word rest other = first_word (bare name) [] nothing_held word rest false []
    (elim (kind_of_word (bare name) [] (λ _. refl) (λ _. refl) word refl other) [
      | inl v ↦ ap is_none (value_turn (bare name) [] word [] None 1 v)
      | inr f ↦ faulty_turn (bare name) [] word [] None 1 f
    ])

separator : (name : Text) (rest : List Text) → is_none (level_fault (bare name) [] nothing_held (codes "--" ∷ rest) false []) ≡ is_none rest
unfolding clap_on_literals
separator name [] = refl
separator name (x ∷ xs) = refl

pub takes_none : (name : Text) (rest : List Text) → is_none (level_fault (bare name) [] nothing_held rest false []) ≡ is_none (without_separator rest)
unfolding clap_on_literals
takes_none name [] = refl
takes_none name (word ∷ rest) = go (bytes_eq word (codes "--")) refl
  where
    go : (b : Bool) → bytes_eq word (codes "--") ≡ b → is_none (level_fault (bare name) [] nothing_held (word ∷ rest) false []) ≡ is_none
        (without_separator (word ∷ rest))
    go true e =
        let is : word ≡ codes "--" = (bytes_eq-Decides word (codes "--")).0 e in
        subst (λ w. is_none (level_fault (bare name) [] nothing_held (w ∷ rest) false []) ≡ is_none (without_separator (w ∷ rest))) (sym is)
        (separator name rest)
    go false e = other_word name word rest e ∙ rw e refl
