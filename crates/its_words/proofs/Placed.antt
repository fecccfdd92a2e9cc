-- `at` takes one word or two, with a separator before, between or after them.
use Rattle.std.proofs.Common.{◌≡◌, ◌∙◌, ◌⊎◌, ℕ, Bool, true, false, List, [], ◌∷◌, cond, Option, Some, None, refl, sym, ap, ap₂, subst, inl, inr, codes}
use Rattle.std.specs.Prelude.{fold, nat_lt, slice_index}
use Rattle.std.specs.Str.{bytes_eq}
use Rattle.std.proofs.lemmas.Slice.Eq.{bytes_eq-Decides}
use Rattle.clap.specs.Kinds.{Kinds, or_else}
use Rattle.clap.specs.Simple.{built_leaf}
use Rattle.clap.specs.Walk.{Row, Rule, Walk, finished, nothing_held, rows_after, settled, used, walked}
use Rattle.clap.specs.Faults.{check_fault, defaults_fault, level_fault, settle_fault, turn_fault, walk_fault}
use Rattle.clap.specs.Words.{Shape, Text, first_of}
use Rattle.clap.proofs.OnLiterals.{clap_on_literals}
use Rattle.its_words.specs.Command.{at_app, needed_rule}
use Rattle.its_words.specs.Words.{at_by, at_of, at_of_numbers, is_none, number_of, number_or_zero_of, without_separator}
use Rattle.its_words.specs.declared.words.Asked.{Asked}
use Rattle.its_words.proofs.Numbers.{no_number, no_number_from_0}
use Rattle.its_words.proofs.WordKinds.{IsFaulty, IsNoNumber, IsValue, kind_of_word}
use Rattle.its_words.proofs.Turns.{faulty_first, faulty_turn, standing, value_turn, value_walk}

-- the command as it is built
abbrev pub at : Shape
at = built_leaf (record at_app.top { disable_help_flag = true; disable_help_subcommand = true })

abbrev at_rules : List Rule
at_rules = at.rules

-- what the rows ask for
abbrev asked_of_rows : List Row → Option Asked
asked_of_rows rows = at_by (first_of (codes "place") rows) (first_of (codes "leg") rows)

-- what comes of the walk's end, after these faults
abbrev at_end : Kinds → Walk → Option Asked
at_end faults end = cond (is_none (or_else faults (or_else [] (or_else (settle_fault at.rules at.args_override_self end.held)
    (or_else (defaults_fault (settled at.rules end.held).rows at.rules) (check_fault at (finished at.rules end.held) false))))))
    (asked_of_rows (finished at.rules end.held)) None

-- what comes of a walk over these words
abbrev outcome : Walk → List Text → Option Asked
outcome w words = at_end (walk_fault at [] w words) (fold (walked at.rules []) w words)

goes_on : (w next : Walk) (word : Text) (rest : List Text) → turn_fault at [] w word ≡ [] → walked at.rules [] w word ≡ next
    → outcome w (word ∷ rest) ≡ outcome next rest
unfolding walk_fault
goes_on w next word rest fine to =
    ap₂ (λ (k : Kinds) (n : Walk). at_end (or_else k (walk_fault at [] n rest)) (fold (walked at.rules []) n rest)) fine to

stops : (w : Walk) (word : Text) (rest : List Text) → is_none (turn_fault at [] w word) ≡ false → outcome w (word ∷ rest) ≡ None
unfolding walk_fault
stops w word rest faulty =
    let end = fold (walked at.rules []) w (word ∷ rest) in
    ap (λ b. cond b (asked_of_rows (finished at.rules end.held)) None) (faulty_first _ _ (faulty_first _ _ faulty))

-- ---- where the walk stands after no value, one and two

abbrev none_met : Bool → Walk
none_met t = standing [] None 1 t

abbrev one_met : Text → Bool → Walk
one_met a t = standing [] (Some (codes "place", a ∷ [])) 2 t

abbrev two_met : Text → Text → Bool → Walk
two_met a b t = standing (used (needed_rule (codes "place")) (a ∷ []) []) (Some (codes "leg", b ∷ [])) 3 t

-- after a separator

after_two : (a b : Text) (rest : List Text) → outcome (two_met a b true) rest ≡ at_of (a ∷ b ∷ rest)
unfolding clap_on_literals
after_two a b [] = refl
after_two a b (x ∷ xs) = refl

after_one : (a : Text) (rest : List Text) → outcome (one_met a true) rest ≡ at_of (a ∷ rest)
unfolding clap_on_literals
after_one a [] = refl
after_one a (b ∷ rest) = goes_on (one_met a true) (two_met a b true) b rest refl refl ∙ after_two a b rest

after_none : (rest : List Text) → outcome (none_met true) rest ≡ at_of rest
unfolding clap_on_literals
after_none [] = refl
after_none (a ∷ rest) = goes_on (none_met true) (one_met a true) a rest refl refl ∙ after_one a rest

-- before one

no_second : (a : Text) (x : Text) (rest : List Text) → nat_lt 48 (slice_index x 0) ≡ false → None ≡ at_of (a ∷ x ∷ rest)
no_second a x [] no-digit = go (number_or_zero_of 1000000000 a) (number_of 64 x) (no_number 64 x no-digit)
  where
    go : (n t : Option ℕ) → None ≡ t → None ≡ at_of_numbers n t
    go None t e = refl
    go (Some n) t e = ap (at_of_numbers (Some n)) e
no_second a x (y ∷ ys) no-digit = refl

no_first : (x : Text) (rest : List Text) → IsNoNumber x → None ≡ at_of (x ∷ rest)
no_first x [] none = ap (λ n. at_of_numbers n (Some 1)) (no_number_from_0 1000000000 x none.1 none.0)
no_first x (b ∷ []) none = ap (λ n. at_of_numbers n (number_of 64 b)) (no_number_from_0 1000000000 x none.1 none.0)
no_first x (b ∷ y ∷ ys) none = refl

-- a word that is no separator
kind : (word : Text) → bytes_eq word (codes "--") ≡ false → IsValue at [] word ⊎ IsFaulty at [] word
kind word other = kind_of_word at [] (λ _. refl) (λ _. refl) word refl other

kept : (x : Text) (rest : List Text) → bytes_eq x (codes "--") ≡ false → x ∷ without_separator rest ≡ without_separator (x ∷ rest)
kept x rest e = rw e refl

from_two : (a b : Text) (rest : List Text) → outcome (two_met a b false) rest ≡ at_of (a ∷ b ∷ without_separator rest)
unfolding clap_on_literals
from_two a b [] = refl
from_two a b (x ∷ xs) = go (bytes_eq x (codes "--")) refl
  where
    go : (t : Bool) → bytes_eq x (codes "--") ≡ t → outcome (two_met a b false) (x ∷ xs) ≡ at_of (a ∷ b ∷ without_separator (x ∷ xs))
    go true e = subst (λ w. outcome (two_met a b false) (w ∷ xs) ≡ at_of (a ∷ b ∷ without_separator (w ∷ xs))) (sym ((bytes_eq-Decides x (codes "--")).0 e))
        (goes_on (two_met a b false) (two_met a b true) (codes "--") xs refl refl ∙ after_two a b xs)
    go false e =
        stops (two_met a b false) x xs (elim (kind x e) [
          | inl v ↦ ap is_none (value_turn at [] x _ _ 3 v)
          | inr f ↦ faulty_turn at [] x _ _ 3 f
        ]) ∙ rw e refl

from_one : (a : Text) (rest : List Text) → outcome (one_met a false) rest ≡ at_of (a ∷ without_separator rest)
unfolding clap_on_literals
from_one a [] = refl
from_one a (x ∷ xs) = go (bytes_eq x (codes "--")) refl
  where
    go : (t : Bool) → bytes_eq x (codes "--") ≡ t → outcome (one_met a false) (x ∷ xs) ≡ at_of (a ∷ without_separator (x ∷ xs))
    go true e = subst (λ w. outcome (one_met a false) (w ∷ xs) ≡ at_of (a ∷ without_separator (w ∷ xs))) (sym ((bytes_eq-Decides x (codes "--")).0 e))
        (goes_on (one_met a false) (one_met a true) (codes "--") xs refl refl ∙ after_one a xs)
    go false e =
        let part : outcome (one_met a false) (x ∷ xs) ≡ at_of (a ∷ x ∷ without_separator xs) = elim (kind x e) [
          | inl v ↦ goes_on (one_met a false) (two_met a x false) x xs (value_turn at [] x _ _ 2 v) (value_walk at [] x _ _ 2 v) ∙ from_two a x xs
          | inr f ↦ stops (one_met a false) x xs (faulty_turn at [] x _ _ 2 f) ∙ no_second a x (without_separator xs) f.0.0
        ] in part ∙ ap (λ ws. at_of (a ∷ ws)) (kept x xs e)

from_none : (rest : List Text) → outcome (none_met false) rest ≡ at_of (without_separator rest)
unfolding clap_on_literals
from_none [] = refl
from_none (x ∷ xs) = go (bytes_eq x (codes "--")) refl
  where
    go : (t : Bool) → bytes_eq x (codes "--") ≡ t → outcome (none_met false) (x ∷ xs) ≡ at_of (without_separator (x ∷ xs))
    go true e = subst (λ w. outcome (none_met false) (w ∷ xs) ≡ at_of (without_separator (w ∷ xs))) (sym ((bytes_eq-Decides x (codes "--")).0 e))
        (goes_on (none_met false) (none_met true) (codes "--") xs refl refl ∙ after_none xs)
    go false e =
        let part : outcome (none_met false) (x ∷ xs) ≡ at_of (x ∷ without_separator xs) = elim (kind x e) [
          | inl v ↦ goes_on (none_met false) (one_met x false) x xs (value_turn at [] x _ _ 1 v) (value_walk at [] x _ _ 1 v) ∙ from_one x xs
          | inr f ↦ stops (none_met false) x xs (faulty_turn at [] x _ _ 1 f) ∙ no_first x (without_separator xs) f.0
        ] in part ∙ ap at_of (kept x xs e)

pub takes_one_or_two : (rest : List Text) → cond (is_none (level_fault at [] nothing_held rest false [])) (asked_of_rows (rows_after at.rules [] rest)) None ≡ at_of
    (without_separator rest)
takes_one_or_two rest = from_none rest
