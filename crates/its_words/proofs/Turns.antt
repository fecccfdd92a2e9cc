-- A turn of a walk over words, where no option has a name.
use Rattle.std.proofs.Common.{◌≡◌, ◌∙◌, ℕ, Bool, false, List, [], ◌∷◌, ◌++◌, Option, Some, None, refl, sym, ap, ap₂, append_assoc}
use Rattle.std.proofs.lemmas.List.{append-nil}
use Rattle.std.specs.Prelude.{fold}
use Rattle.clap.specs.Kinds.{Kinds, or_else}
use Rattle.clap.specs.Walk.{Held, Names, Row, Rule, Step, Walk, after_step, idle, value, walk_from, walked}
use Rattle.clap.specs.Faults.{level_fault, step_fault, turn_fault, walk_fault, word_fault}
use Rattle.clap.specs.Words.{Shape, Text}
use Rattle.its_words.specs.Words.{is_none}
use Rattle.its_words.proofs.WordKinds.{IsFaulty, IsValue, at_word}

pub faulty_first : (a b : Kinds) → is_none a ≡ false → is_none (or_else a b) ≡ false
faulty_first [] b e = cc
faulty_first (k ∷ ks) b e = refl

pub nothing_after : (a : Kinds) → or_else a [] ≡ a
nothing_after [] = refl
nothing_after (k ∷ ks) = refl

-- a walk at a word
abbrev pub standing : List Row → Option (Text × List Text) → ℕ → Bool → Walk
standing rows pending position trailing = record { held = at_word rows pending; waiting = idle; position = position; is_trailing = trailing; stopped = None }

pub value_turn : (s : Shape) (names : Names) (word : Text) (rows : List Row) (pending : Option (Text × List Text)) (position : ℕ) → IsValue s names word
    → turn_fault s names (standing rows pending position false) word ≡ step_fault s position (at_word rows pending) value
value_turn s names word rows pending position v =
    ap₂ (λ (k : Kinds) (met : Held × Step). or_else k (step_fault s position met.0 met.1)) (v rows pending position).0 (v rows pending position).1

pub value_walk : (s : Shape) (names : Names) (word : Text) (rows : List Row) (pending : Option (Text × List Text)) (position : ℕ) → IsValue s names word
    → walked s.rules names (standing rows pending position false) word ≡ after_step s.rules word (standing rows pending position false)
    (at_word rows pending) value
unfolding walked
value_walk s names word rows pending position v =
    ap (λ (met : Held × Step). after_step s.rules word (standing rows pending position false) met.0 met.1) (v rows pending position).1

pub faulty_turn : (s : Shape) (names : Names) (word : Text) (rows : List Row) (pending : Option (Text × List Text)) (position : ℕ) → IsFaulty s names word
    → is_none (turn_fault s names (standing rows pending position false) word) ≡ false
faulty_turn s names word rows pending position f = faulty_first (word_fault s names false idle word (at_word rows pending)) _ (f.1 rows pending)

pub first_word : (s : Shape) (names : Names) (h : Held) (word : Text) (rest : List Text) (has : Bool) (below : Kinds)
    → is_none (turn_fault s names (walk_from h) word) ≡ false
    → is_none (level_fault s names h (word ∷ rest) has below) ≡ false
unfolding walk_fault
first_word s names h word rest has below e =
    faulty_first (or_else (turn_fault s names (walk_from h) word) (walk_fault s names (walked s.rules names (walk_from h) word) rest)) _ (faulty_first _ _ e)

-- a walk that stopped at a subcommand takes the words that are left with it
pub stopped_walk : (c : List Rule) (names : Names) (w : Walk) (name : Text) (so_far rest : List Text)
    → fold (walked c names) (record w { stopped = Some (name, so_far) }) rest ≡ record w { stopped = Some (name, so_far ++ rest) }
unfolding walked
stopped_walk c names w name so_far [] = ap (λ t. record w { stopped = Some (name, t) }) (sym (append-nil so_far))
stopped_walk c names w name so_far (x ∷ xs) =
    stopped_walk c names w name (so_far ++ x ∷ []) xs ∙ ap (λ t. record w { stopped = Some (name, t) }) (append_assoc so_far (x ∷ []) xs)
