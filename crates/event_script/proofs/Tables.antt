-- What is found in a table of words has the word that was looked for.
use Rattle.std.proofs.Common.{◌≡◌, ℕ, Bool, true, List, [], ◌∷◌, find, Option, Some, None, ok_or, IfOk}
use Rattle.std.specs.Prelude.{IfSome}
use Rattle.std.specs.Str.{bytes_eq}
use Rattle.event_script.specs.Words.{keyword_text, keyword_of, call_text, call_word_of, KEYWORDS, CALL_WORDS}
use Rattle.event_script.specs.declared.fault.Kind.{Kind}
use Rattle.event_script.specs.declared.fault.Kind.TheVariants as kind
use Rattle.event_script.proofs.Steps.{chosen}

found : {X : Type 0} (p : X → Bool) (xs : List X) → IfSome (find p xs) (λ x. p x ≡ true)
found p [] = tt
found {X} p (x ∷ xs) = chosen {A = Option X} (λ o. IfSome o (λ y. p y ≡ true)) (p x) (Some x) (find p xs) (λ e. e) (λ _. found p xs)

kept : {X : Type 0} (P : X → Type 0) (o : Option X) (k : Kind) → IfSome o P → IfOk (ok_or o k) P
kept P None k h = tt
kept P (Some x) k h = h

pub keyword_has_word : (word : List ℕ) → IfOk (keyword_of word) (λ k. bytes_eq (keyword_text k) word ≡ true)
unfolding keyword_of
keyword_has_word word =
    kept (λ k. bytes_eq (keyword_text k) word ≡ true) (find (λ k. bytes_eq (keyword_text k) word) KEYWORDS) kind.Word
    (found (λ k. bytes_eq (keyword_text k) word) KEYWORDS)

pub call_word_has_word : (word : List ℕ) → IfSome (call_word_of word) (λ w. bytes_eq (call_text w) word ≡ true)
unfolding call_word_of
call_word_has_word word = found (λ w. bytes_eq (call_text w) word) CALL_WORDS
