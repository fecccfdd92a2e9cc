-- What a parse says of words.
use Rattle.std.proofs.Common.{◌≡◌, ◌∙◌, true, false, List, [], ◌∷◌, cond, Option, Some, None, Result, Ok, Err, IsErrAnd, refl, sym, ap, ap₂, subst, inl, inr}
use Rattle.clap.specs.Words.{App, HasKind, HasMatchesOf, IsAmong, Kinds, Text, fault_of, is_simple, is_simple_and_free, kind_of, subcommand_of, takes}
use Rattle.clap.specs.Words.{subcommand_rows_of}
use Rattle.clap.specs.declared.ArgMatches.{ArgMatches}
use Rattle.clap.specs.declared.Error.{Error}
use Rattle.clap.specs.declared.error.ErrorKind.{ErrorKind}
use Rattle.clap.specs.declared.error.ErrorKind.TheVariants.{OutOfMemory}
use Rattle.clap.proofs.OnLiterals.{clap_on_literals}
use Rattle.its_words.specs.Command.{its_app}
use Rattle.its_words.specs.Words.{IsMatched, asked_in, asked_of, command_of, is_none, is_taken, option_of}
use Rattle.its_words.proofs.Commands.{parsed, parsed-command_of}
use Rattle.its_words.specs.declared.words.Asked.{Asked}

free : is_simple_and_free its_app ≡ true
unfolding clap_on_literals
free = refl

simple : is_simple its_app ≡ true
unfolding clap_on_literals
simple = refl

pub matched : (a : App) (words : List Text) (m : ArgMatches) → a ≡ its_app → (is_simple_and_free a ≡ true → fault_of a words ≡ []) → HasMatchesOf a words m
    → IsMatched words m
unfolding is_taken
matched a words m same none has = record {
  taken =
      let here : fault_of its_app words ≡ [] = subst (λ x. is_simple_and_free x ≡ true → fault_of x words ≡ []) same none free in
      ap is_none here;
  rows = (subst (λ x. HasMatchesOf x words m) same has simple).1;
}

some_kind : (kinds : Kinds) (k : ErrorKind) → IsAmong k kinds → is_none kinds ≡ false
some_kind [] k h = absurd h
some_kind (x ∷ xs) k h = refl

pub not_taken : (a : App) (words : List Text) (e : Error) → a ≡ its_app → (is_simple_and_free a ≡ true → HasKind (fault_of a words) e)
    → (kind_of e ≡ OutOfMemory → ⊥) → is_taken words ≡ false
unfolding is_taken
not_taken a words e same has other =
    let here : HasKind (fault_of its_app words) e = subst (λ x. is_simple_and_free x ≡ true → HasKind (fault_of x words) e) same has free in
    elim here [ inl memory ↦ absurd (other memory) | inr among ↦ some_kind (fault_of its_app words) (kind_of e) among ]

-- nor does the parser's own test take them
pub passes_none : (a : App) (words : List Text) (e : Error) → a ≡ its_app → (takes a words ≡ true → kind_of e ≡ OutOfMemory)
    → (kind_of e ≡ OutOfMemory → ⊥) → takes its_app words ≡ true → ⊥
passes_none a words e same passes other taken = other (passes (subst (λ x. takes x words ≡ true) (sym same) taken))

commands_none : (words : List Text) → is_taken words ≡ false → command_of words ≡ None
unfolding is_taken parsed
commands_none words e = sym (parsed-command_of words) ∙ ap (λ b. cond b (asked_in (subcommand_of its_app words)) None) e

commands : (words : List Text) (m : ArgMatches) (o : Option Asked) → IsMatched words m → o ≡ asked_in (subcommand_rows_of m) → command_of words ≡ o
unfolding is_taken parsed
commands words m o h e = sym (parsed-command_of words) ∙ ap₂ (λ b s. cond b (asked_in s) None) h.taken (sym h.rows) ∙ sym e

pub option_asks : (words : List Text) (asked : Asked) → option_of words ≡ Some asked → asked_of words ≡ Some asked
unfolding asked_of
option_asks words asked e = rw e refl

-- where no option stands alone

pub asks_none : (words : List Text) → option_of words ≡ None → is_taken words ≡ false → asked_of words ≡ None
unfolding asked_of
asks_none words no-option e = rw no-option (commands_none words e)

pub asks : (words : List Text) (m : ArgMatches) (o : Option Asked) → option_of words ≡ None → IsMatched words m → o ≡ asked_in (subcommand_rows_of m)
    → asked_of words ≡ o
unfolding asked_of
asks words m o no-option h e = rw no-option (commands words m o h e)

pub same_error : {T E : Type 0} (r : Result T E) (f g : E) → IsErrAnd r (λ y. y ≡ f) → r ≡ Err g → f ≡ g
same_error (Ok x) f g h e = absurd h
same_error (Err y) f g h e = let s : y ≡ g = cc in sym h ∙ s
