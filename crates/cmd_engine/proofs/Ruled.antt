-- What a try that keeps to a rule says of it.
use Rattle.std.proofs.Common.{◌≡◌, ℕ, Bool, true, false, not, ◌&&◌, List, [], ◌∷◌, ◌++◌, Option, Some, None, Result, Ok, Err, refl, ap, sym, ◌∙◌}
use Rattle.std.specs.Prelude.{is_ok}
use Rattle.its_command.specs.Commands.{decoded}
use Rattle.its_types.specs.declared.machine.Placed.{Placed}
use Rattle.its_types.specs.declared.machine.Word.{Word}
use Rattle.its_plain.specs.Answer.{is_idle, next_bytes}
use Rattle.its_plain.specs.Commands.{ran}
use Rattle.its_plain.specs.History.{after}
use Rattle.its_plain.specs.Plain.{Plain}
use Rattle.its_plain.specs.declared.call.Entry.{Entry}
use Rattle.its_steps.specs.World.{View}
use Rattle.its_turns.specs.declared.turns.Busy.{Busy}
use Rattle.cmd_engine.specs.Rules.{Rule, no_rule, met_forbidden, is_forbidden, WasAllowed, KeepsTo, KeepsOnce, KeepsTried, NeverFull, IsNotFull}
use Rattle.cmd_engine.specs.Telling.{IsRaceOf}
use Rattle.cmd_engine.specs.Tries.{tried_of}
use Rattle.cmd_engine.specs.declared.missed.Missed.{Missed}
use Rattle.cmd_engine.specs.declared.missed.Missed.TheVariants as missed
use Rattle.cmd_engine.specs.declared.tried.Tried.{Tried}
use Rattle.cmd_engine.specs.declared.tried.Tried.TheVariants as tried
use Rattle.cmd_engine.proofs.Came.{same_before}

-- it was allowed where one more call was made
pub allowed_before : (r : Rule) (start : Plain) (its : ℕ) (seen all : List Entry) (e : Entry) → is_forbidden r (after start seen) its ≡ false
    → all ≡ seen ++ e ∷ [] → WasAllowed r start its all
allowed_before r start its seen all e free is before last eq =
    ap (λ (l : List Entry). is_forbidden r (after start l) its) (same_before before seen last e (sym eq ∙ is)) ∙ free

-- a commit that lost a race isn't full
pub raced_keeps : (T : Type 0) (r : Rule) (start : Plain) (its : ℕ) (v : View) (word : Word) (m : Missed) (w : View) → IsRaceOf v word m w
    → KeepsTo {T = T} r start its w.seen (Err m)
raced_keeps T r start its v word missed.Spent w race = absurd race
raced_keeps T r start its v word missed.NoMemory w race = absurd race
raced_keeps T r start its v word missed.Late w race = absurd race
raced_keeps T r start its v word missed.Full w race = absurd race
raced_keeps T r start its v word (missed.Raced l) w race = tt

-- as the whole call answers it
pub keeps_tried : {T : Type 0} (r : Rule) (start : Plain) (its : ℕ) (seen : List Entry) (made : Result (Result (Placed T) Missed) Busy)
    → KeepsOnce r start its seen made → KeepsTried r start its seen (tried_of made)
keeps_tried r start its seen (Ok (Ok p)) keeps = keeps
keeps_tried r start its seen (Ok (Err missed.Spent)) keeps = tt
keeps_tried r start its seen (Ok (Err missed.NoMemory)) keeps = tt
keeps_tried r start its seen (Ok (Err (missed.Raced l))) keeps = tt
keeps_tried r start its seen (Ok (Err missed.Late)) keeps = tt
keeps_tried r start its seen (Ok (Err missed.Full)) keeps = keeps
keeps_tried r start its seen (Err b) keeps = tt

-- ---- without a rule

and_false : (b : Bool) → (b && false) ≡ false
and_false false = refl
and_false true = refl

none_met : (u : Plain) (i : ℕ) (bytes : Option (List ℕ)) → met_forbidden no_rule u i bytes ≡ false
none_met u i None = refl
none_met u i (Some bytes) = and_false (is_ok (ran u i (decoded bytes)))

none_forbidden : (u : Plain) (i : ℕ) → is_forbidden no_rule u i ≡ false
unfolding is_forbidden
none_forbidden u i = ap (λ (b : Bool). not (is_idle u i) && b) (none_met u i (next_bytes u i)) ∙ and_false (not (is_idle u i))

not_true : false ≡ true → ⊥
not_true e = cc

pub never_full : {T : Type 0} (start : Plain) (its : ℕ) (seen : List Entry) (made : Result (Placed T) Missed) → KeepsTo no_rule start its seen made
    → NeverFull made
never_full start its seen (Ok p) keeps = tt
never_full start its seen (Err missed.Spent) keeps = tt
never_full start its seen (Err missed.NoMemory) keeps = tt
never_full start its seen (Err (missed.Raced l)) keeps = tt
never_full start its seen (Err missed.Late) keeps = tt
never_full start its seen (Err missed.Full) keeps = not_true (sym (none_forbidden (after start seen) its) ∙ keeps)

pub not_full : {T : Type 0} (start : Plain) (its : ℕ) (seen : List Entry) (t : Tried T) → KeepsTried no_rule start its seen t → IsNotFull t
not_full start its seen (tried.Done p) keeps = tt
not_full start its seen (tried.Busy b) keeps = tt
not_full start its seen (tried.Raced l) keeps = tt
not_full start its seen tried.Late keeps = tt
not_full start its seen tried.Spent keeps = tt
not_full start its seen tried.NoMemory keeps = tt
not_full start its seen tried.Full keeps = not_true (sym (none_forbidden (after start seen) its) ∙ keeps)
