-- What holds of each outcome holds behind each step, and what the fields of a line give.
use Rattle.std.proofs.Common.{◌≡◌, ℕ, ◌≤◌, Bool, true, false, ◌&&◌, nat_lt, nat_le, if◌then◌else◌, List, [], ◌∷◌, ◌++◌, length, Option, Some, None, Result, Ok}
use Rattle.std.proofs.Common.{Err, IfOk, refl, arith}
use Rattle.std.specs.List.{list_all}
use Rattle.hex.specs.Hex.{decode_of}
use Rattle.hex.specs.declared.error.FromHexError.{FromHexError}
use Rattle.its_command.specs.Commands.{encoded}
use Rattle.its_command.specs.declared.command.Command.{Command}
use Rattle.its_command.specs.declared.command.Command.TheVariants as command
use Rattle.event_script.specs.Text.{number}
use Rattle.event_script.specs.Outcome.{◌>>=◌, ensure}
use Rattle.event_script.specs.Fields.{number_within, within, any_number, processor, bytes_within, sized}
use Rattle.event_script.specs.Limits.{are_bytes, has_bytes}
use Rattle.event_script.specs.declared.fault.Kind.{Kind}
use Rattle.event_script.specs.declared.fault.Kind.TheVariants as kind
use Rattle.event_script.proofs.Bytes.{decoded_bytes}

-- ---- tests

pub left_true : (a b : Bool) → (a && b) ≡ true → a ≡ true
left_true true b e = refl
left_true false b e = absurd (cc)

pub right_true : (a b : Bool) → (a && b) ≡ true → b ≡ true
right_true true b e = e
right_true false b e = absurd (cc)

pub both_true : (a b : Bool) → a ≡ true → b ≡ true → (a && b) ≡ true
both_true true true a b = refl
both_true false b e f = absurd (cc)
both_true true false e f = absurd (cc)

pub not_below : (a b : ℕ) → nat_le a b ≡ true → a ≤ b
not_below a b e = grind (arith)

pub below : (a b : ℕ) → a ≤ b → nat_le a b ≡ true
below a b h = grind (arith)

-- one more element that passes
pub all_pushed : {X : Type 0} (p : X → Bool) (xs : List X) (x : X) → list_all p xs ≡ true → p x ≡ true → list_all p (xs ++ x ∷ []) ≡ true
all_pushed p [] x h e = both_true (p x) true e refl
all_pushed p (y ∷ ys) x h e =
    both_true (p y) (list_all p (ys ++ x ∷ [])) (left_true (p y) (list_all p ys) h) (all_pushed p ys x (right_true (p y) (list_all p ys) h) e)

-- ---- steps

pub bound : {A B : Type 0} (P : B → Type 0) (r : Result A Kind) (f : A → Result B Kind) → ((x : A) → IfOk (f x) P) → IfOk (r >>= f) P
bound P (Ok x) f h = h x
bound P (Err e) f h = tt

pub bound_by : {A B : Type 0} (P : B → Type 0) (r : Result A Kind) (Q : A → Type 0) (f : A → Result B Kind) → IfOk r Q → ((x : A) → Q x → IfOk (f x) P)
    → IfOk (r >>= f) P
bound_by P (Ok x) Q f q h = h x q
bound_by P (Err e) Q f q h = tt

pub ensured : {B : Type 0} (P : B → Type 0) (test : Bool) (k : Kind) (f : Unit {0} → Result B Kind) → (test ≡ true → IfOk (f tt) P)
    → IfOk (ensure test k >>= f) P
ensured P true k f h = h refl
ensured P false k f h = tt

pub chosen : {A : Type 0} (P : A → Type 0) (test : Bool) (x y : A) → (test ≡ true → P x) → (test ≡ false → P y) → P (if test then x else y)
chosen P true x y f g = f refl
chosen P false x y f g = g refl

-- ---- fields

abbrev pub IsBetween : ℕ → ℕ → ℕ → Type 0
IsBetween low high n = (low ≤ n) × (n ≤ high)

between : (low high n : ℕ) (test : Bool) → (nat_le low n && nat_le n high) ≡ test → IfOk (let r : Result ℕ Kind = if test then Ok n else Err kind.Number in r)
    (IsBetween low high)
between low high n true e = (not_below low n (left_true (nat_le low n) (nat_le n high) e), not_below n high (right_true (nat_le low n) (nat_le n high) e))
between low high n false e = tt

within_range : (low high : ℕ) (o : Option ℕ) → IfOk (within low high o) (IsBetween low high)
within_range low high None = tt
within_range low high (Some n) = between low high n (nat_le low n && nat_le n high) refl

pub number_in_range : (low high : ℕ) (f : List ℕ) → IfOk (number_within low high f) (IsBetween low high)
unfolding number_within
number_in_range low high f = within_range low high (number f)

pub processor_below : (vcpus : ℕ) (f : List ℕ) → IfOk (processor vcpus f) (λ v. nat_lt v.0 vcpus ≡ true)
unfolding processor
processor_below vcpus f =
    bound (λ v. nat_lt v.0 vcpus ≡ true) (any_number f) _ (λ n. ensured (λ v. nat_lt v.0 vcpus ≡ true) (nat_lt n vcpus) kind.Number _ (λ e. e))

sized_in_range : (most : ℕ) (r : Result (List ℕ) FromHexError) → IfOk r (λ bytes. are_bytes bytes ≡ true)
    → IfOk (sized most r) (λ bytes. has_bytes most bytes ≡ true)
sized_in_range most (Err e) small = tt
sized_in_range most (Ok bytes) small =
    let few : Bool = nat_lt 0 (length bytes) && nat_le (length bytes) most in
    chosen (λ r. IfOk r (λ b. has_bytes most b ≡ true)) few (Ok bytes) (Err kind.Hex) (λ e. both_true few (are_bytes bytes) e small) (λ _. tt)

pub bytes_in_range : (most : ℕ) (f : List ℕ) → IfOk (bytes_within most f) (λ bytes. has_bytes most bytes ≡ true)
unfolding bytes_within
bytes_in_range most f = sized_in_range most (decode_of f) (decoded_bytes f)

-- a command has 32 bytes
pub length-encoded : (c : Command) → length (encoded c) ≡ 32
unfolding encoded
length-encoded (command.Movi dev ev icid) = refl
length-encoded (command.Int dev ev) = refl
length-encoded (command.Clear dev ev) = refl
length-encoded (command.Sync target) = refl
length-encoded (command.Mapd dev bits itt valid) = refl
length-encoded (command.Mapc icid target valid) = refl
length-encoded (command.Mapti dev ev intid icid) = refl
length-encoded (command.Mapi dev ev icid) = refl
length-encoded (command.Inv dev ev) = refl
length-encoded (command.Invall icid) = refl
length-encoded (command.Movall from to) = refl
length-encoded (command.Discard dev ev) = refl
length-encoded (command.Unknown opcode) = refl
