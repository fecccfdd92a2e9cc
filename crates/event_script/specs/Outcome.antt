-- What reading a line gives, or the kind of its first fault.
use Rattle.std.specs.Prelude.{◌≡◌, ℕ, Bool, if◌then◌else◌, Result, Ok, Err}
use Rattle.event_script.specs.declared.fault.Kind.{Kind}
use Rattle.event_script.specs.declared.fault.LineError.{LineError}
use Rattle.event_script.specs.declared.fault.LineError.TheVariants as errors
use Rattle.event_script.specs.declared.fault.ParseError.{ParseError}
use Rattle.event_script.specs.declared.fault.ParseError.TheVariants as parse_error

infixl 10 ◌>>=◌
abbrev pub ◌>>=◌ : {A B : Type 0} → Result A Kind → (A → Result B Kind) → Result B Kind
(Ok x) >>= f = f x
(Err e) >>= f = Err e

-- the fault, unless the test holds
abbrev pub ensure : Bool → Kind → Result (Unit {0}) Kind
ensure test kind = if test then Ok tt else Err kind

abbrev pub Fails : {Y : Type 0} → LineError → Result Y Kind → Type 0
Fails errors.Memory read = Unit {0}
Fails (errors.Fault kind) read = read ≡ Err kind

-- a function answered what reading gives, unless memory ran out
abbrev pub Gives : {X Y : Type 0} → (X → Y) → Result X LineError → Result Y Kind → Type 0
Gives view (Ok x) read = read ≡ Ok (view x)
Gives view (Err e) read = Fails e read

-- why the line with a number isn't read
abbrev pub error_at : ℕ → LineError → ParseError
error_at n errors.Memory = parse_error.NoMemory
error_at n (errors.Fault kind) = parse_error.Fault (record { line = n; kind = kind })
