-- Walks through tables whose entries lead to one another (KVM document arm-vgic-its, "ITS Table ABI REV0"): which places
-- are reached from a first one, and the first of them that has a fault.
use Rattle.std.specs.Prelude.{◌≡◌, ℕ, Bool, nat_lt, if◌then◌else◌, List, [], ◌∷◌, Option, Some, None, Result, Ok, Err}
use Rattle.its_plain.specs.declared.fault.RestoreFault.{RestoreFault}

-- ---- relations on lists of places

-- the places after p, each the one that the place before it leads to, end at q
abbrev pub Path : {P : Type 0} → (P → Option P) → P → List P → P → Type 0
Path next p [] q = p ≡ q
Path next p (r ∷ rs) q = (next p ≡ Some r) × Path next r rs q

-- a finite list of places leads from p to q
abbrev pub Reached : {P : Type 0} → (P → Option P) → P → P → Type 0
Reached {P} next p q = (rs : List P) × Path next p rs q

-- p and the places after it are clear, but for the last, which has the fault f
abbrev pub Offends : {P F : Type 0} → (P → Type 0) → (P → F → Type 0) → (P → Option P) → P → List P → F → Type 0
Offends Clear Faults next p [] f = Faults p f
Offends Clear Faults next p (r ∷ rs) f = Clear p × (next p ≡ Some r) × Offends Clear Faults next r rs f

-- the first fault of the places that are reached from p
abbrev pub IsFirstOffence : {P F : Type 0} → (P → Type 0) → (P → F → Type 0) → (P → Option P) → P → F → Type 0
IsFirstOffence {P} Clear Faults next p f = (rs : List P) × Offends Clear Faults next p rs f

-- ---- places by number

-- place number i, if there are so many
abbrev pub within : ℕ → ℕ → Option ℕ
within places i = if nat_lt i places then Some i else None

-- ---- checks, one after another

infixl 10 ◌>>=◌
abbrev pub ◌>>=◌ : {A B : Type 0} → Result A RestoreFault → (A → Result B RestoreFault) → Result B RestoreFault
(Ok x) >>= f = f x
(Err e) >>= f = Err e

-- the fault, unless the test holds
abbrev pub ensure : Bool → RestoreFault → Result (Unit {0}) RestoreFault
ensure test fault = if test then Ok tt else Err fault
