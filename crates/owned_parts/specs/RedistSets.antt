-- Sets of redistributors.
use Rattle.std.specs.Prelude.{◌≡◌, ◌<◌, ◌≤◌, ℕ, Bool, true, false, ◌||◌, ◌==◌, nat_lt, ◌+◌, cond, Option, Some, None, MatchOption}
use Rattle.its_types.specs.declared.ids.Vcpu.{Vcpu}
use Rattle.owned_parts.specs.declared.redist_set.RedistSet.{RedistSet}
use Rattle.owned_parts.specs.declared.redist_set.RedistSet.TheVariants.{Nothing, One, Two, First}

abbrev pub is_in : RedistSet → ℕ → Bool
is_in Nothing vcpu = false
is_in (One v) vcpu = v.0 == vcpu
is_in (Two v w) vcpu = v.0 == vcpu || w.0 == vcpu
is_in (First count) vcpu = nat_lt vcpu count

-- the virtual processor is the target, if there is one
abbrev pub is_target : Option Vcpu → ℕ → Bool
is_target None vcpu = false
is_target (Some v) vcpu = v.0 == vcpu

-- none from `from` on and below `end` is in the set
abbrev pub HasNone : RedistSet → ℕ → ℕ → Type 0
HasNone set from end = (vcpu : ℕ) → from ≤ vcpu → vcpu < end → is_in set vcpu ≡ false

-- it is the lowest of those
pub record IsNext (set : RedistSet) (from end vcpu : ℕ) : Type 0 where
  pub least : from ≤ vcpu
  pub below : vcpu < end
  pub has : is_in set vcpu ≡ true
  pub none : HasNone set from vcpu

-- it is the highest of those below `end`
pub record IsLast (set : RedistSet) (end vcpu : ℕ) : Type 0 where
  pub below : vcpu < end
  pub has : is_in set vcpu ≡ true
  pub none : HasNone set (vcpu + 1) end

-- ---- of one virtual processor, and of two

-- its number, if that is from `from` on and below `end`
abbrev pub IsWithin : Vcpu → ℕ → ℕ → Option ℕ → Type 0
IsWithin v from end o = MatchOption o (HasNone (One v) from end) (λ n. (n ≡ v.0) × (from ≤ n) × (n < end))

-- the lower of two numbers, so far as there are any
abbrev pub lower_of : Option ℕ → Option ℕ → Option ℕ
lower_of None other = other
lower_of (Some one) None = Some one
lower_of (Some one) (Some other) = Some (cond (nat_lt other one) other one)

-- the higher of them
abbrev pub higher_of : Option ℕ → Option ℕ → Option ℕ
higher_of None other = other
higher_of (Some one) None = Some one
higher_of (Some one) (Some other) = Some (cond (nat_lt one other) other one)
