-- The order in which a pass takes parts, so that no two passes wait for each other.
use Rattle.std.specs.Prelude.{◌≡◌, ◌⊎◌, ◌<◌, List}
use Rattle.std.specs.List.{AllByRecursion}
use Rattle.its_types.specs.declared.machine.Part.{Part}
use Rattle.its_types.specs.declared.machine.Part.TheVariants as part
use Rattle.its_steps.specs.Contents.{Held}
use Rattle.its_steps.specs.Parts.{Setup, Stands, index_of}

-- The maps come first, then memory, then shards, the configurations of all redistributors, and what is pending at each. Of one
-- kind the lower number comes before the higher: of shards all of the first translator before those of the second
abbrev pub ComesBefore : Part → Part → Type 0
ComesBefore (part.Maps i) (part.Maps its) = i < its
ComesBefore (part.Maps i) part.Mem = Unit {0}
ComesBefore (part.Maps i) (part.Shard its n) = Unit {0}
ComesBefore (part.Maps i) (part.Conf vcpu) = Unit {0}
ComesBefore (part.Maps i) (part.Pend vcpu) = Unit {0}
ComesBefore part.Mem (part.Shard its n) = Unit {0}
ComesBefore part.Mem (part.Conf vcpu) = Unit {0}
ComesBefore part.Mem (part.Pend vcpu) = Unit {0}
ComesBefore (part.Shard i k) (part.Shard its n) = (i < its) ⊎ ((i ≡ its) × (k < n))
ComesBefore (part.Shard i k) (part.Conf vcpu) = Unit {0}
ComesBefore (part.Shard i k) (part.Pend vcpu) = Unit {0}
ComesBefore (part.Conf v) (part.Conf vcpu) = v.0 < vcpu.0
ComesBefore (part.Conf v) (part.Pend vcpu) = Unit {0}
ComesBefore (part.Pend v) (part.Pend vcpu) = v.0 < vcpu.0
ComesBefore p q = ⊥

-- all that is held comes before the part, which may be taken next
abbrev pub IsInOrder : Part → List Held → Type 0
IsInOrder p held = AllByRecursion (λ x. ComesBefore x.part p) held

-- ---- what is claimed

-- Of two parts that a machine has the one with the lower number comes before the other, and no other does
abbrev pub OrderIsByNumber : Type 0
OrderIsByNumber = (s : Setup) (p q : Part) → Stands s p → Stands s q → (ComesBefore p q → index_of s p < index_of s q)
    × (index_of s p < index_of s q → ComesBefore p q)
