-- Areas that share no byte.
use Rattle.std.proofs.Common.{◌≡◌, ◌⊎◌, ℕ, ◌+◌, ◌≤◌, Bool, true, false, ◌&&◌, ◌||◌, List, [], ◌∷◌, ◌++◌, None, Ok, inl, inr, refl, arith}
use Rattle.std.specs.Prelude.{find, nat_lt}
use Rattle.std.specs.List.{AllByRecursion}
use Rattle.std.proofs.lemmas.Bool.{le-ltb}
use Rattle.its_plain.specs.declared.area.Area.{Area}
use Rattle.its_plain.specs.Regions.{clash, none_overlap}
use Rattle.script_gen.proofs.Lists.{all_append, all_weaker, find_none}

-- one ends before the other begins
abbrev pub AreApart : Area → Area → Type 0
AreApart a b = (a.base + a.size ≤ b.base) ⊎ (b.base + b.size ≤ a.base)

one_false : (x y z : Bool) → (y ≡ false) ⊎ (z ≡ false) → (x && y && z) ≡ false
one_false x true true (inl e) = absurd cc
one_false x true true (inr e) = absurd cc
one_false true false z h = refl
one_false false false z h = refl
one_false true true false h = refl
one_false false true false h = refl

no_clash : (a b : Area) → AreApart a b → clash a b ≡ false
no_clash a b (inl before) = one_false (a.is_written || b.is_written) (nat_lt a.base (b.base + b.size)) (nat_lt b.base (a.base + a.size))
    (inr (le-ltb b.base (a.base + a.size) before))
no_clash a b (inr after) = one_false (a.is_written || b.is_written) (nat_lt a.base (b.base + b.size)) (nat_lt b.base (a.base + a.size))
    (inl (le-ltb a.base (b.base + b.size) after))

-- each two are apart
abbrev pub AreSpread : List Area → Type 0
AreSpread [] = Unit {0}
AreSpread (a ∷ areas) = AllByRecursion (AreApart a) areas × AreSpread areas

pub none_shared : (areas : List Area) → AreSpread areas → none_overlap areas ≡ Ok tt
none_shared [] h = refl
none_shared (a ∷ areas) h =
    let none : find (clash a) areas ≡ None = find_none (clash a) areas (all_weaker (AreApart a) (λ b. clash a b ≡ false) (no_clash a) areas h.0) in
    rw none (none_shared areas h.1)

-- ---- groups of areas, each between two addresses

pub record Lies (low high : ℕ) (a : Area) : Type 0 where
  pub above : low ≤ a.base
  pub below : a.base + a.size ≤ high

abbrev pub AllLie : ℕ → ℕ → List Area → Type 0
AllLie low high areas = AllByRecursion (Lies low high) areas

-- none has a byte between the two
abbrev pub IsOutOf : ℕ → ℕ → Area → Type 0
IsOutOf low high a = (high ≤ a.base) ⊎ (a.base + a.size ≤ low)

abbrev pub AreOutOf : ℕ → ℕ → List Area → Type 0
AreOutOf low high areas = AllByRecursion (IsOutOf low high) areas

pub out_below : (low high lower higher : ℕ) (areas : List Area) → high ≤ lower → AllLie low high areas → AreOutOf lower higher areas
out_below low high lower higher areas le h = all_weaker (Lies low high) (IsOutOf lower higher) (λ a lies. let end = lies.below in inr (omega arith)) areas h

pub out_above : (low high lower higher : ℕ) (areas : List Area) → higher ≤ low → AllLie low high areas → AreOutOf lower higher areas
out_above low high lower higher areas le h = all_weaker (Lies low high) (IsOutOf lower higher) (λ a lies. let start = lies.above in inl (omega arith)) areas h

apart_from : (low high : ℕ) (a b : Area) → IsOutOf low high a → Lies low high b → AreApart a b
apart_from low high a b (inl after) lies = let end = lies.below in inr (omega arith)
apart_from low high a b (inr before) lies = let start = lies.above in inl (omega arith)

-- a group after areas that are out of it
pub with_group : (low high : ℕ) (areas group : List Area) → AreOutOf low high areas → AreSpread areas → AllLie low high group → AreSpread group
    → AreSpread (areas ++ group)
with_group low high [] group out spread lie apart = apart
with_group low high (a ∷ areas) group out spread lie apart = (
  all_append (AreApart a) areas group spread.0 (all_weaker (Lies low high) (AreApart a) (λ b. apart_from low high a b out.0) group lie),
  with_group low high areas group out.1 spread.1 lie apart,
)
