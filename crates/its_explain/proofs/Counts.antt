-- A count at the end of a walk.
use Rattle.std.proofs.Common.{◌≡◌, ◌≤◌, ◌+◌, ◌-◌, ◌^◌, ℕ, List, [], length, ap, arith}
use Rattle.its_explain.specs.Looks.{as_many}

-- nothing is left to be counted
pub all_counted : {A : Type 0} (n m : ℕ) (l : List A) → n ≤ 2 ^ 64 - 1 → l ≡ [] → as_many (n + length l) ≡ as_many m → n ≡ as_many m
all_counted n m l fits none all = let e : length l ≡ 0 = ap length none in omega arith
