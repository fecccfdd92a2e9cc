-- What the tests of parts held tell.
use Rattle.std.proofs.Common.{◌≡◌, ℕ, List, [], ◌∷◌, refl, ap}
use Rattle.std.specs.Bool.{Decides}
use Rattle.std.proofs.lemmas.Bool.Decides.{Decides-eqb, Decides-like, Decides-and, Decides-or}
use Rattle.its_types.specs.declared.machine.Part.{Part}
use Rattle.its_types.specs.declared.machine.Part.TheVariants as part
use Rattle.its_steps.specs.Contents.{Held}
use Rattle.its_steps.specs.Good.{Holds}
use Rattle.its_player.specs.Held.{same_part, holds}

pub same_part_decides : (p q : Part) → Decides (same_part p q) (p ≡ q)
same_part_decides (part.Maps a) (part.Maps b) = Decides-like _ (λ e. ap (λ (k : ℕ). part.Maps k) e) (λ e. cc) (Decides-eqb a b)
same_part_decides part.Mem part.Mem = ((λ e. refl), (λ e. refl))
same_part_decides (part.Shard a n) (part.Shard b m) = Decides-like _ (λ e. cc) (λ e. (cc, cc)) (Decides-and _ _ (Decides-eqb a b) (Decides-eqb n m))
same_part_decides (part.Conf a) (part.Conf b) = Decides-like _ (λ e. ap (λ (k : ℕ). part.Conf (record { 0 = k })) e) (λ e. cc) (Decides-eqb a.0 b.0)
same_part_decides (part.Pend a) (part.Pend b) = Decides-like _ (λ e. ap (λ (k : ℕ). part.Pend (record { 0 = k })) e) (λ e. cc) (Decides-eqb a.0 b.0)
same_part_decides p q = ((λ e. absurd cc), (λ e. absurd cc))

pub holds_decides : (p : Part) (xs : List Held) → Decides (holds p xs) (Holds p xs)
holds_decides p [] = ((λ e. absurd cc), (λ h. absurd h))
holds_decides p (x ∷ xs) = Decides-or (same_part x.part p) (holds p xs) (same_part_decides x.part p) (holds_decides p xs)
