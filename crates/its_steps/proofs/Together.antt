-- Two steps in one, and parts held in another order.
use Rattle.std.proofs.Common.{◌≡◌, ℕ, zero, suc, List, [], ◌∷◌, ◌++◌, set, refl, ap, subst, inl, inr, ⊎_elim}
use Rattle.std.specs.List.{AllByRecursion}
use mathlib.Core.Option.{none, some}
use Rattle.atomic_table.proofs.Lists.{set_here}
use Rattle.its_plain.specs.History.{after}
use Rattle.its_steps.specs.Good.{Holds, Apart, IsHeld, Good}
use Rattle.its_steps.specs.Laws.{TakeKeeps, GiveKeeps, BringKeeps}
use Rattle.its_steps.specs.Parts.{index_of}
use Rattle.its_steps.specs.World.{View, got, took, kept}
use Rattle.its_steps.proofs.Helds.{holds_but, apart_but, lone}
use Rattle.its_steps.proofs.Lists.{at_below, all_but, all_here}
use Rattle.its_steps.proofs.Steps.{pass, holds, same_turn}
use Rattle.its_steps.proofs.Turns.{tries, takes_out, puts_home, releases}

pub set_over : {A : Type 0} (xs : List A) (i : ℕ) (a b : A) → set (set xs i a) i b ≡ set xs i b
set_over [] i a b = refl
set_over (x ∷ xs) zero a b = refl
set_over (x ∷ xs) (suc i) a b = ap (λ ys. x ∷ ys) (set_over xs i a b)

pub takes : TakeKeeps
takes s h w good i v at passes p c st free there =
    let k : ℕ = index_of s p in
    let one = tries s h w good i v at passes p c st free there in
    let two = takes_out s h _ one i (got v p c) (set_here w.views i (got v p c) (at_below w.views i v at)) passes p c [] v.held refl in
    subst (λ (vs : List View). Good s h record w { turns = set w.turns (index_of s p) (suc v.number); slots = set w.slots (index_of s p) none; views = vs })
    (set_over w.views i (got v p c) (took v p c)) two

pub gives : GiveKeeps
gives s h w good i v at passes p c before behind e =
    let v1 : View = record v { held = before ++ kept p c ∷ behind } in
    let one = puts_home s h w good i v at passes p c before behind e in
    let two = releases s h _ one i v1 (set_here w.views i v1 (at_below w.views i v at)) passes p c before behind refl in
    subst (λ (vs : List View). Good s h record w { turns = set w.turns (index_of s p) 0; slots = set w.slots (index_of s p) (some c); views = vs })
    (set_over w.views i v1 (record v { held = before ++ behind })) two

pub brings : BringKeeps
brings s h w good i v at passes x before behind e =
    let own = (pass s h w good i v at passes).holds in
    let hs : AllByRecursion (IsHeld s w.word (after s.start h) w.turns w.slots v.number) (before ++ x ∷ behind) =
    subst (AllByRecursion (IsHeld s w.word (after s.start h) w.turns w.slots v.number)) e own.held in
    let apart : Apart (before ++ x ∷ behind) = subst Apart e own.apart in
    holds s h w good i v at passes (x ∷ (before ++ behind)) v.cache v.tries w.turns w.slots
    record {
      apart = (lone before x behind apart, apart_but before x behind apart);
      held = (
        all_here (IsHeld s w.word (after s.start h) w.turns w.slots v.number) before x behind hs,
        all_but (IsHeld s w.word (after s.start h) w.turns w.slots v.number) before x behind hs,
      );
    }
    (λ n xs ne t. t) good.parts.wide good.parts.home
    (λ p n st t. ⊎_elim (λ (z : (n ≡ v.number) × Holds p v.held). inl (z.0, holds_but p before x behind (subst (Holds p) e z.1))) (λ z. inr z)
    (same_turn s h w good i v at passes p n st t))
