-- Steps of the pass that is found, and steps of none.
use Rattle.std.proofs.Common.{◌≡◌, ℕ, zero, suc, take, ◌<◌, Bool, List, [], ◌∷◌, length, get_or, arith, Some, None, refl, subst, inl, inr, ⊎_elim}
use Rattle.std.specs.List.{position}
use Rattle.std.proofs.lemmas.List.Quantifiers.{position-Some}
use Rattle.its_player.specs.Shared.{setup_of, known, is_pass, core_of, IsMove, IsPassAt}
use Rattle.its_steps.specs.Steps.{Core, IsGoodCore, Moves, IsStep, IsRun}
use Rattle.its_steps.specs.World.{View}
use Rattle.its_steps.specs.declared.event.Event.{Event}
use Rattle.its_player.specs.declared.shared.Shared.{Shared}
use Rattle.its_player.specs.declared.view.View.{View as Known}
use Rattle.its_player.proofs.Positions.{any_default}
use Rattle.its_player.proofs.PassesMet.{one_seat, one_view, pass_at, no_pass_at}

pub nobody : (w : Shared) (e : Event) → position (is_pass e.pass) w.views.items ≡ None → IsStep (core_of w) e (core_of w)
nobody w e none = inr ((λ d does. no_pass_at w e.pass does.index does.view none does.is_at), refl)

pub found_pass : (w : Shared) (n at : ℕ) → position (is_pass n) w.views.items ≡ Some at → IsPassAt w at
found_pass w n at found = λ x is. (pass_at w n at x found is).passes

pub stepped : (w : Shared) → IsGoodCore (core_of w) → (e : Event) (at : ℕ) (d : Known) (after : Core) → position (is_pass e.pass) w.views.items ≡ Some at
    → IsMove (core_of w) at e.kind after → IsStep (core_of w) e after
stepped w good e at d after found moves =
    let f = position-Some (is_pass e.pass) w.views.items at d found in
    let x : Known = get_or w.views.items at d in
    let a = pass_at w e.pass at x found (any_default w.views.items at d (get_or w.views.items at d) f.0) in
    let v : View = known (setup_of w) x in
    ⊎_elim
    (λ (m : Moves (core_of w) at v e.kind after). inl record { index = at; view = v; is_at = a; moves = m })
    (λ (n : ((t : Core) → ¬ Moves (core_of w) at v e.kind t) × (after ≡ core_of w)).
    inr (
      (λ t does. n.0 t (subst (λ (k : ℕ × View). Moves (core_of w) k.0 k.1 e.kind t)
          (λ i. (
            one_seat (core_of w) good e.pass does.index at does.view v does.is_at a i,
            one_view (core_of w) good e.pass does.index at does.view v does.is_at
                a i,
          )) does.moves)),
      n.1,
    ))
    (moves v a.at a.passes)

-- the same where nothing is known of any view
none_there : {X : Type 0} (p : X → Bool) (k : ℕ) → position p [] ≡ Some k → ⊥
none_there p k e = cc

position_below : {X : Type 0} (p : X → Bool) (xs : List X) (k : ℕ) → position p xs ≡ Some k → k < length xs
position_below p [] k e = absurd (none_there p k e)
position_below p (x ∷ xs) k e = (position-Some p (x ∷ xs) k x e).0

some_view : {P : Type 0} (xs : List Known) (k : ℕ) → k < length xs → (Known → P) → P
some_view [] k lt f = absurd (omega arith)
some_view (x ∷ xs) k lt f = f x

pub stepped_at : (w : Shared) → IsGoodCore (core_of w) → (e : Event) (at : ℕ) (after : Core) → position (is_pass e.pass) w.views.items ≡ Some at
    → IsMove (core_of w) at e.kind after → IsStep (core_of w) e after
stepped_at w good e at after found moves = some_view w.views.items at (position_below (is_pass e.pass) w.views.items at found)
    (λ d. stepped w good e at d after found moves)

-- one event more
pub run_more : (c : Core) (es : List Event) (i : ℕ) (x : Event) (d after : Core) → i < length es → x ≡ get_or es i x → IsRun c (take i es) d → IsStep d x after
    → IsRun c (take (suc i) es) after
run_more c [] i x d after lt is r s = absurd (omega arith)
run_more c (e ∷ es) zero x d after lt is r s = (after, subst (λ (k : Core × Event). IsStep k.0 k.1 after) (λ j. (r j, is j)) s, refl)
run_more c (e ∷ es) (suc i) x d after lt is r s = (r.0, r.1, run_more r.0 es i x d after (omega arith) is r.2 s)
