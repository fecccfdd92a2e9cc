-- LPIs that are set, cleared and moved.
use Rattle.std.proofs.Common.{◌≡◌, ℕ, true, eqb, List, [], ◌∷◌, refl, ap, ◌∙◌}
use Rattle.std.proofs.lemmas.Bool.{both_ways, cond_both}
use Rattle.its_types.specs.Lpis.{is_pending, with_lpi, with_lpis, without_lpi}
use Rattle.its_plain.specs.Plain.{Plain, pending_of, is_on, with_pending}
use Rattle.its_plain.specs.Sound.{IsSound}
use Rattle.its_plain.specs.Commands.{lpi_set, lpi_cleared, lpi_moved, lpis_moved, all_moved}
use Rattle.plain_soundness.proofs.Lists.{no_set, set_has, set_with, set_with_all, set_without}
use Rattle.plain_soundness.proofs.States.{IsLpi, pending_set, none_pending, pending_replaced, same_on}

pub set_sound : (u : Plain) (intid v : ℕ) → IsSound u → IsLpi u intid → is_on u v ≡ true → IsSound (lpi_set intid v u)
set_sound u intid v h lpi on =
    pending_replaced u v (with_lpi intid (pending_of u v)) h (set_with (IsLpi u) intid (pending_of u v) lpi (pending_set u v h))
    (λ off. absurd (both_ways (is_on u v) off on))

pub cleared_sound : (u : Plain) (intid v : ℕ) → IsSound u → IsSound (lpi_cleared intid v u)
cleared_sound u intid v h =
    pending_replaced u v (without_lpi intid (pending_of u v)) h (set_without (IsLpi u) intid (pending_of u v) (pending_set u v h))
    (λ off. ap (without_lpi intid) (none_pending u v h off))

abbrev cleared : ℕ → ℕ → Plain → List ℕ
cleared intid from u = without_lpi intid (pending_of u from)

-- an LPI that is pending is one of the machine's
moved_lpi_sound : (u : Plain) (intid from to : ℕ) → IsSound u → is_on u to ≡ true → is_pending intid (pending_of u from) ≡ true
    → IsSound (lpi_set intid to (lpi_cleared intid from u))
moved_lpi_sound u intid from to h on pending =
    let lpi : IsLpi u intid = set_has (IsLpi u) intid (pending_of u from) (pending_set u from h).all pending in
    set_sound (lpi_cleared intid from u) intid to (cleared_sound u intid from h) lpi (same_on u from to (cleared intid from u) ∙ on)

pub moved_sound : (u : Plain) (intid from to : ℕ) → IsSound u → is_on u to ≡ true → IsSound (lpi_moved intid from to u)
moved_sound u intid from to h on =
    cond_both (is_pending intid (pending_of u from)) (lpi_set intid to (lpi_cleared intid from u)) u IsSound (moved_lpi_sound u intid from to h on) (λ _. h)

-- a sound state with the same translators
pub record IsFollowed (u v : Plain) : Type 0 where
  pub sound : IsSound v
  pub translators : v.translators ≡ u.translators
  pub layout : v.layout ≡ u.layout

pub followed_itself : (u : Plain) → IsSound u → IsFollowed u u
followed_itself u h = record { sound = h; translators = refl; layout = refl }

abbrev IsFollowedTo : Plain → ℕ → Plain → Type 0
IsFollowedTo u to v = IsFollowed u v × (is_on v to ≡ true)

moved_followed : (u v : Plain) (intid from to : ℕ) → IsFollowed u v → is_on v to ≡ true → IsFollowedTo u to (lpi_moved intid from to v)
moved_followed u v intid from to h on =
    let once : Plain = lpi_cleared intid from v in
    let still : is_on once to ≡ true = same_on v from to (cleared intid from v) ∙ on in
    cond_both (is_pending intid (pending_of v from)) (lpi_set intid to once) v (IsFollowedTo u to)
    (λ pending. (
      record { sound = moved_lpi_sound v intid from to h.sound on pending; translators = h.translators; layout = h.layout },
      same_on once to to
          (with_lpi intid (pending_of once to)) ∙ still,
    ))
    (λ _. (h, on))

pub all_followed : (u v : Plain) (intids : List ℕ) (from to : ℕ) → IsFollowed u v → is_on v to ≡ true → IsFollowed u (lpis_moved intids from to v)
all_followed u v [] from to h on = h
all_followed u v (intid ∷ intids) from to h on = let next = moved_followed u v intid from to h on in all_followed u (lpi_moved intid from to v) intids from to
    next.0 next.1

pub all_moved_sound : (u : Plain) (from to : ℕ) → IsSound u → is_on u to ≡ true → IsSound (all_moved from to u)
unfolding all_moved
all_moved_sound u from to h on =
    let emptied : Plain = with_pending u from [] in
    let empty : IsSound emptied = pending_replaced u from [] h (no_set (IsLpi u)) (λ _. refl) in
    cond_both (eqb from to) u (with_pending emptied to (with_lpis (pending_of u from) (pending_of u to))) IsSound (λ _. h)
    (λ _. pending_replaced emptied to (with_lpis (pending_of u from) (pending_of u to)) empty
    (set_with_all (IsLpi u) (pending_of u from) (pending_of u to) (pending_set u from h).all (pending_set u to h))
    (λ off. absurd (both_ways (is_on emptied to) off (same_on u from to [] ∙ on))))
