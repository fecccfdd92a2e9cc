-- Routes that are compared, and devices in reach.
use Rattle.std.proofs.Common.{◌≡◌, ℕ, ◌^◌, Bool, true, false, ◌&&◌, ◌==◌, nat_lt, if◌then◌else◌, List, Option, Some, None, refl}
use Rattle.std.proofs.lemmas.Bool.{eqb-true, eq-eqb}
use Rattle.its_types.specs.declared.ids.DeviceId.{DeviceId}
use Rattle.its_plain.specs.Doorbells.{message}
use Rattle.its_plain.specs.declared.call.Route.{Route}
use Rattle.its_plain.specs.declared.call.Route.TheVariants as route
use Rattle.event_script.specs.Routes.{in_range, in_reach, event_of, same_route}

both_true : (a b : Bool) → a ≡ true → b ≡ true → (a && b) ≡ true
both_true true true a b = refl
both_true false b e f = absurd (cc)
both_true true false e f = absurd (cc)

pub left_true : (a b : Bool) → (a && b) ≡ true → a ≡ true
left_true true b e = refl
left_true false b e = absurd (cc)

pub right_true : (a b : Bool) → (a && b) ≡ true → b ≡ true
right_true true b e = e
right_true false b e = absurd (cc)

-- a route is equal to itself
pub same_self : (r : Route) → same_route r r ≡ true
same_self (route.Signal its dev ev) =
    both_true (its == its && dev.0 == dev.0) (ev.0 == ev.0) (both_true (its == its) (dev.0 == dev.0) (eq-eqb its its refl) (eq-eqb dev.0 dev.0 refl))
    (eq-eqb ev.0 ev.0 refl)
same_self route.Poke = refl
same_self route.NoRequester = refl
same_self route.Frame = refl

-- and to no other
pub same_is : (r s : Route) → same_route r s ≡ true → r ≡ s
same_is (route.Signal i dev ev) (route.Signal j other event) e =
    let front = left_true (i == j && dev.0 == other.0) (ev.0 == event.0) e in
    let its : i ≡ j = eqb-true i j (left_true (i == j) (dev.0 == other.0) front) in
    let device : dev.0 ≡ other.0 = eqb-true dev.0 other.0 (right_true (i == j) (dev.0 == other.0) front) in
    let number : ev.0 ≡ event.0 = eqb-true ev.0 event.0 (right_true (i == j && dev.0 == other.0) (ev.0 == event.0) e) in
    λ k. route.Signal (its k) (record { 0 = device k }) (record { 0 = number k })
same_is (route.Signal i dev ev) route.Poke e = absurd (cc)
same_is (route.Signal i dev ev) route.NoRequester e = absurd (cc)
same_is (route.Signal i dev ev) route.Frame e = absurd (cc)
same_is route.Poke (route.Signal j other event) e = absurd (cc)
same_is route.Poke route.Poke e = refl
same_is route.Poke route.NoRequester e = absurd (cc)
same_is route.Poke route.Frame e = absurd (cc)
same_is route.NoRequester (route.Signal j other event) e = absurd (cc)
same_is route.NoRequester route.Poke e = absurd (cc)
same_is route.NoRequester route.NoRequester e = refl
same_is route.NoRequester route.Frame e = absurd (cc)
same_is route.Frame (route.Signal j other event) e = absurd (cc)
same_is route.Frame route.Poke e = absurd (cc)
same_is route.Frame route.NoRequester e = absurd (cc)
same_is route.Frame route.Frame e = refl

-- a message, by the device in reach
abbrev pub message_to : ℕ → List ℕ → Option DeviceId → Route
message_to its bytes None = route.NoRequester
message_to its bytes (Some dev) = route.Signal its dev (event_of bytes)

by_reach : (its : ℕ) (bytes : List ℕ) (n : ℕ) (test : Bool)
    → (if test then route.Signal its (record { 0 = n }) (event_of bytes) else route.NoRequester)
    ≡ message_to its bytes (if test then Some (record { 0 = n }) else None)
by_reach its bytes n true = refl
by_reach its bytes n false = refl

pub message_in_range : (its : ℕ) (bytes : List ℕ) (o : Option ℕ) → in_range (message its bytes o) ≡ message_to its bytes (in_reach o)
message_in_range its bytes None = refl
message_in_range its bytes (Some n) = by_reach its bytes n (nat_lt n (2 ^ 32))
