-- Where a machine can be made, the routes that scripts give are those of the description.
use Rattle.std.proofs.Common.{◌≡◌, ◌<◌, ℕ, suc, ◌+◌, ◌-◌, ◌^◌, Bool, true, false, nat_lt, nat_le, if◌then◌else◌, List, [], ◌∷◌, length, map, find}
use Rattle.std.proofs.Common.{Option, Some, None, Result, Ok, Err, refl, ap, ◌∙◌, arith}
use Rattle.std.specs.Prelude.{IfSome}
use Rattle.std.specs.Option.{option_map}
use Rattle.std.specs.List.{list_any}
use Rattle.std.proofs.lemmas.Bool.{ltb-true, leb-true, lt-ltb}
use Rattle.its_types.specs.declared.ids.Addr.{Addr}
use Rattle.its_plain.specs.Doorbells.{is_among, device_of_requester, rings, rung, message, meets_frames, route_of, dma_of}
use Rattle.guest_windows.specs.Fields.{pairs}
use Rattle.guest_windows.specs.Windows.{Window, zeros}
use Rattle.its_plain.specs.Machine.{◌>>=◌, ensure, windows_fit, tables_inside, filled, all_frames_fit, are_new, all_new, made}
use Rattle.its_plain.specs.Plain.{Plain}
use Rattle.its_plain.specs.declared.call.Call.TheVariants as call
use Rattle.its_plain.specs.declared.call.Route.{Route}
use Rattle.its_plain.specs.declared.call.Route.TheVariants as route
use Rattle.its_plain.specs.declared.desc.Desc.{Desc}
use Rattle.its_plain.specs.declared.desc.DescFault.{DescFault}
use Rattle.its_plain.specs.declared.desc.DescFault.TheVariants.{Windows}
use Rattle.its_plain.specs.declared.desc.Its.{Its}
use Rattle.its_plain.specs.declared.desc.Requesters.{Requesters}
use Rattle.event_script.specs.Limits.{has_bytes, is_call}
use Rattle.event_script.specs.Routes.{in_range, said_route, no_message, same_route, HasIts}
use Rattle.event_script.proofs.Messages.{left_true, right_true, same_is}
use Rattle.event_script.proofs.Steps.{chosen}

-- ---- requesters of a machine

abbrev IsSmall : ℕ → Type 0
IsSmall n = nat_lt n (2 ^ 32) ≡ true

-- a test that passed
passed : (test : Bool) (r : Result (Unit {0}) DescFault) (f : DescFault) → (if test then r else Err f) ≡ Ok tt → (test ≡ true) × (r ≡ Ok tt)
passed true r f e = (refl, e)
passed false r f e = absurd (cc)

reach : (r : Requesters) (req : ℕ) → is_among req r ≡ true → nat_lt (r.dev.0 + (r.last - r.first)) (2 ^ 32) ≡ true → IsSmall (r.dev.0 + (req - r.first))
reach r req among new =
    let most = leb-true req r.last (right_true (nat_le r.first req) (nat_le req r.last) among) in
    let fits = ltb-true (r.dev.0 + (r.last - r.first)) (2 ^ 32) new in
    lt-ltb (r.dev.0 + (req - r.first)) (2 ^ 32) (omega (arith, most, fits))

-- the devices of new requesters are in range
pub reach_small : (before : List Requesters) (n : ℕ) (rs : List Requesters) (req : ℕ) → all_new before n rs ≡ Ok tt
    → IfSome (device_of_requester req rs) IsSmall
reach_small before n [] req e = tt
reach_small before n (r ∷ rs) req e =
    let both = passed (are_new before r) (all_new (r ∷ before) (suc n) rs) _ e in
    let fits = right_true (nat_le r.first r.last) (nat_lt (r.dev.0 + (r.last - r.first)) (2 ^ 32)) (left_true _ _ both.0) in
    chosen {A = Option Requesters} (λ o. IfSome (option_map (λ x. x.dev.0 + (req - x.first)) o) IsSmall) (is_among req r) (Some r) (find (is_among req) rs)
    (λ among. reach r req among fits) (λ _. reach_small (r ∷ before) (suc n) rs req both.1)

-- what was got on the way to a state
went : {A : Type 0} {P : Type 0} (r : Result A DescFault) (f : A → Result Plain DescFault) (u : Plain) → (r >>= f) ≡ Ok u
    → ((x : A) → r ≡ Ok x → f x ≡ Ok u → P)
    → P
went (Ok x) f u e h = h x refl e
went (Err g) f u e h = absurd (cc)

abbrev AreNew : Desc → Type 0
AreNew d = all_new [] 0 d.requesters ≡ Ok tt

pub requesters_new : (d : Desc) (u : Plain) → made d ≡ Ok u → AreNew d
unfolding made
requesters_new d u e =
    let m : List Window = map zeros (pairs d.windows) in
    went {P = AreNew d} (ensure (windows_fit d) Windows) _ u e (λ _ _ e.
    went {P = AreNew d} (tables_inside d.shape m d.tables) _ u e (λ _ _ e.
    went {P = AreNew d} (filled m 0 d.fills) _ u e (λ _ _ e.
    went {P = AreNew d} (all_frames_fit (pairs d.windows) 0 d.translators) _ u e (λ _ _ e.
    went {P = AreNew d} (all_new [] 0 d.requesters) _ u e (λ _ new _. new)))))

-- ---- routes

message_small : (its : ℕ) (bytes : List ℕ) (o : Option ℕ) → IfSome o IsSmall → in_range (message its bytes o) ≡ message its bytes o
message_small its bytes None e = refl
message_small its bytes (Some n) e = rw e refl

no_message_is : (test : Bool) → in_range (if test then route.Frame else route.Poke) ≡ (if test then route.Frame else route.Poke)
no_message_is true = refl
no_message_is false = refl

by_rung : (d : Desc) (address : ℕ) (bytes : List ℕ) (reached : Option ℕ) (o : Option ℕ) → IfSome reached IsSmall
    → in_range (let r : Route = elim o [ None ↦ no_message d.translators address (length bytes) | Some its ↦ message its bytes reached ] in r)
    ≡ (let r : Route = elim o [ None ↦ no_message d.translators address (length bytes) | Some its ↦ message its bytes reached ] in r)
by_rung d address bytes reached None e = no_message_is (list_any (meets_frames address (length bytes)) d.translators)
by_rung d address bytes reached (Some its) e = message_small its bytes reached e

pub route_described : (d : Desc) (u : Plain) (req address : ℕ) (bytes : List ℕ) → made d ≡ Ok u
    → said_route d req address bytes ≡ route_of d req address bytes
unfolding route_of
route_described d u req address bytes e =
    by_rung d address bytes (device_of_requester req d.requesters) (rung 0 address (length bytes) d.translators)
    (reach_small [] 0 d.requesters req (requesters_new d u e))

-- a call of a script is that of the description
pub call_described : (d : Desc) (u : Plain) (req : ℕ) (addr : Addr) (bytes : List ℕ) (r : Route) → made d ≡ Ok u
    → is_call d (call.Dma req addr bytes r) ≡ true
    → call.Dma req addr bytes r ≡ dma_of d req addr bytes
call_described d u req addr bytes r e is =
    let same = same_is r (said_route d req addr.0 bytes) (right_true (has_bytes 64 bytes) (same_route r (said_route d req addr.0 bytes)) is) in
    ap (call.Dma req addr bytes) (same ∙ route_described d u req addr.0 bytes e)

-- ---- translators

further : (i n : ℕ) (o : Option ℕ) → IfSome o (λ its. its < suc i + n) → IfSome o (λ its. its < i + suc n)
further i n None e = tt
further i n (Some its) e = omega (arith, e)

rung_below : (i address count : ℕ) (ts : List Its) → IfSome (rung i address count ts) (λ its. its < i + length ts)
rung_below i address count [] = tt
rung_below i address count (t ∷ ts) =
    chosen {A = Option ℕ} (λ o. IfSome o (λ its. its < i + suc (length ts))) (rings address count t) (Some i) (rung (suc i) address count ts)
    (λ _. omega arith) (λ _. further i (length ts) (rung (suc i) address count ts) (rung_below (suc i) address count ts))

from_zero : (n : ℕ) (o : Option ℕ) → IfSome o (λ its. its < 0 + n) → IfSome o (λ its. its < n)
from_zero n None e = tt
from_zero n (Some its) e = omega (arith, e)

device_has : (n its k : ℕ) (bytes : List ℕ) → its < n → HasIts n (in_range (message its bytes (Some k)))
device_has n its k bytes lt = chosen {A = Route} (HasIts n) (nat_lt k (2 ^ 32)) _ _ (λ _. lt) (λ _. tt)

message_has : (n its : ℕ) (bytes : List ℕ) (o : Option ℕ) → its < n → HasIts n (in_range (message its bytes o))
message_has n its bytes None lt = tt
message_has n its bytes (Some k) lt = device_has n its k bytes lt

none_has : (n : ℕ) (test : Bool) → HasIts n (in_range (if test then route.Frame else route.Poke))
none_has n true = tt
none_has n false = tt

rung_has : (d : Desc) (address : ℕ) (bytes : List ℕ) (reached : Option ℕ) (o : Option ℕ) → IfSome o (λ its. its < length d.translators)
    → HasIts (length d.translators)
    (in_range (let r : Route = elim o [ None ↦ no_message d.translators address (length bytes) | Some its ↦ message its bytes reached ] in r))
rung_has d address bytes reached None lt = none_has (length d.translators) (list_any (meets_frames address (length bytes)) d.translators)
rung_has d address bytes reached (Some its) lt = message_has (length d.translators) its bytes reached lt

pub said_has_its : (d : Desc) (req address : ℕ) (bytes : List ℕ) → HasIts (length d.translators) (said_route d req address bytes)
unfolding route_of
said_has_its d req address bytes =
    rung_has d address bytes (device_of_requester req d.requesters) (rung 0 address (length bytes) d.translators)
    (from_zero (length d.translators) (rung 0 address (length bytes) d.translators) (rung_below 0 address (length bytes) d.translators))
