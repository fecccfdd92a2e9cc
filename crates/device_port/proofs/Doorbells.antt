-- How a device's write by address goes: what it depends on, and what it doesn't.
use Rattle.std.proofs.Common.{◌≡◌, ℕ, suc, ◌+◌, ◌-◌, ◌<◌, Bool, true, false, cond, ◌||◌, List, [], ◌∷◌, length, map, Option, Some, None}
use Rattle.std.proofs.Common.{refl, ap, sym, ◌∙◌, arith}
use Rattle.std.specs.List.{list_any}
use Rattle.its_types.specs.declared.ids.Addr.{Addr}
use Rattle.its_types.specs.declared.ids.DeviceId.{DeviceId}
use Rattle.its_types.specs.declared.ids.EventId.{EventId}
use Rattle.its_plain.specs.Doorbells.{route_of, device_of_requester, rung, rings, meets_frames, message}
use Rattle.its_plain.specs.declared.call.Call.TheVariants as call
use Rattle.its_plain.specs.declared.call.Route.{Route}
use Rattle.its_plain.specs.declared.call.Route.TheVariants as route
use Rattle.its_plain.specs.declared.desc.Desc.{Desc}
use Rattle.its_plain.specs.declared.desc.Its.{Its}
use Rattle.its_turns.specs.Opening.{kept_its}
pub use Rattle.dma_routes.proofs.Doorbells.{devices}
use Rattle.dma_routes.proofs.Doorbells.{goes, route_goes}
use Rattle.device_port.specs.Routes.{KeptHasRoutes, AgreeFor, WritesGoByOwnRange, MessagesAreOwn, MessagesStand}

-- ---- it depends on frames alone

abbrev its_with : Option Addr → Its
its_with frames = record { restore = None; frames = frames }

abbrev framed : List Its → List Its
framed ts = map its_with (map (λ t. t.frames) ts)

rung_framed : (i a n : ℕ) (ts : List Its) → rung i a n (framed ts) ≡ rung i a n ts
rung_framed i a n [] = refl
rung_framed i a n (t ∷ ts) = ap (λ (o : Option ℕ). cond (rings a n t) (Some i) o) (rung_framed (suc i) a n ts)

meets_framed : (a n : ℕ) (ts : List Its) → list_any (meets_frames a n) (framed ts) ≡ list_any (meets_frames a n) ts
meets_framed a n [] = refl
meets_framed a n (t ∷ ts) = ap (λ (b : Bool). meets_frames a n t || b) (meets_framed a n ts)

goes_framed : (a : ℕ) (bytes : List ℕ) (ts : List Its) (dev : Option ℕ) → goes a bytes (framed ts) dev ≡ goes a bytes ts dev
goes_framed a bytes ts dev =
    let by_rung : Option ℕ → Bool → Route = λ o met. elim o [ None ↦ cond met route.Frame route.Poke | Some its ↦ message its bytes dev ] in
    let r = rung_framed 0 a (length bytes) ts in let m = meets_framed a (length bytes) ts in
    λ d. by_rung (r d) (m d)

pub agree : (d e : Desc) (req a : ℕ) (bytes : List ℕ) → AgreeFor req d e → route_of d req a bytes ≡ route_of e req a bytes
agree d e req a bytes same =
    route_goes d req a bytes ∙ (sym (goes_framed a bytes d.translators (device_of_requester req d.requesters))
    ∙ ((let frames = same.frames in let device = same.device in λ i. goes a bytes (map its_with (frames i)) (device i))
    ∙ (goes_framed a bytes e.translators (device_of_requester req e.requesters) ∙ sym (route_goes e req a bytes))))

pub own_range : WritesGoByOwnRange
own_range d e req addr bytes same = ap (λ (r : Route). call.Dma req addr bytes r) (agree d e req addr.0 bytes same)

frames_kept : (ts : List Its) → map (λ t. t.frames) (map kept_its ts) ≡ map (λ t. t.frames) ts
frames_kept [] = refl
frames_kept (t ∷ ts) = ap (λ (l : List (Option Addr)). t.frames ∷ l) (frames_kept ts)

pub kept : KeptHasRoutes
kept d req address bytes = agree _ d req address bytes record { frames = frames_kept d.translators; device = refl }

-- ---- a message is of the requester's device

own_message : (its : ℕ) (bytes : List ℕ) (o : Option ℕ) (i : ℕ) (dev : DeviceId) (ev : EventId) → message its bytes o ≡ route.Signal i dev ev → o ≡ Some dev.0
own_message its bytes None i dev ev e = absurd cc
own_message its bytes (Some n) i dev ev e = ap Some (ap (λ (x : DeviceId). x.0) (same_device e))
  where
    same_device : {k j : ℕ} {x y : DeviceId} {p q : EventId} → route.Signal k x p ≡ route.Signal j y q → x ≡ y
    same_device e = cc

own_goes : (d : Desc) (a : ℕ) (bytes : List ℕ) (o : Option ℕ) (met : Bool) (dev : Option ℕ) (i : ℕ) (x : DeviceId) (ev : EventId)
    → elim o [ None ↦ cond met route.Frame route.Poke | Some its ↦ message its bytes dev ] ≡ route.Signal i x ev → dev ≡ Some x.0
own_goes d a bytes None true dev i x ev e = absurd cc
own_goes d a bytes None false dev i x ev e = absurd cc
own_goes d a bytes (Some its) met dev i x ev e = own_message its bytes dev i x ev e

pub own_device : MessagesAreOwn
own_device d req a bytes its dev ev e = own_goes d a bytes (rung 0 a (length bytes) d.translators)
    (list_any (meets_frames a (length bytes)) d.translators) (device_of_requester req d.requesters) its dev ev (sym (route_goes d req a bytes) ∙ e)

-- ---- and to a translator that there is

some_same : (x y : ℕ) → (let o : Option ℕ = Some x in o) ≡ Some y → x ≡ y
some_same x y e = cc

is_inside : (b : Bool) (i k n : ℕ) (o : Option ℕ) → cond b (Some i) o ≡ Some k → (o ≡ Some k → k < suc i + n) → k < i + suc n
is_inside true i k n o e rest = let same = some_same i k e in omega (arith, same)
is_inside false i k n o e rest = let later = rest e in omega (arith, later)

rung_inside : (i a n k : ℕ) (ts : List Its) → rung i a n ts ≡ Some k → k < i + length ts
rung_inside i a n k [] e = absurd cc
rung_inside i a n k (t ∷ ts) e = is_inside (rings a n t) i k (length ts) (rung (suc i) a n ts) e (rung_inside (suc i) a n k ts)

stands_message : (its : ℕ) (bytes : List ℕ) (o : Option ℕ) (i : ℕ) (dev : DeviceId) (ev : EventId) → message its bytes o ≡ route.Signal i dev ev → its ≡ i
stands_message its bytes None i dev ev e = absurd cc
stands_message its bytes (Some n) i dev ev e = same_its e
  where
    same_its : {k j : ℕ} {x y : DeviceId} {p q : EventId} → route.Signal k x p ≡ route.Signal j y q → k ≡ j
    same_its e = cc

stands_goes : (bytes : List ℕ) (o : Option ℕ) (met : Bool) (dev : Option ℕ) (i : ℕ) (x : DeviceId) (ev : EventId)
    → elim o [ None ↦ cond met route.Frame route.Poke | Some its ↦ message its bytes dev ] ≡ route.Signal i x ev → o ≡ Some i
stands_goes bytes None true dev i x ev e = absurd cc
stands_goes bytes None false dev i x ev e = absurd cc
stands_goes bytes (Some its) met dev i x ev e = ap Some (stands_message its bytes dev i x ev e)

pub stands : MessagesStand
stands d req a bytes its dev ev e =
    let first = stands_goes bytes (rung 0 a (length bytes) d.translators) (list_any (meets_frames a (length bytes)) d.translators)
    (device_of_requester req d.requesters) its dev ev (sym (route_goes d req a bytes) ∙ e) in
    let below = rung_inside 0 a (length bytes) its d.translators first in
    omega (arith, below)
