-- How a device's write by address goes, where the first translator whose doorbell is written is known; and the requesters of a
-- description that makes a machine.
use Rattle.std.proofs.Common.{◌≡◌, ℕ, suc, ◌+◌, ◌-◌, ◌^◌, ◌<◌, ◌≤◌, Bool, true, false, cond, ◌&&◌, not, IfOk, List, [], ◌∷◌, length, map, Option, Some, None}
use Rattle.std.proofs.Common.{Result, Ok, Err, find, refl, ap, sym, ◌∙◌, subst, arith, leb-true}
use Rattle.std.proofs.lemmas.Bool.{ltb-true}
use Rattle.std.specs.Prelude.{nat_lt, nat_le}
use Rattle.std.specs.List.{list_any}
use Rattle.its_plain.specs.Doorbells.{route_of, device_of_requester, is_among, rung, meets_frames, message}
use Rattle.guest_windows.specs.Fields.{pairs}
use Rattle.guest_windows.specs.Windows.{Window, zeros}
use Rattle.its_plain.specs.Machine.{made, all_new, are_new, meet, ◌>>=◌, ensure, windows_fit, tables_inside, filled, all_frames_fit, first_redistributors}
use Rattle.its_plain.specs.Plain.{Plain}
use Rattle.its_plain.specs.declared.call.Route.{Route}
use Rattle.its_plain.specs.declared.call.Route.TheVariants as route
use Rattle.its_plain.specs.declared.desc.Desc.{Desc}
use Rattle.its_plain.specs.declared.desc.DescFault.{DescFault}
use Rattle.its_plain.specs.declared.desc.DescFault.TheVariants.{Windows, Requesters as BadRequesters}
use Rattle.its_plain.specs.declared.desc.Its.{Its}
use Rattle.its_plain.specs.declared.desc.Requesters.{Requesters}
use Rattle.dma_routes.specs.Routes.{AreDevices, MadeHasDevices}

-- where the translators and the requester's device are given
abbrev pub goes : ℕ → List ℕ → List Its → Option ℕ → Route
goes a bytes ts dev = elim (rung 0 a (length bytes) ts) [
  | None ↦ cond (list_any (meets_frames a (length bytes)) ts) route.Frame route.Poke
  | Some its ↦ message its bytes dev
]

pub route_goes : (d : Desc) (req a : ℕ) (bytes : List ℕ) → route_of d req a bytes ≡ goes a bytes d.translators (device_of_requester req d.requesters)
unfolding route_of
route_goes d req a bytes = refl

-- ---- where the first translator whose doorbell is written is known

module _ (d : Desc) (req a : ℕ) (bytes : List ℕ) where
  pub rung_goes : (its : ℕ) → rung 0 a (length bytes) d.translators ≡ Some its → message its bytes (device_of_requester req d.requesters)
      ≡ route_of d req a bytes
  rung_goes its e = sym (route_goes d req a bytes
      ∙ ap (λ (o : Option ℕ). elim o [
        | None ↦ cond (list_any (meets_frames a (length bytes)) d.translators) route.Frame route.Poke
        | Some i ↦ message i bytes (device_of_requester req d.requesters)
      ]) e)

  pub no_rung_goes : rung 0 a (length bytes) d.translators ≡ None → cond (list_any (meets_frames a (length bytes)) d.translators) route.Frame route.Poke
      ≡ route_of d req a bytes
  no_rung_goes e = sym (route_goes d req a bytes
      ∙ ap (λ (o : Option ℕ). elim o [
        | None ↦ cond (list_any (meets_frames a (length bytes)) d.translators) route.Frame route.Poke
        | Some i ↦ message i bytes (device_of_requester req d.requesters)
      ]) e)

-- ---- the device of a requester

pub record Fits (req : ℕ) (r : Requesters) : Type 0 where
  pub from : r.first ≤ req
  pub device : r.dev.0 + (req - r.first) < 2 ^ 32

both : (a b : Bool) → (a && b) ≡ true → (a ≡ true) × (b ≡ true)
both true b e = (refl, e)
both false b e = absurd cc

pub found_fits : (req : ℕ) (rs : List Requesters) (r : Requesters) → AreDevices rs → find (is_among req) rs ≡ Some r → Fits req r
found_fits req [] r all e = absurd cc
found_fits req (x ∷ xs) r all e =
    elim (is_among req x) as (λ (q : Bool). is_among req x ≡ q → cond q (Some x) (find (is_among req) xs) ≡ Some r → Fits req r) [
      | true ↦ λ yes is.
          let tests = both (nat_le x.first req) (nat_le req x.last) yes in
          let from : x.first ≤ req = leb-true x.first req tests.0 in
          let to : req ≤ x.last = leb-true req x.last tests.1 in
          let low : x.dev.0 + (x.last - x.first) < 2 ^ 32 = all.0 in
          let fits : Fits req x = record { from = from; device = omega arith } in
          let same : x ≡ r = cc in
          subst (Fits req) same fits
      | false ↦ λ no is. found_fits req xs r all.1 is
    ] refl e

-- ---- the requesters of a description that makes a machine

after_ok : {A B : Type 0} (P : B → Type 0) (r : Result A DescFault) (f : A → Result B DescFault) → ((x : A) → IfOk (f x) P) → IfOk (r >>= f) P
after_ok P (Ok x) f h = h x
after_ok P (Err e) f h = tt

with_ok : {A B : Type 0} (Q : A → Type 0) (P : B → Type 0) (r : Result A DescFault) (f : A → Result B DescFault) → IfOk r Q → ((x : A) → Q x → IfOk (f x) P)
    → IfOk (r >>= f) P
with_ok Q P (Ok x) f q h = h x q
with_ok Q P (Err e) f q h = tt

if_ok_at : {A E : Type 0} (P : A → Type 0) (r : Result A E) (x : A) → IfOk r P → r ≡ Ok x → P x
if_ok_at P r x h e = subst (λ q. IfOk q P) e h

if_ok_also : {A E : Type 0} (P Q : Type 0) (r : Result A E) → P → IfOk r (λ _. Q) → IfOk r (λ _. P × Q)
if_ok_also P Q (Ok x) p q = (p, q)
if_ok_also P Q (Err e) p q = tt

always_ok : {A E : Type 0} (P : Type 0) (r : Result A E) → P → IfOk r (λ _. P)
always_ok P (Ok x) p = p
always_ok P (Err e) p = tt

second_of : (b c d : Bool) → ((b && c) && d) ≡ true → c ≡ true
second_of true true d e = refl
second_of true false d e = absurd cc
second_of false true d e = refl
second_of false false d e = absurd cc

module _ (before : List Requesters) (n : ℕ) (r : Requesters) (rs : List Requesters) (rest : IfOk (all_new (r ∷ before) (suc n) rs) (λ _. AreDevices rs)) where
  one_new : (b : Bool) → (b ≡ true → r.dev.0 + (r.last - r.first) < 2 ^ 32)
      → IfOk (cond b (all_new (r ∷ before) (suc n) rs) (Err (BadRequesters n))) (λ _. AreDevices (r ∷ rs))
  one_new true low = if_ok_also (r.dev.0 + (r.last - r.first) < 2 ^ 32) (AreDevices rs) (all_new (r ∷ before) (suc n) rs) (low refl) rest
  one_new false low = tt

new_devices : (before : List Requesters) (n : ℕ) (rs : List Requesters) → IfOk (all_new before n rs) (λ _. AreDevices rs)
new_devices before n [] = tt
new_devices before n (r ∷ rs) = one_new before n r rs (new_devices (r ∷ before) (suc n) rs) (are_new before r)
    (λ e. ltb-true (r.dev.0 + (r.last - r.first)) (2 ^ 32)
    (second_of (nat_le r.first r.last) (nat_lt (r.dev.0 + (r.last - r.first)) (2 ^ 32)) (not (list_any (meet r) before)) e))

made_devices : (d : Desc) → IfOk (made d) (λ _. AreDevices d.requesters)
unfolding made
made_devices d =
    let empty : List Window = map zeros (pairs d.windows) in
    let P : Plain → Type 0 = λ _. AreDevices d.requesters in
    after_ok P (ensure (windows_fit d) Windows) _ (λ _.
    after_ok P (tables_inside d.shape empty d.tables) _ (λ _.
    after_ok P (filled empty 0 d.fills) _ (λ memory.
    after_ok P (all_frames_fit (pairs d.windows) 0 d.translators) _ (λ _.
    with_ok (λ _. AreDevices d.requesters) P (all_new [] 0 d.requesters) _ (new_devices [] 0 d.requesters) (λ _ devices.
    after_ok P (first_redistributors d.shape memory d.tables) _ (λ _. devices))))))

pub devices : MadeHasDevices
devices d u e = if_ok_at (λ _. AreDevices d.requesters) (made d) u (made_devices d) e
