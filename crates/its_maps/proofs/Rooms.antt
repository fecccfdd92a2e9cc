-- What there is room for.
use Rattle.std.proofs.Common.{◌≡◌, ℕ, ◌≤◌, Bool, true, false, cond, ◌&&◌, Some, None, Option, Result, Ok, Err, OnOk, OnErr, refl, sym, ap, ◌∙◌, subst}
use Rattle.std.proofs.Common.{unwrap_or, arith}
use Rattle.std.specs.Option.{option_map}
use Rattle.std.specs.Ordering.{nat_cmp, eq_by_cmp}
use Rattle.std.specs.Cmp.{nat_cmp_total, unsigned_tied}
use Rattle.std.specs.FinMap as finmap
use Rattle.std.specs.FinMap.{FinMap, get-insert}
use Rattle.std.proofs.lemmas.Bool.{eq-eqb}
use Rattle.its_maps.specs.declared.device_record.DeviceRecord.{DeviceRecord}
use Rattle.its_maps.specs.View.{room_of, event_room_in}
use Rattle.its_maps.proofs.Values.{get-values_by, values_by-insert, insert_same}

-- there is room just where there are a page and a place
pub has_room : (reserve : Bool) (spare : ℕ) → 1 ≤ room_of reserve spare → (reserve ≡ true) × (1 ≤ spare)
has_room true spare h = (refl, omega (arith, h))
has_room false spare h = absurd (omega (arith, h))

-- the reserve is of two parts
pub first_there : (a b : Bool) (spare : ℕ) → 1 ≤ room_of (a && b) spare → a ≡ true
first_there true b spare h = refl
first_there false b spare h = absurd (omega (arith, h))

pub second_there : (a b : Bool) (spare : ℕ) → 1 ≤ room_of (a && b) spare → b ≡ true
second_there true b spare h = (has_room b spare h).0
second_there false b spare h = absurd (omega (arith, h))

pub gives_room : (spare : ℕ) → 1 ≤ spare → 1 ≤ room_of true spare
gives_room spare h = omega arith

at_most_one : (reserve : Bool) (spare : ℕ) → room_of reserve spare ≤ 1
at_most_one true spare = omega arith
at_most_one false spare = omega arith

page_helps : (reserve : Bool) (spare : ℕ) → room_of reserve spare ≤ room_of true spare
page_helps true spare = omega arith
page_helps false spare = omega arith

pub no_less : (a b : FinMap nat_cmp ℕ) → a ≡ b → (d : ℕ) → unwrap_or (finmap.get a d) 0 ≤ unwrap_or (finmap.get b d) 0
no_less a b is d = subst (λ e. unwrap_or (finmap.get a d) 0 ≤ unwrap_or (finmap.get e d) 0) is (omega arith)

pub whatever_err : {A E P : Type 0} (result : Result A E) → P → OnErr result P
whatever_err (Ok _) p = tt
whatever_err (Err _) p = p

pub not_filled : {A E P Q R : Type 0} (result : Result A E) → (P → Q → R) → OnErr result P → OnErr result Q → OnErr result R
not_filled (Ok _) f p q = tt
not_filled (Err _) f p q = f p q

module _ (m : FinMap nat_cmp DeviceRecord) (dev : ℕ) where
  pub room_here : (reserve : Bool) (old : DeviceRecord) → Some old ≡ finmap.get m dev → unwrap_or (finmap.get (event_room_in reserve m) dev) 0
      ≡ room_of reserve old.events.spare
  room_here reserve old here = ap (λ o. unwrap_or o 0) (get-values_by (λ d. room_of reserve d.events.spare) m dev
      ∙ ap (option_map (λ d. room_of reserve d.events.spare)) (sym here))

  -- with another record of the device
  get_with : (reserve : Bool) (r : DeviceRecord) (q : ℕ) → finmap.get (event_room_in reserve (finmap.insert m dev r)) q ≡ cond (eq_by_cmp nat_cmp q dev)
      (Some (room_of reserve r.events.spare)) (option_map (λ d. room_of reserve d.events.spare) (finmap.get m q))
  get_with reserve r q =
      get-values_by (λ d. room_of reserve d.events.spare) (finmap.insert m dev r) q
      ∙ ap (option_map (λ d. room_of reserve d.events.spare)) (get-insert nat_cmp_total m dev r q)
      ∙ mapped (eq_by_cmp nat_cmp q dev) (finmap.get m q)
    where
      mapped : (t : Bool) (o : Option DeviceRecord) → option_map (λ d. room_of reserve d.events.spare) (cond t (Some r) o) ≡ cond t
          (Some (room_of reserve r.events.spare)) (option_map (λ d. room_of reserve d.events.spare) o)
      mapped true o = refl
      mapped false o = refl

  pub room_at : (reserve : Bool) (r : DeviceRecord) → unwrap_or (finmap.get (event_room_in reserve (finmap.insert m dev r)) dev) 0
      ≡ room_of reserve r.events.spare
  room_at reserve r =
      ap (λ o. unwrap_or o 0) (get_with reserve r dev)
      ∙ ap (λ t. unwrap_or (cond t (Some (room_of reserve r.events.spare)) (option_map (λ d. room_of reserve d.events.spare) (finmap.get m dev))) 0)
      (unsigned_tied dev dev ∙ eq-eqb dev dev refl)

  pub room_left : (reserve : Bool) (old r : DeviceRecord) → Some old ≡ finmap.get m dev → room_of reserve r.events.spare ≡ room_of reserve old.events.spare
      → event_room_in reserve (finmap.insert m dev r) ≡ event_room_in reserve m
  room_left reserve old r here same =
      values_by-insert (λ d. room_of reserve d.events.spare) m dev r
      ∙ ap (finmap.insert (event_room_in reserve m) dev) same
      ∙ insert_same (event_room_in reserve m) dev (room_of reserve old.events.spare)
      (sym (get-values_by (λ d. room_of reserve d.events.spare) m dev ∙ ap (option_map (λ d. room_of reserve d.events.spare)) (sym here)))

  -- once there is a page, and a place for the device's next event, no device has less room
  pub room_grows : (reserve : Bool) (r : DeviceRecord) → 1 ≤ r.events.spare → (q : ℕ) → unwrap_or (finmap.get (event_room_in reserve m) q) 0 ≤ unwrap_or
      (finmap.get (event_room_in true (finmap.insert m dev r)) q) 0
  room_grows reserve r some q =
      subst (λ o. unwrap_or o 0 ≤ unwrap_or (finmap.get (event_room_in true (finmap.insert m dev r)) q) 0)
      (sym (get-values_by (λ d. room_of reserve d.events.spare) m q))
      (subst (λ o. unwrap_or (option_map (λ d. room_of reserve d.events.spare) (finmap.get m q)) 0 ≤ unwrap_or o 0) (sym (get_with true r q))
      (at (eq_by_cmp nat_cmp q dev) (finmap.get m q)))
    where
      at : (t : Bool) (o : Option DeviceRecord) → unwrap_or (option_map (λ d. room_of reserve d.events.spare) o) 0 ≤ unwrap_or
          (cond t (Some (room_of true r.events.spare)) (option_map (λ d. room_of true d.events.spare) o)) 0
      at true None = omega arith
      at true (Some d) = omega (arith, at_most_one reserve d.events.spare, gives_room r.events.spare some)
      at false None = omega arith
      at false (Some d) = page_helps reserve d.events.spare

  -- a page was asked for
  module _ (old r : DeviceRecord) (here : Some old ≡ finmap.get m dev) (some : 1 ≤ r.events.spare) (before after : Bool) where
    pub unfilled_left : after ≡ before → before ≡ false → event_room_in after (finmap.insert m dev r) ≡ event_room_in before m
    unfilled_left err lacking =
        ap (λ p. event_room_in p (finmap.insert m dev r)) (err ∙ lacking) ∙ room_left false old r here refl ∙ ap (λ p. event_room_in p m) (sym lacking)

    pub filled_grows : {A E : Type 0} (result : Result A E) → OnOk result (after ≡ true) → OnErr result (after ≡ before) → OnErr result (before ≡ false)
        → (q : ℕ) → unwrap_or (finmap.get (event_room_in before m) q) 0 ≤ unwrap_or (finmap.get (event_room_in after (finmap.insert m dev r)) q) 0
    filled_grows (Ok _) ok err lacking q = subst (λ p. unwrap_or (finmap.get (event_room_in before m) q) 0 ≤ unwrap_or
        (finmap.get (event_room_in p (finmap.insert m dev r)) q) 0) (sym ok) (room_grows before r some q)
    filled_grows (Err _) ok err lacking q = no_less _ _ (sym (unfilled_left err lacking)) q
