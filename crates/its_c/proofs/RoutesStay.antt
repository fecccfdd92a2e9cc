-- Where the count of ended translations stays, so do the maps.
use Rattle.std.proofs.Common.{◌≡◌, ℕ, Bool, true, ap, sym, ◌∙◌}
use Rattle.its_plain.specs.Plain.{Plain, maps_of}
use Rattle.its_numbers.specs.Routes.{counted}
use Rattle.its_numbers.proofs.RoutesStay.{same_count}
use Rattle.its_c.specs.Keeping.{Held, with_machine}
use Rattle.its_c.specs.Routes.{KeepsRoutes}

-- a call that is counted unless it left the maps
pub counts : (h now after : Held) (w : Plain) (leaves test : Bool) → now ≡ with_machine h w → after.machine ≡ now.machine
    → after.routes ≡ counted leaves now.routes → leaves ≡ test → (test ≡ true → (its : ℕ) → maps_of w its ≡ maps_of h.machine its) → KeepsRoutes h after
counts h now after w leaves test went machine routes alike stays =
    λ same its.
    let left : leaves ≡ true = same_count leaves h.routes (ap (λ (k : Held). counted leaves k.routes) (sym went) ∙ (sym routes ∙ same)) in
    ap (λ (u : Plain). maps_of u its) (machine ∙ ap (λ (k : Held). k.machine) went) ∙ stays (sym alike ∙ left) its
