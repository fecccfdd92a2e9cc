-- How a script ends is decided by its runs.
use Rattle.std.proofs.Common.{◌≡◌, ◌⊎◌, ℕ, ◌<◌, ◌≤◌, List, [], ◌∷◌, Result, Ok, Err, refl, sym, subst, ◌∙◌, inl, inr, arith}
use Rattle.its_plain.specs.Plain.{Plain}
use Rattle.its_plain.specs.History.{after}
use Rattle.its_plain.specs.Regions.{savable}
use Rattle.its_plain.specs.Saved.{moved, IsSavable}
use Rattle.its_plain.specs.Runs.{Leg, IsLegRun, IsRun, call_count}
use Rattle.its_plain.specs.declared.call.Entry.{Entry}
use Rattle.its_plain.specs.declared.fault.SaveFault.{SaveFault}
use Rattle.its_answers.specs.Legs.{HasPlaces, HaveRun, CanMigrate, AllEnd}
use Rattle.its_answers.specs.declared.status.Status.{Status}
use Rattle.its_answers.specs.declared.status.Status.TheVariants as status
use Rattle.its_answers.proofs.Migrations.{not_empty}

pub not_savable : {X : Type 0} (u : Plain) (f : SaveFault) → savable u ≡ Err f → IsSavable u → X
not_savable u f e can =
    let clash : (let r : Result (Unit {0}) SaveFault = Err f in r) ≡ Ok tt = sym e ∙ can in absurd cc

-- what a leg that has places for its calls and others after it says of the end, in one of its runs
abbrev AfterLeg : ℕ → Plain → Leg → List Leg → List Entry → Status → Type 0
AfterLeg last first next legs h s = (¬ IsSavable (after first h) × (s ≡ status.MigrationRefused))
    ⊎ (IsSavable (after first h) × AllEnd last (moved (after first h)) (next ∷ legs) s)

after_leg : (last : ℕ) (first : Plain) (leg next : Leg) (legs : List Leg) (s : Status) (h : List Entry) → AllEnd last first (leg ∷ next ∷ legs) s
    → call_count leg ≤ last → IsLegRun first leg h → AfterLeg last first next legs h s
after_leg last first leg next legs s h all fits is = elim all [ inl short ↦ absurd (omega (arith, short.0, fits)) | inr long ↦ long.1 h is ]

goes_on : (last : ℕ) (first : Plain) (leg next : Leg) (legs : List Leg) (s : Status) (h : List Entry)
    → AllEnd last first (leg ∷ next ∷ legs) s → call_count leg ≤ last → IsLegRun first leg h → IsSavable (after first h) → AllEnd last (moved (after first h))
    (next ∷ legs) s
goes_on last first leg next legs s h all fits is can =
    elim (after_leg last first leg next legs s h all fits is) [ inl none ↦ absurd (none.0 can) | inr some ↦ some.1 ]

-- where all legs ran
pub ends_well : (last : ℕ) (first : Plain) (legs : List Leg) (hs : List (List Entry)) (s : Status) → IsRun first legs hs → HasPlaces last legs
    → AllEnd last first legs s → s ≡ status.Ok
ends_well last first [] hs s is places all = all
ends_well last first (leg ∷ []) hs s is places all = elim all [ inl short ↦ absurd (omega (arith, short.0, places.0)) | inr long ↦ long.1 ]
ends_well last first (leg ∷ next ∷ legs) hs s is places all =
    ends_well last (moved (after first is.0)) (next ∷ legs) is.1 s is.5 places.1 (goes_on last first leg next legs s is.0 all places.0 is.3 is.4)

-- where first legs ran, so do the others end
left_ends : (last : ℕ) (first : Plain) (legs : List Leg) (hs : List (List Entry)) (now : Plain) (leg : Leg) (later : List Leg) (s : Status)
    → HaveRun last first legs hs now (leg ∷ later) → AllEnd last first legs s → AllEnd last now (leg ∷ later) s
left_ends last first [] [] now leg later s r all = not_empty leg later r.1
left_ends last first [] (h ∷ hs) now leg later s r all = absurd r
left_ends last first (l ∷ legs) [] now leg later s r all =
    subst (λ (u : Plain). AllEnd last u (leg ∷ later) s) (sym r.0) (subst (λ (ls : List Leg). AllEnd last first ls s) (sym r.1) all)
left_ends last first (l ∷ []) (h ∷ []) now leg later s r all = not_empty leg later r.3.1
left_ends last first (l ∷ []) (h ∷ g ∷ hs) now leg later s r all = absurd r.3
left_ends last first (l ∷ next ∷ legs) (h ∷ hs) now leg later s r all =
    left_ends last (moved (after first h)) (next ∷ legs) hs now leg later s r.3 (goes_on last first l next legs s h all r.0 r.1 r.2)

spent_here : (last : ℕ) (now : Plain) (leg : Leg) (later : List Leg) (s : Status) → last < call_count leg → AllEnd last now (leg ∷ later) s → s ≡ status.Spent
spent_here last now leg [] s more all = elim all [ inl short ↦ short.1 | inr long ↦ absurd (omega (arith, long.0, more)) ]
spent_here last now leg (next ∷ later) s more all = elim all [ inl short ↦ short.1 | inr long ↦ absurd (omega (arith, long.0, more)) ]

-- where one had too few places
pub ends_spent : (last : ℕ) (first : Plain) (legs : List Leg) (hs : List (List Entry)) (now : Plain) (leg : Leg) (later : List Leg) (s : Status)
    → HaveRun last first legs hs now (leg ∷ later) → last < call_count leg → AllEnd last first legs s → s ≡ status.Spent
ends_spent last first legs hs now leg later s r more all = spent_here last now leg later s more (left_ends last first legs hs now leg later s r all)

-- where the state after one could not be saved
pub ends_refused : (last : ℕ) (first : Plain) (legs : List Leg) (hs : List (List Entry)) (now : Plain) (leg next : Leg) (later : List Leg) (h : List Entry)
    (f : SaveFault) (s : Status)
    → HaveRun last first legs hs now (leg ∷ next ∷ later) → call_count leg ≤ last → IsLegRun now leg h → savable (after now h) ≡ Err f
    → AllEnd last first legs s → s ≡ status.MigrationRefused
ends_refused last first legs hs now leg next later h f s r fits is refused all =
    elim (after_leg last now leg next later s h (left_ends last first legs hs now leg (next ∷ later) s r all) fits is) [
      | inl none ↦ none.1
      | inr some ↦ not_savable (after now h) f refused some.0
    ]

-- enough places, and states that can be saved
pub all_end_well : (last : ℕ) (first : Plain) (legs : List Leg) → HasPlaces last legs → CanMigrate first legs → AllEnd last first legs status.Ok
all_end_well last first [] places can = refl
all_end_well last first (leg ∷ []) places can = inr (places.0, refl)
all_end_well last first (leg ∷ next ∷ legs) places can =
    inr (places.0, λ h is. let c = can h is in inr (c.0, all_end_well last (moved (after first h)) (next ∷ legs) places.1 c.1))
