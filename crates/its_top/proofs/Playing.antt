-- A leg that was run, and its lines put together by place.
use Rattle.std.proofs.Common.{◌≡◌, ℕ, true, false, List, [], ◌∷◌, map, Option, Some, None, refl, sym, ap, subst, ◌∙◌, arith}
use Rattle.std.specs.List.Sorted.{IsPermutation, IsNonDecreasingBy}
use Rattle.its_plain.specs.Runs.{Leg}
use Rattle.its_history.specs.Histories.{MergeGives, seat_of, history_lines}
use Rattle.its_history.specs.Merged.{all_lines}
use Rattle.its_history.specs.declared.threads.ThreadList.{ThreadList}
use Rattle.its_history.specs.declared.trace.EntryLine.{EntryLine}
use Rattle.its_steps.specs.Parts.{Setup}
use Rattle.its_steps.specs.World.{View, first_view}
use Rattle.its_plain.specs.History.{after}
use Rattle.its_types.specs.declared.ids.Intid.{Intid}
use Rattle.its_migrate.specs.Resting as resting
use Rattle.its_migrate.proofs.Fresh.{first_lone}
use Rattle.its_turns.specs.Machines.{setup, view, IsOf}
use Rattle.its_turns.specs.Told.{IsLone}
use Rattle.its_turns.specs.declared.machine.Machine.{Machine}
use Rattle.its_turns.specs.declared.machine.Pass.{Pass}
use Rattle.script_threads.specs.Legs.{RanLeg}
use Rattle.script_threads.specs.Rests.{Rests}
use Rattle.script_threads.specs.declared.stop.Stop.{Stop}
use Rattle.script_threads.specs.declared.stop.Stop.TheVariants.{Spent}
use Rattle.its_top.specs.Played.{IsAtRest, IsPlayed}
use Rattle.its_history.specs.Reports.{thread_counts}

-- ---- a fresh machine

pub first_rests : (s : Setup) (v : View) → v ≡ first_view s → Rests v
first_rests s v is = subst (λ (x : View). Rests x) (sym is) (record { lone = first_lone s; held = refl })

pub first_made : (s : Setup) (v : View) → v ≡ first_view s → v.root.made ≡ 1
first_made s v is = ap (λ (x : View). x.root.made) is

pub first_seen : (s : Setup) (v : View) → v ≡ first_view s → v.seen ≡ []
first_seen s v is = ap (λ (x : View). x.seen) is

-- ---- its lines

module _ (s : Setup) (leg : Leg) (lists : List ThreadList) (w : View) (lines : List EntryLine) (gives : MergeGives)
    (same : IsPermutation (all_lines lists) lines) (rises : IsNonDecreasingBy (λ (l : EntryLine). l.place) lines) where
  lines_by_place : (stop : Option Stop) → RanLeg s leg lists stop w → lines ≡ history_lines (seat_of (thread_counts leg)) 0 w.seen
  lines_by_place stop ran =
      gives (seat_of (thread_counts leg)) 1 ran.count 0 w.seen lines ran.only (subst (λ (ls : List EntryLine). IsPermutation ls lines) ran.lines same) rises

  pub all_played : RanLeg s leg lists None w → IsPlayed s leg lines false w.seen
  all_played ran = record {
    legal = ran.legal;
    part = ran.part;
    lines_are = lines_by_place None ran;
    whole = λ e. ran.whole refl;
    fits = λ e. omega (arith, ran.fits, ran.all refl);
    full = λ e. absurd cc;
    more = λ e. absurd cc;
  }

  pub spent_played : RanLeg s leg lists (Some Spent) w → IsPlayed s leg lines true w.seen
  spent_played ran = record {
    legal = ran.legal;
    part = ran.part;
    lines_are = lines_by_place (Some Spent) ran;
    whole = λ e. absurd cc;
    fits = λ e. absurd cc;
    full = λ e. ran.spent refl;
    more = λ e. omega (arith, ran.spent refl, ran.short refl);
  }

-- ---- at rest

pub still_rests : (m : Machine) (r s : Pass) → IsAtRest m r → IsOf m s → resting.Rests (view r) (view s) → IsAtRest m s
still_rests m r s rests of same = record {
  of = of;
  lone = subst (λ (v : View). IsLone v) (sym same.same) rests.lone;
  free = ap (λ (v : View). v.held) same.same ∙ rests.free;
}

pub still_same : (m : Machine) (r s : Pass) → resting.Rests (view r) (view s) → resting.resting m s ≡ resting.resting m r
still_same m r s same = ap (λ (v : View). after (setup m).start v.seen) same.same

pub texts_of : (f : List ℕ → List ℕ) (lists : List (List Intid)) → map (λ lpis. f (map (λ i. i.0) lpis)) lists ≡ map f (map (map (λ i. i.0)) lists)
texts_of f [] = refl
texts_of f (x ∷ xs) = ap (λ (rest : List (List ℕ)). f (map (λ i. i.0) x) ∷ rest) (texts_of f xs)
