-- The events of one device, among those of all.
use Rattle.std.proofs.Common.{◌≡◌, ℕ, ◌+◌, ◌<◌, true, false, cond, nat_lt, ◌&&◌, List, [], ◌∷◌, map, filter, Some, refl, sym, subst, ap, ◌∙◌, eq-eqb, arith}
use Rattle.std.specs.Prelude.{◌==◌, find}
use Rattle.std.specs.Option.{option_map}
use Rattle.std.specs.Ordering.{nat_cmp, ordering_then, is_lt, eq_by_cmp}
use Rattle.std.specs.Cmp.{nat_cmp_total, unsigned_tied, tied_itself}
use Rattle.std.specs.FinMap as finmap
use Rattle.std.specs.FinMap.Entries.{below_all}
use Rattle.std.proofs.lemmas.Bool.{eqb-true, eqb-false, ne_eqb}
use lib.Dec.{T}
use Rattle.its_types.specs.Maps.{Maps, pair_cmp}
use Rattle.its_types.specs.declared.translation.Event.{Event}
use Rattle.its_types.specs.Maps.{events_at}
use Rattle.its_types.proofs.Rising.{first, second, below}
use Rattle.its_types.proofs.PairOrder.{pair_tied}
use Rattle.standing_states.specs.Rises.{RisesFrom, key_after}

abbrev pub Entries : Type 0
Entries = List ((ℕ × ℕ) × Event)

abbrev pub of_device : ℕ → Entries → List (ℕ × Event)
of_device dev es = map (λ e. (e.0.1, e.1)) (filter (λ e. e.0.0 == dev) es)

-- ---- they rise

later : (dev ev : ℕ) (k : ℕ × ℕ) → k.0 ≡ dev → T (is_lt (pair_cmp (dev, ev) k)) → ev < k.1
later dev ev k same t =
    below ev k.1 (subst (λ o. T (is_lt (ordering_then o (nat_cmp ev k.1)))) (ap (nat_cmp dev) same ∙ tied_itself nat_cmp_total dev) t)

rises_above : (dev ev : ℕ) (es : Entries) → T (below_all pair_cmp (dev, ev) es) → T (finmap.is_sorted pair_cmp es) → RisesFrom (ev + 1) (of_device dev es)
rises_above dev ev [] low sorted = tt
rises_above dev ev (e ∷ es) low sorted =
    elim (e.0.0 == dev) as (λ b. (e.0.0 == dev) ≡ b
    → RisesFrom (ev + 1) (map (λ e. (e.0.1, e.1)) (cond b (e ∷ filter (λ e. e.0.0 == dev) es) (filter (λ e. e.0.0 == dev) es)))) [
      | true ↦ λ is.
          let same : e.0.0 ≡ dev = eqb-true e.0.0 dev is in
          let lt = later dev ev e.0 same (first _ _ low) in
          let next : T (below_all pair_cmp (dev, e.0.1) es) = subst (λ (n : ℕ). T (below_all pair_cmp (n, e.0.1) es)) same (first _ _ sorted) in
          (omega arith, rises_above dev e.0.1 es next (second _ _ sorted))
      | false ↦ λ is. rises_above dev ev es (second _ _ low) (second _ _ sorted)
    ] refl

rises : (dev : ℕ) (es : Entries) → T (finmap.is_sorted pair_cmp es) → RisesFrom 0 (of_device dev es)
rises dev [] sorted = tt
rises dev (e ∷ es) sorted =
    elim (e.0.0 == dev) as (λ b. (e.0.0 == dev) ≡ b
    → RisesFrom 0 (map (λ e. (e.0.1, e.1)) (cond b (e ∷ filter (λ e. e.0.0 == dev) es) (filter (λ e. e.0.0 == dev) es)))) [
      | true ↦ λ is.
          let same : e.0.0 ≡ dev = eqb-true e.0.0 dev is in
          let next : T (below_all pair_cmp (dev, e.0.1) es) = subst (λ (n : ℕ). T (below_all pair_cmp (n, e.0.1) es)) same (first _ _ sorted) in
          (omega arith, rises_above dev e.0.1 es next (second _ _ sorted))
      | false ↦ λ is. rises dev es (second _ _ sorted)
    ] refl

pub events_rise : (m : Maps) (dev : ℕ) → RisesFrom 0 (events_at m dev)
events_rise m dev = rises dev (finmap.entries m.events) (finmap.entries_sorted m.events)

-- ---- what is found among them

pub find_of_device : (dev ev : ℕ) (es : Entries) → finmap.find nat_cmp ev (of_device dev es) ≡ finmap.find pair_cmp (dev, ev) es
find_of_device dev ev [] = refl
find_of_device dev ev (e ∷ es) =
    elim (e.0.0 == dev) as (λ b. (e.0.0 == dev) ≡ b
    → finmap.find nat_cmp ev (map (λ e. (e.0.1, e.1)) (cond b (e ∷ filter (λ e. e.0.0 == dev) es) (filter (λ e. e.0.0 == dev) es))) ≡ finmap.find pair_cmp
    (dev, ev) (e ∷ es)) [
      | true ↦ λ is.
          let same : (dev == e.0.0) ≡ true = eq-eqb dev e.0.0 (sym (eqb-true e.0.0 dev is)) in
          let key : eq_by_cmp pair_cmp (dev, ev) e.0 ≡ (ev == e.0.1) = pair_tied (dev, ev) e.0 ∙ ap (λ t. t && (ev == e.0.1)) same in
          ap (λ t. cond t (Some e.1) (finmap.find nat_cmp ev (of_device dev es))) (unsigned_tied ev e.0.1)
          ∙ ap (λ o. cond (ev == e.0.1) (Some e.1) o) (find_of_device dev ev es)
          ∙ ap (λ t. cond t (Some e.1) (finmap.find pair_cmp (dev, ev) es)) (sym key)
      | false ↦ λ is.
          let other : (dev == e.0.0) ≡ false = ne_eqb dev e.0.0 (λ same. eqb-false e.0.0 dev is (sym same)) in
          let key : eq_by_cmp pair_cmp (dev, ev) e.0 ≡ false = pair_tied (dev, ev) e.0 ∙ ap (λ t. t && (ev == e.0.1)) other in
          find_of_device dev ev es ∙ ap (λ t. cond t (Some e.1) (finmap.find pair_cmp (dev, ev) es)) (sym key)
    ] refl

pub after_of_device : (dev ev : ℕ) (es : Entries) → key_after ev (of_device dev es) ≡ option_map (λ k. k.1)
    (find (λ k. k.0 == dev && nat_lt ev k.1) (map (λ e. e.0) es))
after_of_device dev ev [] = refl
after_of_device dev ev (e ∷ es) =
    let rest = find (λ k. k.0 == dev && nat_lt ev k.1) (map (λ e. e.0) es) in
    elim (e.0.0 == dev) as (λ b. key_after ev (map (λ e. (e.0.1, e.1)) (cond b (e ∷ filter (λ e. e.0.0 == dev) es) (filter (λ e. e.0.0 == dev) es)))
    ≡ option_map (λ k. k.1) (cond (b && nat_lt ev e.0.1) (Some e.0) rest)) [
      | true ↦ elim (nat_lt ev e.0.1) as (λ c. cond c (Some e.0.1) (key_after ev (of_device dev es)) ≡ option_map (λ k. k.1) (cond c (Some e.0) rest)) [
        | true ↦
            refl
        | false ↦ after_of_device dev ev es
      ]
      | false ↦ after_of_device dev ev es
    ]
