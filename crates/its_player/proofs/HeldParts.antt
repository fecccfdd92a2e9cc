-- Parts that are held: out of their slots, home again, and given back.
use Rattle.std.proofs.Common.{◌≡◌, ℕ, suc, ◌<◌, Bool, true, false, not, ◌&&◌, List, [], ◌∷◌, ◌++◌, length, map, set, get_or, take, drop, Option, Some, None}
use Rattle.std.proofs.Common.{refl, ap, sym, ◌∙◌, subst, inl, inr}
use Rattle.std.specs.Prelude as std
use Rattle.std.specs.List.{position}
use Rattle.std.specs.Vec.{with_item}
use Rattle.std.proofs.lemmas.List.{map-set}
use Rattle.std.proofs.lemmas.List.Quantifiers.{position-Some}
use mathlib.Core.Option.{some}
use lib.ListN.{get_elem?}
use Rattle.its_types.specs.declared.machine.Part.{Part}
use Rattle.its_plain.specs.History.{after}
use Rattle.its_steps.specs.Contents.{Content, Mem, Held}
use Rattle.its_steps.specs.Parts.{Setup, Stands, index_of}
use Rattle.its_steps.specs.Good.{Holds, IsHeld}
use Rattle.its_player.specs.Held.{same_part, is_out, is_kept}
use Rattle.its_player.specs.Shared.{setup_of, known, view_of, slot_as, core_of, IsIndex, IsDone}
use Rattle.its_steps.specs.Steps.{IsGoodCore, TakesOut, PutsHome, Releases}
use Rattle.its_steps.specs.World.{View, kept, out}
use Rattle.its_player.specs.Contents.{content_of}
use Rattle.its_player.specs.declared.content.Content.{Content as Value}
use Rattle.its_player.specs.declared.shared.Shared.{Shared}
use Rattle.its_steps.specs.declared.standing.Standing.TheVariants.{Pass}
use Rattle.its_player.specs.declared.view.View.{View as Known}
use Rattle.its_steps.proofs.Found.{both_of}
use Rattle.its_player.proofs.HeldTests.{same_part_decides}
use Rattle.its_steps.proofs.Helds.{all_held, holds_with}
use Rattle.its_player.proofs.Positions.{any_default, none_between, around, set_around}
use Rattle.its_player.proofs.Seats.{known_here, put_view}
use Rattle.its_steps.proofs.Steps.{pass}

is_itself : (p : Part) (b : Bool) → b ≡ true → (same_part p p && b) ≡ true
is_itself p b e = let t : same_part p p ≡ true = (same_part_decides p p).1 refl in cc

not_true : (b : Bool) → not b ≡ true → b ≡ false
not_true true e = absurd cc
not_true false e = refl

pub kept_is : (p : Part) (y : Held) → is_kept p y ≡ true → y ≡ kept p y.owed
kept_is p y e =
    let t = both_of (same_part y.part p) (not y.out) e in
    let part : y.part ≡ p = (same_part_decides y.part p).0 t.0 in
    let home : y.out ≡ false = not_true y.out t.1 in
    (λ d. record { part = part d; owed = y.owed; out = home d })

pub out_is : (p : Part) (y : Held) → is_out p y ≡ true → y ≡ out p y.owed
out_is p y e =
    let t = both_of (same_part y.part p) y.out e in
    let part : y.part ≡ p = (same_part_decides y.part p).0 t.0 in
    (λ d. record { part = part d; owed = y.owed; out = t.1 d })

-- ---- one pass of a good world

module _ (w : Shared) (good : IsGoodCore (core_of w)) (at : ℕ) (v : View) (there : get_elem? (core_of w).world.views at ≡ some v) (passes : v.standing ≡ Pass)
    (p : Part) where
  pub part_stands : Holds p v.held → Stands (setup_of w) p
  part_stands h =
      let f = pass (setup_of w) w.history.items (core_of w).world good at v there passes in
      all_held (Stands (setup_of w)) (IsHeld (setup_of w) w.word (after w.start w.history.items) w.turns.items (core_of w).world.slots v.number) v.held p h
      (λ x t. t.stands) f.holds.held

  among : (y : Held) (before behind : List Held) → y.part ≡ p → v.held ≡ before ++ y ∷ behind → Holds p v.held
  among y before behind e is = subst (Holds p) (sym is) (holds_with p before y behind (inl e))

  pub no_part_out : ¬ Stands (setup_of w) p → IsDone (TakesOut (core_of w) at v p) (core_of w) (core_of w)
  no_part_out missing = inr ((λ d t. missing (part_stands (among (kept p t.content) t.before t.behind refl t.held))), refl)

  pub no_part_home : ¬ Stands (setup_of w) p → IsDone (PutsHome (core_of w) at v p) (core_of w) (core_of w)
  no_part_home missing = inr ((λ d t. missing (part_stands (among (out p t.content) t.before t.behind refl t.held))), refl)

  pub no_part_released : ¬ Stands (setup_of w) p → IsDone (Releases (core_of w) at v p) (core_of w) (core_of w)
  no_part_released missing = inr ((λ d t. missing (part_stands (among (kept p t.content) t.before t.behind refl t.held))), refl)

-- ---- a part found among those held, or not

module _ (w : Shared) (at : ℕ) (x : Known) (v : View) (p : Part) (lt : at < length w.views.items) (is : x ≡ get_or w.views.items at x)
    (there : get_elem? (core_of w).world.views at ≡ some v) (passes : v.standing ≡ Pass) where
  abbrev s : Setup
  s = setup_of w

  pub held_here : v.held ≡ x.held.items
  held_here = ap (λ (u : View). u.held) (known_here s w.views.items at x v lt is there passes)

  none_kept : (content : Content) (before behind : List Held) → position (is_kept p) x.held.items ≡ None → v.held ≡ before ++ kept p content ∷ behind → ⊥
  none_kept content before behind e h = none_between (is_kept p) x.held.items before (kept p content) behind e (sym held_here ∙ h) (is_itself p true refl)

  none_out : (content : Content) (before behind : List Held) → position (is_out p) x.held.items ≡ None → v.held ≡ before ++ out p content ∷ behind → ⊥
  none_out content before behind e h = none_between (is_out p) x.held.items before (out p content) behind e (sym held_here ∙ h) (is_itself p true refl)

  pub nothing_out : position (is_kept p) x.held.items ≡ None → IsDone (TakesOut (core_of w) at v p) (core_of w) (core_of w)
  nothing_out e = inr ((λ d t. none_kept t.content t.before t.behind e t.held), refl)

  pub nothing_home : position (is_out p) x.held.items ≡ None → IsDone (PutsHome (core_of w) at v p) (core_of w) (core_of w)
  nothing_home e = inr ((λ d t. none_out t.content t.before t.behind e t.held), refl)

  pub nothing_released : position (is_kept p) x.held.items ≡ None → IsDone (Releases (core_of w) at v p) (core_of w) (core_of w)
  nothing_released e = inr ((λ d t. none_kept t.content t.before t.behind e t.held), refl)

  slots_put : (i : ℕ) (new : std.Option Value) → IsIndex w p i → map slot_as (set w.slots.items i new) ≡ set (map slot_as w.slots.items) (index_of s p)
      (slot_as new)
  slots_put i new k = map-set slot_as w.slots.items i new ∙ ap (λ (j : ℕ). set (map slot_as w.slots.items) j (slot_as new)) k.is

  -- the parts held are others
  views_put : (x' : Known) (held : List Held) → known s x' ≡ record (known s x) { held = held } → map (view_of s) (set w.views.items at x') ≡ set
      (map (view_of s) w.views.items) at (record v { held = held })
  views_put x' held e = put_view s w.views.items at x x' v (λ u. record u { held = held }) lt is there passes e (λ u. refl)

  pub takes_out : (i k : ℕ) (y : Held) (x' : Known) → IsIndex w p i → position (is_kept p) x.held.items ≡ Some k → y ≡ get_or x.held.items k y
      → known s x' ≡ record (known s x) { held = set x.held.items k (record y { out = true }) }
      → IsDone (TakesOut (core_of w) at v p) (core_of w) (core_of (record w { slots = with_item w.slots i None; views = with_item w.views at x' }))
  takes_out i k y x' index found yis e =
      let f = position-Some (is_kept p) x.held.items k y found in
      let same : y ≡ kept p y.owed = kept_is p y (ap (is_kept p) yis ∙ f.1) in
      let new : set x.held.items k (record y { out = true }) ≡ take k x.held.items ++ out p y.owed ∷ drop (suc k) x.held.items =
      ap (λ (z : Held). set x.held.items k (record z { out = true })) same ∙ set_around x.held.items k (out p y.owed) f.0 in
      let views = views_put x' (take k x.held.items ++ out p y.owed ∷ drop (suc k) x.held.items)
      (e ∙ ap (λ (l : List Held). record (known s x) { held = l }) new) in
      let slots = slots_put i None index in
      inl record {
        content = y.owed;
        before = take k x.held.items;
        behind = drop (suc k) x.held.items;
        held = held_here ∙ (around x.held.items k y f.0 yis ∙ ap (λ (z : Held). take k x.held.items ++ z ∷ drop (suc k) x.held.items) same);
        leaves = λ d. record (core_of w) { world = record (core_of w).world { slots = slots d; views = views d } };
      }

  pub puts_home : (i k : ℕ) (y : Held) (content : Value) (x' : Known) → IsIndex w p i → position (is_out p) x.held.items ≡ Some k → y ≡ get_or x.held.items k y
      → content_of content ≡ y.owed
      → known s x' ≡ record (known s x) { held = set x.held.items k (record y { out = false }) } → IsDone (PutsHome (core_of w) at v p) (core_of w)
      (core_of (record w { slots = with_item w.slots i (Some content); views = with_item w.views at x' }))
  puts_home i k y content x' index found yis owed e =
      let f = position-Some (is_out p) x.held.items k y found in
      let same : y ≡ out p y.owed = out_is p y (ap (is_out p) yis ∙ f.1) in
      let new : set x.held.items k (record y { out = false }) ≡ take k x.held.items ++ kept p y.owed ∷ drop (suc k) x.held.items =
      ap (λ (z : Held). set x.held.items k (record z { out = false })) same ∙ set_around x.held.items k (kept p y.owed) f.0 in
      let views = views_put x' (take k x.held.items ++ kept p y.owed ∷ drop (suc k) x.held.items)
      (e ∙ ap (λ (l : List Held). record (known s x) { held = l }) new) in
      let slots = slots_put i (Some content) index ∙ ap (λ (z : Content). set (map slot_as w.slots.items) (index_of s p) (some z)) owed in
      inl record {
        content = y.owed;
        before = take k x.held.items;
        behind = drop (suc k) x.held.items;
        held = held_here ∙ (around x.held.items k y f.0 yis ∙ ap (λ (z : Held). take k x.held.items ++ z ∷ drop (suc k) x.held.items) same);
        leaves = λ d. record (core_of w) { world = record (core_of w).world { slots = slots d; views = views d } };
      }

  pub releases : (i k : ℕ) (x' : Known) → IsIndex w p i → position (is_kept p) x.held.items ≡ Some k
      → known s x' ≡ record (known s x) { held = take k x.held.items ++ drop (suc k) x.held.items }
      → IsDone (Releases (core_of w) at v p) (core_of w) (core_of (record w { turns = with_item w.turns i 0; views = with_item w.views at x' }))
  releases i k x' index found e =
      let y : Held = get_or x.held.items k (kept p (Mem [] None)) in
      let f = position-Some (is_kept p) x.held.items k (kept p (Mem [] None)) found in
      let same : y ≡ kept p y.owed = kept_is p y f.1 in
      let views = views_put x' (take k x.held.items ++ drop (suc k) x.held.items) e in
      inl record {
        content = y.owed;
        before = take k x.held.items;
        behind = drop (suc k) x.held.items;
        held = held_here ∙ (around x.held.items k y f.0 (any_default x.held.items k (kept p (Mem [] None)) (get_or x.held.items k (kept p (Mem [] None))) f.0)
            ∙ ap (λ (z : Held). take k x.held.items ++ z ∷ drop (suc k) x.held.items) same);
        leaves = λ d. record (core_of w) { world = record (core_of w).world { turns = set w.turns.items (index.is d) 0; views = views d } };
      }
