-- Turns and slots at the index of a part, and tries of a turn.
use Rattle.std.proofs.Common.{◌≡◌, ℕ, suc, ◌<◌, true, false, length, map, set, get_or, refl, ap, sym, ◌∙◌, subst, inl, inr, ⊎_elim, arith}
use Rattle.std.specs.Prelude as std
use Rattle.std.specs.Vec.{with_item}
use Rattle.std.proofs.lemmas.List.{length-map}
use mathlib.Core.Option.{none, some, some-injective, some-ne-none}
use lib.ListN.{get_elem?}
use Rattle.atomic_table.proofs.Lists.{at_index, at_map}
use Rattle.its_types.specs.declared.machine.Part.{Part}
use Rattle.its_steps.specs.Parts.{Setup, Stands, index_of, part_count}
use Rattle.its_steps.specs.Good.{Holds, turn_of}
use Rattle.its_player.specs.Held.{holds}
use Rattle.its_player.specs.Shared.{setup_of, known, view_of, slot_as, core_of, IsIndex, IsWide, IsDone}
use Rattle.its_steps.specs.Steps.{Core, Gets, Misses, Tries, set_view}
use Rattle.its_steps.specs.World.{View, got, missed}
use Rattle.its_player.specs.Contents.{content_of}
use Rattle.its_player.specs.declared.content.Content.{Content as Value}
use Rattle.its_player.specs.declared.shared.Shared.{Shared}
use Rattle.its_steps.specs.declared.standing.Standing.TheVariants.{Pass}
use Rattle.its_player.specs.declared.view.View.{View as Known}
use Rattle.its_player.proofs.HeldTests.{holds_decides}
use Rattle.its_steps.proofs.Indexes.{index_below}
use Rattle.its_player.proofs.Seats.{known_here, put_view}

pub is_index : (w : Shared) (p : Part) (i : ℕ) → IsWide w → Stands (setup_of w) p → i ≡ index_of (setup_of w) p → IsIndex w p i
is_index w p i wide st e =
    let below : index_of (setup_of w) p < part_count (setup_of w) = index_below (setup_of w) p st in
    record {
      stands = st;
      is = e;
      turn = omega (arith, below, wide.each_turn, e);
      slot = omega (arith, below, wide.each_slot, length-map w.slots.items slot_as, e);
    }

-- what stands in the slot of a part
pub slot_is : (w : Shared) (p : Part) (i : ℕ) (x : std.Option Value) → IsIndex w p i → x ≡ get_or w.slots.items i x → get_elem? (core_of w).world.slots
    (index_of (setup_of w) p) ≡ some (slot_as x)
slot_is w p i x k is = ap (get_elem? (core_of w).world.slots) (sym k.is) ∙ at_map slot_as w.slots.items i x (at_index w.slots.items i x k.slot is)

-- ---- turns got

pub gets_none : (w : Shared) (at : ℕ) (v : View) (p : Part) (i : ℕ) (x : std.Option Value) → IsIndex w p i → x ≡ get_or w.slots.items i x → x ≡ std.None
    → IsDone (Gets (core_of w) at v p) (core_of w) (core_of w)
gets_none w at v p i x k is none_is =
    inr (
      (λ d g. some-ne-none g.content
          (sym (some-injective none (some g.content) (sym (slot_is w p i x k is ∙ ap (λ (y : std.Option Value). some (slot_as y)) none_is) ∙ g.slot)))),
      refl,
    )

pub gets_some : (w : Shared) (at : ℕ) (x x' : Known) (v : View) (p : Part) (i : ℕ) (y : std.Option Value) (content owed : Value) (turn : ℕ) → IsIndex w p i
    → turn_of (setup_of w) w.turns.items p ≡ 0 → y ≡ get_or w.slots.items i y → y ≡ std.Some content → owed ≡ content
    → at < length w.views.items → x ≡ get_or w.views.items at x → get_elem? (core_of w).world.views at ≡ some v → v.standing ≡ Pass → turn ≡ suc x.number
    → known (setup_of w) x' ≡ got (known (setup_of w) x) p (content_of owed)
    → Gets (core_of w) at v p (core_of (record w { turns = with_item w.turns i turn; views = with_item w.views at x' }))
gets_some w at x x' v p i y content owed turn k free yis some_is same lt is there passes t new =
    let s : Setup = setup_of w in
    let number : turn ≡ suc v.number = t ∙ ap (λ (u : View). suc u.number) (sym (known_here s w.views.items at x v lt is there passes)) in
    let turns : set w.turns.items i turn ≡ set w.turns.items (index_of s p) (suc v.number) = (λ d. set w.turns.items (k.is d) (number d)) in
    let views : map (view_of s) (set w.views.items at x') ≡ set (map (view_of s) w.views.items) at (got v p (content_of owed)) =
    put_view s w.views.items at x x' v (λ u. got u p (content_of owed)) lt is there passes new (λ u. refl) in
    record {
      free = free;
      content = content_of owed;
      slot = slot_is w p i y k yis ∙ (ap (λ (z : std.Option Value). some (slot_as z)) some_is ∙ ap (λ (z : Value). some (some (content_of z))) (sym same));
      leaves = λ d. record (core_of w) { world = record (core_of w).world { turns = turns d; views = views d } };
    }

-- ---- tries

pub no_part : (w : Shared) (at : ℕ) (v : View) (p : Part) → ¬ Stands (setup_of w) p → IsDone (Tries (core_of w) at v p) (core_of w) (core_of w)
no_part w at v p missing = inr ((λ d t. missing t.stands), refl)

pub holds_already : (w : Shared) (at : ℕ) (x : Known) (v : View) (p : Part) → at < length w.views.items → x ≡ get_or w.views.items at x
    → get_elem? (core_of w).world.views at ≡ some v → v.standing ≡ Pass → holds p x.held.items ≡ true
    → IsDone (Tries (core_of w) at v p) (core_of w) (core_of w)
holds_already w at x v p lt is there passes sure =
    let same : v.held ≡ x.held.items = ap (λ (u : View). u.held) (known_here (setup_of w) w.views.items at x v lt is there passes) in
    inr ((λ d t. t.lacks (subst (Holds p) (sym same) ((holds_decides p x.held.items).0 sure))), refl)

lacks_here : (w : Shared) (at : ℕ) (x : Known) (v : View) (p : Part) → at < length w.views.items → x ≡ get_or w.views.items at x
    → get_elem? (core_of w).world.views at ≡ some v → v.standing ≡ Pass → holds p x.held.items ≡ false → ¬ Holds p v.held
lacks_here w at x v p lt is there passes lacking h =
    let same : v.held ≡ x.held.items = ap (λ (u : View). u.held) (known_here (setup_of w) w.views.items at x v lt is there passes) in
    let sure : holds p x.held.items ≡ true = (holds_decides p x.held.items).1 (subst (Holds p) same h) in
    absurd (let two : true ≡ false = sym sure ∙ lacking in cc)

pub tries_missed : (w : Shared) (at : ℕ) (x : Known) (v : View) (p : Part) (i found : ℕ) (after : Core) → IsIndex w p i → at < length w.views.items
    → x ≡ get_or w.views.items at x → get_elem? (core_of w).world.views at ≡ some v → v.standing ≡ Pass
    → holds p x.held.items ≡ false → get_or w.turns.items i 0 ≡ suc found → after ≡ set_view (core_of w) at (missed v p found)
    → IsDone (Tries (core_of w) at v p) (core_of w) after
tries_missed w at x v p i found after k lt is there passes lacking turn leaves = inl record {
  stands = k.stands;
  lacks = lacks_here w at x v p lt is there passes lacking;
  does = inr record { found = found; taken = ap (λ (j : ℕ). get_or w.turns.items j 0) (sym k.is) ∙ turn; leaves = leaves };
}

pub tries_got : (w : Shared) (at : ℕ) (x : Known) (v : View) (p : Part) (i : ℕ) (after : Core) → IsIndex w p i → at < length w.views.items
    → x ≡ get_or w.views.items at x → get_elem? (core_of w).world.views at ≡ some v → v.standing ≡ Pass
    → holds p x.held.items ≡ false → get_or w.turns.items i 0 ≡ 0 → IsDone (Gets (core_of w) at v p) (core_of w) after → IsDone (Tries (core_of w) at v p)
    (core_of w) after
tries_got w at x v p i after k lt is there passes lacking turn done =
    let free : turn_of (setup_of w) w.turns.items p ≡ 0 = ap (λ (j : ℕ). get_or w.turns.items j 0) (sym k.is) ∙ turn in
    ⊎_elim
    (λ (g : Gets (core_of w) at v p after). inl record { stands = k.stands; lacks = lacks_here w at x v p lt is there passes lacking; does = inl g })
    (λ (n : ((d : Core) → ¬ Gets (core_of w) at v p d) × (after ≡ core_of w)).
    inr (
      (λ d t. ⊎_elim (λ (g : Gets (core_of w) at v p d). n.0 d g) (λ (m : Misses (core_of w) at v p d). absurd (omega (arith, m.taken, free))) t.does),
      n.1,
    ))
    done
