-- Passes split off, and notes made.
use Rattle.std.proofs.Common.{◌≡◌, ℕ, ◌<◌, ◌^◌, List, [], ◌∷◌, ◌++◌, length, map, set, get_or, refl, ap, sym, ◌∙◌, subst, inr}
use Rattle.std.proofs.lemmas.List.{map-append, length-map}
use mathlib.Core.Option.{some}
use lib.ListN.{get_elem?}
use Rattle.its_plain.specs.declared.call.Entry.{Entry}
use Rattle.its_steps.specs.Parts.{Setup}
use Rattle.its_player.specs.Shared.{setup_of, known, view_of, core_of, IsDone}
use Rattle.its_steps.specs.Steps.{Splits, notes}
use Rattle.its_steps.specs.World.{View, fresh, first_word, loaded, has_split, split_off, note_of}
use Rattle.its_player.specs.declared.shared.Shared.{Shared}
use Rattle.its_steps.specs.declared.standing.Standing.TheVariants.{Pass, Note}
use Rattle.its_player.specs.declared.view.View.{View as Known}
use Rattle.its_player.proofs.Seats.{pass_view, note_view, known_here, put_view}

module _ (w : Shared) (at : ℕ) (x : Known) (v : View) (lt : at < length w.views.items) (is : x ≡ get_or w.views.items at x)
    (there : get_elem? (core_of w).world.views at ≡ some v) (passes : v.standing ≡ Pass) where
  abbrev s : Setup
  s = setup_of w

  v_is : v ≡ known s x
  v_is = known_here s w.views.items at x v lt is there passes

  pub no_split : (x.number ≡ 0 → ¬ (x.root.made < 2 ^ 32)) → IsDone (Splits (core_of w) at v) (core_of w) (core_of w)
  no_split refused = inr ((λ d t. refused (sym (ap (λ (u : View). u.number) v_is) ∙ t.root) (subst (λ (u : View). u.root.made < 2 ^ 32) v_is t.room)), refl)

  pub has_split_off : (x' y : Known) → x.number ≡ 0 → x.root.made < 2 ^ 32 → known s x' ≡ has_split (loaded (known s x) w.word w.history.items)
      → known s y ≡ fresh s x.root.made 0 w.history.items w.word
      → (views : List Known) → views ≡ set w.views.items at x' ++ y ∷ []
      → Splits (core_of w) at v (record (core_of w) { world = record (core_of w).world { views = map (view_of s) views } })
  has_split_off x' y root room new first views made =
      let p : y.standing ≡ Pass = ap (λ (u : View). u.standing) first in
      let e : map (view_of s) views ≡ set (map (view_of s) w.views.items) at (has_split (loaded v w.word w.history.items))
      ++ split_off (loaded v w.word w.history.items) ∷ [] =
      ap (map (view_of s)) made ∙ (map-append (view_of s) (set w.views.items at x') (y ∷ [])
      ∙ (λ d. put_view s w.views.items at x x' v (λ u. has_split (loaded u w.word w.history.items)) lt is there passes new (λ u. refl) d
      ++ (pass_view s y p ∙ (first ∙ ap (λ (u : View). split_off (loaded u w.word w.history.items)) (sym v_is))) d ∷ [])) in
      record {
        root = ap (λ (u : View). u.number) v_is ∙ root;
        room = subst (λ (u : View). u.root.made < 2 ^ 32) (sym v_is) room;
        leaves = λ d. record (core_of w) { world = record (core_of w).world { views = e d } };
      }

  pub notes_it : (y : Known) (seen : List Entry) → y.standing ≡ Note → known s y ≡ record (fresh s 0 0 seen first_word) { standing = Note }
      → seen ≡ x.seen.items → (views : List Known) (list : List ℕ) → views ≡ w.views.items ++ y ∷ [] → list ≡ w.notes.items ++ length w.views.items ∷ []
      → record (core_of w) { world = record (core_of w).world { views = map (view_of s) views }; notes = list } ≡ notes (core_of w) v
  notes_it y seen standing note same views list made listed =
      let n : view_of s y ≡ note_of v = note_view s y standing
      ∙ (note ∙ (ap (λ (l : List Entry). record (fresh s 0 0 l first_word) { standing = Note }) same ∙ ap note_of (sym v_is))) in
      let e : map (view_of s) views ≡ map (view_of s) w.views.items ++ note_of v ∷ [] = ap (map (view_of s)) made
      ∙ (map-append (view_of s) w.views.items (y ∷ []) ∙ ap (λ (u : View). map (view_of s) w.views.items ++ u ∷ []) n) in
      let l : list ≡ w.notes.items ++ length (map (view_of s) w.views.items) ∷ [] = listed ∙ ap (λ (k : ℕ). w.notes.items ++ k ∷ [])
      (sym (length-map w.views.items (view_of s))) in
      (λ d. record (core_of w) { world = record (core_of w).world { views = e d }; notes = l d })
