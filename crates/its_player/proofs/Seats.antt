-- The view at an index, as the program has it and as the world has it.
use Rattle.std.proofs.Common.{◌≡◌, ℕ, ◌<◌, List, length, map, set, get_or, refl, ap, sym, ◌∙◌}
use Rattle.std.proofs.lemmas.List.{map-set}
use Rattle.std.specs.Prelude.{Result, Ok, Err, OnOk}
use Rattle.std.specs.Vec.{with_item}
use mathlib.Core.Option.{some, some-injective}
use lib.ListN.{get_elem?}
use Rattle.atomic_table.proofs.Lists.{at_index, at_map}
use Rattle.its_steps.specs.Parts.{Setup}
use Rattle.its_steps.specs.World.{View, spent}
use Rattle.its_steps.specs.Steps.{set_view}
use Rattle.its_player.specs.Shared.{setup_of, known, unless_spent, view_of, core_of}
use Rattle.its_player.specs.declared.shared.Shared.{Shared}
use Rattle.its_steps.specs.declared.standing.Standing.{Standing}
use Rattle.its_steps.specs.declared.standing.Standing.TheVariants.{Pass, Note, Spent}
use Rattle.its_player.specs.declared.view.View.{View as Known}

unless_standing : (t : Standing) (v : View) → v.standing ≡ t → (unless_spent t v).standing ≡ t
unless_standing Pass v e = e
unless_standing Note v e = e
unless_standing Spent v e = refl

pub same_standing : (s : Setup) (x : Known) → (view_of s x).standing ≡ x.standing
same_standing s x = unless_standing x.standing (known s x) refl

pub pass_view : (s : Setup) (x : Known) → x.standing ≡ Pass → view_of s x ≡ known s x
pass_view s x e = ap (λ (t : Standing). unless_spent t (known s x)) e

pub note_view : (s : Setup) (x : Known) → x.standing ≡ Note → view_of s x ≡ known s x
note_view s x e = ap (λ (t : Standing). unless_spent t (known s x)) e

pub spent_view : (s : Setup) (x : Known) → x.standing ≡ Spent → view_of s x ≡ spent
spent_view s x e = ap (λ (t : Standing). unless_spent t (known s x)) e

-- ---- the view at an index

pub here : (s : Setup) (items : List Known) (i : ℕ) (x : Known) (v : View) → i < length items → x ≡ get_or items i x → get_elem? (map (view_of s) items) i
    ≡ some v → v ≡ view_of s x
here s items i x v lt is at = some-injective v (view_of s x) (sym at ∙ at_map (view_of s) items i x (at_index items i x lt is))

pub pass_here : (s : Setup) (items : List Known) (i : ℕ) (x : Known) (v : View) → i < length items → x ≡ get_or items i x → get_elem? (map (view_of s) items) i
    ≡ some v → v.standing ≡ Pass → x.standing ≡ Pass
pass_here s items i x v lt is at p = sym (ap (λ (u : View). u.standing) (here s items i x v lt is at) ∙ same_standing s x) ∙ p

pub known_here : (s : Setup) (items : List Known) (i : ℕ) (x : Known) (v : View) → i < length items → x ≡ get_or items i x → get_elem? (map (view_of s) items) i
    ≡ some v → v.standing ≡ Pass → v ≡ known s x
known_here s items i x v lt is at p = here s items i x v lt is at ∙ pass_view s x (pass_here s items i x v lt is at p)

-- another view in its place
pub put_view : (s : Setup) (items : List Known) (i : ℕ) (x x' : Known) (v : View) (F : View → View) → i < length items → x ≡ get_or items i x
    → get_elem? (map (view_of s) items) i ≡ some v → v.standing ≡ Pass
    → known s x' ≡ F (known s x) → ((u : View) → (F u).standing ≡ u.standing) → map (view_of s) (set items i x') ≡ set (map (view_of s) items) i (F v)
put_view s items i x x' v F lt is at p e keeps =
    let k : v ≡ known s x = known_here s items i x v lt is at p in
    let new : known s x' ≡ F v = e ∙ ap F (sym k) in
    let p' : x'.standing ≡ Pass = ap (λ (u : View). u.standing) new ∙ (keeps v ∙ p) in
    map-set (view_of s) items i x' ∙ ap (set (map (view_of s) items) i) (pass_view s x' p' ∙ new)

pub put_core : (w : Shared) (i : ℕ) (x x' : Known) (v : View) (F : View → View) → i < length w.views.items → x ≡ get_or w.views.items i x
    → get_elem? (core_of w).world.views i ≡ some v → v.standing ≡ Pass
    → known (setup_of w) x' ≡ F (known (setup_of w) x) → ((u : View) → (F u).standing ≡ u.standing) → core_of (record w { views = with_item w.views i x' })
    ≡ set_view (core_of w) i (F v)
put_core w i x x' v F lt is at p e keeps = ap (λ (views : List View). record (core_of w) { world = record (core_of w).world { views = views } })
    (put_view (setup_of w) w.views.items i x x' v F lt is at p e keeps)

-- ---- answers that are Ok

pub ok_more : {A E : Type 0} {P Q : Type 0} → (P → Q) → (r : Result A E) → OnOk r P → OnOk r Q
ok_more f (Ok x) p = f p
ok_more f (Err e) p = p
