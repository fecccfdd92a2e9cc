-- Passes taken back, and notes met.
use Rattle.std.proofs.Common.{◌≡◌, ◌≢◌, ℕ, zero, suc, ◌<◌, ◌≤◌, eqb, true, false, ◌&&◌, List, [], ◌∷◌, length, map, set, get_or, Some, None, refl, ap, sym}
use Rattle.std.proofs.Common.{◌∙◌, inr, arith}
use Rattle.std.specs.List.{position}
use Rattle.std.proofs.lemmas.Bool.{eqb-true}
use Rattle.std.proofs.lemmas.Bool.Decides.{Decides-eqb}
use Rattle.std.proofs.lemmas.List.{map-set, set_comm, get_or-set_other}
use Rattle.std.proofs.lemmas.List.Quantifiers.{position-Some}
use mathlib.Core.Option.{some, some-injective, some-ne-none}
use lib.ListN.{get_elem?}
use Rattle.atomic_table.proofs.Lists.{at_index, at_map}
use Rattle.its_steps.specs.Parts.{Setup}
use Rattle.its_player.specs.Shared.{setup_of, known, view_of, core_of, is_standing, is_standing_note, is_pass, IsDone}
use Rattle.its_steps.specs.Steps.{Core, IsGoodCore, IsAt, IsNoteAt, Joins, Meets}
use Rattle.its_steps.specs.World.{View, loaded, has_joined, has_met, spent}
use Rattle.its_player.specs.declared.shared.Shared.{Shared}
use Rattle.its_steps.specs.declared.standing.Standing.{Standing}
use Rattle.its_steps.specs.declared.standing.Standing.TheVariants.{Pass, Note, Spent}
use Rattle.its_player.specs.declared.view.View.{View as Known}
use Rattle.its_steps.proofs.Found.{both_of}
use Rattle.its_steps.proofs.Lists.{at_below}
use Rattle.its_player.proofs.Positions.{none_passes, any_default}
use Rattle.its_player.proofs.Seats.{same_standing, pass_view, note_view, spent_view, known_here, pass_here}
use Rattle.its_steps.proofs.Steps.{pass}

pass_standing : (t : Standing) → is_standing t ≡ true → t ≡ Pass
pass_standing Pass e = refl
pass_standing Note e = absurd cc
pass_standing Spent e = absurd cc

note_standing : (t : Standing) → is_standing_note t ≡ true → t ≡ Note
note_standing Pass e = absurd cc
note_standing Note e = refl
note_standing Spent e = absurd cc

-- two passes of one number are one
pub one_seat : (c : Core) → IsGoodCore c → (n i j : ℕ) (v u : View) → IsAt c n i v → IsAt c n j u → i ≡ j
one_seat c good n i j v u a b =
    let f = pass c.setup c.history c.world good i v a.at a.passes in
    let g = pass c.setup c.history c.world good j u b.at b.passes in
    sym f.sits.seat_is ∙ (ap good.seat (a.number_is ∙ sym b.number_is) ∙ g.sits.seat_is)

pub one_view : (c : Core) → IsGoodCore c → (n i j : ℕ) (v u : View) → IsAt c n i v → IsAt c n j u → v ≡ u
one_view c good n i j v u a b = some-injective v u (sym a.at ∙ (ap (get_elem? c.world.views) (one_seat c good n i j v u a b) ∙ b.at))

-- ---- a pass of a number, found or not

pub pass_at : (w : Shared) (n i : ℕ) (x : Known) → position (is_pass n) w.views.items ≡ Some i → x ≡ get_or w.views.items i x
    → IsAt (core_of w) n i (known (setup_of w) x)
pass_at w n i x found is =
    let f = position-Some (is_pass n) w.views.items i x found in
    let t = both_of (is_standing x.standing) (eqb x.number n) (ap (is_pass n) is ∙ f.1) in
    let p : x.standing ≡ Pass = pass_standing x.standing t.0 in
    record {
      at = at_map (view_of (setup_of w)) w.views.items i x (at_index w.views.items i x f.0 is) ∙ ap some (pass_view (setup_of w) x p);
      passes = p;
      number_is = eqb-true x.number n t.1;
    }

-- an element of a mapped list is that of an element
known_at : (w : Shared) (i : ℕ) (v : View) → get_elem? (core_of w).world.views i ≡ some v → (x : Known) × (i < length w.views.items)
    × (get_elem? w.views.items i ≡ some x) × (v ≡ view_of (setup_of w) x)
known_at w i v e = of_map (view_of (setup_of w)) w.views.items i v e
  where
    of_map : (f : Known → View) (xs : List Known) (k : ℕ) (u : View) → get_elem? (map f xs) k ≡ some u → (x : Known) × (k < length xs)
        × (get_elem? xs k ≡ some x) × (u ≡ f x)
    of_map f [] k u h = absurd (some-ne-none u (sym h))
    of_map f (x ∷ xs) zero u h = (x, omega arith, refl, sym (some-injective (f x) u h))
    of_map f (x ∷ xs) (suc k) u h = let r = of_map f xs k u h in (r.0, (let lt = r.1 in omega arith), r.2, r.3)

at_read : {A : Type 0} (xs : List A) (k : ℕ) (x d : A) → get_elem? xs k ≡ some x → get_or xs k d ≡ x
at_read [] k x d h = absurd (some-ne-none x (sym h))
at_read (y ∷ xs) zero x d h = some-injective y x h
at_read (y ∷ xs) (suc k) x d h = at_read xs k x d h

is_this : (s : Setup) (n : ℕ) (x : Known) (v : View) → v ≡ view_of s x → v.standing ≡ Pass → v.number ≡ n → is_pass n x ≡ true
is_this s n x v e p number =
    let t : x.standing ≡ Pass = sym (ap (λ (u : View). u.standing) e ∙ same_standing s x) ∙ p in
    let m : x.number ≡ n = sym (ap (λ (u : View). u.number) (e ∙ pass_view s x t)) ∙ number in
    let b : eqb x.number n ≡ true = (Decides-eqb x.number n).1 m in
    ap (λ (k : Standing). is_standing k && eqb x.number n) t ∙ b

pub no_pass_at : (w : Shared) (n i : ℕ) (v : View) → position (is_pass n) w.views.items ≡ None → ¬ IsAt (core_of w) n i v
no_pass_at w n i v none a =
    let k = known_at w i v a.at in
    let fails : is_pass n k.0 ≡ false = ap (is_pass n) (sym (at_read w.views.items i k.0 k.0 k.2)) ∙ none_passes (is_pass n) w.views.items none i k.0 k.1 in
    let two : true ≡ false = sym (is_this (setup_of w) n k.0 v k.3 a.passes a.number_is) ∙ fails in
    cc

-- ---- two views changed

pub two_views : (s : Setup) (items : List Known) (i j : ℕ) (a b : Known) (v u : View) → i ≢ j → view_of s a ≡ v → view_of s b ≡ u
    → map (view_of s) (set (set items i a) j b) ≡ set (set (map (view_of s) items) j u) i v
two_views s items i j a b v u ne e f =
    map-set (view_of s) (set items i a) j b ∙ ((λ d. set (map-set (view_of s) items i a d) j (f d)) ∙ ((λ d. set (set (map (view_of s) items) i (e d)) j u)
    ∙ set_comm (map (view_of s) items) i j v u ne))

-- ---- no note to meet

module _ (w : Shared) (at : ℕ) (v : View) where
  abbrev s2 : Setup
  s2 = setup_of w

  pub no_note : (n : ℕ) → length w.notes.items ≤ n → IsDone (Meets (core_of w) at v n) (core_of w) (core_of w)
  no_note n le = inr ((λ d t. absurd (let b = at_below w.notes.items n t.index t.is_at.made in omega (arith, b, le))), refl)

  same_index : (n i : ℕ) (note : View) (j : ℕ) → n < length w.notes.items → j ≡ get_or w.notes.items n j → IsNoteAt (core_of w) n i note → i ≡ j
  same_index n i note j below jis a = some-injective i j (sym a.made ∙ at_index w.notes.items n j below jis)

  pub no_index : (n j : ℕ) → n < length w.notes.items → j ≡ get_or w.notes.items n j → length w.views.items ≤ j → IsDone (Meets (core_of w) at v n) (core_of w)
      (core_of w)
  no_index n j below jis le =
      inr (
        (λ d t. absurd (let b = known_at w t.index t.note t.is_at.at in let lt2 = b.1 in let e = same_index n t.index t.note j below jis t.is_at in omega
            (arith, lt2, le, e))),
        refl,
      )

  not_met : (y : Known) (u : View) → u ≡ view_of s2 y → u.standing ≡ Note → is_standing_note y.standing ≡ true
  not_met y u e p = ap is_standing_note (sym (ap (λ (z : View). z.standing) e ∙ same_standing s2 y) ∙ p)

  pub no_note_at : (n j : ℕ) (y : Known) → n < length w.notes.items → j ≡ get_or w.notes.items n j → j < length w.views.items → y ≡ get_or w.views.items j y
      → is_standing_note y.standing ≡ false → IsDone (Meets (core_of w) at v n) (core_of w) (core_of w)
  no_note_at n j y below jis in_views yis fails =
      inr (
        (λ d t. let e = same_index n t.index t.note j below jis t.is_at in
            let u : t.note ≡ view_of s2 y = some-injective t.note (view_of s2 y)
            (sym t.is_at.at ∙ (ap (get_elem? (core_of w).world.views) e ∙ at_map (view_of s2) w.views.items j y
            (at_index w.views.items j y in_views yis))) in
            let two : true ≡ false = sym (not_met y t.note u t.is_at.is_note) ∙ fails in
            absurd cc),
        refl,
      )

-- ---- the root takes a pass back

module _ (w : Shared) (at : ℕ) (x : Known) (v : View) (lt : at < length w.views.items) (is : x ≡ get_or w.views.items at x)
    (there : get_elem? (core_of w).world.views at ≡ some v) (passes : v.standing ≡ Pass) where
  abbrev s : Setup
  s = setup_of w

  v_is : v ≡ known s x
  v_is = known_here s w.views.items at x v lt is there passes

  pub not_root : (number : ℕ) → x.number ≢ 0 → IsDone (Joins (core_of w) at v number) (core_of w) (core_of w)
  not_root number ne = inr ((λ d t. ne (sym (ap (λ (u : View). u.number) v_is) ∙ t.root)), refl)

  pub none_to_join : (number : ℕ) → position (is_pass number) w.views.items ≡ None → IsDone (Joins (core_of w) at v number) (core_of w) (core_of w)
  none_to_join number none = inr ((λ d t. no_pass_at w number t.index t.view none t.is_at), refl)

  pub not_bare : IsGoodCore (core_of w) → (number i : ℕ) (y : Known) → position (is_pass number) w.views.items ≡ Some i → y ≡ get_or w.views.items i y
      → (y.held.items ≡ [] → ⊥) → IsDone (Joins (core_of w) at v number) (core_of w) (core_of w)
  not_bare good number i y found yis full =
      inr (
        (λ d t. full (sym (ap (λ (u : View). u.held) (one_view (core_of w) good number t.index i t.view (known s y) t.is_at
            (pass_at w number i y found yis))) ∙ t.bare)),
        refl,
      )

  -- x is read once more after the other view was taken
  pub joins : (number i : ℕ) (y x2 x' gone : Known) → x.number ≡ 0 → number ≢ 0 → position (is_pass number) w.views.items ≡ Some i
      → y ≡ get_or w.views.items i y → y.held.items ≡ [] → gone.standing ≡ Spent → x2 ≡ get_or (set w.views.items i gone) at x2
      → known s x' ≡ loaded (has_joined (known s x2) (known s y)) w.word w.history.items → (views : List Known) → views ≡ set (set w.views.items i gone) at x'
      → Joins (core_of w) at v number (record (core_of w) { world = record (core_of w).world { views = map (view_of s) views } })
  joins number i y x2 x' gone root other found yis bare spent_is x2is new views made =
      let a = pass_at w number i y found yis in
      let f = position-Some (is_pass number) w.views.items i y found in
      let ne : i ≢ at = λ e. other
      (sym a.number_is ∙ (ap (λ (u : Known). u.number) (yis ∙ (ap (λ (k : ℕ). get_or w.views.items k y) e ∙ (any_default w.views.items at y x lt ∙ sym is)))
      ∙ root)) in
      let same : x2 ≡ x = x2is ∙ (get_or-set_other w.views.items i at gone x2 (λ e. ne (sym e)) ∙ (any_default w.views.items at x2 x lt ∙ sym is)) in
      let now : known s x' ≡ loaded (has_joined v (known s y)) w.word w.history.items = new
      ∙ ap (λ (u : View). loaded (has_joined u (known s y)) w.word w.history.items) (ap (known s) same ∙ sym v_is) in
      let p : x'.standing ≡ Pass = ap (λ (u : View). u.standing) now ∙ passes in
      let e : map (view_of s) views ≡ set (set (map (view_of s) w.views.items) at (loaded (has_joined v (known s y)) w.word w.history.items)) i spent =
      ap (map (view_of s)) made ∙ two_views s w.views.items i at gone x' spent (loaded (has_joined v (known s y)) w.word w.history.items) ne
      (spent_view s gone spent_is) (pass_view s x' p ∙ now) in
      record {
        root = ap (λ (u : View). u.number) v_is ∙ root;
        other = other;
        index = i;
        view = known s y;
        is_at = a;
        bare = bare;
        leaves = λ d. record (core_of w) { world = record (core_of w).world { views = e d } };
      }

  -- ---- a pass meets a note

  pub meets : (n i : ℕ) (y x2 x' gone : Known) → n < length w.notes.items → i ≡ get_or w.notes.items n i → i < length w.views.items
      → y ≡ get_or w.views.items i y → is_standing_note y.standing ≡ true → gone.standing ≡ Spent → x2 ≡ get_or (set w.views.items i gone) at x2
      → known s x' ≡ loaded (has_met (known s x2) (known s y)) w.word w.history.items → (views : List Known) → views ≡ set (set w.views.items i gone) at x'
      → Meets (core_of w) at v n (record (core_of w) { world = record (core_of w).world { views = map (view_of s) views } })
  meets n i y x2 x' gone below iis in_views yis note spent_is x2is new views made =
      let np : y.standing ≡ Note = note_standing y.standing note in
      let px : x.standing ≡ Pass = pass_here s w.views.items at x v lt is there passes in
      let ne : i ≢ at = λ e. absurd
      (let both : Note ≡ Pass = sym np
      ∙ (ap (λ (u : Known). u.standing) (yis ∙ (ap (λ (k : ℕ). get_or w.views.items k y) e ∙ (any_default w.views.items at y x lt ∙ sym is)))
      ∙ px) in cc) in
      let same : x2 ≡ x = x2is ∙ (get_or-set_other w.views.items i at gone x2 (λ e. ne (sym e)) ∙ (any_default w.views.items at x2 x lt ∙ sym is)) in
      let now : known s x' ≡ loaded (has_met v (known s y)) w.word w.history.items = new
      ∙ ap (λ (u : View). loaded (has_met u (known s y)) w.word w.history.items) (ap (known s) same ∙ sym v_is) in
      let p : x'.standing ≡ Pass = ap (λ (u : View). u.standing) now ∙ passes in
      let e : map (view_of s) views ≡ set (set (map (view_of s) w.views.items) at (loaded (has_met v (known s y)) w.word w.history.items)) i spent =
      ap (map (view_of s)) made ∙ two_views s w.views.items i at gone x' spent (loaded (has_met v (known s y)) w.word w.history.items) ne
      (spent_view s gone spent_is) (pass_view s x' p ∙ now) in
      record {
        index = i;
        note = known s y;
        is_at = record {
          made = at_index w.notes.items n i below iis;
          at = at_map (view_of s) w.views.items i y (at_index w.views.items i y in_views yis)
              ∙ ap some (note_view s y np);
          is_note = np;
        };
        leaves = λ d. record (core_of w) { world = record (core_of w).world { views = e d } };
      }
