-- Passes that are split off and joined, notes that are made and met, and what the root knows.
use Rattle.std.proofs.Common.{◌≡◌, ◌≢◌, ◌⊎◌, ℕ, suc, ◌+◌, ◌^◌, ◌<◌, ◌≤◌, eqb, cond, nat_lt, Bool, true, false, List, [], ◌∷◌, ◌++◌, length, set, refl, ap}
use Rattle.std.proofs.Common.{sym}
use Rattle.std.proofs.Common.{◌∙◌, subst, inl, inr, ⊎_elim, arith, length-set, eq-eqb, ne_eqb}
use borrow.Author.Tests.{ltb-true, ltb-false}
use Rattle.std.specs.List.{AllByRecursion}
use mathlib.Core.Option.{some}
use mathlib.Core.List.{IsPrefix}
use mathlib.Core.Logic.{dite}
use native.Mathlib.Decide.{ℕ_discrete}
use lib.ListN.{get_elem?}
use Rattle.atomic_table.proofs.Lists.{set_here, set_else, at_longer, at_last}
use Rattle.its_types.specs.declared.machine.Part.{Part}
use Rattle.its_types.specs.declared.machine.Word.{Word}
use Rattle.its_plain.specs.History.{placed}
use Rattle.its_plain.specs.declared.call.Entry.{Entry}
use Rattle.its_steps.specs.Good.{Holds, turn_of, Ended, IsEnded, AreDistinct, IsWhole, Sits, Knows, IsPass, IsNote, Seated, IsNumber, IsOwner, HasRead, Good}
use Rattle.its_steps.specs.Laws.{SplitKeeps, JoinKeeps, NoteKeeps, MeetKeeps, NumbersAreBounded, TurnsAreHeld, IsAlone, RootKnowsAll}
use Rattle.its_steps.specs.Parts.{Setup, Stands}
use Rattle.its_steps.specs.World.{View, RootView, World, has_split, split_off, note_of, later, has_joined, has_met, spent}
use Rattle.its_steps.specs.declared.standing.Standing.TheVariants.{Pass, Note, Spent}
use Rattle.its_steps.proofs.Lists.{prefix_length, prefix_whole, at_below, placed_none, all_weaker}
use Rattle.its_steps.proofs.Steps.{pass, another, same_turn, hears}
use Rattle.its_steps.proofs.Views.{no_pass, same_view, each_set, each_more, seated_set, seated_else, seated_more, numbered_as}

spent_no_pass : spent.standing ≡ Pass → ⊥
spent_no_pass e = let t : Spent ≡ Pass = e in cc

spent_no_note : spent.standing ≡ Note → ⊥
spent_no_note e = let t : Spent ≡ Note = e in cc

-- ---- numbers and where they sit

abbrev put : (ℕ → ℕ) → ℕ → ℕ → ℕ → ℕ
put f q t n = cond (eqb n q) t (f n)

put_here : (f : ℕ → ℕ) (q t : ℕ) → put f q t q ≡ t
put_here f q t = ap (λ b. cond b t (f q)) (eq-eqb q q refl)

put_else : (f : ℕ → ℕ) (q t n : ℕ) → n ≢ q → put f q t n ≡ f n
put_else f q t n ne = ap (λ b. cond b t (f n)) (ne_eqb n q ne)

ended_below : (h : List Entry) (made n : ℕ) (xs : Ended) → AllByRecursion (IsWhole h made) xs → IsEnded n xs → n < made
ended_below h made n [] es is = absurd is
ended_below h made n (x ∷ xs) es is = ⊎_elim (λ (e : x.0 ≡ n). subst (λ (k : ℕ). k < made) e es.0.0) (λ (t : IsEnded n xs). ended_below h made n xs es.1 t) is

-- ---- the later and the earlier of two

one_of : (P : View → Type 0) (b : Bool) (v u : View) → P v → P u → P (cond b u v)
one_of P true v u p q = q
one_of P false v u p q = p

place_of : (b : Bool) (v u : View) (n : ℕ) → nat_lt v.last.place u.last.place ≡ b → (v.last.place ≡ n) ⊎ (u.last.place ≡ n) → v.last.place ≤ n
    → u.last.place ≤ n → (cond b u v).last.place ≡ n
place_of true v u n is one a b = let lt = ltb-true v.last.place u.last.place is in ⊎_elim (λ (e : v.last.place ≡ n). omega arith) (λ (e : u.last.place ≡ n). e)
    one
place_of false v u n is one a b = let le = ltb-false v.last.place u.last.place is in ⊎_elim (λ (e : v.last.place ≡ n). e)
    (λ (e : u.last.place ≡ n). omega arith) one

-- ---- notes

-- a note is spent
keeps_spent : (s : Setup) (h : List Entry) (w : World) → Good s h w → (j : ℕ) (note : View) → get_elem? w.views j ≡ some note → note.standing ≡ Note
    → Good s h record w { views = set w.views j spent }
keeps_spent s h w good j note there is_note =
    let up : (P : View → Type 0) (k : ℕ) → Seated w.views k P → Seated (set w.views j spent) k P = λ P k t.
    seated_else w.views P j spent k (λ e. no_pass note is_note (ap (λ (x : View). x.standing) (same_view w.views j k note t.view there t.at (sym e))
    ∙ t.passes)) t in
    record {
      history = good.history;
      seat = good.seat;
      root = good.root;
      numbers = numbered_as h w.word w.views (set w.views j spent) good.seat good.root up good.numbers;
      views = each_set w.views Pass (IsPass s h w.word w.turns w.slots good.seat good.root) (IsPass s h w.word w.turns w.slots good.seat good.root) good.views j
          spent (λ e. absurd (spent_no_pass e)) (λ k u ne e is t. t);
      notes = each_set w.views Note (λ _ u. IsNote s h u) (λ _ u. IsNote s h u) good.notes j spent (λ e. absurd (spent_no_note e)) (λ k u ne e is t. t);
      parts = record { wide = good.parts.wide; home = good.parts.home; taken = λ p n st e. up (IsOwner n p) (good.seat n) (good.parts.taken p n st e) };
    }

module _ (s : Setup) (h : List Entry) (w : World) (good : Good s h w) (i : ℕ) (v : View) (at : get_elem? w.views i ≡ some v) (passes : v.standing ≡ Pass) where
  fits : IsPass s h w.word w.turns w.slots good.seat good.root i v
  fits = pass s h w good i v at passes

  keeps_note : Good s h record w { views = w.views ++ note_of v ∷ [] }
  keeps_note =
      let up : (P : View → Type 0) (k : ℕ) → Seated w.views k P → Seated (w.views ++ note_of v ∷ []) k P = λ P. seated_more w.views P (note_of v) in
      record {
        history = good.history;
        seat = good.seat;
        root = good.root;
        numbers = numbered_as h w.word w.views (w.views ++ note_of v ∷ []) good.seat good.root up good.numbers;
        views = each_more w.views Pass (IsPass s h w.word w.turns w.slots good.seat good.root) (IsPass s h w.word w.turns w.slots good.seat good.root)
            good.views (note_of v) (λ e. absurd (no_pass (note_of v) refl e)) (λ k u t. t);
        notes = each_more w.views Note (λ _ u. IsNote s h u) (λ _ u. IsNote s h u) good.notes (note_of v)
            (λ _. record { setup = fits.setup; seen = fits.knows.seen }) (λ k u t. t);
        parts = record { wide = good.parts.wide; home = good.parts.home; taken = λ p n st e. up (IsOwner n p) (good.seat n) (good.parts.taken p n st e) };
      }

  keeps_meet : (j : ℕ) (note : View) → get_elem? w.views j ≡ some note → note.standing ≡ Note
      → Good s h record w { views = set (set w.views i (has_met v note)) j spent }
  keeps_meet j note there is_note =
      let k = fits.knows in
      let met = hears s h w good i v at passes v.seen note.seen v.last (inr refl) record {
        seen = k.seen;
        told = (good.notes j note there is_note).seen;
        mine = k.mine;
        place = k.place;
        last = k.last;
      } in
      let ne : j ≢ i = λ e. no_pass note is_note (ap (λ (x : View). x.standing) (same_view w.views j i note v there at e) ∙ passes) in
      keeps_spent s h _ met j note (set_else w.views i j (has_met v note) ne ∙ there) is_note

  module _ (is_root : v.number ≡ 0) where
    first : good.seat 0 ≡ i
    first = ap good.seat (sym is_root) ∙ fits.sits.seat_is

    root_is : v.root ≡ good.root
    root_is = let t = good.numbers.first in ap (λ (x : View). x.root) (sym (same_view w.views (good.seat 0) i t.view v t.at at first)) ∙ t.is.1

    made_is : v.root.made ≡ good.root.made
    made_is = ap (λ (r : RootView). r.made) root_is

    -- ---- splits

    keeps_split : v.root.made < 2 ^ 32 → Good s h record w { views = set w.views i (has_split v) ++ split_off v ∷ [] }
    keeps_split room =
        let made : ℕ = good.root.made in
        let n : ℕ = length w.views in
        let views1 : List View = set w.views i (has_split v) in
        let views' : List View = views1 ++ split_off v ∷ [] in
        let seat' : ℕ → ℕ = put good.seat made n in
        let root' : RootView = record good.root { made = made + 1 } in
        let stay : (m : ℕ) → m < made → seat' m ≡ good.seat m = λ m lt. put_else good.seat made n m (λ e. absurd (omega arith)) in
        let long : length views1 ≡ n = length-set w.views i (has_split v) in
        let up : (P : View → Type 0) (m : ℕ) → m < made → (P v → P (has_split v)) → Seated w.views (good.seat m) P → Seated views' (seat' m) P = λ P m lt f q.
        subst (λ (k : ℕ). Seated views' k P) (sym (stay m lt))
        (seated_more views1 P (split_off v) (good.seat m) (seated_set w.views P i v (has_split v) at passes f (good.seat m) q)) in
        let some_made : 0 < made = subst (λ (m : ℕ). m < made) is_root fits.sits.given in
        let moved : (j m : ℕ) → Sits good.seat good.root j m → Sits seat' root' j m = λ j m t. record {
          seat_is = stay m t.given ∙ t.seat_is;
          given = omega (arith, t.given);
          present = t.present;
        } in
        let move : (j : ℕ) (u : View) → IsPass s h w.word w.turns w.slots good.seat good.root j u → IsPass s h w.word w.turns w.slots seat' root' j u = λ j u f.
        record { setup = f.setup; sits = moved j u.number f.sits; knows = f.knows; holds = f.holds } in
        record {
          history = good.history;
          seat = seat';
          root = root';
          numbers = record {
            bound = omega (arith, room, made_is);
            first = record {
              view = has_split v;
              at = ap (get_elem? views') (stay 0 some_made ∙ first) ∙ at_longer views1 (split_off v ∷ []) i (has_split v)
                  (set_here w.views i (has_split v) (at_below w.views i v at));
              passes = passes;
              is = (is_root, λ d. record (root_is d) { made = (root_is d).made + 1 });
            };
            each = λ m lt. dite (ℕ_discrete m made)
                (λ e. inl record {
                  view = split_off v;
                  at = ap (get_elem? views') (ap seat' e ∙ put_here good.seat made n)
                      ∙ at_last views1 (split_off v) n long;
                  passes = refl;
                  is = made_is ∙ sym e;
                })
                (λ ne. let lt' : m < made = omega arith in ⊎_elim (λ (q : Seated w.views (good.seat m) (IsNumber m)). inl (up (IsNumber m) m lt' (λ t. t) q))
                (λ (t : IsEnded m good.root.ended). inr t) (good.numbers.each m lt'));
            distinct = good.numbers.distinct;
            whole = all_weaker (IsWhole h made) (IsWhole h (made + 1)) good.root.ended (λ x t. (omega (arith, t.0), t.1)) good.numbers.whole;
            calls = all_weaker (λ (e : Entry). e.pass < made) (λ (e : Entry). e.pass < made + 1) h (λ e t. omega (arith, t)) good.numbers.calls;
            latest = let l = good.numbers.latest in (l.0, omega (arith, l.1), up (HasRead w.word) l.0 l.1 (λ t. t) l.2);
          };
          views = each_more views1 Pass (IsPass s h w.word w.turns w.slots seat' root') (IsPass s h w.word w.turns w.slots seat' root')
              (each_set w.views Pass (IsPass s h w.word w.turns w.slots good.seat good.root) (IsPass s h w.word w.turns w.slots seat' root') good.views i
              (has_split v) (λ _. record { setup = fits.setup; sits = moved i v.number fits.sits; knows = fits.knows; holds = fits.holds })
              (λ j u ne e is f. move j u f))
              (split_off v)
              (λ _. record {
                setup = fits.setup;
                sits = record {
                  seat_is = ap seat' made_is ∙ (put_here good.seat made n ∙ sym long);
                  given = omega (arith, made_is);
                  present = λ e. absurd (omega (arith, made_is, ended_below h made v.root.made good.root.ended good.numbers.whole e));
                };
                knows = record {
                  seen = fits.knows.seen;
                  told = (h, refl);
                  mine = sym (ap (λ (m : ℕ). placed m 0 h) made_is ∙ placed_none made 0 h good.numbers.calls);
                  place = fits.knows.place;
                  last = fits.knows.last;
                };
                holds = record { apart = tt; held = tt };
              })
              (λ j u t. t);
          notes = each_more views1 Note (λ _ u. IsNote s h u) (λ _ u. IsNote s h u)
              (each_set w.views Note (λ _ u. IsNote s h u) (λ _ u. IsNote s h u) good.notes i (has_split v) (λ e. absurd (no_pass (has_split v) e passes))
              (λ j u ne e is t. t)) (split_off v) (λ e. absurd (no_pass (split_off v) e refl)) (λ j u t. t);
          parts = record {
            wide = good.parts.wide;
            home = good.parts.home;
            taken = λ p m st e. let q = good.parts.taken p m st e in up (IsOwner m p) m
                (subst (λ (x : ℕ). x < made) q.is.0 (good.views (good.seat m) q.view q.at q.passes).sits.given) (λ t. t) q;
          };
        }

    -- ---- joins

    keeps_join : (j : ℕ) (u : View) → j ≢ i → get_elem? w.views j ≡ some u → u.standing ≡ Pass → u.held ≡ []
        → Good s h record w { views = set (set w.views i (has_joined v u)) j spent }
    keeps_join j u ne there passes_u bare =
        let f = good.views j u there passes_u in
        let v' : View = has_joined v u in
        let views1 : List View = set w.views i v' in
        let views' : List View = set views1 j spent in
        let root' : RootView = record good.root { ended = (u.number, u.mine) ∷ good.root.ended } in
        let up : (P : View → Type 0) (k : ℕ) → k ≢ j → (P v → P v') → Seated w.views k P → Seated views' k P = λ P k other g q.
        seated_else views1 P j spent k other (seated_set w.views P i v v' at passes g k q) in
        let at_root : get_elem? views' i ≡ some v' = set_else views1 j i spent (λ e. ne (sym e)) ∙ set_here w.views i v' (at_below w.views i v at) in
        let late : Knows h w.word v.number (later v u).seen [] v.mine (later v u).last = one_of (λ x. Knows h w.word v.number x.seen [] v.mine x.last)
        (nat_lt v.last.place u.last.place) v u
        record { seen = fits.knows.seen; told = (h, refl); mine = fits.knows.mine; place = fits.knows.place; last = fits.knows.last }
        record { seen = f.knows.seen; told = (h, refl); mine = fits.knows.mine; place = f.knows.place; last = f.knows.last } in
        let Moved : ℕ → View → Type 0 = λ k x. k ≢ j → IsPass s h w.word w.turns w.slots good.seat root' k x in
        let apart : u.number ≢ v.number = another s h w good i v at passes j u ne f in
        let is_u : (k : ℕ) (x : View) → get_elem? w.views k ≡ some x → k ≡ j → x ≡ u = λ k x here e. same_view w.views k j x u here there e in
        record {
          history = good.history;
          seat = good.seat;
          root = root';
          numbers = record {
            bound = good.numbers.bound;
            first = record {
              view = v';
              at = ap (get_elem? views') first ∙ at_root;
              passes = passes;
              is = (is_root, λ d. record (root_is d) { ended = (u.number, u.mine) ∷ (root_is d).ended });
            };
            each = λ m lt. dite (ℕ_discrete m u.number) (λ e. inr (inl (sym e)))
                (λ other. ⊎_elim
                (λ (q : Seated w.views (good.seat m) (IsNumber m)).
                inl (up (IsNumber m) (good.seat m) (λ e. other (sym q.is ∙ ap (λ (x : View). x.number) (is_u (good.seat m) q.view q.at e))) (λ is. is) q))
                (λ (t : IsEnded m good.root.ended). inr (inr t))
                (good.numbers.each m lt));
            distinct = (f.sits.present, good.numbers.distinct);
            whole = ((f.sits.given, f.knows.mine), good.numbers.whole);
            calls = good.numbers.calls;
            latest = let l = good.numbers.latest in
                let q = l.2 in
                let place : ℕ = w.word.place in
                let newest : (v.last.place ≡ place) ⊎ (u.last.place ≡ place) → (x : ℕ) × (x < good.root.made) × Seated views' (good.seat x) (HasRead w.word) =
                λ one. (
                  v.number,
                  fits.sits.given,
                  record {
                    view = v';
                    at = ap (get_elem? views') fits.sits.seat_is ∙ at_root;
                    passes = passes;
                    is = late.last (place_of (nat_lt v.last.place u.last.place) v u place refl one
                        (omega (arith, fits.knows.place, prefix_length v.seen h fits.knows.seen, good.history.place))
                        (omega (arith, f.knows.place, prefix_length u.seen h f.knows.seen, good.history.place)));
                  },
                ) in
                let read : (x : View) (k : ℕ) → get_elem? w.views k ≡ some x → good.seat l.0 ≡ k → x.last.place ≡ place = λ x k here e.
                ap (λ (y : View). y.last.place) (sym (same_view w.views (good.seat l.0) k q.view x q.at here e)) ∙ ap (λ (y : Word). y.place) q.is in
                dite (ℕ_discrete (good.seat l.0) i) (λ e. newest (inl (read v i at e)))
                (λ ne1. dite (ℕ_discrete (good.seat l.0) j) (λ e. newest (inr (read u j there e)))
                (λ ne2. (
                  l.0,
                  l.1,
                  seated_else views1 (HasRead w.word) j spent (good.seat l.0) ne2
                      (seated_else w.views (HasRead w.word) i v' (good.seat l.0) ne1 q),
                )));
          };
          views = each_set views1 Pass Moved (λ k x. IsPass s h w.word w.turns w.slots good.seat root' k x)
              (each_set w.views Pass (IsPass s h w.word w.turns w.slots good.seat good.root) Moved good.views i v'
              (λ _ other. record {
                setup = fits.setup;
                sits = record { seat_is = fits.sits.seat_is; given = fits.sits.given; present = λ t. ⊎_elim apart fits.sits.present t };
                knows = record {
                  seen = late.seen;
                  told = one_of (λ (x : View). IsPrefix x.seen h) (nat_lt v.last.place u.last.place) u v f.knows.seen
                      fits.knows.seen;
                  mine = fits.knows.mine;
                  place = late.place;
                  last = late.last;
                };
                holds = fits.holds;
              })
              (λ k x _ e is g other. record {
                setup = g.setup;
                sits = record {
                  seat_is = g.sits.seat_is;
                  given = g.sits.given;
                  present = λ z. ⊎_elim (λ (same : u.number ≡ x.number). other (sym g.sits.seat_is ∙ (ap good.seat (sym same) ∙ f.sits.seat_is)))
                      g.sits.present z;
                };
                knows = g.knows;
                holds = g.holds;
              }))
              j spent (λ e. absurd (spent_no_pass e)) (λ k x other e is g. g other);
          notes = each_set views1 Note (λ _ x. IsNote s h x) (λ _ x. IsNote s h x)
              (each_set w.views Note (λ _ x. IsNote s h x) (λ _ x. IsNote s h x) good.notes i v' (λ e. absurd (no_pass v' e passes)) (λ k x other e is t. t)) j
              spent (λ e. absurd (spent_no_note e)) (λ k x other e is t. t);
          parts = record {
            wide = good.parts.wide;
            home = good.parts.home;
            taken = λ p m st e. let q = good.parts.taken p m st e in up (IsOwner m p) (good.seat m)
                (λ here. absurd (subst (Holds p) (ap (λ (x : View). x.held) (is_u (good.seat m) q.view q.at here) ∙ bare) q.is.1)) (λ is. is) q;
          };
        }

    -- ---- the root

    -- where no pass but the root is out, the one that sits anywhere is the root
    only : IsAlone v → (j : ℕ) (x : View) → get_elem? w.views j ≡ some x → x.standing ≡ Pass → (x.number ≡ 0) × (x ≡ v)
    only alone j x e px =
        let f = (good.views j x e px).sits in
        let zero_is : x.number ≡ 0 = dite (ℕ_discrete x.number 0) (λ z. z)
        (λ nz. absurd (f.present (subst (λ (r : RootView). IsEnded x.number r.ended) root_is
        (alone x.number (omega (arith, nz)) (omega (arith, f.given, made_is)))))) in
        (zero_is, same_view w.views j i x v e at (sym f.seat_is ∙ (ap good.seat zero_is ∙ first)))

    alone_read : IsAlone v → v.last ≡ w.word
    alone_read alone = let l = good.numbers.latest in let q = l.2 in ap (λ (x : View). x.last) (sym (only alone (good.seat l.0) q.view q.at q.passes).1) ∙ q.is

    alone_seen : IsAlone v → v.seen ≡ h
    alone_seen alone = prefix_whole v.seen h fits.knows.seen
        (omega (arith, fits.knows.place, ap (λ (x : Word). x.place) (alone_read alone), good.history.place))

    alone_turns : IsAlone v → (p : Part) (n : ℕ) → Stands s p → turn_of s w.turns p ≡ suc n → n ≡ 0
    alone_turns alone p n st e = let q = good.parts.taken p n st e in sym q.is.0 ∙ (only alone (good.seat n) q.view q.at q.passes).0

pub splits : SplitKeeps
splits s h w good i v at passes is_root room = keeps_split s h w good i v at passes is_root room

pub joins : JoinKeeps
joins s h w good i v at passes is_root j u ne there passes_u bare = keeps_join s h w good i v at passes is_root j u ne there passes_u bare

pub notes : NoteKeeps
notes s h w good i v at passes = keeps_note s h w good i v at passes

pub meets : MeetKeeps
meets s h w good i v at passes j note there is_note = keeps_meet s h w good i v at passes j note there is_note

pub bounded : NumbersAreBounded
bounded s h w good i v at passes = omega (arith, (pass s h w good i v at passes).sits.given, good.numbers.bound)

pub turns : TurnsAreHeld
turns s h w good i v at passes p n st e = (
  let q = good.parts.taken p n st e in omega (arith, bounded s h w good (good.seat n) q.view q.at q.passes, q.is.0),
  ⊎_elim (λ (t : (n ≡ v.number) × Holds p v.held). inl t) (λ (t : (n ≢ v.number) × (turn_of s w.turns p ≡ suc n)). inr t.0)
      (same_turn s h w good i v at passes p n st e),
)

pub knows : RootKnowsAll
knows s h w good i v at passes is_root =
    let is : good.root ≡ v.root = sym (root_is s h w good i v at passes is_root) in
    record {
      bound = subst (λ (r : RootView). r.made ≤ 2 ^ 32) is good.numbers.bound;
      given = subst (λ (r : RootView). AllByRecursion (λ (e : Entry). e.pass < r.made) h) is good.numbers.calls;
      whole = subst (λ (r : RootView). AllByRecursion (IsWhole h r.made) r.ended) is good.numbers.whole;
      distinct = subst (λ (r : RootView). AreDistinct r.ended) is good.numbers.distinct;
      out = subst (λ (r : RootView). ¬ IsEnded 0 r.ended) is (subst (λ (n : ℕ). ¬ IsEnded n good.root.ended) is_root
          (pass s h w good i v at passes).sits.present);
      last = alone_read s h w good i v at passes is_root;
      seen = alone_seen s h w good i v at passes is_root;
      turns = alone_turns s h w good i v at passes is_root;
    }
