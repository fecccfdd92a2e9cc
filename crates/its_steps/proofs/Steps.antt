-- Only one pass changes what it knows.
use Rattle.std.proofs.Common.{◌≡◌, ◌≢◌, ◌⊎◌, ℕ, suc, ◌<◌, List, set, refl, ap, sym, ◌∙◌, subst, inl, inr, ⊎_elim}
use Rattle.std.specs.List.{AllByRecursion}
use mathlib.Core.Option.{Option, some}
use mathlib.Core.List.{IsPrefix}
use mathlib.Core.Logic.{dite}
use native.Mathlib.Decide.{ℕ_discrete}
use lib.ListN.{get_elem?}
use Rattle.atomic_table.proofs.Lists.{set_here}
use Rattle.its_types.specs.declared.machine.Part.{Part}
use Rattle.its_types.specs.declared.machine.Word.{Word}
use Rattle.its_plain.specs.History.{after}
use Rattle.its_plain.specs.declared.call.Entry.{Entry}
use Rattle.its_steps.specs.Contents.{Content, Held}
use Rattle.its_steps.specs.Good.{Holds, turn_of, IsHeld, IsHome, IsEnded, IsWhole, Knows, AreHeld, IsPass, Seated, IsNumber, IsOwner, HasRead, IsRoot}
use Rattle.its_steps.specs.Good.{IsHistory, IsNote, AreWide, Good}
use Rattle.its_steps.specs.Parts.{Setup, Stands}
use Rattle.its_steps.specs.World.{View, CacheView, Tries, World}
use Rattle.its_steps.specs.declared.standing.Standing.TheVariants.{Pass, Note}
use Rattle.its_steps.proofs.Helds.{all_held}
use Rattle.its_steps.proofs.Lists.{prefix_self, prefix_through, at_below}
use Rattle.its_steps.proofs.Views.{no_pass, same_view, each_set, seated_set}

module _ (s : Setup) (h : List Entry) (w : World) (good : Good s h w) (i : ℕ) (v : View) (at : get_elem? w.views i ≡ some v) (passes : v.standing ≡ Pass) where
  pub pass : IsPass s h w.word w.turns w.slots good.seat good.root i v
  pass = good.views i v at passes

  -- another pass has another number
  pub another : (j : ℕ) (u : View) → j ≢ i → IsPass s h w.word w.turns w.slots good.seat good.root j u → u.number ≢ v.number
  another j u ne f same = ne (sym f.sits.seat_is ∙ (ap good.seat same ∙ pass.sits.seat_is))

  -- the new view sits where the old one sat
  pub sits : (v' : View) → v'.standing ≡ Pass → (P : View → Type 0) → P v' → (n : ℕ) → n ≡ v.number → Seated (set w.views i v') (good.seat n) P
  sits v' passes' P is n e =
      record {
        view = v';
        at = ap (get_elem? (set w.views i v')) (ap good.seat e ∙ pass.sits.seat_is) ∙ set_here w.views i v' (at_below w.views i v at);
        passes = passes';
        is = is;
      }

  -- The pass leaves its number, and what it knows as the root, as they were. `others` is what the step does to what the others know
  pub changed : (h' : List Entry) (word' : Word) (turns' : List ℕ) (slots' : List (Option Content)) (v' : View) → v'.standing ≡ Pass → v'.number ≡ v.number
      → v'.root ≡ v.root
      → (v'.last ≡ word') ⊎ ((w.word ≡ word') × (v'.last ≡ v.last)) → IsPrefix h h' → IsHistory s h' word'
      → AllByRecursion (IsWhole h' good.root.made) good.root.ended → AllByRecursion (λ e. e.pass < good.root.made) h'
      → IsPass s h' word' turns' slots' good.seat good.root i v'
      → ((j : ℕ) (u : View) → u.number ≢ v.number → IsPass s h w.word w.turns w.slots good.seat good.root j u
      → IsPass s h' word' turns' slots' good.seat good.root j u)
      → AreWide s turns' slots' → ((p : Part) → Stands s p → turn_of s turns' p ≡ 0 → IsHome s word' (after s.start h') slots' p)
      → ((p : Part) (n : ℕ) → Stands s p → turn_of s turns' p ≡ suc n → ((n ≡ v.number) × Holds p v'.held) ⊎ ((n ≢ v.number) × (turn_of s w.turns p ≡ suc n)))
      → Good s h' record { word = word'; turns = turns'; slots = slots'; views = set w.views i v' }
  changed h' word' turns' slots' v' passes' number' root' latest' grows history' whole' calls' mine others wide' home' taken' =
      let up : (P : View → Type 0) → (P v → P v') → (j : ℕ) → Seated w.views j P → Seated (set w.views i v') j P = λ P f.
      seated_set w.views P i v v' at passes' f in
      let n = good.numbers in
      record {
        history = history';
        seat = good.seat;
        root = good.root;
        numbers = record {
          bound = n.bound;
          first = up (IsRoot good.root) (λ t. (number' ∙ t.0, root' ∙ t.1)) (good.seat 0) n.first;
          each = λ m lt. ⊎_elim (λ (t : Seated w.views (good.seat m) (IsNumber m)). inl (up (IsNumber m) (λ is. number' ∙ is) (good.seat m) t))
              (λ (t : IsEnded m good.root.ended). inr t) (n.each m lt);
          distinct = n.distinct;
          whole = whole';
          calls = calls';
          latest = ⊎_elim
              (λ (t : v'.last ≡ word'). (v.number, pass.sits.given, sits v' passes' (HasRead word') t v.number refl))
              (λ (t : (w.word ≡ word') × (v'.last ≡ v.last)). (
                n.latest.0,
                n.latest.1,
                subst (λ (x : Word). Seated (set w.views i v') (good.seat n.latest.0) (HasRead x)) t.0
                    (up (HasRead w.word) (λ is. t.1 ∙ is) (good.seat n.latest.0) n.latest.2),
              ))
              latest';
        };
        views = each_set w.views Pass (IsPass s h w.word w.turns w.slots good.seat good.root) (IsPass s h' word' turns' slots' good.seat good.root) good.views i
            v' (λ _. mine) (λ j u ne e is f. others j u (another j u ne f) f);
        notes = each_set w.views Note (λ _ u. IsNote s h u) (λ _ u. IsNote s h' u) good.notes i v' (λ e. absurd (no_pass v' e passes'))
            (λ j u ne e is f. record { setup = f.setup; seen = prefix_through u.seen h h' f.seen grows });
        parts = record {
          wide = wide';
          home = home';
          taken = λ p m st e. ⊎_elim
              (λ (t : (m ≡ v.number) × Holds p v'.held). sits v' passes' (IsOwner m p) (number' ∙ sym t.0, t.1) m t.0)
              (λ (t : (m ≢ v.number) × (turn_of s w.turns p ≡ suc m)). up (IsOwner m p) (λ is. absurd (t.0 (sym is.0))) (good.seat m)
              (good.parts.taken p m st t.1))
              (taken' p m st e);
        };
      }

  -- the turns of this pass are those of the parts that it holds
  pub held_here : (p : Part) → Stands s p → turn_of s w.turns p ≡ suc v.number → Holds p v.held
  held_here p st e = let o = good.parts.taken p v.number st e in subst (λ (x : View). Holds p x.held)
      (same_view w.views (good.seat v.number) i o.view v o.at at pass.sits.seat_is) o.is.1

  pub held_turn : (p : Part) → Holds p v.held → turn_of s w.turns p ≡ suc v.number
  held_turn p holds = all_held (λ q. turn_of s w.turns q ≡ suc v.number) (IsHeld s w.word (after s.start h) w.turns w.slots v.number) v.held p holds
      (λ x t. t.turn) pass.holds.held

  pub same_turn : (p : Part) (n : ℕ) → Stands s p → turn_of s w.turns p ≡ suc n → ((n ≡ v.number) × Holds p v.held)
      ⊎ ((n ≢ v.number) × (turn_of s w.turns p ≡ suc n))
  same_turn p n st e = dite (ℕ_discrete n v.number) (λ is. inl (is, held_here p st (e ∙ ap suc is))) (λ ne. inr (ne, e))

  -- ---- neither the history nor the word changes

  -- the pass sees more, or reads the word
  pub hears : (sees tales : List Entry) (read : Word) → (read ≡ w.word) ⊎ (read ≡ v.last) → Knows h w.word v.number sees tales v.mine read
      → Good s h record w { views = set w.views i (record v { seen = sees; told = tales; last = read }) }
  hears sees tales read latest knows = changed h w.word w.turns w.slots (record v { seen = sees; told = tales; last = read }) passes refl refl
      (⊎_elim (λ (e : read ≡ w.word). inl e) (λ (e : read ≡ v.last). inr (refl, e)) latest) (prefix_self h) good.history good.numbers.whole good.numbers.calls
      record { setup = pass.setup; sits = pass.sits; knows = knows; holds = pass.holds } (λ j u ne f. f) good.parts.wide good.parts.home same_turn

  -- the pass holds other parts, or the same in another order or otherwise; `others` is what that does to what the others hold
  pub holds : (held' : List Held) (cache' : CacheView) (tries' : Tries) (turns' : List ℕ) (slots' : List (Option Content))
      → AreHeld s w.word (after s.start h) turns' slots' v.number held'
      → ((n : ℕ) (xs : List Held) → n ≢ v.number → AreHeld s w.word (after s.start h) w.turns w.slots n xs
      → AreHeld s w.word (after s.start h) turns' slots' n xs)
      → AreWide s turns' slots' → ((p : Part) → Stands s p → turn_of s turns' p ≡ 0 → IsHome s w.word (after s.start h) slots' p)
      → ((p : Part) (n : ℕ) → Stands s p → turn_of s turns' p ≡ suc n → ((n ≡ v.number) × Holds p held') ⊎ ((n ≢ v.number) × (turn_of s w.turns p ≡ suc n)))
      → Good s h record { word = w.word; turns = turns'; slots = slots'; views = set w.views i (record v { held = held'; cache = cache'; tries = tries' }) }
  holds held' cache' tries' turns' slots' own others = changed h w.word turns' slots' (record v { held = held'; cache = cache'; tries = tries' }) passes refl
      refl (inr (refl, refl)) (prefix_self h) good.history good.numbers.whole good.numbers.calls
      record { setup = pass.setup; sits = pass.sits; knows = pass.knows; holds = own }
      (λ j u ne f. record { setup = f.setup; sits = f.sits; knows = f.knows; holds = others u.number u.held ne f.holds })
