-- Commits of calls.
use Rattle.std.proofs.Common.{◌≡◌, ◌≢◌, ℕ, ◌<◌, List, [], ◌∷◌, ◌++◌, length, map, set, get_or, refl, ap, sym, ◌∙◌, subst, inr}
use Rattle.std.specs.List.{AllByRecursion}
use mathlib.Core.Option.{some}
use lib.ListN.{get_elem?}
use Rattle.atomic_table.proofs.Lists.{at_index, at_map}
use Rattle.its_types.specs.declared.machine.Word.{Word}
use Rattle.its_plain.specs.History.{after}
use Rattle.its_plain.specs.declared.call.Entry.{Entry}
use Rattle.its_steps.specs.Contents.{Held}
use Rattle.its_steps.specs.Good.{Apart, IsHeld}
use Rattle.its_steps.specs.MayCall.{MayCall}
use Rattle.its_steps.specs.Parts.{Setup, Stands}
use Rattle.its_steps.specs.Renewal.{renewal}
use Rattle.its_player.specs.Shared.{setup_of, known, view_of, core_of, made, IsDone}
use Rattle.its_steps.specs.Steps.{Core, IsGoodCore, Commits, loads}
use Rattle.its_steps.specs.World.{View, entry, word_after, committed, looked_in}
use Rattle.its_steps.specs.declared.commit.Commit.{Commit}
use Rattle.its_player.specs.declared.shared.Shared.{Shared}
use Rattle.its_steps.specs.declared.standing.Standing.TheVariants.{Pass}
use Rattle.its_player.specs.declared.view.View.{View as Known}
use Rattle.its_steps.proofs.Lists.{all_weaker}
use Rattle.its_player.proofs.Seats.{pass_view, known_here, put_view}
use Rattle.its_steps.proofs.Steps.{pass}

-- the parts that a pass of a good world holds
module _ (w : Shared) (good : IsGoodCore (core_of w)) (at : ℕ) (x : Known) (lt : at < length w.views.items) (is : x ≡ get_or w.views.items at x)
    (p : x.standing ≡ Pass) where
  abbrev s : Setup
  s = setup_of w

  there : get_elem? (core_of w).world.views at ≡ some (known s x)
  there = at_map (view_of s) w.views.items at x (at_index w.views.items at x lt is) ∙ ap some (pass_view s x p)

  pub held_stand : AllByRecursion (λ y. Stands s y.part) x.held.items
  held_stand =
      let f = pass s w.history.items (core_of w).world good at (known s x) there p in
      all_weaker (IsHeld s w.word (after w.start w.history.items) w.turns.items (core_of w).world.slots x.number) (λ y. Stands s y.part) x.held.items
      (λ y t. t.stands) f.holds.held

  pub held_apart : Apart x.held.items
  held_apart = (pass s w.history.items (core_of w).world good at (known s x) there p).holds.apart

module _ (w : Shared) (at : ℕ) (x : Known) (v : View) (lt : at < length w.views.items) (is : x ≡ get_or w.views.items at x)
    (there : get_elem? (core_of w).world.views at ≡ some v) (passes : v.standing ≡ Pass) where
  abbrev t : Setup
  t = setup_of w

  v_is : v ≡ known t x
  v_is = known_here t w.views.items at x v lt is there passes

  held_is : x.held.items ≡ v.held
  held_is = sym (ap (λ (u : View). u.held) v_is)

  -- what the commit leaves, told by the view before
  pub makes : (a : Commit) (to : Word) (owed : List Held) (x' : Known) (history seen : List Entry) (views : List Known) → to ≡ word_after a
      → history ≡ w.history.items ++ entry x.number a.call a.reply ∷ [] → seen ≡ history
      → known t x' ≡ record (known t x) {
        seen = seen;
        mine = x.mine ++ (a.expected.place, entry x.number a.call a.reply) ∷ [];
        last = to;
        held = owed;
        cache = record (known t x).cache { looked = looked_in owed (known t x).cache.looked };
        commit = record { base = a.expected; change = a.change };
      }
      → views ≡ set w.views.items at x'
      → record (core_of w) { history = history; world = record (core_of w).world { word = to; views = map (view_of t) views } } ≡ made
      (core_of w) at v a owed
  makes a to owed x' history seen views next grown same new put =
      let number : x.number ≡ v.number = sym (ap (λ (u : View). u.number) v_is) in
      let new' : known t x' ≡ committed (known t x) w.history.items a owed = new
      ∙ (λ d. record (committed (known t x) w.history.items a owed) { seen = (same ∙ grown) d; last = next d }) in
      let e : map (view_of t) views ≡ set (map (view_of t) w.views.items) at (committed v w.history.items a owed) = ap (map (view_of t)) put
      ∙ put_view t w.views.items at x x' v (λ u. committed u w.history.items a owed) lt is there passes new' (λ u. refl) in
      let h : history ≡ w.history.items ++ entry v.number a.call a.reply ∷ [] = grown ∙ ap (λ (n : ℕ). w.history.items ++ entry n a.call a.reply ∷ []) number in
      (λ d. record (core_of w) { history = h d; world = record (core_of w).world { word = next d; views = e d } })

  module _ (a : Commit) where
    pub no_commit : ¬ MayCall t a x.held.items → IsDone (Commits (core_of w) at v a) (core_of w) (core_of w)
    no_commit missing = inr ((λ d c. missing (subst (MayCall t a) (sym held_is) c.may)), refl)

    pub raced : MayCall t a x.held.items → w.word ≢ a.expected → (after : Core) → after ≡ loads (core_of w) at v → Commits (core_of w) at v a after
    raced may ne after e = record { may = subst (MayCall t a) held_is may; found = λ s. absurd (ne s); raced = λ _. e }

    pub commits_it : MayCall t a x.held.items → w.word ≡ a.expected → (owed : List Held) → owed ≡ renewal t a x.held.items → (after : Core)
        → after ≡ made (core_of w) at v a owed → Commits (core_of w) at v a after
    commits_it may same owed renewed after e = record {
      may = subst (MayCall t a) held_is may;
      found = λ s. e ∙ ap (λ (l : List Held). made (core_of w) at v a l) (renewed ∙ ap (renewal t a) held_is);
      raced = λ ne. absurd (ne same);
    }
