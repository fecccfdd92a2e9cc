-- The root as it gives numbers and takes passes in.
use Rattle.std.proofs.Common.{◌≡◌, ℕ, ◌+◌, ◌<◌, ◌≤◌, [], ◌∷◌, ◌++◌, length, refl, ap, sym, ◌∙◌, subst, arith}
use Rattle.std.specs.List.{AllByRecursion}
use mathlib.Core.List.{IsPrefix}
use Rattle.its_types.specs.declared.machine.Word.{Word}
use Rattle.its_plain.specs.declared.call.Entry.{Entry}
use Rattle.its_plain.specs.History.{IsLegal, placed}
use Rattle.its_steps.specs.Good.{Ended, IsWhole}
use Rattle.its_steps.specs.Parts.{Setup}
use Rattle.its_steps.specs.World.{View, Placed, RootView, has_split, split_off, has_joined}
use Rattle.its_steps.proofs.Lists.{prefix_self, prefix_through, all_weaker}
use Rattle.its_turns.specs.Told.{Looks, IsLone}
use Rattle.script_threads.specs.Rests.{Rests}
use Rattle.script_threads.specs.Roots.{Knows, joined, TookIn, Gave}

abbrev root_of : View → RootView
root_of v = v.root

-- the root knows, once it has looked
pub knows_looked : (u b : View) (w : Word) → u.number ≡ 0 → Looks u w b → Knows b
knows_looked u b w is_root looks =
    let g = looks.others is_root in
    let same : b.setup ≡ u.setup = ap (λ (x : View). x.setup) looks.same in record {
      given = subst (λ (r : RootView). AllByRecursion (λ (e : Entry). e.pass < r.made) b.seen) (sym (ap root_of looks.same)) g.given;
      whole = subst (λ (r : RootView). AllByRecursion (IsWhole b.seen r.made) r.ended) (sym (ap root_of looks.same)) g.whole;
      mine = ap (λ (x : View). x.mine) looks.same ∙ (looks.mine ∙ ap (λ n. placed n 0 b.seen) is_root);
      legal = subst (λ (s : Setup). IsLegal s.start b.seen) (sym same) looks.legal;
      within = subst (λ (s : Setup). length b.seen ≤ s.limits.place_last) (sym same) (omega (arith, looks.place, looks.within.place));
    }

knows_split : (b : View) → Knows b → Knows (has_split b)
knows_split b k = record {
  given = all_weaker (λ (e : Entry). e.pass < b.root.made) (λ (e : Entry). e.pass < b.root.made + 1) b.seen (λ e t. omega (arith, t)) k.given;
  whole = all_weaker (IsWhole b.seen b.root.made) (IsWhole b.seen (b.root.made + 1)) b.root.ended (λ x t. (omega (arith, t.0), t.1)) k.whole;
  mine = k.mine;
  legal = k.legal;
  within = k.within;
}

pub gave_none : (v : View) → Gave v 0 v
gave_none v = record {
  setup = refl;
  number = refl;
  held = refl;
  made = omega arith;
  mine = refl;
  ended = refl;
  longer = prefix_self v.seen;
  knows = λ k root.
      k;
}

pub gave_more : (v u b x : View) (n : ℕ) (w : Word) → Gave v n u → v.number ≡ 0 → Looks u w b → x ≡ has_split b → Gave v (n + 1) x
gave_more v u b x n w was root looks is =
    let made : u.root.made ≡ b.root.made = sym (ap (λ (y : View). y.root.made) looks.same) in
    subst (Gave v (n + 1)) (sym is) record {
      setup = ap (λ (y : View). y.setup) looks.same ∙ was.setup;
      number = ap (λ (y : View). y.number) looks.same ∙ was.number;
      held = ap (λ (y : View). y.held) looks.same ∙ was.held;
      made = omega (arith, made, was.made);
      mine = ap (λ (y : View). y.mine) looks.same ∙ was.mine;
      ended = ap (λ (y : View). y.root.ended) looks.same ∙ was.ended;
      longer = prefix_through v.seen u.seen b.seen was.longer looks.longer;
      knows = λ k r. knows_split b (knows_looked u b w (was.number ∙ root) looks);
    }

-- the new pass has the next number
pub numbered_next : (v u b y : View) (n : ℕ) (w : Word) → Gave v n u → Looks u w b → y ≡ split_off b → y.number ≡ v.root.made + n
numbered_next v u b y n w was looks is = ap (λ (x : View). x.number) is ∙ (ap (λ (x : View). x.root.made) looks.same ∙ was.made)

joined_snoc : (xs : Ended) (x : ℕ × Placed) (ended : Ended) → joined (xs ++ x ∷ []) ended ≡ x ∷ joined xs ended
joined_snoc [] x ended = refl
joined_snoc (y ∷ xs) x ended = joined_snoc xs x (y ∷ ended)

pub took_none : (v : View) → TookIn v [] v
took_none v = record { setup = refl; number = refl; held = refl; made = refl; mine = refl; longer = prefix_self v.seen; ended = refl; knows = λ k root. k }

pub took_more : (v u p x : View) (xs : Ended) (w : Word) → TookIn v xs u → v.number ≡ 0 → Looks (has_joined u p) w x → IsPrefix u.seen x.seen
    → TookIn v (xs ++ (p.number, p.mine) ∷ []) x
took_more v u p x xs w was root looks longer = record {
  setup = ap (λ (y : View). y.setup) looks.same ∙ was.setup;
  number = ap (λ (y : View). y.number) looks.same ∙ was.number;
  held = ap (λ (y : View). y.held) looks.same ∙ was.held;
  made = ap (λ (y : View). y.root.made) looks.same ∙ was.made;
  mine = ap (λ (y : View). y.mine) looks.same ∙ was.mine;
  longer = prefix_through v.seen u.seen x.seen was.longer longer;
  ended = ap (λ (y : View). y.root.ended) looks.same ∙ (ap (λ z. (p.number, p.mine) ∷ z) was.ended ∙ sym (joined_snoc xs (p.number, p.mine) v.root.ended));
  knows = λ k r. knows_looked (has_joined u p) x w (was.number ∙ root) looks;
}

pub rests_looked : (v b : View) (w : Word) → Rests v → Looks v w b → Rests b
rests_looked v b w rests looks = record { lone = subst IsLone (sym looks.same) rests.lone; held = ap (λ (x : View). x.held) looks.same ∙ rests.held }
