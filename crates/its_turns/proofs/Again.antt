-- A call that is tried again.
use Rattle.std.proofs.Common.{◌≡◌, ℕ, ◌<◌, ◌≤◌, List, [], ◌∷◌, ◌++◌, refl, ap, sym, ◌∙◌, subst, arith, append_assoc, le_refl}
use Rattle.std.specs.List.{AllByRecursion}
use Rattle.its_types.specs.declared.machine.Part.{Part}
use Rattle.its_types.specs.declared.machine.Word.{Word}
use Rattle.its_plain.specs.History.{IsLegal}
use Rattle.its_plain.specs.declared.call.Call.{Call}
use Rattle.its_plain.specs.declared.call.Entry.{Entry}
use Rattle.its_plain.specs.declared.call.Reply.{Reply}
use Rattle.its_steps.specs.World.{View, out, entry}
use Rattle.its_steps.proofs.Lists.{prefix_self, prefix_through}
use Rattle.its_turns.specs.Calls.{Stays, IsPlaced, GotOnly, GoesOn}
use Rattle.its_turns.specs.Calls.{HasLooked}
use Rattle.its_turns.specs.Told.{IsLone}
use Rattle.its_turns.proofs.Going.{looked_from}

goes_stayed : (v w : View) → Stays v w → GoesOn v w.tries w
goes_stayed v w stays = record {
  same = stays.same ∙ (let held = sym (ap (λ
      (u : View). u.held) stays.same) in λ d. record v { seen = w.seen; last = w.last; held = held d; cache = w.cache; tries = w.tries });
  longer = stays.longer;
  tries = refl;
}

pub looked_again : (v w : View) → Stays v w → ¬ IsLone v → (word : Word) (x : View) → HasLooked w word x → HasLooked v word x
looked_again v w stays out word x has = looked_from v w w.tries (goes_stayed v w stays)
    (λ P all. subst (AllByRecursion P) (ap (λ (u : View). u.held) stays.same) all) out word x x has refl

pub stays_first : (v : View) → Stays v v
stays_first v = record { same = refl; longer = prefix_self v.seen }

pub stays_again : (v w x : View) → Stays v w → Stays w x → Stays v x
stays_again v w x a b = record {
  same = b.same ∙ ap (λ (y : View). record y { seen = x.seen; last = x.last; cache = x.cache; tries = x.tries }) a.same;
  longer = prefix_through v.seen w.seen x.seen a.longer b.longer;
}

pub placed_again : (v w x : View) (c : Call) (r : Reply) (place : ℕ) → Stays v w → IsPlaced w c r place x → IsPlaced v c r place x
placed_again v w x c r place a b =
    let number = ap (λ (y : View). y.number) a.same in
    let e : entry w.number c r ≡ entry v.number c r = ap (λ (n : ℕ). entry n c r) number in
    let whole : w.seen ++ b.between ≡ v.seen ++ (a.longer.0 ++ b.between) = ap (λ (l : List Entry). l ++ b.between) (sym a.longer.1)
    ∙ append_assoc v.seen a.longer.0 b.between in
    record {
      between = a.longer.0 ++ b.between;
      seen = b.seen ∙ (λ d. whole d ++ e d ∷ []);
      legal = subst (λ (y : View). IsLegal y.setup.start x.seen) a.same b.legal;
      place_is = b.place_is;
      mine = b.mine ∙ (let old = ap (λ (y : View). y.mine) a.same in λ d. old d ++ (place, e d) ∷ []);
      room = subst (λ (y : View). place < y.setup.limits.place_last) a.same b.room;
      base = b.base;
      last = b.last;
      same = b.same ∙ ap (λ (y : View). record y { seen = x.seen; mine = x.mine; last = x.last; cache = x.cache; tries = x.tries; commit = x.commit }) a.same;
    }

all_both : {A : Type 0} (P : A → Type 0) (xs ys : List A) → AllByRecursion P xs → AllByRecursion P ys → AllByRecursion P (xs ++ ys)
all_both P [] ys a b = b
all_both P (x ∷ xs) ys a b = (a.0, all_both P xs ys a.1 b)

module _ (P : Part → Type 0) where
  pub got_first : (v : View) → GotOnly P v v
  got_first v = record { got = []; won = refl; only = tt; lost = le_refl v.tries.lost }

  pub got_more : (v w x : View) (got : List Part) → GotOnly P v w → AllByRecursion P got → x.tries.won ≡ got ++ w.tries.won → w.tries.lost ≤ x.tries.lost
      → GotOnly P v x
  got_more v w x got before only won lost = record {
    got = got ++ before.got;
    won = won ∙ (ap (λ (l : List Part). got ++ l) before.won ∙ sym (append_assoc got before.got v.tries.won));
    only = all_both P got before.got only before.only;
    lost = omega (arith, lost, before.lost);
  }
