-- A call that goes on from step to step, and is made.
use Rattle.std.proofs.Common.{◌≡◌, ℕ, ◌<◌, List, [], ◌∷◌, ◌++◌, length, refl, ap, sym, ◌∙◌, subst, arith, length-append}
use Rattle.std.specs.List.{AllByRecursion}
use mathlib.Core.List.{IsPrefix}
use Rattle.its_types.specs.declared.machine.Part.{Part}
use Rattle.its_types.specs.declared.machine.Word.{Word}
use Rattle.its_plain.specs.History.{IsLegal, after}
use Rattle.its_plain.specs.declared.call.Entry.{Entry}
use Rattle.its_steps.specs.MayCommit.{IsRight}
use Rattle.its_steps.specs.Renewal.{renewal}
use Rattle.its_steps.specs.World.{View, Tries, LastCommit, loaded, took, missed, out, entry, lost_to, committed}
use Rattle.its_steps.specs.Contents.{Content, Held}
use Rattle.its_steps.proofs.Lists.{prefix_self, prefix_through}
use Rattle.its_turns.specs.Calls.{Stays, IsPlaced, Leaves, GoesOn, Makes}
use Rattle.its_turns.specs.Calls.{IsMade, HasLooked}
use Rattle.its_turns.specs.Told.{Looks, IsLone, released}
use Rattle.its_steps.specs.declared.commit.Commit.{Commit}

pub goes_first : (v : View) → GoesOn v v.tries v
goes_first v = record { same = refl; longer = prefix_self v.seen; tries = refl }

module _ (v w : View) (t : Tries) (on : GoesOn v t w) where
  pub goes_took : (x : View) (p : Part) (c : Content) → x ≡ took w p c → GoesOn v (record t { won = p ∷ t.won }) x
  goes_took x p c e = subst (GoesOn v (record t { won = p ∷ t.won })) (sym e)
      record { same = ap (λ (y : View). took y p c) on.same; longer = on.longer; tries = ap (λ (s : Tries). record s { won = p ∷ s.won }) on.tries }

  pub goes_missed : (x : View) (p : Part) (n : ℕ) → x ≡ missed w p n → GoesOn v (lost_to t p n) x
  goes_missed x p n e = subst (GoesOn v (lost_to t p n)) (sym e)
      record { same = ap (λ (y : View). missed y p n) on.same; longer = on.longer; tries = ap (λ (s : Tries). lost_to s p n) on.tries }

  pub goes_released : (x : View) → x ≡ released w → GoesOn v t x
  goes_released x e = subst (GoesOn v t) (sym e) record { same = ap (λ (y : View). released y) on.same; longer = on.longer; tries = on.tries }

  pub goes_looked : (x : View) (z : Word) → Looks w z x → GoesOn v t x
  goes_looked x z looks =
      subst (GoesOn v t) (sym looks.same)
      record { same = ap (λ (y : View). loaded y z x.seen) on.same; longer = prefix_through v.seen w.seen x.seen on.longer looks.longer; tries = on.tries }

  pub goes_emptied : (x : View) → x ≡ record w { held = [] } → GoesOn v t x
  goes_emptied x e = subst (GoesOn v t) (sym e) record { same = ap (λ (y : View). record y { held = [] }) on.same; longer = on.longer; tries = on.tries }

  -- who was alone is alone
  pub lone_on : IsLone v → IsLone w
  lone_on alone = subst IsLone (sym on.same) alone

  -- what it read later it read
  pub looked_from : ((P : Held → Type 0) → AllByRecursion P w.held → AllByRecursion P v.held) → ¬ IsLone v → (word : Word) (y z : View) → HasLooked w word y
      → y.seen ≡ z.seen → HasLooked v word z
  looked_from all out word y z has same =
      let a : Looks (record v { seen = w.seen; last = w.last; held = w.held; cache = w.cache; tries = w.tries }) word has.mid =
      subst (λ (u : View). Looks u word has.mid) on.same has.looks in
      record {
        mid = loaded v word has.mid.seen;
        looks = record {
          same = refl;
          longer = prefix_through v.seen w.seen has.mid.seen on.longer a.longer;
          told = a.told;
          legal = a.legal;
          mine = a.mine;
          place = a.place;
          within = a.within;
          machine = a.machine;
          right = all (IsRight v.setup word (after v.setup.start has.mid.seen)) a.right;
          still = λ alone. absurd (out alone);
          others = λ root. let k = a.others root in record { given = k.given; whole = k.whole; joined = k.joined };
        };
        before = subst (λ (h : List Entry). IsPrefix has.mid.seen h) same has.before;
      }

  -- it ends without having been made
  pub stays_from : w.held ≡ v.held → Stays v w
  stays_from held = record {
    same = on.same ∙ (λ d. record v { seen = w.seen; last = w.last; held = held d; cache = w.cache; tries = w.tries });
    longer = on.longer;
  }

  -- it is made
  pub makes_from : (a : Commit) (x : View) → Makes w a x → IsMade v t a x
  makes_from a x made =
      let own = ap (λ (y : View). y.number) on.same in
      let more = prefix_through v.seen w.seen made.seen on.longer made.longer in
      let y : View = committed (loaded w a.expected made.seen) made.seen a (renewal w.setup a w.held) in
      let number : entry w.number a.call a.reply ≡ entry v.number a.call a.reply = ap (λ (n : ℕ). entry n a.call a.reply) own in
      record {
        between = more.0;
        seen = ap (λ (u : View). u.seen) made.view ∙ (let whole = sym more.1 in λ d. whole d ++ number d ∷ []);
        legal = subst (λ (u : View). IsLegal u.setup.start x.seen) on.same made.legal;
        place_is = let long = ap (λ (u : View). length u.seen) made.view in omega
            (arith, long, made.place, length-append made.seen (entry w.number a.call a.reply ∷ []));
        mine = ap (λ (u : View). u.mine) made.view ∙ (let old = ap (λ (u : View). u.mine) on.same in λ d. old d ++ (a.expected.place, number d) ∷ []);
        room = subst (λ (u : View). a.expected.place < u.setup.limits.place_last) on.same made.room;
        same = subst (λ (z : View). z ≡ record v {
          seen = z.seen;
          mine = z.mine;
          last = z.last;
          held = z.held;
          cache = z.cache;
          tries = z.tries;
          commit = z.commit;
        }) (sym made.view)
            (λ d. record y {
              setup = ap (λ (u : View). u.setup) on.same d;
              standing = ap (λ (u : View). u.standing) on.same d;
              number = own d;
              told = ap (λ (u : View). u.told) on.same d;
              root = ap (λ (u : View). u.root) on.same d;
            });
        tries = ap (λ (u : View). u.tries) made.view ∙ on.tries;
        last = ap (λ (u : View). u.last) made.view;
        commit = ap (λ (u : View). u.commit) made.view;
      }

-- ---- a call was made

module _ (v w : View) (t : Tries) (a : Commit) (made : IsMade v t a w) where
  pub made_released : (x : View) → x ≡ released w → IsMade v t a x
  made_released x e = subst (IsMade v t a) (sym e)
      record {
        between = made.between;
        seen = made.seen;
        legal = made.legal;
        place_is = made.place_is;
        mine = made.mine;
        room = made.room;
        same = ap (λ (y : View). released y) made.same;
        tries = made.tries;
        last = made.last;
        commit = made.commit;
      }

  pub made_emptied : (x : View) → x ≡ record w { held = [] } → IsMade v t a x
  made_emptied x e = subst (IsMade v t a) (sym e)
      record {
        between = made.between;
        seen = made.seen;
        legal = made.legal;
        place_is = made.place_is;
        mine = made.mine;
        room = made.room;
        same = ap (λ (y : View). record y { held = [] }) made.same;
        tries = made.tries;
        last = made.last;
        commit = made.commit;
      }

  pub placed_from : w.held ≡ v.held → IsPlaced v a.call a.reply a.expected.place w
  placed_from held = record {
    between = made.between;
    seen = made.seen;
    legal = made.legal;
    place_is = made.place_is;
    mine = made.mine;
    room = made.room;
    base = ap (λ (x : LastCommit). x.base.place) made.commit;
    last = ap (λ (x : Word). x.place) made.last;
    same = made.same ∙ (λ d. record v { seen = w.seen; mine = w.mine; last = w.last; held = held d; cache = w.cache; tries = w.tries; commit = w.commit });
  }

  -- with the stamp that it found
  pub leaves_from : a.stamp ≡ a.expected.stamp → Leaves a.change w
  leaves_from same = record {
    stamp = ap (λ (x : Word). x.stamp) made.last ∙ (same ∙ ap (λ (x : LastCommit). x.base.stamp) (sym made.commit));
    change_is = ap (λ (x : LastCommit). x.change) made.commit;
  }
