-- What a pass knows after it tried turns, took parts, and put them home.
use Rattle.std.proofs.Common.{◌≡◌, ◌<◌, List, [], ◌∷◌, refl, ap, sym, ◌∙◌, subst, arith, le_refl}
use Rattle.std.specs.List.{AllByRecursion}
use mathlib.Core.List.{IsPrefix}
use mathlib.Core.Option.{some}
use Rattle.its_types.specs.declared.machine.Part.{Part}
use Rattle.its_types.specs.declared.machine.Word.{Word}
use Rattle.its_steps.specs.Contents.{Content, Held}
use Rattle.its_steps.specs.Parts.{Setup}
use Rattle.its_plain.specs.History.{after}
use Rattle.its_steps.specs.MayCommit.{IsRight}
use Rattle.its_steps.specs.World.{View, Tries, loaded, took, out, lost_to}
use Rattle.its_steps.specs.declared.commit.Commit.{Commit}
use Rattle.its_turns.specs.Calls.{Stays, IsPlaced, GotOnly, GoesOn, HasLooked, Makes, IsLost, IsMade}
use Rattle.its_turns.specs.Order.{IsInOrder}
use Rattle.its_turns.specs.Steps.{IsBusy, Takes}
use Rattle.its_turns.specs.Told.{Looks, IsLone, HasStood}
use Rattle.its_turns.specs.declared.turns.Busy.{Busy}
use Rattle.its_steps.proofs.Lists.{prefix_self, prefix_through}
use Rattle.its_turns.proofs.Telling.{goes_first, goes_looked, stays_from, lone_on, makes_from, placed_from, got_first, got_more}
use Rattle.its_turns.specs.Contents.{content_of, IsFit}
use Rattle.its_turns.specs.declared.attempts.Lost.{Lost}
use Rattle.its_turns.specs.declared.attempts.Lost.TheVariants as lost
use Rattle.its_turns.specs.declared.value.Value.{Value}
use Rattle.held_parts.specs.Taking.{LostNone, Waits, TakesInTime, TakesValue, TakesOnly, Goes, Loses, WasMade, holding}

-- ---- waiting for one turn

pub waits_first : (v : View) → Waits v v
waits_first v = record { same = refl; won = refl; lost = le_refl v.tries.lost; alone = λ lone. refl }

pub waits_more : (v w x : View) (p : Part) (b : Busy) → Waits v w → IsBusy w p b x → Waits v x
waits_more v w x p b before busy = subst (Waits v) (sym busy.view)
    record {
      same = ap (λ (y : View). record y { tries = lost_to w.tries p b.holder }) before.same;
      won = before.won;
      lost = omega (arith, before.lost);
      alone = λ lone. absurd (busy.out (subst IsLone (sym (before.alone lone)) lone));
    }

pub waits_in_order : (v w : View) (p : Part) → Waits v w → IsInOrder p v.held → IsInOrder p w.held
waits_in_order v w p waits order = subst (IsInOrder p) (sym (ap (λ (y : View). y.held) waits.same)) order

module _ (v w x : View) (p : Part) (y : Value) (waits : Waits v w) (takes : Takes w p y x) where
  same_setup : w.setup ≡ v.setup
  same_setup = ap (λ (z : View). z.setup) waits.same

  pub takes_value : TakesValue v p y x
  takes_value = record {
    content = takes.content;
    content_is = takes.content_is;
    fit = subst (λ (s : Setup). IsFit s y) same_setup takes.fit;
    takes = record { waited = w; waits = waits; takes = record { view = takes.view; stood = takes.stood } };
    stood = subst (λ (s : Setup). HasStood s p takes.content) same_setup takes.stood;
  }

pub waits_then : (v w x : View) → Waits v w → Waits w x → Waits v x
waits_then v w x a b = record {
  same = b.same ∙ ap (λ (y : View). record y { tries = x.tries }) a.same;
  won = b.won ∙ a.won;
  lost = omega (arith, a.lost, b.lost);
  alone = λ lone. b.alone (subst IsLone (sym (a.alone lone)) lone) ∙ a.alone lone;
}

-- it was waited before
pub takes_after : (v w x : View) (p : Part) (y : Value) → Waits v w → TakesValue w p y x → TakesValue v p y x
takes_after v w x p y waits t = let same : w.setup ≡ v.setup = ap (λ (z : View). z.setup) waits.same in record {
  content = t.content;
  content_is = t.content_is;
  fit = subst (λ (s : Setup). IsFit s y) same t.fit;
  takes = record { waited = t.takes.waited; waits = waits_then v w t.takes.waited waits t.takes.waits; takes = t.takes.takes };
  stood = subst (λ (s : Setup). HasStood s p t.content) same t.stood;
}

-- a value of this content
pub takes_as : (v x : View) (p : Part) (y : Value) (c : Content) → content_of y ≡ some c → TakesValue v p y x → TakesInTime v p c x
takes_as v x p y c is t = subst (λ (d : Content). TakesInTime v p d x) (same_some t.content c (sym t.content_is ∙ is)) t.takes
  where
    same_some : (a b : Content) → some a ≡ some b → a ≡ b
    same_some a b e = cc

-- alone the turn was got at once
pub took_alone : (v x : View) (p : Part) (c : Content) → TakesInTime v p c x → IsLone v → x ≡ took v p c
took_alone v x p c t lone = t.takes.view ∙ ap (λ (y : View). took y p c) (t.waits.alone lone)

pub took_held : (v x : View) (p : Part) (c : Content) → TakesInTime v p c x → x.held ≡ out p c ∷ v.held
took_held v x p c t = ap (λ (y : View). y.held) t.takes.view ∙ ap (λ (l : List Held). out p c ∷ l) (ap (λ (y : View). y.held) t.waits.same)

pub took_setup : (v x : View) (p : Part) (c : Content) → TakesInTime v p c x → x.setup ≡ v.setup
took_setup v x p c t = ap (λ (y : View). y.setup) t.takes.view ∙ ap (λ (y : View). y.setup) t.waits.same

-- ---- turns that were got

module _ (P Q : Part → Type 0) (wider : (p : Part) → P p → Q p) where
  all_wider : (got : List Part) → AllByRecursion P got → AllByRecursion Q got
  all_wider [] all = tt
  all_wider (p ∷ got) all = (wider p all.0, all_wider got all.1)

  pub got_wider : (v w : View) → GotOnly P v w → GotOnly Q v w
  got_wider v w g = record { got = g.got; won = g.won; only = all_wider g.got g.only; lost = g.lost }

  pub takes_wider : (v w : View) → TakesOnly P v w → TakesOnly Q v w
  takes_wider v w t = record { same = t.same; got = got_wider v w t.got; alone = t.alone }

  pub goes_wider : (v w : View) → Goes P v w → Goes Q v w
  goes_wider v w t = record { on = t.on; got = got_wider v w t.got; still = t.still }

module _ (P : Part → Type 0) where
  pub got_then : (v w x : View) → GotOnly P v w → GotOnly P w x → GotOnly P v x
  got_then v w x a b = got_more P v w x b.got a b.only b.won b.lost

  -- none was got
  pub got_none : (v w x : View) → GotOnly P v w → x.tries ≡ w.tries → GotOnly P v x
  got_none v w x a same = got_more P v w x [] a tt (ap (λ (t : Tries). t.won) same) (let e = ap (λ (t : Tries). t.lost) same in omega (arith, e))

  -- ---- parts that are taken

  pub takes_first : (v : View) → TakesOnly P v v
  takes_first v = record { same = refl; got = got_first P v; alone = λ lone. refl }

  pub takes_one : (v x : View) (p : Part) (c : Content) → P p → TakesInTime v p c x → TakesOnly P v x
  takes_one v x p c is t = record {
    same = subst (λ (y : View). y ≡ record v { held = y.held; cache = y.cache; tries = y.tries }) (sym t.takes.view)
        (ap (λ (y : View). record y { held = (took t.waited p c).held; cache = (took t.waited p c).cache; tries = (took t.waited p c).tries }) t.waits.same);
    got = record {
      got = p ∷ [];
      won = ap (λ (y : View). y.tries.won) t.takes.view ∙ ap (λ (l : List Part). p ∷ l) t.waits.won;
      only = (is, tt);
      lost = let e = ap (λ (y : View). y.tries.lost) t.takes.view in omega (arith, e, t.waits.lost);
    };
    alone = λ lone. subst (LostNone v) (sym (took_alone v x p c t lone)) refl;
  }

  pub takes_then : (v w x : View) → TakesOnly P v w → TakesOnly P w x → TakesOnly P v x
  takes_then v w x a b = record {
    same = b.same ∙ ap (λ (y : View). record y { held = x.held; cache = x.cache; tries = x.tries }) a.same;
    got = got_then v w x a.got b.got;
    alone = λ lone. b.alone (subst IsLone (sym a.same) lone) ∙ ap (λ (t : Tries). record t { won = x.tries.won }) (a.alone lone);
  }

  -- ---- a call that goes on

  pub going_first : (v : View) → Goes P v v
  going_first v = record { on = goes_first v; got = got_first P v; still = λ lone. refl }

  pub going_takes : (v w x : View) → Goes P v w → TakesOnly P w x → Goes P v x
  going_takes v w x g t = record {
    on = record {
      same = t.same ∙ ap (λ (y : View). record y { held = x.held; cache = x.cache; tries = x.tries }) g.on.same
          ∙ ap (λ (y : View). record v { seen = y.seen; last = y.last; held = x.held; cache = x.cache; tries = x.tries }) (sym t.same);
      longer = subst (λ (y : View). IsPrefix v.seen y.seen) (sym t.same) g.on.longer;
      tries = refl;
    };
    got = got_then v w x g.got t.got;
    still = λ lone. ap (λ (y : View). y.seen) t.same ∙ g.still lone;
  }

  pub going_looked : (v w x : View) (z : Word) → Goes P v w → Looks w z x → Goes P v x
  going_looked v w x z g looks =
      let same : x.tries ≡ w.tries = ap (λ (y : View). y.tries) looks.same in
      record {
        on = subst (λ (t : Tries). GoesOn v t x) (sym same) (goes_looked v w w.tries g.on x z looks);
        got = got_none v w x g.got same;
        still = λ lone. looks.still (lone_on v w w.tries g.on lone) ∙ g.still lone;
      }

  pub going_home : (v w x : View) (left : List Held) → Goes P v w → x ≡ holding w left → Goes P v x
  going_home v w x left g e = subst (Goes P v) (sym e) record {
    on = record { same = ap (λ (y : View). holding y left) g.on.same; longer = g.on.longer; tries = refl };
    got = record { got = g.got.got; won = g.got.won; only = g.got.only; lost = g.got.lost };
    still = g.still;
  }

  -- one after the other
  pub going_then : (v w x : View) → Goes P v w → Goes P w x → Goes P v x
  going_then v w x a b = record {
    on = record {
      same = b.on.same ∙ ap (λ (y : View). record y { seen = x.seen; last = x.last; held = x.held; cache = x.cache; tries = x.tries }) a.on.same;
      longer = prefix_through v.seen w.seen x.seen a.on.longer b.on.longer;
      tries = refl;
    };
    got = got_then v w x a.got b.got;
    still = λ lone. b.still (lone_on v w w.tries a.on lone) ∙ a.still lone;
  }

  -- it ends without having been made
  pub going_stays : (v w : View) → Goes P v w → w.held ≡ v.held → Stays v w
  going_stays v w g held = stays_from v w w.tries g.on held

  pub going_lone : (v w : View) → Goes P v w → IsLone v → IsLone w
  going_lone v w g alone = lone_on v w w.tries g.on alone

  -- what it read later it read, though it held nothing at first
  pub going_read : (v w y z : View) (word : Word) → Goes P v w → v.held ≡ [] → HasLooked w word y → IsPrefix y.seen z.seen → HasLooked v word z
  going_read v w y z word g bare has longer =
      let a : Looks (record v { seen = w.seen; last = w.last; held = w.held; cache = w.cache; tries = w.tries }) word has.mid =
      subst (λ (u : View). Looks u word has.mid) g.on.same has.looks in
      record {
        mid = loaded v word has.mid.seen;
        looks = record {
          same = refl;
          longer = prefix_through v.seen w.seen has.mid.seen g.on.longer a.longer;
          told = a.told;
          legal = a.legal;
          mine = a.mine;
          place = a.place;
          within = a.within;
          machine = a.machine;
          right = subst (λ (l : List Held). AllByRecursion (IsRight v.setup word (after v.setup.start has.mid.seen)) l) (sym bare) tt;
          still = λ lone. a.still lone ∙ g.still lone;
          others = λ root. let k = a.others root in record { given = k.given; whole = k.whole; joined = k.joined };
        };
        before = prefix_through has.mid.seen y.seen z.seen has.before longer;
      }

  -- so it lost, though it held nothing at first
  module _ (v x : View) (g : Goes P v x) (bare : v.held ≡ []) where
    own_setup : x.setup ≡ v.setup
    own_setup = ap (λ (y : View). y.setup) g.on.same

    pub going_lost : (l : Lost) (z : View) → IsLost x l z → Loses v l z
    going_lost lost.Spent z spent = (
      going_read v x z z z.last g bare (record { mid = z; looks = spent.0; before = prefix_self z.seen }) (prefix_self z.seen),
      spent.0.place ∙ (spent.1 ∙ ap (λ (s : Setup). s.limits.place_last) own_setup),
    )
    going_lost (lost.Raced r) z raced = record {
      room = subst (λ (s : Setup). r.expected.place < s.limits.place_last) own_setup raced.1;
      later = raced.2;
      read = going_read v x z z r.expected g bare raced.4 (prefix_self z.seen);
      last = ap (λ (y : View). y.last) raced.0.same;
      out = λ lone. raced.3 (lone_on v x x.tries g.on lone);
    }

  -- ---- a call that is made

  pub going_made : (v w x : View) (a : Commit) → Goes P v w → Makes w a x → WasMade P v a x
  going_made v w x a g makes =
      let made = makes_from v w w.tries g.on a x makes in
      record { made = subst (λ (t : Tries). IsMade v t a x) (sym made.tries) made; got = got_none v w x g.got made.tries }

  pub made_home : (v w x : View) (a : Commit) (left : List Held) → WasMade P v a w → x ≡ holding w left → WasMade P v a x
  made_home v w x a left m e = subst (WasMade P v a) (sym e) record {
    made = record {
      between = m.made.between;
      seen = m.made.seen;
      legal = m.made.legal;
      place_is = m.made.place_is;
      mine = m.made.mine;
      room = m.made.room;
      same = ap (λ (y : View). holding y left) m.made.same;
      tries = refl;
      last = m.made.last;
      commit = m.made.commit;
    };
    got = record { got = m.got.got; won = m.got.won; only = m.got.only; lost = m.got.lost };
  }

  pub made_placed : (v w : View) (a : Commit) → WasMade P v a w → w.held ≡ v.held → IsPlaced v a.call a.reply a.expected.place w
  made_placed v w a m held = placed_from v w w.tries a m.made held

-- a call that lost, once parts went home
pub loses_home : (v : View) (l : Lost) (z : View) (left : List Held) → Loses v l z → Loses v l (holding z left)
loses_home v lost.Spent z left l = (record { mid = l.0.mid; looks = l.0.looks; before = l.0.before }, l.1)
loses_home v (lost.Raced r) z left l = record {
  room = l.room;
  later = l.later;
  read = record { mid = l.read.mid; looks = l.read.looks; before = l.read.before };
  last = l.last;
  out = l.out;
}
