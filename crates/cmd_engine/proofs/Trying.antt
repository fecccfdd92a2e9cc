-- A call that tries each turn once: how it goes on, is given up, and what it tells of its pass.
use Rattle.std.proofs.Common.{◌≡◌, ℕ, List, [], ◌∷◌, ◌++◌, Result, Ok, Err, refl, ap, sym, ◌∙◌, subst, arith}
use Rattle.its_types.specs.declared.machine.Part.{Part}
use Rattle.its_types.specs.declared.machine.Placed.{Placed}
use Rattle.its_types.specs.declared.machine.Word.{Word}
use mathlib.Core.List.{IsPrefix}
use Rattle.its_plain.specs.declared.call.Entry.{Entry}
use Rattle.its_steps.proofs.Lists.{prefix_self}
use Rattle.its_plain.specs.declared.call.Call.{Call}
use Rattle.its_plain.specs.declared.call.Reply.{Reply}
use Rattle.its_steps.specs.Contents.{Content, Held}
use Rattle.its_steps.specs.Endings.{Ending, Nothing}
use Rattle.its_steps.specs.Parts.{Setup}
use Rattle.its_steps.specs.World.{View, Tries, lost_to}
use Rattle.its_turns.specs.Calls.{got_all}
use Rattle.its_turns.specs.Steps.{TakesPart, IsBusy}
use Rattle.its_turns.specs.Told.{Looks}
use Rattle.its_turns.specs.declared.turns.Busy.{Busy}
use Rattle.its_turns.proofs.Telling.{goes_first, goes_took, goes_looked, lone_on}
use Rattle.held_parts.specs.Once.{TakesAtOnce, FindsBusy}
use Rattle.held_parts.specs.Taking.{Goes, holding}
use Rattle.held_parts.proofs.Going.{going_first, going_then, going_home, going_stays, goes_wider}
use Rattle.held_parts.proofs.Once.{all_both, all_wider, both_got, busy_one}
use Rattle.cmd_engine.specs.Telling.{Comes}
use Rattle.cmd_engine.specs.Tries.{GoesAtOnce, GivesUp, GetsShards, GotAll, ComesOnce, TriesOnce, WasMissed, tried_of}
use Rattle.cmd_engine.specs.Hands.{IsOfTranslator}
use Rattle.cmd_engine.specs.declared.cached.Cached.{Cached}
use Rattle.cmd_engine.specs.declared.cached.Cached.TheVariants as cached
use Rattle.cmd_engine.specs.declared.missed.Missed.{Missed}
use Rattle.cmd_engine.specs.declared.missed.Missed.TheVariants as missed
use Rattle.cmd_engine.proofs.Came.{asks_made, came_home}

-- ---- wider

module _ (P Q : Part → Type 0) (wider : (p : Part) → P p → Q p) where
  pub once_goes_wider : (v w : View) → GoesAtOnce P v w → GoesAtOnce Q v w
  once_goes_wider v w g = record { got = g.got; only = all_wider P Q wider g.got g.only; on = g.on; still = g.still }

  pub gives_up_wider : (v w : View) (b : Busy) → GivesUp P v b w → GivesUp Q v b w
  gives_up_wider v w b g = record {
    goes = goes_wider P Q wider v w g.goes;
    part = wider b.part g.part;
    got = g.got;
    only = all_wider P Q wider g.got g.only;
    tries = g.tries;
    another = g.another;
    out = g.out;
  }

module _ (P : Part → Type 0) where
  -- ---- it goes on

  pub at_once_first : (v : View) → GoesAtOnce P v v
  at_once_first v = record { got = []; only = tt; on = goes_first v; still = λ lone. refl }

  pub at_once_goes : (v w : View) → GoesAtOnce P v w → Goes P v w
  at_once_goes v w g = record {
    on = record { same = g.on.same; longer = g.on.longer; tries = refl };
    got = record {
      got = g.got;
      won = ap (λ (t : Tries). t.won) g.on.tries;
      only = g.only;
      lost = (let e = ap (λ (t : Tries). t.lost) g.on.tries in omega (arith, e));
    };
    still = g.still;
  }

  pub at_once_took : (v w x : View) (p : Part) (c : Content) → GoesAtOnce P v w → P p → TakesPart w p c x → GoesAtOnce P v x
  at_once_took v w x p c g is takes = record {
    got = p ∷ g.got;
    only = (is, g.only);
    on = goes_took v w (got_all g.got v.tries) g.on x p c takes.view;
    still = λ lone. ap (λ (y : View). y.seen) takes.view ∙ g.still lone;
  }

  pub at_once_looked : (v w x : View) (z : Word) → GoesAtOnce P v w → Looks w z x → GoesAtOnce P v x
  at_once_looked v w x z g looks = record {
    got = g.got;
    only = g.only;
    on = goes_looked v w (got_all g.got v.tries) g.on x z looks;
    still = λ lone. looks.still (lone_on v w (got_all g.got v.tries) g.on lone) ∙ g.still lone;
  }

  -- one after the other
  pub at_once_then : (v w x : View) → GoesAtOnce P v w → GoesAtOnce P w x → GoesAtOnce P v x
  at_once_then v w x a b =
      let all : Goes P v x = going_then P v w x (at_once_goes v w a) (at_once_goes w x b) in
      record {
        got = b.got ++ a.got;
        only = all_both P b.got a.got b.only a.only;
        on = record {
          same = all.on.same;
          longer = all.on.longer;
          tries = b.on.tries ∙ (ap (got_all b.got) a.on.tries ∙ both_got b.got a.got v.tries);
        };
        still = all.still;
      }

  -- and what follows tries none
  pub at_once_got : (v w x : View) → GoesAtOnce P v w → x.tries ≡ w.tries → GotAll P v x
  at_once_got v w x g same = record { got = g.got; only = g.only; tries = same ∙ g.on.tries }

  pub takes_goes : (v w : View) → TakesAtOnce P v w → GoesAtOnce P v w
  takes_goes v w t = record {
    got = t.got;
    only = t.only;
    on = record {
      same = t.same ∙ ap (λ (y : View). record v { seen = y.seen; last = y.last; held = w.held; cache = w.cache; tries = w.tries }) (sym t.same);
      longer = subst (λ (l : List Entry). IsPrefix v.seen l) (sym (ap (λ (y : View). y.seen) t.same)) (prefix_self v.seen);
      tries = t.tries;
    };
    still = λ lone. ap (λ (y : View). y.seen) t.same;
  }

  -- ---- it is given up

  pub gave_first : (v w : View) (b : Busy) → FindsBusy P v b w → GivesUp P v b w
  gave_first v w b f = record {
    goes = record {
      on = record {
        same = f.same ∙ ap (λ (y : View). record v { seen = y.seen; last = y.last; held = y.held; cache = w.cache; tries = w.tries }) (sym f.same);
        longer = subst (λ (l : List Entry). IsPrefix v.seen l) (sym (ap (λ (y : View). y.seen) f.same)) (prefix_self v.seen);
        tries = refl;
      };
      got = record {
        got = f.got;
        won = ap (λ (t : Tries). t.won) f.tries;
        only = f.only;
        lost = (let e = ap (λ (t : Tries). t.lost) f.tries in omega (arith, e));
      };
      still = λ lone. ap (λ (y : View). y.seen) f.same;
    };
    part = f.part;
    got = f.got;
    only = f.only;
    tries = f.tries;
    another = f.another;
    out = f.out;
  }

  pub gave_one : (v x : View) (p : Part) (b : Busy) → P p → IsBusy v p b x → GivesUp P v b x
  gave_one v x p b is busy = gave_first v x b (busy_one P v x p b is busy)

  -- after turns that it got
  pub gave_then : (v w x : View) (b : Busy) → GoesAtOnce P v w → GivesUp P w b x → GivesUp P v b x
  gave_then v w x b a g = record {
    goes = going_then P v w x (at_once_goes v w a) g.goes;
    part = g.part;
    got = g.got ++ a.got;
    only = all_both P g.got a.got g.only a.only;
    tries = g.tries ∙ ap (λ (t : Tries). lost_to t b.part b.holder) (ap (got_all g.got) a.on.tries ∙ both_got g.got a.got v.tries);
    another = λ e. g.another (e ∙ sym (ap (λ (y : View). y.number) a.on.same));
    out = λ lone. g.out (lone_on v w (got_all a.got v.tries) a.on lone);
  }

  -- what was got went home
  pub gave_home : (v w x : View) (b : Busy) (left : List Held) → GivesUp P v b w → x ≡ holding w left → GivesUp P v b x
  gave_home v w x b left g e = record {
    goes = going_home P v w x left g.goes e;
    part = g.part;
    got = g.got;
    only = g.only;
    tries = ap (λ (y : View). y.tries) e ∙ g.tries;
    another = g.another;
    out = g.out;
  }

  -- ---- the whole try

  pub once_home : {T : Type 0} (v w x : View) (c : Call) (reply : T → Reply) (r : Result (Result (Placed T) Missed) Busy) (left : List Held)
      → ComesOnce P v c reply w r → x ≡ holding w left → ComesOnce P v c reply x r
  once_home v w x c reply (Ok r) left came e = (
    came_home P v w x c reply r left came.0 e,
    record { got = came.1.got; only = came.1.only; tries = ap (λ (y : View). y.tries) e ∙ came.1.tries },
  )
  once_home v w x c reply (Err b) left came e = gave_home v w x b left came e

  module _ {T : Type 0} (v w : View) (bare : v.held ≡ []) (home : w.held ≡ []) (c : Call) (reply : T → Reply) where
    was_missed : (m : Missed) → Comes {T = T} P v c reply w (Err m) → GotAll P v w → WasMissed P v c m w
    was_missed m came got = record { stays = going_stays P v w came.0 (home ∙ sym bare); got = got; why = came.1 }

    -- is answered so
    pub tries_once : (r : Result (Result (Placed T) Missed) Busy) → ComesOnce P v c reply w r → TriesOnce P v c reply w (tried_of r)
    tries_once (Ok (Ok p)) came = ((asks_made P v v w bare (going_first P v) c reply home p came.0).0, came.1)
    tries_once (Ok (Err missed.Spent)) came = was_missed missed.Spent came.0 came.1
    tries_once (Ok (Err missed.NoMemory)) came = was_missed missed.NoMemory came.0 came.1
    tries_once (Ok (Err missed.Full)) came = was_missed missed.Full came.0 came.1
    tries_once (Ok (Err (missed.Raced r))) came = was_missed (missed.Raced r) came.0 came.1
    tries_once (Ok (Err missed.Late)) came = was_missed missed.Late came.0 came.1
    tries_once (Err b) came = record {
      part = came.part;
      got = came.got;
      only = came.only;
      busy = record { stays = going_stays P v w came.goes (home ∙ sym bare); tries = came.tries; another = came.another; out = came.out };
    }

-- a call that ends nothing needs no shard
pub gets_none : (s : Setup) (its : ℕ) (e : Ending) (h : Cached) (v : View) → h ≡ cached.Nothing → e ≡ Nothing → GetsShards s its e h v v
gets_none s its e h v is none = subst (λ (p : Cached × Ending). GetsShards s its p.1 p.0 v v) (λ d. (sym is d, sym none d)) record {
  goes = at_once_first (IsOfTranslator its) v;
  held = refl;
  whole = tt;
  ends = refl;
  low = λ any. absurd any;
}
