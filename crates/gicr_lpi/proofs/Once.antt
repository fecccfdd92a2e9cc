-- Turns that are tried once, one after the other, and a call over the parts that they give.
use Rattle.std.proofs.Common.{◌≡◌, ◌<◌, List, [], ◌∷◌, ◌++◌, length, Err, refl, ap, sym, ◌∙◌, subst, append_assoc}
use Rattle.std.specs.List.{AllByRecursion}
use Rattle.its_types.specs.declared.machine.Part.{Part}
use Rattle.its_plain.specs.declared.call.Call.{Call}
use Rattle.its_plain.specs.declared.call.Reply.{Reply}
use Rattle.its_steps.proofs.Lists.{prefix_through}
use Rattle.its_steps.specs.Contents.{Content, Held}
use Rattle.its_steps.specs.World.{View, Tries, took, lost_to}
use Rattle.its_turns.specs.Calls.{got_all, WasRaced, WasSpent, GoesOn, IsLost, attempt_of}
use Rattle.its_turns.specs.Steps.{IsBusy}
use Rattle.its_turns.specs.Told.{released}
use Rattle.its_turns.specs.declared.attempts.Lost.{Lost}
use Rattle.its_turns.specs.declared.attempts.Lost.TheVariants as lost
use Rattle.its_turns.specs.declared.commits.Raced.{Raced}
use Rattle.its_turns.specs.declared.turns.Busy.{Busy}
use Rattle.its_turns.proofs.Telling.{goes_first, goes_took, goes_missed, goes_released, goes_looked, goes_emptied, lone_on, looked_from, stays_from, stays_again}
use Rattle.held_parts.specs.Taking.{holding}
use Rattle.gicr_lpi.specs.Asking.{Ends}
use Rattle.gicr_lpi.specs.Tries.{GotAtOnce, FoundTaken, TriesParts}

all_both : {A : Type 0} (P : A → Type 0) (xs ys : List A) → AllByRecursion P xs → AllByRecursion P ys → AllByRecursion P (xs ++ ys)
all_both P [] ys a b = b
all_both P (x ∷ xs) ys a b = (a.0, all_both P xs ys a.1 b)

-- these were got, and before them those
both_got : (now before : List Part) (t : Tries) → got_all now (got_all before t) ≡ got_all (now ++ before) t
both_got now before t = ap (λ (l : List Part). record t { won = l }) (sym (append_assoc now before t.won))

goes_holding : (v y z : View) (t : Tries) (left : List Held) → GoesOn v t y → z ≡ holding y left → GoesOn v t z
goes_holding v y z t left on home = subst (GoesOn v t) (sym home)
    record { same = ap (λ (u : View). holding u left) on.same; longer = on.longer; tries = on.tries }

module _ (P : Part → Type 0) where
  pub once_first : (v : View) → GotAtOnce P v v
  once_first v = record { got = []; only = tt; on = goes_first v }

  -- ---- turn after turn

  module _ (v w : View) (g : GotAtOnce P v w) where
    abbrev t : Tries
    t = got_all g.got v.tries

    pub once_took : (x : View) (p : Part) (c : Content) → P p → x ≡ took w p c → GotAtOnce P v x
    once_took x p c is e = record { got = p ∷ g.got; only = (is, g.only); on = goes_took v w t g.on x p c e }

    pub once_home : (x : View) → x ≡ released w → GotAtOnce P v x
    once_home x e = record { got = g.got; only = g.only; on = goes_released v w t g.on x e }

    -- the next one was another pass's, and all went home
    pub once_busy : (x : View) (p : Part) (b : Busy) → P p → IsBusy w p b x → (z : View) (left : List Held) → z ≡ holding x left → left ≡ v.held
        → FoundTaken P v b z
    once_busy x p b is busy z left home same =
        let back = goes_holding v x z (lost_to t p b.holder) left (goes_missed v w t g.on x p b.holder busy.view) home in
        record {
          got = g.got;
          only = g.only;
          part = subst P (sym busy.part) is;
          busy = record {
            stays = stays_from v z (lost_to t p b.holder) back (ap (λ (u : View). u.held) home ∙ same);
            tries = back.tries ∙ ap (λ (k : Part). lost_to t k b.holder) (sym busy.part);
            another = λ e. busy.another (e ∙ sym (ap (λ (u : View). u.number) g.on.same));
            out = λ alone. busy.out (lone_on v w t g.on alone);
          };
        }

    -- what was tried after that
    pub once_then : (x : View) → GotAtOnce P w x → GotAtOnce P v x
    once_then x h = record {
      got = h.got ++ g.got;
      only = all_both P h.got g.got h.only g.only;
      on = record {
        same = h.on.same ∙ ap (λ (u : View). record u { seen = x.seen; last = x.last; held = x.held; cache = x.cache; tries = x.tries }) g.on.same;
        longer = prefix_through v.seen w.seen x.seen g.on.longer h.on.longer;
        tries = h.on.tries ∙ (ap (got_all h.got) g.on.tries ∙ both_got h.got g.got v.tries);
      };
    }

    pub taken_then : w.held ≡ v.held → (b : Busy) (x : View) → FoundTaken P w b x → FoundTaken P v b x
    taken_then same b x f = record {
      got = f.got ++ g.got;
      only = all_both P f.got g.got f.only g.only;
      part = f.part;
      busy = record {
        stays = stays_again v w x (stays_from v w t g.on same) f.busy.stays;
        tries = f.busy.tries
            ∙ ap (λ (k : Tries). lost_to k b.part b.holder) (ap (got_all f.got) g.on.tries ∙ both_got f.got g.got v.tries);
        another = λ e. f.busy.another (e ∙ sym (ap (λ (u : View). u.number) g.on.same));
        out = λ alone. f.busy.out (lone_on v w t g.on alone);
      };
    }

  pub first_busy : (v x : View) (p : Part) (b : Busy) → P p → IsBusy v p b x → FoundTaken P v b x
  first_busy v x p b is busy = once_busy v v (once_first v) x p b is busy x x.held refl (ap (λ (u : View). u.held) busy.view)

  -- ---- from the commit on

  module _ (v x : View) (g : GotAtOnce P v x) (bare : v.held ≡ []) where
    abbrev u : Tries
    u = got_all g.got v.tries

    empty_home : (y z : View) → z ≡ holding y [] → z.held ≡ v.held
    empty_home y z home = ap (λ (k : View). k.held) home ∙ sym bare

    once_spent : (y z : View) → IsLost x lost.Spent y → z ≡ holding y [] → WasSpent v g.got z
    once_spent y z spent home =
        let back = goes_emptied v y u (goes_looked v x u g.on y y.last spent.0) z home in
        record {
          stays = stays_from v z u back (empty_home y z home);
          tries = back.tries;
          spent = ap (λ (k : View). length k.seen) home ∙ (spent.0.place ∙ (spent.1 ∙ ap (λ (k : View). k.setup.limits.place_last) g.on.same));
        }

    once_raced : (r : Raced) (y z : View) → IsLost x (lost.Raced r) y → z ≡ holding y [] → WasRaced v g.got r z
    once_raced r y z raced home =
        let back = goes_emptied v y u (goes_looked v x u g.on y r.found raced.0) z home in
        record {
          stays = stays_from v z u back (empty_home y z home);
          tries = back.tries;
          room = subst (λ (k : View). r.expected.place < k.setup.limits.place_last) g.on.same raced.1;
          later = raced.2;
          read = looked_from v x u g.on (λ Q all. subst (λ (l : List Held). AllByRecursion Q l) (sym bare) tt)
              (λ alone. raced.3 (lone_on v x u g.on alone)) r.expected y z raced.4 (sym (ap (λ (k : View). k.seen) home));
          last = ap (λ (k : View). k.last) home ∙ ap (λ (k : View). k.last) raced.0.same;
          out = λ alone. raced.3 (lone_on v x u g.on alone);
        }

    pub once_lost : {T : Type 0} (c : Call) (reply : T → Reply) (z : View) (l : Lost) → Ends x c reply z (Err l) → TriesParts P v c reply z (attempt_of l)
    once_lost c reply z lost.Spent e = (g.got, g.only, once_spent e.0 z e.1 e.2)
    once_lost c reply z (lost.Raced r) e = (g.got, g.only, once_raced r e.0 z e.1 e.2)
