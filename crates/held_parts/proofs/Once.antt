-- Turns that are tried once, one after the other.
use Rattle.std.proofs.Common.{◌≡◌, List, [], ◌∷◌, ◌++◌, refl, ap, sym, ◌∙◌, subst, arith, append_assoc}
use Rattle.std.specs.List.{AllByRecursion}
use Rattle.its_types.specs.declared.machine.Part.{Part}
use Rattle.its_steps.specs.Contents.{Content}
use Rattle.its_steps.specs.World.{View, Tries, out, lost_to}
use Rattle.its_turns.specs.Calls.{got_all}
use Rattle.its_turns.specs.Steps.{TakesPart, IsBusy}
use Rattle.its_turns.specs.Told.{IsLone}
use Rattle.its_turns.specs.declared.turns.Busy.{Busy}
use Rattle.held_parts.specs.Once.{TakesAtOnce, FindsBusy}
use Rattle.held_parts.specs.Taking.{TakesInTime, TakesOnly, LostNone, holding}
use Rattle.held_parts.proofs.Going.{waits_first}

pub all_both : {A : Type 0} (P : A → Type 0) (xs ys : List A) → AllByRecursion P xs → AllByRecursion P ys → AllByRecursion P (xs ++ ys)
all_both P [] ys a b = b
all_both P (x ∷ xs) ys a b = (a.0, all_both P xs ys a.1 b)

pub all_wider : {A : Type 0} (P Q : A → Type 0) (wider : (p : A) → P p → Q p) (xs : List A) → AllByRecursion P xs → AllByRecursion Q xs
all_wider P Q wider [] all = tt
all_wider P Q wider (x ∷ xs) all = (wider x all.0, all_wider P Q wider xs all.1)

-- these were got, and before them those
pub both_got : (now before : List Part) (t : Tries) → got_all now (got_all before t) ≡ got_all (now ++ before) t
both_got now before t = ap (λ (l : List Part). record t { won = l }) (sym (append_assoc now before t.won))

-- one that was got at once was got in time
pub got_in_time : (v x : View) (p : Part) (c : Content) → TakesPart v p c x → TakesInTime v p c x
got_in_time v x p c takes = record { waited = v; waits = waits_first v; takes = takes }

-- what is held then
pub got_held : (v x : View) (p : Part) (c : Content) → TakesPart v p c x → x.held ≡ out p c ∷ v.held
got_held v x p c takes = ap (λ (y : View). y.held) takes.view

-- no try was lost
pub none_lost : (P : Part → Type 0) (v w : View) → TakesAtOnce P v w → LostNone v w
none_lost P v w t = t.tries ∙ ap (λ (l : List Part). record v.tries { won = l }) (sym (ap (λ (s : Tries). s.won) t.tries))

-- ---- wider

module _ (P Q : Part → Type 0) (wider : (p : Part) → P p → Q p) where
  pub once_wider : (v w : View) → TakesAtOnce P v w → TakesAtOnce Q v w
  once_wider v w t = record { same = t.same; got = t.got; only = all_wider P Q wider t.got t.only; tries = t.tries }

  pub busy_wider : (v w : View) (b : Busy) → FindsBusy P v b w → FindsBusy Q v b w
  busy_wider v w b f = record {
    same = f.same;
    part = wider b.part f.part;
    got = f.got;
    only = all_wider P Q wider f.got f.only;
    tries = f.tries;
    another = f.another;
    out = f.out;
  }

module _ (P : Part → Type 0) where
  pub once_first : (v : View) → TakesAtOnce P v v
  once_first v = record { same = refl; got = []; only = tt; tries = refl }

  pub once_one : (v x : View) (p : Part) (c : Content) → P p → TakesPart v p c x → TakesAtOnce P v x
  once_one v x p c is takes = subst (TakesAtOnce P v) (sym takes.view) record { same = refl; got = p ∷ []; only = (is, tt); tries = refl }

  pub once_then : (v w x : View) → TakesAtOnce P v w → TakesAtOnce P w x → TakesAtOnce P v x
  once_then v w x a b = record {
    same = b.same ∙ ap (λ (y : View). record y { held = x.held; cache = x.cache; tries = x.tries }) a.same;
    got = b.got ++ a.got;
    only = all_both P b.got a.got b.only a.only;
    tries = b.tries ∙ (ap (got_all b.got) a.tries ∙ both_got b.got a.got v.tries);
  }

  -- so they were taken
  pub once_takes : (v w : View) → TakesAtOnce P v w → TakesOnly P v w
  once_takes v w t = record {
    same = t.same;
    got = record {
      got = t.got;
      won = ap (λ (s : Tries). s.won) t.tries;
      only = t.only;
      lost = (let e = ap (λ (s : Tries). s.lost) t.tries in omega (arith, e));
    };
    alone = λ lone. none_lost P v w t;
  }

  pub busy_one : (v x : View) (p : Part) (b : Busy) → P p → IsBusy v p b x → FindsBusy P v b x
  busy_one v x p b is busy = subst (FindsBusy P v b) (sym busy.view) record {
    same = refl;
    part = subst P (sym busy.part) is;
    got = [];
    only = tt;
    tries = ap (λ (q : Part). lost_to v.tries q b.holder) (sym busy.part);
    another = busy.another;
    out = busy.out;
  }

  -- those that were got before it went home
  pub busy_then : (v w x y : View) (b : Busy) → TakesAtOnce P v w → FindsBusy P w b x → y ≡ holding x v.held → FindsBusy P v b y
  busy_then v w x y b a f home = subst (FindsBusy P v b) (sym home) record {
    same = ap (λ (z : View). holding z v.held) f.same
        ∙ ap (λ (z : View). record z { held = v.held; cache = x.cache; tries = x.tries }) a.same;
    part = f.part;
    got = f.got ++ a.got;
    only = all_both P f.got a.got f.only a.only;
    tries = f.tries ∙ ap (λ (t : Tries). lost_to t b.part b.holder) (ap (got_all f.got) a.tries ∙ both_got f.got a.got v.tries);
    another = λ e. f.another (e ∙ sym (ap (λ (z : View). z.number) a.same));
    out = λ lone. f.out (subst IsLone (sym a.same) lone);
  }

-- then the pass holds what it held
pub busy_held : (P : Part → Type 0) (v w : View) (b : Busy) → FindsBusy P v b w → w.held ≡ v.held
busy_held P v w b f = ap (λ (z : View). z.held) f.same
