-- Calls that need one part: tried once, and asked for again and again.
use Rattle.std.proofs.Common.{◌≡◌, ℕ, ◌<◌, List, [], ◌∷◌, length, refl, ap, sym, ◌∙◌, subst, arith}
use Rattle.std.specs.List.{AllByRecursion}
use Rattle.its_types.specs.declared.machine.Part.{Part}
use Rattle.its_plain.specs.declared.call.Call.{Call}
use Rattle.its_plain.specs.declared.call.Reply.{Reply}
use Rattle.its_steps.specs.World.{View, Tries, took, out, lost_to}
use Rattle.its_steps.specs.declared.change.ShardChange.TheVariants.{Keep}
use Rattle.its_steps.specs.Contents.{Content, Held}
use Rattle.its_turns.specs.Calls.{Stays, IsPlaced, Leaves, got_all, WasBusy, WasRaced, WasSpent, GotOnly, StillAsks, TriesPart, attempt_of, GoesOn, Makes}
use Rattle.its_turns.specs.Calls.{IsLost, GaveUp}
use Rattle.its_turns.specs.Contents.{held_before}
use Rattle.its_turns.specs.Steps.{IsBusy}
use Rattle.its_turns.specs.Told.{IsLone, released}
use Rattle.its_turns.specs.declared.attempts.Lost.{Lost}
use Rattle.its_turns.specs.declared.attempts.Lost.TheVariants as lost
use Rattle.its_turns.specs.declared.commits.Raced.{Raced}
use Rattle.its_steps.specs.declared.commit.Commit.{Commit}
use Rattle.its_turns.specs.declared.turns.Busy.{Busy}
use Rattle.its_turns.proofs.Steps.{looked_held}
use Rattle.its_turns.proofs.Going.{goes_first, goes_took, goes_missed, goes_released, goes_looked, looked_from, stays_from, makes_from, made_released}
use Rattle.its_turns.proofs.Going.{placed_from, leaves_from}
use Rattle.its_turns.proofs.Again.{stays_first, stays_again, placed_again, got_first, got_more}

-- ---- one part, tried once

module _ (v : View) (p : Part) where
  pub one_busy : (b : Busy) (x : View) → IsBusy v p b x → (b.part ≡ p) × WasBusy v [] b x
  one_busy b x busy =
      let on = goes_missed v v v.tries (goes_first v) x p b.holder busy.view in (
        busy.part,
        record {
          stays = stays_from v x (lost_to v.tries p b.holder) on (ap (λ (y : View). y.held) busy.view);
          tries = on.tries ∙ ap (λ (q : Part). lost_to v.tries q b.holder) (sym busy.part);
          another = busy.another;
          out = busy.out;
        },
      )

  module _ (c : Content) (x : View) (took_is : x ≡ took v p c) where
    abbrev t : Tries
    t = got_all (p ∷ []) v.tries

    pub one_held : v.held ≡ [] → x.held ≡ out p c ∷ []
    one_held bare = ap (λ (u : View). u.held) took_is ∙ ap (λ (l : List Held). out p c ∷ l) bare

    on : GoesOn v t x
    on = goes_took v v v.tries (goes_first v) x p c took_is

    home_again : (y z : View) → y.held ≡ x.held → z ≡ released y → z.held ≡ v.held
    home_again y z same home = ap (λ (u : View). u.held) home ∙ ap (λ (l : List Held). held_before l) (same ∙ ap (λ (u : View). u.held) took_is)

    pub one_given_up : (z : View) → z ≡ released x → GaveUp v (p ∷ []) z
    one_given_up z home = let here = goes_released v x t on z home in
        record { stays = stays_from v z t here (home_again x z refl home); tries = here.tries }

    pub one_spent : (y z : View) → IsLost x lost.Spent y → z ≡ released y → WasSpent v (p ∷ []) z
    one_spent y z spent home =
        let here = goes_released v y t (goes_looked v x t on y y.last spent.0) z home in
        record {
          stays = stays_from v z t here (home_again y z (looked_held x y y.last spent.0) home);
          tries = here.tries;
          spent = ap (λ (u : View). length u.seen) home ∙ (spent.0.place ∙ (spent.1 ∙ ap (λ (u : View). u.setup.limits.place_last) took_is));
        }

    pub one_raced : (r : Raced) (y z : View) → IsLost x (lost.Raced r) y → z ≡ released y → WasRaced v (p ∷ []) r z
    one_raced r y z raced home =
        let here = goes_released v y t (goes_looked v x t on y r.found raced.0) z home in
        record {
          stays = stays_from v z t here (home_again y z (looked_held x y r.found raced.0) home);
          tries = here.tries;
          room = subst (λ (u : View). r.expected.place < u.setup.limits.place_last) took_is raced.1;
          later = raced.2;
          read = looked_from v x t on (λ P all. (subst (λ (u : View). AllByRecursion P u.held) took_is all).1)
              (λ alone. raced.3 (subst IsLone (sym took_is) alone)) r.expected y z raced.4 (sym (ap (λ (u : View). u.seen) home));
          last = ap (λ (u : View). u.last) home ∙ ap (λ (u : View). u.last) raced.0.same;
          out = λ alone. raced.3 (subst IsLone (sym took_is) alone);
        }

    pub one_lost : {T : Type 0} (call : Call) (reply : T → Reply) (l : Lost) (y z : View) → IsLost x l y → z ≡ released y
        → TriesPart v p call reply z (attempt_of l)
    one_lost call reply lost.Spent y z spent home = one_spent y z spent home
    one_lost call reply (lost.Raced r) y z raced home = one_raced r y z raced home

    pub one_done : (a : Commit) (c' : Content) (y z : View) → a.stamp ≡ a.expected.stamp → Makes x a y → y.held ≡ out p c' ∷ v.held → z ≡ released y
        → IsPlaced v a.call a.reply a.expected.place z × Leaves a.change z × (z.tries ≡ t)
    one_done a c' y z same makes owes home =
        let made = made_released v y t a (makes_from v x t on a y makes) z home in (
          placed_from v z t a made (ap (λ (u : View). u.held) home ∙ ap (λ (l : List Held). held_before l) owes),
          leaves_from v z t a made same,
          made.tries,
        )

-- ---- one part, asked for again and again

pub asks_first : (P : Part → Type 0) (v : View) → StillAsks P v v
asks_first P v = record { stays = stays_first v; got = got_first P v }

module _ (v w : View) (p : Part) (asks : StillAsks (λ q. q ≡ p) v w) where
  pub again_busy : (b : Busy) (x : View) → (b.part ≡ p) × WasBusy w [] b x → StillAsks (λ q. q ≡ p) v x
  again_busy b x busy = record {
    stays = stays_again v w x asks.stays busy.1.stays;
    got = got_more (λ q. q ≡ p) v w x [] asks.got tt (ap (λ (t : Tries). t.won) busy.1.tries) (let more = ap (λ (t : Tries). t.lost) busy.1.tries in omega
        (arith, more));
  }

  pub again_raced : (r : Raced) (x : View) → WasRaced w (p ∷ []) r x → StillAsks (λ q. q ≡ p) v x
  again_raced r x raced = record {
    stays = stays_again v w x asks.stays raced.stays;
    got = got_more (λ q. q ≡ p) v w x (p ∷ []) asks.got (refl, tt) (ap (λ (t : Tries). t.won) raced.tries)
        (let same = ap (λ (t : Tries). t.lost) raced.tries in omega (arith, same));
  }

  pub asked_spent : (x : View) → WasSpent w (p ∷ []) x → Stays v x × (length x.seen ≡ v.setup.limits.place_last) × GotOnly (λ q. q ≡ p) v x
  asked_spent x spent = (
    stays_again v w x asks.stays spent.stays,
    spent.spent ∙ ap (λ (y : View). y.setup.limits.place_last) asks.stays.same,
    got_more (λ q. q ≡ p) v w x (p ∷ []) asks.got (refl, tt) (ap (λ (t : Tries). t.won) spent.tries) (let same = ap (λ (t : Tries). t.lost) spent.tries in omega
        (arith, same)),
  )

  pub asked_given_up : (x : View) → GaveUp w (p ∷ []) x → Stays v x × GotOnly (λ q. q ≡ p) v x
  asked_given_up x up = (
    stays_again v w x asks.stays up.stays,
    got_more (λ q. q ≡ p) v w x (p ∷ []) asks.got (refl, tt) (ap (λ (t : Tries). t.won) up.tries) (let same = ap (λ (t : Tries). t.lost) up.tries in omega
        (arith, same)),
  )

  pub asked_done : (c : Call) (r : Reply) (place : ℕ) (x : View) → IsPlaced w c r place x × Leaves Keep x × (x.tries ≡ got_all (p ∷ []) w.tries)
      → IsPlaced v c r place x × Leaves Keep x × GotOnly (λ q. q ≡ p) v x
  asked_done c r place x done = (
    placed_again v w x c r place asks.stays done.0,
    done.1,
    got_more (λ q. q ≡ p) v w x (p ∷ []) asks.got (refl, tt) (ap (λ (t : Tries). t.won) done.2) (let same = ap (λ (t : Tries). t.lost) done.2 in omega
        (arith, same)),
  )
