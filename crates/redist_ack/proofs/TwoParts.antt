-- Calls that need two parts: tried once, and asked for again and again.
use Rattle.std.proofs.Common.{◌≡◌, ◌⊎◌, inl, inr, ℕ, ◌<◌, ◌≤◌, List, [], ◌∷◌, ◌++◌, length, refl, ap, sym, ◌∙◌, subst, arith}
use Rattle.std.specs.List.{AllByRecursion}
use Rattle.its_types.specs.declared.machine.Part.{Part}
use Rattle.its_plain.specs.declared.call.Call.{Call}
use Rattle.its_plain.specs.declared.call.Reply.{Reply}
use Rattle.its_steps.specs.World.{View, Tries, took, out, lost_to}
use Rattle.its_steps.specs.declared.change.ShardChange.TheVariants.{Keep}
use Rattle.its_steps.specs.declared.commit.Commit.{Commit}
use Rattle.its_steps.specs.Contents.{Content, Held}
use Rattle.its_turns.specs.Calls.{Stays, IsPlaced, Leaves, got_all, WasBusy, WasRaced, WasSpent, GotOnly, StillAsks, TriesBoth, IsEither, attempt_of, GoesOn}
use Rattle.its_turns.specs.Calls.{Makes, IsLost}
use Rattle.its_turns.specs.Contents.{held_before}
use Rattle.its_turns.specs.Steps.{IsBusy}
use Rattle.its_turns.specs.Told.{IsLone, released}
use Rattle.its_turns.specs.declared.attempts.Lost.{Lost}
use Rattle.its_turns.specs.declared.attempts.Lost.TheVariants as lost
use Rattle.its_turns.specs.declared.commits.Raced.{Raced}
use Rattle.its_turns.specs.declared.turns.Busy.{Busy}
use Rattle.its_turns.proofs.Telling.{looked_held, goes_first, goes_took, goes_missed, goes_released, goes_looked, lone_on, looked_from, stays_from, makes_from}
use Rattle.its_turns.proofs.Telling.{made_released, placed_from, leaves_from, stays_again, placed_again, got_more}

-- ---- two parts, tried once

module _ (v : View) (p q : Part) (c : Content) where
  -- the first was got and given back, since another pass has the second
  pub second_busy : (x : View) → x ≡ took v p c → (b : Busy) (y : View) → IsBusy x q b y → (z : View) → z ≡ released y
      → (b.part ≡ q) × WasBusy v (p ∷ []) b z
  second_busy x took_is b y busy z home =
      let t : Tries = got_all (p ∷ []) v.tries in
      let on : GoesOn v t x = goes_took v v v.tries (goes_first v) x p c took_is in
      let missed = goes_missed v x t on y q b.holder busy.view in
      let back = goes_released v y (lost_to t q b.holder) missed z home in
      let held : z.held ≡ v.held = ap (λ (u : View). u.held) home
      ∙ ap (λ (l : List Held). held_before l) (ap (λ (u : View). u.held) busy.view ∙ ap (λ (u : View). u.held) took_is) in (
        busy.part,
        record {
          stays = stays_from v z (lost_to t q b.holder) back held;
          tries = back.tries ∙ ap (λ (k : Part). lost_to t k b.holder) (sym busy.part);
          another = λ same. busy.another (same ∙ ap (λ (u : View). u.number) (sym took_is));
          out = λ alone. busy.out (lone_on v x t on alone);
        },
      )

  module _ (d : Content) (x : View) (took_is : x ≡ took (took v p c) q d) where
    abbrev t : Tries
    t = got_all (q ∷ p ∷ []) v.tries

    pub both_held : v.held ≡ [] → x.held ≡ out q d ∷ out p c ∷ []
    both_held bare = ap (λ (u : View). u.held) took_is ∙ ap (λ (l : List Held). out q d ∷ out p c ∷ l) bare

    on : GoesOn v t x
    on = goes_took v (took v p c) (got_all (p ∷ []) v.tries) (goes_took v v v.tries (goes_first v) (took v p c) p c refl) x q d took_is

    home_again : (y z : View) → y.held ≡ x.held → z ≡ released (released y) → z.held ≡ v.held
    home_again y z same home =
        ap (λ (u : View). u.held) home
        ∙ ap (λ (l : List Held). held_before (held_before l)) (same ∙ ap (λ (u : View). u.held) took_is)

    -- both were given back
    back : (y z : View) → GoesOn v t y → z ≡ released (released y) → GoesOn v t z
    back y z here home = goes_released v (released y) t (goes_released v y t here (released y) refl) z home

    both_spent : (y z : View) → IsLost x lost.Spent y → z ≡ released (released y) → WasSpent v (q ∷ p ∷ []) z
    both_spent y z spent home =
        let here = back y z (goes_looked v x t on y y.last spent.0) home in
        record {
          stays = stays_from v z t here (home_again y z (looked_held x y y.last spent.0) home);
          tries = here.tries;
          spent = ap (λ (u : View). length u.seen) home ∙ (spent.0.place ∙ (spent.1 ∙ ap (λ (u : View). u.setup.limits.place_last) took_is));
        }

    both_raced : (r : Raced) (y z : View) → IsLost x (lost.Raced r) y → z ≡ released (released y) → WasRaced v (q ∷ p ∷ []) r z
    both_raced r y z raced home =
        let here = back y z (goes_looked v x t on y r.found raced.0) home in
        record {
          stays = stays_from v z t here (home_again y z (looked_held x y r.found raced.0) home);
          tries = here.tries;
          room = subst (λ (u : View). r.expected.place < u.setup.limits.place_last) took_is raced.1;
          later = raced.2;
          read = looked_from v x t on (λ P all. (subst (λ (u : View). AllByRecursion P u.held) took_is all).1.1)
              (λ alone. raced.3 (subst IsLone (sym took_is) alone)) r.expected y z raced.4 (sym (ap (λ (u : View). u.seen) home));
          last = ap (λ (u : View). u.last) home ∙ ap (λ (u : View). u.last) raced.0.same;
          out = λ alone. raced.3 (subst IsLone (sym took_is) alone);
        }

    pub both_lost : {T : Type 0} (call : Call) (reply : T → Reply) (l : Lost) (y z : View) → IsLost x l y → z ≡ released (released y)
        → TriesBoth v p q call reply z (attempt_of l)
    both_lost call reply lost.Spent y z spent home = both_spent y z spent home
    both_lost call reply (lost.Raced r) y z raced home = both_raced r y z raced home

    pub both_done : (a : Commit) (c' d' : Content) (y z : View) → a.stamp ≡ a.expected.stamp → Makes x a y → y.held ≡ out q d' ∷ out p c' ∷ v.held
        → z ≡ released (released y) → IsPlaced v a.call a.reply a.expected.place z × Leaves a.change z × (z.tries ≡ t)
    both_done a c' d' y z same makes owes home =
        let made = made_released v (released y) t a (made_released v y t a (makes_from v x t on a y makes) (released y) refl) z home in (
          placed_from v z t a made (ap (λ (u : View). u.held) home ∙ ap (λ (l : List Held). held_before (held_before l)) owes),
          leaves_from v z t a made same,
          made.tries,
        )

-- ---- two parts, asked for again and again

module _ (v w : View) (p q : Part) (asks : StillAsks (IsEither p q) v w) where
  -- the turns of one more try
  more : (x : View) (got : List Part) → AllByRecursion (IsEither p q) got → x.tries.won ≡ got ++ w.tries.won → w.tries.lost ≤ x.tries.lost
      → GotOnly (IsEither p q) v x
  more x got only won lost = got_more (IsEither p q) v w x got asks.got only won lost

  both_got : (x : View) → x.tries ≡ got_all (q ∷ p ∷ []) w.tries → GotOnly (IsEither p q) v x
  both_got x tries = more x (q ∷ p ∷ []) (inr refl, (inl refl, tt)) (ap (λ (t : Tries). t.won) tries)
      (let same = ap (λ (t : Tries). t.lost) tries in omega (arith, same))

  busy_after : (b : Busy) (x : View) (got : List Part) → AllByRecursion (IsEither p q) got → WasBusy w got b x → StillAsks (IsEither p q) v x
  busy_after b x got only busy = record {
    stays = stays_again v w x asks.stays busy.stays;
    got = more x got only (ap (λ (t : Tries). t.won) busy.tries) (let lost = ap (λ (t : Tries). t.lost) busy.tries in omega (arith, lost));
  }

  pub again_both_busy : (b : Busy) (x : View) → ((b.part ≡ p) × WasBusy w [] b x) ⊎ ((b.part ≡ q) × WasBusy w (p ∷ []) b x)
      → StillAsks (IsEither p q) v x
  again_both_busy b x (inl first) = busy_after b x [] tt first.1
  again_both_busy b x (inr second) = busy_after b x (p ∷ []) (inl refl, tt) second.1

  pub again_both_raced : (r : Raced) (x : View) → WasRaced w (q ∷ p ∷ []) r x → StillAsks (IsEither p q) v x
  again_both_raced r x raced = record { stays = stays_again v w x asks.stays raced.stays; got = both_got x raced.tries }

  pub asked_both_spent : (x : View) → WasSpent w (q ∷ p ∷ []) x
      → Stays v x × (length x.seen ≡ v.setup.limits.place_last) × GotOnly (IsEither p q) v x
  asked_both_spent x spent = (
    stays_again v w x asks.stays spent.stays,
    spent.spent ∙ ap (λ (y : View). y.setup.limits.place_last) asks.stays.same,
    both_got x spent.tries,
  )

  pub asked_both_done : (c : Call) (r : Reply) (place : ℕ) (x : View)
      → IsPlaced w c r place x × Leaves Keep x × (x.tries ≡ got_all (q ∷ p ∷ []) w.tries) → IsPlaced v c r place x × Leaves Keep x × GotOnly (IsEither p q) v x
  asked_both_done c r place x done = (placed_again v w x c r place asks.stays done.0, done.1, both_got x done.2)
