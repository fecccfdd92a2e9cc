-- Messages by the maps, from the first turn on.
use Rattle.std.proofs.Common.{◌≡◌, ℕ, ◌<◌, List, [], ◌∷◌, length, refl, ap, sym, ◌∙◌, subst, inl}
use Rattle.std.specs.List.{AllByRecursion}
use Rattle.its_types.specs.declared.ids.Vcpu.{Vcpu}
use Rattle.its_types.specs.declared.machine.Part.{Part}
use Rattle.its_types.specs.declared.machine.Part.TheVariants as part
use Rattle.its_types.specs.declared.machine.Placed.{Placed}
use Rattle.its_types.specs.declared.machine.Word.{Word}
use Rattle.its_plain.specs.declared.call.Call.{Call}
use Rattle.its_plain.specs.declared.call.Reply.TheVariants as reply
use Rattle.its_plain.specs.declared.call.Signal.{Signal}
use Rattle.its_steps.specs.Calls.{staying}
use Rattle.its_steps.specs.Contents.{Content, Held}
use Rattle.its_steps.specs.World.{View, Tries, took, lost_to}
use Rattle.its_steps.specs.declared.change.ShardChange.{ShardChange}
use Rattle.its_steps.specs.declared.commit.Commit.{Commit}
use Rattle.its_turns.proofs.Telling.{goes_first, goes_looked, goes_took, goes_missed, goes_emptied, stays_from, looked_from, lone_on}
use Rattle.its_turns.proofs.Telling.{makes_from, made_emptied, placed_from, leaves_from}
use Rattle.its_turns.specs.Calls.{Leaves, got_all, GoesOn}
use Rattle.its_turns.specs.Contents.{held_before}
use Rattle.its_turns.specs.Steps.{IsBusy}
use Rattle.its_turns.specs.Told.{released}
use Rattle.its_turns.specs.declared.attempts.Attempt.{Attempt}
use Rattle.its_turns.specs.declared.attempts.Attempt.TheVariants as attempt
use Rattle.its_turns.specs.declared.attempts.Lost.TheVariants as lost
use Rattle.its_turns.specs.declared.commits.Raced.{Raced}
use Rattle.its_turns.specs.declared.turns.Busy.{Busy}
use Rattle.device_port.specs.ByMaps.{EarlyIs, MapsGot, AsksMaps}
use Rattle.device_port.specs.Finishes.{MadeAt, LostFor, Finishes}
use Rattle.device_port.specs.Signals.{IsOfSignal, Among, Sent}
use Rattle.device_port.specs.declared.message.Message.{Message}

module _ (c : Call) (m : Message) (v : View) (bare : v.held ≡ []) where
  -- the maps' turn is another's
  pub busy_maps : (b : Busy) (x : View) → IsBusy v (part.Maps m.its) b x → AsksMaps v c m x (attempt.Busy b)
  busy_maps b x busy =
      let gone = goes_missed v v v.tries (goes_first v) x (part.Maps m.its) b.holder busy.view in (
        [],
        record {
          only = tt;
          early = λ none. absurd none;
          kept = λ _. record { early = ap (λ (u : View). u.cache.early) busy.view; word = ap (λ (u : View). u.cache.early_word) busy.view };
        },
        record {
          stays = stays_from v x _ gone (ap (λ (u : View). u.held) busy.view);
          tries = gone.tries ∙ ap (λ (q : Part). lost_to v.tries q b.holder) (sym busy.part);
          another = busy.another;
          out = busy.out;
        },
        inl busy.part,
        ap (λ (u : View). u.seen) busy.view,
      )

  maps_got : (got : List Part) (x : View) → AllByRecursion (IsOfSignal v.setup m) got → Among (part.Maps m.its) got → EarlyIs v x → MapsGot v m got x
  maps_got got x only among early = record { only = only; early = λ _. early; kept = λ none. absurd (none among) }

  -- these turns were got, and now others are tried or the call is made
  module _ (got : List Part) (only : AllByRecursion (IsOfSignal v.setup m) got) (among : Among (part.Maps m.its) got) (z : View)
      (on : GoesOn v (got_all got v.tries) z) (seen : z.seen ≡ v.seen) (early : EarlyIs v z) where
    abbrev t : Tries
    t = got_all got v.tries

    -- the turn of another part is another's, and all goes home
    pub busy_later : (p : Part) (b : Busy) (y x : View) → IsOfSignal v.setup m p → IsBusy z p b y → x ≡ record y { held = [] }
        → AsksMaps v c m x (attempt.Busy b)
    busy_later p b y x of busy home =
        let gone = goes_emptied v y (lost_to t p b.holder) (goes_missed v z t on y p b.holder busy.view) x home in (
          got,
          maps_got got x only among record {
            early = ap (λ (u : View). u.cache.early) home ∙ (ap (λ (u : View). u.cache.early) busy.view ∙ early.early);
            word = ap (λ (u : View). u.cache.early_word) home ∙ (ap (λ (u : View). u.cache.early_word) busy.view ∙ early.word);
          },
          record {
            stays = stays_from v x (lost_to t p b.holder) gone (ap (λ (u : View). u.held) home ∙ sym bare);
            tries = gone.tries ∙ ap (λ (q : Part). lost_to t q b.holder) (sym busy.part);
            another = λ e. busy.another (e ∙ ap (λ (u : View). u.number) (sym on.same));
            out = λ alone. busy.out (lone_on v z t on alone);
          },
          subst (IsOfSignal v.setup m) (sym busy.part) of,
          ap (λ (u : View). u.seen) home ∙ (ap (λ (u : View). u.seen) busy.view ∙ seen),
        )

    spent_later : (x : View) → LostFor z lost.Spent x → AsksMaps v c m x attempt.Spent
    spent_later x l =
        let y = l.left in
        let gone = goes_emptied v y t (goes_looked v z t on y y.last l.loses.0) x l.home in (
          got,
          maps_got got x only among record {
            early = ap (λ (u : View). u.cache.early) l.home ∙ (ap (λ (u : View). u.cache.early) l.loses.0.same ∙ early.early);
            word = ap (λ (u : View). u.cache.early_word) l.home ∙ (ap (λ (u : View). u.cache.early_word) l.loses.0.same ∙ early.word);
          },
          record {
            stays = stays_from v x t gone (ap (λ (u : View). u.held) l.home ∙ sym bare);
            tries = gone.tries;
            spent = ap (λ (u : View). length u.seen) l.home ∙ (l.loses.0.place ∙ (l.loses.1 ∙ ap (λ (u : View). u.setup.limits.place_last) on.same));
          },
        )

    raced_later : (r : Raced) (x : View) → LostFor z (lost.Raced r) x → AsksMaps v c m x (attempt.Raced r)
    raced_later r x l =
        let y = l.left in
        let gone = goes_emptied v y t (goes_looked v z t on y r.found l.loses.0) x l.home in (
          got,
          maps_got got x only among record {
            early = ap (λ (u : View). u.cache.early) l.home ∙ (ap (λ (u : View). u.cache.early) l.loses.0.same ∙ early.early);
            word = ap (λ (u : View). u.cache.early_word) l.home ∙ (ap (λ (u : View). u.cache.early_word) l.loses.0.same ∙ early.word);
          },
          record {
            stays = stays_from v x t gone (ap (λ (u : View). u.held) l.home ∙ sym bare);
            tries = gone.tries;
            room = subst (λ (u : View). r.expected.place < u.setup.limits.place_last) on.same l.loses.1;
            later = l.loses.2;
            read = looked_from v z t on (λ P _. subst (AllByRecursion P) (sym bare) tt) (λ alone. l.loses.3 (lone_on v z t on alone)) r.expected y x l.loses.4
                (sym (ap (λ (u : View). u.seen) l.home));
            last = ap (λ (u : View). u.last) l.home ∙ ap (λ (u : View). u.last) l.loses.0.same;
            out = λ alone. l.loses.3 (lone_on v z t on alone);
          },
        )

    done_later : (s : Signal) (change : ShardChange) (w : Word) (x : View) → (Leaves change x → Sent m s x) → MadeAt z c s change w x
        → AsksMaps v c m x (attempt.Done (record { place = w.place; reply = s }))
    done_later s change w x sends f =
        let a : Commit = staying w c (reply.Signal s) change in
        let y = f.made in
        let made = made_emptied v y t a (makes_from v z t on a y f.makes) x f.home in (
          got,
          maps_got got x only among record {
            early = ap (λ (u : View). u.cache.early) f.home ∙ (ap (λ (u : View). u.cache.early) f.makes.view ∙ early.early);
            word = ap (λ (u : View). u.cache.early_word) f.home ∙ (ap (λ (u : View). u.cache.early_word) f.makes.view ∙ early.word);
          },
          placed_from v x t a made (ap (λ (u : View). u.held) f.home ∙ sym bare),
          sends (leaves_from v x t a made refl),
          made.tries,
        )

    pub finished : (s : Signal) (change : ShardChange) (x : View) (at : Attempt Signal) → ((p : Placed Signal) → at ≡ attempt.Done p → Leaves change x
        → Sent m s x) → Finishes z c s change x at → AsksMaps v c m x at
    finished s change x (attempt.Done p) sends f =
        let place = sym f.1.1 in let answer = sym f.0 in
        subst (λ (q : Placed Signal). AsksMaps v c m x (attempt.Done q)) (λ d. record { place = place d; reply = answer d })
        (done_later s change f.1.0 x (sends p refl) f.1.2)
    finished s change x (attempt.Busy b) sends f = absurd f
    finished s change x (attempt.Raced r) sends f = raced_later r x f
    finished s change x attempt.Spent sends f = spent_later x f

-- ---- all goes home

pub emptied_one : (y x : View) → x ≡ released y → held_before y.held ≡ [] → x ≡ record y { held = [] }
emptied_one y x home none = home ∙ ap (λ (l : List Held). record y { held = l }) none

pub emptied_two : (y z x : View) → z ≡ released y → x ≡ released z → held_before (held_before y.held) ≡ [] → x ≡ record y { held = [] }
emptied_two y z x one two none = two ∙ (ap (λ (u : View). released u) one ∙ ap (λ (l : List Held). record y { held = l }) none)

-- ---- one turn after another

module _ (v : View) (y : View) (its : ℕ) (c : Content) (first : y ≡ took v (part.Maps its) c) where
  pub first_on : GoesOn v (got_all (part.Maps its ∷ []) v.tries) y
  first_on = goes_took v v v.tries (goes_first v) y (part.Maps its) c first

  pub first_seen : y.seen ≡ v.seen
  first_seen = ap (λ (u : View). u.seen) first

  pub first_early : EarlyIs v y
  first_early = record { early = ap (λ (u : View). u.cache.early) first; word = ap (λ (u : View). u.cache.early_word) first }

  module _ (n : ℕ) (z : View) (d : Content) (second : z ≡ took y (part.Shard its n) d) where
    pub second_on : GoesOn v (got_all (part.Shard its n ∷ part.Maps its ∷ []) v.tries) z
    second_on = goes_took v y (got_all (part.Maps its ∷ []) v.tries) first_on z (part.Shard its n) d second

    pub second_seen : z.seen ≡ v.seen
    second_seen = ap (λ (u : View). u.seen) second ∙ first_seen

    pub second_early : EarlyIs v z
    second_early = record {
      early = ap (λ (u : View). u.cache.early) second ∙ first_early.early;
      word = ap (λ (u : View). u.cache.early_word) second
          ∙ first_early.word;
    }

    module _ (u : Vcpu) (x : View) (e : Content) (third : x ≡ took z (part.Pend u) e) where
      pub third_on : GoesOn v (got_all (part.Pend u ∷ part.Shard its n ∷ part.Maps its ∷ []) v.tries) x
      third_on = goes_took v z (got_all (part.Shard its n ∷ part.Maps its ∷ []) v.tries) second_on x (part.Pend u) e third

      pub third_seen : x.seen ≡ v.seen
      third_seen = ap (λ (w : View). w.seen) third ∙ second_seen

      pub third_early : EarlyIs v x
      third_early = record {
        early = ap (λ (w : View). w.cache.early) third ∙ second_early.early;
        word = ap (λ (w : View). w.cache.early_word) third
            ∙ second_early.word;
      }
