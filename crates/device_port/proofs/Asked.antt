-- Messages by the cache and then by the maps, and again.
use Rattle.std.proofs.Common.{◌≡◌, ◌≢◌, ◌⊎◌, ℕ, ◌<◌, ◌≤◌, Bool, true, false, List, [], ◌∷◌, ◌++◌, length, Some, None, refl, ap, sym, ◌∙◌, subst}
use Rattle.std.proofs.Common.{arith, inl, inr, ⊎_elim, append_assoc, le_refl}
use Rattle.std.specs.List.{AllByRecursion}
use mathlib.Core.Logic.{dite}
use native.Mathlib.Decide.{ℕ_discrete}
use Rattle.its_types.specs.declared.ids.Target.{Target}
use Rattle.its_types.specs.declared.ids.Vcpu.{Vcpu}
use Rattle.its_types.specs.declared.machine.Part.{Part}
use Rattle.its_types.specs.declared.machine.Part.TheVariants as part
use Rattle.its_types.specs.declared.machine.Placed.{Placed}
use Rattle.its_types.specs.declared.machine.Word.{Word}
use Rattle.its_plain.specs.declared.call.Call.{Call}
use Rattle.its_plain.specs.declared.call.Entry.{Entry}
use Rattle.its_plain.specs.declared.call.Reply.TheVariants as reply
use Rattle.its_plain.specs.declared.call.Signal.{Signal}
use Rattle.its_steps.specs.Contents.{Looked}
use Rattle.its_steps.specs.MayCall.{met}
use Rattle.its_steps.specs.Parts.{Setup}
use Rattle.its_steps.specs.World.{View, Tries, lost_to}
use Rattle.its_turns.proofs.Telling.{stays_again, looked_again, placed_again}
use Rattle.its_steps.specs.declared.change.ShardChange.TheVariants.{Keep}
use Rattle.its_turns.specs.Calls.{Stays, IsPlaced, Leaves, got_all, WasBusy, WasRaced, WasSpent}
use Rattle.its_turns.specs.Told.{IsLone}
use Rattle.its_turns.specs.declared.attempts.Attempt.{Attempt}
use Rattle.its_turns.specs.declared.attempts.Attempt.TheVariants as attempt
use Rattle.its_turns.specs.declared.commits.Raced.{Raced}
use Rattle.its_turns.specs.declared.turns.Busy.{Busy}
use Rattle.device_port.specs.ByMaps.{MapsGot, AsksMaps}
use Rattle.device_port.specs.Signals.{shard_of, IsOfSignal, Among, Finds, FindsLast, KeepsEarly, Sent, SignalGot, SignalsOnce, SignalAsks}
use Rattle.device_port.specs.Signals.{SignalsNow}
use Rattle.device_port.specs.declared.message.Message.{Message}
use Rattle.device_port.specs.declared.hits.Now.TheVariants as now

-- ---- lists of turns

all_both : {A : Type 0} (P : A → Type 0) (xs ys : List A) → AllByRecursion P xs → AllByRecursion P ys → AllByRecursion P (xs ++ ys)
all_both P [] ys a b = b
all_both P (x ∷ xs) ys a b = (a.0, all_both P xs ys a.1 b)

among_front : (p : Part) (xs ys : List Part) → Among p xs → Among p (xs ++ ys)
among_front p [] ys none = absurd none
among_front p (x ∷ xs) ys (inl e) = inl e
among_front p (x ∷ xs) ys (inr a) = inr (among_front p xs ys a)

among_back : (p : Part) (xs ys : List Part) → Among p ys → Among p (xs ++ ys)
among_back p [] ys a = a
among_back p (x ∷ xs) ys a = inr (among_back p xs ys a)

among_one : (p : Part) (xs ys : List Part) → Among p (xs ++ ys) → Among p xs ⊎ Among p ys
among_one p [] ys a = inr a
among_one p (x ∷ xs) ys (inl e) = inl (inl e)
among_one p (x ∷ xs) ys (inr a) = ⊎_elim (λ (f : Among p xs). inl (inr f)) (λ (b : Among p ys). inr b) (among_one p xs ys a)

is_maps : (its : ℕ) (q : Part) → (q ≡ part.Maps its) ⊎ (q ≢ part.Maps its)
is_maps its (part.Maps i) = dite (ℕ_discrete i its) (λ e. inl (ap (λ (k : ℕ). part.Maps k) e)) (λ ne. inr (λ e. ne (cc)))
is_maps its part.Mem = inr (λ e. cc)
is_maps its (part.Shard i n) = inr (λ e. cc)
is_maps its (part.Conf u) = inr (λ e. cc)
is_maps its (part.Pend u) = inr (λ e. cc)

maps_among : (its : ℕ) (xs : List Part) → Among (part.Maps its) xs ⊎ (¬ Among (part.Maps its) xs)
maps_among its [] = inr (λ none. none)
maps_among its (x ∷ xs) = ⊎_elim (λ (e : x ≡ part.Maps its). inl (inl e))
    (λ (ne : x ≢ part.Maps its). ⊎_elim (λ (a : Among (part.Maps its) xs). inl (inr a)) (λ (no_more : ¬ Among (part.Maps its) xs).
    inr (λ b. ⊎_elim (λ (e : x ≡ part.Maps its). ne e) (λ (a : Among (part.Maps its) xs). no_more a) b)) (maps_among its xs))
    (is_maps its x)

-- the shard is not the maps
shard_only : (its i n : ℕ) → ¬ Among (part.Maps its) (part.Shard i n ∷ [])
shard_only its i n (inl e) = cc
shard_only its i n (inr none) = none

two_only : (u : Vcpu) (its i n : ℕ) → ¬ Among (part.Maps its) (part.Pend u ∷ part.Shard i n ∷ [])
two_only u its i n (inl e) = cc
two_only u its i n (inr a) = shard_only its i n a

-- ---- turns after turns

more_tries : (t u w : Tries) (a b : List Part) → w ≡ got_all b t → u ≡ got_all a w → u ≡ got_all (a ++ b) t
more_tries t u w a b one two = two ∙ (ap (λ (z : Tries). got_all a z) one ∙ ap (λ (l : List Part). record t { won = l }) (sym (append_assoc a b t.won)))

keeps_again : (v w x : View) → KeepsEarly v w → KeepsEarly w x → KeepsEarly v x
keeps_again v w x a b = record { early = b.early ∙ a.early; word = b.word ∙ a.word }

module _ (v w x : View) (got : List Part) (stays : Stays v w) (tries : w.tries ≡ got_all got v.tries) where
  setups : w.setup ≡ v.setup
  setups = ap (λ (y : View). y.setup) stays.same

  pub busy_again : (b : Busy) (more : List Part) → WasBusy w more b x → WasBusy v (more ++ got) b x
  busy_again b more busy = record {
    stays = stays_again v w x stays busy.stays;
    tries = busy.tries ∙ (ap (λ (t : Tries). lost_to (got_all more t) b.part b.holder) tries
        ∙ ap (λ (l : List Part). lost_to (record v.tries { won = l }) b.part b.holder) (sym (append_assoc more got v.tries.won)));
    another = λ e. busy.another (e ∙ ap (λ (y : View). y.number) (sym stays.same));
    out = λ alone. busy.out (subst IsLone (sym stays.same) alone);
  }

  pub raced_again : (r : Raced) (more : List Part) → WasRaced w more r x → WasRaced v (more ++ got) r x
  raced_again r more raced = record {
    stays = stays_again v w x stays raced.stays;
    tries = more_tries v.tries x.tries w.tries more got tries raced.tries;
    room = subst (λ (s : Setup). r.expected.place < s.limits.place_last) setups raced.room;
    later = raced.later;
    read = looked_again v w stays (λ alone. raced.out (subst IsLone (sym stays.same) alone)) r.expected x raced.read;
    last = raced.last;
    out = λ alone. raced.out (subst IsLone (sym stays.same) alone);
  }

  pub spent_again : (more : List Part) → WasSpent w more x → WasSpent v (more ++ got) x
  spent_again more spent = record {
    stays = stays_again v w x stays spent.stays;
    tries = more_tries v.tries x.tries w.tries more got tries spent.tries;
    spent = spent.spent ∙ ap (λ (s : Setup). s.limits.place_last) setups;
  }

-- ---- by the maps after the cache had nothing

module _ (c : Call) (m : Message) (v w x : View) (stays : Stays v w) (tries : w.tries ≡ got_all (shard_of v.setup m ∷ []) v.tries)
    (room : length w.seen < v.setup.limits.place_last) (none : FindsLast m w None) (early : KeepsEarly v w) where
  abbrev shard : Part
  shard = shard_of v.setup m

  own : w.setup ≡ v.setup
  own = ap (λ (y : View). y.setup) stays.same

  got_then : (more : List Part) → MapsGot w m more x → x.setup ≡ w.setup → SignalGot v m (more ++ shard ∷ []) x
  got_then more maps same = record {
    only = all_both (IsOfSignal v.setup m) more (shard ∷ []) (subst (λ (s : Setup). AllByRecursion (IsOfSignal s m) more) own maps.only)
        (inr (inl refl), tt);
    shard = λ _. among_back shard more (shard ∷ []) (inl refl);
    missed = λ a. ⊎_elim
        (λ (f : Among (part.Maps m.its) more). let e = maps.early f in subst (λ (z : Setup × (Looked × Word)). Finds z.0 m z.1.0 z.1.1 None)
        (let s = sym same in let l = sym e.early in let o = sym e.word in λ d. (s d, (l d, o d))) none)
        (λ (b : Among (part.Maps m.its) (shard ∷ [])). absurd (shard_only m.its m.its _ b))
        (among_one (part.Maps m.its) more (shard ∷ []) a);
    kept = λ no_maps. keeps_again v w x early (maps.kept (λ a. no_maps (among_front (part.Maps m.its) more (shard ∷ []) a)));
  }

  pub by_maps_then : (at : Attempt Signal) → AsksMaps w c m x at → SignalsOnce v c m x at
  by_maps_then (attempt.Done p) a = (
    a.0 ++ shard ∷ [],
    got_then a.0 a.1 (ap (λ (y : View). y.setup) a.2.same),
    placed_again v w x c _ p.place stays a.2,
    a.3,
    more_tries
        v.tries x.tries w.tries a.0 (shard ∷ []) tries a.4,
  )
  by_maps_then (attempt.Busy b) a = (
    a.0 ++ shard ∷ [],
    got_then a.0 a.1 (ap (λ (y : View). y.setup) a.2.stays.same),
    busy_again v w x
        (shard ∷ []) stays tries b a.0 a.2,
    subst (λ (s : Setup). IsOfSignal s m b.part) own a.3,
    subst (λ (h : List Entry). length h < v.setup.limits.place_last) (sym a.4) room,
  )
  by_maps_then (attempt.Raced r) a = (
    a.0 ++ shard ∷ [],
    got_then a.0 a.1 (ap (λ (y : View). y.setup) a.2.stays.same),
    raced_again v w x
        (shard ∷ []) stays tries r a.0 a.2,
  )
  by_maps_then attempt.Spent a = (
    a.0 ++ shard ∷ [],
    got_then a.0 a.1 (ap (λ (y : View). y.setup) a.2.stays.same),
    spent_again v w x
        (shard ∷ []) stays tries a.0 a.2,
  )

-- ---- by the cache

module _ (c : Call) (m : Message) (v w : View) (early : KeepsEarly v w) where
  none_got : SignalGot v m [] w
  none_got = record { only = tt; shard = λ a. absurd a; missed = λ a. absurd a; kept = λ _. early }

  shard_got : SignalGot v m (shard_of v.setup m ∷ []) w
  shard_got = record {
    only = (inr (inl refl), tt);
    shard = λ a. absurd (shard_only m.its m.its _ a);
    missed = λ a. absurd
        (shard_only m.its m.its _ a);
    kept = λ _. early;
  }

  two_got : (u : Vcpu) → SignalGot v m (part.Pend u ∷ shard_of v.setup m ∷ []) w
  two_got u = record {
    only = (inr (inr (u, refl)), (inr (inl refl), tt));
    shard = λ a. absurd (two_only u m.its m.its _ a);
    missed = λ a. absurd (two_only u m.its m.its _ a);
    kept = λ _. early;
  }

  sends_met : (t : Target) (on : Bool) → Leaves Keep w → FindsLast m w (Some t) → Sent m (met on t) w
  sends_met t true leaves finds = (inl leaves, finds)
  sends_met t false leaves finds = leaves

  pub done_then : (p : Placed Signal) → SignalsNow v c m w (now.Done p) → SignalsOnce v c m w (attempt.Done p)
  done_then p a = let t = a.0 in (
    part.Pend t.vcpu ∷ shard_of v.setup m ∷ [],
    two_got t.vcpu,
    a.3,
    subst (λ (s : Signal). Sent m s w) (sym a.2) (sends_met t a.1 a.4 a.6),
    a.5,
  )

  pub busy_then : (b : Busy) → SignalsNow v c m w (now.Busy b) → SignalsOnce v c m w (attempt.Busy b)
  busy_then b (room, inl a) = ([], none_got, a.1, inr (inl a.0), room)
  busy_then b (room, inr a) = (shard_of v.setup m ∷ [], shard_got, a.2, inr (inr (a.0.vcpu, a.1)), room)

  pub raced_then : (r : Raced) → SignalsNow v c m w (now.Raced r) → SignalsOnce v c m w (attempt.Raced r)
  raced_then r a = (part.Pend a.0.vcpu ∷ shard_of v.setup m ∷ [], two_got a.0.vcpu, a.1)

  pub spent_then : SignalsNow v c m w now.Spent → SignalsOnce v c m w attempt.Spent
  spent_then a = ([], none_got, a)

-- ---- and again

module _ (c : Call) (m : Message) (v : View) where
  pub asks_first : SignalAsks v m v
  asks_first = record { got = []; won = refl; turns = none_got c m v v (record { early = refl; word = refl }); lost = le_refl v.tries.lost }

  -- turns after turns
  got_join : (w x : View) (got more : List Part) → w.setup ≡ v.setup → x.setup ≡ w.setup → SignalGot v m got w → SignalGot w m more x
      → SignalGot v m (more ++ got) x
  got_join w x got more own same a b =
      let shard : shard_of w.setup m ≡ shard_of v.setup m = ap (λ (s : Setup). shard_of s m) own in
      record {
        only = all_both (IsOfSignal v.setup m) more got (subst (λ (s : Setup). AllByRecursion (IsOfSignal s m) more) own b.only) a.only;
        shard = λ maps. ⊎_elim
            (λ (f : Among (part.Maps m.its) more). among_front (shard_of v.setup m) more got (subst (λ (p : Part). Among p more) shard (b.shard f)))
            (λ (f : Among (part.Maps m.its) got). among_back (shard_of v.setup m) more got (a.shard f))
            (among_one (part.Maps m.its) more got maps);
        missed = λ maps. ⊎_elim (λ (f : Among (part.Maps m.its) more). b.missed f)
            (λ (no_more : ¬ Among (part.Maps m.its) more). ⊎_elim (λ (f : Among (part.Maps m.its) more). absurd (no_more f))
            (λ (f : Among (part.Maps m.its) got). let e = b.kept no_more in
            subst (λ (z : Setup × (Looked × Word)). Finds z.0 m z.1.0 z.1.1 None) (let s = sym same in let l = sym e.early in let o = sym e.word in λ d.
            (s d, (l d, o d))) (a.missed f))
            (among_one (part.Maps m.its) more got maps))
            (maps_among m.its more);
        kept = λ no_maps. keeps_again v w x (a.kept (λ f. no_maps (among_back (part.Maps m.its) more got f)))
            (b.kept (λ f. no_maps (among_front (part.Maps m.its) more got f)));
      }

  module _ (w : View) (stays : Stays v w) (asks : SignalAsks v m w) where
    pub asks_more : (x : View) (more : List Part) → x.setup ≡ w.setup → SignalGot w m more x → x.tries.won ≡ more ++ w.tries.won → w.tries.lost ≤ x.tries.lost
        → SignalAsks v m x
    asks_more x more same got won lost = record {
      got = more ++ asks.got;
      won = won ∙ (ap (λ (l : List Part). more ++ l) asks.won ∙ sym (append_assoc more asks.got v.tries.won));
      turns = got_join w x asks.got more (ap (λ (y : View). y.setup) stays.same) same asks.turns got;
      lost = omega (arith, asks.lost, lost);
    }

    pub again_busy : (b : Busy) (x : View) → SignalsOnce w c m x (attempt.Busy b) → Stays v x × SignalAsks v m x
    again_busy b x a = (
      stays_again v w x stays a.2.stays,
      asks_more x a.0 (ap (λ (y : View). y.setup) a.2.stays.same) a.1 (ap (λ (t : Tries). t.won) a.2.tries)
          (let lost = ap (λ (t : Tries). t.lost) a.2.tries in omega (arith, lost)),
    )

    pub again_raced : (r : Raced) (x : View) → SignalsOnce w c m x (attempt.Raced r) → Stays v x × SignalAsks v m x
    again_raced r x a = (
      stays_again v w x stays a.2.stays,
      asks_more x a.0 (ap (λ (y : View). y.setup) a.2.stays.same) a.1 (ap (λ (t : Tries). t.won) a.2.tries)
          (let lost = ap (λ (t : Tries). t.lost) a.2.tries in omega (arith, lost)),
    )

    pub asked_spent : (x : View) → SignalsOnce w c m x attempt.Spent → SignalAsks v m x × Stays v x × (length x.seen ≡ v.setup.limits.place_last)
    asked_spent x a = (
      asks_more x a.0 (ap (λ (y : View). y.setup) a.2.stays.same) a.1 (ap (λ (t : Tries). t.won) a.2.tries)
          (let lost = ap (λ (t : Tries). t.lost) a.2.tries in omega (arith, lost)),
      stays_again v w x stays a.2.stays,
      a.2.spent ∙ ap (λ (y : View). y.setup.limits.place_last) stays.same,
    )

    pub asked_done : (p : Placed Signal) (x : View) → SignalsOnce w c m x (attempt.Done p) → SignalAsks v m x
        × IsPlaced v c (reply.Signal p.reply) p.place x × Sent m p.reply x
    asked_done p x a = (
      asks_more x a.0 (ap (λ (y : View). y.setup) a.2.same) a.1 (ap (λ (t : Tries). t.won) a.4)
          (let lost = ap (λ (t : Tries). t.lost) a.4 in omega (arith, lost)),
      placed_again v w x c (reply.Signal p.reply) p.place stays a.2,
      a.3,
    )
