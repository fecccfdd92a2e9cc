-- Which stamp and which change of the shards a commit may leave, by what its call ends.
use Rattle.std.proofs.Common.{◌≡◌, ◌≢◌, ℕ, ◌+◌, ◌<◌, ◌≤◌, ◌&&◌, eqb, Bool, true, false, cond, List, [], ◌∷◌, Option, Some, None, get_or, refl, ap, sym, ◌∙◌}
use Rattle.std.proofs.Common.{subst, inl, inr, arith, eq-eqb}
use Rattle.std.specs.List.{AllByRecursion}
use mathlib.Core.Logic.{dite}
use native.Mathlib.Decide.{ℕ_discrete}
use Rattle.its_types.specs.declared.ids.DeviceId.{DeviceId}
use Rattle.its_types.specs.declared.ids.EventId.{EventId}
use Rattle.its_types.specs.declared.machine.Part.{Part}
use Rattle.its_types.specs.declared.machine.Part.TheVariants as part
use Rattle.its_types.specs.declared.machine.Word.{Word}
use Rattle.its_plain.specs.Answer.{left}
use Rattle.its_plain.specs.Plain.{Plain}
use Rattle.its_plain.specs.declared.call.Call.{Call}
use Rattle.its_plain.specs.declared.call.Reply.{Reply}
use Rattle.xlate_cache.specs.Pairs.{shard_number}
use Rattle.xlate_cache.specs.Ways.{is_of, dropped, no_entries}
use Rattle.xlate_cache.specs.declared.entry.Entry.{Entry as Translation}
use Rattle.xlate_cache.proofs.Founds.{dropped_kept}
use Rattle.xlate_cache.proofs.Sets.{none_at}
use Rattle.its_steps.specs.Calls.{staying, stamping}
use Rattle.its_steps.specs.Contents.{Content, Shard, Held}
use Rattle.its_steps.specs.Endings.{Nothing, Pair, Ending, Ends, ending_of}
use Rattle.its_steps.specs.Good.{Holds, Apart}
use Rattle.its_steps.specs.MayCommit.{IsOut}
use Rattle.its_steps.specs.MayCall.{Owes, IsAnswered, IsWithout, AreSteady, HasFillsAlone, MayStamp, MayChange, MayCallIn}
use Rattle.its_steps.specs.Parts.{Setup, Has, HasAll, HasStamps, Stands, Suits, translator_count, stamp_of}
use Rattle.its_steps.specs.Renewal.{its_of, shard_of, is_shard_of, changed, content_in, renewed, renewal_in}
use Rattle.its_steps.specs.States.{IsReady, NothingEnds, PairEnds, AllEnd, AllEndAtLast, CalmInState}
use Rattle.its_steps.specs.World.{word_after}
use Rattle.its_steps.specs.declared.change.ShardChange.{ShardChange}
use Rattle.its_steps.specs.declared.change.ShardChange.TheVariants as change
use Rattle.its_steps.specs.declared.commit.Commit.{Commit}
use Rattle.its_steps.proofs.Assembled.{has_suits, had}
use Rattle.its_steps.proofs.Calm.{calm_none, steady_in}
use Rattle.its_steps.proofs.Endings.{steady_all}
use Rattle.its_steps.proofs.Helds.{all_held}
use Rattle.its_steps.proofs.Owed.{owes_holds, owes_renewed}
use Rattle.its_steps.proofs.Stamps.{are_apart}
use Rattle.its_steps.proofs.States.{states}

-- ---- a shard that is held

-- what is held of a shard are its ways
shard_ways : (u : Plain) (its n : ℕ) (held : List Held) → HasAll u held → Holds (part.Shard its n) held → (ways : List (Option Translation))
    × Owes (part.Shard its n) (Shard ways) held
shard_ways u its n [] has h = absurd h
shard_ways u its n (x ∷ xs) has (inr h) = let rest = shard_ways u its n xs has.1 h in (rest.0, inr rest.1)
shard_ways u its n (x ∷ xs) has (inl e) = let w = ways_of x.owed (subst (λ (p : Part). Suits p x.owed) e (has_suits u x.part x.owed has.0)) in (
  w.0,
  inl
      (e, w.1),
)
  where
    ways_of : (c : Content) → Suits (part.Shard its n) c → (ways : List (Option Translation)) × (c ≡ Shard ways)
    ways_of (Shard ways) suits = (ways, refl)
    ways_of c suits = absurd suits

none_left : (dev ev : ℕ) (ways : List (Option Translation)) (i : ℕ) → is_of dev ev (get_or (dropped ways dev ev) i None) ≡ false
none_left dev ev ways i = at (get_or (dropped ways dev ev) i None) refl
  where
    at : (w : Option Translation) → get_or (dropped ways dev ev) i None ≡ w → is_of dev ev w ≡ false
    at None is = refl
    at (Some e) is = (dropped_kept dev ev ways i e is).1

-- ---- an emptying

abbrev some_is : Option Translation → Bool
some_is None = false
some_is (Some e) = true

module _ (s : Setup) (to : Word) (c : Call) where
  nothing_in : (n : ℕ) (ways : List (Option Translation)) (k : ℕ) (e : Translation) → get_or (changed s to c change.Empty (its_of c) n ways) k None ≡ Some e → ⊥
  unfolding changed
  nothing_in n ways k e is =
      let none : get_or (cond (eqb (its_of c) (its_of c)) no_entries ways) k None ≡ None = ap (λ (b : Bool). get_or (cond b no_entries ways) k None)
      (eq-eqb (its_of c) (its_of c) refl) ∙ none_at k in
      subst (λ (b : Bool). cond b ⊥ (Unit {0})) (ap some_is (sym none ∙ is)) tt

fills_one : (s : Setup) (a : Commit) (u : Plain) (p : Part) (x : Content) → a.change ≡ change.Empty → HasFillsAlone s (word_after a) a.call a.change
    (its_of a.call) p (content_in s a u p x)
fills_one s a u (part.Shard i n) (Shard ways) empty = λ own k e is.
    absurd (nothing_in s (word_after a) a.call n ways k e
    (subst (λ (y : ℕ × ShardChange). get_or (changed s (word_after a) a.call y.1 y.0 n ways) k None ≡ Some e) (λ d. (own d, empty d)) is))
fills_one s a u (part.Maps i) x empty = tt
fills_one s a u part.Mem x empty = tt
fills_one s a u (part.Conf vcpu) x empty = tt
fills_one s a u (part.Pend vcpu) x empty = tt
fills_one s a u (part.Shard i n) x empty = tt

fills_all : (s : Setup) (a : Commit) (u : Plain) (xs : List Held) → a.change ≡ change.Empty
    → AllByRecursion (λ x. HasFillsAlone s (word_after a) a.call a.change (its_of a.call) x.part x.owed) (renewed s a u xs)
fills_all s a u [] empty = tt
fills_all s a u (x ∷ xs) empty = (fills_one s a u x.part x.owed empty, fills_all s a u xs empty)

-- ---- commits

-- what is held stands for the state, and is enough for the call's reply there
pub record IsEnough (s : Setup) (u : Plain) (last : Word) (c : Call) (r : Reply) (held : List Held) : Type 0 where
  pub has : (p : Part) (x : Content) → Suits p x → Owes p x held → Has u p x
  pub room : last.place < s.limits.place_last
  pub stands : AllByRecursion (λ x. Stands s x.part) held
  pub apart : Apart held
  pub out : AllByRecursion IsOut held
  pub answered : IsAnswered u c r held

enough : (s : Setup) (u : Plain) (last : Word) (c : Call) (r : Reply) (held : List Held) → IsReady s u last c r held → IsEnough s u last c r held
enough s u last c r held h = record {
  has = λ p x suits o. had u held h.has p x o;
  room = h.room;
  stands = h.stands;
  apart = h.apart;
  out = h.out;
  answered = h.answered;
}

module _ (s : Setup) (u : Plain) (last : Word) (c : Call) (r : Reply) (held : List Held) (h : IsEnough s u last c r held) where
  -- a commit of these parts, where each stamp may be this
  commits : (stamp : ℕ) (ch : ShardChange) → let a : Commit = record { expected = last; stamp = stamp; call = c; reply = r; change = ch } in
      MayChange s c ch (left u c r) held → ((its : ℕ) → its < translator_count s → MayStamp s a held (renewal_in s u a held) its) → MayCallIn s u a held
  commits stamp ch may stamps = record {
    room = h.room;
    stands = h.stands;
    apart = h.apart;
    out = h.out;
    answered = inl h.answered;
    may_change = may;
    stamps = stamps;
  }

  -- a translator of which no translation ends
  steady : (a : Commit) → a.call ≡ c → (its : ℕ) → its ≢ its_of c → AreSteady s its (renewal_in s u a held) held (renewal_in s u a held)
  steady a same its ne = steady_all s u a its (renewal_in s u a held) (λ dev ev own ends. absurd (ne (own ∙ ap its_of same))) held h.has

  -- the call's own
  own_stands : Holds (part.Maps (its_of c)) held → its_of c < translator_count s
  own_stands maps = all_held (Stands s) (λ x. Stands s x.part) held (part.Maps (its_of c)) maps (λ x st. st) h.stands

  -- another stamp for that, where it may be so; each other translator keeps its own
  own_stamp : (new : ℕ) (ch : ShardChange) → HasStamps s → Holds (part.Maps (its_of c)) held → new ≤ s.limits.stamp_last → MayChange s c ch (left u c r) held
      → (let a : Commit = stamping s last c r new ch in stamp_of s (word_after a) (its_of c) ≡ new → MayStamp s a held (renewal_in s u a held) (its_of c))
      → MayCallIn s u (stamping s last c r new ch) held
  own_stamp new ch fits maps most may own =
      let a : Commit = stamping s last c r new ch in
      let stamps = are_apart s last.stamp (its_of c) new fits (own_stands maps) most in
      commits a.stamp ch may (λ its lt. dite (ℕ_discrete its (its_of c))
      (λ is. subst (MayStamp s a held (renewal_in s u a held)) (sym is) (own stamps.0))
      (λ ne. inl record { same = stamps.1 its lt ne; steady = steady a refl its ne }))

  pub nothing_may : (ch : ShardChange) → MayChange s c ch (left u c r) held → ending_of u c ≡ Nothing → MayCallIn s u (staying last c r ch) held
  nothing_may ch may none = let a : Commit = staying last c r ch in commits last.stamp ch may
      (λ its lt. inl record { same = refl; steady = steady_in s u a its (renewal_in s u a held) held none h.has })

  pub all_may : HasStamps s → Holds (part.Maps (its_of c)) held → stamp_of s last (its_of c) + 1 ≤ s.limits.stamp_last
      → MayCallIn s u (stamping s last c r (stamp_of s last (its_of c) + 1) change.Keep) held
  all_may fits maps more = own_stamp (stamp_of s last (its_of c) + 1) change.Keep fits maps more tt
      (λ is. inr (inl record { own = refl; maps = maps; next = is; most = subst (λ (x : ℕ). x ≤ s.limits.stamp_last) (sym is) more }))

  -- ---- one pair

  module _ (dev : DeviceId) (ev : EventId) (ways : List (Option Translation)) (shard : Owes (shard_of s c dev ev) (Shard ways) held) where
    abbrev i : ℕ
    i = its_of c

    abbrev n : ℕ
    n = shard_number dev.0 ev.0 s.shards

    abbrev a : Commit
    a = staying last c r (change.Drop dev ev)

    abbrev owed : List Held
    owed = renewal_in s u a held

    own : is_shard_of s c dev ev i n ≡ true
    own = ap (λ (b : Bool). b && eqb n n) (eq-eqb i i refl) ∙ eq-eqb n n refl

    shard_after : changed s (word_after a) c (change.Drop dev ev) i n ways ≡ dropped ways dev.0 ev.0
    unfolding changed
    shard_after = ap (λ (b : Bool). cond b (dropped ways dev.0 ev.0) ways) own

    gone : IsWithout s i dev.0 ev.0 owed
    gone = record {
      ways = changed s (word_after a) c (change.Drop dev ev) i n ways;
      owes = owes_renewed s a (left u c r) (part.Shard i n) (Shard ways) held shard;
      none = λ k. subst (λ (l : List (Option Translation)). is_of dev.0 ev.0 (get_or l k None) ≡ false) (sym shard_after) (none_left dev.0 ev.0 ways k);
    }

    pub pair_may : ending_of u c ≡ Pair dev.0 ev.0 → MayCallIn s u a held
    pair_may pair = commits last.stamp (change.Drop dev ev) (owes_holds (part.Shard i n) (Shard ways) held shard) (λ its lt. inl record {
      same = refl;
      steady = steady_all s u a its owed
          (λ d e own ends. let is : (d ≡ dev.0) × (e ≡ ev.0) = subst (λ (x : Ending). Ends x d e) pair ends in subst
          (λ (x : ℕ × ℕ × ℕ). IsWithout s x.0 x.1 x.2 owed) (λ k. (sym own k, sym is.0 k, sym is.1 k)) gone)
          held h.has;
    })

pub nothing_ends : NothingEnds
nothing_ends s u last c r held h none = states s u (staying last c r change.Keep) held h.machine h.has
    (nothing_may s u last c r held (enough s u last c r held h) change.Keep tt none)

pub pair_ends : PairEnds
pair_ends s u last c r held h dev ev pair shard =
    let w = shard_ways u (its_of c) (shard_number dev.0 ev.0 s.shards) held h.has shard in
    states s u (staying last c r (change.Drop dev ev)) held h.machine h.has (pair_may s u last c r held (enough s u last c r held h) dev ev w.0 w.1 pair)

pub all_end : AllEnd
all_end s u last c r held h fits maps more = states s u (stamping s last c r (stamp_of s last (its_of c) + 1) change.Keep) held h.machine h.has
    (all_may s u last c r held (enough s u last c r held h) fits maps more)

pub all_end_at_last : AllEndAtLast
all_end_at_last s u last c r held h fits maps shards =
    let a : Commit = stamping s last c r 0 change.Empty in
    states s u a held h.machine h.has
    (own_stamp s u last c r held (enough s u last c r held h) 0 change.Empty fits maps (omega arith) tt
    (λ is. inr (inr record { own = refl; maps = maps; shards = shards; zero = is; fills = fills_all s a (left u c r) held refl })))

pub calm_in : CalmInState
calm_in s u last c r held h ch is may = states s u (staying last c r ch) held h.machine h.has (nothing_may s u last c r held (enough s u last c r held h) ch may
    (calm_none u c is))
