-- Which stamp and which change of the shards a commit may leave, by what its call ends, and what that makes of the shards in hand.
use Rattle.std.proofs.Common.{◌≡◌, ◌<◌, ◌+◌, ℕ, Bool, cond, List, ◌∷◌, Option, Some, None, refl, ap, sym, ◌∙◌, subst, inl, inr, arith, eq-eqb}
use Rattle.std.specs.Prelude.{is_some, ◌==◌}
use Rattle.std.proofs.lemmas.Bool.{and_from}
use Rattle.its_types.specs.declared.ids.DeviceId.{DeviceId}
use Rattle.its_types.specs.declared.ids.EventId.{EventId}
use Rattle.its_types.specs.declared.machine.Part.{Part}
use Rattle.its_types.specs.declared.machine.Part.TheVariants as part
use Rattle.its_types.specs.declared.machine.Word.{Word}
use Rattle.its_plain.specs.Plain.{Plain}
use Rattle.its_plain.specs.declared.call.Call.{Call}
use Rattle.its_plain.specs.declared.call.Reply.{Reply}
use Rattle.xlate_cache.specs.Pairs.{shard_number}
use Rattle.xlate_cache.specs.Ways.{dropped}
use Rattle.its_steps.specs.Contents.{Held}
use Rattle.its_steps.specs.Endings.{Ending, Nothing, Pair, All, ending_of}
use Rattle.its_steps.specs.Good.{Holds}
use Rattle.its_steps.specs.Parts.{Setup, HasStamps, translator_count, stamp_of, stamp_with}
use Rattle.its_steps.specs.Renewal.{changed, renewed, its_of}
use Rattle.its_steps.specs.States.{IsReady, MayLeaveIn}
use Rattle.its_steps.specs.World.{word_after}
use Rattle.its_steps.specs.declared.change.ShardChange.{ShardChange}
use Rattle.its_steps.specs.declared.change.ShardChange.TheVariants as change
use Rattle.its_steps.proofs.Stamping.{nothing_ends, pair_ends, all_end, all_end_at_last}
use Rattle.its_turns.specs.Machines.{AreWithin}
use Rattle.its_turns.proofs.Stamps.{within_with}
use Rattle.held_parts.specs.Shards.{Ways, shard_held, in_place, emptied, AreEmptied}
use Rattle.held_parts.proofs.ShardRows.{all_hold, shards_emptied, shards_kept}
use Rattle.cmd_engine.specs.Cached.{ending_as, cached_held, AreWhole, HasEvery, commit_of, mark_of, LeavesBy, AreChanged}
use Rattle.cmd_engine.specs.declared.cached.Cached.{Cached}
use Rattle.cmd_engine.specs.declared.cached.Cached.TheVariants as cached
use Rattle.cmd_engine.specs.declared.cached.Mark.{Mark}

-- ---- the shards that a call has to hold, by what it ends

abbrev pub HoldsShards : Setup → ℕ → Ending → Mark → List Held → Type 0
HoldsShards s its Nothing m held = Unit {0}
HoldsShards s its (Pair dev ev) m held = Holds (part.Shard its (shard_number dev ev s.shards)) held
HoldsShards s its All m held = m.change ≡ change.Empty → (n : ℕ) → n < s.shards → Holds (part.Shard its n) held

module _ (s : Setup) (stamps : HasStamps s) (u : Plain) (w : Word) (c : Call) (r : Reply) (held : List Held) (ready : IsReady s u w c r held)
    (maps : Holds (part.Maps (its_of c)) held) where
  abbrev Leaves : ℕ → ShardChange → Type 0
  Leaves stamp ch = MayLeaveIn s u (record { expected = w; stamp = stamp; call = c; reply = r; change = ch }) held

  from_mark : (m : Mark) (stamp : ℕ) (ch : ShardChange) → m.stamp ≡ stamp → m.change ≡ ch → Leaves stamp ch → MayLeaveIn s u (commit_of w m c r) held
  from_mark m stamp ch same change_is l = subst (λ (x : ℕ × ShardChange). Leaves x.0 x.1) (λ d. (sym same d, sym change_is d)) l

  marked : (e : Ending) → ending_of u c ≡ e → (m : Mark) → LeavesBy s (its_of c) e w m → HoldsShards s (its_of c) e m held → MayLeaveIn s u
      (commit_of w m c r)
      held
  marked Nothing is m by shards = from_mark m w.stamp change.Keep by.0 by.1 (nothing_ends s u w c r held ready is)
  marked (Pair dev ev) is m by shards =
      from_mark m w.stamp (change.Drop (record { 0 = dev }) (record { 0 = ev })) by.0 by.1
      (pair_ends s u w c r held ready (record { 0 = dev }) (record { 0 = ev }) is shards)
  marked All is m (inl up) shards =
      from_mark m (stamp_with (translator_count s) w.stamp (its_of c) (stamp_of s w (its_of c) + 1)) change.Keep up.stamp up.change_is
      (all_end s u w c r held ready stamps maps (let room = up.room in omega (arith, room)))
  marked All is m (inr again) shards =
      from_mark m (stamp_with (translator_count s) w.stamp (its_of c) 0) change.Empty again.stamp again.change_is
      (all_end_at_last s u w c r held ready stamps maps (shards again.change_is))

  pub marked_may : (m : Mark) → LeavesBy s (its_of c) (ending_of u c) w m → HoldsShards s (its_of c) (ending_of u c) m held
      → MayLeaveIn s u (commit_of w m c r) held
  marked_may m by shards = marked (ending_of u c) refl m by shards

-- ---- the stamps that are left may be

module _ (s : Setup) (stamps : HasStamps s) (its : ℕ) (lt : its < translator_count s) (w : Word) (within : AreWithin s w) (c : Call) (r : Reply) where
  at_stamp : (m : Mark) (stamp : ℕ) → m.stamp ≡ stamp → AreWithin s (record { stamp = stamp; place = w.place + 1 }) →
      AreWithin s (word_after (commit_of w m c r))
  at_stamp m stamp is all = subst (λ (k : ℕ). AreWithin s (record { stamp = k; place = w.place + 1 })) (sym is) all

  pub within_after : (e : Ending) (m : Mark) → LeavesBy s its e w m → AreWithin s (word_after (commit_of w m c r))
  within_after Nothing m by = at_stamp m w.stamp by.0 within
  within_after (Pair dev ev) m by = at_stamp m w.stamp by.0 within
  within_after All m (inl up) = at_stamp m (stamp_with (translator_count s) w.stamp its (stamp_of s w its + 1)) up.stamp
      (within_with s w its (stamp_of s w its + 1) (w.place + 1) stamps lt (let room = up.room in omega (arith, room)) within)
  within_after All m (inr again) = at_stamp m (stamp_with (translator_count s) w.stamp its 0) again.stamp
      (within_with s w its 0 (w.place + 1) stamps lt (omega arith) within)

-- ---- the shards in hand are those that have to be held

pub holds_shards : (s : Setup) (its : ℕ) (c : Cached) (others held : List Held) (m : Mark) → AreWhole s its c
    → ((p : Part) → Holds p (cached_held its s.shards c others) → Holds p held) → (m.change ≡ change.Empty → HasEvery c)
    → HoldsShards s its (ending_as c) m held
holds_shards s its cached.Nothing others held m whole holds every = tt
holds_shards s its (cached.Pair dev ev ways) others held m whole holds every = holds (part.Shard its (shard_number dev.0 ev.0 s.shards)) (inl refl)
holds_shards s its cached.Any others held m whole holds every = λ is. absurd (every is)
holds_shards s its (cached.Every shards) others held m whole holds every = λ is n lt. holds (part.Shard its n)
    (all_hold its shards others s.shards whole.1 n lt)

-- ---- what a commit makes of them

module _ (s : Setup) (w : Word) (call : Call) (r : Reply) (z : Plain) (its : ℕ) (own : its_of call ≡ its) (others : List Held) where
  pair_dropped : (m : Mark) (dev : DeviceId) (ev : EventId) (ways : Ways) → changed s (word_after (commit_of w m call r)) call (change.Drop dev ev) its
      (shard_number dev.0 ev.0 s.shards) ways ≡ dropped ways dev.0 ev.0
  unfolding changed
  pair_dropped m dev ev ways = ap (λ (b : Bool). cond b (dropped ways dev.0 ev.0) ways)
      (and_from (its == its_of call) (shard_number dev.0 ev.0 s.shards == shard_number dev.0 ev.0 s.shards) (eq-eqb its (its_of call) (sym own))
      (eq-eqb (shard_number dev.0 ev.0 s.shards) (shard_number dev.0 ev.0 s.shards) refl))

  pair_kept : (m : Mark) (n : ℕ) (ways : Ways) → changed s (word_after (commit_of w m call r)) call change.Keep its n ways ≡ ways
  unfolding changed
  pair_kept m n ways = refl

  pub record Makes (m : Mark) (old new : Cached) : Type 0 where
    pub renews : renewed s (commit_of w m call r) z (cached_held its s.shards old others) ≡ cached_held its s.shards new
        (renewed s (commit_of w m call r) z others)
    pub whole : AreWhole s its old → AreWhole s its new

  kept : (stamp : ℕ) (c : Cached) → Makes (mark_of stamp change.Keep) c c
  kept stamp cached.Nothing = record { renews = refl; whole = λ x. x }
  kept stamp (cached.Pair dev ev ways) = record {
    renews = ap (λ (l : Ways). (let out : List Held = shard_held its (shard_number dev.0 ev.0 s.shards) l ∷ renewed s
        (commit_of w (mark_of stamp change.Keep) call r) z others in out)) (pair_kept (mark_of stamp change.Keep) (shard_number dev.0 ev.0 s.shards) ways);
    whole = λ x. x;
  }
  kept stamp cached.Any = record { renews = refl; whole = λ x. x }
  kept stamp (cached.Every shards) = record {
    renews = shards_kept s (commit_of w (mark_of stamp change.Keep) call r) z its own shards others s.shards refl;
    whole = λ x. x;
  }

  -- the mark's change is known
  by_change : (m : Mark) (ch : ShardChange) → m.change ≡ ch → (old new : Cached) → AreChanged m.change old new
      → (AreChanged ch old new → Makes (mark_of m.stamp ch) old new) → Makes m old new
  by_change m ch is old new changed f = subst (λ (x : ShardChange). Makes (mark_of m.stamp x) old new) (sym is)
      (f (subst (λ (x : ShardChange). AreChanged x old new) is changed))

  -- nothing was done to them
  keeps : (m : Mark) → m.change ≡ change.Keep → (old new : Cached) → AreChanged m.change old new → Makes m old new
  keeps m is old new changed = by_change m change.Keep is old new changed (same old)
    where
      same : (c : Cached) → AreChanged change.Keep c new → Makes (mark_of m.stamp change.Keep) c new
      same cached.Nothing e = subst (Makes (mark_of m.stamp change.Keep) cached.Nothing) (sym e) (kept m.stamp cached.Nothing)
      same (cached.Pair dev ev ways) e = subst (Makes (mark_of m.stamp change.Keep) (cached.Pair dev ev ways)) (sym e)
          (kept m.stamp (cached.Pair dev ev ways))
      same cached.Any e = subst (Makes (mark_of m.stamp change.Keep) cached.Any) (sym e) (kept m.stamp cached.Any)
      same (cached.Every shards) e = subst (Makes (mark_of m.stamp change.Keep) (cached.Every shards)) (sym e) (kept m.stamp (cached.Every shards))

  -- the pair left its shard
  drops : (m : Mark) (dev : DeviceId) (ev : EventId) (ways : Ways) (new : Cached) → m.change ≡ change.Drop dev ev → AreChanged m.change
      (cached.Pair dev ev ways) new → Makes m (cached.Pair dev ev ways) new
  drops m dev ev ways new is changed = by_change m (change.Drop dev ev) is (cached.Pair dev ev ways) new changed (λ e.
      subst (Makes (mark_of m.stamp (change.Drop dev ev)) (cached.Pair dev ev ways)) (sym e) record {
        renews = ap (λ (l : Ways). (let out : List Held = shard_held its (shard_number dev.0 ev.0 s.shards) l ∷ renewed s
            (commit_of w (mark_of m.stamp (change.Drop dev ev)) call r) z others in out)) (pair_dropped (mark_of m.stamp (change.Drop dev ev)) dev ev ways);
        whole = λ x. x;
      })

  some_same : (a b : List (Option Ways)) → AreEmptied a b → (n : ℕ) → is_some (in_place b n) ≡ is_some (in_place a n)
  some_same a b are n = ap (λ (o : Option Ways). is_some o) (are n) ∙ same (in_place a n)
    where
      same : (o : Option Ways) → is_some (emptied o) ≡ is_some o
      same None = refl
      same (Some x) = refl

  -- all were emptied
  empties : (m : Mark) (shards : List (Option Ways)) (new : Cached) → m.change ≡ change.Empty → AreChanged m.change (cached.Every shards) new
      → Makes m (cached.Every shards) new
  empties m shards new is changed = by_change m change.Empty is (cached.Every shards) new changed (λ e.
      subst (Makes (mark_of m.stamp change.Empty) (cached.Every shards)) (sym e.1) record {
        renews = shards_emptied s (commit_of w (mark_of m.stamp change.Empty) call r) z its own shards e.0 others s.shards refl e.2;
        whole = λ x. (x.0, (λ n. some_same shards e.0 e.2 n ∙ x.1 n));
      })

  -- one that ends nothing
  pub stays_makes : (old new : Cached) (m : Mark) → LeavesBy s its Nothing w m → AreChanged m.change old new → Makes m old new
  stays_makes old new m by changed = keeps m by.1 old new changed

  pub mark_makes : (old new : Cached) (m : Mark) → LeavesBy s its (ending_as old) w m → (m.change ≡ change.Empty → HasEvery old)
      → AreChanged m.change old new → Makes m old new
  mark_makes cached.Nothing new m by every changed = keeps m by.1 cached.Nothing new changed
  mark_makes (cached.Pair dev ev ways) new m by every changed = drops m dev ev ways new by.1 changed
  mark_makes cached.Any new m (inl up) every changed = keeps m up.change_is cached.Any new changed
  mark_makes cached.Any new m (inr again) every changed = absurd (every again.change_is)
  mark_makes (cached.Every shards) new m (inl up) every changed = keeps m up.change_is (cached.Every shards) new changed
  mark_makes (cached.Every shards) new m (inr again) every changed = empties m shards new again.change_is changed
