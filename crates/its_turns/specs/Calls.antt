-- What a call of a port says of its pass.
use Rattle.std.specs.Prelude.{◌≡◌, ◌≢◌, ◌⊎◌, ◌<◌, ◌≤◌, ℕ, ◌+◌, List, [], ◌∷◌, ◌++◌, length, Result, Ok, Err}
use Rattle.std.specs.List.{AllByRecursion}
use mathlib.Core.List.{IsPrefix}
use Rattle.its_types.specs.declared.machine.Part.{Part}
use Rattle.its_types.specs.declared.machine.Placed.{Placed}
use Rattle.its_types.specs.declared.machine.Word.{Word}
use Rattle.its_plain.specs.History.{IsLegal}
use Rattle.its_plain.specs.declared.call.Call.{Call}
use Rattle.its_plain.specs.declared.call.Entry.{Entry}
use Rattle.its_plain.specs.declared.call.Reply.{Reply}
use Rattle.its_steps.specs.Renewal.{renewal}
use Rattle.its_steps.specs.World.{View, Tries, loaded, lost_to, entry, committed, word_after}
use Rattle.its_steps.specs.declared.change.ShardChange.{ShardChange}
use Rattle.its_steps.specs.declared.change.ShardChange.TheVariants.{Keep}
use Rattle.its_turns.specs.Told.{Looks, IsLone}
use Rattle.its_turns.specs.declared.attempts.Attempt.{Attempt}
use Rattle.its_turns.specs.declared.attempts.Attempt.TheVariants as attempt
use Rattle.its_turns.specs.declared.attempts.Lost.{Lost}
use Rattle.its_turns.specs.declared.attempts.Lost.TheVariants as lost
use Rattle.its_turns.specs.declared.attempts.Spent.{Spent}
use Rattle.its_turns.specs.declared.commits.Raced.{Raced}
use Rattle.its_steps.specs.declared.commit.Commit.{Commit}
use Rattle.its_turns.specs.declared.turns.Busy.{Busy}

-- ---- the outcome of a whole call

-- No call was made: the pass is as it was, but that it may have seen more and tried turns
pub record Stays (v w : View) : Type 0 where
  pub same : w ≡ record v { seen = w.seen; last = w.last; cache = w.cache; tries = w.tries }
  pub longer : IsPrefix v.seen w.seen

-- The call was made at this place, with this reply: what was seen goes on and ends with it, all of it is legal, and it is one
-- more of the pass's own. The pass holds what it held
pub record IsPlaced (v : View) (call : Call) (reply : Reply) (place : ℕ) (w : View) : Type 0 where
  -- what was made by others meanwhile
  pub between : List Entry
  pub seen : w.seen ≡ (v.seen ++ between) ++ entry v.number call reply ∷ []
  pub legal : IsLegal v.setup.start w.seen
  pub place_is : length w.seen ≡ place + 1
  pub mine : w.mine ≡ v.mine ++ (place, entry v.number call reply) ∷ []
  -- the place is none that no call gets; the pass's last commit found the word there, and left the next one
  pub room : place < v.setup.limits.place_last
  pub base : w.commit.base.place ≡ place
  pub last : w.last.place ≡ place + 1
  pub same : w ≡ record v { seen = w.seen; mine = w.mine; last = w.last; cache = w.cache; tries = w.tries; commit = w.commit }

-- it left the stamp as it was, and did this to the shards
pub record Leaves (change : ShardChange) (w : View) : Type 0 where
  pub stamp : w.last.stamp ≡ w.commit.base.stamp
  pub change_is : w.commit.change ≡ change

-- ---- turns

-- these were got, the last one first, and none was lost
abbrev pub got_all : List Part → Tries → Tries
got_all got t = record t { won = got ++ t.won }

-- the turn of a part was another pass's, so another is out
pub record WasBusy (v : View) (got : List Part) (b : Busy) (w : View) : Type 0 where
  pub stays : Stays v w
  pub tries : w.tries ≡ lost_to (got_all got v.tries) b.part b.holder
  pub another : b.holder ≢ v.number
  pub out : ¬ IsLone v

-- this call read the word, when it had seen a beginning of what it has seen now
pub record HasLooked (v : View) (word : Word) (w : View) : Type 0 where
  pub mid : View
  pub looks : Looks v word mid
  pub before : IsPrefix mid.seen w.seen

-- another call was made after this call read the word and before its commit, so another pass is out
pub record WasRaced (v : View) (got : List Part) (r : Raced) (w : View) : Type 0 where
  pub stays : Stays v w
  pub tries : w.tries ≡ got_all got v.tries
  pub room : r.expected.place < v.setup.limits.place_last
  pub later : r.expected.place < r.found.place
  pub read : HasLooked v r.expected w
  pub last : w.last ≡ r.found
  pub out : ¬ IsLone v

-- all places are used, as the call's own load said
pub record WasSpent (v : View) (got : List Part) (w : View) : Type 0 where
  pub stays : Stays v w
  pub tries : w.tries ≡ got_all got v.tries
  pub spent : length w.seen ≡ v.setup.limits.place_last

-- it was given up before it was made: these turns were got and given back, and nothing else was done
pub record GaveUp (v : View) (got : List Part) (w : View) : Type 0 where
  pub stays : Stays v w
  pub tries : w.tries ≡ got_all got v.tries

-- only such turns were got, and tries may have been lost
pub record GotOnly (P : Part → Type 0) (v w : View) : Type 0 where
  pub got : List Part
  pub won : w.tries.won ≡ got ++ v.tries.won
  pub only : AllByRecursion P got
  pub lost : v.tries.lost ≤ w.tries.lost

-- a call was tried so far, and was not made
pub record StillAsks (P : Part → Type 0) (v w : View) : Type 0 where
  pub stays : Stays v w
  pub got : GotOnly P v w

-- ---- calls that need one part

-- tried once
abbrev pub TriesPart : {T : Type 0} → View → Part → Call → (T → Reply) → View → Attempt T → Type 0
TriesPart v p call reply w (attempt.Done x) = IsPlaced v call (reply x.reply) x.place w × Leaves Keep w × (w.tries ≡ got_all (p ∷ []) v.tries)
TriesPart v p call reply w (attempt.Busy b) = (b.part ≡ p) × WasBusy v [] b w
TriesPart v p call reply w (attempt.Raced r) = WasRaced v (p ∷ []) r w
TriesPart v p call reply w attempt.Spent = WasSpent v (p ∷ []) w

-- and again until it was made
abbrev pub AsksPart : {T : Type 0} → View → Part → Call → (T → Reply) → View → Result (Placed T) Spent → Type 0
AsksPart v p call reply w (Ok x) = IsPlaced v call (reply x.reply) x.place w × Leaves Keep w × GotOnly (λ q. q ≡ p) v w
AsksPart v p call reply w (Err spent) = Stays v w × (length w.seen ≡ v.setup.limits.place_last) × GotOnly (λ q. q ≡ p) v w

-- ---- calls that need two parts, the first one got first

-- tried once
abbrev pub TriesBoth : {T : Type 0} → View → Part → Part → Call → (T → Reply) → View → Attempt T → Type 0
TriesBoth v p q call reply w (attempt.Done x) = IsPlaced v call (reply x.reply) x.place w × Leaves Keep w × (w.tries ≡ got_all (q ∷ p ∷ []) v.tries)
TriesBoth v p q call reply w (attempt.Busy b) = ((b.part ≡ p) × WasBusy v [] b w) ⊎ ((b.part ≡ q) × WasBusy v (p ∷ []) b w)
TriesBoth v p q call reply w (attempt.Raced r) = WasRaced v (q ∷ p ∷ []) r w
TriesBoth v p q call reply w attempt.Spent = WasSpent v (q ∷ p ∷ []) w

abbrev pub IsEither : Part → Part → Part → Type 0
IsEither p q x = (x ≡ p) ⊎ (x ≡ q)

-- and again until it was made
abbrev pub AsksBoth : {T : Type 0} → View → Part → Part → Call → (T → Reply) → View → Result (Placed T) Spent → Type 0
AsksBoth v p q call reply w (Ok x) = IsPlaced v call (reply x.reply) x.place w × Leaves Keep w × GotOnly (IsEither p q) v w
AsksBoth v p q call reply w (Err spent) = Stays v w × (length w.seen ≡ v.setup.limits.place_last) × GotOnly (IsEither p q) v w

abbrev pub attempt_of : {T : Type 0} → Lost → Attempt T
attempt_of lost.Spent = attempt.Spent
attempt_of (lost.Raced r) = attempt.Raced r

-- ---- steps of a call

-- it goes on: no call was made so far
pub record GoesOn (v : View) (t : Tries) (w : View) : Type 0 where
  pub same : w ≡ record v { seen = w.seen; last = w.last; held = w.held; cache = w.cache; tries = w.tries }
  pub longer : IsPrefix v.seen w.seen
  pub tries : w.tries ≡ t

-- the call was made, and the pass holds what it owes then
pub record Makes (v : View) (a : Commit) (w : View) : Type 0 where
  pub seen : List Entry
  pub longer : IsPrefix v.seen seen
  pub place : length seen ≡ a.expected.place
  pub room : a.expected.place < v.setup.limits.place_last
  pub view : w ≡ committed (loaded v a.expected seen) seen a (renewal v.setup a v.held)
  pub legal : IsLegal v.setup.start w.seen

-- or it was not
abbrev pub IsLost : View → Lost → View → Type 0
IsLost v lost.Spent w = Looks v w.last w × (w.last.place ≡ v.setup.limits.place_last)
IsLost v (lost.Raced r) w = Looks v r.found w × (r.expected.place < v.setup.limits.place_last) × (r.expected.place < r.found.place) × (¬ IsLone v)
    × HasLooked v r.expected w

-- the call was made, whatever is held
pub record IsMade (v : View) (t : Tries) (a : Commit) (w : View) : Type 0 where
  pub between : List Entry
  pub seen : w.seen ≡ (v.seen ++ between) ++ entry v.number a.call a.reply ∷ []
  pub legal : IsLegal v.setup.start w.seen
  pub place_is : length w.seen ≡ a.expected.place + 1
  pub mine : w.mine ≡ v.mine ++ (a.expected.place, entry v.number a.call a.reply) ∷ []
  pub room : a.expected.place < v.setup.limits.place_last
  pub same : w ≡ record v { seen = w.seen; mine = w.mine; last = w.last; held = w.held; cache = w.cache; tries = w.tries; commit = w.commit }
  pub tries : w.tries ≡ t
  pub last : w.last ≡ word_after a
  pub commit : w.commit ≡ record { base = a.expected; change = a.change }
