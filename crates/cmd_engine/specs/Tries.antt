-- What a call tells that waits for nobody.
use Rattle.std.specs.Prelude.{◌≡◌, ◌≢◌, ℕ, List, [], Result, Ok, Err}
use Rattle.std.specs.List.{AllByRecursion}
use Rattle.its_types.specs.declared.machine.Part.{Part}
use Rattle.its_types.specs.declared.machine.Placed.{Placed}
use Rattle.its_plain.specs.declared.call.Call.{Call}
use Rattle.its_plain.specs.declared.call.Reply.{Reply}
use Rattle.its_steps.specs.Endings.{Ending}
use Rattle.its_steps.specs.Parts.{Setup}
use Rattle.its_steps.specs.Renewal.{its_of}
use Rattle.its_steps.specs.World.{View, lost_to}
use Rattle.its_turns.specs.Calls.{Stays, GoesOn, WasBusy, got_all}
use Rattle.its_turns.specs.Told.{IsLone}
use Rattle.its_turns.specs.declared.turns.Busy.{Busy}
use Rattle.held_parts.specs.Taking.{Goes}
use Rattle.cmd_engine.specs.Cached.{ending_as, cached_held, AreWhole, IsAny}
use Rattle.cmd_engine.specs.Hands.{IsOfTranslator, IsOfStep}
use Rattle.cmd_engine.specs.Leaving.{EndsAs}
use Rattle.cmd_engine.specs.Telling.{IsWhyWith, ReadLow, Comes}
use Rattle.cmd_engine.specs.declared.cached.Cached.{Cached}
use Rattle.cmd_engine.specs.declared.cached.Cached.TheVariants as cached
use Rattle.cmd_engine.specs.declared.hands.Hands.{Hands}
use Rattle.cmd_engine.specs.declared.missed.Missed.{Missed}
use Rattle.cmd_engine.specs.declared.missed.Missed.TheVariants as missed
use Rattle.cmd_engine.specs.declared.tried.Tried.{Tried}
use Rattle.cmd_engine.specs.declared.tried.Tried.TheVariants as tried

-- ---- steps of a call

-- it goes on, and each turn that it tried it got, the last one first
pub record GoesAtOnce (P : Part → Type 0) (v w : View) : Type 0 where
  pub got : List Part
  pub only : AllByRecursion P got
  pub on : GoesOn v (got_all got v.tries) w
  -- alone nothing was added to what was seen
  pub still : IsLone v → w.seen ≡ v.seen

-- it is given up: after these turns it tried one more, which was another pass's, so another is out
pub record GivesUp (P : Part → Type 0) (v : View) (b : Busy) (w : View) : Type 0 where
  pub goes : Goes P v w
  pub part : P b.part
  pub got : List Part
  pub only : AllByRecursion P got
  pub tries : w.tries ≡ lost_to (got_all got v.tries) b.part b.holder
  pub another : b.holder ≢ v.number
  pub out : ¬ IsLone v

-- each turn that it tried it got, the last one first
pub record GotAll (P : Part → Type 0) (v w : View) : Type 0 where
  pub got : List Part
  pub only : AllByRecursion P got
  pub tries : w.tries ≡ got_all got v.tries

-- ---- what is taken

-- the shards that a call may change which ends this are in hand
pub record GetsShards (s : Setup) (its : ℕ) (e : Ending) (c : Cached) (v w : View) : Type 0 where
  pub goes : GoesAtOnce (IsOfTranslator its) v w
  pub held : w.held ≡ cached_held its s.shards c v.held
  pub whole : AreWhole s its c
  pub ends : ending_as c ≡ e
  pub low : IsAny c → ReadLow v its w

-- or none is
pub record LacksShards (its : ℕ) (c : Cached) (v : View) (b : Busy) (w : View) : Type 0 where
  pub gives_up : GivesUp (IsOfTranslator its) v b w
  pub held : w.held ≡ v.held
  pub none : c ≡ cached.Nothing

-- all that a command needs is in hand
pub record GetsNeeded (h : Hands) (v w : View) : Type 0 where
  pub goes : GoesAtOnce (IsOfStep h.its) v w
  pub low : IsAny h.cached → ReadLow v h.its w

-- ---- one try

-- it was given up before it could be made, or it comes to this
abbrev pub ComesOnce : {T : Type 0} → (Part → Type 0) → View → Call → (T → Reply) → View → Result (Result (Placed T) Missed) Busy → Type 0
ComesOnce P v c reply w (Ok r) = Comes P v c reply w r × GotAll P v w
ComesOnce P v c reply w (Err b) = GivesUp P v b w

-- whatever it began with
abbrev pub ComesOnceFrom : {T : Type 0} → (Part → Type 0) → View → Call → (T → Reply) → View → Result (Result (Placed T) Missed) Busy → Type 0
ComesOnceFrom P y c reply w r = (v : View) → v.held ≡ [] → GoesAtOnce P v y → ComesOnce P v c reply w r

-- as the whole call answers it
abbrev pub tried_of : {T : Type 0} → Result (Result (Placed T) Missed) Busy → Tried T
tried_of (Ok (Ok p)) = tried.Done p
tried_of (Ok (Err missed.Spent)) = tried.Spent
tried_of (Ok (Err missed.NoMemory)) = tried.NoMemory
tried_of (Ok (Err missed.Full)) = tried.Full
tried_of (Ok (Err (missed.Raced r))) = tried.Raced r
tried_of (Ok (Err missed.Late)) = tried.Late
tried_of (Err b) = tried.Busy b

-- the turn of a part was another pass's: those that were got before it were given back
pub record WasBusyIn (P : Part → Type 0) (v : View) (b : Busy) (w : View) : Type 0 where
  pub part : P b.part
  pub got : List Part
  pub only : AllByRecursion P got
  pub busy : WasBusy v got b w

-- it had what it needs, and was not made: the pass is as it was, but that it may have seen more, and got turns and gave them back
pub record WasMissed (P : Part → Type 0) (v : View) (c : Call) (m : Missed) (w : View) : Type 0 where
  pub stays : Stays v w
  pub got : GotAll P v w
  pub why : IsWhyWith (ReadLow v (its_of c) w) v c m w

-- It was made at its place, or not, and then no part is held and nothing was made
abbrev pub TriesOnce : {T : Type 0} → (Part → Type 0) → View → Call → (T → Reply) → View → Tried T → Type 0
TriesOnce P v c reply w (tried.Done p) = EndsAs v c (reply p.reply) p.place w × GotAll P v w
TriesOnce P v c reply w (tried.Busy b) = WasBusyIn P v b w
TriesOnce P v c reply w (tried.Raced r) = WasMissed P v c (missed.Raced r) w
TriesOnce P v c reply w tried.Late = WasMissed P v c missed.Late w
TriesOnce P v c reply w tried.Spent = WasMissed P v c missed.Spent w
TriesOnce P v c reply w tried.NoMemory = WasMissed P v c missed.NoMemory w
TriesOnce P v c reply w tried.Full = WasMissed P v c missed.Full w
