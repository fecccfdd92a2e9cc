-- What each port says of a try is what a call of a pass says of its answer.
use Rattle.std.proofs.Common.{◌≡◌, ℕ, List, [], ◌∷◌, inl, inr, Result, Ok, Err, sym, subst}
use Rattle.std.specs.Prelude.{MatchResult}
use Rattle.std.specs.declared.alloc.AllocError.{AllocError}
use Rattle.its_types.specs.declared.ids.Addr.{Addr}
use Rattle.its_types.specs.declared.machine.Part.{Part}
use Rattle.its_types.specs.declared.machine.Part.TheVariants as part
use Rattle.its_plain.specs.declared.call.Call.{Call}
use Rattle.its_plain.specs.declared.call.Call.TheVariants as call
use Rattle.its_plain.specs.declared.call.Route.{Route}
use Rattle.its_plain.specs.declared.call.Route.TheVariants as routes
use Rattle.its_plain.specs.declared.desc.Desc.{Desc}
use Rattle.its_plain.specs.declared.fault.SaveFault.{SaveFault}
use Rattle.its_plain.specs.Answer.{save_reply}
use Rattle.its_plain.specs.Doorbells.{dma_of, route_of}
use Rattle.its_plain.specs.declared.call.Reply.{Reply}
use Rattle.its_plain.specs.declared.call.Reply.TheVariants as reply
use Rattle.its_plain.specs.declared.call.Signal.{Signal}
use Rattle.its_steps.specs.Parts.{Setup}
use Rattle.its_steps.specs.World.{View}
use Rattle.its_turns.specs.Calls.{TriesPart, TriesBoth, GaveUp}
use Rattle.its_turns.specs.declared.attempts.Attempt.{Attempt}
use Rattle.its_turns.specs.declared.attempts.Attempt.TheVariants as attempt
use Rattle.cmd_engine.specs.Concern.{step_said}
use Rattle.cmd_engine.specs.Tries.{TriesOnce}
use Rattle.cmd_engine.specs.declared.stepped.Stepped.{Stepped}
use Rattle.cmd_engine.specs.declared.tried.Tried.{Tried}
use Rattle.cmd_engine.specs.declared.tried.Tried.TheVariants as tried
use Rattle.device_port.specs.Dmas.{reply_of}
use Rattle.device_port.specs.Tries.{DmasOnce}
use Rattle.device_port.specs.declared.told.Dma.{Dma}
use Rattle.device_port.specs.Signals.{SignalsOnce}
use Rattle.device_port.specs.declared.message.Message.{Message}
use Rattle.guest_port.specs.declared.pages.Unheld.{Unheld}
use Rattle.guest_port.specs.declared.pages.Unheld.TheVariants as unheld
use Rattle.gicr_lpi.specs.Accesses.{IsOfWrite, WasAsked, access, write_call}
use Rattle.gicr_lpi.specs.Tries.{TriesParts, FoundNoMemory}
use Rattle.its_migrate.specs.Tries.{TriesSave, IsGivenUp}
use Rattle.its_migrate.specs.declared.rule.Unsaved.{Unsaved}
use Rattle.its_migrate.specs.declared.rule.Unsaved.TheVariants as unsaved
use Rattle.lpi_pending.specs.Rooms.{is_enable}
use Rattle.its_shared.specs.Answers.{Answers, answer_of, answer_of_tried, answer_or_none, answer_or_unheld, answer_or_unsaved}
use Rattle.its_shared.specs.Asked as asked
use Rattle.its_shared.specs.Knowing.{Known}
use Rattle.its_shared.specs.declared.answer.Answer.{Answer}

-- as it is said of a pass that knows this
pub of_known : {T : Type 0} (c : Call) (f : T → Reply) (k l : Known) (w : View) (a b : Answer T) → k ≡ l → b ≡ a → Answers c f k.view w a
    → Answers c f l.view w b
of_known {T} c f k l w a b same is t =
    subst (λ (x : Known). Answers c f x.view w b) same (subst (λ (x : Answer T). Answers c f k.view w x) (sym is) t)

-- a call that needs one part
pub of_part : {T : Type 0} (p : Part) (c : Call) (f : T → Reply) (v w : View) (a : Attempt T) → TriesPart v p c f w a
    → Answers c f v w (answer_of a)
of_part p c f v w (attempt.Done x) t = t.0
of_part p c f v w (attempt.Busy b) t = (t.1.stays, inl t.1.out)
of_part p c f v w (attempt.Raced r) t = (t.stays, inl t.out)
of_part p c f v w attempt.Spent t = (t.stays, t.spent)

-- a call that needs two
pub of_both : {T : Type 0} (p q : Part) (c : Call) (f : T → Reply) (v w : View) (a : Attempt T) → TriesBoth v p q c f w a
    → Answers c f v w (answer_of a)
of_both p q c f v w (attempt.Done x) t = t.0
of_both p q c f v w (attempt.Busy b) (inl t) = (t.1.stays, inl t.1.out)
of_both p q c f v w (attempt.Busy b) (inr t) = (t.1.stays, inl t.1.out)
of_both p q c f v w (attempt.Raced r) t = (t.stays, inl t.out)
of_both p q c f v w attempt.Spent t = (t.stays, t.spent)

-- a message
pub of_message : (m : Message) (c : Call) (v w : View) (a : Attempt Signal) → SignalsOnce v c m w a
    → Answers c reply.Signal v w (answer_of a)
of_message m c v w (attempt.Done x) t = t.2
of_message m c v w (attempt.Busy b) t = (t.2.stays, inl t.2.out)
of_message m c v w (attempt.Raced r) t = (t.2.stays, inl t.2.out)
of_message m c v w attempt.Spent t = (t.2.stays, t.2.spent)

-- a write of the LPI registers
pub of_parts : (vcpu offset size value : ℕ) (P : Part → Type 0) (f : Unit {0} → Reply) (v w : View) (a : Attempt (Unit {0}))
    → TriesParts P v (asked.write_lpi_register vcpu offset size value) f w a
    → Answers (asked.write_lpi_register vcpu offset size value) f v w (answer_of a)
of_parts vcpu offset size value P f v w (attempt.Done x) t = t.2
of_parts vcpu offset size value P f v w (attempt.Busy b) t = (t.busy.stays, inl t.busy.out)
of_parts vcpu offset size value P f v w (attempt.Raced r) t = (t.2.stays, inl t.2.out)
of_parts vcpu offset size value P f v w attempt.Spent t = (t.2.stays, t.2.spent)

abbrev pub TriesGicr : Setup → (vcpu offset size value : ℕ) → View → View → Result (Attempt (Unit {0})) AllocError → Type 0
TriesGicr s vcpu offset size value v w r =
    let a = access (record { 0 = vcpu }) offset size value in
    MatchResult r (λ t. TriesParts (IsOfWrite s a) v (write_call a) (λ _. reply.Ok) w t) (λ _. FoundNoMemory s a v w)

pub of_gicr : (s : Setup) (vcpu offset size value : ℕ) (v w : View) (r : Result (Attempt (Unit {0})) AllocError) → v.setup ≡ s
    → TriesGicr s vcpu offset size value v w r
    → Answers (asked.write_lpi_register vcpu offset size value) (λ _. reply.Ok) v w (answer_or_none r)
of_gicr s vcpu offset size value v w (Ok a) same t =
    of_parts vcpu offset size value (IsOfWrite s (access (record { 0 = vcpu }) offset size value)) (λ _. reply.Ok) v w a t
of_gicr s vcpu offset size value v w (Err e) same t =
    (t.up.stays, subst (λ (z : Setup). WasAsked z (access (record { 0 = vcpu }) offset size value) is_enable) (sym same) t.asked)

-- a write of guest memory
pub of_write : (address : ℕ) (bytes : List ℕ) (v w : View) (r : Result (Attempt Reply) Unheld)
    → MatchResult r (λ a. TriesPart v part.Mem (asked.write_memory address bytes) (λ k. k) w a) (λ _. GaveUp v (part.Mem ∷ []) w)
    → Answers (asked.write_memory address bytes) (λ k. k) v w (answer_or_unheld r)
of_write address bytes v w (Ok a) t = of_part part.Mem (asked.write_memory address bytes) (λ k. k) v w a t
of_write address bytes v w (Err unheld.NoMemory) t = (t.stays, tt)
of_write address bytes v w (Err unheld.Full) t = (t.stays, tt)

-- a write by address
of_dma_made : (c : Call) (to : Route) (v w : View) (a : Attempt Dma) → DmasOnce v c to w a → Answers c reply_of v w (answer_of a)
of_dma_made c to v w (attempt.Done x) t = t.2
of_dma_made c to v w (attempt.Busy b) t = (t.2.stays, inl t.2.out)
of_dma_made c to v w (attempt.Raced r) t = (t.2.stays, inl t.2.out)
of_dma_made c to v w attempt.Spent t = (t.2.stays, t.2.spent)

pub of_dma : (d : Desc) (req : ℕ) (addr : Addr) (bytes : List ℕ) (v w : View) (r : Result (Attempt Dma) Unheld)
    → MatchResult r (λ a. DmasOnce v (dma_of d req addr bytes) (route_of d req addr.0 bytes) w a)
    (λ _. (route_of d req addr.0 bytes ≡ routes.Poke) × GaveUp v (part.Mem ∷ []) w)
    → Answers (dma_of d req addr bytes) reply_of v w (answer_or_unheld r)
of_dma d req addr bytes v w (Ok a) t = of_dma_made (dma_of d req addr bytes) (route_of d req addr.0 bytes) v w a t
of_dma d req addr bytes v w (Err unheld.NoMemory) t = (t.1.stays, t.0)
of_dma d req addr bytes v w (Err unheld.Full) t = (t.1.stays, t.0)

-- a step
pub of_step : (its : ℕ) (P : Part → Type 0) (v w : View) (r : Tried Stepped) → TriesOnce P v (asked.step its) step_said w r
    → Answers (asked.step its) step_said v w (answer_of_tried r)
of_step its P v w (tried.Done p) t = t.0.placed
of_step its P v w (tried.Busy b) t = (t.busy.stays, inl t.busy.out)
of_step its P v w (tried.Raced r) t = (t.stays, inl t.why.out)
of_step its P v w tried.Late t = (t.stays, inr t.why.1)
of_step its P v w tried.Spent t = (t.stays, t.why.1)
of_step its P v w tried.NoMemory t = (t.stays, t.why.1)
of_step its P v w tried.Full t = (t.stays, tt)

-- a write of the translator's registers
pub of_write_register : (its offset size value : ℕ) (P : Part → Type 0) (v w : View) (r : Tried (Unit {0}))
    → TriesOnce P v (asked.write_register its offset size value) (λ _. reply.Ok) w r
    → Answers (asked.write_register its offset size value) (λ _. reply.Ok) v w (answer_of_tried r)
of_write_register its offset size value P v w (tried.Done p) t = t.0.placed
of_write_register its offset size value P v w (tried.Busy b) t = (t.busy.stays, inl t.busy.out)
of_write_register its offset size value P v w (tried.Raced r) t = (t.stays, inl t.why.out)
of_write_register its offset size value P v w tried.Late t = (t.stays, inr t.why.1)
of_write_register its offset size value P v w tried.Spent t = (t.stays, t.why.1)
of_write_register its offset size value P v w tried.NoMemory t = (t.stays, t.why.1)
of_write_register its offset size value P v w tried.Full t = absurd t.why.1

-- a save
of_save_made : (v w : View) (a : Attempt (Result (Unit {0}) SaveFault)) → TriesSave v w a → Answers call.Save save_reply v w (answer_of a)
of_save_made v w (attempt.Done x) t = t.2
of_save_made v w (attempt.Busy b) t = (t.3.stays, inl t.3.out)
of_save_made v w (attempt.Raced r) t = (t.2.stays, inl t.2.out)
of_save_made v w attempt.Spent t = (t.2.stays, t.2.spent)

pub of_save : (v w : View) (r : Result (Attempt (Result (Unit {0}) SaveFault)) Unsaved)
    → MatchResult r (λ t. TriesSave v w t) (λ _. IsGivenUp v w) → Answers call.Save save_reply v w (answer_or_unsaved r)
of_save v w (Ok a) t = of_save_made v w a t
of_save v w (Err unsaved.NoMemory) t = (t.2.stays, tt)
of_save v w (Err unsaved.Full) t = (t.2.stays, tt)
