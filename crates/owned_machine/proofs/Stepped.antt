-- What a step answers and leaves.
use Rattle.std.proofs.Common.{◌≡◌, ℕ, ◌<◌, Bool, true, not, ◌&&◌, cond, List, Option, Some, None, refl, sym}
use Rattle.std.proofs.Common.{ap}
use Rattle.std.proofs.Common.{subst, ◌∙◌}
use Rattle.std.specs.Prelude.{◌||◌, slice_get, length}
use Rattle.guest_windows.specs.Windows.{Window}
use Rattle.gits_regs.specs.Registers.{Registers}
use Rattle.its_command.specs.Commands.{op_of}
use Rattle.its_command.specs.declared.command.Command.{Command}
use Rattle.its_types.specs.Maps.{Maps}
use Rattle.its_types.specs.declared.machine.Shape.{Shape}
use Rattle.its_plain.specs.Plain.{Plain, Translator, no_translator, regs_of}
use Rattle.its_plain.specs.Commands.{ran}
use Rattle.its_plain.specs.Answer.{left, step_left, step_reply, met_left, met_reply, command_reply, next_bytes}
use Rattle.its_plain.specs.declared.call.Call.TheVariants as call
use Rattle.its_plain.specs.declared.call.StepReply.{StepReply}
use Rattle.its_plain.specs.declared.call.StepReply.TheVariants.{Idle, Ran, Refused, QueueFault}
use Rattle.owned_parts.specs.Owned.{ArePartsOf}
use Rattle.owned_parts.specs.declared.parts.Parts.{Parts}
use Rattle.cmd_exec.specs.Executed.{left_by}
use Rattle.cmd_exec.specs.Met.{MeetsCommand, MeetsNone}
use Rattle.cmd_exec.specs.Room.{adds_to}
use Rattle.cmd_exec.specs.Needs.{AreNeededInHand, AreTargets, reads_confs}
use Rattle.cmd_exec.proofs.Below.{concerned_below, confs_below}
use Rattle.cmd_exec.proofs.Sets.{confs_same, pends_same}
use Rattle.owned_parts.specs.Owned.{state_of_parts}
use Rattle.owned_machine.specs.Whole.{IsMachine, GoesOn, step_adds, met_adds}
use Rattle.owned_machine.proofs.Lists.{first_there, first_else, second_else, first_long, found_at, not_found, replaced}
use Rattle.owned_machine.proofs.Kept.{AreHeldAlike, goes_on, stays, conf_there, pend_there}
use Rattle.owned_machine.proofs.Others.{not_in_step, step_track}
use Rattle.owned_machine.specs.Steps.{HoldsAll}
use Rattle.plain_footprint.proofs.OtherParts.{leaves}
use Rattle.its_types.specs.declared.machine.Part.TheVariants.{Maps as MapsOf}
use Rattle.std.specs.Option.{option_map}
use Rattle.gits_regs.specs.Registers.{is_queue_empty}
use Rattle.lpi_pending.specs.InHand.{RedistParts}
use Rattle.owned_parts.specs.Owned.{ArePartsOfSound, one_or_two, translator_of, translators_of}
use Rattle.owned_parts.specs.declared.parts.Translator.{Translator as TranslatorInHand}

module _ (u : Plain) (i : ℕ) (r : Registers) (memory : List Window) (is : regs_of u i ≡ r) (there : u.memory ≡ memory) where
  meets_none : (a : StepReply) → MeetsNone r memory a → MeetsNone (regs_of u i) u.memory a
  meets_none a h = subst (λ (m : List Window). MeetsNone (regs_of u i) m a) (sym there) (subst (λ (x : Registers). MeetsNone x memory a) (sym is) h)

  meets_it : (c : Command) → MeetsCommand r memory c → MeetsCommand (regs_of u i) u.memory c
  meets_it c h = subst (λ (m : List Window). MeetsCommand (regs_of u i) m c) (sym there) (subst (λ (x : Registers). MeetsCommand x memory c) (sym is) h)

-- a step that takes no command
pub still_reply : (u : Plain) (i : ℕ) (r : StepReply) → MeetsNone (regs_of u i) u.memory r → r ≡ step_reply u i
unfolding step_reply
still_reply u i Idle none = sym (ap (λ (b : Bool). cond b Idle (met_reply u i (next_bytes u i))) none)
still_reply u i (QueueFault addr) none =
    sym (ap (λ (b : Bool). cond b Idle (met_reply u i (next_bytes u i))) none.0
    ∙ ap (λ (o : Option (List ℕ)). met_reply u i o) none.2 ∙ ap (λ (a : ℕ). QueueFault (record { 0 = a })) (sym none.1))
still_reply u i (Ran op) none = absurd none
still_reply u i (Refused op reason) none = absurd none

pub still_left : (u : Plain) (i : ℕ) (r : StepReply) → MeetsNone (regs_of u i) u.memory r → u ≡ step_left u i
unfolding step_left
still_left u i Idle none = sym (ap (λ (b : Bool). cond b u (met_left u i (next_bytes u i))) none)
still_left u i (QueueFault addr) none =
    sym (ap (λ (b : Bool). cond b u (met_left u i (next_bytes u i))) none.0 ∙ ap (λ (o : Option (List ℕ)). met_left u i o) none.2)
still_left u i (Ran op) none = absurd none
still_left u i (Refused op reason) none = absurd none

-- what is answered to the command that it meets, and left
pub met_is : (u : Plain) (i : ℕ) (c : Command) → MeetsCommand (regs_of u i) u.memory c → command_reply (op_of c) (ran u i c) ≡ step_reply u i
unfolding step_reply
met_is u i c met =
    sym (ap (λ (b : Bool). cond b Idle (met_reply u i (next_bytes u i))) met.busy
    ∙ ap (λ (o : Option (List ℕ)). met_reply u i o) met.bytes_are
    ∙ ap (λ (x : Command). command_reply (op_of x) (ran u i x)) met.command)

pub step_is : (u : Plain) (i : ℕ) (c : Command) → MeetsCommand (regs_of u i) u.memory c → step_left u i ≡ left_by c u i
unfolding step_left
step_is u i c met =
    ap (λ (b : Bool). cond b u (met_left u i (next_bytes u i))) met.busy
    ∙ ap (λ (o : Option (List ℕ)). met_left u i o) met.bytes_are
    ∙ ap (λ (x : Command). left_by x u i) met.command

met_adds_is : (u : Plain) (i : ℕ) (c : Command) → MeetsCommand (regs_of u i) u.memory c → step_adds u i ≡ adds_to u i c
unfolding step_adds
met_adds_is u i c met =
    ap (λ (b : Bool). not b && met_adds u i (next_bytes u i)) met.busy
    ∙ ap (λ (o : Option (List ℕ)). met_adds u i o) met.bytes_are
    ∙ ap (λ (x : Command). adds_to u i x) met.command

-- by what is so of each state with these parts
module _ (u : Plain) (i : ℕ) (s : Shape) (r : Registers) (m : Maps) (memory : List Window) (redists : RedistParts)
    (parts : ArePartsOf u i s r m memory redists) where
  regs_here : regs_of u i ≡ r
  regs_here = ap (λ (t : Translator). t.regs) (found_at u.translators i (record { regs = r; maps = m }) no_translator parts.translator_is)

  pub replies_still : (a : StepReply) → MeetsNone r memory a → a ≡ step_reply u i
  replies_still a none = still_reply u i a (meets_none u i r memory regs_here parts.memory_is a none)

  pub leaves_still : (a : StepReply) → MeetsNone r memory a → ArePartsOf (step_left u i) i s r m memory redists
  leaves_still a none =
      subst (λ (w : Plain). ArePartsOf w i s r m memory redists) (still_left u i a (meets_none u i r memory regs_here parts.memory_is a none)) parts

  pub replies_met : (c : Command) → MeetsCommand r memory c → command_reply (op_of c) (ran u i c) ≡ step_reply u i
  replies_met c met = met_is u i c (meets_it u i r memory regs_here parts.memory_is c met)

  pub leaves_met : (c : Command) (r' : Registers) (m' : Maps) (redists' : RedistParts) → MeetsCommand r memory c
      → ArePartsOf (left_by c u i) i s r' m' memory redists' → ArePartsOf (step_left u i) i s r' m' memory redists'
  leaves_met c r' m' redists' met h =
      subst (λ (w : Plain). ArePartsOf w i s r' m' memory redists') (sym (step_is u i c (meets_it u i r memory regs_here parts.memory_is c met))) h

  pub adds_met : (c : Command) → MeetsCommand r memory c → adds_to u i c ≡ true → step_adds u i ≡ true
  adds_met c met h = met_adds_is u i c (meets_it u i r memory regs_here parts.memory_is c met) ∙ h

-- a step changes its own translator alone, and not the second memory
step_goes : (old new : Parts) (i : ℕ) (t : TranslatorInHand) → IsMachine old → new.layout ≡ old.layout → new.memory ≡ old.memory → new.track ≡ old.track
    → AreHeldAlike new.redists old.redists
    → slice_get (translators_of new.first new.second) i ≡ Some (translator_of t)
    → length (translators_of new.first new.second) ≡ length (translators_of old.first old.second)
    → ((k : ℕ) → (k ≡ i → ⊥) → slice_get (translators_of new.first new.second) k ≡ slice_get (translators_of old.first old.second) k)
    → ArePartsOf (step_left (state_of_parts old) i) i old.layout.shape t.regs t.maps.maps old.memory new.redists
    → GoesOn new (step_left (state_of_parts old) i)
unfolding left
step_goes old new i t m same memory track alike here long else parts =
    let u = state_of_parts old in
    let w = step_left u i in
    let others = leaves u (call.Step i) (record { vcpus = m.sound.vcpus }) in
    goes_on old new (call.Step i) w m same refl alike
    (replaced (translators_of new.first new.second) u.translators w.translators i (translator_of t) (long ∙ others.translators) here parts.translator_is else
    (λ k apart. others.parts (MapsOf k) (not_in_step u i k apart)))
    (memory ∙ sym parts.memory_is) (track ∙ sym (step_track u i)) parts.redistributors_are

pub first_steps : (p : Parts) (its : ℕ) (t : TranslatorInHand) (redists : RedistParts) → IsMachine p → its ≡ 0 → AreHeldAlike redists p.redists
    → ArePartsOf (step_left (state_of_parts p) 0) 0 p.layout.shape t.regs t.maps.maps p.memory redists
    → GoesOn (record p { first = t; redists = redists }) (step_left (state_of_parts p) its)
first_steps p its t redists m first alike parts =
    let f = translator_of p.first in
    let o = option_map translator_of p.second in
    subst (λ (i : ℕ). GoesOn (record p { first = t; redists = redists }) (step_left (state_of_parts p) i)) (sym first)
    (step_goes p (record p { first = t; redists = redists }) 0 t m refl refl refl alike (first_there (translator_of t) o)
    (first_long f (translator_of t) o) (λ k apart. first_else f (translator_of t) o k apart) parts)

pub second_steps : (p : Parts) (its : ℕ) (s t : TranslatorInHand) (redists : RedistParts) → IsMachine p → its ≡ 1 → p.second ≡ Some s
    → AreHeldAlike redists p.redists
    → ArePartsOf (step_left (state_of_parts p) 1) 1 p.layout.shape t.regs t.maps.maps p.memory redists
    → GoesOn (record p { second = Some t; redists = redists }) (step_left (state_of_parts p) its)
second_steps p its s t redists m second there alike parts =
    let f = translator_of p.first in
    let two : translators_of p.first p.second ≡ one_or_two f (Some (translator_of s)) = ap (λ (o : Option TranslatorInHand). translators_of p.first o) there in
    let now = one_or_two f (Some (translator_of t)) in
    subst (λ (i : ℕ). GoesOn (record p { second = Some t; redists = redists }) (step_left (state_of_parts p) i)) (sym second)
    (step_goes p (record p { second = Some t; redists = redists }) 1 t m refl refl refl alike refl
    (ap (λ (ts : List Translator). length ts) (sym two))
    (λ k apart. second_else f (translator_of s) (translator_of t) k apart ∙ ap (λ (ts : List Translator). slice_get ts k) (sym two)) parts)

-- a translator that there isn't has nothing to do
pub none_steps : (p : Parts) (its : ℕ) → IsMachine p → slice_get (state_of_parts p).translators its ≡ None
    → (Idle ≡ step_reply (state_of_parts p) its) × GoesOn p (step_left (state_of_parts p) its)
none_steps p its m none =
    let u = state_of_parts p in
    let idle : MeetsNone (regs_of u its) u.memory Idle =
    ap (λ (t : Translator). not t.regs.enabled || is_queue_empty t.regs) (not_found u.translators its no_translator none) in
    (still_reply u its Idle idle, stays p (step_left u its) m (still_left u its Idle idle))

-- the parts of redistributors that a command needs are in hand
pub needed_held : (s : Shape) (r : Registers) (m : Maps) (memory : List Window) (redists : RedistParts) (c : Command)
    → ArePartsOfSound s r m memory redists → HoldsAll s redists → AreNeededInHand s m c redists
needed_held s r m memory redists c (u, i, sound, parts) holds =
    let t = sound.translators i (record { regs = r; maps = m }) parts.translator_is in
    let targets : AreTargets s m = λ icid vcpu is. subst (λ (x : Shape). vcpu.0 < x.vcpus) parts.shape_is (t.collections icid vcpu is).target in
    record {
      confs = λ v e. (holds v (confs_below s.vcpus (reads_confs c) v (confs_same s m c v ∙ e))).0;
      pends = λ v e. (holds v (concerned_below s m targets c v (pends_same s m c v ∙ e))).1;
    }

pub holds_all : (p : Parts) → IsMachine p → HoldsAll p.layout.shape p.redists
holds_all p m = λ v lt. (conf_there p v m lt, pend_there p v m lt)
