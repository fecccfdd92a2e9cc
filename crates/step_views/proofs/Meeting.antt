-- What a translator meets, and what a step then reads and leaves.
use Rattle.std.proofs.Common.{◌≡◌, ℕ, Bool, true, false, cond, List, [], ◌∷◌, Option, Some, None, Result, Ok, Err, refl, sym, ap, subst, ◌∙◌, inl, inr}
use Rattle.std.specs.Prelude.{not, ◌&&◌, ◌||◌, ◌⊎◌, is_ok, slice_get}
use Rattle.std.proofs.lemmas.Bool.{both_ways}
use Rattle.std.proofs.lemmas.Option.{same_Some}
use Rattle.gits_regs.specs.Registers.{Registers, queue_place, is_queue_empty}
use Rattle.its_command.specs.Commands.{op_of, decoded}
use Rattle.its_command.specs.declared.command.Command.{Command}
use Rattle.its_command.specs.declared.command.Op.{Op}
use Rattle.its_types.specs.Maps.{Maps}
use Rattle.its_types.specs.declared.machine.Part.{Part}
use Rattle.its_types.specs.declared.machine.Part.TheVariants.{Maps as MapsOf, Mem}
use Rattle.its_plain.specs.Answer.{step_left, next_bytes, left, command_reply, command_left, went_on}
use Rattle.its_plain.specs.Commands.{ran}
use Rattle.its_plain.specs.Parts.{footprint, needed, needed_by, needed_next, conf, pend, IsIn}
use Rattle.std.specs.Option.{option_map}
use Rattle.its_plain.specs.Plain.{Plain, Translator, Redistributor, conf_of, pend_of, joined, regs_of, maps_of}
use Rattle.its_plain.specs.declared.call.Call.TheVariants as call
use Rattle.its_plain.specs.declared.call.Reason.{Reason}
use Rattle.its_plain.specs.declared.call.StepReply.{StepReply}
use Rattle.its_plain.specs.declared.call.StepReply.TheVariants.{Idle, Ran, Refused, QueueFault}
use Rattle.cmd_exec.specs.Met.{MeetsNone, MeetsCommand}
use Rattle.cmd_exec.specs.Needs.{IsPartOf, ArePartsOfStep}
use Rattle.cmd_exec.specs.declared.needed.Needed.{Needed}
use Rattle.owned_parts.specs.Owned.{state_of_parts}
use Rattle.owned_parts.specs.RedistSets.{is_in}
use Rattle.owned_parts.specs.declared.in_place.TranslatorRef.{TranslatorRef}
use Rattle.owned_parts.specs.declared.parts.Parts.{Parts}
use Rattle.owned_machine.specs.Whole.{IsMachine}
use Rattle.owned_machine.proofs.Stepped.{still_left, met_is, step_is}
use Rattle.plain_footprint.proofs.OtherParts.{leaves}
use Rattle.plain_footprint.specs.Laws.{LeavesOthers}
use Rattle.guest_windows.specs.Windows.{Window}
use Rattle.owned_machine.specs.Lent.{on}
use Rattle.step_views.specs.Concern.{IsConcerned}
use Rattle.step_views.specs.Counts.{step_adds, met_adds, maps_new, is_ran}
use Rattle.step_views.specs.declared.counts.Addition.{Addition}
use Rattle.step_views.specs.Lent.{IsNumber}
use Rattle.step_views.specs.Pairs.{all_told}
use Rattle.step_views.specs.Reads.{reads, reads_by, met_reads, command_reads, still_reads}
use Rattle.step_views.proofs.OfMachine.{translator_is, none_idle}

-- ---- of a state

module _ (u : Plain) (i : ℕ) where
  still_read : (a : StepReply) → MeetsNone (regs_of u i) u.memory a → reads u i ≡ still_reads a
  unfolding reads
  still_read Idle none = ap (λ (b : Bool). cond b [] (all_told ((queue_place (regs_of u i), 32) ∷ []) (met_reads u i (next_bytes u i)))) none
  still_read (QueueFault addr) none =
      ap (λ (b : Bool). cond b [] (all_told ((queue_place (regs_of u i), 32) ∷ []) (met_reads u i (next_bytes u i)))) none.0
      ∙ ap (λ (o : Option (List ℕ)). all_told ((queue_place (regs_of u i), 32) ∷ []) (met_reads u i o)) none.2 ∙ ap (λ (a : ℕ). (a, 32) ∷ []) (sym none.1)
  still_read (Ran op) none = absurd none
  still_read (Refused op reason) none = absurd none

  met_read : (c : Command) → MeetsCommand (regs_of u i) u.memory c
      → reads u i ≡ all_told ((queue_place (regs_of u i), 32) ∷ []) (command_reads u.layout.shape (regs_of u i) (maps_of u i) u.redistributors c)
  unfolding reads
  met_read c met =
      ap (λ (b : Bool). cond b [] (all_told ((queue_place (regs_of u i), 32) ∷ []) (met_reads u i (next_bytes u i)))) met.busy
      ∙ ap (λ (o : Option (List ℕ)). all_told ((queue_place (regs_of u i), 32) ∷ []) (met_reads u i o)) met.bytes_are
      ∙ ap (λ (x : Command). all_told ((queue_place (regs_of u i), 32) ∷ [])
      (command_reads u.layout.shape (regs_of u i) (maps_of u i) u.redistributors x)) met.command

  still_adds : (what : Addition) (a : StepReply) → MeetsNone (regs_of u i) u.memory a → step_adds what u i ≡ false
  unfolding step_adds
  still_adds what Idle none = ap (λ (b : Bool). not b && met_adds what u i (next_bytes u i)) none
  still_adds what (QueueFault addr) none =
      ap (λ (b : Bool). not b && met_adds what u i (next_bytes u i)) none.0 ∙ ap (λ (o : Option (List ℕ)). met_adds what u i o) none.2
  still_adds what (Ran op) none = absurd none
  still_adds what (Refused op reason) none = absurd none

  met_adds_is : (what : Addition) (c : Command) → MeetsCommand (regs_of u i) u.memory c
      → step_adds what u i ≡ (is_ok (ran u i c) && maps_new what (maps_of u i) c)
  unfolding step_adds
  met_adds_is what c met =
      ap (λ (b : Bool). not b && met_adds what u i (next_bytes u i)) met.busy
      ∙ ap (λ (o : Option (List ℕ)). met_adds what u i o) met.bytes_are
      ∙ ap (λ (x : Command). is_ok (ran u i x) && maps_new what (maps_of u i) x) met.command

  met_needs : (c : Command) → MeetsCommand (regs_of u i) u.memory c → needed_next u i ≡ needed u i c
  met_needs c met =
      ap (λ (b : Bool). cond b [] (needed_by u i (next_bytes u i))) met.busy
      ∙ ap (λ (o : Option (List ℕ)). needed_by u i o) met.bytes_are
      ∙ ap (λ (x : Command). needed u i x) met.command

pub ran_reply : (op : Op) (r : Result Plain Reason) (a : StepReply) → a ≡ command_reply op r → is_ran a ≡ is_ok r
ran_reply op (Ok w) a is = ap is_ran is
ran_reply op (Err e) a is = ap is_ran is

both_tests : (a b : Bool) → (a && b) ≡ (b && a)
both_tests true true = refl
both_tests true false = refl
both_tests false true = refl
both_tests false false = refl

-- ---- of a translator that there isn't

module _ (p : Parts) (memory : List Window) (its : ℕ) (none : slice_get (state_of_parts p).translators its ≡ None) where
  abbrev x : Plain
  x = on memory (state_of_parts p)

  pub stays_idle : (v : ℕ) → slice_get (step_left x its).redistributors v ≡ slice_get (state_of_parts p).redistributors v
  stays_idle v = ap (λ (w : Plain). slice_get w.redistributors v) (sym (still_left x its Idle (none_idle x its none)))

  pub reads_idle : [] ≡ reads x its
  reads_idle = sym (still_read x its Idle (none_idle x its none))

  pub by_none : (bytes : List ℕ) → [] ≡ reads_by x its bytes
  unfolding reads_by
  by_none bytes =
      sym (ap (λ (b : Bool). cond b [] (all_told ((queue_place (regs_of x its), 32) ∷ []) (met_reads x its (Some bytes)))) (none_idle x its none))

  pub adds_idle : (what : Addition) → false ≡ step_adds what x its
  adds_idle what = sym (still_adds x its what Idle (none_idle x its none))

-- a refused command leaves all redistributors
pub refused_left : (u : Plain) (i : ℕ) (r : Result Plain Reason) → is_ok r ≡ false → (v : ℕ)
    → slice_get (went_on i (command_left u r)).redistributors v ≡ slice_get u.redistributors v
refused_left u i (Ok w) e v = absurd cc
refused_left u i (Err reason) e v = refl

-- what is in one of two sets
pub either : (a b : Bool) → (a || b) ≡ true → (a ≡ true) ⊎ (b ≡ true)
either true b e = inl refl
either false b e = inr e

pub neither : (a b : Bool) → (a || b) ≡ false → (a ≡ false) × (b ≡ false)
neither true b e = absurd cc
neither false b e = (refl, e)

-- ---- of a redistributor

-- it is the same where both parts are
same_both : (o o' : Option Redistributor) → option_map conf_of o ≡ option_map conf_of o' → option_map pend_of o ≡ option_map pend_of o' → o ≡ o'
same_both None None c p = refl
same_both None (Some r) c p = absurd cc
same_both (Some r) None c p = absurd cc
same_both (Some r) (Some q) c p = λ d. Some (joined (same_Some (conf_of r) (conf_of q) c d) (same_Some (pend_of r) (pend_of q) p d))

-- ---- of a machine with a translator that is lent

-- on any memory
module _ (p : Parts) (memory : List Window) (t : TranslatorRef) (m : IsMachine p) (i : ℕ) (at : IsNumber p t i) where
  abbrev u : Plain
  u = on memory (state_of_parts p)

  same_regs : t.regs.now ≡ regs_of u i
  same_regs = ap (λ (x : Translator). x.regs) (sym (translator_is p t m i at))

  same_maps : t.maps.now.maps ≡ maps_of u i
  same_maps = ap (λ (x : Translator). x.maps) (sym (translator_is p t m i at))

  none_here : (a : StepReply) → MeetsNone t.regs.now memory a → MeetsNone (regs_of u i) u.memory a
  none_here a none = subst (λ (r : Registers). MeetsNone r memory a) same_regs none

  met_here : (c : Command) → MeetsCommand t.regs.now memory c → MeetsCommand (regs_of u i) u.memory c
  met_here c met = subst (λ (r : Registers). MeetsCommand r memory c) same_regs met

  pub reads_still : (a : StepReply) → MeetsNone t.regs.now memory a → still_reads a ≡ reads u i
  reads_still a none = sym (still_read u i a (none_here a none))

  pub reads_met : (c : Command) → MeetsCommand t.regs.now memory c
      → all_told ((queue_place t.regs.now, 32) ∷ []) (command_reads p.layout.shape t.regs.now t.maps.now.maps u.redistributors c) ≡ reads u i
  reads_met c met =
      (λ d. all_told ((queue_place (same_regs d), 32) ∷ []) (command_reads p.layout.shape (same_regs d) (same_maps d) u.redistributors c))
      ∙ sym (met_read u i c (met_here c met))

  -- by the bytes of a command
  abbrev told_by : List ℕ → Bool → List (ℕ × ℕ)
  told_by bytes idle = cond idle [] (all_told ((queue_place (regs_of u i), 32) ∷ []) (met_reads u i (Some bytes)))

  pub by_idle : (bytes : List ℕ) → (not t.regs.now.enabled || is_queue_empty t.regs.now) ≡ true → [] ≡ reads_by u i bytes
  unfolding reads_by
  by_idle bytes idle =
      sym (ap (told_by bytes) (ap (λ (r : Registers). not r.enabled || is_queue_empty r) (sym same_regs) ∙ idle))

  pub by_bytes : (bytes : List ℕ) → (not t.regs.now.enabled || is_queue_empty t.regs.now) ≡ false
      → all_told ((queue_place t.regs.now, 32) ∷ []) (command_reads p.layout.shape t.regs.now t.maps.now.maps u.redistributors (decoded bytes))
      ≡ reads_by u i bytes
  unfolding reads_by
  by_bytes bytes busy =
      (λ d. all_told ((queue_place (same_regs d), 32) ∷ []) (command_reads p.layout.shape (same_regs d) (same_maps d) u.redistributors (decoded bytes)))
      ∙ sym (ap (told_by bytes) (ap (λ (r : Registers). not r.enabled || is_queue_empty r) (sym same_regs) ∙ busy))

  pub adds_still : (what : Addition) (a : StepReply) → MeetsNone t.regs.now memory a → false ≡ step_adds what u i
  adds_still what a none = sym (still_adds u i what a (none_here a none))

  pub adds_met : (what : Addition) (c : Command) → MeetsCommand t.regs.now memory c
      → (maps_new what t.maps.now.maps c && is_ok (ran u i c)) ≡ step_adds what u i
  adds_met what c met =
      ap (λ (x : Maps). maps_new what x c && is_ok (ran u i c)) same_maps ∙ both_tests (maps_new what (maps_of u i) c) (is_ok (ran u i c))
      ∙ sym (met_adds_is u i what c (met_here c met))

  -- ---- redistributors

  pub stays_still : (a : StepReply) (v : ℕ) → MeetsNone t.regs.now memory a → slice_get (step_left u i).redistributors v ≡ slice_get u.redistributors v
  stays_still a v none = ap (λ (w : Plain). slice_get w.redistributors v) (sym (still_left u i a (none_here a none)))

  -- both parts of the redistributor of a virtual processor that the step doesn't concern
  pub stays_met : (c : Command) (n : Needed) (v : ℕ) → MeetsCommand t.regs.now memory c → ArePartsOfStep p.layout.shape t.maps.now.maps c n
      → is_in n.confs v ≡ false → is_in n.pends v ≡ false
      → slice_get (step_left u i).redistributors v ≡ slice_get u.redistributors v
  unfolding left footprint
  stays_met c n v met parts no_conf no_pend =
      sym (same_both (slice_get u.redistributors v) (slice_get (step_left u i).redistributors v)
      (others.parts (conf v) (λ here. both_ways (is_in n.confs v) no_conf (is_part (conf v) here)))
      (others.parts (pend v) (λ here. both_ways (is_in n.pends v) no_pend (is_part (pend v) here))))
    where
      others : LeavesOthers u (call.Step i)
      others = leaves u (call.Step i) (record { vcpus = m.sound.vcpus })

      is_part : (q : Part) → IsIn q (footprint u (call.Step i)) → IsPartOf i n q
      is_part q here =
          (parts u i refl (sym same_maps) q).0
          (subst (λ (ps : List Part). IsIn q (MapsOf i ∷ Mem ∷ ps)) (met_needs u i c (met_here c met)) here)

  -- a command that is refused concerns nobody
  pub stays_refused : (c : Command) (v : ℕ) → MeetsCommand t.regs.now memory c → is_ok (ran u i c) ≡ false
      → slice_get (step_left u i).redistributors v ≡ slice_get u.redistributors v
  stays_refused c v met refused =
      ap (λ (w : Plain). slice_get w.redistributors v) (step_is u i c (met_here c met)) ∙ refused_left u i (ran u i c) refused v

  -- one that runs concerns those of whom a part is needed
  pub met_concerns : (c : Command) (n : Needed) (v : ℕ) → MeetsCommand t.regs.now memory c → ArePartsOfStep p.layout.shape t.maps.now.maps c n
      → is_ok (ran u i c) ≡ true → (is_in n.confs v ≡ true) ⊎ (is_in n.pends v ≡ true) → IsConcerned u i v
  unfolding footprint
  met_concerns c n v met parts runs named = record {
    ran = sym (ap is_ran (met_is u i c (met_here c met))) ∙ ran_reply (op_of c) (ran u i c) (command_reply (op_of c) (ran u i c)) refl ∙ runs;
    part = elim named [ inl conf_in ↦ inl (is_needed (conf v) conf_in) | inr pend_in ↦ inr (is_needed (pend v) pend_in) ];
  }
    where
      is_needed : (q : Part) → IsPartOf i n q → IsIn q (footprint u (call.Step i))
      is_needed q part =
          subst (λ (ps : List Part). IsIn q (MapsOf i ∷ Mem ∷ ps)) (sym (met_needs u i c (met_here c met)))
          ((parts u i refl (sym same_maps) q).1 part)
