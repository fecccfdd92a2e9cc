-- A call changes no part outside its footprint.
use Rattle.std.proofs.Common.{◌≡◌, ℕ, ◌≤◌, Bool, true, false, List, [], ◌∷◌, ◌++◌, length, Option, Some, None, Result, Ok, Err, sym, subst, ⊎_elim}
use Rattle.std.proofs.Common.{if◌then◌else◌}
use Rattle.std.proofs.lemmas.Bool.{cases_Bool, cond_both}
use Rattle.std.proofs.lemmas.Option.{slice_get_past}
use Rattle.guest_windows.specs.Windows.{Window, write_at}
use Rattle.dirty_log.specs.Copies.{wrote, caught_up}
use Rattle.std.specs.Option.{option_map}
use Rattle.gits_regs.specs.Registers.{write_reg, advanced}
use Rattle.its_command.specs.Commands.{decoded}
use Rattle.its_types.specs.Lpis.{with_lpi}
use Rattle.its_types.specs.declared.ids.Target.{Target}
use Rattle.its_types.specs.declared.machine.Part.{Part}
use Rattle.its_types.specs.declared.machine.Part.TheVariants.{Maps as MapsOf, Mem, Conf, Pend}
use Rattle.gicr_regs.specs.Registers.{asked_by, changes_pending, conf_done_by, done_by, written_gicr}
use Rattle.gicr_regs.specs.declared.write.GicrWrite.{GicrWrite}
use Rattle.gicr_regs.proofs.Split.{split}
use Rattle.its_plain.specs.Plain.{Plain, Redistributor, translator, redistributor, regs_of, pending_of, is_on, conf_of, with_redistributor}
use Rattle.its_types.specs.declared.ids.Vcpu.{Vcpu}
use Rattle.its_plain.specs.Sound.{IsSound}
use Rattle.its_plain.specs.Translation.{◌>>=◌, ensure, located, translated}
use Rattle.its_plain.specs.Commands.{ran}
use Rattle.its_plain.specs.Answer.{signal_reply, signal_left, lowest, claimed, taken, translator_written, written, command_left, save_left, is_idle}
use Rattle.its_plain.specs.Answer.{next_bytes}
use Rattle.its_plain.specs.Answer.{met_left, step_left, poke_left, route_reply, route_left, reply_of, left, answer}
use Rattle.its_types.specs.declared.ids.Addr.{Addr}
use Rattle.its_plain.specs.declared.call.Route.{Route}
use Rattle.its_plain.specs.declared.call.Route.TheVariants as route
use Rattle.its_plain.specs.Regions.{savable}
use Rattle.its_plain.specs.Saved.{saved, words_of, wrote_tables}
use Rattle.its_plain.specs.declared.fault.SaveFault.{SaveFault}
use Rattle.its_plain.specs.Parts.{write_parts, footprint}
use Rattle.its_plain.specs.Parts.{SamePart, IsIn, every_conf, translators_below, confs_below, pends_below, needed, redistributor_parts, route_parts}
use Rattle.its_plain.specs.declared.call.Call.{Call}
use Rattle.its_plain.specs.declared.call.Call.TheVariants as call
use Rattle.its_plain.specs.declared.call.Cause.{Cause}
use Rattle.its_plain.specs.declared.call.Cause.TheVariants.{LpisOff}
use Rattle.its_plain.specs.declared.call.Reason.{Reason}
use Rattle.plain_footprint.specs.Laws.{HasRedistributors, LeavesOthers}
use Rattle.plain_footprint.proofs.Footprints.{parts_of_signal, parts_of_step}
use Rattle.plain_footprint.proofs.Listed.{in_head, in_tail, conf_in_both, pend_in_both, pend_in_write, not_below}
use Rattle.plain_footprint.proofs.Stays.{Stay, HasAll, stay, stay_translator, stay_redist, stay_conf, stay_pend, stay_memory}
use Rattle.plain_footprint.proofs.StaysRan.{Kept, ran_stays}

-- ---- signals

module _ (u : Plain) (its : ℕ) where
  sent : (t : Target) (on : Bool) → Stay u (MapsOf its ∷ Pend t.vcpu ∷ []) (signal_left u (signal_reply (ensure on LpisOff >>= λ _. Ok t)))
  sent t true =
      stay_pend u u (MapsOf its ∷ Pend t.vcpu ∷ []) t.vcpu.0 (record {
        pending = with_lpi t.intid.0 (pending_of u t.vcpu.0);
        accepts = is_on u t.vcpu.0;
      })
      (in_tail (Pend t.vcpu) (MapsOf its) (Pend t.vcpu ∷ []) (in_head (Pend t.vcpu) [])) (stay u (MapsOf its ∷ Pend t.vcpu ∷ []))
  sent t false = stay u (MapsOf its ∷ Pend t.vcpu ∷ [])

  delivered : (found : Result Target Cause) → Stay u (parts_of_signal its found)
      (signal_left u (signal_reply (found >>= λ t. ensure (is_on u t.vcpu.0) LpisOff >>= λ _. Ok t)))
  delivered (Ok t) = sent t (is_on u t.vcpu.0)
  delivered (Err cause) = stay u (parts_of_signal its (Err cause))

  signal_stays : (dev ev : ℕ) → Stay u (parts_of_signal its (located (translator u its) dev ev)) (signal_left u (signal_reply (translated u its dev ev)))
  unfolding translated
  signal_stays dev ev = delivered (located (translator u its) dev ev)

-- ---- steps

has_all : (u : Plain) (ps : List Part) → HasRedistributors u → ((p : Part) → IsIn p (every_conf u) → IsIn p ps) → HasAll u ps
has_all u ps sound every v out =
    let past : u.layout.shape.vcpus ≤ v.0 = not_below u.layout.shape.vcpus v.0 (λ here. out (every (Conf v) here)) in
    slice_get_past u.redistributors v.0 (subst (λ (n : ℕ). n ≤ v.0) (sym sound.vcpus) past)

left_stays : (u : Plain) (ps : List Part) (r : Result Plain Reason) → Kept u ps r → Stay u ps (command_left u r)
left_stays u ps (Ok w) k = k
left_stays u ps (Err reason) k = stay u ps

module _ (u : Plain) (i : ℕ) (sound : HasRedistributors u) where
  met_stays : (idle : Bool) (bytes : Option (List ℕ)) → Stay u (parts_of_step u i idle bytes) (if idle then u else met_left u i bytes)
  met_stays true bytes = stay u (parts_of_step u i true bytes)
  met_stays false None = stay u (parts_of_step u i false None)
  met_stays false (Some bytes) =
      let ps : List Part = parts_of_step u i false (Some bytes) in
      let here : IsIn (MapsOf i) ps = in_head (MapsOf i) (Mem ∷ needed u i (decoded bytes)) in
      let w : Plain = command_left u (ran u i (decoded bytes)) in
      stay_translator u w ps i (record (translator w i) { regs = advanced (regs_of w i) }) here
      (left_stays u ps (ran u i (decoded bytes))
      (ran_stays u ps i (decoded bytes) here (λ p at. in_tail p (MapsOf i) (Mem ∷ needed u i (decoded bytes)) (in_tail p Mem (needed u i (decoded bytes)) at))
      (has_all u ps sound)))

  step_stays : Stay u (parts_of_step u i (is_idle u i) (next_bytes u i)) (step_left u i)
  unfolding step_left
  step_stays = met_stays (is_idle u i) (next_bytes u i)

-- ---- saves

abbrev saved_parts : Plain → List Part
saved_parts u = translators_below (length u.translators) ++ confs_below (length u.redistributors) ++ pends_below (length u.redistributors)

save_stays : (u : Plain) (r : Result (Unit {0}) SaveFault) → Stay u (footprint u call.Save) (save_left u r)
unfolding footprint
save_stays u (Ok done) =
    let ps : List Part = saved_parts u in
    stay_memory u u (Mem ∷ ps) (saved u) (option_map (wrote_tables (words_of u)) u.track) (in_head Mem ps) (stay u (Mem ∷ ps))
save_stays u (Err fault) = stay u (Mem ∷ saved_parts u)

-- ---- guest memory

poke_stays : (u : Plain) (address : ℕ) (bytes : List ℕ) (o : Option (List Window)) → Stay u (Mem ∷ []) (poke_left u address bytes o)
poke_stays u address bytes None = stay u (Mem ∷ [])
poke_stays u address bytes (Some memory) = stay_memory u u (Mem ∷ []) memory (option_map (wrote address (length bytes)) u.track) (in_head Mem [])
    (stay u (Mem ∷ []))

route_stays : (u : Plain) (addr : Addr) (bytes : List ℕ) (to : Route) → Stay u (route_parts u to) (route_left u addr bytes to (route_reply u addr bytes to))
route_stays u addr bytes (route.Signal its dev ev) = signal_stays u its dev.0 ev.0
route_stays u addr bytes route.Poke = poke_stays u addr.0 bytes (write_at u.memory addr.0 bytes)
route_stays u addr bytes route.NoRequester = stay u []
route_stays u addr bytes route.Frame = stay u []

-- ---- acknowledgements

-- what is taken is pending no more
taken_stays : (u : Plain) (v : Vcpu) (o : Option ℕ) → Stay u (redistributor_parts v) (with_redistributor u v.0 (taken (redistributor u v.0) o))
taken_stays u v o = stay_redist u u (redistributor_parts v) v.0 (taken (redistributor u v.0) o) (conf_in_both v) (pend_in_both v)
    (stay u (redistributor_parts v))

-- ---- the LPI registers of redistributors

done_stays : (u : Plain) (v : Vcpu) (w : GicrWrite)
    → Stay u (Conf v ∷ write_parts v w) (with_redistributor u v.0 (done_by u.layout.shape u.memory w (redistributor u v.0)))
done_stays u v w =
    let ps : List Part = Conf v ∷ write_parts v w in
    let r : Redistributor = redistributor u v.0 in
    let here : IsIn (Conf v) ps = in_head (Conf v) (write_parts v w) in
    ⊎_elim
    (λ (turns : changes_pending w ≡ true).
    stay_redist u u ps v.0 (done_by u.layout.shape u.memory w r) here (in_tail (Pend v) (Conf v) (write_parts v w) (pend_in_write v w turns)) (stay u ps))
    (λ (keeps : changes_pending w ≡ false).
    subst (λ (x : Redistributor). Stay u ps (with_redistributor u v.0 x)) (sym (split u.layout.shape u.memory w r keeps))
    (stay_conf u u ps v.0 (conf_done_by u.layout.shape u.memory w (conf_of r)) here (stay u ps)))
    (cases_Bool (changes_pending w))

-- ---- all calls

others_stay : (u : Plain) (c : Call) → HasRedistributors u → Stay u (footprint u c) (answer u c).1
unfolding footprint reply_of left written written_gicr
others_stay u (call.Signal its dev ev) sound = signal_stays u its dev.0 ev.0
others_stay u (call.Take vcpu) sound = taken_stays u vcpu (lowest (redistributor u vcpu.0))
others_stay u (call.Show vcpu) sound = stay u (redistributor_parts vcpu)
others_stay u (call.Best vcpu mask) sound = stay u (redistributor_parts vcpu)
others_stay u (call.Claim vcpu intid) sound = taken_stays u vcpu (claimed (redistributor u vcpu.0) intid.0)
others_stay u (call.Poke addr bytes) sound = poke_stays u addr.0 bytes (write_at u.memory addr.0 bytes)
others_stay u (call.Peek addr count) sound = stay u (Mem ∷ [])
others_stay u (call.ReadReg its off size) sound = stay u (MapsOf its ∷ [])
others_stay u (call.WriteReg its off size value) sound =
    stay_translator u u (MapsOf its ∷ []) its (translator_written u.layout.shape (translator u its) (write_reg (regs_of u its) off size value)) (in_head
    (MapsOf its) [])
    (stay u (MapsOf its ∷ []))
others_stay u (call.ReadGicr vcpu off size) sound = stay u (Conf vcpu ∷ [])
others_stay u (call.WriteGicr vcpu off size value) sound =
    let w : GicrWrite = asked_by (redistributor u vcpu.0).bases off size value in
    let ps : List Part = Conf vcpu ∷ write_parts vcpu w in
    cond_both u.layout.gicr (with_redistributor u vcpu.0 (done_by u.layout.shape u.memory w (redistributor u vcpu.0))) u (Stay u ps)
    (λ _. done_stays u vcpu w) (λ _. stay u ps)
others_stay u (call.Step its) sound = step_stays u its sound
others_stay u call.Save sound = save_stays u (savable u)
others_stay u call.Copy sound = stay_memory u u (Mem ∷ []) u.memory (option_map (caught_up u.memory) u.track) (in_head Mem []) (stay u (Mem ∷ []))
others_stay u (call.Dma req addr bytes to) sound = route_stays u addr bytes to

pub other_parts : (u : Plain) (c : Call) (p : Part) → IsSound u → ¬ IsIn p (footprint u c) → SamePart u (answer u c).1 p
other_parts u c p sound out = (others_stay u c record { vcpus = sound.vcpus }).parts p out

pub layout_is : (u : Plain) (c : Call) → IsSound u → u.layout ≡ (answer u c).1.layout
layout_is u c sound = (others_stay u c record { vcpus = sound.vcpus }).layout

pub leaves : (u : Plain) (c : Call) → HasRedistributors u → LeavesOthers u c
leaves u c has = let s = others_stay u c has in record { layout = s.layout; translators = s.translators; parts = s.parts }
