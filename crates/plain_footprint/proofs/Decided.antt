-- A call's footprint decides what is answered, and what is left in it.
use Rattle.std.proofs.Common.{◌≡◌, ℕ, Bool, true, false, not, ◌||◌, ◌&&◌, nat_lt, nat_le, List, [], ◌∷◌, ◌++◌, length, Option, Some, None, Result, Ok, Err}
use Rattle.std.proofs.Common.{slice_get, refl, ap, subst, if◌then◌else◌}
use Rattle.std.specs.Option.{option_map}
use Rattle.std.specs.Result.{result_ok}
use Rattle.guest_windows.specs.Windows.{Window, read_at, write_at}
use Rattle.dirty_log.specs.Copies.{wrote, caught_up}
use Rattle.dirty_log.specs.declared.tracked.Tracked.{Tracked}
use Rattle.its_types.specs.declared.ids.Addr.{Addr}
use Rattle.gits_regs.specs.Registers.{queue_place, is_queue_empty, read_reg, write_reg, advanced}
use Rattle.its_command.specs.Commands.{decoded, op_of}
use Rattle.its_command.specs.declared.command.Op.{Op}
use Rattle.its_types.specs.declared.ids.Target.{Target}
use Rattle.its_types.specs.declared.machine.Part.{Part}
use Rattle.its_types.specs.declared.machine.Part.TheVariants.{Maps as MapsOf, Mem, Conf, Pend}
use Rattle.gicr_regs.specs.Registers.{asked_by, read_gicr, written_gicr}
use Rattle.gicr_regs.specs.declared.write.GicrWrite.{GicrWrite}
use Rattle.its_types.specs.declared.ids.Vcpu.{Vcpu}
use Rattle.its_plain.specs.declared.layout.Layout.{Layout}
use Rattle.its_plain.specs.Plain.{Plain, Translator, Redistributor, PendState, translator, redistributor, regs_of, is_on, conf_of, pend_of, joined}
use Rattle.its_plain.specs.Translation.{◌>>=◌, ensure, located, translated}
use Rattle.its_plain.specs.Commands.{ran}
use Rattle.its_plain.specs.Answer.{signal_reply, signal_left, ack_of, lowest, best, claimed, taken, poke_reply, peek_reply, translator_written, written}
use Rattle.its_plain.specs.Answer.{command_reply}
use Rattle.its_plain.specs.Answer.{command_left, save_reply, save_left, is_idle, next_bytes, met_reply, met_left, step_reply, step_left, reply_of, left}
use Rattle.its_plain.specs.Answer.{answer, poke_left, poked, copy_count, copy_left, route_reply, route_left}
use Rattle.its_plain.specs.declared.call.Route.{Route}
use Rattle.its_plain.specs.declared.call.Route.TheVariants as route
use Rattle.its_plain.specs.Regions.{savable}
use Rattle.its_plain.specs.Parts.{SamePart, IsIn, AgreesOn, conf, pend, pend_at, translators_below, confs_below, pends_below, redistributor_parts, needed}
use Rattle.its_plain.specs.Parts.{route_parts, write_parts, footprint}
use Rattle.its_plain.specs.declared.call.Call.{Call}
use Rattle.its_plain.specs.declared.call.Call.TheVariants as call
use Rattle.its_plain.specs.declared.call.Cause.{Cause}
use Rattle.its_plain.specs.declared.call.Cause.TheVariants.{LpisOff}
use Rattle.its_plain.specs.declared.call.Reason.{Reason}
use Rattle.its_plain.specs.declared.call.Reply.TheVariants as reply
use Rattle.its_plain.specs.declared.call.Signal.{Signal}
use Rattle.its_plain.specs.declared.call.StepReply.{StepReply}
use Rattle.its_plain.specs.declared.call.StepReply.TheVariants.{Idle, QueueFault}
use Rattle.plain_footprint.proofs.Footprints.{parts_of_signal, parts_of_step, needed_at}
use Rattle.plain_footprint.proofs.Listed.{same_or, in_head, in_tail, in_left, in_right, conf_in_both, pend_in_both, conf_below}
use Rattle.plain_footprint.proofs.Listed.{pend_below, translator_below}
use Rattle.plain_footprint.proofs.Stays.{same_part}
use Rattle.std.proofs.lemmas.List.{same_lists}
use Rattle.plain_footprint.proofs.Alike.{translator_same, conf_same, pend_same, redist_same, agree_translator, agree_redist, agree_memory, agree_set}
use Rattle.plain_footprint.proofs.AlikeRan.{Alike, ran_alike}
use Rattle.plain_footprint.proofs.Writes.{done_at, done_alike}

-- the same answer, and the same left in the parts
abbrev Decided : {R : Type 0} → List Part → R → R → Plain → Plain → Type 0
Decided ps r s u w = (r ≡ s) × ((p : Part) → IsIn p ps → SamePart u w p)

-- a test that comes out the same chooses parts that are the same
alike_if : (b c : Bool) (ps : List Part) (x y u w : Plain) → b ≡ c → ((p : Part) → IsIn p ps → SamePart x y p) → ((p : Part) → IsIn p ps → SamePart u w p)
    → (p : Part) → IsIn p ps → SamePart (if b then x else u) (if c then y else w) p
alike_if true true ps x y u w e new old = new
alike_if false false ps x y u w e new old = old
alike_if true false ps x y u w e new old = absurd cc
alike_if false true ps x y u w e new old = absurd cc

-- ---- signals

abbrev signalled : Plain → Result Target Cause → Signal
signalled u found = signal_reply (found >>= λ t. ensure (is_on u t.vcpu.0) LpisOff >>= λ _. Ok t)

module _ (u w : Plain) (its : ℕ) where
  abbrev sent : Target → Bool → Signal
  sent t on = signal_reply (ensure on LpisOff >>= λ _. Ok t)

  sent_decided : (t : Target) (on on' : Bool) → on ≡ on' → AgreesOn u w (MapsOf its ∷ Pend t.vcpu ∷ [])
      → Decided (MapsOf its ∷ Pend t.vcpu ∷ []) (sent t on) (sent t on') (signal_left u (sent t on)) (signal_left w (sent t on'))
  sent_decided t true true e a =
      let after = agree_set (MapsOf its ∷ Pend t.vcpu ∷ []) u w t.intid.0 t.vcpu.0 (in_tail (Pend t.vcpu) (MapsOf its) (Pend t.vcpu ∷ [])
      (in_head (Pend t.vcpu) [])) a in
      (refl, after.parts)
  sent_decided t true false e a = absurd cc
  sent_decided t false true e a = absurd cc
  sent_decided t false false e a = (refl, a.parts)

  found_decided : (found : Result Target Cause) → AgreesOn u w (parts_of_signal its found)
      → Decided (parts_of_signal its found) (signalled u found) (signalled w found) (signal_left u (signalled u found)) (signal_left w (signalled w found))
  found_decided (Ok t) a =
      let listed : IsIn (Pend t.vcpu) (MapsOf its ∷ Pend t.vcpu ∷ []) = in_tail (Pend t.vcpu) (MapsOf its) (Pend t.vcpu ∷ [])
      (in_head (Pend t.vcpu) []) in
      sent_decided t (is_on u t.vcpu.0) (is_on w t.vcpu.0)
      (ap (λ (p : PendState). p.accepts) (pend_same u w (MapsOf its ∷ Pend t.vcpu ∷ []) t.vcpu.0 listed a)) a
  found_decided (Err cause) a = (refl, a.parts)

  signal_decided : (dev ev : ℕ) → AgreesOn u w (parts_of_signal its (located (translator u its) dev ev))
      → Decided (parts_of_signal its (located (translator u its) dev ev)) (signal_reply (translated u its dev ev)) (signal_reply (translated w its dev ev))
      (signal_left u (signal_reply (translated u its dev ev))) (signal_left w (signal_reply (translated w its dev ev)))
  unfolding translated
  signal_decided dev ev a =
      let ps : List Part = parts_of_signal its (located (translator u its) dev ev) in
      let here : IsIn (MapsOf its) ps = in_head (MapsOf its) (pend_at (option_map (λ t. t.vcpu) (result_ok (located (translator u its) dev ev)))) in
      subst (λ (t : Translator). Decided ps (signalled u (located (translator u its) dev ev)) (signalled w (located t dev ev))
      (signal_left u (signalled u (located (translator u its) dev ev))) (signal_left w (signalled w (located t dev ev))))
      (translator_same u w ps its here a) (found_decided (located (translator u its) dev ev) a)

-- ---- steps

same_reply : (ps : List Part) (op : Op) (r s : Result Plain Reason) → Alike ps r s → command_reply op r ≡ command_reply op s
same_reply ps op (Ok u) (Ok w) a = refl
same_reply ps op (Ok u) (Err s) a = absurd a
same_reply ps op (Err r) (Ok w) a = absurd a
same_reply ps op (Err r) (Err s) a = ap (λ (reason : Reason). command_reply op (Err reason)) a

left_alike : (ps : List Part) (u w : Plain) (r s : Result Plain Reason) → AgreesOn u w ps → Alike ps r s → AgreesOn (command_left u r) (command_left w s) ps
left_alike ps u w (Ok v) (Ok x) a b = b
left_alike ps u w (Ok v) (Err s) a b = absurd b
left_alike ps u w (Err r) (Ok x) a b = absurd b
left_alike ps u w (Err r) (Err s) a b = a

module _ (u w : Plain) (i : ℕ) where
  abbrev stepped : Plain → Bool → Option (List ℕ) → StepReply
  stepped v idle bytes = if idle then Idle else met_reply v i bytes

  abbrev step_leaves : Plain → Bool → Option (List ℕ) → Plain
  step_leaves v idle bytes = if idle then v else met_left v i bytes

  met_decided : (idle : Bool) (bytes : Option (List ℕ)) → AgreesOn u w (parts_of_step u i idle bytes)
      → Decided (parts_of_step u i idle bytes) (stepped u idle bytes) (stepped w idle bytes) (step_leaves u idle bytes) (step_leaves w idle bytes)
  met_decided true bytes a = (refl, a.parts)
  met_decided false None a = (
    ap (λ (t : Translator). QueueFault (record { 0 = queue_place t.regs }))
        (translator_same u w (parts_of_step u i false None) i (in_head (MapsOf i) (Mem ∷ [])) a),
    a.parts,
  )
  met_decided false (Some bytes) a =
      let rest : List Part = needed u i (decoded bytes) in
      let ps : List Part = MapsOf i ∷ Mem ∷ rest in
      let here : IsIn (MapsOf i) ps = in_head (MapsOf i) (Mem ∷ rest) in
      let memory : u.memory ≡ w.memory = (a.parts Mem (in_tail Mem (MapsOf i) (Mem ∷ rest) (in_head Mem rest))).0 in
      let both : Alike ps (ran u i (decoded bytes)) (ran w i (decoded bytes)) =
      ran_alike ps i here u w a memory (decoded bytes) (λ p at. in_tail p (MapsOf i) (Mem ∷ rest) (in_tail p Mem rest at)) in
      let v : Plain = command_left u (ran u i (decoded bytes)) in
      let x : Plain = command_left w (ran w i (decoded bytes)) in
      let after : AgreesOn v x ps = left_alike ps u w (ran u i (decoded bytes)) (ran w i (decoded bytes)) a both in
      let went = agree_translator v x ps i (record (translator v i) { regs = advanced (regs_of v i) })
      (record (translator x i) { regs = advanced (regs_of x i) })
      (ap (λ (t : Translator). (let next : Translator = record t { regs = advanced t.regs } in next)) (translator_same v x ps i here after)) after in
      (same_reply ps (op_of (decoded bytes)) (ran u i (decoded bytes)) (ran w i (decoded bytes)) both, went.parts)

  step_decided : AgreesOn u w (parts_of_step u i (is_idle u i) (next_bytes u i)) → Decided (parts_of_step u i (is_idle u i) (next_bytes u i)) (step_reply u i)
      (step_reply w i) (step_left u i) (step_left w i)
  unfolding step_reply step_left
  step_decided a =
      let ps : List Part = parts_of_step u i (is_idle u i) (next_bytes u i) in
      let rest : List Part = (if is_idle u i then [] else needed_at u i (next_bytes u i)) in
      let same : translator u i ≡ translator w i = translator_same u w ps i (in_head (MapsOf i) (Mem ∷ rest)) a in
      let memory : u.memory ≡ w.memory = (a.parts Mem (in_tail Mem (MapsOf i) (Mem ∷ rest) (in_head Mem rest))).0 in
      let idle : is_idle u i ≡ is_idle w i = ap (λ (t : Translator). not t.regs.enabled || is_queue_empty t.regs) same in
      let bytes : next_bytes u i ≡ next_bytes w i = (λ d. read_at (memory d) (queue_place (same d).regs) 32) in
      subst (λ (b : Bool). Decided ps (stepped u (is_idle u i) (next_bytes u i)) (stepped w b (next_bytes w i)) (step_leaves u (is_idle u i) (next_bytes u i))
      (step_leaves w b (next_bytes w i))) idle
      (subst (λ (o : Option (List ℕ)). Decided ps (stepped u (is_idle u i) (next_bytes u i)) (stepped w (is_idle u i) o)
      (step_leaves u (is_idle u i) (next_bytes u i)) (step_leaves w (is_idle u i) o)) bytes
      (met_decided (is_idle u i) (next_bytes u i) a))

-- ---- saves

-- a redistributor is its two parts
both_seen : (o p : Option Redistributor) → option_map conf_of o ≡ option_map conf_of p → option_map pend_of o ≡ option_map pend_of p → o ≡ p
both_seen None None e f = refl
both_seen None (Some r) e f = absurd cc
both_seen (Some r) None e f = absurd cc
both_seen (Some r) (Some s) e f =
    let c : conf_of r ≡ conf_of s = cc in
    let q : pend_of r ≡ pend_of s = cc in
    (λ d. Some (joined (c d) (q d)))

-- two states that have every part in common are the same
whole : (u w : Plain) → AgreesOn u w (footprint u call.Save) → u ≡ w
unfolding footprint
whole u w a =
    let ts : List Part = translators_below (length u.translators) in
    let cs : List Part = confs_below (length u.redistributors) in
    let qs : List Part = pends_below (length u.redistributors) in
    let fs : List Part = ts ++ cs in
    let translators : u.translators ≡ w.translators =
    same_lists u.translators w.translators a.translators
    (λ i d low. same_or u.translators w.translators i d
    (a.parts (MapsOf i) (in_tail (MapsOf i) Mem (fs ++ qs)
    (in_left (MapsOf i) fs qs (in_left (MapsOf i) ts cs (translator_below (length u.translators) i low)))))) in
    let redistributors : u.redistributors ≡ w.redistributors =
    same_lists u.redistributors w.redistributors a.redistributors (λ v d low. same_or u.redistributors w.redistributors v d
    (both_seen (slice_get u.redistributors v) (slice_get w.redistributors v)
    (a.parts (conf v) (in_tail (conf v) Mem (fs ++ qs) (in_left (conf v) fs qs (in_right (conf v) ts cs (conf_below (length u.redistributors) v low)))))
    (a.parts (pend v) (in_tail (pend v) Mem (fs ++ qs) (in_right (pend v) fs qs (pend_below (length u.redistributors) v low)))))) in
    let both = a.parts Mem (in_head Mem (fs ++ qs)) in
    λ d. record { layout = a.layout d; translators = translators d; redistributors = redistributors d; memory = both.0 d; track = both.1 d }

save_decided : (u w : Plain) → u ≡ w → Decided (footprint u call.Save) (save_reply (savable u)) (save_reply (savable w)) (save_left u (savable u))
    (save_left w (savable w))
save_decided u w e =
    subst (λ (v : Plain). Decided (footprint u call.Save) (save_reply (savable u)) (save_reply (savable v)) (save_left u (savable u)) (save_left v (savable v)))
    e
    (refl, λ p here. same_part (save_left u (savable u)) p)

-- ---- guest memory

module _ (u w : Plain) (a : AgreesOn u w (Mem ∷ [])) where
  memory_is : u.memory ≡ w.memory
  memory_is = (a.parts Mem (in_head Mem [])).0

  track_is : u.track ≡ w.track
  track_is = (a.parts Mem (in_head Mem [])).1

  poked_alike : (address : ℕ) (bytes : List ℕ) (o : Option (List Window)) (p : Part) → IsIn p (Mem ∷ [])
      → SamePart (poke_left u address bytes o) (poke_left w address bytes o) p
  poked_alike address bytes None = a.parts
  poked_alike address bytes (Some m) =
      let marks : Option Tracked → Option Tracked = option_map (wrote address (length bytes)) in
      (agree_memory u w (Mem ∷ []) m m (marks u.track) (marks w.track) refl (ap marks track_is) a).parts

  copy_decided : Decided (Mem ∷ []) (reply.Copied (copy_count u.track)) (reply.Copied (copy_count w.track)) (copy_left u) (copy_left w)
  copy_decided = (
    ap (λ (t : Option Tracked). reply.Copied (copy_count t)) track_is,
    (agree_memory u w (Mem ∷ []) u.memory w.memory (option_map (caught_up u.memory) u.track) (option_map (caught_up w.memory) w.track) memory_is
        (λ d. option_map (caught_up (memory_is d)) (track_is d)) a).parts,
  )

poke_decided : (u w : Plain) (address : ℕ) (bytes : List ℕ) → AgreesOn u w (Mem ∷ [])
    → Decided (Mem ∷ []) (poke_reply (write_at u.memory address bytes)) (poke_reply (write_at w.memory address bytes)) (poked u address bytes)
    (poked w address bytes)
poke_decided u w address bytes a =
    let same : write_at u.memory address bytes ≡ write_at w.memory address bytes = ap (λ (m : List Window). write_at m address bytes) (memory_is u w a) in
    subst (λ (o : Option (List Window)). Decided (Mem ∷ []) (poke_reply (write_at u.memory address bytes)) (poke_reply o) (poked u address bytes)
    (poke_left w address bytes o)) same (refl, poked_alike u w a address bytes (write_at u.memory address bytes))

route_decided : (u w : Plain) (addr : Addr) (bytes : List ℕ) (to : Route) → AgreesOn u w (route_parts u to)
    → Decided (route_parts u to) (route_reply u addr bytes to) (route_reply w addr bytes to) (route_left u addr bytes to (route_reply u addr bytes to))
    (route_left w addr bytes to (route_reply w addr bytes to))
route_decided u w addr bytes (route.Signal its dev ev) a = let d = signal_decided u w its dev.0 ev.0 a in (ap (λ (s : Signal). reply.Signal s) d.0, d.1)
route_decided u w addr bytes route.Poke a = poke_decided u w addr.0 bytes a
route_decided u w addr bytes route.NoRequester a = (refl, a.parts)
route_decided u w addr bytes route.Frame a = (refl, a.parts)

-- ---- redistributors

both_same : (u w : Plain) (v : Vcpu) → AgreesOn u w (redistributor_parts v) → redistributor u v.0 ≡ redistributor w v.0
both_same u w v a = redist_same u w (redistributor_parts v) v.0 (conf_in_both v) (pend_in_both v) a

-- ---- all calls

pub decides : (u w : Plain) (c : Call) → AgreesOn u w (footprint u c) → (reply_of u c ≡ reply_of w c)
    × ((p : Part) → IsIn p (footprint u c) → SamePart (answer u c).1 (answer w c).1 p)
unfolding footprint reply_of left written written_gicr
decides u w (call.Signal its dev ev) a = let d = signal_decided u w its dev.0 ev.0 a in (ap (λ (s : Signal). reply.Signal s) d.0, d.1)
decides u w (call.Take vcpu) a =
    let same : redistributor u vcpu.0 ≡ redistributor w vcpu.0 = both_same u w vcpu a in
    let after = agree_redist u w (redistributor_parts vcpu) vcpu.0 (taken (redistributor u vcpu.0) (lowest (redistributor u vcpu.0)))
    (taken (redistributor w vcpu.0) (lowest (redistributor w vcpu.0)))
    (ap (λ (r : Redistributor). taken r (lowest r)) same) a in
    (ap (λ (r : Redistributor). reply.Ack (ack_of r (lowest r))) same, after.parts)
decides u w (call.Show vcpu) a =
    let same : redistributor u vcpu.0 ≡ redistributor w vcpu.0 = both_same u w vcpu a in
    (ap (λ (r : Redistributor). reply.Ack (ack_of r (lowest r))) same, a.parts)
decides u w (call.Best vcpu mask) a =
    let same : redistributor u vcpu.0 ≡ redistributor w vcpu.0 = both_same u w vcpu a in
    (ap (λ (r : Redistributor). reply.Ack (ack_of r (best r mask))) same, a.parts)
decides u w (call.Claim vcpu intid) a =
    let same : redistributor u vcpu.0 ≡ redistributor w vcpu.0 = both_same u w vcpu a in
    let after = agree_redist u w (redistributor_parts vcpu) vcpu.0 (taken (redistributor u vcpu.0) (claimed (redistributor u vcpu.0) intid.0))
    (taken (redistributor w vcpu.0) (claimed (redistributor w vcpu.0) intid.0))
    (ap (λ (r : Redistributor). taken r (claimed r intid.0)) same) a in
    (ap (λ (r : Redistributor). reply.Ack (ack_of r (claimed r intid.0))) same, after.parts)
decides u w (call.Poke addr bytes) a =
    poke_decided u w addr.0 bytes a
decides u w (call.Peek addr count) a =
    let same : u.memory ≡ w.memory = (a.parts Mem (in_head Mem [])).0 in
    (ap (λ (m : List Window). peek_reply (if nat_lt 0 count && nat_le count 64 then read_at m addr.0 count else None)) same, a.parts)
decides u w (call.ReadReg its off size) a =
    (ap (λ (t : Translator). reply.Value (read_reg t.regs off size)) (translator_same u w (MapsOf its ∷ []) its (in_head (MapsOf its) []) a), a.parts)
decides u w (call.WriteReg its off size value) a =
    let same : translator u its ≡ translator w its = translator_same u w (MapsOf its ∷ []) its (in_head (MapsOf its) []) a in
    let after = agree_translator u w (MapsOf its ∷ []) its (translator_written u.layout.shape (translator u its) (write_reg (regs_of u its) off size value))
    (translator_written w.layout.shape (translator w its) (write_reg (regs_of w its) off size value))
    (λ d. translator_written (a.layout d).shape (same d) (write_reg (same d).regs off size value)) a in
    (refl, after.parts)
decides u w (call.ReadGicr vcpu off size) a =
    let same : conf_of (redistributor u vcpu.0) ≡ conf_of (redistributor w vcpu.0) = conf_same u w (Conf vcpu ∷ []) vcpu.0 (in_head (Conf vcpu) []) a in
    ((λ d. reply.Value (if (a.layout d).gicr then read_gicr (a.layout d).shape.linux (same d).bases off size else 0)), a.parts)
decides u w (call.WriteGicr vcpu off size value) a =
    let asked : GicrWrite = asked_by (redistributor u vcpu.0).bases off size value in
    let ps : List Part = Conf vcpu ∷ write_parts vcpu asked in
    let same : conf_of (redistributor u vcpu.0) ≡ conf_of (redistributor w vcpu.0) =
    conf_same u w ps vcpu.0 (in_head (Conf vcpu) (write_parts vcpu asked)) a in
    let other : asked ≡ asked_by (redistributor w vcpu.0).bases off size value = (λ d. asked_by (same d).bases off size value) in (
      refl,
      alike_if u.layout.gicr w.layout.gicr ps (done_at u vcpu asked) (done_at w vcpu (asked_by (redistributor w vcpu.0).bases off size value)) u w
          (ap (λ (l : Layout). l.gicr) a.layout)
          (subst (λ (x : GicrWrite). (p : Part) → IsIn p ps → SamePart (done_at u vcpu asked) (done_at w vcpu x) p) other
          (done_alike u w vcpu asked a).parts)
          a.parts,
    )
decides u w (call.Step its) a = let d = step_decided u w its a in (ap (λ (s : StepReply). reply.Step s) d.0, d.1)
decides u w call.Save a = save_decided u w (whole u w a)
decides u w call.Copy a = copy_decided u w a
decides u w (call.Dma req addr bytes to) a = route_decided u w addr bytes to a
