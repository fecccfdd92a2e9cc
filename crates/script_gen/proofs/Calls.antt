-- Each call of the script keeps the invariant.
use Rattle.std.proofs.Common.{◌≡◌, ◌⊎◌, ℕ, ◌+◌, ◌*◌, ◌/◌, ◌%◌, ◌<◌, ◌≤◌, ◌^◌, true, not, ◌&&◌, List, [], ◌∷◌, length, map, Option, Some, None, Result, Ok, Err}
use Rattle.std.proofs.Common.{IfOk, inl, inr, refl, sym, ap, subst, ◌∙◌, arith}
use Rattle.std.specs.Prelude.{slice_index_or}
use Rattle.std.specs.Option.{option_map}
use Rattle.std.specs.List.{AllByRecursion}
use Rattle.std.proofs.lemmas.Bool.{cond_both, or_parts, and_parts, not-false, cases_eq, cases_lt}
use Rattle.std.proofs.lemmas.List.{length-set}
use Rattle.std.proofs.lemmas.Option.{same_Some}
use Rattle.guest_windows.specs.Windows.{Window, extent, read_at, write_at}
use Rattle.guest_windows.proofs.Laws.{extents-write_at, read_at-write_at_same, read_at-write_at_apart}
use Rattle.dirty_log.specs.Copies.{wrote as dirtied}
use Rattle.dirty_log.specs.declared.tracked.Tracked.{Tracked}
use Rattle.gits_regs.specs.Registers as regs
use Rattle.gits_regs.specs.Registers.{Registers, write_reg, is_valid, queue_place, queue_base, queue_size, size_of, is_queue_empty, advanced}
use Rattle.its_command.specs.Commands.{decoded}
use Rattle.its_types.specs.Bits.{field}
use Rattle.its_types.specs.declared.machine.Profile.TheVariants.{One}
use Rattle.its_plain.specs.Plain.{Plain, Translator, no_translator, translator, regs_of, maps_of, with_regs, with_translator}
use Rattle.its_plain.specs.Answer.{answer, left, reply_of, written, translator_written, signal_left, signal_reply, step_left, met_left, command_left, went_on}
use Rattle.its_plain.specs.Answer.{is_idle, next_bytes, poke_left, emptied, has_same_tables}
use Rattle.its_plain.specs.Commands.{ran}
use Rattle.its_plain.specs.History.{after}
use Rattle.its_plain.specs.declared.layout.Layout.{Layout}
use Rattle.its_plain.specs.Sound.{IsSound}
use Rattle.its_plain.specs.Translation.{translated}
use Rattle.its_plain.specs.declared.call.Call.{Call}
use Rattle.its_plain.specs.declared.call.Call.TheVariants as call
use Rattle.its_plain.specs.declared.call.Entry.{Entry}
use Rattle.its_plain.specs.declared.call.Reason.{Reason}
use Rattle.its_plain.specs.declared.call.Signal.{Signal}
use Rattle.its_plain.specs.declared.call.Signal.TheVariants.{Delivered, Dropped}
use Rattle.plain_soundness.proofs.Answers.{calls_keep}
use Rattle.plain_soundness.proofs.States.{translator_sound, enabled_within}
use Rattle.script_gen.specs.Description.{description}
use Rattle.script_gen.specs.Generated.{queue}
use Rattle.script_gen.proofs.Invariant.{IsKept, IsQueue, IsGiven, IsPut, IsWrite, IsAllowed, AreRegisters, AreDevices, extents}
use Rattle.script_gen.proofs.Ran.{Beside, IsRan, translator_set, command_ran, set_beside, itself}
use Rattle.script_gen.proofs.Writes.{IsWritten, register_written}

-- ---- signals

kept_beside : (n : ℕ) (u v : Plain) → IsKept n u → Beside u v → IsSound v → IsKept n v
kept_beside n u v h same sound =
    let at_0 : translator v 0 ≡ translator u 0 = ap (λ (ts : List Translator). slice_index_or ts 0 no_translator) same.translators in record {
      sound = sound;
      layout = same.layout ∙ h.layout;
      one = ap length same.translators ∙ h.one;
      windows = ap (map extent) same.memory ∙ h.windows;
      regs = subst (λ (t : Translator). AreRegisters t.regs) (sym at_0) h.regs;
      devices = subst (λ (t : Translator). AreDevices n t.maps) (sym at_0) h.devices;
      queue = subst (IsQueue n) (sym same.memory) h.queue;
    }

signalled : (u : Plain) (s : Signal) → Beside u (signal_left u s)
signalled u (Delivered vcpu intid) = set_beside u intid.0 vcpu.0
signalled u (Dropped cause) = itself u

-- ---- writes of registers

kept_written : (n : ℕ) (u : Plain) (off size value : ℕ) → IsKept n u → IsWrite off size value → IsSound (written u 0 off size value)
    → IsKept n (written u 0 off size value)
unfolding written
kept_written n u off size value h is sound =
    let w = write_reg (regs_of u 0) off size value in
    let s = u.layout.shape in
    let t : Translator = translator_written s (translator u 0) w in
    let at_0 : translator (with_translator u 0 t) 0 ≡ t = translator_set u t h.one in
    let after : IsWritten n (maps_of u 0) w = register_written n (regs_of u 0) (maps_of u 0) h.regs h.devices off size value is in record {
      sound = sound;
      layout = h.layout;
      one = length-set u.translators 0 t ∙ h.one;
      windows = h.windows;
      regs = subst (λ (x : Translator). AreRegisters x.regs) (sym at_0) after.regs;
      devices = subst (λ (x : Translator). AreDevices n x.maps) (sym at_0)
          (cond_both (s.linux && has_same_tables (regs_of u 0) w.regs) (maps_of u 0) (emptied w.change (maps_of u 0)) (AreDevices n) (λ _. h.devices)
          (λ _. after.devices));
      queue = h.queue;
    }

-- ---- commands written to the queue

kept_memory : (n : ℕ) (u : Plain) (memory : List Window) (track : Option Tracked) → IsKept n u → map extent memory ≡ extents → IsQueue n memory
    → IsSound (record u { memory = memory; track = track }) → IsKept n (record u { memory = memory; track = track })
kept_memory n u memory track h windows queue sound = record {
  sound = sound;
  layout = h.layout;
  one = h.one;
  windows = windows;
  regs = h.regs;
  devices = h.devices;
  queue = queue;
}

same_place : (n : ℕ) (memory now : List Window) (address : ℕ) (put : List ℕ) (bytes : List ℕ) → write_at memory address put ≡ Some now → length put ≡ 32
    → IsAllowed n (decoded put)
    → read_at now address 32 ≡ Some bytes → IsAllowed n (decoded bytes)
same_place n memory now address put bytes wrote count allowed read =
    let again : read_at now address (length put) ≡ Some put = read_at-write_at_same memory address put now wrote in
    let same : put ≡ bytes = same_Some put bytes (sym again ∙ ap (read_at now address) count ∙ read) in
    subst (λ (b : List ℕ). IsAllowed n (decoded b)) same allowed

places_apart : (j k : ℕ) → (j ≡ k → ⊥) → (queue + 32 * j + 32 ≤ queue + 32 * k) ⊎ (queue + 32 * k + 32 ≤ queue + 32 * j)
places_apart j k apart =
    elim (cases_lt j k) [
      | inl before ↦ inl (omega arith)
      | inr after ↦ let less : k < j = omega (arith, apart) in inr (omega arith)
    ]

queue_written : (n : ℕ) (memory now : List Window) (address : ℕ) (put : List ℕ) → IsPut n address put → write_at memory address put ≡ Some now
    → IsQueue n memory → IsQueue n now
queue_written n memory now address put is wrote h k bytes low read =
    elim (cases_eq is.place k) [
      | inl same ↦
          let here : queue + 32 * k ≡ address = ap (λ (j : ℕ). queue + 32 * j) (sym same) ∙ sym is.address_is in
          same_place n memory now address put bytes wrote is.count is.allowed (ap (λ (a : ℕ). read_at now a 32) (sym here) ∙ read)
      | inr other ↦
          let apart : (address + length put ≤ queue + 32 * k) ⊎ (queue + 32 * k + 32 ≤ address) =
          subst (λ (c : ℕ). (address + c ≤ queue + 32 * k) ⊎ (queue + 32 * k + 32 ≤ address)) (sym is.count)
          (subst (λ (a : ℕ). (a + 32 ≤ queue + 32 * k) ⊎ (queue + 32 * k + 32 ≤ a)) (sym is.address_is) (places_apart is.place k other)) in
          h k bytes low (sym (read_at-write_at_apart memory address put now (queue + 32 * k) 32 wrote apart) ∙ read)
    ]

kept_put : (n : ℕ) (u : Plain) (address : ℕ) (bytes : List ℕ) (o : Option (List Window)) → write_at u.memory address bytes ≡ o → IsKept n u
    → IsPut n address bytes
    → IsSound (poke_left u address bytes o) → IsKept n (poke_left u address bytes o)
kept_put n u address bytes None wrote h is sound = h
kept_put n u address bytes (Some now) wrote h is sound =
    kept_memory n u now (option_map (dirtied address (length bytes)) u.track) h (extents-write_at u.memory address bytes now wrote
    ∙ h.windows) (queue_written n u.memory now address bytes is wrote h.queue) sound

-- ---- steps

-- an enabled translator's queue is the script's
queue_is : (r : Registers) → AreRegisters r → is_valid r.cbaser ≡ true → r.cbaser ≡ 0x8000000080020000
queue_is r h valid = elim h.cbaser [ inl none ↦ let e : is_valid 0 ≡ true = sym (ap is_valid none) ∙ valid in absurd (cc e) | inr is ↦ is ]

pub record IsAtPlace (r : Registers) : Type 0 where
  pub place : ℕ
  pub in_queue : place < 128
  pub address_is : queue_place r ≡ queue + 32 * place

at_place : (r : Registers) → AreRegisters r → regs.IsSound r → r.enabled ≡ true → IsAtPlace r
at_place r h sound on =
    let bases = and_parts (is_valid r.cbaser && is_valid r.baser0) (is_valid r.baser1) (sound.enabled on) in
    let valid = and_parts (is_valid r.cbaser) (is_valid r.baser0) bases.0 in
    let is : r.cbaser ≡ 0x8000000080020000 = queue_is r h valid.0 in
    let size : queue_size r ≡ 4096 = ap size_of is in
    let inside : r.creadr < queue_size r = sound.creadr.inside in
    let whole : r.creadr % 32 ≡ 0 = sound.creadr.whole in
    let base : queue_base r ≡ queue = ap (λ (c : ℕ). field c 16 36 * 2 ^ 16) is in record {
      place = r.creadr / 32;
      in_queue = omega arith;
      address_is = omega arith;
    }

-- the command that is next, if there is one, is allowed
next_allowed : (n : ℕ) (u : Plain) (bytes : List ℕ) → IsKept n u → (regs_of u 0).enabled ≡ true → next_bytes u 0 ≡ Some bytes → IsAllowed n (decoded bytes)
next_allowed n u bytes h on next =
    let t = translator_sound u 0 h.sound (enabled_within u 0 on) in
    let at = at_place (regs_of u 0) h.regs t.regs on in
    h.queue at.place bytes at.in_queue (ap (λ (a : ℕ). read_at u.memory a 32) (sym at.address_is) ∙ next)

command_kept : (n : ℕ) (u : Plain) (r : Result Plain Reason) → IfOk r (IsRan n u) → IsRan n u u → IsRan n u (command_left u r)
command_kept n u (Ok v) ran nothing = ran
command_kept n u (Err reason) ran nothing = nothing

went_on_kept : (n : ℕ) (u v : Plain) → IsKept n u → IsRan n u v → IsSound (went_on 0 v) → IsKept n (went_on 0 v)
went_on_kept n u v h ran sound =
    let r : Registers = advanced (regs_of v 0) in
    let t : Translator = record (translator v 0) { regs = r } in
    let at_0 : translator (with_regs v 0 r) 0 ≡ t = translator_set v t ran.one in
    let regs : AreRegisters (regs_of v 0) = subst AreRegisters (sym ran.regs) h.regs in record {
      sound = sound;
      layout = ran.layout ∙ h.layout;
      one = length-set v.translators 0 t ∙ ran.one;
      windows = ap (map extent) ran.memory ∙ h.windows;
      regs = subst (λ (x : Translator). AreRegisters x.regs) (sym at_0) (record { cbaser = regs.cbaser; baser0 = regs.baser0; baser1 = regs.baser1 });
      devices = subst (λ (x : Translator). AreDevices n x.maps) (sym at_0) ran.devices;
      queue = subst (IsQueue n) (sym ran.memory) h.queue;
    }

profile_is : description.shape.profile ≡ One
unfolding description
profile_is = refl

met_kept : (n : ℕ) (u : Plain) (next : Option (List ℕ)) → next_bytes u 0 ≡ next → (regs_of u 0).enabled ≡ true → IsKept n u → IsSound (met_left u 0 next)
    → IsKept n (met_left u 0 next)
met_kept n u None is on h sound = h
met_kept n u (Some bytes) is on h sound =
    let c = decoded bytes in
    let profile : u.layout.shape.profile ≡ One = ap (λ (l : Layout). l.shape.profile) h.layout ∙ profile_is in
    let nothing : IsRan n u u = record { layout = refl; one = h.one; memory = refl; regs = refl; devices = h.devices } in
    let after : IsRan n u (command_left u (ran u 0 c)) = command_kept n u (ran u 0 c)
    (command_ran n u h.one h.devices c profile (next_allowed n u bytes h on is)) nothing in
    went_on_kept n u (command_left u (ran u 0 c)) h after sound

kept_step : (n : ℕ) (u : Plain) → IsKept n u → IsSound (step_left u 0) → IsKept n (step_left u 0)
unfolding step_left
kept_step n u h =
    cond_both (is_idle u 0) u (met_left u 0 (next_bytes u 0)) (λ v. IsSound v → IsKept n v) (λ _ _. h)
    (λ busy. met_kept n u (next_bytes u 0) refl (not-false (regs_of u 0).enabled (or_parts (not (regs_of u 0).enabled) (is_queue_empty (regs_of u 0)) busy).0)
    h)

-- ---- all calls

at_0 : (P : ℕ → Type 0) (its : ℕ) → its ≡ 0 → P 0 → P its
at_0 P its e p = subst P (sym e) p

pub call_kept : (n : ℕ) (u : Plain) (c : Call) → IsKept n u → IsGiven n c → IsKept n (answer u c).1
unfolding left reply_of
call_kept n u (call.Signal its dev ev) h given =
    kept_beside n u (answer u (call.Signal its dev ev)).1 h (signalled u (signal_reply (translated u its dev.0 ev.0)))
    (calls_keep u (call.Signal its dev ev) h.sound)
call_kept n u (call.Poke addr bytes) h given =
    kept_put n u addr.0 bytes (write_at u.memory addr.0 bytes) refl h given (calls_keep u (call.Poke addr bytes) h.sound)
call_kept n u (call.WriteReg its off size value) h given =
    at_0 (λ i. IsSound (written u i off size value) → IsKept n (written u i off size value)) its given.0 (kept_written n u off size value h given.1)
    (calls_keep u (call.WriteReg its off size value) h.sound)
call_kept n u (call.Step its) h given =
    at_0 (λ i. IsSound (step_left u i) → IsKept n (step_left u i)) its given (kept_step n u h) (calls_keep u (call.Step its) h.sound)
call_kept n u (call.Take vcpu) h given = absurd given
call_kept n u (call.Show vcpu) h given = absurd given
call_kept n u (call.Best vcpu mask) h given = absurd given
call_kept n u (call.Claim vcpu intid) h given = absurd given
call_kept n u (call.Peek addr count) h given = absurd given
call_kept n u (call.ReadReg its off size) h given = absurd given
call_kept n u (call.ReadGicr vcpu off size) h given = absurd given
call_kept n u (call.WriteGicr vcpu off size value) h given = absurd given
call_kept n u call.Save h given = absurd given
call_kept n u call.Copy h given = absurd given
call_kept n u (call.Dma req addr bytes to) h given = absurd given

-- so does a history of them, in whichever order
pub history_kept : (n : ℕ) (u : Plain) (h : List Entry) → IsKept n u → AllByRecursion (λ (e : Entry). IsGiven n e.call) h → IsKept n (after u h)
history_kept n u [] kept given = kept
history_kept n u (e ∷ h) kept given = history_kept n (answer u e.call).1 h (call_kept n u e.call kept given.0) given.1
