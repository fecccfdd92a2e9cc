-- A call ends no more translations than its ending says.
use Rattle.std.proofs.Common.{◌≡◌, ◌⊎◌, ℕ, Bool, true, false, not, ◌&&◌, eqb, nat_lt, nat_eq, ◌%◌, ◌-◌, List, [], ◌∷◌, Option, Some, None, Result, Ok, Err}
use Rattle.std.proofs.Common.{refl, ap, sym, ◌∙◌, subst, inl, inr, if◌then◌else◌}
use Rattle.std.proofs.lemmas.Bool.{cond_both, both_ways}
use Rattle.std.proofs.lemmas.Option.{get_or_from_slice_get}
use mathlib.Core.Logic.{dite}
use native.Mathlib.Decide.{ℕ_discrete}
use Rattle.gits_regs.specs.Registers.{Registers, Written, write_ctlr, write_cbaser, write_cwriter, write_baser0, write_baser1, write_64, write_word}
use Rattle.gits_regs.specs.Registers.{write_reg}
use Rattle.gits_regs.specs.Registers.{is_32, kept_offset, queue_size, has_bases, read_64}
use Rattle.its_types.specs.Halves.{low_half, with_low_half, with_high_half}
use Rattle.its_types.specs.Bits.{bit_of}
use Rattle.its_command.specs.Commands.{decoded}
use Rattle.its_command.specs.declared.command.Command.{Command}
use Rattle.its_types.specs.Maps.{Maps as MapsOf}
use Rattle.its_types.specs.declared.ids.Target.{Target}
use Rattle.its_types.specs.declared.machine.Part.{Part}
use Rattle.its_types.specs.declared.machine.Part.TheVariants as part
use Rattle.its_plain.specs.Answer.{emptied, has_same_tables, translator_written, written, command_left, is_idle, next_bytes, met_left, step_left, went_on}
use Rattle.its_plain.specs.Answer.{left}
use Rattle.its_plain.specs.Commands.{ran}
use Rattle.its_plain.specs.Plain.{Plain, Translator, translator, no_translator, regs_of, maps_of}
use Rattle.its_plain.specs.Translation.{located}
use Rattle.its_plain.specs.declared.call.Call.TheVariants as call
use Rattle.its_plain.specs.declared.call.Reason.{Reason}
use Rattle.its_steps.specs.Endings.{Ending, Nothing, Pair, All, ending_in, ending_ran, ending_met, ending_of, Ends, Lasts, EndingsAreAll, EndingsAreDropped}
use Rattle.its_steps.specs.Contents.{Content, Maps, Held}
use Rattle.its_steps.specs.MayCall.{Owes, IsWithout, IsSteady, AreSteady}
use Rattle.its_steps.specs.Parts.{Setup, Has, Suits}
use Rattle.its_steps.specs.Renewal.{its_of, content_in, renewed}
use Rattle.its_steps.specs.declared.commit.Commit.{Commit}
use Rattle.its_steps.proofs.Assembled.{had}
use Rattle.its_steps.proofs.Leaving.{Leaves, calm_leaves}
use Rattle.its_steps.proofs.Lasting.{LastsOk, lasts_self, lasts_then, lasts_translator, lasts_advanced, ran_lasts}
use Rattle.its_steps.proofs.Routes.{Route}

-- ---- writes of an enabled translator's registers leave its maps

record Empties (w : Written) : Type 0 where
  none : (m : MapsOf) → emptied w.change m ≡ m

module _ (r : Registers) (on : r.enabled ≡ true) where
  ctlr : (value : ℕ) → Empties (write_ctlr r value)
  unfolding write_ctlr
  ctlr value = cond_both (bit_of value 0) _ _ Empties (λ _. cond_both (not r.enabled && has_bases r) _ _ Empties (λ _. record { none = λ m. refl })
      (λ _. record { none = λ m. refl })) (λ _. cond_both r.enabled _ _ Empties (λ _. record { none = λ m. refl }) (λ _. record { none = λ m. refl }))

  cbaser : (value : ℕ) → Empties (write_cbaser r value)
  unfolding write_cbaser
  cbaser value = cond_both r.enabled _ _ Empties (λ _. record { none = λ m. refl }) (λ off. absurd (both_ways r.enabled off on))

  cwriter : (value : ℕ) → Empties (write_cwriter r value)
  unfolding write_cwriter
  cwriter value = cond_both (nat_lt (kept_offset value) (queue_size r) && not (eqb r.cwriter (kept_offset value))) _ _ Empties
      (λ _. record { none = λ m. refl }) (λ _. record { none = λ m. refl })

  baser0 : (value : ℕ) → Empties (write_baser0 r value)
  unfolding write_baser0
  baser0 value = cond_both r.enabled _ _ Empties (λ _. record { none = λ m. refl }) (λ off. absurd (both_ways r.enabled off on))

  baser1 : (value : ℕ) → Empties (write_baser1 r value)
  unfolding write_baser1
  baser1 value = cond_both r.enabled _ _ Empties (λ _. record { none = λ m. refl }) (λ off. absurd (both_ways r.enabled off on))

  sixty_four : (off value : ℕ) → Empties (write_64 r off value)
  unfolding write_64
  sixty_four off value =
      cond_both (nat_eq off 0x80) _ _ Empties (λ _. cbaser value) (λ _.
      cond_both (nat_eq off 0x88) _ _ Empties (λ _. cwriter value) (λ _.
      cond_both (nat_eq off 0x100) _ _ Empties (λ _. baser0 value) (λ _.
      cond_both (nat_eq off 0x108) _ _ Empties (λ _. baser1 value) (λ _. record { none = λ m. refl }))))

  word : (off value : ℕ) → Empties (write_word r off value)
  unfolding write_word
  word off value =
      cond_both (is_32 off) _ _ Empties (λ _. cond_both (nat_eq off 0x0) _ _ Empties (λ _. ctlr value) (λ _. record { none = λ m. refl })) (λ _.
      cond_both (nat_eq (off % 8) 0) _ _ Empties (λ _. sixty_four off (with_low_half (read_64 r off) value)) (λ _.
      cond_both (nat_eq (off % 8) 4) _ _ Empties (λ _. sixty_four (off - 4) (with_high_half (read_64 r (off - 4)) value)) (λ _. record { none = λ m. refl })))

  keeps_maps : (off size value : ℕ) → Empties (write_reg r off size value)
  unfolding write_reg
  keeps_maps off size value = cond_both (nat_eq size 8) _ _ Empties (λ _. sixty_four off value)
      (λ _. cond_both (nat_eq size 4) _ _ Empties (λ _. word off (low_half value)) (λ _. record { none = λ m. refl }))

-- ---- calls

turned_off : (a b : Bool) (dev ev : ℕ) → a ≡ true → ¬ Ends (if a && not b then All else Nothing) dev ev → b ≡ true
turned_off true true dev ev on n = refl
turned_off true false dev ev on n = absurd (n tt)
turned_off false b dev ev on n = absurd cc

either_way : (b : Bool) (m n : MapsOf) → n ≡ m → (if b then m else n) ≡ m
either_way true m n e = refl
either_way false m n e = e

module _ (u : Plain) (i : ℕ) where
  written_lasts : (off size value : ℕ) → Lasts u (written u i off size value) i
      (if (regs_of u i).enabled && not (write_reg (regs_of u i) off size value).regs.enabled then All else Nothing)
  unfolding written
  written_lasts off size value =
      let w : Written = write_reg (regs_of u i) off size value in
      let e : Ending = (if (regs_of u i).enabled && not w.regs.enabled then All else Nothing) in
      let keeps : Bool = u.layout.shape.linux && has_same_tables (regs_of u i) w.regs in
      lasts_translator u u i e (translator_written u.layout.shape (translator u i) w) (lasts_self u i e)
      (λ dev ev t n r.
      subst (λ (m : MapsOf). Route w.regs.enabled m dev ev t)
      (sym (either_way keeps (maps_of u i) (emptied w.change (maps_of u i)) ((keeps_maps (regs_of u i) r.on off size value).none (maps_of u i))))
      record {
        on = turned_off (regs_of u i).enabled w.regs.enabled dev ev r.on n;
        device = r.device;
        device_is = r.device_is;
        event = r.event;
        event_is = r.event_is;
        vcpu = r.vcpu;
        vcpu_is = r.vcpu_is;
        target_is = r.target_is;
      })

  took : (c : Command) (r : Result Plain Reason) → LastsOk u i (ending_in (maps_of u i) c) r → Lasts u (went_on i (command_left u r)) i
      (ending_ran (maps_of u i) c r)
  took c (Ok w) l = lasts_advanced u w i (ending_in (maps_of u i) c) l
  took c (Err reason) l = lasts_advanced u u i Nothing (lasts_self u i Nothing)

  met : (idle : Bool) (bytes : Option (List ℕ)) → Lasts u (if idle then u else met_left u i bytes) i (if idle then Nothing else ending_met u i bytes)
  met true bytes = lasts_self u i Nothing
  met false None = lasts_self u i Nothing
  met false (Some bytes) = took (decoded bytes) (ran u i (decoded bytes)) (ran_lasts u i (decoded bytes))

  step_lasts : Lasts u (step_left u i) i (if is_idle u i then Nothing else ending_met u i (next_bytes u i))
  unfolding step_left
  step_lasts = met (is_idle u i) (next_bytes u i)

calm_lasts : (u w : Plain) (i : ℕ) → Leaves u w → Lasts u w i Nothing
calm_lasts u w i k = lasts_then u u w i Nothing (lasts_self u i Nothing) k

pub all_endings : EndingsAreAll
unfolding left ending_of
all_endings u (call.Signal its dev ev) r = calm_lasts u _ its (calm_leaves u (call.Signal its dev ev) r tt)
all_endings u (call.Take vcpu) r = calm_lasts u _ 0 (calm_leaves u (call.Take vcpu) r tt)
all_endings u (call.Show vcpu) r = lasts_self u 0 Nothing
all_endings u (call.Best vcpu mask) r = lasts_self u 0 Nothing
all_endings u (call.Claim vcpu intid) r = calm_lasts u _ 0 (calm_leaves u (call.Claim vcpu intid) r tt)
all_endings u (call.Poke addr bytes) r = calm_lasts u _ 0 (calm_leaves u (call.Poke addr bytes) r tt)
all_endings u (call.Peek addr count) r = lasts_self u 0 Nothing
all_endings u (call.ReadReg its off size) r = lasts_self u its Nothing
all_endings u (call.WriteReg its off size value) r = written_lasts u its off size value
all_endings u (call.ReadGicr vcpu off size) r = lasts_self u 0 Nothing
all_endings u (call.WriteGicr vcpu off size value) r = calm_lasts u _ 0 (calm_leaves u (call.WriteGicr vcpu off size value) r tt)
all_endings u (call.Step its) r = step_lasts u its
all_endings u call.Save r = calm_lasts u _ 0 (calm_leaves u call.Save r tt)
all_endings u call.Copy r = calm_lasts u _ 0 (calm_leaves u call.Copy r tt)
all_endings u (call.Dma req addr bytes to) r = calm_lasts u _ (its_of (call.Dma req addr bytes to)) (calm_leaves u (call.Dma req addr bytes to) r tt)

-- ---- what the parts held owe

ends_or_not : (e : Ending) (dev ev : ℕ) → Ends e dev ev ⊎ (¬ Ends e dev ev)
ends_or_not Nothing dev ev = inr (λ x. x)
ends_or_not All dev ev = inl tt
ends_or_not (Pair d v) dev ev = dite (ℕ_discrete dev d) (λ a. dite (ℕ_discrete ev v) (λ b. inl (a, b)) (λ ne. inr (λ x. ne x.1))) (λ ne. inr (λ x. ne x.0))

module _ (s : Setup) (u : Plain) (a : Commit) (its : ℕ) (owed : List Held) (gone : (dev ev : ℕ) → its ≡ its_of a.call → Ends (ending_of u a.call) dev ev
    → IsWithout s its dev ev owed) where
  abbrev z : Plain
  z = left u a.call a.reply

  l : Lasts u z (its_of a.call) (ending_of u a.call)
  l = all_endings u a.call a.reply

  maps_steady : (dev ev : ℕ) (t : Target) → located (translator u its) dev ev ≡ Ok t → (located (translator z its) dev ev ≡ Ok t) ⊎ IsWithout s its dev ev owed
  maps_steady dev ev t e = dite (ℕ_discrete its (its_of a.call))
      (λ own. elim (ends_or_not (ending_of u a.call) dev ev) [
        | inl ends ↦ inr (gone dev ev own ends)
        | inr lasts ↦ inl (subst (λ (i : ℕ). located (translator z i) dev ev ≡ Ok t) (sym own)
            (l.own dev ev t lasts (subst (λ (i : ℕ). located (translator u i) dev ev ≡ Ok t) own e)))
      ])
      (λ ne. inl (subst (λ (x : Translator). located x dev ev ≡ Ok t) (l.others its ne) e))

  steady_one : (p : Part) (x : Content) → (Suits p x → Has u p x) → IsSteady s its owed p x (content_in s a z p x)
  steady_one (part.Maps i) (Maps t) h = λ is dev ev target e.
      subst (λ (j : ℕ). (located (translator z j) dev ev ≡ Ok target) ⊎ IsWithout s its dev ev owed) (sym is)
      (maps_steady dev ev target (subst (λ (y : Translator). located y dev ev ≡ Ok target) (sym (get_or_from_slice_get u.translators i t no_translator (h tt))
      ∙ ap (translator u) is) e))
  steady_one p x h = tt

  pub steady_all : (held : List Held) → ((p : Part) (x : Content) → Suits p x → Owes p x held → Has u p x) → AreSteady s its owed held (renewed s a z held)
  steady_all [] has = tt
  steady_all (x ∷ xs) has = (
    steady_one x.part x.owed (λ suits. has x.part x.owed suits (inl (refl, refl))),
    steady_all xs
        (λ p y suits o. has p y suits (inr o)),
  )

pub dropped_endings : EndingsAreDropped
dropped_endings s u a its owed held has gone = steady_all s u a its owed gone held (λ p x suits o. had u held has p x o)

-- no call ends what nothing says
pub none_ends : (e : Ending) → e ≡ Nothing → (dev ev : ℕ) → Ends e dev ev → ⊥
none_ends e is dev ev ends = subst (λ (x : Ending). Ends x dev ev) is ends
