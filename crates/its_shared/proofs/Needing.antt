-- What the next step reads, of parts in hand.
use Rattle.std.proofs.Common.{◌≡◌, ℕ, suc, ◌+◌, ◌-◌, ◌<◌, Bool, cond, List, [], ◌∷◌, ◌++◌, Option, Some, None, refl, sym, ap, ◌∙◌, subst, arith, add-zero}
use Rattle.std.specs.List.{flat_map, range_with_len}
use Rattle.std.proofs.lemmas.List.Folds.{flat_map-map}
use Rattle.gits_regs.specs.Registers.{Registers, queue_place}
use Rattle.guest_windows.specs.Windows.{Window}
use Rattle.its_command.specs.declared.command.Command.{Command}
use Rattle.its_types.specs.Maps.{Maps}
use Rattle.its_types.specs.Ranges.{first_lpi, lpi_count}
use Rattle.its_types.specs.declared.machine.Shape.{Shape}
use Rattle.its_plain.specs.Answer.{next_bytes}
use Rattle.its_plain.specs.Plain.{Plain, Translator, conf_of, regs_of, maps_of}
use Rattle.its_plain.specs.declared.call.StepReply.{StepReply}
use Rattle.its_plain.specs.declared.call.StepReply.TheVariants.{Idle, Ran, Refused, QueueFault}
use Rattle.cmd_exec.specs.Met.{MeetsNone, MeetsCommand}
use Rattle.lpi_config.specs.Conf.{Conf}
use Rattle.lpi_pending.specs.InHand.{RedistParts, conf_in}
use Rattle.owned_parts.specs.Owned.{conf_or, redistributor_in}
use Rattle.table_save.specs.Areas.{redistributors_of}
use Rattle.step_views.specs.Pairs.{all_told, with_stretch}
use Rattle.step_views.specs.Reads.{reads, met_reads, command_reads, still_reads, byte_read, byte_reads, table_read, table_reads}
use Rattle.its_shared.specs.Besides.{HasParts, conf_read}

-- ---- of a state

module _ (u : Plain) (i : ℕ) where
  pub still_read : (a : StepReply) → MeetsNone (regs_of u i) u.memory a → reads u i ≡ still_reads a
  unfolding reads
  still_read Idle none = ap (λ (b : Bool). cond b [] (all_told ((queue_place (regs_of u i), 32) ∷ []) (met_reads u i (next_bytes u i)))) none
  still_read (QueueFault addr) none =
      ap (λ (b : Bool). cond b [] (all_told ((queue_place (regs_of u i), 32) ∷ []) (met_reads u i (next_bytes u i)))) none.0
      ∙ ap (λ (o : Option (List ℕ)). all_told ((queue_place (regs_of u i), 32) ∷ []) (met_reads u i o)) none.2 ∙ ap (λ (a : ℕ). (a, 32) ∷ []) (sym none.1)
  still_read (Ran op) none = absurd none
  still_read (Refused op reason) none = absurd none

  pub met_read : (c : Command) → MeetsCommand (regs_of u i) u.memory c
      → reads u i ≡ all_told ((queue_place (regs_of u i), 32) ∷ []) (command_reads u.layout.shape (regs_of u i) (maps_of u i) u.redistributors c)
  unfolding reads
  met_read c met =
      ap (λ (b : Bool). cond b [] (all_told ((queue_place (regs_of u i), 32) ∷ []) (met_reads u i (next_bytes u i)))) met.busy
      ∙ ap (λ (o : Option (List ℕ)). all_told ((queue_place (regs_of u i), 32) ∷ []) (met_reads u i o)) met.bytes_are
      ∙ ap (λ (x : Command). all_told ((queue_place (regs_of u i), 32) ∷ [])
      (command_reads u.layout.shape (regs_of u i) (maps_of u i) u.redistributors x)) met.command

-- ---- where the translator and memory are known

module _ (u : Plain) (i : ℕ) (s : Shape) (r : Registers) (m : Maps) (memory : List Window) (has : HasParts u i s r m memory) where
  pub still_known : (a : StepReply) → MeetsNone r memory a → reads u i ≡ still_reads a
  still_known a none =
      still_read u i a (subst (λ (ws : List Window). MeetsNone (regs_of u i) ws a) (sym has.memory_is)
      (subst (λ (t : Translator). MeetsNone t.regs memory a) (sym has.translator_is) none))

  pub met_known : (c : Command) → MeetsCommand r memory c
      → reads u i ≡ all_told ((queue_place r, 32) ∷ []) (command_reads s r m u.redistributors c)
  met_known c met =
      met_read u i c (subst (λ (ws : List Window). MeetsCommand (regs_of u i) ws c) (sym has.memory_is)
      (subst (λ (t : Translator). MeetsCommand t.regs memory c) (sym has.translator_is) met))
      ∙ (ap (λ (t : Translator). all_told ((queue_place t.regs, 32) ∷ []) (command_reads u.layout.shape t.regs t.maps u.redistributors c)) has.translator_is
      ∙ ap (λ (k : Shape). all_told ((queue_place r, 32) ∷ []) (command_reads k r m u.redistributors c)) has.shape)

-- ---- configurations

module _ (shape : Shape) (redists : RedistParts) where
  byte_at : (intid : ℕ) (o : Option Conf) → byte_read intid (conf_or o) ≡ conf_read (intid - first_lpi) 1 o
  byte_at intid None = refl
  byte_at intid (Some c) = refl

  table_at : (o : Option Conf) → table_read shape (conf_or o) ≡ conf_read 0 (lpi_count shape.lpi_bits) o
  table_at None = refl
  table_at (Some c) = ap (λ (a : ℕ). cond c.bases.on ((a, lpi_count shape.lpi_bits) ∷ []) []) (sym (add-zero c.bases.prop.table.0))

  pub bytes_are : (intid : ℕ)
      → flat_map (λ v. conf_read (intid - first_lpi) 1 (conf_in redists v)) (range_with_len 0 shape.vcpus) ≡ byte_reads intid (redistributors_of shape redists)
  bytes_are intid =
      sym (flat_map-map (λ r. byte_read intid (conf_of r)) (redistributor_in redists) (range_with_len 0 shape.vcpus)
      ∙ (λ d. flat_map (λ v. byte_at intid (conf_in redists v) d) (range_with_len 0 shape.vcpus)))

  pub tables_are : flat_map (λ v. conf_read 0 (lpi_count shape.lpi_bits) (conf_in redists v)) (range_with_len 0 shape.vcpus)
      ≡ table_reads shape (redistributors_of shape redists)
  tables_are =
      sym (flat_map-map (λ r. table_read shape (conf_of r)) (redistributor_in redists) (range_with_len 0 shape.vcpus)
      ∙ (λ d. flat_map (λ v. table_at (conf_in redists v) d) (range_with_len 0 shape.vcpus)))

-- ---- what is told, one after another

told_more : (told xs ys : List (ℕ × ℕ)) → all_told told (xs ++ ys) ≡ all_told (all_told told xs) ys
told_more told [] ys = refl
told_more told (x ∷ xs) ys = told_more (with_stretch told x) xs ys

pub one_told : (f : ℕ → List (ℕ × ℕ)) (told now : List (ℕ × ℕ)) (next end : ℕ) → next < end → now ≡ all_told told (f next)
    → all_told now (flat_map f (range_with_len (next + 1) (end - (next + 1)))) ≡ all_told told (flat_map f (range_with_len next (end - next)))
one_told f told now next end below is =
    let one : end - next ≡ suc (end - (next + 1)) = omega (arith, below) in
    let rest = flat_map f (range_with_len (next + 1) (end - (next + 1))) in
    ap (λ (ps : List (ℕ × ℕ)). all_told ps rest) is ∙ sym (told_more told (f next) rest)
    ∙ ap (λ (n : ℕ). all_told told (flat_map f (range_with_len next n))) (sym one)
