-- Configurations that are read again.
use Rattle.std.proofs.Common.{◌≡◌, ℕ, ◌+◌, ◌-◌, true, List, [], ◌∷◌, Option, Some, None, length-set, ◌∙◌}
use Rattle.std.proofs.lemmas.Bool.{both_ways, cond_both}
use Rattle.guest_windows.specs.Windows.{Window, byte_at}
use Rattle.its_types.specs.Lpis.{with_config_byte}
use Rattle.gicr_regs.specs.Redistributors.{conf_with_byte}
use Rattle.its_plain.specs.Plain.{Plain, Redistributor, conf_of, with_conf}
use Rattle.its_plain.specs.declared.layout.Layout.{Layout}
use Rattle.its_plain.specs.Sound.{IsSound, IsRedistributor}
use Rattle.its_plain.specs.Commands.{reread, reread_at, all_reread_at, conf_reread_at}
use Rattle.plain_soundness.proofs.States.{redistributors_mapped}

module _ (l : Layout) (memory : List Window) (v : ℕ) where
  -- another byte, where LPIs are on
  byte_replaced : (r : Redistributor) (intid byte : ℕ) → r.bases.on ≡ true → IsRedistributor l memory v r
      → IsRedistributor l memory v (record r { config = with_config_byte r.config intid byte })
  byte_replaced r intid byte on h = record {
    rising = h.rising;
    lpis = h.lpis;
    config = length-set r.config (intid - 8192) byte ∙ h.config;
    accepts = h.accepts;
    tables = h.tables;
    off_pending = h.off_pending;
    off_config = λ off. absurd (both_ways r.bases.on off on);
    kept = h.kept;
    described = h.described;
    always_on = h.always_on;
  }

  read_sound : (r : Redistributor) (intid : ℕ) (read : Option ℕ) → r.bases.on ≡ true → IsRedistributor l memory v r
      → IsRedistributor l memory v (with_conf (conf_with_byte intid (conf_of r) read) r)
  read_sound r intid None on h = h
  read_sound r intid (Some byte) on h = byte_replaced r intid byte on h

  pub reread_at_sound : (r : Redistributor) (intid : ℕ) → IsRedistributor l memory v r → IsRedistributor l memory v (reread_at memory intid r)
  unfolding conf_reread_at
  reread_at_sound r intid h =
      cond_both r.bases.on _ (conf_of r) (λ c. IsRedistributor l memory v (with_conf c r))
      (λ on. read_sound r intid (byte_at memory (r.bases.prop.table.0 + (intid - 8192))) on h) (λ _. h)

  all_reread_at_sound : (intids : List ℕ) (r : Redistributor) → IsRedistributor l memory v r → IsRedistributor l memory v (all_reread_at memory intids r)
  all_reread_at_sound [] r h = h
  all_reread_at_sound (intid ∷ intids) r h = all_reread_at_sound intids (reread_at memory intid r) (reread_at_sound r intid h)

pub reread_sound : (u : Plain) (intids : List ℕ) → IsSound u → IsSound (reread intids u)
reread_sound u intids h = redistributors_mapped u (all_reread_at u.memory intids) (λ v r is. all_reread_at_sound u.layout u.memory v intids r is) h
