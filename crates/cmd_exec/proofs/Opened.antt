-- Definitions of the plain machine, opened.
use Rattle.std.proofs.Common.{◌≡◌, ℕ, ◌+◌, ◌-◌, ◌^◌, true, false, cond, nat_lt, Option, Some, None, Ok, Err, List, refl, sym, ap, ◌∙◌}
use Rattle.std.specs.Option.{ok_or}
use Rattle.std.proofs.lemmas.Bool.{cond-true, cond-false}
use Rattle.guest_windows.specs.Windows.{Window, byte_at}
use Rattle.its_types.specs.Maps.{Maps, device_of, event_of}
use Rattle.its_types.specs.Lpis.{with_config_byte}
use Rattle.its_plain.specs.Plain.{ConfState}
use Rattle.its_plain.specs.Commands.{◌>>=◌, ensure, event_at, conf_reread_at}
use Rattle.lpi_config.specs.Conf.{conf_state}
use Rattle.lpi_config.specs.Conf.{Conf}
use Rattle.cmd_exec.specs.InHand.{conf_as, conf_by}
use Rattle.cmd_exec.specs.Reloaded.{with_read}
use Rattle.its_plain.specs.declared.call.Reason.TheVariants.{NoDevice, EventRange, NoEvent}

pub event_at_is : (m : Maps) (dev ev : ℕ)
    → event_at m dev ev ≡ (ok_or (device_of m dev) NoDevice >>= λ device. ensure (nat_lt ev (2 ^ device.bits)) EventRange >>= λ _.
    ok_or (event_of m dev ev) NoEvent)
unfolding event_at
event_at_is m dev ev = refl

pub conf_reread_at_is : (memory : List Window) (intid : ℕ) (c : ConfState) → conf_reread_at memory intid c ≡ cond c.bases.on
    (with_read intid c (byte_at memory (c.bases.prop.table.0 + (intid - 8192)))) c
unfolding conf_reread_at
conf_reread_at_is memory intid c = refl

-- ---- an LPI's byte that is read again

module _ (memory : List Window) (intid : ℕ) (c : Conf) where
  abbrev read : Option ℕ
  read = byte_at memory (c.bases.prop.table.0 + (intid - 8192))

  pub reread_off : c.bases.on ≡ false → c ≡ conf_by (conf_reread_at memory intid) c
  reread_off off = ap (conf_as c) (sym (conf_reread_at_is memory intid (conf_state c) ∙ cond-false c.bases.on (with_read intid (conf_state c) read)
      (conf_state c) off))

  reread_on : (o : Option ℕ) → c.bases.on ≡ true → read ≡ o → conf_as c (with_read intid (conf_state c) o) ≡ conf_by (conf_reread_at memory intid) c
  reread_on o on is =
      ap (conf_as c) (sym (conf_reread_at_is memory intid (conf_state c) ∙ cond-true c.bases.on (with_read intid (conf_state c) read)
      (conf_state c) on
      ∙ ap (with_read intid (conf_state c)) is))

  pub reread_some : {E : Type 0} (e : E) (at byte : ℕ) → c.bases.on ≡ true → at ≡ intid - 8192 → ok_or (byte_at memory (c.bases.prop.table.0 + at)) e ≡ Ok byte
      → record c { config = record c.config { bytes = with_config_byte c.config.bytes intid byte } } ≡ conf_by (conf_reread_at memory intid) c
  reread_some {E} e at byte on at_is ok = reread_on (Some byte) on (sym (ap (λ (k : ℕ). byte_at memory (c.bases.prop.table.0 + k)) at_is)
      ∙ some (byte_at memory (c.bases.prop.table.0 + at)) ok)
    where
      some : (o : Option ℕ) → ok_or o e ≡ Ok byte → o ≡ Some byte
      some None h = absurd cc
      some (Some b) h = cc

  pub reread_none : {E : Type 0} (e e' : E) (at : ℕ) → c.bases.on ≡ true → at ≡ intid - 8192 → ok_or (byte_at memory (c.bases.prop.table.0 + at)) e ≡ Err e'
      → c ≡ conf_by (conf_reread_at memory intid) c
  reread_none {E} e e' at on at_is err = reread_on None on (sym (ap (λ (k : ℕ). byte_at memory (c.bases.prop.table.0 + k)) at_is)
      ∙ none (byte_at memory (c.bases.prop.table.0 + at)) err)
    where
      none : (o : Option ℕ) → ok_or o e ≡ Err e' → o ≡ None
      none None h = refl
      none (Some b) h = absurd cc
