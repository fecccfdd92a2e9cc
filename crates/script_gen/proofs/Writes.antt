-- The script's writes of registers leave each at reset or at the script's own value, and map no device.
use Rattle.std.proofs.Common.{ℕ, not, ◌&&◌, nat_lt, nat_eq, inr, refl, sym, ◌∙◌}
use Rattle.std.specs.Ordering.{nat_cmp}
use Rattle.std.specs.FinMap.{get-empty}
use Rattle.std.proofs.lemmas.Bool.{cond_both}
use Rattle.std.proofs.lemmas.Option.{none-some}
use Rattle.its_types.specs.Bits.{bit_of}
use Rattle.its_types.specs.Maps.{Maps, devices_emptied}
use Rattle.gits_regs.specs.Registers.{Registers, Written, write_reg, write_64, write_word, write_ctlr, write_cbaser, write_cwriter, write_baser0, write_baser1}
use Rattle.gits_regs.specs.Registers.{unchanged, kept_cbaser, kept_offset, has_bases, is_same_queue, queue_size}
use Rattle.its_plain.specs.Answer.{emptied}
use Rattle.script_gen.proofs.Invariant.{AreRegisters, AreDevices, IsWrite}
use Rattle.script_gen.proofs.Invariant.IsWrite.{ctlr, cbaser, cwriter, baser0, baser1}

pub record IsWritten (n : ℕ) (m : Maps) (w : Written) : Type 0 where
  pub regs : AreRegisters w.regs
  pub devices : AreDevices n (emptied w.change m)

no_devices : (n : ℕ) (m : Maps) → AreDevices n (devices_emptied m)
no_devices n m dev d e = absurd (none-some d (sym (get-empty nat_cmp dev) ∙ e))

module _ (n : ℕ) (r : Registers) (m : Maps) (h : AreRegisters r) (devices : AreDevices n m) where
  ignored : IsWritten n m (unchanged r)
  ignored = record { regs = h; devices = devices }

  ctlr_written : (value : ℕ) → IsWritten n m (write_ctlr r value)
  unfolding write_ctlr
  ctlr_written value =
      cond_both (bit_of value 0) _ _ (IsWritten n m)
      (λ _. cond_both (not r.enabled && has_bases r) _ _ (IsWritten n m)
      (λ _. record { regs = record { cbaser = h.cbaser; baser0 = h.baser0; baser1 = h.baser1 }; devices = devices }) (λ _. ignored))
      (λ _. cond_both r.enabled _ _ (IsWritten n m)
      (λ _. record { regs = record { cbaser = h.cbaser; baser0 = h.baser0; baser1 = h.baser1 }; devices = devices }) (λ _. ignored))

  cwriter_written : (value : ℕ) → IsWritten n m (write_cwriter r value)
  unfolding write_cwriter
  cwriter_written value =
      cond_both (nat_lt (kept_offset value) (queue_size r) && not (nat_eq r.cwriter (kept_offset value))) _ _ (IsWritten n m)
      (λ _. record { regs = record { cbaser = h.cbaser; baser0 = h.baser0; baser1 = h.baser1 }; devices = devices }) (λ _. ignored)

  cbaser_written : IsWritten n m (write_cbaser r 0x8000000080020000)
  unfolding write_cbaser
  cbaser_written =
      cond_both r.enabled _ _ (IsWritten n m) (λ _. ignored)
      (λ _. cond_both (is_same_queue r (kept_cbaser 0x8000000080020000)) _ _ (IsWritten n m) (λ _. ignored)
      (λ _. record { regs = record { cbaser = inr refl; baser0 = h.baser0; baser1 = h.baser1 }; devices = devices }))

  baser0_written : IsWritten n m (write_baser0 r 0x8107000080000200)
  unfolding write_baser0
  baser0_written =
      cond_both r.enabled _ _ (IsWritten n m) (λ _. ignored)
      (λ _. record { regs = record { cbaser = h.cbaser; baser0 = inr refl; baser1 = h.baser1 }; devices = no_devices n m })

  baser1_written : IsWritten n m (write_baser1 r 0x8407000080010200)
  unfolding write_baser1
  baser1_written =
      cond_both r.enabled _ _ (IsWritten n m) (λ _. ignored)
      (λ _. record { regs = record { cbaser = h.cbaser; baser0 = h.baser0; baser1 = inr refl }; devices = devices })

  pub register_written : (off size value : ℕ) → IsWrite off size value → IsWritten n m (write_reg r off size value)
  unfolding write_reg write_word write_64
  register_written _ _ _ ctlr = ctlr_written 1
  register_written _ _ _ cbaser = cbaser_written
  register_written _ _ _ (cwriter value) = cwriter_written value
  register_written _ _ _ baser0 = baser0_written
  register_written _ _ _ baser1 = baser1_written
