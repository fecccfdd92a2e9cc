-- A write of a register keeps a translator sound: the maps go where their table does.
use Rattle.std.proofs.Common.{◌≡◌, ℕ, ◌-◌, ◌%◌, true, false, not, ◌&&◌, nat_lt, nat_eq, refl}
use Rattle.std.proofs.lemmas.Bool.{cond_both}
use Rattle.its_types.specs.Bits.{bit_of}
use Rattle.its_types.specs.Maps.{Maps}
use Rattle.its_types.specs.declared.machine.Shape.{Shape}
use Rattle.gits_regs.specs.Registers.{Registers, Written, write_reg, write_64, write_word, write_ctlr, write_cbaser, write_cwriter, write_baser0}
use Rattle.gits_regs.specs.Registers.{write_baser1}
use Rattle.gits_regs.specs.Registers.{unchanged, kept_cbaser, kept_baser0, kept_baser1, kept_offset, has_bases, is_same_queue, is_32, queue_size}
use Rattle.its_types.specs.Halves.{low_half, with_low_half, with_high_half}
use Rattle.gits_regs.specs.Registers.{read_64}
use Rattle.its_plain.specs.Answer.{emptied}
use Rattle.plain_soundness.proofs.Mapped.{AreMaps, SameTables, same_tables, no_devices, no_collections}

-- what a write leaves of a translator's maps is as its registers want it
pub record Keeps (s : Shape) (r : Registers) (m : Maps) (w : Written) : Type 0 where
  pub dev_bits : w.regs.dev_bits ≡ r.dev_bits
  pub maps : AreMaps s w.regs (emptied w.change m)

module _ (s : Shape) (r : Registers) (m : Maps) (h : AreMaps s r m) where
  ignored : Keeps s r m (unchanged r)
  ignored = record { dev_bits = refl; maps = h }

  -- the tables stay
  other : (q : Registers) → SameTables r q → AreMaps s q m
  other q same = same_tables s r q m same h

  write_ctlr_keeps : (value : ℕ) → Keeps s r m (write_ctlr r value)
  unfolding write_ctlr
  write_ctlr_keeps value =
      cond_both (bit_of value 0) _ _ (Keeps s r m)
      (λ _. cond_both (not r.enabled && has_bases r) _ _ (Keeps s r m)
      (λ _. record { dev_bits = refl; maps = other (record r { enabled = true }) (record { dev_bits = refl; baser0 = refl; baser1 = refl }) }) (λ _. ignored))
      (λ _. cond_both r.enabled _ _ (Keeps s r m)
      (λ _. record { dev_bits = refl; maps = other (record r { enabled = false }) (record { dev_bits = refl; baser0 = refl; baser1 = refl }) }) (λ _. ignored))

  write_cbaser_keeps : (value : ℕ) → Keeps s r m (write_cbaser r value)
  unfolding write_cbaser
  write_cbaser_keeps value =
      cond_both r.enabled _ _ (Keeps s r m) (λ _. ignored)
      (λ _. cond_both (is_same_queue r (kept_cbaser value)) _ _ (Keeps s r m) (λ _. ignored)
      (λ _. record {
        dev_bits = refl;
        maps = other (record r { cbaser = kept_cbaser value; creadr = 0; cwriter = 0 })
            (record { dev_bits = refl; baser0 = refl; baser1 = refl });
      }))

  write_cwriter_keeps : (value : ℕ) → Keeps s r m (write_cwriter r value)
  unfolding write_cwriter
  write_cwriter_keeps value =
      cond_both (nat_lt (kept_offset value) (queue_size r) && not (nat_eq r.cwriter (kept_offset value))) _ _ (Keeps s r m)
      (λ _. record { dev_bits = refl; maps = other (record r { cwriter = kept_offset value }) (record { dev_bits = refl; baser0 = refl; baser1 = refl }) })
      (λ _. ignored)

  write_baser0_keeps : (value : ℕ) → Keeps s r m (write_baser0 r value)
  unfolding write_baser0
  write_baser0_keeps value =
      cond_both r.enabled _ _ (Keeps s r m) (λ _. ignored)
      (λ _. record { dev_bits = refl; maps = no_devices s r (record r { baser0 = kept_baser0 value }) m refl h })

  write_baser1_keeps : (value : ℕ) → Keeps s r m (write_baser1 r value)
  unfolding write_baser1
  write_baser1_keeps value =
      cond_both r.enabled _ _ (Keeps s r m) (λ _. ignored)
      (λ _. record { dev_bits = refl; maps = no_collections s r (record r { baser1 = kept_baser1 value }) m refl refl h })

  write_64_keeps : (off value : ℕ) → Keeps s r m (write_64 r off value)
  unfolding write_64
  write_64_keeps off value =
      cond_both (nat_eq off 0x80) _ _ (Keeps s r m) (λ _. write_cbaser_keeps value) (λ _.
      cond_both (nat_eq off 0x88) _ _ (Keeps s r m) (λ _. write_cwriter_keeps value) (λ _.
      cond_both (nat_eq off 0x100) _ _ (Keeps s r m) (λ _. write_baser0_keeps value) (λ _.
      cond_both (nat_eq off 0x108) _ _ (Keeps s r m) (λ _. write_baser1_keeps value) (λ _. ignored))))

  write_word_keeps : (off value : ℕ) → Keeps s r m (write_word r off value)
  unfolding write_word
  write_word_keeps off value =
      cond_both (is_32 off) _ _ (Keeps s r m) (λ _. cond_both (nat_eq off 0x0) _ _ (Keeps s r m) (λ _. write_ctlr_keeps value) (λ _. ignored)) (λ _.
      cond_both (nat_eq (off % 8) 0) _ _ (Keeps s r m) (λ _. write_64_keeps off (with_low_half (read_64 r off) value)) (λ _.
      cond_both (nat_eq (off % 8) 4) _ _ (Keeps s r m) (λ _. write_64_keeps (off - 4) (with_high_half (read_64 r (off - 4)) value)) (λ _. ignored)))

  pub write_keeps : (off size value : ℕ) → Keeps s r m (write_reg r off size value)
  unfolding write_reg
  write_keeps off size value =
      cond_both (nat_eq size 8) _ _ (Keeps s r m) (λ _. write_64_keeps off value) (λ _.
      cond_both (nat_eq size 4) _ _ (Keeps s r m) (λ _. write_word_keeps off (low_half value)) (λ _. ignored))
