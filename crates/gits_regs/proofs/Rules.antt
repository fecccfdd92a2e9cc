-- What a write leaves keeps the rules, register by register.
use Rattle.std.proofs.Common.{◌≡◌, ℕ, ◌+◌, ◌*◌, ◌%◌, ◌^◌, ◌<◌, Bool, true, false, nat_eq, bit_and, bit_or, if◌then◌else◌, ap, ◌∙◌, sym, refl, arith}
use Rattle.std.specs.Int.Bits.{and_zero_r}
use Rattle.std.proofs.lemmas.Nat.{and_assoc, and_mod, and_or_apart}
use Rattle.its_types.specs.Bits.{field}
use Rattle.gits_regs.specs.Registers.{Registers, IsOffset, IsSound, kept_cbaser, kept_baser0, kept_baser1, kept_offset, has_bases, queue_size, size_of}
use Rattle.gits_regs.specs.Registers.{advanced}

-- ---- masks

pub kept_cbaser-again : (value : ℕ) → kept_cbaser (kept_cbaser value) ≡ kept_cbaser value
kept_cbaser-again value = and_assoc 0xB8EFFFFFFFFF0CFF value 0xB8EFFFFFFFFF0CFF

-- what is kept once more is kept, where the fixed bits are none of the mask's
again : (mask fixed value : ℕ) → bit_and fixed mask ≡ 0 → bit_and mask mask ≡ mask
    → bit_or (bit_and (bit_or (bit_and value mask) fixed) mask) fixed ≡ bit_or (bit_and value mask) fixed
again mask fixed value apart same =
    ap (λ n. bit_or n fixed) (and_or_apart mask (bit_and value mask) fixed apart ∙ and_assoc mask value mask ∙ ap (bit_and value) same)

pub kept_baser0-again : (value : ℕ) → kept_baser0 (kept_baser0 value) ≡ kept_baser0 value
kept_baser0-again value = again 0xF8E0FFFFFFFFFCFF 0x0107000000000200 value refl refl

pub kept_baser1-again : (value : ℕ) → kept_baser1 (kept_baser1 value) ≡ kept_baser1 value
kept_baser1-again value = again 0xB8E0FFFFFFFFFCFF 0x0407000000000200 value refl refl

-- a number that a write left is left by its own write
pub kept_cbaser-fixed : (value base : ℕ) → base ≡ kept_cbaser value → kept_cbaser base ≡ base
kept_cbaser-fixed value base e = ap kept_cbaser e ∙ kept_cbaser-again value ∙ sym e

pub kept_baser0-fixed : (value base : ℕ) → base ≡ kept_baser0 value → kept_baser0 base ≡ base
kept_baser0-fixed value base e = ap kept_baser0 e ∙ kept_baser0-again value ∙ sym e

pub kept_baser1-fixed : (value base : ℕ) → base ≡ kept_baser1 value → kept_baser1 base ≡ base
kept_baser1-fixed value base e = ap kept_baser1 e ∙ kept_baser1-again value ∙ sym e

pub kept_offset_whole : (value : ℕ) → kept_offset value % 32 ≡ 0
kept_offset_whole value = and_mod value 0xFFFE0 5 ∙ and_zero_r (value % 2 ^ 5)

-- ---- the beginning and the end of the queue

pub size_of_some : (cbaser : ℕ) → 0 < size_of cbaser
size_of_some cbaser = omega arith

absurd_test : {A : Type 0} {b : Bool} → b ≡ false → b ≡ true → A
absurd_test off on = absurd (cc)

-- ---- one register

pub cbaser_written : (r : Registers) (value base : ℕ) → IsSound r → r.enabled ≡ false → base ≡ kept_cbaser value
    → IsSound (record r { cbaser = base; creadr = 0; cwriter = 0 })
cbaser_written r value base h off e = record {
  least_bits = h.least_bits;
  most_bits = h.most_bits;
  cbaser = kept_cbaser-fixed value base e;
  baser0 = h.baser0;
  baser1 = h.baser1;
  enabled = λ on. absurd_test off on;
  creadr = record { inside = size_of_some base; whole = refl };
  cwriter = record { inside = size_of_some base; whole = refl };
}

pub baser0_written : (r : Registers) (value base : ℕ) → IsSound r → r.enabled ≡ false → base ≡ kept_baser0 value → IsSound (record r { baser0 = base })
baser0_written r value base h off e = record {
  least_bits = h.least_bits;
  most_bits = h.most_bits;
  cbaser = h.cbaser;
  baser0 = kept_baser0-fixed value base e;
  baser1 = h.baser1;
  enabled = λ on. absurd_test off on;
  creadr = record { inside = h.creadr.inside; whole = h.creadr.whole };
  cwriter = record { inside = h.cwriter.inside; whole = h.cwriter.whole };
}

pub baser1_written : (r : Registers) (value base : ℕ) → IsSound r → r.enabled ≡ false → base ≡ kept_baser1 value → IsSound (record r { baser1 = base })
baser1_written r value base h off e = record {
  least_bits = h.least_bits;
  most_bits = h.most_bits;
  cbaser = h.cbaser;
  baser0 = h.baser0;
  baser1 = kept_baser1-fixed value base e;
  enabled = λ on. absurd_test off on;
  creadr = record { inside = h.creadr.inside; whole = h.creadr.whole };
  cwriter = record { inside = h.cwriter.inside; whole = h.cwriter.whole };
}

pub cwriter_written : (r : Registers) (value : ℕ) → IsSound r → kept_offset value < queue_size r → IsSound (record r { cwriter = kept_offset value })
cwriter_written r value h below = record {
  least_bits = h.least_bits;
  most_bits = h.most_bits;
  cbaser = h.cbaser;
  baser0 = h.baser0;
  baser1 = h.baser1;
  enabled = h.enabled;
  creadr = record { inside = h.creadr.inside; whole = h.creadr.whole };
  cwriter = record { inside = below; whole = kept_offset_whole value };
}

pub enabled_by_write : (r : Registers) → IsSound r → has_bases r ≡ true → IsSound (record r { enabled = true })
enabled_by_write r h ready = record {
  least_bits = h.least_bits;
  most_bits = h.most_bits;
  cbaser = h.cbaser;
  baser0 = h.baser0;
  baser1 = h.baser1;
  enabled = λ on. ready;
  creadr = record { inside = h.creadr.inside; whole = h.creadr.whole };
  cwriter = record { inside = h.cwriter.inside; whole = h.cwriter.whole };
}

pub disabled_by_write : (r : Registers) → IsSound r → IsSound (record r { enabled = false })
disabled_by_write r h = record {
  least_bits = h.least_bits;
  most_bits = h.most_bits;
  cbaser = h.cbaser;
  baser0 = h.baser0;
  baser1 = h.baser1;
  enabled = λ on. absurd_test refl on;
  creadr = record { inside = h.creadr.inside; whole = h.creadr.whole };
  cwriter = record { inside = h.cwriter.inside; whole = h.cwriter.whole };
}

-- ---- the next command

-- two multiples of 32 of which one is less are 32 apart at least
next_place : (offset pages : ℕ) → offset % 32 ≡ 0 → offset < pages * 4096 → (nat_eq (offset + 32) (pages * 4096) ≡ false) → offset + 32 < pages * 4096
next_place offset pages whole below other = grind (arith)

next_whole : (offset : ℕ) → offset % 32 ≡ 0 → (offset + 32) % 32 ≡ 0
next_whole offset whole = omega arith

-- the queue has a place at the next command, or begins anew
place_advanced : (r : Registers) (b : Bool) → nat_eq (r.creadr + 32) (queue_size r) ≡ b → IsOffset r r.creadr → IsOffset r (if b then 0 else r.creadr + 32)
place_advanced r true e h = record { inside = size_of_some r.cbaser; whole = refl }
place_advanced r false e h = record {
  inside = next_place r.creadr (field r.cbaser 0 8 + 1) h.whole h.inside e;
  whole = next_whole r.creadr h.whole;
}

pub creadr_advanced : (r : Registers) → IsSound r → IsSound (advanced r)
creadr_advanced r h =
    let next : IsOffset r (advanced r).creadr = place_advanced r (nat_eq (r.creadr + 32) (queue_size r)) refl h.creadr in
    record {
      least_bits = h.least_bits;
      most_bits = h.most_bits;
      cbaser = h.cbaser;
      baser0 = h.baser0;
      baser1 = h.baser1;
      enabled = h.enabled;
      creadr = record { inside = next.inside; whole = next.whole };
      cwriter = record { inside = h.cwriter.inside; whole = h.cwriter.whole };
    }
