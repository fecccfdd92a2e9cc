-- Writes of the LPI registers of a redistributor.
use Rattle.std.proofs.Common.{◌≡◌, ℕ, zero, suc, ◌+◌, ◌<◌, ◌≤◌, ◌^◌, Bool, true, false, ◌||◌, ◌==◌, if◌then◌else◌, List, refl, sym, subst, ◌∙◌, arith}
use Rattle.std.proofs.Math.Nat.{pow-le-pow_right}
use Rattle.std.specs.List.{range_with_len, AllByRecursion}
use Rattle.std.specs.List.Sorted.{IsStrictlyIncreasing}
use Rattle.std.proofs.lemmas.Bool.{both_ways, cond_both, and_parts}
use Rattle.std.proofs.lemmas.List.{length-replicate}
use Rattle.std.proofs.lemmas.List.FromFn.{length-range_with_len, get_or-range_with_len}
use Rattle.std.proofs.lemmas.List.Kept.{IsStrictlyIncreasing-filter}
use Rattle.guest_windows.specs.Windows.{Window, inside, read_at}
use Rattle.guest_windows.proofs.Laws.{length-read_at}
use Rattle.its_types.specs.Bits.{bit_of}
use Rattle.its_types.specs.Ranges.{is_lpi, lpi_count, pending_bytes}
use Rattle.its_types.specs.declared.translation.Bases.{Bases}
use Rattle.gicr_regs.specs.Redistributors.{has_tables, is_set, pending_in, reread_at}
use Rattle.gicr_regs.specs.Registers.{AreKept, Sets, asked_by, asked_by_64, asked_by_word, done_by, turned_on, turned_off, written_gicr}
use Rattle.its_types.specs.Halves.{low_half}
use Rattle.gicr_regs.proofs.Kept.{kept}
use Rattle.gicr_regs.specs.declared.write.GicrWrite.{GicrWrite}
use Rattle.gicr_regs.specs.declared.write.GicrWrite.TheVariants as writes
use Rattle.its_plain.specs.Plain.{Redistributor, redistributor, with_redistributor}
use Rattle.its_plain.specs.Answer.{left}
use Rattle.plain_soundness.specs.Laws.{GicrReadKeepsSound, GicrWriteKeepsSound}
use Rattle.its_plain.specs.Sound.{IsSound, IsRedistributor}
use Rattle.its_plain.specs.declared.layout.Layout.{Layout}
use Rattle.plain_soundness.proofs.Lists.{IsSet, no_set, all_filter}
use Rattle.plain_soundness.proofs.Migrated.{config_read, reloaded_sound}
use Rattle.plain_soundness.proofs.Reread.{reread_at_sound}
use Rattle.plain_soundness.proofs.States.{redistributor_replaced, redistributor_sound}

-- ---- bases are set while LPIs are off alone

-- they were off, and stay so
abbrev IsOff : Bases → Bases → Type 0
IsOff b c = (b.on ≡ false) × (c.on ≡ false)

either : (P : Bases → Type 0) (t : Bool) (x y : GicrWrite) → Sets P x → Sets P y → Sets P (if t then x else y)
either P true x y p q = p
either P false x y p q = q

while_off : (b c : Bases) (t : Bool) → (t ≡ false → IsOff b c) → Sets (IsOff b) (if t then writes.Ignored else writes.SetBases c)
while_off b c true f = tt
while_off b c false f = f refl

set_while_off : (b : Bases) (off size value : ℕ) → Sets (IsOff b) (asked_by b off size value)
unfolding asked_by asked_by_64 asked_by_word
set_while_off b off size value =
    let P : Bases → Type 0 = IsOff b in
    let set : (c : Bases) → c.on ≡ b.on → Sets P (if b.on then writes.Ignored else writes.SetBases c) = λ c same. while_off b c b.on (λ e. (e, same ∙ e)) in
    either P (size == 8) _ _
    (either P (off == 0x70) _ _ (set _ refl) (either P (off == 0x78) _ _ (set _ refl) (either P (off == 0xA0) _ _ tt (either P (off == 0xB0) _ _ tt tt))))
    (either P (size == 4) _ _
    (either P (off == 0x0) _ _ (either P (bit_of (low_half value) 0) _ _ (either P b.on writes.Ignored writes.Enable tt tt)
    (either P b.on writes.Disable writes.Ignored tt tt))
    (either P (off == 0x70) _ _ (set _ refl)
    (either P (off == 0x74) _ _ (set _ refl) (either P (off == 0x78) _ _ (set _ refl) (either P (off == 0x7C) _ _ (set _ refl)
    (either P (off == 0xA0) _ _ tt (either P (off == 0xB0 || off == 0xB4) _ _ tt tt)))))))
    tt)

-- ---- the LPIs that a pending table has

range_rising : (a n : ℕ) → IsStrictlyIncreasing (range_with_len a n)
range_rising a n = λ k within.
    let lt : k + 1 < n = subst (λ (m : ℕ). k + 1 < m) (length-range_with_len a n) within in
    let here = get_or-range_with_len a n k 0 (omega (arith, lt)) in
    let next = get_or-range_with_len a n (k + 1) 0 lt in
    omega (arith, here, next)

all_range : (P : ℕ → Type 0) (a n : ℕ) → ((x : ℕ) → a ≤ x → x < a + n → P x) → AllByRecursion P (range_with_len a n)
all_range P a zero f = tt
all_range P a (suc n) f = (f a (omega arith) (omega arith), all_range P (a + 1) n (λ x low high. f x (omega arith) (omega arith)))

in_range : (lpi_bits x : ℕ) → 14 ≤ lpi_bits → 8192 ≤ x → x < 8192 + lpi_count lpi_bits → is_lpi lpi_bits x ≡ true
in_range lpi_bits x low least most =
    let some : 2 ^ 14 ≤ 2 ^ lpi_bits = pow-le-pow_right (omega arith) low in
    let below : x < 2 ^ lpi_bits = omega (arith, some, most) in
    grind (arith, least, below)

pending_in_set : (lpi_bits : ℕ) (memory : List Window) (base : ℕ) → 14 ≤ lpi_bits → IsSet (λ x. is_lpi lpi_bits x ≡ true) (pending_in lpi_bits memory base)
unfolding pending_in
pending_in_set lpi_bits memory base low = record {
  rising = IsStrictlyIncreasing-filter (is_set memory base) (range_with_len 8192 (lpi_count lpi_bits)) (range_rising 8192 (lpi_count lpi_bits));
  all = all_filter (λ x. is_lpi lpi_bits x ≡ true) (is_set memory base) (range_with_len 8192 (lpi_count lpi_bits))
      (all_range (λ x. is_lpi lpi_bits x ≡ true) 8192 (lpi_count lpi_bits) (λ x least most. in_range lpi_bits x low least most));
}

-- ---- a redistributor after a write

module _ (l : Layout) (memory : List Window) (v : ℕ) (programmed : l.gicr ≡ true) (low : 14 ≤ l.shape.lpi_bits) where
  -- with other bases, while LPIs are off
  bases_set : (r : Redistributor) (b : Bases) → IsOff r.bases b → AreKept b → IsRedistributor l memory v r → IsRedistributor l memory v (record r { bases = b })
  bases_set r b off bits h = record {
    rising = h.rising;
    lpis = h.lpis;
    config = h.config;
    accepts = h.accepts ∙ off.0 ∙ sym off.1;
    tables = λ on. absurd (both_ways b.on off.1 on);
    off_pending = λ _. h.off_pending off.0;
    off_config = λ _. h.off_config off.0;
    kept = λ _. bits;
    described = λ fixed. absurd (both_ways l.gicr fixed programmed);
    always_on = λ fixed. absurd (both_ways l.gicr fixed programmed);
  }

  pending_read : (r : Redistributor) → IsRedistributor l memory v r
      → IsSet (λ x. is_lpi l.shape.lpi_bits x ≡ true) (if r.bases.pend.ptz then r.pending else pending_in l.shape.lpi_bits memory r.bases.pend.table.0)
  pending_read r h =
      cond_both r.bases.pend.ptz r.pending (pending_in l.shape.lpi_bits memory r.bases.pend.table.0) (IsSet (λ x. is_lpi l.shape.lpi_bits x ≡ true))
      (λ _. record { rising = h.rising; all = h.lpis }) (λ _. pending_in_set l.shape.lpi_bits memory r.bases.pend.table.0 low)

  turned : (r : Redistributor) → has_tables l.shape memory r.bases ≡ true → IsRedistributor l memory v r
      → IsRedistributor l memory v (turned_on l.shape memory r)
  unfolding turned_on
  turned r have h =
      let set = pending_read r h in
      let tables = and_parts (inside memory r.bases.prop.table.0 (lpi_count l.shape.lpi_bits))
      (inside memory r.bases.pend.table.0 (pending_bytes l.shape.lpi_bits)) have in
      let bits = h.kept programmed in record {
        rising = set.rising;
        lpis = set.all;
        config = config_read r.config (lpi_count l.shape.lpi_bits) (read_at memory r.bases.prop.table.0 (lpi_count l.shape.lpi_bits)) h.config
            (length-read_at memory r.bases.prop.table.0 (lpi_count l.shape.lpi_bits));
        accepts = refl;
        tables = λ _. record { config = tables.0; pending = tables.1 };
        off_pending = λ off. absurd cc;
        off_config = λ off. absurd cc;
        kept = λ _. record {
          prop_whole = bits.prop_whole;
          prop_low = bits.prop_low;
          id_bits = bits.id_bits;
          pend_whole = bits.pend_whole;
          pend_low = bits.pend_low;
        };
        described = λ fixed. absurd (both_ways l.gicr fixed programmed);
        always_on = λ _. refl;
      }

  off_sound : (r : Redistributor) → IsRedistributor l memory v r → IsRedistributor l memory v (turned_off l.shape r)
  off_sound r h = let bits = h.kept programmed in record {
    rising = (no_set (λ _. Unit {0})).rising;
    lpis = tt;
    config = length-replicate (lpi_count l.shape.lpi_bits) 0;
    accepts = refl;
    tables = λ on. absurd cc;
    off_pending = λ _. refl;
    off_config = λ _. refl;
    kept = λ _. record {
      prop_whole = bits.prop_whole;
      prop_low = bits.prop_low;
      id_bits = bits.id_bits;
      pend_whole = bits.pend_whole;
      pend_low = bits.pend_low;
    };
    described = λ fixed. absurd (both_ways l.gicr fixed programmed);
    always_on = λ fixed. absurd (both_ways l.gicr fixed programmed);
  }

  done : (r : Redistributor) (w : GicrWrite) → Sets (IsOff r.bases) w → Sets AreKept w → IsRedistributor l memory v r
      → IsRedistributor l memory v (done_by l.shape memory w r)
  unfolding done_by
  done r writes.Ignored off bits h = h
  done r (writes.SetBases b) off bits h = bases_set r b off bits h
  done r writes.Enable off bits h = cond_both (has_tables l.shape memory r.bases) (turned_on l.shape memory r) r (IsRedistributor l memory v)
      (λ have. turned r have h) (λ _. h)
  done r writes.Disable off bits h = cond_both l.shape.linux (turned_off l.shape r) r (IsRedistributor l memory v) (λ _. off_sound r h) (λ _. h)
  done r (writes.Reread intid) off bits h =
      cond_both (is_lpi l.shape.lpi_bits intid.0) (reread_at memory intid.0 r) r (IsRedistributor l memory v) (λ _. reread_at_sound l memory v r intid.0 h)
      (λ _. h)
  done r writes.RereadAll off bits h = reloaded_sound l memory v r h

  written_sound : (r : Redistributor) (off size value : ℕ) → IsRedistributor l memory v r
      → IsRedistributor l memory v (written_gicr l.shape memory r off size value)
  unfolding written_gicr
  written_sound r off size value h = done r (asked_by r.bases off size value) (set_while_off r.bases off size value)
      (kept r.bases off size value (h.kept programmed)) h

-- ---- the call

pub gicr_write_keeps : GicrWriteKeepsSound
unfolding left
gicr_write_keeps u vcpu off size value h =
    cond_both u.layout.gicr (with_redistributor u vcpu.0 (written_gicr u.layout.shape u.memory (redistributor u vcpu.0) off size value)) u IsSound
    (λ programmed.
    redistributor_replaced u vcpu.0 (written_gicr u.layout.shape u.memory (redistributor u vcpu.0) off size value) h (λ within.
    written_sound u.layout u.memory vcpu.0 programmed h.layout.shape.least_lpi_bits (redistributor u vcpu.0) off size value
    (redistributor_sound u vcpu.0 h within)))
    (λ _. h)

pub gicr_read_keeps : GicrReadKeepsSound
unfolding left
gicr_read_keeps u vcpu off size h = h
