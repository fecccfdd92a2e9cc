-- A write of a redistributor's LPI registers turns LPIs on where it writes 1 to GICR_CTLR.EnableLPIs, and off where it writes 0 and the machine lets it.
use Rattle.std.proofs.Common.{◌≡◌, ℕ, Bool, true, false, ◌||◌, ◌==◌, eqb, if◌then◌else◌, List, [], refl, sym, ap, ◌∙◌, inl, inr, ⊎_elim, arith}
use Rattle.std.specs.Prelude.{◌⊎◌}
use Rattle.std.proofs.lemmas.Bool.{both_ways, cond_both, eqb-true}
use Rattle.guest_windows.specs.Windows.{Window}
use Rattle.its_types.specs.Bits.{bit_of, field}
use Rattle.its_types.specs.Ranges.{is_lpi}
use Rattle.its_types.specs.declared.machine.Shape.{Shape}
use Rattle.its_types.specs.declared.translation.Bases.{Bases}
use Rattle.gicr_regs.specs.Redistributors.{Redistributor, has_tables, reread_at}
use Rattle.gicr_regs.specs.Registers.{asked_by, asked_by_64, asked_by_word, done_by, turned_on, turned_off, written_gicr}
use Rattle.its_types.specs.Halves.{low_half}
use Rattle.gicr_regs.specs.declared.write.GicrWrite.{GicrWrite}
use Rattle.gicr_regs.specs.declared.write.GicrWrite.TheVariants as writes
use Rattle.lpi_enabling.specs.Enabling.{TakesWhereOn}
use Rattle.lpi_enabling.proofs.Kept.{Keeps, kept, reread_kept, reloaded_kept}

-- ---- what a call may do to a redistributor

-- LPIs are turned on only where P holds and off only where Q does, and none is pending while they are off, if none was
pub record Goes (P Q : Type 0) (r s : Redistributor) : Type 0 where
  pub stays : r.accepts ≡ true → (s.accepts ≡ true) ⊎ Q
  pub turned : r.accepts ≡ false → s.accepts ≡ true → P
  pub none : (r.accepts ≡ false → r.pending ≡ []) → s.accepts ≡ false → s.pending ≡ []
  pub taking : TakesWhereOn r → TakesWhereOn s

pub goes : (P Q : Type 0) (r s : Redistributor) → Keeps r s → Goes P Q r s
goes P Q r s k = record {
  stays = λ on. inl (k.on ∙ on);
  turned = λ off on. absurd (both_ways r.accepts off (sym k.on ∙ on));
  none = λ h off. let was : r.accepts ≡ false = sym k.on ∙ off in k.none was (h was);
  taking = λ e. k.on ∙ e ∙ sym k.bases;
}

pub goes_by : (P Q A B : Type 0) (r s : Redistributor) → (P → A) → (Q → B) → Goes P Q r s → Goes A B r s
goes_by P Q A B r s f e g = record {
  stays = λ on. ⊎_elim (λ x. inl x) (λ q. inr (e q)) (g.stays on);
  turned = λ off on. f (g.turned off on);
  none = g.none;
  taking = g.taking;
}

-- ---- what a write asks for

abbrev pub IsEnabling : ℕ → ℕ → ℕ → Type 0
IsEnabling off size value = (off ≡ 0) × (size ≡ 4) × (bit_of value 0 ≡ true)

abbrev pub IsDisabling : ℕ → ℕ → ℕ → Type 0
IsDisabling off size value = (off ≡ 0) × (size ≡ 4) × (bit_of value 0 ≡ false)

-- other bases, or LPIs on, are asked for only while they are off
abbrev Asks : Bases → Type 0 → Type 0 → GicrWrite → Type 0
Asks b P Q writes.Ignored = Unit {0}
Asks b P Q (writes.SetBases c) = (b.on ≡ false) × (c.on ≡ false)
Asks b P Q writes.Enable = P
Asks b P Q writes.Disable = Q
Asks b P Q (writes.Reread intid) = Unit {0}
Asks b P Q writes.RereadAll = Unit {0}

lowest_bit : (value : ℕ) → bit_of (low_half value) 0 ≡ bit_of value 0
lowest_bit value = let same : field (low_half value) 0 1 ≡ field value 0 1 = omega arith in ap (λ k. eqb k 1) same

module _ (b : Bases) (off size value : ℕ) where
  abbrev A : GicrWrite → Type 0
  A = Asks b (IsEnabling off size value) (IsDisabling off size value)

  either : (t : Bool) (x y : GicrWrite) → A x → A y → A (if t then x else y)
  either true x y p q = p
  either false x y p q = q

  set : (c : Bases) → c.on ≡ b.on → A (if b.on then writes.Ignored else writes.SetBases c)
  set c same = cond_both b.on writes.Ignored (writes.SetBases c) A (λ _. tt) (λ e. (e, same ∙ e))

  asked_64 : A (asked_by_64 b off value)
  unfolding asked_by_64
  asked_64 =
      either (off == 0x70) _ _ (set _ refl) (either (off == 0x78) _ _ (set _ refl) (either (off == 0xA0) _ _ tt (either (off == 0xB0) _ _ tt tt)))

  asked_word : size ≡ 4 → A (asked_by_word b off (low_half value))
  unfolding asked_by_word
  asked_word four =
      cond_both (off == 0x0) _ _ A
      (λ first. cond_both (bit_of (low_half value) 0) _ _ A
      (λ on. either b.on writes.Ignored writes.Enable tt (eqb-true off 0 first, four, sym (lowest_bit value) ∙ on))
      (λ no. either b.on writes.Disable writes.Ignored (eqb-true off 0 first, four, sym (lowest_bit value) ∙ no) tt))
      (λ _. either (off == 0x70) _ _ (set _ refl)
      (either (off == 0x74) _ _ (set _ refl) (either (off == 0x78) _ _ (set _ refl) (either (off == 0x7C) _ _ (set _ refl)
      (either (off == 0xA0) _ _ tt (either (off == 0xB0 || off == 0xB4) _ _ tt tt))))))

  asked : A (asked_by b off size value)
  unfolding asked_by
  asked = either (size == 8) _ _ asked_64 (cond_both (size == 4) (asked_by_word b off (low_half value)) writes.Ignored A (λ e. asked_word (eqb-true size 4 e))
      (λ _. tt))

-- ---- what it does

module _ (s : Shape) (memory : List Window) (P Q : Type 0) where
  abbrev Off : Type 0
  Off = (s.linux ≡ true) × Q

  done : (r : Redistributor) (w : GicrWrite) → Asks r.bases P Q w → Goes P Off r (done_by s memory w r)
  unfolding done_by turned_on
  done r writes.Ignored a = goes P Off r r (kept r)
  done r (writes.SetBases c) a = record {
    stays = λ on. inl on;
    turned = λ off on. absurd (both_ways r.accepts off on);
    none = λ h off. h off;
    taking = λ e. e ∙ a.0 ∙ sym a.1;
  }
  done r writes.Enable a =
      cond_both (has_tables s memory r.bases) (turned_on s memory r) r (Goes P Off r)
      (λ _. record { stays = λ _. inl refl; turned = λ _ _. a; none = λ _ off. absurd cc; taking = λ _. refl }) (λ _. goes P Off r r (kept r))
  done r writes.Disable a =
      cond_both s.linux (turned_off s r) r (Goes P Off r)
      (λ may. record { stays = λ _. inr (may, a); turned = λ _ on. absurd cc; none = λ _ _. refl; taking = λ _. refl }) (λ _. goes P Off r r (kept r))
  done r (writes.Reread intid) a =
      cond_both (is_lpi s.lpi_bits intid.0) (reread_at memory intid.0 r) r (Goes P Off r)
      (λ _. goes P Off r (reread_at memory intid.0 r) (reread_kept memory intid.0 r)) (λ _. goes P Off r r (kept r))
  done r writes.RereadAll a = goes P Off r (done_by s memory writes.RereadAll r) (reloaded_kept s memory r)

pub written_goes : (s : Shape) (memory : List Window) (r : Redistributor) (off size value : ℕ) → Goes (IsEnabling off size value)
    ((s.linux ≡ true) × IsDisabling off size value) r (written_gicr s memory r off size value)
unfolding written_gicr
written_goes s memory r off size value = done s memory (IsEnabling off size value) (IsDisabling off size value) r (asked_by r.bases off size value)
    (asked r.bases off size value)

-- with 0 written, where the machine lets it, they are off: what is seen of that was so where they were off, and is so of what is turned off
pub written_off : (seen : Redistributor → Bool) (s : Shape) (memory : List Window) (r : Redistributor) (off size value : ℕ) → s.linux ≡ true
    → IsDisabling off size value → seen (turned_off s r) ≡ false → (r.bases.on ≡ false → seen r ≡ false)
    → seen (written_gicr s memory r off size value) ≡ false
unfolding written_gicr asked_by asked_by_word done_by
written_off seen s memory r off size value may d turned was =
    let low : bit_of (low_half value) 0 ≡ false = lowest_bit value ∙ d.2 in
    ap (λ (o : ℕ). seen (written_gicr s memory r o size value)) d.0
    ∙ (ap (λ (n : ℕ). seen (written_gicr s memory r 0 n value)) d.1
    ∙ (ap (λ (b : Bool). seen (done_by s memory (if b then (if r.bases.on then writes.Ignored else writes.Enable)
    else (if r.bases.on then writes.Disable else writes.Ignored)) r)) low
    ∙ at r.bases.on refl))
  where
    at : (b : Bool) → r.bases.on ≡ b → seen (done_by s memory (if b then writes.Disable else writes.Ignored) r) ≡ false
    at true is = ap (λ (t : Bool). seen (if t then turned_off s r else r)) may ∙ turned
    at false is = was is
