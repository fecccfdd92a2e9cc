-- Writes, the queue's advance and a restore keep the rules.
use Rattle.std.proofs.Common.{◌≡◌, ℕ, ◌-◌, ◌%◌, ◌<◌, ◌≤◌, Bool, true, false, not, ◌&&◌, nat_lt, nat_eq, if◌then◌else◌, IfOk, Result, Ok, ap, ◌∙◌, refl}
use Rattle.std.proofs.lemmas.Bool.{ltb-true}
use Rattle.its_types.specs.Bits.{bit_of}
use Rattle.gits_regs.specs.Registers.{Registers, IsSound, Written, write_reg, write_64, write_word, write_ctlr, write_cbaser, write_cwriter, write_baser0}
use Rattle.gits_regs.specs.Registers.{write_baser1, restored, masked, kept_cbaser, kept_baser0, kept_baser1, kept_offset, has_bases, is_same_queue, is_32}
use Rattle.gits_regs.specs.Registers.{queue_size, read_64, ensure, ◌>>=◌, base_allowed, is_valid}
use Rattle.its_types.specs.Halves.{low_half, with_low_half, with_high_half}
use Rattle.gits_regs.specs.declared.values.RegValues.{RegValues}
use Rattle.gits_regs.specs.declared.values.NotValid.{NotValid}
use Rattle.gits_regs.specs.declared.values.Register.{Register}
use Rattle.gits_regs.specs.declared.values.Register.TheVariants.{Cbaser, Creadr, Cwriter, Baser0, Baser1}
use Rattle.gits_regs.proofs.Rules.{kept_cbaser-fixed, kept_baser0-fixed, kept_baser1-fixed, kept_offset_whole, cbaser_written, baser0_written, baser1_written}
use Rattle.gits_regs.proofs.Rules.{cwriter_written, enabled_by_write, disabled_by_write}

-- by the two cases of a test
pick : {A : Type 0} (P : A → Type 0) (b : Bool) (x y : A) → (b ≡ true → P x) → (b ≡ false → P y) → P (if b then x else y)
pick P true x y f g = f refl
pick P false x y f g = g refl

abbrev Keeps : Written → Type 0
Keeps w = IsSound w.regs

left_true : (a b : Bool) → (a && b) ≡ true → a ≡ true
left_true true b e = refl
left_true false b e = absurd (cc)

right_true : (a b : Bool) → (a && b) ≡ true → b ≡ true
right_true true b e = e
right_true false b e = absurd (cc)

write_ctlr_keeps : (r : Registers) (value : ℕ) → IsSound r → IsSound (write_ctlr r value).regs
unfolding write_ctlr
write_ctlr_keeps r value h =
    pick Keeps (bit_of value 0) _ _
    (λ _. pick Keeps (not r.enabled && has_bases r) _ _ (λ e. enabled_by_write r h (right_true (not r.enabled) (has_bases r) e)) (λ _. h))
    (λ _. pick Keeps r.enabled _ _ (λ _. disabled_by_write r h) (λ _. h))

write_cbaser_keeps : (r : Registers) (value : ℕ) → IsSound r → IsSound (write_cbaser r value).regs
unfolding write_cbaser
write_cbaser_keeps r value h =
    pick Keeps r.enabled _ _ (λ _. h) (λ off. pick Keeps (is_same_queue r (kept_cbaser value)) _ _ (λ _. h)
    (λ _. cbaser_written r value (kept_cbaser value) h off refl))

write_cwriter_keeps : (r : Registers) (value : ℕ) → IsSound r → IsSound (write_cwriter r value).regs
unfolding write_cwriter
write_cwriter_keeps r value h =
    let below : Bool = nat_lt (kept_offset value) (queue_size r) in
    let other : Bool = not (nat_eq r.cwriter (kept_offset value)) in
    pick Keeps (below && other) _ _ (λ e. cwriter_written r value h (ltb-true (kept_offset value) (queue_size r) (left_true below other e))) (λ _. h)

write_baser0_keeps : (r : Registers) (value : ℕ) → IsSound r → IsSound (write_baser0 r value).regs
unfolding write_baser0
write_baser0_keeps r value h = pick Keeps r.enabled _ _ (λ _. h) (λ off. baser0_written r value (kept_baser0 value) h off refl)

write_baser1_keeps : (r : Registers) (value : ℕ) → IsSound r → IsSound (write_baser1 r value).regs
unfolding write_baser1
write_baser1_keeps r value h = pick Keeps r.enabled _ _ (λ _. h) (λ off. baser1_written r value (kept_baser1 value) h off refl)

write_64_keeps : (r : Registers) (off value : ℕ) → IsSound r → IsSound (write_64 r off value).regs
unfolding write_64
write_64_keeps r off value h =
    pick Keeps (nat_eq off 0x80) _ _ (λ _. write_cbaser_keeps r value h) (λ _.
    pick Keeps (nat_eq off 0x88) _ _ (λ _. write_cwriter_keeps r value h) (λ _.
    pick Keeps (nat_eq off 0x100) _ _ (λ _. write_baser0_keeps r value h) (λ _.
    pick Keeps (nat_eq off 0x108) _ _ (λ _. write_baser1_keeps r value h) (λ _. h))))

write_word_keeps : (r : Registers) (off value : ℕ) → IsSound r → IsSound (write_word r off value).regs
unfolding write_word
write_word_keeps r off value h =
    pick Keeps (is_32 off) _ _ (λ _. pick Keeps (nat_eq off 0x0) _ _ (λ _. write_ctlr_keeps r value h) (λ _. h)) (λ _.
    pick Keeps (nat_eq (off % 8) 0) _ _ (λ _. write_64_keeps r off (with_low_half (read_64 r off) value) h) (λ _.
    pick Keeps (nat_eq (off % 8) 4) _ _ (λ _. write_64_keeps r (off - 4) (with_high_half (read_64 r (off - 4)) value) h) (λ _. h)))

pub write_keeps : (r : Registers) (off size value : ℕ) → IsSound r → IsSound (write_reg r off size value).regs
unfolding write_reg
write_keeps r off size value h =
    pick Keeps (nat_eq size 8) _ _ (λ _. write_64_keeps r off value h) (λ _.
    pick Keeps (nat_eq size 4) _ _ (λ _. write_word_keeps r off (low_half value) h) (λ _. h))

-- ---- restore

-- an ensured test holds in what follows
after : (P : Registers → Type 0) (test : Bool) (r : Register) (f : Unit {0} → Result Registers NotValid)
    → (test ≡ true → IfOk (f tt) P) → IfOk (ensure test r >>= f) P
after P true r f h = h refl
after P false r f h = tt

allowed : (enabled : Bool) (base : ℕ) → base_allowed enabled base ≡ true → enabled ≡ true → is_valid base ≡ true
allowed true base h on = h
allowed false base h on = absurd (cc)

both : (a b c : Bool) → a ≡ true → b ≡ true → c ≡ true → (a && b && c) ≡ true
both true true true a b c = refl
both false b c h i j = absurd (cc)
both true false c h i j = absurd (cc)
both true true false h i j = absurd (cc)

-- the registers are the values as writes leave them, and each test was passed
pub kept_values_are_sound : (r : Registers) (v : RegValues) → 16 ≤ r.dev_bits → r.dev_bits ≤ 20
    → r.cbaser ≡ kept_cbaser v.cbaser → r.creadr ≡ kept_offset v.creadr → r.cwriter ≡ kept_offset v.cwriter
    → r.baser0 ≡ kept_baser0 v.baser0 → r.baser1 ≡ kept_baser1 v.baser1
    → base_allowed r.enabled r.cbaser ≡ true → r.creadr < queue_size r → r.cwriter < queue_size r
    → base_allowed r.enabled r.baser0 ≡ true → base_allowed r.enabled r.baser1 ≡ true
    → IsSound r
kept_values_are_sound r v least most cbaser creadr cwriter baser0 baser1 queue read written devices collections = record {
  least_bits = least;
  most_bits = most;
  cbaser = kept_cbaser-fixed v.cbaser r.cbaser cbaser;
  baser0 = kept_baser0-fixed v.baser0 r.baser0 baser0;
  baser1 = kept_baser1-fixed v.baser1 r.baser1 baser1;
  enabled = λ on.
      both (is_valid r.cbaser) (is_valid r.baser0) (is_valid r.baser1)
      (allowed r.enabled r.cbaser queue on) (allowed r.enabled r.baser0 devices on) (allowed r.enabled r.baser1 collections on);
  creadr = record { inside = read; whole = ap (λ n. n % 32) creadr ∙ kept_offset_whole v.creadr };
  cwriter = record { inside = written; whole = ap (λ n. n % 32) cwriter ∙ kept_offset_whole v.cwriter };
}

-- an ensured test was true
pub passed : (test : Bool) (r : Register) (outcome : Result (Unit {0}) NotValid) (u : Unit {0}) → outcome ≡ ensure test r → outcome ≡ Ok u → test ≡ true
passed true r outcome u e f = refl
passed false r outcome u e f = absurd (cc)

pub restored_keeps : (values : RegValues) (dev_bits : ℕ) → 16 ≤ dev_bits → dev_bits ≤ 20 → IfOk (restored values dev_bits) IsSound
unfolding restored
restored_keeps values dev_bits least most =
    let r : Registers = masked values dev_bits in
    after IsSound (base_allowed r.enabled r.cbaser) Cbaser _ (λ cbaser.
    after IsSound (nat_lt r.creadr (queue_size r)) Creadr _ (λ creadr.
    after IsSound (nat_lt r.cwriter (queue_size r)) Cwriter _ (λ cwriter.
    after IsSound (base_allowed r.enabled r.baser0) Baser0 _ (λ baser0.
    after IsSound (base_allowed r.enabled r.baser1) Baser1 _ (λ baser1.
    kept_values_are_sound r values least most refl refl refl refl refl cbaser (ltb-true r.creadr (queue_size r) creadr)
    (ltb-true r.cwriter (queue_size r) cwriter) baser0 baser1)))))
