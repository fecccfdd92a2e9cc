-- The walk over the device table: it only goes up, and each place is looked at as the definitions say.
use Rattle.std.proofs.Common.{◌≡◌, ℕ, ◌+◌, ◌-◌, ◌*◌, ◌^◌, ◌<◌, ◌≤◌, true, false, cond, nat_lt, List, Option, Some, None, refl, subst, ap}
use Rattle.std.proofs.Common.{arith}
use Rattle.std.specs.Prelude.{◌==◌, ◌&&◌}
use Rattle.std.specs.Option.{option_and_then}
use Rattle.std.proofs.lemmas.Bool.{ltb-true, eqb-false, and_parts}
use Rattle.its_types.specs.Bits.{bit_of}
use Rattle.guest_windows.specs.Windows.{Window, number_at}
use Rattle.std.proofs.Math.Pow.{pow_mono}
use Rattle.std.proofs.lemmas.Nat.{pow_pos}
use Rattle.gits_regs.specs.Registers.{Registers, is_indirect, table_base}
use Rattle.baser_place.specs.Places.{level1_entries, page_address}
use Rattle.table_entries.specs.Fields.{DeviceFields}
use Rattle.table_entries.specs.Words.{unpacked_device}
use Rattle.its_plain.specs.DeviceTables.{DevicePlace, at_level1, at_entry, first_device, flat_size, page_places, following, level1_leads, goes_to}
use Rattle.its_plain.specs.DeviceTables.{device_leads, word_leads, next_device, device_address}
use Rattle.standing_states.specs.Found.{IsPlace, rank, reach}
use Rattle.standing_states.proofs.Walks.{Rises}

pub page_of_two : (r : Registers) → is_indirect r.baser0 ≡ true → page_places r ≡ 8192
page_of_two r e = ap (λ b. cond b 8192 (flat_size r)) e

pub page_of_flat : (r : Registers) → is_indirect r.baser0 ≡ false → page_places r ≡ flat_size r
page_of_flat r e = ap (λ b. cond b 8192 (flat_size r)) e

reach_two : (r : Registers) → is_indirect r.baser0 ≡ true → reach r ≡ 8193 * level1_entries r.dev_bits
reach_two r e = ap (λ b. cond b (8193 * level1_entries r.dev_bits) (1 + flat_size r)) e

reach_flat : (r : Registers) → is_indirect r.baser0 ≡ false → reach r ≡ 1 + flat_size r
reach_flat r e = ap (λ b. cond b (8193 * level1_entries r.dev_bits) (1 + flat_size r)) e

-- DeviceIDs have 16 to 20 bits
pub record IsSmall (r : Registers) : Type 0 where
  pub some_entries : 1 ≤ level1_entries r.dev_bits
  pub most_entries : level1_entries r.dev_bits ≤ 128
  pub some_places : 1 ≤ flat_size r
  pub most_places : flat_size r ≤ 1048576

pub small : (r : Registers) → 16 ≤ r.dev_bits → r.dev_bits ≤ 20 → IsSmall r
unfolding flat_size
small r least most =
    let below : 2 ^ (r.dev_bits - 13) ≤ 2 ^ 7 = pow_mono {i = r.dev_bits - 13} {j = 7} (omega arith) in
    let some : 0 < 2 ^ (r.dev_bits - 13) = pow_pos (r.dev_bits - 13) in
    record { some_entries = omega arith; most_entries = omega arith; some_places = omega arith; most_places = omega arith }

page_most : (r : Registers) → IsSmall r → page_places r ≤ 1048576
page_most r s =
    elim (is_indirect r.baser0) as (λ b. cond b 8192 (flat_size r) ≤ 1048576) [
      | true ↦ omega arith
      | false ↦ s.most_places
    ]

-- a step up, to a place of the table
record Up (r : Registers) (p q : DevicePlace) : Type 0 where
  up : rank p < rank q
  good : IsPlace r q

follows : (r : Registers) (k : ℕ) (p q : DevicePlace) → IsSmall r → (is_indirect r.baser0 ≡ true → rank p < 8193 * (k + 1)) → following r k ≡ Some q → Up r p q
follows r k p q small low e =
    elim (is_indirect r.baser0 && nat_lt (k + 1) (level1_entries r.dev_bits)) as (λ b. (is_indirect r.baser0 && nat_lt (k + 1) (level1_entries r.dev_bits)) ≡ b
    → cond b (Some (at_level1 (k + 1))) None ≡ Some q → Up r p q) [
      | true ↦ λ h s.
          let h2 = and_parts (is_indirect r.baser0) (nat_lt (k + 1) (level1_entries r.dev_bits)) h in
          let lt = ltb-true (k + 1) (level1_entries r.dev_bits) h2.1 in let up = low h2.0 in
          let is : at_level1 (k + 1) ≡ q = cc in
          subst (Up r p) is (record { up = omega arith; good = (h2.0, lt, (let most = small.most_entries in omega arith)) })
      | false ↦ λ h s. absurd cc
    ] refl e

goes : (r : Registers) (k page i j : ℕ) (q : DevicePlace) → IsSmall r → IsPlace r (at_entry k page i) → i < j → goes_to r k page j ≡ Some q
    → Up r (at_entry k page i) q
goes r k page i j q small g lt e =
    elim (nat_lt j (page_places r)) as (λ b. nat_lt j (page_places r) ≡ b → cond b (Some (at_entry k page j)) (following r k) ≡ Some q
    → Up r (at_entry k page i) q) [
      | true ↦ λ h s.
          let is : at_entry k page j ≡ q = cc in
          subst (Up r (at_entry k page i)) is
          (record {
            up = omega arith;
            good = (g.0, ltb-true j (page_places r) h, g.2, g.3, g.4, (let lt2 = ltb-true j (page_places r) h in let most = page_most r small in omega arith));
          })
      | false ↦ λ h s. follows r k (at_entry k page i) q small (λ two. let most = page_of_two r two in let low = g.1 in omega arith) s
    ] refl e

leads : (r : Registers) (k page i : ℕ) (o : Option DeviceFields) (q : DevicePlace) → IsSmall r → IsPlace r (at_entry k page i)
    → device_leads r k page i o ≡ Some q → Up r (at_entry k page i) q
leads r k page i None q small g e = goes r k page i (i + 1) q small g (omega arith) e
leads r k page i (Some d) q small g e =
    elim (d.next == 0) as (λ b. (d.next == 0) ≡ b → cond b None (goes_to r k page (i + d.next)) ≡ Some q → Up r (at_entry k page i) q) [
      | true ↦ λ z s. absurd cc
      | false ↦ λ z s. let n = eqb-false d.next 0 z in goes r k page i (i + d.next) q small g (omega arith) s
    ] refl e

page_low : (word : ℕ) → page_address word < 2 ^ 52
page_low word = omega arith

opened : (r : Registers) (k word : ℕ) (q : DevicePlace) → IsSmall r → IsPlace r (at_level1 k) → level1_leads r k word ≡ Some q → Up r (at_level1 k) q
opened r k word q small g e =
    elim (bit_of word 63) as (λ b. bit_of word 63 ≡ b → cond b (Some (at_entry k (page_address word) 0)) (following r k) ≡ Some q → Up r (at_level1 k) q) [
      | true ↦ λ z s.
          let is : at_entry k (page_address word) 0 ≡ q = cc in
          let most = page_of_two r g.0 in
          subst (Up r (at_level1 k)) is
          (record { up = omega arith; good = (page_low word, omega arith, (λ two. g.1), (λ flat. absurd (let two = g.0 in cc)), g.2, omega arith) })
      | false ↦ λ z s. follows r k (at_level1 k) q small (λ two. omega arith) s
    ] refl e

word_up : (r : Registers) (p q : DevicePlace) (word : ℕ) → IsSmall r → IsPlace r p → word_leads r p word ≡ Some q → Up r p q
word_up r (at_level1 k) q word small g e = opened r k word q small g e
word_up r (at_entry k page i) q word small g e = leads r k page i (unpacked_device word) q small g e

step_up : (r : Registers) (p q : DevicePlace) (o : Option ℕ) → IsSmall r → IsPlace r p → option_and_then (word_leads r p) o ≡ Some q → Up r p q
step_up r p q None small g e = absurd cc
step_up r p q (Some word) small g e = word_up r p q word small g e

stays_below : (r : Registers) (p : DevicePlace) → IsPlace r p → rank p < reach r
stays_below r (at_level1 k) g = let e = reach_two r g.0 in let lt = g.1 in omega arith
stays_below r (at_entry k page i) g =
    elim (is_indirect r.baser0) as (λ b. is_indirect r.baser0 ≡ b → rank (at_entry k page i) < reach r) [
      | true ↦ λ two. let e = reach_two r two in let l = page_of_two r two in let lt = g.2 two in let low = g.1 in omega arith
      | false ↦ λ flat. let e = reach_flat r flat in let l = page_of_flat r flat in let zero_k = g.3 flat in let low = g.1 in omega arith
    ] refl

pub devices_rise : (memory : List Window) (r : Registers) → IsSmall r → Rises (next_device memory r) rank (reach r) (IsPlace r)
devices_rise memory r small = record {
  up = λ p q g e. (step_up r p q (number_at memory (device_address r p)) small g e).up;
  good = λ p q g e. (step_up r p q (number_at memory (device_address r p)) small g e).good;
  below = λ p g. stays_below r p g;
}

base_low : (baser : ℕ) → table_base baser < 2 ^ 52
base_low baser = omega arith

pub device_starts : (r : Registers) → IsSmall r → IsPlace r (first_device r)
device_starts r small =
    let some = small.some_entries in let places = small.some_places in
    elim (is_indirect r.baser0) as (λ b. is_indirect r.baser0 ≡ b → IsPlace r (cond b (at_level1 0) (at_entry 0 (table_base r.baser0) 0))) [
      | true ↦ λ two. (two, omega arith, omega arith)
      | false ↦ λ flat. let l = page_of_flat r flat in (base_low r.baser0, omega arith, (λ two. absurd cc), (λ f. refl), omega arith, omega arith)
    ] refl
