-- Places of a device table, flat or of two levels, and how its entries lead from one to another.
use Rattle.std.proofs.Common.{◌≡◌, ℕ, ◌+◌, ◌-◌, ◌*◌, ◌/◌, ◌%◌, ◌^◌, ◌<◌, ◌≤◌, Bool, true, false, cond, nat_lt, List, Option, Some, None, refl, sym, subst}
use Rattle.std.proofs.Common.{ap, ◌∙◌, inl, inr, arith}
use Rattle.std.specs.Prelude.{◌==◌, ◌&&◌}
use Rattle.std.proofs.lemmas.Bool.{eq-eqb, lt-ltb, le-ltb, ltb-true, cases_lt, cases_Bool, and_parts}
use Rattle.std.proofs.lemmas.Option.{same_Some}
use Rattle.its_types.specs.Bits.{field, bit_of}
use Rattle.guest_windows.specs.Windows.{Window}
use Rattle.gits_regs.specs.Registers.{Registers, is_indirect, table_base}
use Rattle.baser_place.specs.Places.{level1_entries, level1_of, page_of}
use Rattle.table_entries.specs.Fields.{DeviceFields}
use Rattle.table_entries.specs.Words.{packed_device, unpacked_device}
use Rattle.its_plain.specs.DeviceTables.{DevicePlace, at_level1, at_entry, flat_size, page_places, following, goes_to, device_leads}

-- ---- an entry

pub unpacks_device : (next itt bits : ℕ) → next < 2 ^ 14 → itt % 256 ≡ 0 → itt < 2 ^ 52 → 1 ≤ bits → bits ≤ 32
    → unpacked_device (packed_device (record { next = next; itt = itt; bits = bits })) ≡ Some (record { next = next; itt = itt; bits = bits })
unpacks_device next itt bits pn whole low some most =
    let word : ℕ = 2 ^ 63 + next * 2 ^ 49 + itt / 2 ^ 8 * 2 ^ 5 + (bits - 1) in
    let far : field word 49 14 ≡ next = omega arith in
    let table : field word 5 44 * 2 ^ 8 ≡ itt = omega arith in
    let size : field word 0 5 + 1 ≡ bits = omega arith in
    let valid : bit_of word 63 ≡ true = eq-eqb (field word 63 1) 1 (omega arith) in
    ap (λ (b : Bool). cond b (Some (record { next = field word 49 14; itt = field word 5 44 * 2 ^ 8; bits = field word 0 5 + 1 })) None) valid
    ∙ ap (λ (n : ℕ). Some (record { next = n; itt = field word 5 44 * 2 ^ 8; bits = field word 0 5 + 1 })) far
    ∙ ap (λ (n : ℕ). Some (record { next = next; itt = n; bits = field word 0 5 + 1 })) table
    ∙ ap (λ (n : ℕ). Some (record { next = next; itt = itt; bits = n })) size

-- ---- places

-- the page of level-1 entry k, or the flat table
pub record IsPage (old : List Window) (r : Registers) (k page : ℕ) : Type 0 where
  pub two : is_indirect r.baser0 ≡ true → (k < level1_entries r.dev_bits) × (page_of (level1_of r old k) ≡ Some page)
  pub flat : is_indirect r.baser0 ≡ false → (k ≡ 0) × (page ≡ table_base r.baser0)

-- a place of the table
abbrev pub IsPlace : List Window → Registers → DevicePlace → Type 0
IsPlace old r (at_level1 k) = (is_indirect r.baser0 ≡ true) × (k < level1_entries r.dev_bits)
IsPlace old r (at_entry k page i) = IsPage old r k page × (i < page_places r)

abbrev pub rank : DevicePlace → ℕ
rank (at_level1 k) = 8193 * k
rank (at_entry k page i) = 8193 * k + 1 + i

pub page_two : (r : Registers) → is_indirect r.baser0 ≡ true → page_places r ≡ 8192
page_two r e = ap (λ b. cond b 8192 (flat_size r)) e

pub page_flat : (r : Registers) → is_indirect r.baser0 ≡ false → page_places r ≡ flat_size r
page_flat r e = ap (λ b. cond b 8192 (flat_size r)) e

pub follows : (r : Registers) (k : ℕ) → is_indirect r.baser0 ≡ true → k + 1 < level1_entries r.dev_bits → following r k ≡ Some (at_level1 (k + 1))
follows r k two lt =
    ap (λ b. cond (b && nat_lt (k + 1) (level1_entries r.dev_bits)) (Some (at_level1 (k + 1))) None) two
    ∙ ap (λ b. cond b (Some (at_level1 (k + 1))) None) (lt-ltb (k + 1) (level1_entries r.dev_bits) lt)

pub following_place : (old : List Window) (r : Registers) (k : ℕ) (q : DevicePlace) → following r k ≡ Some q → IsPlace old r q
following_place old r k q e =
    elim (is_indirect r.baser0 && nat_lt (k + 1) (level1_entries r.dev_bits)) as (λ b. (is_indirect r.baser0 && nat_lt (k + 1) (level1_entries r.dev_bits)) ≡ b
    → cond b (Some (at_level1 (k + 1))) None ≡ Some q → IsPlace old r q) [
      | true ↦ λ h s.
          let both = and_parts (is_indirect r.baser0) (nat_lt (k + 1) (level1_entries r.dev_bits)) h in
          subst (IsPlace old r) (same_Some (at_level1 (k + 1)) q s) (both.0, ltb-true (k + 1) (level1_entries r.dev_bits) both.1)
      | false ↦ λ h s. absurd cc
    ] refl e

goes_place : (old : List Window) (r : Registers) (k page i : ℕ) (q : DevicePlace) → IsPage old r k page → goes_to r k page i ≡ Some q → IsPlace old r q
goes_place old r k page i q is e =
    elim (nat_lt i (page_places r)) as (λ b. nat_lt i (page_places r) ≡ b → cond b (Some (at_entry k page i)) (following r k) ≡ Some q → IsPlace old r q) [
      | true ↦ λ h s. subst (IsPlace old r) (same_Some (at_entry k page i) q s) (is, ltb-true i (page_places r) h)
      | false ↦ λ h s. following_place old r k q s
    ] refl e

pub leads_place : (old : List Window) (r : Registers) (k page i : ℕ) (o : Option DeviceFields) (q : DevicePlace) → IsPage old r k page
    → device_leads r k page i o ≡ Some q → IsPlace old r q
leads_place old r k page i None q is e = goes_place old r k page (i + 1) q is e
leads_place old r k page i (Some f) q is e =
    elim (f.next == 0) as (λ b. cond b None (goes_to r k page (i + f.next)) ≡ Some q → IsPlace old r q) [
      | true ↦ λ s. absurd cc
      | false ↦ λ s. goes_place old r k page (i + f.next) q is s
    ] e

-- the entries of two places, by their numbers
pub ids_rise : (old : List Window) (r : Registers) (k page i l other j : ℕ) → IsPlace old r (at_entry k page i) → IsPlace old r (at_entry l other j)
    → rank (at_entry k page i) < rank (at_entry l other j) → 8192 * k + i < 8192 * l + j
ids_rise old r k page i l other j p q lt =
    let low = p.1 in let high = q.1 in
    elim (cases_Bool (is_indirect r.baser0)) [
      | inl two ↦ let size = page_two r two in omega arith
      | inr flat ↦ let one = (p.0.flat flat).0 in let two = (q.0.flat flat).0 in omega arith
    ]

pub same_place : (old : List Window) (r : Registers) (p : DevicePlace) (l other j : ℕ) → IsPlace old r p → IsPlace old r (at_entry l other j)
    → rank p ≡ rank (at_entry l other j) → p ≡ at_entry l other j
same_place old r (at_level1 k) l other j p q e = let size = page_two r p.0 in let high = q.1 in absurd (omega arith)
same_place old r (at_entry k page i) l other j p q e =
    let low = p.1 in let high = q.1 in
    elim (cases_Bool (is_indirect r.baser0)) [
      | inl two ↦
          let size = page_two r two in
          let ks : k ≡ l = omega arith in
          let is : i ≡ j = omega arith in
          let pages : page ≡ other = same_Some page other (sym (p.0.two two).1 ∙ ap (λ (n : ℕ). page_of (level1_of r old n)) ks ∙ (q.0.two two).1) in
          ap (λ (n : ℕ). at_entry n page i) ks ∙ ap (λ (n : ℕ). at_entry l n i) pages ∙ ap (at_entry l other) is
      | inr flat ↦
          let a = p.0.flat flat in let b = q.0.flat flat in
          let ka = a.0 in let kb = b.0 in
          let ks : k ≡ l = omega arith in
          let is : i ≡ j = omega arith in
          ap (λ (n : ℕ). at_entry n page i) ks ∙ ap (λ (n : ℕ). at_entry l n i) (a.1 ∙ sym b.1) ∙ ap (at_entry l other) is
    ]

-- what a step towards a place is
abbrev pub Towards : List Window → Registers → DevicePlace → DevicePlace → Option DevicePlace → Type 0
Towards old r q p o = (s : DevicePlace) × (o ≡ Some s) × IsPlace old r s × (rank p < rank s) × (rank s ≤ rank q)

pub goes_towards : (old : List Window) (r : Registers) (k page i d l other j : ℕ) → IsPlace old r (at_entry k page i) → IsPlace old r (at_entry l other j)
    → 0 < d
    → 8192 * k + i + d ≤ 8192 * l + j
    → Towards old r (at_entry l other j) (at_entry k page i) (goes_to r k page (i + d))
goes_towards old r k page i d l other j p q some most =
    let low = p.1 in let high = q.1 in
    elim (cases_lt (i + d) (page_places r)) [
      | inl lt ↦ (
        at_entry k page (i + d),
        ap (λ b. cond b (Some (at_entry k page (i + d))) (following r k)) (lt-ltb (i + d) (page_places r) lt),
        (p.0, lt),
        omega arith,
        elim (cases_Bool (is_indirect r.baser0)) [
          | inl two ↦ let size = page_two r two in omega arith
          | inr flat ↦ let one = (p.0.flat flat).0 in let two = (q.0.flat flat).0 in omega arith
        ],
      )
      | inr le ↦ elim (cases_Bool (is_indirect r.baser0)) [
        | inl two ↦
            let size = page_two r two in
            let last = (q.0.two two).0 in (
              at_level1 (k + 1),
              ap (λ b. cond b (Some (at_entry k page (i + d))) (following r k)) (le-ltb (i + d) (page_places r) le) ∙ follows r k two (omega arith),
              (two, omega arith),
              omega arith,
              omega arith,
            )
        | inr flat ↦ let one = (p.0.flat flat).0 in let two = (q.0.flat flat).0 in absurd (omega arith)
      ]
    ]
