-- A device table that was saved, flat or of two levels, holds just the devices that are mapped.
use Rattle.std.proofs.Common.{◌≡◌, ◌⊎◌, ℕ, ◌+◌, ◌*◌, ◌/◌, ◌%◌, ◌^◌, ◌<◌, ◌≤◌, Bool, true, false, cond, nat_lt, List, Option, Some, None, refl, sym, subst}
use Rattle.std.proofs.Common.{ap, ◌∙◌, inl, inr, arith, ◌↔◌}
use Rattle.std.specs.Prelude.{◌==◌, ◌||◌, IsSome}
use Rattle.std.specs.Option.{option_and_then, option_map}
use Rattle.std.proofs.lemmas.Bool.{ne_eqb, lt-ltb, cases_eq, cases_Bool}
use Rattle.std.proofs.lemmas.Option.{same_Some}
use Rattle.its_types.specs.Bits.{bit_of}
use Rattle.guest_windows.specs.Windows.{Window, number_at}
use Rattle.gits_regs.specs.Registers.{Registers, is_valid, is_indirect, table_base}
use Rattle.baser_place.specs.Places.{entry_address, level1_entries, level1_address, page_address, level1_word, level1_of, page_of}
use Rattle.baser_place.specs.declared.entry.Level1.TheVariants.{Empty, Page}
use Rattle.table_entries.specs.Fields.{DeviceFields}
use Rattle.table_entries.specs.Words.{unpacked_device}
use Rattle.its_types.specs.Maps.{Maps, device_of}
use Rattle.its_types.specs.declared.translation.Device.{Device}
use Rattle.its_plain.specs.EventTables.{itt_of, IsIttClear}
use Rattle.its_plain.specs.DeviceTables.{DevicePlace, at_level1, at_entry, first_device, flat_size, page_places, id_of, following, goes_to, device_leads}
use Rattle.its_plain.specs.DeviceTables.{word_leads, next_device, DeviceReached, device_entry, device_of_fields, device_in, ends_well, IsDeviceClear}
use Rattle.its_plain.specs.DeviceTables.{AreDevicesClear, HasDevice}
use Rattle.its_plain.specs.Saved as saved
use Rattle.its_plain.specs.Saved.{device_word, device_after, distance}
use Rattle.saved_state.proofs.Small.{distance_most}
use Rattle.saved_state.proofs.Events.{distance_up}
use Rattle.saved_state.proofs.Paths.{stays_good}
use Rattle.saved_state.proofs.Chains.{IsChain, arrives}
use Rattle.saved_state.proofs.DevicePlaces.{unpacks_device, IsPlace, rank, page_two, page_flat, IsPage, follows, following_place, leads_place, ids_rise}
use Rattle.saved_state.proofs.DevicePlaces.{same_place, goes_towards, Towards}

-- ---- level-1 entries

-- a valid one leads to its page, and any other is passed over
level1_read : (old memory : List Window) (r : Registers) (k : ℕ) → number_at memory (level1_address r k) ≡ number_at old (level1_address r k)
    → IsSome (number_at old (level1_address r k))
    → ((page : ℕ) × (page_of (level1_of r old k) ≡ Some page) × (next_device memory r (at_level1 k) ≡ Some (at_entry k page 0)))
    ⊎ ((page_of (level1_of r old k) ≡ None) × (next_device memory r (at_level1 k) ≡ following r k))
unfolding level1_of
level1_read old memory r k same some =
    elim (number_at old (level1_address r k)) as (λ o. number_at memory (level1_address r k) ≡ o → IsSome o
    → ((page : ℕ) × (page_of (level1_word (level1_address r k) o) ≡ Some page) × (next_device memory r (at_level1 k) ≡ Some (at_entry k page 0)))
    ⊎ ((page_of (level1_word (level1_address r k) o) ≡ None) × (next_device memory r (at_level1 k) ≡ following r k))) [
      | None ↦ λ e is. absurd cc
      | Some word ↦ λ e is.
          let leads = ap (option_and_then (word_leads r (at_level1 k))) e in
          elim (cases_Bool (bit_of word 63)) [
            | inl valid ↦ inl (
              page_address word,
              ap (λ b. page_of (cond b (Page (record { 0 = page_address word })) Empty)) valid,
              leads
                  ∙ ap (λ b. cond b (Some (at_entry k (page_address word) 0)) (following r k)) valid,
            )
            | inr invalid ↦ inr (
              ap (λ b. page_of (cond b (Page (record { 0 = page_address word })) Empty)) invalid,
              leads
                  ∙ ap (λ b. cond b (Some (at_entry k (page_address word) 0)) (following r k)) invalid,
            )
          ]
    ] same some

-- ---- the table

-- what is asked of a device that is mapped
pub record Fits (old : List Window) (r : Registers) (dev : ℕ) (d : Device) : Type 0 where
  pub two : is_indirect r.baser0 ≡ true → (dev / 8192 < level1_entries r.dev_bits) × ((page : ℕ) × (page_of (level1_of r old (dev / 8192)) ≡ Some page))
  pub flat : is_indirect r.baser0 ≡ false → dev < flat_size r
  pub least_bits : 1 ≤ d.bits
  pub most_bits : d.bits ≤ 16
  pub itt_whole : d.itt.0 % 256 ≡ 0
  pub itt_low : d.itt.0 < 2 ^ 52

pub record IsStored (old memory : List Window) (lpi_bits : ℕ) (r : Registers) (m : Maps) : Type 0 where
  pub some_entries : 1 ≤ level1_entries r.dev_bits
  pub some_places : 1 ≤ flat_size r
  pub level1 : is_indirect r.baser0 ≡ true → (k : ℕ) → k < level1_entries r.dev_bits
      → (number_at memory (level1_address r k) ≡ number_at old (level1_address r k)) × IsSome (number_at old (level1_address r k))
  pub found : (k page i : ℕ) → IsPage old r k page → i < page_places r → number_at memory (entry_address page i) ≡ Some (device_word m (8192 * k + i))
  pub fits : (dev : ℕ) (d : Device) → device_of m dev ≡ Some d → Fits old r dev d
  pub linked : IsChain (device_of m) (device_after m)
  pub itts : (dev : ℕ) (d : Device) → device_of m dev ≡ Some d → IsIttClear memory lpi_bits (itt_of dev d)

abbrev fields : Maps → ℕ → Device → DeviceFields
fields m dev d = record { next = distance 16383 dev (device_after m dev); itt = d.itt.0; bits = d.bits }

abbrev seen : Maps → ℕ → Option Device → Option DeviceFields
seen m dev o = option_map (fields m dev) o

module _ (old memory : List Window) (lpi_bits : ℕ) (r : Registers) (m : Maps) (valid : is_valid r.baser0 ≡ true) (h : IsStored old memory lpi_bits r m) where
  entry_is : (dev : ℕ) (o : Option Device) → ((d : Device) → o ≡ Some d → Fits old r dev d) → unpacked_device (saved.device_entry dev o (device_after m dev))
      ≡ seen m dev o
  entry_is dev None fit = refl
  entry_is dev (Some d) fit =
      let f = fit d refl in
      let far = distance_most 16383 dev (device_after m dev) in
      let most = f.most_bits in
      unpacks_device (distance 16383 dev (device_after m dev)) d.itt.0 d.bits (omega arith) f.itt_whole f.itt_low f.least_bits (omega arith)

  word_is : (dev : ℕ) → unpacked_device (device_word m dev) ≡ seen m dev (device_of m dev)
  unfolding device_word
  word_is dev = entry_is dev (device_of m dev) (h.fits dev)

  entry_at : (k page i : ℕ) → IsPlace old r (at_entry k page i) → device_entry memory (at_entry k page i) ≡ seen m (8192 * k + i) (device_of m (8192 * k + i))
  entry_at k page i p = ap (option_and_then unpacked_device) (h.found k page i p.0 p.1) ∙ word_is (8192 * k + i)

  next_at : (k page i : ℕ) → IsPlace old r (at_entry k page i) → next_device memory r (at_entry k page i) ≡ device_leads r k page i
      (seen m (8192 * k + i) (device_of m (8192 * k + i)))
  next_at k page i p = ap (option_and_then (word_leads r (at_entry k page i))) (h.found k page i p.0 p.1) ∙ ap (device_leads r k page i)
      (word_is (8192 * k + i))

  back_again : (dev : ℕ) (o : Option Device) → option_map device_of_fields (seen m dev o) ≡ o
  back_again dev None = refl
  back_again dev (Some d) = refl

  device_at : (k page i : ℕ) → IsPlace old r (at_entry k page i) → device_in memory (at_entry k page i) ≡ device_of m (8192 * k + i)
  device_at k page i p = ap (option_map device_of_fields) (entry_at k page i p) ∙ back_again (8192 * k + i) (device_of m (8192 * k + i))

  -- ---- places that are reached

  some_places : 0 < page_places r
  some_places = elim (cases_Bool (is_indirect r.baser0)) [
    | inl two ↦ let size = page_two r two in omega arith
    | inr flat ↦ let size = page_flat r flat in let some = h.some_places in omega arith
  ]

  opened : (k page : ℕ) → IsPlace old r (at_level1 k) → page_of (level1_of r old k) ≡ Some page → IsPlace old r (at_entry k page 0)
  opened k page p is = (record { two = λ _. (p.1, is); flat = λ flat. absurd (let both : true ≡ false = sym p.0 ∙ flat in cc) }, some_places)

  keeps : (p q : DevicePlace) → IsPlace old r p → next_device memory r p ≡ Some q → IsPlace old r q
  keeps (at_level1 k) q p e =
      let l = h.level1 p.0 k p.1 in
      elim (level1_read old memory r k l.0 l.1) [
        | inl a ↦ subst (IsPlace old r) (same_Some (at_entry k a.0 0) q (sym a.2 ∙ e)) (opened k a.0 p a.1)
        | inr b ↦ following_place old r k q (sym b.1 ∙ e)
      ]
  keeps (at_entry k page i) q p e = leads_place old r k page i (seen m (8192 * k + i) (device_of m (8192 * k + i))) q p.0 (sym (next_at k page i p) ∙ e)

  starts : IsPlace old r (first_device r)
  starts =
      elim (is_indirect r.baser0) as (λ b. is_indirect r.baser0 ≡ b → IsPlace old r (cond b (at_level1 0) (at_entry 0 (table_base r.baser0) 0))) [
        | true ↦ λ two. let some = h.some_entries in (two, omega arith)
        | false ↦ λ flat. (record { two = λ two. absurd (let both : true ≡ false = sym two ∙ flat in cc); flat = λ _. (refl, refl) }, some_places)
      ] refl

  start_rank : rank (first_device r) ≤ 1
  start_rank = elim (is_indirect r.baser0) as (λ b. rank (cond b (at_level1 0) (at_entry 0 (table_base r.baser0) 0)) ≤ 1) [
    | true ↦ omega arith
    | false ↦ omega
        arith
  ]

  reached_place : (p : DevicePlace) → DeviceReached memory r p → IsPlace old r p
  reached_place p is = stays_good (next_device memory r) (IsPlace old r) keeps (first_device r) p starts is

  -- ---- the walk arrives at each device

  module _ (l other j : ℕ) (d : Device) (q : IsPlace old r (at_entry l other j)) (mapped : device_of m (8192 * l + j) ≡ Some d) where
    leads_far : (k page i : ℕ) (x : Device) (n : ℕ) → IsPlace old r (at_entry k page i) → device_of m (8192 * k + i) ≡ Some x
        → device_after m (8192 * k + i) ≡ Some n → 0 < distance 16383 (8192 * k + i) (Some n)
        → next_device memory r (at_entry k page i) ≡ goes_to r k page (i + distance 16383 (8192 * k + i) (Some n))
    leads_far k page i x n p at after some =
        next_at k page i p
        ∙ ap (λ (o : Option Device). device_leads r k page i (seen m (8192 * k + i) o)) at
        ∙ ap (λ (o : Option ℕ). cond (distance 16383 (8192 * k + i) o == 0) None (goes_to r k page (i + distance 16383 (8192 * k + i) o))) after
        ∙ ap (λ (b : Bool). cond b None (goes_to r k page (i + distance 16383 (8192 * k + i) (Some n))))
        (ne_eqb (distance 16383 (8192 * k + i) (Some n)) 0 (λ e. omega arith))

    moved : (p : DevicePlace) (o : Option DevicePlace) → next_device memory r p ≡ o → Towards old r (at_entry l other j) p o
        → Towards old r (at_entry l other j) p (next_device memory r p)
    moved p o e t = (t.0, e ∙ t.1, t.2, t.3, t.4)

    step_after : (k page i : ℕ) (x : Device) → IsPlace old r (at_entry k page i) → 8192 * k + i < 8192 * l + j → device_of m (8192 * k + i) ≡ Some x
        → (o : Option ℕ) → device_after m (8192 * k + i) ≡ o
        → Towards old r (at_entry l other j) (at_entry k page i) (next_device memory r (at_entry k page i))
    step_after k page i x p lt at None none = absurd (h.linked.last (8192 * k + i) (8192 * l + j) d none mapped lt)
    step_after k page i x p lt at (Some n) after =
        let up = h.linked.up (8192 * k + i) n after in
        let least = h.linked.least (8192 * k + i) n (8192 * l + j) d after mapped lt in
        let far = distance_up 16383 (8192 * k + i) n (omega arith) up in
        let most = far.1 in
        moved (at_entry k page i) (goes_to r k page (i + distance 16383 (8192 * k + i) (Some n))) (leads_far k page i x n p at after far.0)
        (goes_towards old r k page i (distance 16383 (8192 * k + i) (Some n)) l other j p q far.0 (omega arith))

    step_entry : (k page i : ℕ) → IsPlace old r (at_entry k page i) → 8192 * k + i < 8192 * l + j → Towards old r (at_entry l other j) (at_entry k page i)
        (next_device memory r (at_entry k page i))
    step_entry k page i p lt =
        elim (device_of m (8192 * k + i)) as (λ o. device_of m (8192 * k + i) ≡ o → Towards old r (at_entry l other j) (at_entry k page i)
        (next_device memory r (at_entry k page i))) [
          | None ↦ λ e.
              moved (at_entry k page i) (goes_to r k page (i + 1))
              (next_at k page i p ∙ ap (λ (o : Option Device). device_leads r k page i (seen m (8192 * k + i) o)) e)
              (goes_towards old r k page i 1 l other j p q (omega arith) (omega arith))
          | Some x ↦ λ e. step_after k page i x p lt e (device_after m (8192 * k + i)) refl
        ] refl

    step : (p : DevicePlace) → IsPlace old r p → rank p < rank (at_entry l other j) → Towards old r (at_entry l other j) p (next_device memory r p)
    step (at_level1 k) p lt =
        let size = page_two r p.0 in
        let high = q.1 in
        let page = q.0.two p.0 in
        let last = page.0 in
        let e = h.level1 p.0 k p.1 in
        elim (level1_read old memory r k e.0 e.1) [
          | inl a ↦ (at_entry k a.0 0, a.2, opened k a.0 p a.1, omega arith, omega arith)
          | inr b ↦
              elim (cases_eq k l) [
                | inl same ↦ absurd (let both : None ≡ Some other = sym b.0 ∙ ap (λ (n : ℕ). page_of (level1_of r old n)) same ∙ page.1 in cc)
                | inr apart ↦
                    let below : k + 1 ≤ l = omega (arith, apart) in
                    (at_level1 (k + 1), b.1 ∙ follows r k p.0 (omega arith), (p.0, omega arith), omega arith, omega arith)
              ]
        ]
    step (at_entry k page i) p lt = step_entry k page i p (ids_rise old r k page i l other j p q lt)

    reached : DeviceReached memory r (at_entry l other j)
    reached =
        let low = start_rank in
        arrives (next_device memory r) rank (IsPlace old r) (at_entry l other j) (λ p good e. same_place old r p l other j good q e) step
        (rank (at_entry l other j)) (first_device r) starts (omega arith) (omega arith)

  -- the place of a device
  place_of : (dev : ℕ) (d : Device) → device_of m dev ≡ Some d → (k : ℕ) × (page : ℕ) × (i : ℕ) × IsPlace old r (at_entry k page i) × (8192 * k + i ≡ dev)
  place_of dev d is =
      let f = h.fits dev d is in
      elim (cases_Bool (is_indirect r.baser0)) [
        | inl two ↦
            let size = page_two r two in
            let at = f.two two in (
              dev / 8192,
              at.1.0,
              dev % 8192,
              (
                record { two = λ _. (at.0, at.1.1); flat = λ flat. absurd (let both : true ≡ false = sym two ∙ flat in cc) },
                omega arith,
              ),
              omega arith,
            )
        | inr flat ↦
            let size = page_flat r flat in
            let low = f.flat flat in (
              0,
              table_base r.baser0,
              dev,
              (
                record { two = λ two. absurd (let both : true ≡ false = sym two ∙ flat in cc); flat = λ _. (refl, refl) },
                omega
                    arith,
              ),
              omega arith,
            )
      ]

  pub devices_are : (dev : ℕ) (d : Device) → (device_of m dev ≡ Some d) ↔ HasDevice memory r dev d
  devices_are dev d = (
    λ is.
        let at = place_of dev d is in
        let here : device_of m (8192 * at.0 + at.2) ≡ Some d = ap (device_of m) at.4 ∙ is in
        (valid, at_entry at.0 at.1 at.2, reached at.0 at.1 at.2 d at.3 here, at.4, device_at at.0 at.1 at.2 at.3 ∙ here),
    λ has. back has.1 (reached_place has.1 has.2) has.3 has.4,
  )
    where
      back : (p : DevicePlace) → IsPlace old r p → id_of p ≡ dev → device_in memory p ≡ Some d → device_of m dev ≡ Some d
      back (at_level1 k) p id is = absurd cc
      back (at_entry k page i) p id is = ap (device_of m) (sym id) ∙ sym (device_at k page i p) ∙ is

  -- ---- offences

  some_is : (o : Option ℕ) (x : ℕ) → o ≡ Some x → IsSome o
  some_is o x e = subst IsSome (sym e) refl

  next_low : (k page i : ℕ) → IsPlace old r (at_entry k page i) → is_indirect r.baser0 ≡ false → (o : Option ℕ) → device_after m (8192 * k + i) ≡ o
      → i + distance 16383 (8192 * k + i) o < flat_size r
  next_low k page i p flat None is = let size = page_flat r flat in let low = p.1 in omega arith
  next_low k page i p flat (Some n) is =
      let first = (p.0.flat flat).0 in
      let up = h.linked.up (8192 * k + i) n is in
      let at = h.linked.there (8192 * k + i) n is in
      let high = (h.fits n at.0 at.1).flat flat in
      let far = distance_up 16383 (8192 * k + i) n (omega arith) up in
      let most = far.1 in
      omega arith

  well : (k page i : ℕ) → IsPlace old r (at_entry k page i) → ends_well r i (distance 16383 (8192 * k + i) (device_after m (8192 * k + i))) ≡ true
  well k page i p =
      elim (cases_Bool (is_indirect r.baser0)) [
        | inl two ↦ ap (λ (b : Bool). b || nat_lt (i + distance 16383 (8192 * k + i) (device_after m (8192 * k + i))) (flat_size r)) two
        | inr flat ↦
            ap (λ (b : Bool). b || nat_lt (i + distance 16383 (8192 * k + i) (device_after m (8192 * k + i))) (flat_size r)) flat
            ∙ lt-ltb (i + distance 16383 (8192 * k + i) (device_after m (8192 * k + i))) (flat_size r)
            (next_low k page i p flat (device_after m (8192 * k + i)) refl)
      ]

  -- what holds of the fields of each device holds of an entry
  of_entry : (P : DeviceFields → Type 0) (dev : ℕ) (o : Option Device) (e : DeviceFields) → ((d : Device) → o ≡ Some d → P (fields m dev d))
      → seen m dev o ≡ Some e → P e
  of_entry P dev None e each is = absurd cc
  of_entry P dev (Some d) e each is = subst P (same_Some (fields m dev d) e is) (each d refl)

  place_clear : (p : DevicePlace) → IsPlace old r p → IsDeviceClear memory lpi_bits r p
  place_clear (at_level1 k) p =
      let l = h.level1 p.0 k p.1 in
      record { inside = subst IsSome (sym l.0) l.1; size = λ e is. absurd cc; itt = λ e is. absurd cc; ends = λ e is. absurd cc }
  place_clear (at_entry k page i) p =
      let dev : ℕ = 8192 * k + i in
      let at = entry_at k page i p in
      record {
        inside = some_is (number_at memory (entry_address page i)) (device_word m (8192 * k + i)) (h.found k page i p.0 p.1);
        size = λ e is. of_entry (λ f. f.bits ≤ 16) (8192 * k + i) (device_of m (8192 * k + i)) e (λ d there. (h.fits (8192 * k + i) d there).most_bits)
            (sym at ∙ is);
        itt = λ e is. of_entry (λ f. IsIttClear memory lpi_bits (itt_of (8192 * k + i) (device_of_fields f))) (8192 * k + i) (device_of m (8192 * k + i)) e
            (λ d there. h.itts (8192 * k + i) d there) (sym at ∙ is);
        ends = λ e is. of_entry (λ f. ends_well r i f.next ≡ true) (8192 * k + i) (device_of m (8192 * k + i)) e (λ d there. well k page i p) (sym at ∙ is);
      }

  pub devices_clear : AreDevicesClear memory lpi_bits r
  devices_clear _ p is = place_clear p (reached_place p is)
