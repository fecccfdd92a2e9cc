-- The pending tables and the configurations of redistributors, as saved memory has them.
use Rattle.std.proofs.Common.{◌≡◌, ℕ, ◌+◌, ◌-◌, ◌*◌, ◌/◌, ◌%◌, ◌^◌, ◌<◌, ◌≤◌, Bool, true, false, cond, nat_lt, nat_le, List, [], ◌∷◌, map, length, Option}
use Rattle.std.proofs.Common.{Some, None, is_some, refl, sym, subst, ap, ◌∙◌, inl, inr, arith}
use Rattle.std.specs.Prelude.{◌&&◌, slice_get, unwrap_or}
use Rattle.std.specs.List.{AllByRecursion, list_all}
use Rattle.std.proofs.lemmas.Bool.{and_parts, ltb-true, leb-true, cases_Bool, cond_both}
use Rattle.std.proofs.lemmas.Nat.{pow-add}
use Rattle.byteorder.specs.Endian.{little_bytes}
use Rattle.guest_windows.proofs.Bytes.{byte_read}
use Rattle.guest_windows.specs.Windows.{Window, inside, read_at, byte_at, extent, in_range, share_no_byte}
use Rattle.guest_windows.proofs.Laws.{is_some-read_at}
use Rattle.baser_place.specs.Places.{entry_address}
use Rattle.its_types.specs.Bits.{bit_of}
use Rattle.its_types.specs.Lpis.{is_pending, pending_byte}
use Rattle.its_types.specs.Ranges.{is_lpi, lpi_count, pending_bytes}
use Rattle.gicr_regs.specs.Redistributors.{config_in}
use Rattle.its_plain.specs.Plain.{Plain, Redistributor, conf_of, with_conf}
use Rattle.its_plain.specs.Sound.{IsSound, IsRedistributor}
use Rattle.its_plain.specs.Saved.{words_of, saved, pending_word, reloaded, moved, IsSavable}
use Rattle.its_plain.specs.Stands.{is_set, ArePendingIn, IsRedistributorIn}
use Rattle.plain_soundness.proofs.Lists.{set_has}
use Rattle.plain_soundness.proofs.Migrated.{migrations_keep}
use Rattle.saved_state.specs.Laws.{RedistributorsStand}
use Rattle.saved_state.proofs.Written.{tables_inside}
use Rattle.saved_state.proofs.Found.{HasBytes, pending_found}
use Rattle.saved_state.proofs.Bytes.{byte_bit, pending_byte_of}

-- ---- pending LPIs

whole : (bits : ℕ) → 14 ≤ bits → 8 * 2 ^ (bits - 3) ≡ 2 ^ bits
whole bits least = let split : bits ≡ 3 + (bits - 3) = omega arith in sym (ap (λ k. 2 ^ k) split ∙ pow-add 2 3 (bits - 3))

eights : (bits : ℕ) → 14 ≤ bits → pending_bytes bits ≡ 8 * 2 ^ (bits - 6)
eights bits least = let split : bits - 3 ≡ 3 + (bits - 6) = omega arith in ap (λ k. 2 ^ k) split ∙ pow-add 2 3 (bits - 6)

module _ (memory : List Window) (base bits : ℕ) (pending : List ℕ) (least : 14 ≤ bits) (apart : share_no_byte (map extent memory) ≡ true)
    (found : (i : ℕ) → i < (pending_bytes bits - 1024) / 8 → read_at memory (entry_address (base + 1024) i) 8 ≡ Some
    (little_bytes 8 (pending_word pending (1024 + 8 * i)))) where
  bit_there : (n i k : ℕ) → 1024 ≤ n → n < pending_bytes bits → i ≡ (n - 1024) / 8 → k ≡ (n - 1024) % 8
      → byte_at memory (base + n) ≡ Some (pending_byte n pending)
  bit_there n i k low high row at =
      let multiple = eights bits least in
      let below : i < (pending_bytes bits - 1024) / 8 = omega (arith, multiple) in
      let small : k < 8 = omega arith in
      let place : base + n ≡ entry_address (base + 1024) i + k = omega arith in
      let number : 1024 + 8 * i + k ≡ n = omega arith in
      ap (byte_at memory) place
      ∙ byte_read memory (entry_address (base + 1024) i) 8 k (little_bytes 8 (pending_word pending (1024 + 8 * i))) apart (found i below) small
      ∙ ap Some (pending_byte_of pending (1024 + 8 * i) k small ∙ ap (λ m. pending_byte m pending) number)

  set_there : (intid : ℕ) → 8192 ≤ intid → intid < 2 ^ bits → is_set memory base intid ≡ is_pending intid pending
  set_there intid low high =
      let all = whole bits least in
      let place : 8 * (intid / 8) + intid % 8 ≡ intid = omega arith in
      ap (λ (o : Option ℕ). bit_of (unwrap_or o 0) (intid % 8)) (bit_there (intid / 8) ((intid / 8 - 1024) / 8) ((intid / 8 - 1024) % 8) (omega arith)
      (omega (arith, all)) refl refl)
      ∙ byte_bit pending (intid / 8) (intid % 8) (omega arith)
      ∙ ap (λ y. is_pending y pending) place

  pub are_there : AllByRecursion (λ intid. is_lpi bits intid ≡ true) pending → (intid : ℕ) → is_pending intid pending ≡ is_lpi bits intid
      && is_set memory base intid
  are_there lpis intid =
      elim (cases_Bool (is_lpi bits intid)) [
        | inl is ↦
            let both = and_parts (nat_le 8192 intid) (nat_lt intid (2 ^ bits)) is in
            sym (ap (λ (b : Bool). b && is_set memory base intid) is ∙ set_there intid (leb-true 8192 intid both.0) (ltb-true intid (2 ^ bits) both.1))
        | inr isnt ↦
            elim (cases_Bool (is_pending intid pending)) [
              | inl there ↦ absurd (let lpi = set_has (λ x. is_lpi bits x ≡ true) intid pending lpis there in let two : true ≡ false = sym lpi ∙ isnt in cc)
              | inr gone ↦ gone ∙ sym (ap (λ (b : Bool). b && is_set memory base intid) isnt)
            ]
      ]

-- ---- a redistributor

some_is : (o : Option (List ℕ)) (d : List ℕ) → is_some o ≡ true → o ≡ Some (unwrap_or o d)
some_is None d e = absurd cc
some_is (Some bytes) d e = refl

pub saved_apart : (u : Plain) → IsSound u → share_no_byte (map extent (saved u)) ≡ true
unfolding moved
saved_apart u sound =
    let windows = (migrations_keep u sound).memory in
    let es = map extent (saved u) in
    (and_parts (nat_lt 0 (length es) && nat_le (length es) 16 && list_all in_range es) (share_no_byte es) windows).1

pub saved_inside : (u : Plain) (b n : ℕ) → inside (saved u) b n ≡ inside u.memory b n
saved_inside u b n = tables_inside u.memory (words_of u) b n

module _ (u : Plain) (v : ℕ) (r : Redistributor) (sound : IsSound u) (savable : IsSavable u) (at : slice_get u.redistributors v ≡ Some r) where
  fits : IsRedistributor u.layout u.memory v r
  fits = sound.redistributors v r at

  pending_at : r.bases.on ≡ true → (i : ℕ) → i < (pending_bytes u.layout.shape.lpi_bits - 1024) / 8
      → read_at (saved u) (entry_address (r.bases.pend.table.0 + 1024) i) 8 ≡ Some (little_bytes 8 (pending_word r.pending (1024 + 8 * i)))
  pending_at on =
      let all = subst (λ (b : Bool). AllByRecursion (HasBytes (saved u))
      (cond b (record {
        base = r.bases.pend.table.0 + 1024;
        count = (pending_bytes u.layout.shape.lpi_bits - 1024) / 8;
        word = λ i. pending_word r.pending (1024 + 8 * i);
      } ∷ []) [])) on (pending_found u v r sound savable at) in
      all.0

  pending_is : r.bases.on ≡ true → ArePendingIn u.layout.shape.lpi_bits (saved u) r.bases.pend.table.0 r.pending
  pending_is on = record {
    rising = fits.rising;
    are = are_there (saved u) r.bases.pend.table.0 u.layout.shape.lpi_bits r.pending sound.layout.shape.least_lpi_bits (saved_apart u sound)
        (pending_at on) fits.lpis;
  }

  when_on : r.bases.on ≡ true → IsRedistributorIn u.layout.shape (saved u) r.bases
      (record r { config = unwrap_or (read_at (saved u) r.bases.prop.table.0 (lpi_count u.layout.shape.lpi_bits)) r.config })
  when_on on = record {
    bases = refl;
    accepts = fits.accepts;
    config = λ _.
        some_is (read_at (saved u) r.bases.prop.table.0 (lpi_count u.layout.shape.lpi_bits)) r.config
        (is_some-read_at (saved u) r.bases.prop.table.0 (lpi_count u.layout.shape.lpi_bits) ∙ saved_inside u r.bases.prop.table.0
        (lpi_count u.layout.shape.lpi_bits) ∙ (fits.tables on).config);
    pending = λ _. pending_is on;
    off_config = λ off. absurd (let two : true ≡ false = sym on ∙ off in cc);
    off_pending = λ off. absurd (let two : true ≡ false = sym on ∙ off in cc);
  }

  when_off : r.bases.on ≡ false → IsRedistributorIn u.layout.shape (saved u) r.bases r
  when_off off = record {
    bases = refl;
    accepts = fits.accepts;
    config = λ on. absurd (let two : true ≡ false = sym on ∙ off in cc);
    pending = λ on. absurd (let two : true ≡ false = sym on ∙ off in cc);
    off_config = λ _. fits.off_config off;
    off_pending = λ _. fits.off_pending off;
  }

  stands : IsRedistributorIn u.layout.shape (saved u) r.bases (reloaded u.layout.shape (saved u) r)
  stands =
      cond_both r.bases.on (record (conf_of r) { config = config_in u.layout.shape (saved u) (conf_of r) }) (conf_of r)
      (λ c. IsRedistributorIn u.layout.shape (saved u) r.bases (with_conf c r)) when_on when_off

pub redistributors_stand : RedistributorsStand
redistributors_stand u v r sound savable at = stands u v r sound savable at
