-- Configurations that are read again from two memories which have the bytes in common.
use Rattle.std.proofs.Common.{◌≡◌, ℕ, suc, ◌+◌, ◌-◌, ◌^◌, ◌<◌, Bool, true, false, cond, List, [], ◌∷◌, ◌++◌, map, Option, Some, None, refl, sym, ap, subst, ◌∙◌}
use Rattle.std.proofs.Common.{arith}
use Rattle.std.specs.Prelude.{nat_lt, nat_le, slice_get, slice_index, unwrap_or}
use Rattle.std.specs.List.{AllByRecursion}
use Rattle.std.specs.Option.{option_map}
use Rattle.std.proofs.lemmas.Bool.{and_parts, leb-true, ltb-true}
use Rattle.guest_windows.specs.Windows.{Window, inside, read_at, byte_at, extent, share_no_byte}
use Rattle.guest_windows.proofs.Bytes.{byte_read}
use Rattle.guest_windows.proofs.Laws.{read_inside}
use Rattle.gicr_regs.specs.Redistributors.{Redistributor, ConfState, conf_of, with_conf, conf_with_byte, conf_reread_at, conf_all_reread_at, all_reread_at}
use Rattle.its_types.specs.Ranges.{is_lpi, lpi_count}
use Rattle.its_types.specs.declared.machine.Shape.{Shape}
use Rattle.its_types.specs.declared.translation.Bases.{Bases}
use Rattle.step_views.specs.Laws.{HasSameBytes}
use Rattle.step_views.specs.Reads.{byte_read as byte_reading, byte_reads, table_read, table_reads}

pub split_all : {X : Type 0} (P : X → Type 0) (xs ys : List X) → AllByRecursion P (xs ++ ys) → AllByRecursion P xs × AllByRecursion P ys
split_all P [] ys h = (tt, h)
split_all P (x ∷ xs) ys h = let rest = split_all P xs ys h.1 in ((h.0, rest.0), rest.1)

module _ (memory now : List Window) where
  -- ---- the byte of one LPI

  byte_same : (intid : ℕ) (r : ConfState) → AllByRecursion (HasSameBytes memory now) (byte_reading intid r)
      → conf_reread_at now intid r ≡ conf_reread_at memory intid r
  unfolding conf_reread_at
  byte_same intid r h =
      let a : ℕ = r.bases.prop.table.0 + (intid - 8192) in
      elim r.bases.on as (λ b. AllByRecursion (HasSameBytes memory now) (cond b ((a, 1) ∷ []) [])
      → cond b (conf_with_byte intid r (byte_at now a)) r ≡ cond b (conf_with_byte intid r (byte_at memory a)) r) [
        | true ↦ λ same. ap (λ (o : Option (List ℕ)). conf_with_byte intid r (option_map (λ bytes. slice_index bytes 0) o)) same.0
        | false ↦ λ same. refl
      ] h

  pub bytes_same : (intid : ℕ) (rs : List Redistributor) → AllByRecursion (HasSameBytes memory now) (byte_reads intid rs)
      → map (all_reread_at now (intid ∷ [])) rs ≡ map (all_reread_at memory (intid ∷ [])) rs
  bytes_same intid [] h = refl
  bytes_same intid (r ∷ rs) h =
      let both = split_all (HasSameBytes memory now) (byte_reading intid (conf_of r)) (byte_reads intid rs) h in
      ap (λ (x : ConfState). with_conf x r ∷ map (all_reread_at now (intid ∷ [])) rs) (byte_same intid (conf_of r) both.0)
      ∙ ap (λ (xs : List Redistributor). all_reread_at memory (intid ∷ []) r ∷ xs) (bytes_same intid rs both.1)

-- ---- whole tables

bases_stay : (memory : List Window) (intid : ℕ) (r : ConfState) → (conf_reread_at memory intid r).bases ≡ r.bases
unfolding conf_reread_at
bases_stay memory intid r =
    elim r.bases.on as (λ b. (cond b (conf_with_byte intid r (byte_at memory (r.bases.prop.table.0 + (intid - 8192)))) r).bases ≡ r.bases) [
      | true ↦ by (byte_at memory (r.bases.prop.table.0 + (intid - 8192)))
      | false ↦ refl
    ]
  where
    by : (o : Option ℕ) → (conf_with_byte intid r o).bases ≡ r.bases
    by None = refl
    by (Some byte) = refl

-- the byte of an LPI lies in its table
in_table : (bits intid : ℕ) → is_lpi bits intid ≡ true → intid - 8192 < lpi_count bits
in_table bits intid lpi =
    let both = and_parts (nat_le 8192 intid) (nat_lt intid (2 ^ bits)) lpi in
    let low = leb-true 8192 intid both.0 in
    let high = ltb-true intid (2 ^ bits) both.1 in
    omega (arith, low, high)

module _ (s : Shape) (memory now : List Window) (before : share_no_byte (map extent memory) ≡ true) (after : share_no_byte (map extent now) ≡ true) where
  -- where LPIs are on, the table lies in one window, and is the same in both
  abbrev HasSameTable : Bases → Type 0
  HasSameTable b = b.on ≡ true → (inside memory b.prop.table.0 (lpi_count s.lpi_bits) ≡ true)
      × (read_at now b.prop.table.0 (lpi_count s.lpi_bits) ≡ read_at memory b.prop.table.0 (lpi_count s.lpi_bits))

  one_same : (intid : ℕ) → is_lpi s.lpi_bits intid ≡ true → (r : ConfState) → HasSameTable r.bases
      → conf_reread_at now intid r ≡ conf_reread_at memory intid r
  unfolding conf_reread_at
  one_same intid lpi r h =
      let base : ℕ = r.bases.prop.table.0 in
      let n : ℕ = lpi_count s.lpi_bits in
      let a : ℕ = base + (intid - 8192) in
      elim r.bases.on as (λ b. r.bases.on ≡ b → cond b (conf_with_byte intid r (byte_at now a)) r ≡ cond b (conf_with_byte intid r (byte_at memory a)) r) [
        | true ↦ λ on.
            let t = h on in
            let there : read_at memory base n ≡ Some (unwrap_or (read_at memory base n) []) = read_inside memory base n [] t.0 in
            let lt = in_table s.lpi_bits intid lpi in
            ap (conf_with_byte intid r) (byte_read now base n (intid - 8192) (unwrap_or (read_at memory base n) []) after (t.1 ∙ there) lt
            ∙ sym (byte_read memory base n (intid - 8192) (unwrap_or (read_at memory base n) []) before there lt))
        | false ↦ λ off. refl
      ] refl

  all_same : (intids : List ℕ) → AllByRecursion (λ intid. is_lpi s.lpi_bits intid ≡ true) intids → (r : ConfState) → HasSameTable r.bases
      → conf_all_reread_at now intids r ≡ conf_all_reread_at memory intids r
  all_same [] lpis r h = refl
  all_same (x ∷ xs) lpis r h =
      ap (conf_all_reread_at now xs) (one_same x lpis.0 r h)
      ∙ all_same xs lpis.1 (conf_reread_at memory x r) (subst (λ (b : Bases). HasSameTable b) (sym (bases_stay memory x r)) h)

  same_table : (r : ConfState) → AllByRecursion (HasSameBytes memory now) (table_read s r)
      → (r.bases.on ≡ true → inside memory r.bases.prop.table.0 (lpi_count s.lpi_bits) ≡ true) → HasSameTable r.bases
  same_table r h there = λ on.
      (there on, (subst (λ (b : Bool). AllByRecursion (HasSameBytes memory now) (cond b ((r.bases.prop.table.0, lpi_count s.lpi_bits) ∷ []) [])) on h).0)

  pub tables_same : (intids : List ℕ) → AllByRecursion (λ intid. is_lpi s.lpi_bits intid ≡ true) intids → (rs : List Redistributor)
      → AllByRecursion (HasSameBytes memory now) (table_reads s rs)
      → ((v : ℕ) (r : Redistributor) → slice_get rs v ≡ Some r → r.bases.on ≡ true → inside memory r.bases.prop.table.0 (lpi_count s.lpi_bits) ≡ true)
      → map (all_reread_at now intids) rs ≡ map (all_reread_at memory intids) rs
  tables_same intids lpis [] h there = refl
  tables_same intids lpis (r ∷ rs) h there =
      let both = split_all (HasSameBytes memory now) (table_read s (conf_of r)) (table_reads s rs) h in
      ap (λ (x : ConfState). with_conf x r ∷ map (all_reread_at now intids) rs)
      (all_same intids lpis (conf_of r) (same_table (conf_of r) both.0 (there 0 r refl)))
      ∙ ap (λ (xs : List Redistributor). all_reread_at memory intids r ∷ xs) (tables_same intids lpis rs both.1 (λ v q is. there (suc v) q is))
