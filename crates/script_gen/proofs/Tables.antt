-- Between which addresses the tables of the script lie.
use Rattle.std.proofs.Common.{◌≡◌, ℕ, suc, ◌+◌, ◌-◌, ◌*◌, ◌^◌, ◌≤◌, min, true, false, not, cond, List, [], ◌∷◌, ◌++◌, length, map, Some, inl, inr, refl, sym}
use Rattle.std.proofs.Common.{ap, subst, ◌∙◌, arith, lit≤}
use Rattle.std.specs.Prelude.{slice_get, slice_index_or}
use Rattle.std.specs.List.{AllByRecursion, flat_map}
use Rattle.std.specs.Ordering.{nat_cmp}
use Rattle.std.specs.FinMap as finmap
use Rattle.std.specs.FinMap.{get-entries}
use Rattle.std.proofs.lemmas.Option.{same_Some}
use Rattle.guest_windows.specs.Windows.{Window}
use Rattle.gits_regs.specs.Registers.{Registers, is_valid, is_indirect, pages, table_base, size_of}
use Rattle.baser_place.specs.Places.{level1_entries}
use Rattle.its_types.specs.Bits.{field}
use Rattle.its_types.specs.Maps.{Maps}
use Rattle.its_types.specs.Ranges.{lpi_count}
use Rattle.its_types.specs.declared.translation.Bases.{Bases}
use Rattle.its_types.specs.declared.translation.Device.{Device}
use Rattle.its_plain.specs.Machine.{described_in, described_bases}
use Rattle.its_plain.specs.Plain.{Redistributor, no_redistributor}
use Rattle.its_plain.specs.declared.area.Area.{Area}
use Rattle.its_plain.specs.declared.fault.Region.TheVariants.{Devices, Collections, Config, Queue}
use Rattle.its_plain.specs.Regions.{device_areas, level1_areas, collection_areas, itt_area, itt_areas, queue_area, pending_area, areas_from}
use Rattle.standing_states.specs.Rises.{RisesFrom}
use Rattle.standing_states.proofs.Rises.{find_here, find_skips, map_rises}
use Rattle.script_gen.specs.Description.{shape, tables, at}
use Rattle.script_gen.proofs.Invariant.{IsEither, IsOwn, AreDevices}
use Rattle.script_gen.proofs.Lists.{all_weaker}
use Rattle.script_gen.proofs.Spread.{AllLie, Lies, AreSpread, AreApart}

-- areas between two addresses, which share no byte
pub record IsGroup (low high : ℕ) (areas : List Area) : Type 0 where
  pub lie : AllLie low high areas
  pub apart : AreSpread areas

no_group : (low high : ℕ) → IsGroup low high []
no_group low high = record { lie = tt; apart = tt }

one_group : (low high : ℕ) (a : Area) → low ≤ a.base → a.base + a.size ≤ high → IsGroup low high (a ∷ [])
one_group low high a above below = record { lie = (record { above = above; below = below }, tt); apart = (tt, tt) }

-- ---- tables that registers give

pub device_group : (r : Registers) (memory : List Window) → r.dev_bits ≡ 16 → IsEither 0x0107000000000200 0x8107000080000200 r.baser0
    → IsGroup 0x80000000 0x80010000 (device_areas 0 r memory)
unfolding device_areas
device_group r memory bits either =
    let P : ℕ → ℕ → Type 0 = λ n base. IsGroup 0x80000000 0x80010000 (cond (not (is_valid base)) []
    (cond (is_indirect base) (level1_areas 0 r memory) (record {
      region = Devices 0;
      base = table_base base;
      size = 65536 * min (pages base) (level1_entries n);
      is_written = true;
    } ∷ []))) in
    subst (λ n. P n r.baser0) (sym bits) (elim either [
      | inl is ↦ subst (P 16) (sym is) (no_group 0x80000000 0x80010000)
      | inr is ↦ subst (P 16) (sym is) (one_group 0x80000000 0x80010000 _ (lit≤ tt) (lit≤ tt))
    ])

pub flat : (base : ℕ) → IsEither 0x0107000000000200 0x8107000080000200 base → is_indirect base ≡ false
flat base (inl is) = ap is_indirect is
flat base (inr is) = ap is_indirect is

pub collection_group : (r : Registers) → IsEither 0x0407000000000200 0x8407000080010200 r.baser1 → IsGroup 0x80010000 0x80020000 (collection_areas 0 r)
collection_group r either =
    let P : ℕ → Type 0 = λ base. IsGroup 0x80010000 0x80020000 (cond (is_valid base)
    (record { region = Collections 0; base = table_base base; size = 65536 * min (pages base) 8; is_written = true } ∷ []) []) in
    elim either [
      | inl is ↦ subst P (sym is) (no_group 0x80010000 0x80020000)
      | inr is ↦ subst P (sym is) (one_group 0x80010000 0x80020000 _ (lit≤ tt) (lit≤ tt))
    ]

pub queue_group : (r : Registers) → IsEither 0 0x8000000080020000 r.cbaser → IsGroup 0x80020000 0x80021000 (queue_area 0 r)
queue_group r either =
    let P : ℕ → Type 0 = λ base. IsGroup 0x80020000 0x80021000 (cond (is_valid base)
    (record { region = Queue 0; base = field base 16 36 * 2 ^ 16; size = size_of base; is_written = false } ∷ []) []) in
    elim either [
      | inl is ↦ subst P (sym is) (no_group 0x80020000 0x80021000)
      | inr is ↦ subst P (sym is) (one_group 0x80020000 0x80021000 _ (lit≤ tt) (lit≤ tt))
    ]

-- ---- interrupt translation tables

abbrev OwnEntry : ℕ → ℕ × Device → Type 0
OwnEntry n e = IsOwn n e.0 e.1.bits e.1.itt.0

own_entries : (n i : ℕ) (es : List (ℕ × Device)) → RisesFrom i es
    → ((k : ℕ) (d : Device) → i ≤ k → finmap.find nat_cmp k es ≡ Some d → IsOwn n k d.bits d.itt.0) → AllByRecursion (OwnEntry n) es
own_entries n i [] rises h = tt
own_entries n i (e ∷ es) rises h = (
  h e.0 e.1 rises.0 (find_here e.0 e es refl),
  own_entries n (e.0 + 1) es rises.1 (λ k d le found. let low = rises.0 in h k d (omega arith) (find_skips k e es (λ same. omega arith) ∙ found)),
)

-- the table of device i, or of one after it, begins here or later
abbrev itts_from : ℕ → ℕ
itts_from i = 0x800C0000 + 0x200 * (i - 1)

itt_lies : (n : ℕ) (e : ℕ × Device) → OwnEntry n e → Lies (itts_from e.0) (itts_from (e.0 + 1)) (itt_area 0 e)
itt_lies n e own =
    let size : 8 * 2 ^ e.1.bits ≡ 512 = ap (λ b. 8 * 2 ^ b) own.bits_are in
    let start = own.itt_is in
    let first = own.first in
    record { above = omega arith; below = omega arith }

itts_lie : (n i : ℕ) (es : List (ℕ × Device)) → n ≤ 63 → RisesFrom i es → AllByRecursion (OwnEntry n) es
    → AllLie (itts_from i) 0x800C8000 (flat_map (λ d. itt_area 0 d ∷ []) es)
itts_lie n i [] most rises own = tt
itts_lie n i (e ∷ es) most rises own =
    let here = itt_lies n e own.0 in
    let last = own.0.last in
    let low = rises.0 in
    let above = here.above in
    let below = here.below in (
      record { above = omega arith; below = omega arith },
      all_weaker (Lies (itts_from (e.0 + 1)) 0x800C8000) (Lies (itts_from i) 0x800C8000)
          (λ a lies. let start = lies.above in record { above = omega arith; below = lies.below }) (flat_map (λ d. itt_area 0 d ∷ []) es)
          (itts_lie n (e.0 + 1) es most rises.1 own.1),
    )

itts_apart : (n i : ℕ) (es : List (ℕ × Device)) → n ≤ 63 → RisesFrom i es → AllByRecursion (OwnEntry n) es → AreSpread (flat_map (λ d. itt_area 0 d ∷ []) es)
itts_apart n i [] most rises own = tt
itts_apart n i (e ∷ es) most rises own =
    let here = itt_lies n e own.0 in
    let below = here.below in (
      all_weaker (Lies (itts_from (e.0 + 1)) 0x800C8000) (AreApart (itt_area 0 e)) (λ a lies. let start = lies.above in inl (omega arith))
          (flat_map (λ d. itt_area 0 d ∷ []) es) (itts_lie n (e.0 + 1) es most rises.1 own.1),
      itts_apart n (e.0 + 1) es most rises.1 own.1,
    )

pub itt_group : (n : ℕ) (m : Maps) → n ≤ 63 → AreDevices n m → IsGroup 0x800C0000 0x800C8000 (itt_areas 0 m)
itt_group n m most devices =
    let es = finmap.entries m.devices in
    let rises : RisesFrom 0 es = map_rises m.devices in
    let own : AllByRecursion (OwnEntry n) es = own_entries n 0 es rises (λ k d _ found. devices k d (get-entries m.devices k ∙ found)) in
    record { lie = itts_lie n 0 es most rises own; apart = itts_apart n 0 es most rises own }

-- ---- tables that the description gives

-- where the tables of each redistributor stand
pub bases_listed : (rs : List Redistributor) (bs : List Bases) → length rs ≡ length bs
    → ((v : ℕ) (r : Redistributor) → slice_get rs v ≡ Some r → slice_get bs v ≡ Some r.bases) → map (λ r. r.bases) rs ≡ bs
bases_listed [] [] count h = refl
bases_listed [] (b ∷ bs) count h = absurd (omega arith)
bases_listed (r ∷ rs) [] count h = absurd (omega arith)
bases_listed (r ∷ rs) (b ∷ bs) count h =
    let here : r.bases ≡ b = sym (same_Some b r.bases (h 0 r refl)) in
    ap (λ x. x ∷ map (λ (q : Redistributor). q.bases) rs) here ∙ ap (λ xs. b ∷ xs) (bases_listed rs bs (omega arith) (λ v q e. h (suc v) q e))

-- no more than that is asked for
abbrev idle : Bases → Redistributor
idle b = record { bases = b; pending = []; accepts = b.on; config = [] }

pending_by_bases : (v : ℕ) (rs : List Redistributor)
    → areas_from (pending_area shape) v rs ≡ areas_from (pending_area shape) v (map idle (map (λ r. r.bases) rs))
pending_by_bases v [] = refl
pending_by_bases v (r ∷ rs) = ap (λ areas. pending_area shape v r ++ areas) (pending_by_bases (suc v) rs)

four_apart : IsGroup 0x80040000 0x80080000 (areas_from (pending_area shape) 0 (map idle (described_in tables)))
four_apart = record {
  lie = (
    record { above = lit≤ tt; below = lit≤ tt },
    (record { above = lit≤ tt; below = lit≤ tt }, (record { above = lit≤ tt; below = lit≤ tt }, (record { above = lit≤ tt; below = lit≤ tt }, tt))),
  );
  apart = (
    (inl (lit≤ tt), (inl (lit≤ tt), (inl (lit≤ tt), tt))),
    ((inl (lit≤ tt), (inl (lit≤ tt), tt)), ((inl (lit≤ tt), tt), (tt, tt))),
  );
}

pub pending_group : (rs : List Redistributor) → map (λ r. r.bases) rs ≡ described_in tables
    → IsGroup 0x80040000 0x80080000 (areas_from (pending_area shape) 0 rs)
pending_group rs bases =
    subst (IsGroup 0x80040000 0x80080000) (sym (pending_by_bases 0 rs ∙ ap (λ bs. areas_from (pending_area shape) 0 (map idle bs)) bases)) four_apart

first_config : (rs : List Redistributor) → map (λ r. r.bases) rs ≡ described_in tables → (slice_index_or rs 0 no_redistributor).bases.prop.table.0 ≡ 0x80030000
first_config [] e = absurd cc
first_config (r ∷ rs) e = let here : r.bases ≡ described_bases (at 0x80030000) (at 0x80040000) = cc in ap (λ (b : Bases). b.prop.table.0) here

pub config_group : (rs : List Redistributor) → map (λ r. r.bases) rs ≡ described_in tables
    → IsGroup 0x80030000 0x8003E000 (record {
      region = Config;
      base = (slice_index_or rs 0 no_redistributor).bases.prop.table.0;
      size = lpi_count 16;
      is_written = false;
    } ∷ [])
config_group rs bases =
    let P : ℕ → Type 0 = λ base. IsGroup 0x80030000 0x8003E000 (record { region = Config; base = base; size = lpi_count 16; is_written = false } ∷ []) in
    subst P (sym (first_config rs bases)) (one_group 0x80030000 0x8003E000 _ (lit≤ tt) (lit≤ tt))
