-- A state that the script reaches can be saved: its tables lie in memory, and share no byte.
use Rattle.std.proofs.Common.{◌≡◌, ℕ, ◌/◌, ◌<◌, ◌≤◌, false, not, is_some, List, [], ◌∷◌, ◌++◌, append-nil, length, map, cond, None, Ok, refl, sym, ap, ◌∙◌}
use Rattle.std.proofs.Common.{arith, lit≤}
use Rattle.std.specs.Prelude.{find, slice_get, slice_index_or}
use Rattle.std.specs.List.{AllByRecursion}
use Rattle.std.specs.FinMap.{entries}
use Rattle.std.proofs.lemmas.Bool.{and_left}
use Rattle.guest_windows.specs.Windows.{Window, extent}
use Rattle.gits_regs.specs.Registers.{is_indirect}
use Rattle.baser_place.specs.Places.{page_of, level1_of}
use Rattle.its_types.specs.Ranges.{lpi_count}
use Rattle.its_types.specs.declared.translation.Device.{Device}
use Rattle.its_plain.specs.Machine.{layout_of, described_in}
use Rattle.its_plain.specs.Plain.{Plain, Translator, Redistributor, no_translator, no_redistributor, translator, regs_of, maps_of}
use Rattle.its_plain.specs.Sound.{IsSound}
use Rattle.its_plain.specs.Regions.{device_areas, collection_areas, itt_areas, table_areas, tables_of, areas_of, areas_from, pending_area, config_area}
use Rattle.its_plain.specs.Regions.{config_areas, queue_area, queue_areas, each_areas, is_outside, has_no_place, all_placed, none_overlap, savable}
use Rattle.its_plain.specs.Saved.{IsSavable}
use Rattle.its_plain.specs.declared.area.Area.{Area}
use Rattle.its_plain.specs.declared.fault.Region.TheVariants.{Config}
use Rattle.its_plain.specs.declared.layout.Layout.{Layout}
use Rattle.plain_soundness.proofs.States.{translator_sound}
use Rattle.script_gen.specs.Description.{description, shape, tables}
use Rattle.script_gen.proofs.Invariant.{IsKept, extents}
use Rattle.script_gen.proofs.Lists.{all_append, all_weaker, find_none}
use Rattle.script_gen.proofs.Memory.{inside_one}
use Rattle.script_gen.proofs.Spread.{AllLie, Lies, AreSpread, AreOutOf, out_below, out_above, with_group, none_shared}
use Rattle.script_gen.proofs.Tables.{IsGroup, device_group, collection_group, queue_group, itt_group, pending_group, config_group, bases_listed, flat}

-- ---- groups one after another

-- tables lie in memory
lies_inside : (memory : List Window) (low high : ℕ) (areas : List Area) → map extent memory ≡ extents → 0x80000000 ≤ low → high ≤ 0x80200000
    → AllLie low high areas
    → AllByRecursion (λ a. is_outside memory a ≡ false) areas
lies_inside memory low high areas one starts ends lie =
    all_weaker (Lies low high) (λ a. is_outside memory a ≡ false) (λ a lies.
    let start = lies.above in
    let end = lies.below in
    ap not (inside_one memory 0x80000000 0x200000 a.base a.size one (omega arith) (omega arith))) areas lie

-- the areas of a state, each in its group
pub record AreGroups (devices collections itts pending config queue : List Area) : Type 0 where
  pub devices_lie : IsGroup 0x80000000 0x80010000 devices
  pub collections_lie : IsGroup 0x80010000 0x80020000 collections
  pub itts_lie : IsGroup 0x800C0000 0x800C8000 itts
  pub pending_lie : IsGroup 0x80040000 0x80080000 pending
  pub config_lies : IsGroup 0x80030000 0x8003E000 config
  pub queue_lies : IsGroup 0x80020000 0x80021000 queue

module _ (ds cs is ps fs qs : List Area) (h : AreGroups ds cs is ps fs qs) where
  ds_out : (low high : ℕ) → 0x80010000 ≤ low → AreOutOf low high ds
  ds_out low high le = out_below 0x80000000 0x80010000 low high ds le h.devices_lie.lie

  tables_out : (low high : ℕ) → 0x80020000 ≤ low → high ≤ 0x800C0000 → AreOutOf low high ((ds ++ cs) ++ is)
  tables_out low high le ge =
      all_append _ (ds ++ cs) is (all_append _ ds cs (ds_out low high (omega arith)) (out_below 0x80010000 0x80020000 low high cs le h.collections_lie.lie))
      (out_above 0x800C0000 0x800C8000 low high is ge h.itts_lie.lie)

  tables_spread : AreSpread ((ds ++ cs) ++ is)
  tables_spread =
      with_group 0x800C0000 0x800C8000 (ds ++ cs) is
      (all_append _ ds cs (ds_out 0x800C0000 0x800C8000 (lit≤ tt)) (out_below 0x80010000 0x80020000 0x800C0000 0x800C8000 cs (lit≤ tt) h.collections_lie.lie))
      (with_group 0x80010000 0x80020000 ds cs (ds_out 0x80010000 0x80020000 (lit≤ tt)) h.devices_lie.apart h.collections_lie.lie h.collections_lie.apart)
      h.itts_lie.lie h.itts_lie.apart

  with_pending : AreSpread (((ds ++ cs) ++ is) ++ ps)
  with_pending = with_group 0x80040000 0x80080000 ((ds ++ cs) ++ is) ps (tables_out 0x80040000 0x80080000 (lit≤ tt) (lit≤ tt)) tables_spread h.pending_lie.lie
      h.pending_lie.apart

  pending_out : (low high : ℕ) → 0x80020000 ≤ low → high ≤ 0x80040000 → AreOutOf low high (((ds ++ cs) ++ is) ++ ps)
  pending_out low high le ge = all_append _ ((ds ++ cs) ++ is) ps (tables_out low high le (omega arith))
      (out_above 0x80040000 0x80080000 low high ps ge h.pending_lie.lie)

  with_config : AreSpread ((((ds ++ cs) ++ is) ++ ps) ++ fs)
  with_config = with_group 0x80030000 0x8003E000 (((ds ++ cs) ++ is) ++ ps) fs (pending_out 0x80030000 0x8003E000 (lit≤ tt) (lit≤ tt)) with_pending
      h.config_lies.lie h.config_lies.apart

  pub all_spread : AreSpread (((((ds ++ cs) ++ is) ++ ps) ++ fs) ++ qs)
  all_spread =
      with_group 0x80020000 0x80021000 ((((ds ++ cs) ++ is) ++ ps) ++ fs) qs
      (all_append _ (((ds ++ cs) ++ is) ++ ps) fs (pending_out 0x80020000 0x80021000 (lit≤ tt) (lit≤ tt))
      (out_above 0x80030000 0x8003E000 0x80020000 0x80021000 fs (lit≤ tt) h.config_lies.lie))
      with_config h.queue_lies.lie h.queue_lies.apart

  pub all_inside : (memory : List Window) → map extent memory ≡ extents → AllByRecursion (λ a. is_outside memory a ≡ false) ((ds ++ cs) ++ is)
  all_inside memory one =
      all_append _ (ds ++ cs) is
      (all_append _ ds cs (lies_inside memory 0x80000000 0x80010000 ds one (lit≤ tt) (lit≤ tt) h.devices_lie.lie)
      (lies_inside memory 0x80010000 0x80020000 cs one (lit≤ tt) (lit≤ tt) h.collections_lie.lie))
      (lies_inside memory 0x800C0000 0x800C8000 is one (lit≤ tt) (lit≤ tt) h.itts_lie.lie)

-- ---- the parts of a state

only_one : (ts : List Translator) → length ts ≡ 1 → ts ≡ slice_index_or ts 0 no_translator ∷ []
only_one [] e = absurd cc
only_one (t ∷ []) e = refl
only_one (t ∷ s ∷ ts) e = absurd (omega arith)

places_all : (memory : List Window) (t : Translator) → is_indirect t.regs.baser0 ≡ false → all_placed memory 0 (t ∷ []) ≡ Ok tt
places_all memory t flat =
    let none : find (has_no_place t.regs memory) (entries t.maps.devices) ≡ None = find_none (has_no_place t.regs memory) (entries t.maps.devices)
    (each (entries t.maps.devices)) in
    rw none refl
  where
    each : (es : List (ℕ × Device)) → AllByRecursion (λ d. has_no_place t.regs memory d ≡ false) es
    each [] = tt
    each (d ∷ es) = (and_left (is_indirect t.regs.baser0) (not (is_some (page_of (level1_of t.regs memory (d.0 / 8192))))) flat, each es)

abbrev fixed : Layout
fixed = record { shape = shape; gicr = false; described = described_in tables; track = false }

layout_is : layout_of description ≡ fixed
unfolding description
layout_is = refl

bases_are : (u : Plain) → IsSound u → u.layout ≡ fixed → map (λ r. r.bases) u.redistributors ≡ described_in tables
bases_are u sound layout =
    bases_listed u.redistributors (described_in tables) (sound.vcpus ∙ ap (λ (l : Layout). l.shape.vcpus) layout)
    (λ v r there. sym (ap (λ (l : Layout). slice_get l.described v) layout) ∙ (sound.redistributors v r there).described (ap (λ (l : Layout). l.gicr) layout))

abbrev config_at : List Redistributor → List Area
config_at rs = record { region = Config; base = (slice_index_or rs 0 no_redistributor).bases.prop.table.0; size = lpi_count 16; is_written = false } ∷ []

config_is : (u : Plain) → u.layout ≡ fixed → config_areas u ≡ config_at u.redistributors
config_is u layout =
    ap (λ (l : Layout). cond l.gicr (areas_from (config_area l.shape) 0 u.redistributors)
    (record {
      region = Config;
      base = (slice_index_or u.redistributors 0 no_redistributor).bases.prop.table.0;
      size = lpi_count l.shape.lpi_bits;
      is_written = false;
    } ∷ [])) layout

-- the areas of one translator and the redistributors
tables_with : List Window → Translator → List Area
tables_with memory t = (device_areas 0 t.regs memory ++ collection_areas 0 t.regs) ++ itt_areas 0 t.maps

tables_are : (u : Plain) (t : Translator) → u.translators ≡ t ∷ [] → tables_of u ≡ tables_with u.memory t
unfolding table_areas tables_with
tables_are u t one = ap (λ ts. each_areas (table_areas u.memory) 0 ts) one ∙ append-nil ((device_areas 0 t.regs u.memory ++ collection_areas 0 t.regs)
    ++ itt_areas 0 t.maps)

areas_are : (u : Plain) (t : Translator) → u.translators ≡ t ∷ [] → u.layout ≡ fixed
    → areas_of u ≡ ((tables_with u.memory t ++ areas_from (pending_area shape) 0 u.redistributors) ++ config_at u.redistributors) ++ queue_area 0 t.regs
unfolding areas_of
areas_are u t one layout =
    let rs = u.redistributors in
    let queues : each_areas queue_areas 0 u.translators ≡ queue_area 0 t.regs = ap (λ ts. each_areas queue_areas 0 ts) one
    ∙ append-nil (queue_area 0 t.regs) in
    ap (λ areas. ((areas ++ areas_from (pending_area u.layout.shape) 0 rs) ++ config_areas u) ++ each_areas queue_areas 0 u.translators) (tables_are u t one)
    ∙ ap (λ (l : Layout). ((tables_with u.memory t ++ areas_from
    (pending_area l.shape) 0 rs) ++ config_areas u) ++ each_areas queue_areas 0 u.translators) layout
    ∙ ap (λ areas. ((tables_with u.memory t ++ areas_from (pending_area shape) 0 rs) ++ areas) ++ each_areas queue_areas 0 u.translators) (config_is u layout)
    ∙ ap (λ areas. ((tables_with u.memory t ++ areas_from (pending_area shape) 0 rs) ++ config_at rs) ++ areas) queues

groups_are : (n : ℕ) (u : Plain) → n ≤ 63 → IsKept n u → u.layout ≡ fixed
    → AreGroups (device_areas 0 (regs_of u 0) u.memory) (collection_areas 0 (regs_of u 0)) (itt_areas 0 (maps_of u 0))
    (areas_from (pending_area shape) 0 u.redistributors) (config_at u.redistributors) (queue_area 0 (regs_of u 0))
groups_are n u most h layout =
    let within : 0 < length u.translators = omega (arith, h.one) in
    let bits : (regs_of u 0).dev_bits ≡ 16 = (translator_sound u 0 h.sound within).dev_bits ∙ ap (λ (l : Layout). l.shape.dev_bits) layout in
    let bases = bases_are u h.sound layout in record {
      devices_lie = device_group (regs_of u 0) u.memory bits h.regs.baser0;
      collections_lie = collection_group (regs_of u 0) h.regs.baser1;
      itts_lie = itt_group n (maps_of u 0) most h.devices;
      pending_lie = pending_group u.redistributors bases;
      config_lies = config_group u.redistributors bases;
      queue_lies = queue_group (regs_of u 0) h.regs.cbaser;
    }

pub savable_kept : (n : ℕ) (u : Plain) → n ≤ 63 → IsKept n u → IsSavable u
unfolding savable tables_with
savable_kept n u most h =
    let layout : u.layout ≡ fixed = h.layout ∙ layout_is in
    let t : Translator = translator u 0 in
    let one : u.translators ≡ t ∷ [] = only_one u.translators h.one in
    let groups = groups_are n u most h layout in
    let inside_all : find (is_outside u.memory) (tables_of u) ≡ None =
    ap (find (is_outside u.memory)) (tables_are u t one) ∙ find_none (is_outside u.memory) (tables_with u.memory t)
    (all_inside _ _ _ _ _ _ groups u.memory h.windows) in
    let placed : all_placed u.memory 0 u.translators ≡ Ok tt = ap (all_placed u.memory 0) one ∙ places_all u.memory t (flat t.regs.baser0 h.regs.baser0) in
    let apart : none_overlap (areas_of u) ≡ Ok tt = ap none_overlap (areas_are u t one layout) ∙ none_shared _ (all_spread _ _ _ _ _ _ groups) in
    rw (inside_all, placed) apart
