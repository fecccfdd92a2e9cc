-- The device table of a translator, as saved memory has it.
use Rattle.std.proofs.Common.{◌≡◌, ℕ, zero, suc, ◌+◌, ◌-◌, ◌*◌, ◌/◌, ◌^◌, ◌<◌, ◌≤◌, Bool, true, false, not, cond, List, [], ◌∷◌, ◌++◌, Option, Some, None}
use Rattle.std.proofs.Common.{is_some, refl, sym, subst, ap, ◌∙◌, inl, inr, arith, ◌↔◌}
use Rattle.std.specs.Prelude.{◌&&◌, IsSome, slice_get}
use Rattle.std.specs.Option.{option_map}
use Rattle.std.specs.List.{AllByRecursion}
use Rattle.std.specs.FinMap.{entries, entries_sorted, get-entries}
use Rattle.std.proofs.lemmas.Bool.{ltb-true, cases_Bool, cases_eq}
use Rattle.std.proofs.lemmas.Nat.{pow-add, pow_pos}
use Rattle.std.proofs.lemmas.Option.{same_Some}
use Rattle.byteorder.specs.Endian.{little_number}
use Rattle.guest_windows.specs.Windows.{Window, inside, read_at, number_at}
use Rattle.guest_windows.proofs.Laws.{is_some-read_at}
use Rattle.gits_regs.specs.Registers.{Registers, is_valid, is_indirect, table_base}
use Rattle.baser_place.specs.Places.{entry_address, level1_entries, level1_address, level1_of, page_of}
use Rattle.its_types.specs.Maps.{Maps, device_of}
use Rattle.its_types.specs.declared.translation.Device.{Device}
use Rattle.its_plain.specs.Plain.{Plain, Translator}
use Rattle.its_plain.specs.Sound.{IsSound, IsTranslator}
use Rattle.its_plain.specs.declared.area.Area.{Area}
use Rattle.its_plain.specs.declared.fault.Region.TheVariants.{Devices, Level1}
use Rattle.its_plain.specs.Regions.{device_pages, pages_below, device_areas, collection_areas, itt_areas, table_areas, tables_of, areas_of, areas_from}
use Rattle.its_plain.specs.Regions.{pending_area, config_areas, queue_areas, each_areas, has_no_place}
use Rattle.its_plain.specs.Saved.{Words, saved, device_word, device_after, page_words, pages_words, device_words, collection_words, itt_words}
use Rattle.its_plain.specs.Saved.{translator_words, IsSavable}
use Rattle.its_plain.specs.DeviceTables.{flat_size, page_places, HasDevice, AreDevicesClear}
use Rattle.standing_states.proofs.Rises.{sorted_rises}
use Rattle.saved_state.specs.Laws.{DevicesStand}
use Rattle.saved_state.proofs.Areas.{all_left, all_right}
use Rattle.saved_state.proofs.Tests.{tested, AllPlaced, at_place}
use Rattle.saved_state.proofs.Written.{inside_part}
use Rattle.saved_state.proofs.Apart.{read_stays}
use Rattle.saved_state.proofs.Keyed.{found_listed}
use Rattle.saved_state.proofs.Found.{IsFound, all_by_place, translator_found}
use Rattle.saved_state.proofs.Chains.{IsChain, chain_of}
use Rattle.saved_state.proofs.DevicePlaces.{IsPage, page_flat, page_two}
use Rattle.saved_state.proofs.Devices.{Fits, IsStored, devices_are, devices_clear}
use Rattle.saved_state.proofs.Maps.{itt_is_clear}

-- ---- the first level

-- what is read of an area that isn't written
abbrev StaysRead : Plain → Area → Type 0
StaysRead u a = a.is_written ≡ false → (address n : ℕ) → a.base ≤ address → address + n ≤ a.base + a.size
    → read_at (saved u) address n ≡ read_at u.memory address n

all_stay : (u : Plain) → IsSound u → IsSavable u → AllByRecursion (StaysRead u) (areas_of u)
all_stay u sound savable = all_by_place (StaysRead u) (areas_of u) (λ k a at unwritten address n low high. read_stays u k a address n sound savable at unwritten
    low high)

-- what holds of all of a translator's tables holds of its device table
of_devices : (P : Area → Type 0) (memory : List Window) (i : ℕ) (ts : List Translator) (k : ℕ) (t : Translator)
    → AllByRecursion P (each_areas (table_areas memory) i ts) → slice_get ts k ≡ Some t → AllByRecursion P (device_areas (k + i) t.regs memory)
unfolding table_areas
of_devices P memory i [] k t all at = absurd cc
of_devices P memory i (s ∷ ts) zero t all at =
    let own = all_left P (table_areas memory i s) (each_areas (table_areas memory) (suc i) ts) all in
    let same : i ≡ 0 + i = omega arith in
    subst (λ (n : ℕ). AllByRecursion P (device_areas n t.regs memory)) same
    (subst (λ (x : Translator). AllByRecursion P (device_areas i x.regs memory)) (same_Some s t at)
    (all_left P (device_areas i s.regs memory) (collection_areas i s.regs) (all_left P (device_areas i s.regs memory ++ collection_areas i s.regs)
    (itt_areas i s.maps) own)))
of_devices P memory i (s ∷ ts) (suc k) t all at =
    let rest = all_right P (table_areas memory i s) (each_areas (table_areas memory) (suc i) ts) all in
    let same : k + suc i ≡ suc k + i = omega arith in
    subst (λ (n : ℕ). AllByRecursion P (device_areas n t.regs memory)) same (of_devices P memory (suc i) ts k t rest at)

abbrev level1_area : ℕ → Registers → Area
level1_area i r = record { region = Level1 i; base = table_base r.baser0; size = 8 * level1_entries r.dev_bits; is_written = false }

of_level1 : (P : Area → Type 0) (memory : List Window) (i : ℕ) (r : Registers) → is_valid r.baser0 ≡ true → is_indirect r.baser0 ≡ true
    → AllByRecursion P (device_areas i r memory) → P (level1_area i r)
unfolding device_areas
of_level1 P memory i r valid two all =
    let rest : List Area = cond (inside memory (table_base r.baser0) (8 * level1_entries r.dev_bits)) (pages_below i r memory (level1_entries r.dev_bits)) [] in
    let flat : List Area = record { region = Devices i; base = table_base r.baser0; size = 65536 * device_pages r; is_written = true } ∷ [] in
    let one = subst (λ (v : Bool). AllByRecursion P (cond (not v) [] (cond (is_indirect r.baser0) (level1_area i r ∷ rest) flat))) valid all in
    let here = subst (λ (b : Bool). AllByRecursion P (cond b (level1_area i r ∷ rest) flat)) two one in
    here.0

some_number : (o : Option (List ℕ)) → is_some o ≡ true → IsSome (option_map (λ bytes. little_number 8 bytes) o)
some_number None e = absurd cc
some_number (Some bytes) e = refl

-- ---- entries

flat_found : (memory old : List Window) (t : Translator) → is_valid t.regs.baser0 ≡ true → is_indirect t.regs.baser0 ≡ false
    → AllByRecursion (IsFound memory) (device_words t old)
    → (i : ℕ) → i < 8192 * device_pages t.regs → number_at memory (entry_address (table_base t.regs.baser0) i) ≡ Some (device_word t.maps i)
unfolding device_words
flat_found memory old t valid flat all =
    let table : List Words = record { base = table_base t.regs.baser0; count = 8192 * device_pages t.regs; word = device_word t.maps } ∷ [] in
    let paged : List Words = pages_words t old (level1_entries t.regs.dev_bits) in
    let one = subst (λ (v : Bool). AllByRecursion (IsFound memory) (cond (not v) [] (cond (is_indirect t.regs.baser0) paged table))) valid all in
    let here = subst (λ (i : Bool). AllByRecursion (IsFound memory) (cond i paged table)) flat one in
    here.0

paged_all : (memory old : List Window) (t : Translator) → is_valid t.regs.baser0 ≡ true → is_indirect t.regs.baser0 ≡ true
    → AllByRecursion (IsFound memory) (device_words t old)
    → AllByRecursion (IsFound memory) (pages_words t old (level1_entries t.regs.dev_bits))
unfolding device_words
paged_all memory old t valid two all =
    let table : List Words = record { base = table_base t.regs.baser0; count = 8192 * device_pages t.regs; word = device_word t.maps } ∷ [] in
    let paged : List Words = pages_words t old (level1_entries t.regs.dev_bits) in
    let one = subst (λ (v : Bool). AllByRecursion (IsFound memory) (cond (not v) [] (cond (is_indirect t.regs.baser0) paged table))) valid all in
    subst (λ (i : Bool). AllByRecursion (IsFound memory) (cond i paged table)) two one

page_found : (memory : List Window) (m : Maps) (k page : ℕ) (o : Option ℕ) → AllByRecursion (IsFound memory) (page_words m k o) → o ≡ Some page
    → (i : ℕ) → i < 8192 → number_at memory (entry_address page i) ≡ Some (device_word m (8192 * k + i))
page_found memory m k page o all is =
    let here = subst (λ (p : Option ℕ). AllByRecursion (IsFound memory) (page_words m k p)) is all in
    here.0

pages_found : (memory old : List Window) (t : Translator) (n k page : ℕ) → AllByRecursion (IsFound memory) (pages_words t old n) → k < n
    → page_of (level1_of t.regs old k) ≡ Some page
    → (i : ℕ) → i < 8192 → number_at memory (entry_address page i) ≡ Some (device_word t.maps (8192 * k + i))
pages_found memory old t zero k page all lt is = absurd (omega arith)
pages_found memory old t (suc n) k page all lt is =
    elim (cases_eq k n) [
      | inl same ↦
          page_found memory t.maps k page (page_of (level1_of t.regs old k))
          (subst (λ (l : ℕ). AllByRecursion (IsFound memory) (page_words t.maps l (page_of (level1_of t.regs old l)))) (sym same)
          (all_right (IsFound memory) (pages_words t old n) (page_words t.maps n (page_of (level1_of t.regs old n))) all)) is
      | inr apart ↦ pages_found memory old t n k page (all_left (IsFound memory) (pages_words t old n) (page_words t.maps n (page_of (level1_of t.regs old n)))
          all) (omega (arith, apart)) is
    ]

-- ---- the whole table

some_of : (o : Option ℕ) → is_some o ≡ true → (x : ℕ) × (o ≡ Some x)
some_of None e = absurd cc
some_of (Some x) e = (x, refl)

not_not : (b : Bool) → not b ≡ false → b ≡ true
not_not true e = refl
not_not false e = absurd cc

all_ids : (bits : ℕ) → 16 ≤ bits → 8192 * 2 ^ (bits - 13) ≡ 2 ^ bits
all_ids bits least = let split : bits ≡ 13 + (bits - 13) = omega arith in sym (ap (λ k. 2 ^ k) split ∙ pow-add 2 13 (bits - 13))

devices_linked : (m : Maps) → IsChain (device_of m) (device_after m)
devices_linked m = chain_of (device_of m) (device_after m) (entries m.devices) (sorted_rises (entries m.devices) (entries_sorted m.devices))
    (λ dev. get-entries m.devices dev) (λ dev. refl)

module _ (u : Plain) (k : ℕ) (t : Translator) (sound : IsSound u) (savable : IsSavable u) (at : slice_get u.translators k ≡ Some t) where
  own : IsTranslator u.layout.shape t
  own = sound.translators k t at

  words_there : AllByRecursion (IsFound (saved u)) (device_words t u.memory)
  unfolding translator_words
  words_there =
      let all = translator_found u k t sound savable at in
      let collections = collection_words u.layout.shape t in
      all_left (IsFound (saved u)) (device_words t u.memory) collections (all_left (IsFound (saved u)) (device_words t u.memory ++ collections)
      (itt_words t.maps) all)

  stays : is_valid t.regs.baser0 ≡ true → is_indirect t.regs.baser0 ≡ true → StaysRead u (level1_area (k + 0) t.regs)
  unfolding areas_of
  stays valid two =
      let tables = tables_of u in
      let pending = areas_from (pending_area u.layout.shape) 0 u.redistributors in
      let configs = config_areas u in
      let queues = each_areas queue_areas 0 u.translators in
      let all = all_left (StaysRead u) tables pending
      (all_left (StaysRead u) (tables ++ pending) configs (all_left (StaysRead u) (tables ++ pending ++ configs) queues (all_stay u sound savable))) in
      of_level1 (StaysRead u) u.memory (k + 0) t.regs valid two (of_devices (StaysRead u) u.memory 0 u.translators k t all at)

  level1_inside : is_valid t.regs.baser0 ≡ true → is_indirect t.regs.baser0 ≡ true → inside u.memory (table_base t.regs.baser0)
      (8 * level1_entries t.regs.dev_bits) ≡ true
  level1_inside valid two =
      of_level1 (λ a. inside u.memory a.base a.size ≡ true) u.memory (k + 0) t.regs valid two
      (of_devices (λ a. inside u.memory a.base a.size ≡ true) u.memory 0 u.translators k t (tested u savable).inside at)

  level1_kept : is_valid t.regs.baser0 ≡ true → is_indirect t.regs.baser0 ≡ true → (i : ℕ) → i < level1_entries t.regs.dev_bits
      → (number_at (saved u) (level1_address t.regs i) ≡ number_at u.memory (level1_address t.regs i)) × IsSome (number_at u.memory (level1_address t.regs i))
  level1_kept valid two i lt =
      let place = level1_inside valid two in (
        ap (option_map (λ bytes. little_number 8 bytes)) (stays valid two refl (level1_address t.regs i) 8 (omega arith) (omega (arith, lt))),
        some_number (read_at u.memory (level1_address t.regs i) 8)
            (is_some-read_at u.memory (level1_address t.regs i) 8 ∙ inside_part u.memory (table_base t.regs.baser0) (8 * level1_entries t.regs.dev_bits)
            (level1_address t.regs i) 8 (omega arith) (omega (arith, lt)) place),
      )

  entries_found : is_valid t.regs.baser0 ≡ true → (l page i : ℕ) → IsPage u.memory t.regs l page → i < page_places t.regs
      → number_at (saved u) (entry_address page i) ≡ Some (device_word t.maps (8192 * l + i))
  unfolding flat_size
  entries_found valid l page i is lt =
      elim (cases_Bool (is_indirect t.regs.baser0)) [
        | inl two ↦
            let size = page_two t.regs two in
            let of_page = is.two two in
            pages_found (saved u) u.memory t (level1_entries t.regs.dev_bits) l page (paged_all (saved u) u.memory t valid two words_there) of_page.0 of_page.1
            i (omega arith)
        | inr flat ↦
            let size = page_flat t.regs flat in
            let of_table = is.flat flat in
            let first = of_table.0 in
            let number : i ≡ 8192 * l + i = omega arith in
            ap (λ (b : ℕ). number_at (saved u) (entry_address b i)) of_table.1 ∙ flat_found (saved u) u.memory t valid flat words_there i (omega arith)
            ∙ ap (λ (n : ℕ). Some (device_word t.maps n)) number
      ]

  placed : (dev : ℕ) (d : Device) → device_of t.maps dev ≡ Some d → is_indirect t.regs.baser0 ≡ true → (page : ℕ)
      × (page_of (level1_of t.regs u.memory (dev / 8192)) ≡ Some page)
  placed dev d is two =
      let listed = found_listed (entries t.maps.devices) dev d (sym (get-entries t.maps.devices dev) ∙ is) in
      let all = at_place (AllPlaced u.memory) u.translators k t (tested u savable).placed at in
      let here = at_place (λ e. has_no_place t.regs u.memory e ≡ false) (entries t.maps.devices) listed.0 (dev, d) all listed.1 in
      let page = page_of (level1_of t.regs u.memory (dev / 8192)) in
      some_of (page_of (level1_of t.regs u.memory (dev / 8192))) (not_not (is_some (page_of (level1_of t.regs u.memory (dev / 8192))))
      (sym (ap (λ (b : Bool). b && not (is_some (page_of (level1_of t.regs u.memory (dev / 8192))))) two) ∙ here))

  devices_fit : (dev : ℕ) (d : Device) → device_of t.maps dev ≡ Some d → Fits u.memory t.regs dev d
  unfolding flat_size
  devices_fit dev d is =
      let h = own.devices dev d is in
      let low : dev < 2 ^ t.regs.dev_bits = ltb-true dev (2 ^ t.regs.dev_bits) h.in_range in
      let all = all_ids t.regs.dev_bits own.regs.least_bits in
      record {
        two = λ two. (omega (arith, low, all), placed dev d is two);
        flat = λ flat. let in_table = h.in_table flat in omega (arith, low, all, in_table);
        least_bits = h.least_bits;
        most_bits = h.most_bits;
        itt_whole = h.itt_whole;
        itt_low = h.itt_low;
      }

  stored : is_valid t.regs.baser0 ≡ true → IsStored u.memory (saved u) u.layout.shape.lpi_bits t.regs t.maps
  unfolding flat_size
  stored valid =
      let some : 0 < 2 ^ (t.regs.dev_bits - 13) = pow_pos (t.regs.dev_bits - 13) in
      record {
        some_entries = omega arith;
        some_places = omega arith;
        level1 = level1_kept valid;
        found = entries_found valid;
        fits = devices_fit;
        linked = devices_linked t.maps;
        itts = λ dev d is. itt_is_clear u k t sound savable at dev d is;
      }

  clear : AreDevicesClear (saved u) u.layout.shape.lpi_bits t.regs
  clear valid = devices_clear u.memory (saved u) u.layout.shape.lpi_bits t.regs t.maps valid (stored valid) valid

  are : (dev : ℕ) (d : Device) → (device_of t.maps dev ≡ Some d) ↔ HasDevice (saved u) t.regs dev d
  are dev d =
      let both : is_valid t.regs.baser0 ≡ true → (device_of t.maps dev ≡ Some d) ↔ HasDevice (saved u) t.regs dev d =
      λ valid. devices_are u.memory (saved u) u.layout.shape.lpi_bits t.regs t.maps valid (stored valid) dev d in
      (λ e. (both (own.devices dev d e).table).0 e, λ h. (both h.0).1 h)

pub devices_stand : DevicesStand
devices_stand u k t sound savable at = record { clear = clear u k t sound savable at; are = are u k t sound savable at }
