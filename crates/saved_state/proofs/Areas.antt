-- The tables that a save writes are the areas that it tests.
use Rattle.std.proofs.Common.{◌≡◌, ℕ, zero, suc, ◌+◌, ◌-◌, ◌*◌, ◌/◌, ◌^◌, ◌≤◌, Bool, true, false, not, cond, List, [], ◌∷◌, ◌++◌, map, Option, Some, None}
use Rattle.std.proofs.Common.{refl, sym, ap, ◌∙◌, arith}
use Rattle.std.specs.List.{AllByRecursion, flat_map}
use Rattle.std.specs.FinMap.{entries}
use Rattle.std.proofs.lemmas.List.{map-append}
use Rattle.std.proofs.lemmas.Nat.{pow-add}
use Rattle.guest_windows.specs.Windows.{Window, inside}
use Rattle.gits_regs.specs.Registers.{Registers, is_valid, is_indirect, table_base}
use Rattle.baser_place.specs.Places.{level1_entries, level1_of, page_of}
use Rattle.its_types.specs.Maps.{Maps}
use Rattle.its_types.specs.Ranges.{pending_bytes}
use Rattle.its_types.specs.declared.machine.Shape.{Shape}
use Rattle.its_types.specs.declared.translation.Device.{Device}
use Rattle.its_plain.specs.Plain.{Translator, Redistributor}
use Rattle.its_plain.specs.declared.area.Area.{Area}
use Rattle.its_plain.specs.declared.fault.Region.TheVariants.{Devices, Collections, Pending}
use Rattle.its_plain.specs.Regions.{device_pages, collection_pages, page_area, pages_below, level1_areas, device_areas, collection_areas, itt_area, itt_areas}
use Rattle.its_plain.specs.Regions.{table_areas, each_areas, pending_area, areas_from}
use Rattle.its_plain.specs.Saved.{Words, page_words, pages_words, device_words, collection_words, itt_words, translator_words, pending_words, device_word}
use Rattle.its_plain.specs.Saved.{collection_word, event_word, pending_word}
use Rattle.saved_state.proofs.Tests.{span, written_spans, AllInside}

abbrev pub stretch : Words → ℕ × ℕ
stretch t = (t.base, 8 * t.count)

abbrev pub stretches : List Words → List (ℕ × ℕ)
stretches ts = map stretch ts

pub written_append : (xs ys : List Area) → written_spans (xs ++ ys) ≡ written_spans xs ++ written_spans ys
written_append [] ys = refl
written_append (x ∷ xs) ys =
    elim x.is_written as (λ w. cond w (span x ∷ written_spans (xs ++ ys)) (written_spans (xs ++ ys)) ≡ cond w (span x ∷ written_spans xs) (written_spans xs)
    ++ written_spans ys) [
      | true ↦ ap (λ ss. span x ∷ ss) (written_append xs ys)
      | false ↦ written_append xs ys
    ]

-- two parts that are alike
both_alike : (xs ys : List Area) (ts us : List Words) → written_spans xs ≡ stretches ts → written_spans ys ≡ stretches us → written_spans (xs ++ ys) ≡ stretches
    (ts ++ us)
both_alike xs ys ts us one two = written_append xs ys ∙ ap (λ ss. ss ++ written_spans ys) one ∙ ap (λ ss. stretches ts ++ ss) two
    ∙ sym (map-append stretch ts us)

pub all_left : {X : Type 0} (P : X → Type 0) (xs ys : List X) → AllByRecursion P (xs ++ ys) → AllByRecursion P xs
all_left P [] ys all = tt
all_left P (x ∷ xs) ys all = (all.0, all_left P xs ys all.1)

pub all_right : {X : Type 0} (P : X → Type 0) (xs ys : List X) → AllByRecursion P (xs ++ ys) → AllByRecursion P ys
all_right P [] ys all = all
all_right P (x ∷ xs) ys all = all_right P xs ys all.1

pub all_both : {X : Type 0} (P : X → Type 0) (xs ys : List X) → AllByRecursion P xs → AllByRecursion P ys → AllByRecursion P (xs ++ ys)
all_both P [] ys one two = two
all_both P (x ∷ xs) ys one two = (one.0, all_both P xs ys one.1 two)

-- ---- a translator

one_page : (i : ℕ) (m : Maps) (k : ℕ) (o : Option ℕ) → written_spans (page_area i k o) ≡ stretches (page_words m k o)
one_page i m k None = refl
one_page i m k (Some base) = refl

pages_alike : (i : ℕ) (t : Translator) (memory : List Window) (n : ℕ) → written_spans (pages_below i t.regs memory n) ≡ stretches (pages_words t memory n)
pages_alike i t memory zero = refl
pages_alike i t memory (suc n) =
    both_alike (pages_below i t.regs memory n) (page_area i n (page_of (level1_of t.regs memory n))) (pages_words t memory n)
    (page_words t.maps n (page_of (level1_of t.regs memory n)))
    (pages_alike i t memory n) (one_page i t.maps n (page_of (level1_of t.regs memory n)))

flat_size : (pages : ℕ) → 65536 * pages ≡ 8 * (8192 * pages)
flat_size pages = omega arith

level1_alike : (i : ℕ) (t : Translator) (memory : List Window) → inside memory (table_base t.regs.baser0) (8 * level1_entries t.regs.dev_bits) ≡ true
    → written_spans (level1_areas i t.regs memory) ≡ stretches (pages_words t memory (level1_entries t.regs.dev_bits))
level1_alike i t memory h =
    ap (λ (b : Bool). written_spans (cond b (pages_below i t.regs memory (level1_entries t.regs.dev_bits)) [])) h ∙ pages_alike i t memory
    (level1_entries t.regs.dev_bits)

abbrev flat_area : ℕ → Registers → Area
flat_area i r = record { region = Devices i; base = table_base r.baser0; size = 65536 * device_pages r; is_written = true }

abbrev flat_words : Translator → Words
flat_words s = record { base = table_base s.regs.baser0; count = 8192 * device_pages s.regs; word = device_word s.maps }

devices_alike : (k : ℕ) (t : Translator) (memory : List Window) → AllInside memory (device_areas k t.regs memory) → written_spans (device_areas k t.regs memory)
    ≡ stretches
    (device_words t memory)
unfolding device_areas device_words
devices_alike k t memory =
    elim (is_valid t.regs.baser0) as (λ v.
    AllInside memory (cond (not v) [] (cond (is_indirect t.regs.baser0) (level1_areas k t.regs memory) (flat_area k t.regs ∷ [])))
    → written_spans (cond (not v) [] (cond (is_indirect t.regs.baser0) (level1_areas k t.regs memory) (flat_area k t.regs ∷ [])))
    ≡ stretches (cond (not v) [] (cond (is_indirect t.regs.baser0) (pages_words t memory (level1_entries t.regs.dev_bits)) (flat_words t ∷ [])))) [
      | true ↦ elim (is_indirect t.regs.baser0) as (λ i.
          AllInside memory (cond i (level1_areas k t.regs memory) (flat_area k t.regs ∷ []))
          → written_spans (cond i (level1_areas k t.regs memory) (flat_area k t.regs ∷ [])) ≡ stretches
          (cond i (pages_words t memory (level1_entries t.regs.dev_bits)) (flat_words t ∷ []))) [
            | true ↦ λ all. level1_alike k t memory all.0
            | false ↦ λ all. ap (λ (n : ℕ). (table_base t.regs.baser0, n) ∷ []) (flat_size (device_pages t.regs))
          ]
      | false ↦ λ all. refl
    ]

collections_alike : (s : Shape) (i : ℕ) (t : Translator) → written_spans (collection_areas i t.regs) ≡ stretches (collection_words s t)
collections_alike s i t =
    elim (is_valid t.regs.baser1) as (λ v.
    written_spans (cond v (record { region = Collections i; base = table_base t.regs.baser1; size = 65536 * collection_pages t.regs; is_written = true } ∷ []) [])
    ≡ stretches (cond v (record { base = table_base t.regs.baser1; count = 8192 * collection_pages t.regs; word = collection_word s t } ∷ []) [])) [
      | true ↦ ap (λ (n : ℕ). (table_base t.regs.baser1, n) ∷ []) (flat_size (collection_pages t.regs))
      | false ↦ refl
    ]

itts_alike : (i : ℕ) (m : Maps) (ds : List (ℕ × Device))
    → written_spans (flat_map (λ d. itt_area i d ∷ []) ds) ≡ stretches
    (flat_map (λ d. record { base = d.1.itt.0; count = 2 ^ d.1.bits; word = event_word m d.0 } ∷ []) ds)
itts_alike i m [] = refl
itts_alike i m (d ∷ ds) = ap (λ ss. (d.1.itt.0, 8 * 2 ^ d.1.bits) ∷ ss) (itts_alike i m ds)

translator_alike : (s : Shape) (memory : List Window) (k : ℕ) (t : Translator) → AllInside memory (table_areas memory k t) → written_spans (table_areas memory k t)
    ≡ stretches
    (translator_words s memory t)
unfolding table_areas translator_words
translator_alike s memory k t all =
    let d = device_areas k t.regs memory in
    let c = collection_areas k t.regs in
    let i = itt_areas k t.maps in
    let front = all_left (λ a. inside memory a.base a.size ≡ true) (d ++ c) i all in
    both_alike (d ++ c) i (device_words t memory ++ collection_words s t) (itt_words t.maps)
    (both_alike d c (device_words t memory) (collection_words s t) (devices_alike k t memory (all_left (λ a. inside memory a.base a.size ≡ true) d c front))
    (collections_alike s k t))
    (itts_alike k t.maps (entries t.maps.devices))

pub translators_alike : (s : Shape) (memory : List Window) (k : ℕ) (ts : List Translator) → AllInside memory (each_areas (table_areas memory) k ts)
    → written_spans (each_areas (table_areas memory) k ts) ≡ stretches (flat_map (translator_words s memory) ts)
translators_alike s memory k [] all = refl
translators_alike s memory k (t ∷ ts) all =
    let P : Area → Type 0 = λ a. inside memory a.base a.size ≡ true in
    both_alike (table_areas memory k t) (each_areas (table_areas memory) (suc k) ts) (translator_words s memory t) (flat_map (translator_words s memory) ts)
    (translator_alike s memory k t (all_left P (table_areas memory k t) (each_areas (table_areas memory) (suc k) ts) all))
    (translators_alike s memory (suc k) ts (all_right P (table_areas memory k t) (each_areas (table_areas memory) (suc k) ts) all))

-- ---- redistributors

whole_words : (bits : ℕ) → 14 ≤ bits → pending_bytes bits - 1024 ≡ 8 * ((pending_bytes bits - 1024) / 8)
whole_words bits least =
    let split : bits - 3 ≡ 3 + (bits - 6) = omega arith in
    let eights : 2 ^ (bits - 3) ≡ 8 * 2 ^ (bits - 6) = ap (λ k. 2 ^ k) split ∙ pow-add 2 3 (bits - 6) in
    omega (arith, eights)

redistributor_alike : (s : Shape) (v : ℕ) (r : Redistributor) → 14 ≤ s.lpi_bits → written_spans (pending_area s v r) ≡ stretches (pending_words s r)
redistributor_alike s v r least =
    elim r.bases.on as (λ on.
    written_spans (cond on (record {
      region = Pending (record { 0 = v });
      base = r.bases.pend.table.0 + 1024;
      size = pending_bytes s.lpi_bits - 1024;
      is_written = true;
    } ∷ []) [])
    ≡ stretches (cond on (record {
      base = r.bases.pend.table.0 + 1024;
      count = (pending_bytes s.lpi_bits - 1024) / 8;
      word = λ i. pending_word r.pending (1024 + 8 * i);
    } ∷ []) [])) [
      | true ↦ ap (λ (n : ℕ). (r.bases.pend.table.0 + 1024, n) ∷ []) (whole_words s.lpi_bits least)
      | false ↦ refl
    ]

pub redistributors_alike : (s : Shape) (v : ℕ) (rs : List Redistributor) → 14 ≤ s.lpi_bits → written_spans (areas_from (pending_area s) v rs) ≡ stretches
    (flat_map (pending_words s) rs)
redistributors_alike s v [] least = refl
redistributors_alike s v (r ∷ rs) least =
    both_alike (pending_area s v r) (areas_from (pending_area s) (suc v) rs) (pending_words s r) (flat_map (pending_words s) rs)
    (redistributor_alike s v r least) (redistributors_alike s (suc v) rs least)
