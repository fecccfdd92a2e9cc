-- The tables that a save writes lie in memory and share no byte: what it wrote is read again.
use Rattle.std.proofs.Common.{◌≡◌, ℕ, zero, suc, ◌+◌, ◌-◌, ◌*◌, ◌^◌, ◌<◌, ◌≤◌, true, false, cond, List, [], ◌∷◌, ◌++◌, append-nil, Some, refl, sym, subst, ap}
use Rattle.std.proofs.Common.{◌∙◌, arith}
use Rattle.std.specs.Prelude.{slice_get}
use Rattle.std.specs.List.{AllByRecursion, flat_map}
use Rattle.std.proofs.Math.Pow.{pow_mono}
use Rattle.std.proofs.lemmas.List.{map-append}
use Rattle.std.proofs.lemmas.Option.{same_Some}
use Rattle.byteorder.specs.Endian.{little_bytes}
use Rattle.baser_place.specs.Places.{entry_address}
use Rattle.guest_windows.specs.Windows.{Window, inside, read_at}
use Rattle.gits_regs.specs.Registers.{Registers, is_valid, queue_base, queue_size}
use Rattle.its_types.specs.Ranges.{lpi_count, pending_bytes}
use Rattle.its_types.specs.declared.machine.Shape.{Shape}
use Rattle.its_plain.specs.Plain.{Plain, Translator, Redistributor, redistributor}
use Rattle.its_plain.specs.Sound.{IsSound, HasTables}
use Rattle.its_plain.specs.declared.area.Area.{Area}
use Rattle.its_plain.specs.declared.fault.Region.TheVariants.{Pending, Config, ConfigOf, Queue}
use Rattle.its_plain.specs.Regions.{areas_of, tables_of, areas_from, pending_area, config_area, config_areas, queue_area, queue_areas, each_areas}
use Rattle.its_plain.specs.Saved.{Words, words_of, translator_words, pending_words, saved, IsSavable}
use Rattle.saved_state.specs.Laws.{WordsReadBack, OtherBytesStay, ReadAreasStay}
use Rattle.saved_state.proofs.Tests.{tested, AllInside, written_spans, span, Avoids, AllAvoid, all_avoid, read_avoid, others_avoid}
use Rattle.saved_state.proofs.Areas.{stretch, stretches, written_append, translators_alike, redistributors_alike, all_both}
use Rattle.saved_state.proofs.Small.{AreSmall, all_small}
use Rattle.saved_state.proofs.Written.{Spares, CanStand, AreApart, spares_part, tables_stay, tables_read, number_read, inside_part}

-- ---- areas that are only read

no_config : (s : Shape) (v : ℕ) (rs : List Redistributor) → written_spans (areas_from (config_area s) v rs) ≡ []
no_config s v [] = refl
no_config s v (r ∷ rs) = written_append (config_area s v r) (areas_from (config_area s) (suc v) rs) ∙ (elim r.bases.on as (λ on.
    written_spans (cond on (record { region = ConfigOf (record { 0 = v }); base = r.bases.prop.table.0; size = lpi_count s.lpi_bits; is_written = false } ∷ [])
    []) ++ written_spans (areas_from (config_area s) (suc v) rs) ≡ []) [
      | true ↦ no_config s (suc v) rs
      | false ↦ no_config s (suc v) rs
    ])

no_configs : (u : Plain) → written_spans (config_areas u) ≡ []
no_configs u =
    elim u.layout.gicr as (λ b. written_spans (cond b (areas_from (config_area u.layout.shape) 0 u.redistributors)
    (record { region = Config; base = (redistributor u 0).bases.prop.table.0; size = lpi_count u.layout.shape.lpi_bits; is_written = false } ∷ [])) ≡ []) [
      | true ↦ no_config u.layout.shape 0 u.redistributors
      | false ↦ refl
    ]

no_queue : (i : ℕ) (r : Registers) → written_spans (queue_area i r) ≡ []
no_queue i r =
    elim (is_valid r.cbaser) as (λ b. written_spans (cond b (record { region = Queue i; base = queue_base r; size = queue_size r; is_written = false } ∷ []) [])
    ≡ []) [
      | true ↦ refl
      | false ↦ refl
    ]

no_queues : (i : ℕ) (ts : List Translator) → written_spans (each_areas queue_areas i ts) ≡ []
no_queues i [] = refl
no_queues i (t ∷ ts) =
    written_append (queue_areas i t) (each_areas queue_areas (suc i) ts) ∙ ap (λ ss. ss ++ written_spans (each_areas queue_areas (suc i) ts))
    (no_queue i t.regs)
    ∙ no_queues (suc i) ts

-- ---- the areas that are written

all_alike : (u : Plain) → 14 ≤ u.layout.shape.lpi_bits → AllInside u.memory (tables_of u) → written_spans (areas_of u) ≡ stretches (words_of u)
unfolding areas_of words_of
all_alike u least inside =
    let s = u.layout.shape in
    let tables = tables_of u in
    let pending = areas_from (pending_area s) 0 u.redistributors in
    let configs = config_areas u in
    let queues = each_areas queue_areas 0 u.translators in
    let ts = flat_map (translator_words s u.memory) u.translators in
    let ps = flat_map (pending_words s) u.redistributors in
    written_append (tables ++ pending ++ configs) queues
    ∙ ap (λ ss. written_spans (tables ++ pending ++ configs) ++ ss) (no_queues 0 u.translators)
    ∙ append-nil (written_spans (tables ++ pending ++ configs))
    ∙ written_append (tables ++ pending) configs
    ∙ ap (λ ss. written_spans (tables ++ pending) ++ ss) (no_configs u)
    ∙ append-nil (written_spans (tables ++ pending))
    ∙ written_append tables pending
    ∙ ap (λ ss. ss ++ written_spans pending) (translators_alike s u.memory 0 u.translators inside)
    ∙ ap (λ ss. stretches ts ++ ss) (redistributors_alike s 0 u.redistributors least)
    ∙ sym (map-append stretch ts ps)

-- ---- they lie in memory

abbrev IsIn : List Window → ℕ × ℕ → Type 0
IsIn memory s = inside memory s.0 s.1 ≡ true

spans_inside : (memory : List Window) (areas : List Area) → AllInside memory areas → AllByRecursion (IsIn memory) (written_spans areas)
spans_inside memory [] all = tt
spans_inside memory (a ∷ areas) all =
    elim a.is_written as (λ w. AllByRecursion (IsIn memory) (cond w (span a ∷ written_spans areas) (written_spans areas))) [
      | true ↦ (all.0, spans_inside memory areas all.1)
      | false ↦ spans_inside memory areas all.1
    ]

pending_part : (memory : List Window) (bits base : ℕ) → 14 ≤ bits → inside memory base (pending_bytes bits) ≡ true
    → inside memory (base + 1024) (pending_bytes bits - 1024) ≡ true
pending_part memory bits base least h =
    let some : 2 ^ 11 ≤ 2 ^ (bits - 3) = pow_mono {i = 11} {j = bits - 3} (omega arith) in
    inside_part memory base (pending_bytes bits) (base + 1024) (pending_bytes bits - 1024) (omega arith) (omega arith) h

pending_inside : (memory : List Window) (s : Shape) (v : ℕ) (rs : List Redistributor) → 14 ≤ s.lpi_bits → ((k : ℕ) (r : Redistributor) → slice_get rs k ≡ Some r
    → r.bases.on ≡ true → HasTables s memory r.bases)
    → AllInside memory (areas_from (pending_area s) v rs)
pending_inside memory s v [] least h = tt
pending_inside memory s v (r ∷ rs) least h =
    all_both (λ a. inside memory a.base a.size ≡ true) (pending_area s v r) (areas_from (pending_area s) (suc v) rs)
    (elim r.bases.on as (λ on. r.bases.on ≡ on
    → AllInside memory (cond on (record {
      region = Pending (record { 0 = v });
      base = r.bases.pend.table.0 + 1024;
      size = pending_bytes s.lpi_bits - 1024;
      is_written = true;
    } ∷ []) [])) [
      | true ↦ λ e. (pending_part memory s.lpi_bits r.bases.pend.table.0 least (h 0 r refl e).pending, tt)
      | false ↦ λ e. tt
    ] refl)
    (pending_inside memory s (suc v) rs least (λ k x at. h (suc k) x at))

all_inside : (u : Plain) → IsSound u → AllInside u.memory (tables_of u) → AllByRecursion (IsIn u.memory) (stretches (words_of u))
unfolding words_of
all_inside u sound inside =
    let s = u.layout.shape in
    let least = sound.layout.shape.least_lpi_bits in
    let pending = areas_from (pending_area s) 0 u.redistributors in
    let ts = flat_map (translator_words s u.memory) u.translators in
    let ps = flat_map (pending_words s) u.redistributors in
    subst (AllByRecursion (IsIn u.memory)) (sym (map-append stretch ts ps))
    (all_both (IsIn u.memory) (stretches ts) (stretches ps)
    (subst (AllByRecursion (IsIn u.memory)) (translators_alike s u.memory 0 u.translators inside) (spans_inside u.memory (tables_of u) inside))
    (subst (AllByRecursion (IsIn u.memory)) (redistributors_alike s 0 u.redistributors least)
    (spans_inside u.memory pending (pending_inside u.memory s 0 u.redistributors least (λ k r at on. (sound.redistributors k r at).tables on)))))

can_stand : (memory : List Window) (ts : List Words) → AllByRecursion (IsIn memory) (stretches ts) → AllByRecursion (CanStand memory) ts
can_stand memory [] inside = tt
can_stand memory (t ∷ ts) inside = (inside.0, can_stand memory ts inside.1)

-- ---- they share no byte

spared : (b n : ℕ) (ts : List Words) → AllByRecursion (Avoids (b, n)) (stretches ts) → AllByRecursion (Spares b n) ts
spared b n [] all = tt
spared b n (t ∷ ts) all = (all.0, spared b n ts all.1)

apart : (ts : List Words) → AllAvoid (stretches ts) → AreApart ts
apart [] all = tt
apart (t ∷ ts) all = (spared t.base (8 * t.count) ts all.0, apart ts all.1)

-- ---- the laws

module _ (u : Plain) (sound : IsSound u) (savable : IsSavable u) where
  alike : written_spans (areas_of u) ≡ stretches (words_of u)
  alike = all_alike u sound.layout.shape.least_lpi_bits (tested u savable).inside

  stays : (b n : ℕ) → AllByRecursion (Avoids (b, n)) (written_spans (areas_of u)) → AllByRecursion (Spares b n) (words_of u)
  stays b n all = spared b n (words_of u) (subst (AllByRecursion (Avoids (b, n))) alike all)

-- the bytes of each word
pub bytes_back : (u : Plain) (k i : ℕ) (t : Words) → IsSound u → IsSavable u → slice_get (words_of u) k ≡ Some t → i < t.count
    → read_at (saved u) (entry_address t.base i) 8 ≡ Some (little_bytes 8 (t.word i))
bytes_back u k i t sound savable at lt =
    let tests = tested u savable in
    tables_read u.memory (words_of u) (can_stand u.memory (words_of u) (all_inside u sound tests.inside))
    (apart (words_of u) (subst AllAvoid (alike u sound savable) (all_avoid (areas_of u) tests.apart))) k i t at lt

pub words_back : WordsReadBack
words_back u k i t sound savable at lt =
    number_read (saved u) (entry_address t.base i) (t.word i) (each_small (words_of u) (all_small u sound) k t at i) (bytes_back u k i t sound savable at lt)
  where
    each_small : (ts : List Words) → AllByRecursion AreSmall ts → (j : ℕ) (s : Words) → slice_get ts j ≡ Some s → AreSmall s
    each_small [] all j s e = absurd cc
    each_small (x ∷ ts) all zero s e = subst AreSmall (same_Some x s e) all.0
    each_small (x ∷ ts) all (suc j) s e = each_small ts all.1 j s e

pub others_stay : OtherBytesStay
others_stay u address n sound savable h = tables_stay u.memory (words_of u) address n (stays u sound savable address n (others_avoid address n (areas_of u) h))

pub read_stays : ReadAreasStay
read_stays u k a address n sound savable at unwritten low high =
    let all = stays u sound savable a.base a.size (read_avoid (areas_of u) (tested u savable).apart k a at unwritten) in
    tables_stay u.memory (words_of u) address n (spares_part a.base a.size address n (words_of u) low high all)
