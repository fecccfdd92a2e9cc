-- What a save writes of a sound state are words of 64 bits.
use Rattle.std.proofs.Common.{◌≡◌, ℕ, zero, suc, ◌+◌, ◌-◌, ◌*◌, ◌/◌, ◌^◌, ◌<◌, ◌≤◌, Bool, true, false, not, cond, nat_lt, nat_le, List, [], ◌∷◌, ◌++◌, Option}
use Rattle.std.proofs.Common.{Some, None, refl, arith}
use Rattle.std.specs.Prelude.{slice_get}
use Rattle.std.specs.List.{AllByRecursion, flat_map}
use Rattle.std.specs.FinMap.{entries}
use Rattle.std.proofs.lemmas.Bool.{and_parts, ltb-true}
use Rattle.std.proofs.Math.Pow.{pow_mono}
use Rattle.byteorder.specs.Endian.{little_number}
use Rattle.guest_windows.specs.Windows.{Window}
use Rattle.gits_regs.specs.Registers.{is_valid, is_indirect, table_base}
use Rattle.baser_place.specs.Places.{level1_entries, level1_of, page_of}
use Rattle.its_types.specs.Bits.{bit}
use Rattle.its_types.specs.Lpis.{is_pending, pending_bit, pending_byte}
use Rattle.its_types.specs.Maps.{Maps, device_of, event_of}
use Rattle.its_types.specs.Ranges.{pending_bytes}
use Rattle.its_types.specs.declared.ids.Vcpu.{Vcpu}
use Rattle.its_types.specs.declared.machine.Shape.{Shape}
use Rattle.its_types.specs.declared.translation.Device.{Device}
use Rattle.its_types.specs.declared.translation.Event.{Event}
use Rattle.its_plain.specs.Plain.{Plain, Translator, Redistributor}
use Rattle.its_plain.specs.Sound.{IsShape, IsSound, IsTranslator}
use Rattle.its_plain.specs.Regions.{device_pages, collection_pages}
use Rattle.its_plain.specs.Saved.{Words, distance, device_after, device_entry, device_word, saved_collections, collection_entry, collection_word, event_after}
use Rattle.its_plain.specs.Saved.{event_entry, event_word, pending_word, page_words, pages_words, device_words, collection_words, itt_words, translator_words}
use Rattle.its_plain.specs.Saved.{pending_words, words_of}
use Rattle.saved_state.proofs.Areas.{all_both}
use Rattle.saved_state.proofs.Entered.{entered, target_low}

-- ---- entries

pub distance_most : (cap id : ℕ) (o : Option ℕ) → distance cap id o ≤ cap
distance_most cap id None = omega arith
distance_most cap id (Some next) = omega arith

pub record FitsDevice (d : Device) : Type 0 where
  pub low : d.itt.0 < 2 ^ 52
  pub bits : d.bits ≤ 16

device_entry_small : (dev : ℕ) (o : Option Device) (next : Option ℕ) → ((d : Device) → o ≡ Some d → FitsDevice d) → device_entry dev o next < 2 ^ 64
device_entry_small dev None next fits = omega arith
device_entry_small dev (Some d) next fits =
    let f = fits d refl in let low = f.low in let bits = f.bits in let far = distance_most 16383 dev next in omega arith

device_small : (m : Maps) (dev : ℕ) → ((d : Device) → device_of m dev ≡ Some d → FitsDevice d) → device_word m dev < 2 ^ 64
unfolding device_word
device_small m dev fits = device_entry_small dev (device_of m dev) (device_after m dev) fits

pub record FitsEvent (e : Event) : Type 0 where
  pub intid : e.intid.0 < 2 ^ 20
  pub icid : e.icid.0 < 65536

event_entry_small : (ev : ℕ) (o : Option Event) (next : Option ℕ) → ((e : Event) → o ≡ Some e → FitsEvent e) → event_entry ev o next < 2 ^ 64
event_entry_small ev None next fits = omega arith
event_entry_small ev (Some e) next fits =
    let f = fits e refl in let intid = f.intid in let icid = f.icid in let far = distance_most 65535 ev next in omega arith

event_small : (m : Maps) (dev ev : ℕ) → ((e : Event) → event_of m dev ev ≡ Some e → FitsEvent e) → event_word m dev ev < 2 ^ 64
unfolding event_word
event_small m dev ev fits = event_entry_small ev (event_of m dev ev) (event_after m dev ev) fits

pub record FitsCollection (c : ℕ × Vcpu) : Type 0 where
  pub icid : c.0 < 65536
  pub target : c.1.0 < 2 ^ 36

collection_entry_small : (o : Option (ℕ × Vcpu)) → ((c : ℕ × Vcpu) → o ≡ Some c → FitsCollection c) → collection_entry o < 2 ^ 64
collection_entry_small None fits = omega arith
collection_entry_small (Some c) fits = let f = fits c refl in let icid = f.icid in let target = f.target in omega arith

collection_small : (s : Shape) (t : Translator) (i : ℕ)
    → ((c : ℕ × Vcpu) → slice_get (entries (saved_collections s t)) i ≡ Some c → FitsCollection c) → collection_word s t i < 2 ^ 64
unfolding collection_word
collection_small s t i fits = collection_entry_small (slice_get (entries (saved_collections s t)) i) fits

-- ---- pending bits

bit_most : (b : Bool) → bit b ≤ 1
bit_most true = omega arith
bit_most false = omega arith

one_most : (n : ℕ) (pending : List ℕ) → pending_bit n pending ≤ 1
one_most n pending = bit_most (is_pending n pending)

pub byte_most : (n : ℕ) (pending : List ℕ) → pending_byte n pending < 256
byte_most n pending =
    let a = one_most (8 * n) pending in let b = one_most (8 * n + 1) pending in let c = one_most (8 * n + 2) pending in let d = one_most (8 * n + 3) pending in
    let e = one_most (8 * n + 4) pending in let f = one_most (8 * n + 5) pending in let g = one_most (8 * n + 6) pending in let h =
    one_most (8 * n + 7) pending in
    omega arith

eight_small : (a b c d e f g h : ℕ) → a < 256 → b < 256 → c < 256 → d < 256 → e < 256 → f < 256 → g < 256 → h < 256
    → little_number 8 (a ∷ b ∷ c ∷ d ∷ e ∷ f ∷ g ∷ h ∷ []) < 2 ^ 64
eight_small a b c d e f g h pa pb pc pd pe pf pg ph = omega arith

pending_small : (pending : List ℕ) (n : ℕ) → pending_word pending n < 2 ^ 64
unfolding pending_word
pending_small pending n =
    eight_small (pending_byte n pending) (pending_byte (n + 1) pending) (pending_byte (n + 2) pending) (pending_byte (n + 3) pending)
    (pending_byte (n + 4) pending) (pending_byte (n + 5) pending) (pending_byte (n + 6) pending) (pending_byte (n + 7) pending)
    (byte_most n pending) (byte_most (n + 1) pending) (byte_most (n + 2) pending) (byte_most (n + 3) pending)
    (byte_most (n + 4) pending) (byte_most (n + 5) pending) (byte_most (n + 6) pending) (byte_most (n + 7) pending)

-- ---- tables

abbrev pub AreSmall : Words → Type 0
AreSmall t = (i : ℕ) → t.word i < 2 ^ 64

module _ (s : Shape) (shape : IsShape s) (t : Translator) (sound : IsTranslator s t) where
  pub devices_fit : (dev : ℕ) (d : Device) → device_of t.maps dev ≡ Some d → FitsDevice d
  devices_fit dev d e = let h = sound.devices dev d e in record { low = h.itt_low; bits = h.most_bits }

  pub events_fit : (dev ev : ℕ) (e : Event) → event_of t.maps dev ev ≡ Some e → FitsEvent e
  events_fit dev ev e is =
      let h = sound.events dev ev e is in
      let most = shape.most_lpi_bits in
      let low : e.intid.0 < 2 ^ s.lpi_bits = ltb-true e.intid.0 (2 ^ s.lpi_bits)
      (and_parts (nat_le 8192 e.intid.0) (nat_lt e.intid.0 (2 ^ s.lpi_bits)) h.lpi).1 in
      let all : 2 ^ s.lpi_bits ≤ 2 ^ 20 = pow_mono {i = s.lpi_bits} {j = 20} most in
      record { intid = omega arith; icid = h.icid }

  pub collections_fit : (i : ℕ) (c : ℕ × Vcpu) → slice_get (entries (saved_collections s t)) i ≡ Some c → FitsCollection c
  collections_fit i c at =
      let h = entered s t sound i c at in
      let place = h.in_table in
      record { icid = omega arith; target = target_low s t.regs c shape.most_vcpus h }

  page_small : (k : ℕ) (o : Option ℕ) → AllByRecursion AreSmall (page_words t.maps k o)
  page_small k None = tt
  page_small k (Some base) = ((λ i. device_small t.maps (8192 * k + i) (devices_fit (8192 * k + i))), tt)

  pages_small : (memory : List Window) (n : ℕ) → AllByRecursion AreSmall (pages_words t memory n)
  pages_small memory zero = tt
  pages_small memory (suc n) =
      all_both AreSmall (pages_words t memory n) (page_words t.maps n (page_of (level1_of t.regs memory n))) (pages_small memory n)
      (page_small n (page_of (level1_of t.regs memory n)))

  devices_small : (memory : List Window) → AllByRecursion AreSmall (device_words t memory)
  unfolding device_words
  devices_small memory =
      elim (is_valid t.regs.baser0) as (λ v. AllByRecursion AreSmall
      (cond (not v) [] (cond (is_indirect t.regs.baser0) (pages_words t memory (level1_entries t.regs.dev_bits))
      (record { base = table_base t.regs.baser0; count = 8192 * device_pages t.regs; word = device_word t.maps } ∷ [])))) [
        | true ↦ elim (is_indirect t.regs.baser0) as (λ i. AllByRecursion AreSmall (cond i (pages_words t memory (level1_entries t.regs.dev_bits))
            (record { base = table_base t.regs.baser0; count = 8192 * device_pages t.regs; word = device_word t.maps } ∷ []))) [
              | true ↦ pages_small memory (level1_entries t.regs.dev_bits)
              | false ↦ ((λ i. device_small t.maps i (devices_fit i)), tt)
            ]
        | false ↦ tt
      ]

  collections_small : AllByRecursion AreSmall (collection_words s t)
  collections_small =
      elim (is_valid t.regs.baser1) as (λ v. AllByRecursion AreSmall
      (cond v (record { base = table_base t.regs.baser1; count = 8192 * collection_pages t.regs; word = collection_word s t } ∷ []) [])) [
        | true ↦ ((λ i. collection_small s t i (collections_fit i)), tt)
        | false ↦ tt
      ]

  itts_small : (ds : List (ℕ × Device))
      → AllByRecursion AreSmall (flat_map (λ d. record { base = d.1.itt.0; count = 2 ^ d.1.bits; word = event_word t.maps d.0 } ∷ []) ds)
  itts_small [] = tt
  itts_small (d ∷ ds) = ((λ i. event_small t.maps d.0 i (events_fit d.0 i)), itts_small ds)

  pub translator_small : (memory : List Window) → AllByRecursion AreSmall (translator_words s memory t)
  unfolding translator_words
  translator_small memory =
      all_both AreSmall (device_words t memory ++ collection_words s t) (itt_words t.maps)
      (all_both AreSmall (device_words t memory) (collection_words s t) (devices_small memory) collections_small) (itts_small (entries t.maps.devices))

translators_small : (s : Shape) → IsShape s → (memory : List Window) (ts : List Translator)
    → ((i : ℕ) (t : Translator) → slice_get ts i ≡ Some t → IsTranslator s t)
    → AllByRecursion AreSmall (flat_map (translator_words s memory) ts)
translators_small s shape memory [] sound = tt
translators_small s shape memory (t ∷ ts) sound =
    all_both AreSmall (translator_words s memory t) (flat_map (translator_words s memory) ts) (translator_small s shape t (sound 0 t refl) memory)
    (translators_small s shape memory ts (λ i x at. sound (suc i) x at))

redistributors_small : (s : Shape) (rs : List Redistributor) → AllByRecursion AreSmall (flat_map (pending_words s) rs)
redistributors_small s [] = tt
redistributors_small s (r ∷ rs) =
    all_both AreSmall (pending_words s r) (flat_map (pending_words s) rs)
    (elim r.bases.on as (λ on. AllByRecursion AreSmall
    (cond on (record {
      base = r.bases.pend.table.0 + 1024;
      count = (pending_bytes s.lpi_bits - 1024) / 8;
      word = λ i. pending_word r.pending (1024 + 8 * i);
    } ∷ []) [])) [
      | true ↦ ((λ i. pending_small r.pending (1024 + 8 * i)), tt)
      | false ↦ tt
    ])
    (redistributors_small s rs)

pub all_small : (u : Plain) → IsSound u → AllByRecursion AreSmall (words_of u)
unfolding words_of
all_small u sound =
    all_both AreSmall (flat_map (translator_words u.layout.shape u.memory) u.translators) (flat_map (pending_words u.layout.shape) u.redistributors)
    (translators_small u.layout.shape sound.layout.shape u.memory u.translators sound.translators) (redistributors_small u.layout.shape u.redistributors)
