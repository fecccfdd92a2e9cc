-- What a sound state says of the parts in hand.
use Rattle.std.proofs.Common.{◌≡◌, ℕ, ◌+◌, ◌-◌, ◌<◌, ◌≤◌, ◌^◌, true, false, List, [], ◌∷◌, map, Option, Some, None, inl, inr, refl, sym}
use Rattle.std.proofs.Common.{◌∙◌, arith, subst}
use Rattle.std.specs.Prelude.{◌&&◌, nat_lt, nat_le, length, slice_get, IfSome}
use Rattle.std.specs.List.{AllByRecursion, list_all}
use Rattle.std.specs.Ordering.{nat_cmp}
use Rattle.std.specs.FinMap as finmap
use Rattle.std.specs.FinMap.{get-entries}
use Rattle.std.proofs.lemmas.Bool.{and_parts, or_cases, leb-true, cases_lt}
use Rattle.guest_windows.specs.Windows.{Window, has, inside, are_windows, in_range, share_no_byte, extent}
use Rattle.guest_windows.proofs.Laws.{has-fits}
use Rattle.gicr_regs.specs.Registers.{AreLow}
use Rattle.its_types.specs.Ranges.{lpi_count, pending_bytes}
use Rattle.std.proofs.Math.Pow.{pow_mono}
use Rattle.its_types.specs.Maps.{Maps}
use Rattle.its_types.specs.Maps.{events_at}
use Rattle.dirty_log.specs.declared.tracked.Tracked.{Tracked}
use Rattle.its_types.specs.declared.machine.Shape.{Shape}
use Rattle.its_plain.specs.Plain.{Translator, joined}
use Rattle.its_plain.specs.Sound.{IsSound, IsRedistributor, IsTranslator}
use Rattle.its_plain.specs.declared.layout.Layout.{Layout}
use Rattle.lpi_config.specs.Conf.{Conf}
use Rattle.lpi_pending.specs.InHand.{RedistParts, pend_in}
use Rattle.owned_parts.specs.Owned.{AreAllInHand, state_of, conf_or, pend_or, redistributor_in, one_or_two, translator_at, translators_at}
use Rattle.owned_parts.proofs.Places.{place_is}
use Rattle.owned_parts.specs.declared.in_place.TranslatorRef.{TranslatorRef}
use Rattle.owned_parts.specs.declared.in_place.InPlace.{InPlace}
use Rattle.std.specs.Option.{option_map}
use Rattle.table_save.specs.Areas.{HasLowTable, HaveLowTables}
use Rattle.table_save.specs.Fits.{AreOfSound, FitsSave, FitsTranslator}
use Rattle.table_save.specs.Pass.{RisesFrom, FitsDevice, FitsEvent}
use Rattle.standing_states.proofs.EventsOf.{events_rise, find_of_device}
use Rattle.table_save.proofs.Rises.{find_here, find_skips, rises_none, map_rises}

-- ---- each entry of a list that rises

each_found : {X : Type 0} (P : ℕ × X → Type 0) (i : ℕ) (es : List (ℕ × X)) → RisesFrom i es → ((k : ℕ) (x : X) → finmap.find nat_cmp k es ≡ Some x → P (k, x))
    → AllByRecursion P es
each_found P i [] r h = tt
each_found {X} P i (e ∷ es) r h = (
  h e.0 e.1 (find_here e.0 e es refl),
  each_found P (e.0 + 1) es r.1 (λ k x is. elim (cases_lt k (e.0 + 1)) [
    | inl lt ↦ absurd (let none : finmap.find nat_cmp k es ≡ None = rises_none k (e.0 + 1) es r.1 lt in cc)
    | inr le ↦ h k x (find_skips k e es (λ same. omega arith) ∙ is)
  ]),
)

-- ---- where memory is

window_low : (ws : List Window) (a n : ℕ) → list_all in_range (map extent ws) ≡ true → inside ws a n ≡ true → a + n ≤ 2 ^ 52
window_low [] a n windows is = absurd cc
window_low (w ∷ ws) a n windows is =
    let here = and_parts (in_range (extent w)) (list_all in_range (map extent ws)) windows in
    elim (or_cases (has w a n) (inside ws a n) is) [
      | inl it ↦
          let fits = has-fits w a n it in
          let top = leb-true (w.base + length w.bytes) (2 ^ 52) (and_parts (nat_lt 0 (length w.bytes)) (nat_le (w.base + length w.bytes) (2 ^ 52)) here.0).1 in
          omega (arith, fits.below, top)
      | inr later ↦ window_low ws a n here.1 later
    ]

are_in_range : (ws : List (ℕ × ℕ)) → are_windows ws ≡ true → list_all in_range ws ≡ true
are_in_range ws h =
    let few = nat_lt 0 (length ws) && nat_le (length ws) 16 in
    let ranges = and_parts (few && list_all in_range ws) (share_no_byte ws) h in
    (and_parts few (list_all in_range ws) ranges.0).1

-- tables of LPIs have bytes
some_bytes : (bits : ℕ) → 14 ≤ bits → (0 < lpi_count bits) × (0 < pending_bytes bits)
some_bytes bits least =
    let all : 2 ^ 14 ≤ 2 ^ bits = pow_mono {i = 14} {j = bits} least in
    let part : 2 ^ 11 ≤ 2 ^ (bits - 3) = pow_mono {i = 11} {j = bits - 3} (omega arith) in
    (omega arith, omega arith)

-- ---- a translator

fits_translator : (s : Shape) (t : TranslatorRef) → IsTranslator s (translator_at t) → FitsTranslator t
fits_translator s t sound =
    let m : Maps = t.maps.now.maps in
    record {
      tables = each_found HasLowTable 0 (finmap.entries m.devices) (map_rises m.devices) (λ k x is.
          let h = sound.devices k x (get-entries m.devices k ∙ is) in (h.itt_low, h.most_bits));
      devices = each_found FitsDevice 0 (finmap.entries m.devices) (map_rises m.devices) (λ k x is.
          let h = sound.devices k x (get-entries m.devices k ∙ is) in (h.itt_low, h.itt_whole, h.least_bits, h.most_bits));
      events = λ dev. each_found FitsEvent 0 (events_at m dev) (events_rise m dev) (λ k x is.
          let h = sound.events dev k x (get-entries m.events (dev, k) ∙ sym (find_of_device dev k (finmap.entries m.events)) ∙ is) in
          let low = leb-true 8192 x.intid.0 (and_parts (nat_le 8192 x.intid.0) (nat_lt x.intid.0 (2 ^ s.lpi_bits)) h.lpi).0 in
          omega (arith, low));
    }

first_of : (first : Translator) (second : Option Translator) → slice_get (one_or_two first second) 0 ≡ Some first
first_of first None = refl
first_of first (Some t) = refl

second_fits : (s : Shape) (first : Translator) (second : Option TranslatorRef)
    → ((t : Translator) → slice_get (one_or_two first (option_map translator_at second)) 1 ≡ Some t → IsTranslator s t) → IfSome second FitsTranslator
second_fits s first None h = tt
second_fits s first (Some t) h = fits_translator s t (h (translator_at t) refl)

-- ---- the redistributors

module _ (l : Layout) (ts : List Translator) (memory : List Window) (track : Option Tracked) (redists : RedistParts)
    (sound : IsSound (state_of l ts memory track redists)) where
  pub redistributors_low : HaveLowTables l.shape redists
  redistributors_low = λ v q is lt.
      let h : IsRedistributor l memory v (joined (conf_or (Some q)) (pend_or (pend_in redists v))) =
      subst (λ (o : Option Conf). IsRedistributor l memory v (joined (conf_or o) (pend_or (pend_in redists v)))) is
      (sound.redistributors v (redistributor_in redists v) (place_is redists l.shape.vcpus v lt)) in
      let windows = are_in_range (map extent memory) sound.memory in
      let least = sound.layout.shape.least_lpi_bits in
      elim q.bases.on as (λ b. q.bases.on ≡ b → AreLow q.bases) [
        | true ↦ λ on.
            let both = h.tables on in
            let config = window_low memory q.bases.prop.table.0 (lpi_count l.shape.lpi_bits) windows both.config in
            let pending = window_low memory q.bases.pend.table.0 (pending_bytes l.shape.lpi_bits) windows both.pending in
            let some = some_bytes l.shape.lpi_bits least in
            record { prop = omega (arith, config, some); pend = omega (arith, pending, some) }
        | false ↦ λ off.
            elim l.gicr as (λ b. l.gicr ≡ b → AreLow q.bases) [
              | true ↦ λ gicr. let kept = h.kept gicr in record { prop = kept.prop_low; pend = kept.pend_low }
              | false ↦ λ none. absurd (let two : true ≡ false = sym (h.always_on none) ∙ off in cc)
            ] refl
      ] refl

-- ---- all parts

pub fits : (p : InPlace) → AreAllInHand p.layout.now.shape p.redists.now → AreOfSound p → FitsSave p
fits p all h =
    let ts = translators_at p.first p.second in
    let l = p.layout.now in
    record {
      shape = h.1.layout.shape;
      in_hand = all;
      low = redistributors_low l ts p.memory.now h.0 p.redists.now h.1;
      first = fits_translator l.shape p.first
          (h.1.translators 0 (translator_at p.first) (first_of (translator_at p.first) (option_map translator_at p.second)));
      second = second_fits l.shape (translator_at p.first) p.second (λ t is. h.1.translators 1 t is);
    }
