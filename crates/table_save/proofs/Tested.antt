-- The tests of the code are those of the definition.
use Rattle.std.proofs.Common.{◌≡◌, ℕ, List, ◌++◌, Option, Some, None, Result, Ok, Err, refl, ap, ◌∙◌, append-nil}
use Rattle.std.specs.Prelude.{find}
use Rattle.std.specs.FinMap.{entries}
use Rattle.guest_windows.specs.Windows.{Window}
use Rattle.its_types.specs.declared.translation.Device.{Device}
use Rattle.its_plain.specs.declared.area.Area.{Area}
use Rattle.its_plain.specs.Regions.{areas_from, pending_area, ◌>>=◌, is_outside, has_no_place, all_placed, none_overlap, table_areas, queue_area, areas_of}
use Rattle.its_plain.specs.Regions.{savable, each_areas, queue_areas}
use Rattle.its_plain.specs.declared.fault.SaveFault.{SaveFault}
use Rattle.its_plain.specs.declared.fault.SaveFault.TheVariants.{NoPlace}
use Rattle.owned_parts.specs.Owned.{state_in_place, translators_at}
use Rattle.owned_parts.specs.declared.in_place.TranslatorRef.{TranslatorRef}
use Rattle.owned_parts.specs.declared.in_place.InPlace.{InPlace}
use Rattle.table_save.specs.Areas.{all_areas, redistributors_of, config_areas}
use Rattle.table_save.specs.Checked.{outside_fault, unplaced_fault, second_unplaced}
use Rattle.table_save.specs.Fits.{tables_at, second_tables, tables_of, second_queue, queues_of}

-- ---- places

abbrev placed_or : ℕ → Option (ℕ × Device) → Result (Unit {0}) SaveFault → Result (Unit {0}) SaveFault
placed_or i None rest = rest
placed_or i (Some d) rest = Err (NoPlace i (record { 0 = d.0 }))

placed_cases : (i : ℕ) (o : Option (ℕ × Device)) (rest : Result (Unit {0}) SaveFault) → placed_or i o rest ≡ (unplaced_fault i o >>= λ _. rest)
placed_cases i None rest = refl
placed_cases i (Some d) rest = refl

last_placed : (i : ℕ) (o : Option (ℕ × Device)) → placed_or i o (Ok tt) ≡ unplaced_fault i o
last_placed i None = refl
last_placed i (Some d) = refl

abbrev first_unplaced : List Window → TranslatorRef → Option (ℕ × Device)
first_unplaced memory t = find (has_no_place t.regs.now memory) (entries t.maps.now.maps.devices)

placed_is : (memory : List Window) (first : TranslatorRef) (second : Option TranslatorRef) → all_placed memory 0 (translators_at first second)
    ≡ (unplaced_fault 0 (first_unplaced memory first) >>= λ _. second_unplaced memory second)
placed_is memory first None = placed_cases 0 (first_unplaced memory first) (Ok tt)
placed_is memory first (Some t) =
    ap (placed_or 0 (first_unplaced memory first)) (last_placed 1 (first_unplaced memory t))
    ∙ placed_cases 0 (first_unplaced memory first) (unplaced_fault 1 (first_unplaced memory t))

pub first_has_none : (memory : List Window) (first : TranslatorRef) (second : Option TranslatorRef) (f : SaveFault)
    → unplaced_fault 0 (first_unplaced memory first) ≡ Err f → all_placed memory 0 (translators_at first second) ≡ Err f
first_has_none memory first second f e =
    placed_is memory first second ∙ ap (λ (p : Result (Unit {0}) SaveFault). p >>= λ _. second_unplaced memory second) e

pub first_has_all : (memory : List Window) (first : TranslatorRef) (second : Option TranslatorRef)
    → unplaced_fault 0 (first_unplaced memory first) ≡ Ok tt → all_placed memory 0 (translators_at first second) ≡ second_unplaced memory second
first_has_all memory first second e =
    placed_is memory first second ∙ ap (λ (p : Result (Unit {0}) SaveFault). p >>= λ _. second_unplaced memory second) e

-- ---- areas

tables_are : (memory : List Window) (first : TranslatorRef) (second : Option TranslatorRef)
    → each_areas (table_areas memory) 0 (translators_at first second) ≡ tables_at 0 memory first ++ second_tables memory second
unfolding table_areas
tables_are memory first None = refl
tables_are memory first (Some t) = ap (λ ts. tables_at 0 memory first ++ ts) (append-nil (tables_at 1 memory t))

queues_are : (first : TranslatorRef) (second : Option TranslatorRef)
    → each_areas queue_areas 0 (translators_at first second) ≡ queue_area 0 first.regs.now ++ second_queue second
queues_are first None = refl
queues_are first (Some t) = ap (λ ts. queue_area 0 first.regs.now ++ ts) (append-nil (queue_area 1 t.regs.now))

module _ (p : InPlace) where
  abbrev pub all : List Area
  all = all_areas (tables_of p) p.layout.now (queues_of p) p.redists.now

  abbrev pub inside_test : Result (Unit {0}) SaveFault
  inside_test = outside_fault (find (is_outside p.memory.now) (tables_of p))

  abbrev pub placed_test : Result (Unit {0}) SaveFault
  placed_test = all_placed p.memory.now 0 (translators_at p.first p.second)

  all_is : areas_of (state_in_place p) ≡ all
  unfolding areas_of
  all_is =
      let l = p.layout.now in
      let pending = areas_from (pending_area l.shape) 0 (redistributors_of l.shape p.redists.now) in
      let config = config_areas l (redistributors_of l.shape p.redists.now) in
      let queues = each_areas queue_areas 0 (translators_at p.first p.second) in
      ap (λ ts. ts ++ pending ++ config ++ queues) (tables_are p.memory.now p.first p.second)
      ∙ ap (λ q. tables_of p ++ pending ++ config ++ q) (queues_are p.first p.second)

  pub savable_is : savable (state_in_place p) ≡ (inside_test >>= λ _. placed_test >>= λ _. none_overlap all)
  unfolding savable
  savable_is =
      ap (λ (ts : List Area). outside_fault (find (is_outside p.memory.now) ts) >>= λ _. placed_test >>= λ _. none_overlap (areas_of (state_in_place p)))
      (tables_are p.memory.now p.first p.second)
      ∙ ap (λ (areas : List Area). inside_test >>= λ _. placed_test >>= λ _. none_overlap areas) all_is

  -- ---- what each test of the code says

  pub when_outside : (f : SaveFault) → inside_test ≡ Err f → savable (state_in_place p) ≡ Err f
  when_outside f e = savable_is ∙ ap (λ (q : Result (Unit {0}) SaveFault). q >>= λ _. placed_test >>= λ _. none_overlap all) e

  pub when_unplaced : (f : SaveFault) → inside_test ≡ Ok tt → placed_test ≡ Err f → savable (state_in_place p) ≡ Err f
  when_unplaced f inside e =
      savable_is ∙ ap (λ (q : Result (Unit {0}) SaveFault). q >>= λ _. placed_test >>= λ _. none_overlap all) inside
      ∙ ap (λ (q : Result (Unit {0}) SaveFault). q >>= λ _. none_overlap all) e

  pub when_placed : inside_test ≡ Ok tt → placed_test ≡ Ok tt → savable (state_in_place p) ≡ none_overlap all
  when_placed inside placed =
      savable_is ∙ ap (λ (q : Result (Unit {0}) SaveFault). q >>= λ _. placed_test >>= λ _. none_overlap all) inside
      ∙ ap (λ (q : Result (Unit {0}) SaveFault). q >>= λ _. none_overlap all) placed
