-- All events, by device and then by event, are those of the first device, those of the next, and so on.
use Rattle.std.proofs.Common.{◌≡◌, ℕ, ◌<◌, ◌≤◌, Bool, true, false, cond, eqb, List, [], ◌∷◌, ◌++◌, map, filter, Option, Some, inl, inr, refl, sym, ap, subst}
use Rattle.std.proofs.Common.{◌∙◌, arith, ◌⊎◌}
use Rattle.std.specs.Prelude.{is_some}
use Rattle.std.specs.List.{flat_map, list_any, AllByRecursion}
use Rattle.std.specs.Ordering.{nat_cmp, ordering_then, is_lt, is_eq, eq_by_cmp}
use Rattle.std.specs.declared.cmp.Ordering.{Ordering}
use Rattle.std.specs.declared.cmp.Ordering.TheVariants.{Less, Equal, Greater}
use Rattle.std.specs.Cmp.{unsigned_tied, tied_itself}
use Rattle.std.specs.FinMap.{find, entries, is_sorted, entries_sorted, get-entries}
use Rattle.std.specs.FinMap.Entries.{below_all}
use Rattle.std.proofs.lemmas.Bool.{cases_eq, cond-true, cond-false, cond_both, eq-eqb, ne_eqb, eqb-true, or_cases, or_left, or_right, both_ways}
use lib.Dec.{T}
use Rattle.its_types.specs.Maps.{Maps, pair_cmp}
use Rattle.its_types.specs.declared.translation.Device.{Device}
use Rattle.its_types.specs.declared.translation.Event.{Event}
use Rattle.its_maps.specs.MapsRoom.{EventsHaveDevices}
use Rattle.its_types.proofs.Rising.{first, second, below}
use Rattle.its_types.proofs.PairOrder.{pair_total}
use Rattle.its_plain.specs.Commands.{intids_of}
use Rattle.cmd_exec.specs.Walked.{lpis_of, lpis_of_all}

abbrev Entry : Type 0
Entry = (ℕ × ℕ) × Event

abbrev Entries : Type 0
Entries = List Entry

abbrev Devices : Type 0
Devices = List (ℕ × Device)

abbrev block : ℕ → Entries → Entries
block dev xs = filter (λ e. eqb e.0.0 dev) xs

abbrev blocks : Entries → Devices → Entries
blocks xs ds = flat_map (λ d. block d.0 xs) ds

-- ---- what rises

abbrev From : ℕ → Entries → Type 0
From n xs = AllByRecursion (λ e. n ≤ e.0.0) xs

abbrev DevicesRise : Entries → Type 0
DevicesRise [] = Unit {0}
DevicesRise (x ∷ xs) = From x.0.0 xs × DevicesRise xs

abbrev Above : ℕ → Devices → Type 0
Above n ds = AllByRecursion (λ d. n < d.0) ds

abbrev Rise : Devices → Type 0
Rise [] = Unit {0}
Rise (d ∷ ds) = Above d.0 ds × Rise ds

abbrev has : Devices → ℕ → Bool
has ds n = list_any (λ d. eqb d.0 n) ds

abbrev AllHave : Devices → Entries → Type 0
AllHave ds xs = AllByRecursion (λ e. has ds e.0.0 ≡ true) xs

-- ---- blocks

block_with : (dev : ℕ) (x : Entry) (xs : Entries) → x.0.0 ≡ dev → block dev (x ∷ xs) ≡ x ∷ block dev xs
block_with dev x xs e = cond-true (eqb x.0.0 dev) (x ∷ block dev xs) (block dev xs) (eq-eqb x.0.0 dev e)

block_without : (dev : ℕ) (x : Entry) (xs : Entries) → (x.0.0 ≡ dev → ⊥) → block dev (x ∷ xs) ≡ block dev xs
block_without dev x xs other = cond-false (eqb x.0.0 dev) (x ∷ block dev xs) (block dev xs) (ne_eqb x.0.0 dev other)

block_none : (dev n : ℕ) (xs : Entries) → dev < n → From n xs → block dev xs ≡ []
block_none dev n [] lt h = refl
block_none dev n (x ∷ xs) lt h = block_without dev x xs (λ (e : x.0.0 ≡ dev). omega (arith, e, lt, h.0)) ∙ block_none dev n xs lt h.1

blocks_without : (x : Entry) (xs : Entries) (ds : Devices) → Above x.0.0 ds → blocks (x ∷ xs) ds ≡ blocks xs ds
blocks_without x xs [] h = refl
blocks_without x xs (d ∷ ds) h =
    ap (λ (b : Entries). b ++ blocks (x ∷ xs) ds) (block_without d.0 x xs (λ (e : x.0.0 ≡ d.0). omega (arith, e, h.0)))
    ∙ ap (λ (bs : Entries). block d.0 xs ++ bs) (blocks_without x xs ds h.1)

no_blocks : (ds : Devices) → blocks [] ds ≡ []
no_blocks [] = refl
no_blocks (d ∷ ds) = no_blocks ds

has_above : (n m : ℕ) (ds : Devices) → Above n ds → has ds m ≡ true → n < m
has_above n m [] h e = absurd cc
has_above n m (d ∷ ds) h e = elim (or_cases (eqb d.0 m) (has ds m) e) [ inl p ↦ omega (arith, eqb-true d.0 m p, h.0) | inr p ↦ has_above n m ds h.1 p ]

-- entries whose devices come later aren't of the first
have_rest : (d : ℕ × Device) (ds : Devices) (n : ℕ) (xs : Entries) → d.0 < n → From n xs → AllHave (d ∷ ds) xs → AllHave ds xs
have_rest d ds n [] lt from h = tt
have_rest d ds n (x ∷ xs) lt from h = (later, have_rest d ds n xs lt from.1 h.1)
  where
    later : has ds x.0.0 ≡ true
    later = elim (or_cases (eqb d.0 x.0.0) (has ds x.0.0) h.0) [ inl p ↦ absurd (omega (arith, eqb-true d.0 x.0.0 p, lt, from.0)) | inr p ↦ p ]

abbrev Splits : Devices → Type 0
Splits ds = (xs : Entries) → DevicesRise xs → AllHave ds xs → xs ≡ blocks xs ds

splits_more : (d : ℕ × Device) (ds : Devices) → Above d.0 ds → Splits ds → (xs : Entries) → DevicesRise xs → AllHave (d ∷ ds) xs → xs ≡ blocks xs (d ∷ ds)
splits_more d ds above later [] rise h = sym (no_blocks ds)
splits_more d ds above later (x ∷ xs) rise h =
    elim (cases_eq x.0.0 d.0) [
      | inl same ↦
          ap (λ (r : Entries). x ∷ r) (splits_more d ds above later xs rise.1 h.1)
          ∙ ap (λ (r : Entries). x ∷ (block d.0 xs ++ r)) (sym (blocks_without x xs ds (subst (λ (n : ℕ). Above n ds) (sym same) above)))
          ∙ ap (λ (b : Entries). b ++ blocks (x ∷ xs) ds) (sym (block_with d.0 x xs same))
      | inr other ↦
          let in_rest : has ds x.0.0 ≡ true = elim (or_cases (eqb d.0 x.0.0) (has ds x.0.0) h.0) [
            | inl p ↦ absurd (other (sym (eqb-true d.0 x.0.0 p)))
            | inr p ↦
                p
          ] in
          let lt : d.0 < x.0.0 = has_above d.0 x.0.0 ds above in_rest in
          let all : AllHave ds (x ∷ xs) = (in_rest, have_rest d ds x.0.0 xs lt rise.0 h.1) in
          later (x ∷ xs) rise all
          ∙ ap (λ (b : Entries). b ++ blocks (x ∷ xs) ds) (sym (block_without d.0 x xs other ∙ block_none d.0 x.0.0 xs lt rise.0))
    ]

splits : (ds : Devices) → Rise ds → Splits ds
splits [] rise [] r h = refl
splits [] rise (x ∷ xs) r h = absurd (both_ways false refl h.0)
splits (d ∷ ds) rise xs r h = splits_more d ds rise.0 (splits ds rise.1) xs r h

-- ---- the entries of maps

then_lt : (a b : Ordering) → T (is_lt (ordering_then a b)) → (T (is_lt a)) ⊎ (a ≡ Equal)
then_lt Less b t = inl tt
then_lt Equal b t = inr refl
then_lt Greater b t = absurd t

pair_below : (a b : ℕ × ℕ) → T (is_lt (pair_cmp a b)) → a.0 ≤ b.0
pair_below a b t =
    elim (then_lt (nat_cmp a.0 b.0) (nat_cmp a.1 b.1) t) [
      | inl less ↦ let lt = below a.0 b.0 less in omega (arith, lt)
      | inr same ↦ let e : a.0 ≡ b.0 = eqb-true a.0 b.0 (sym (unsigned_tied a.0 b.0) ∙ ap is_eq same) in omega (arith, e)
    ]

from_below : (x : ℕ × ℕ) (xs : Entries) → T (below_all pair_cmp x xs) → From x.0 xs
from_below x [] t = tt
from_below x (y ∷ ys) t = (pair_below x y.0 (first _ _ t), from_below x ys (second _ _ t))

devices_rise : (xs : Entries) → T (is_sorted pair_cmp xs) → DevicesRise xs
devices_rise [] t = tt
devices_rise (x ∷ xs) t = (from_below x.0 xs (first _ _ t), devices_rise xs (second _ _ t))

above_below : (x : ℕ) (ds : Devices) → T (below_all nat_cmp x ds) → Above x ds
above_below x [] t = tt
above_below x (d ∷ ds) t = (below x d.0 (first _ _ t), above_below x ds (second _ _ t))

rise_sorted : (ds : Devices) → T (is_sorted nat_cmp ds) → Rise ds
rise_sorted [] t = tt
rise_sorted (d ∷ ds) t = (above_below d.0 ds (first _ _ t), rise_sorted ds (second _ _ t))

-- a key that is found is there
has_found : (n : ℕ) (ds : Devices) → is_some (find nat_cmp n ds) ≡ true → has ds n ≡ true
has_found n [] e = absurd (both_ways false refl e)
has_found n (d ∷ ds) e =
    elim (cases_eq d.0 n) [
      | inl same ↦ or_left (eqb d.0 n) (has ds n) (eq-eqb d.0 n same)
      | inr other ↦
          or_right (eqb d.0 n) (has ds n) (has_found n ds
          (sym (ap is_some (cond-false (eq_by_cmp nat_cmp n d.0) (Some d.1) (find nat_cmp n ds) (unsigned_tied n d.0 ∙ ne_eqb n d.0 (λ e'. other (sym e')))))
          ∙ e))
    ]

-- and what holds of all that are found holds of each entry
all_found : (P : ℕ → Type 0) (xs : Entries) → ((q : ℕ × ℕ) → is_some (find pair_cmp q xs) ≡ true → P q.0) → AllByRecursion (λ e. P e.0.0) xs
all_found P [] h = tt
all_found P (x ∷ xs) h = (
  h x.0 (ap (λ (o : Ordering). is_some (cond (is_eq o) (Some x.1) (find pair_cmp x.0 xs))) (tied_itself pair_total x.0)),
  all_found P xs (λ q found. h q (cond_both (eq_by_cmp pair_cmp q x.0) (Some x.1) (find pair_cmp q xs) (λ (o : Option Event). is_some o ≡ true) (λ _. refl)
      (λ _. found))),
)

all_have : (m : Maps) → EventsHaveDevices m → AllHave (entries m.devices) (entries m.events)
all_have m h =
    all_found (λ n. has (entries m.devices) n ≡ true) (entries m.events) (λ q found.
    has_found q.0 (entries m.devices) (ap is_some (sym (get-entries m.devices q.0)) ∙ h q.0 q.1 (ap is_some (get-entries m.events q) ∙ found)))

pub events_in_blocks : (m : Maps) → EventsHaveDevices m → entries m.events ≡ blocks (entries m.events) (entries m.devices)
events_in_blocks m h =
    splits (entries m.devices) (rise_sorted (entries m.devices) (entries_sorted m.devices)) (entries m.events)
    (devices_rise (entries m.events) (entries_sorted m.events)) (all_have m h)

-- ---- the LPIs of a collection

abbrev picked : ℕ → Entries → List ℕ
picked icid xs = map (λ e. e.1.intid.0) (filter (λ e. eqb e.1.icid.0 icid) xs)

picked_append : (icid : ℕ) (xs ys : Entries) → picked icid (xs ++ ys) ≡ picked icid xs ++ picked icid ys
picked_append icid [] ys = refl
picked_append icid (x ∷ xs) ys = by_test (picked_append icid xs ys) (eqb x.1.icid.0 icid)
  where
    by_test : picked icid (xs ++ ys) ≡ picked icid xs ++ picked icid ys → (b : Bool)
        → map (λ (e : Entry). e.1.intid.0) (cond b (x ∷ filter (λ (e : Entry). eqb e.1.icid.0 icid) (xs ++ ys))
        (filter (λ (e : Entry). eqb e.1.icid.0 icid) (xs ++ ys)))
        ≡ map (λ (e : Entry). e.1.intid.0) (cond b (x ∷ filter (λ (e : Entry). eqb e.1.icid.0 icid) xs) (filter (λ (e : Entry). eqb e.1.icid.0 icid) xs))
        ++ picked icid ys
    by_test is true = ap (λ (r : List ℕ). x.1.intid.0 ∷ r) is
    by_test is false = is

abbrev short : Entries → List (ℕ × Event)
short xs = map (λ e. (e.0.1, e.1)) xs

picked_short : (icid : ℕ) (xs : Entries) → lpis_of (short xs) icid ≡ picked icid xs
picked_short icid [] = refl
picked_short icid (x ∷ xs) = by_test (picked_short icid xs) (eqb x.1.icid.0 icid)
  where
    by_test : lpis_of (short xs) icid ≡ picked icid xs → (b : Bool) → map (λ (e : ℕ × Event). e.1.intid.0)
        (cond b ((x.0.1, x.1) ∷ filter (λ (e : ℕ × Event). eqb e.1.icid.0 icid) (short xs)) (filter (λ (e : ℕ × Event). eqb e.1.icid.0 icid) (short xs)))
        ≡ map (λ (e : Entry). e.1.intid.0) (cond b (x ∷ filter (λ (e : Entry). eqb e.1.icid.0 icid) xs) (filter (λ (e : Entry). eqb e.1.icid.0 icid) xs))
    by_test is true = ap (λ (r : List ℕ). x.1.intid.0 ∷ r) is
    by_test is false = is

picked_blocks : (m : Maps) (icid : ℕ) (ds : Devices) → picked icid (blocks (entries m.events) ds) ≡ lpis_of_all m ds icid
picked_blocks m icid [] = refl
picked_blocks m icid (d ∷ ds) =
    picked_append icid (block d.0 (entries m.events)) (blocks (entries m.events) ds)
    ∙ ap (λ (r : List ℕ). picked icid (block d.0 (entries m.events)) ++ r) (picked_blocks m icid ds)
    ∙ ap (λ (r : List ℕ). r ++ lpis_of_all m ds icid) (sym (picked_short icid (block d.0 (entries m.events))))

pub intids_are : (m : Maps) (icid : ℕ) → EventsHaveDevices m → intids_of m icid ≡ lpis_of_all m (entries m.devices) icid
intids_are m icid h = ap (picked icid) (events_in_blocks m h) ∙ picked_blocks m icid (entries m.devices)
