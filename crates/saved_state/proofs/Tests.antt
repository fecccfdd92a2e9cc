-- What the tests of a save say of its areas.
use Rattle.std.proofs.Common.{◌≡◌, ◌⊎◌, ℕ, zero, suc, ◌+◌, Bool, true, false, not, cond, List, [], ◌∷◌, Option, Some, None, Result, Ok, Err, refl, sym, subst}
use Rattle.std.proofs.Common.{ap, ◌∙◌, inl, inr}
use Rattle.std.specs.Prelude.{◌&&◌, ◌||◌, nat_lt, find, slice_get}
use Rattle.std.specs.List.{AllByRecursion}
use Rattle.std.specs.FinMap.{entries}
use Rattle.std.proofs.lemmas.Bool.{lt-ltb, cases_lt}
use Rattle.std.proofs.lemmas.Option.{same_Some}
use Rattle.guest_windows.specs.Windows.{Window, inside}
use Rattle.its_types.specs.declared.translation.Device.{Device}
use Rattle.its_plain.specs.Plain.{Plain, Translator}
use Rattle.its_plain.specs.declared.area.Area.{Area}
use Rattle.its_plain.specs.Regions.{◌>>=◌, is_outside, has_no_place, first_unplaced, all_placed, clash, none_overlap, tables_of, areas_of, savable}
use Rattle.its_plain.specs.declared.fault.SaveFault.{SaveFault}
use Rattle.its_plain.specs.declared.fault.SaveFault.TheVariants.{NoPlace, Outside, Overlap}
use Rattle.its_plain.specs.Saved.{IsSavable}
use Rattle.saved_state.specs.Laws.{Apart}

-- ---- a search that finds none

cond_none : {X : Type 0} (b : Bool) (x : X) (o : Option X) → cond b (Some x) o ≡ None → (b ≡ false) × (o ≡ None)
cond_none true x o e = absurd cc
cond_none false x o e = (refl, e)

pub none_found : {X : Type 0} (p : X → Bool) (xs : List X) → find p xs ≡ None → AllByRecursion (λ x. p x ≡ false) xs
none_found p [] e = tt
none_found p (x ∷ xs) e = let both = cond_none (p x) x (find p xs) e in (both.0, none_found p xs both.1)

-- ---- the three tests

abbrev outside_fault : Option Area → Result (Unit {0}) SaveFault
outside_fault None = Ok tt
outside_fault (Some a) = Err (Outside a.region)

abbrev placed_or : ℕ → Option (ℕ × Device) → Result (Unit {0}) SaveFault → Result (Unit {0}) SaveFault
placed_or i None rest = rest
placed_or i (Some d) rest = Err (NoPlace i (record { 0 = d.0 }))

abbrev overlap_or : Area → Option Area → Result (Unit {0}) SaveFault → Result (Unit {0}) SaveFault
overlap_or a None rest = rest
overlap_or a (Some b) rest = Err (Overlap a.region b.region)

outside_none : (o : Option Area) (rest : Result (Unit {0}) SaveFault) → (outside_fault o >>= λ _. rest) ≡ Ok tt → (o ≡ None) × (rest ≡ Ok tt)
outside_none None rest e = (refl, e)
outside_none (Some a) rest e = absurd cc

then_both : (r rest : Result (Unit {0}) SaveFault) → (r >>= λ _. rest) ≡ Ok tt → (r ≡ Ok tt) × (rest ≡ Ok tt)
then_both (Ok done) rest e = (refl, e)
then_both (Err f) rest e = absurd cc

placed_none : (i : ℕ) (o : Option (ℕ × Device)) (rest : Result (Unit {0}) SaveFault) → placed_or i o rest ≡ Ok tt → (o ≡ None) × (rest ≡ Ok tt)
placed_none i None rest e = (refl, e)
placed_none i (Some d) rest e = absurd cc

overlap_none : (a : Area) (o : Option Area) (rest : Result (Unit {0}) SaveFault) → overlap_or a o rest ≡ Ok tt → (o ≡ None) × (rest ≡ Ok tt)
overlap_none a None rest e = (refl, e)
overlap_none a (Some b) rest e = absurd cc

-- each lies in one window
abbrev pub AllInside : List Window → List Area → Type 0
AllInside memory areas = AllByRecursion (λ a. inside memory a.base a.size ≡ true) areas

-- each device of the translator has a place
abbrev pub AllPlaced : List Window → Translator → Type 0
AllPlaced memory t = AllByRecursion (λ d. has_no_place t.regs memory d ≡ false) (entries t.maps.devices)

-- none clashes with a later one
abbrev pub NoneClash : List Area → Type 0
NoneClash [] = Unit {0}
NoneClash (a ∷ areas) = AllByRecursion (λ b. clash a b ≡ false) areas × NoneClash areas

pub record Tested (u : Plain) : Type 0 where
  pub inside : AllInside u.memory (tables_of u)
  pub placed : AllByRecursion (AllPlaced u.memory) u.translators
  pub apart : NoneClash (areas_of u)

not_false : (b : Bool) → not b ≡ false → b ≡ true
not_false true e = refl
not_false false e = absurd cc

all_inside : (memory : List Window) (areas : List Area) → AllByRecursion (λ a. is_outside memory a ≡ false) areas → AllInside memory areas
all_inside memory [] all = tt
all_inside memory (a ∷ areas) all = (not_false (inside memory a.base a.size) all.0, all_inside memory areas all.1)

all_have_places : (memory : List Window) (i : ℕ) (ts : List Translator) → all_placed memory i ts ≡ Ok tt → AllByRecursion (AllPlaced memory) ts
all_have_places memory i [] e = tt
all_have_places memory i (t ∷ ts) e =
    let both = placed_none i (first_unplaced memory t) (all_placed memory (suc i) ts) e in
    (none_found (has_no_place t.regs memory) (entries t.maps.devices) both.0, all_have_places memory (suc i) ts both.1)

none_clash : (areas : List Area) → none_overlap areas ≡ Ok tt → NoneClash areas
none_clash [] e = tt
none_clash (a ∷ areas) e = let both = overlap_none a (find (clash a) areas)
    (none_overlap areas) e in (none_found (clash a) areas both.0, none_clash areas both.1)

pub tested : (u : Plain) → IsSavable u → Tested u
unfolding savable
tested u e =
    let one = outside_none (find (is_outside u.memory) (tables_of u)) (all_placed u.memory 0 u.translators >>= λ _. none_overlap (areas_of u)) e in
    let two = then_both (all_placed u.memory 0 u.translators) (none_overlap (areas_of u)) one.1 in
    record {
      inside = all_inside u.memory (tables_of u) (none_found (is_outside u.memory) (tables_of u) one.0);
      placed = all_have_places u.memory 0 u.translators two.0;
      apart = none_clash (areas_of u) two.1;
    }

-- ---- spans that are written

-- a stretch: where it begins, and how many bytes it has
abbrev pub span : Area → ℕ × ℕ
span a = (a.base, a.size)

abbrev pub written_spans : List Area → List (ℕ × ℕ)
written_spans [] = []
written_spans (a ∷ areas) = cond a.is_written (span a ∷ written_spans areas) (written_spans areas)

-- it shares no byte with a stretch
abbrev pub Avoids : ℕ × ℕ → ℕ × ℕ → Type 0
Avoids s r = Apart r.0 r.1 s.0 s.1

abbrev pub AllAvoid : List (ℕ × ℕ) → Type 0
AllAvoid [] = Unit {0}
AllAvoid (s ∷ ss) = AllByRecursion (Avoids s) ss × AllAvoid ss

and_false : (a b : Bool) → (a && b) ≡ false → (a ≡ false) ⊎ (b ≡ false)
and_false true b e = inr e
and_false false b e = inl refl

pub no_clash : (a b : Area) → (a.is_written || b.is_written) ≡ true → clash a b ≡ false → Apart a.base a.size b.base b.size
no_clash a b some e =
    let tests : (nat_lt a.base (b.base + b.size) && nat_lt b.base (a.base + a.size)) ≡ false =
    sym (ap (λ (t : Bool). t && nat_lt a.base (b.base + b.size) && nat_lt b.base (a.base + a.size)) some) ∙ e in
    elim (cases_lt a.base (b.base + b.size)) [
      | inl one ↦ elim (cases_lt b.base (a.base + a.size)) [
        | inl two ↦ absurd (let both : true ≡ false = sym (ap (λ (t : Bool). t && nat_lt b.base (a.base + a.size)) (lt-ltb a.base (b.base + b.size) one)
            ∙ lt-ltb b.base (a.base + a.size) two) ∙ tests in cc)
        | inr le ↦ inl le
      ]
      | inr le ↦ inr le
    ]

swapped : (a m b n : ℕ) → Apart a m b n → Apart b n a m
swapped a m b n (inl e) = inr e
swapped a m b n (inr e) = inl e

or_right : (a b : Bool) → b ≡ true → (a || b) ≡ true
or_right true b e = refl
or_right false b e = e

or_left : (a b : Bool) → a ≡ true → (a || b) ≡ true
or_left a b e = ap (λ t. t || b) e

-- of a later one that is written
later_avoid : (a : Area) (areas : List Area) → AllByRecursion (λ b. clash a b ≡ false) areas → AllByRecursion (Avoids (span a)) (written_spans areas)
later_avoid a [] all = tt
later_avoid a (b ∷ areas) all =
    elim b.is_written as (λ w. b.is_written ≡ w → AllByRecursion (Avoids (span a)) (cond w (span b ∷ written_spans areas) (written_spans areas))) [
      | true ↦ λ e. (swapped a.base a.size b.base b.size (no_clash a b (or_right a.is_written b.is_written e) all.0), later_avoid a areas all.1)
      | false ↦ λ e. later_avoid a areas all.1
    ] refl

pub all_avoid : (areas : List Area) → NoneClash areas → AllAvoid (written_spans areas)
all_avoid [] none = tt
all_avoid (a ∷ areas) none =
    elim a.is_written as (λ w. a.is_written ≡ w → AllAvoid (cond w (span a ∷ written_spans areas) (written_spans areas))) [
      | true ↦ λ e. (later_avoid a areas none.0, all_avoid areas none.1)
      | false ↦ λ e. all_avoid areas none.1
    ] refl

pub at_place : {X : Type 0} (P : X → Type 0) (xs : List X) (k : ℕ) (x : X) → AllByRecursion P xs → slice_get xs k ≡ Some x → P x
at_place P [] k x all e = absurd cc
at_place P (y ∷ xs) zero x all e = subst P (same_Some y x e) all.0
at_place P (y ∷ xs) (suc k) x all e = at_place P xs k x all.1 e

-- one that isn't written shares no byte with any that is
pub read_avoid : (areas : List Area) → NoneClash areas → (k : ℕ) (a : Area) → slice_get areas k ≡ Some a → a.is_written ≡ false
    → AllByRecursion (Avoids (span a)) (written_spans areas)
read_avoid [] none k a at e = absurd cc
read_avoid (b ∷ areas) none zero a at e =
    let same : b ≡ a = same_Some b a at in
    let unwritten : b.is_written ≡ false = ap (λ (x : Area). x.is_written) same ∙ e in
    subst (λ (x : Area). AllByRecursion (Avoids (span x)) (written_spans (b ∷ areas))) same
    (subst (λ (w : Bool). AllByRecursion (Avoids (span b)) (cond w (span b ∷ written_spans areas) (written_spans areas))) (sym unwritten)
    (later_avoid b areas none.0))
read_avoid (b ∷ areas) none (suc k) a at e =
    elim b.is_written as (λ w. b.is_written ≡ w → AllByRecursion (Avoids (span a)) (cond w (span b ∷ written_spans areas) (written_spans areas))) [
      | true ↦ λ w. (
        no_clash b a (or_left b.is_written a.is_written w) (at_place (λ c. clash b c ≡ false) areas k a none.0 at),
        read_avoid areas none.1 k a at
            e,
      )
      | false ↦ λ w. read_avoid areas none.1 k a at e
    ] refl

-- a stretch that each written area leaves alone
pub others_avoid : (b n : ℕ) (areas : List Area) → ((k : ℕ) (a : Area) → slice_get areas k ≡ Some a → a.is_written ≡ true → Apart a.base a.size b n)
    → AllByRecursion (Avoids (b, n)) (written_spans areas)
others_avoid b n [] h = tt
others_avoid b n (a ∷ areas) h =
    elim a.is_written as (λ w. a.is_written ≡ w → AllByRecursion (Avoids (b, n)) (cond w (span a ∷ written_spans areas) (written_spans areas))) [
      | true ↦ λ e. (h 0 a refl e, others_avoid b n areas (λ k x at w. h (suc k) x at w))
      | false ↦ λ e. others_avoid b n areas (λ k x at w. h (suc k) x at w)
    ] refl
