-- One memory and one set of register values stand for at most one state.
use Rattle.std.proofs.Common.{◌≡◌, ℕ, suc, ◌+◌, ◌<◌, true, false, eqb, List, [], ◌∷◌, length, Option, Some, None, refl, sym, subst, ap, ◌∙◌, inl, inr, arith}
use Rattle.std.proofs.Common.{◌↔◌}
use Rattle.std.specs.Prelude.{◌||◌, slice_get, slice_index}
use Rattle.std.specs.List.Sorted.{IsStrictlyIncreasing}
use Rattle.std.specs.Cmp.{nat_cmp_total}
use Rattle.std.specs.FinMap as map
use Rattle.std.specs.FinMap.{nat_cmp-IsAntisymmetric, same_map}
use Rattle.std.proofs.lemmas.Bool.{cases_eq, cases_lt, eqb-true, eq-eqb, ne_eqb, or_cases}
use Rattle.guest_windows.specs.Windows.{Window}
use Rattle.gits_regs.specs.declared.values.RegValues.{RegValues}
use Rattle.its_types.specs.Lpis.{is_pending}
use Rattle.its_types.specs.Maps.{Maps}
use Rattle.its_types.specs.declared.machine.Shape.{Shape}
use Rattle.its_types.specs.declared.translation.Bases.{Bases}
use Rattle.its_types.proofs.PairOrder.{pair_total, pair_same}
use Rattle.its_plain.specs.Plain.{Plain, Translator, Redistributor}
use Rattle.its_plain.specs.declared.layout.Layout.{Layout}
use Rattle.its_plain.specs.Stands.{Stands, IsTranslatorIn, IsTranslatorFrom, AreMapsIn, IsRedistributorIn}
use Rattle.gits_regs.specs.Registers.{Registers}

-- ---- rising lists with the same elements

rest_rises : (x : ℕ) (xs : List ℕ) → IsStrictlyIncreasing (x ∷ xs) → IsStrictlyIncreasing xs
rest_rises x xs h k lt = let more : suc k + 1 ≡ suc (k + 1) = omega arith in subst (λ (j : ℕ). slice_index (x ∷ xs) (suc k) < slice_index (x ∷ xs) j) more
    (h (suc k) (omega arith))

above_first : (x : ℕ) (xs : List ℕ) → IsStrictlyIncreasing (x ∷ xs) → (y : ℕ) → is_pending y xs ≡ true → x < y
above_first x [] h y is = absurd cc
above_first x (z ∷ zs) h y is =
    let one : 0 + 1 ≡ suc 0 = omega arith in
    let up : x < z = subst (λ (j : ℕ). x < slice_index (x ∷ z ∷ zs) j) one (h 0 (omega arith)) in
    elim (or_cases (eqb z y) (is_pending y zs) is) [
      | inl same ↦ let k = eqb-true z y same in omega arith
      | inr later ↦ let k = above_first z zs (rest_rises x (z ∷ zs) h) y later in omega arith
    ]

has_first : (x : ℕ) (xs : List ℕ) → is_pending x (x ∷ xs) ≡ true
has_first x xs = ap (λ t. t || is_pending x xs) (eq-eqb x x refl)

not_smaller : (x y : ℕ) (xs ys : List ℕ) → IsStrictlyIncreasing (y ∷ ys) → ((z : ℕ) → is_pending z (x ∷ xs) ≡ is_pending z (y ∷ ys)) → x < y → ⊥
not_smaller x y xs ys h same lt =
    elim (or_cases (eqb y x) (is_pending x ys) (sym (same x) ∙ has_first x xs)) [
      | inl e ↦ let k = eqb-true y x e in omega arith
      | inr later ↦ let k = above_first y ys h x later in omega arith
    ]

first_same : (x y : ℕ) (xs ys : List ℕ) → IsStrictlyIncreasing (x ∷ xs) → IsStrictlyIncreasing (y ∷ ys)
    → ((z : ℕ) → is_pending z (x ∷ xs) ≡ is_pending z (y ∷ ys)) → x ≡ y
first_same x y xs ys hx hy same =
    elim (cases_lt x y) [
      | inl lt ↦ absurd (not_smaller x y xs ys hy same lt)
      | inr le ↦ elim (cases_lt y x) [
        | inl lt ↦ absurd (not_smaller y x ys xs hx (λ z. sym (same z)) lt)
        | inr ge ↦ omega arith
      ]
    ]

absent : (x : ℕ) (xs : List ℕ) → IsStrictlyIncreasing (x ∷ xs) → is_pending x xs ≡ false
absent x xs h =
    elim (is_pending x xs) as (λ t. is_pending x xs ≡ t → t ≡ false) [
      | true ↦ λ e. absurd (let k = above_first x xs h x e in omega arith)
      | false ↦ λ e. refl
    ] refl

rest_same : (x : ℕ) (xs ys : List ℕ) → IsStrictlyIncreasing (x ∷ xs) → IsStrictlyIncreasing (x ∷ ys) → ((z : ℕ) → is_pending z (x ∷ xs) ≡ is_pending z (x ∷ ys))
    → (z : ℕ) → is_pending z xs ≡ is_pending z ys
rest_same x xs ys hx hy same z =
    elim (cases_eq x z) [
      | inl e ↦ subst (λ (k : ℕ). is_pending k xs ≡ is_pending k ys) e (absent x xs hx ∙ sym (absent x ys hy))
      | inr apart ↦ sym (ap (λ t. t || is_pending z xs) (ne_eqb x z apart)) ∙ same z ∙ ap (λ t. t || is_pending z ys) (ne_eqb x z apart)
    ]

pub same_set : (xs ys : List ℕ) → IsStrictlyIncreasing xs → IsStrictlyIncreasing ys → ((z : ℕ) → is_pending z xs ≡ is_pending z ys) → xs ≡ ys
same_set [] [] hx hy same = refl
same_set [] (y ∷ ys) hx hy same = absurd (let two : false ≡ true = same y ∙ has_first y ys in cc)
same_set (x ∷ xs) [] hx hy same = absurd (let two : true ≡ false = sym (has_first x xs) ∙ same x in cc)
same_set (x ∷ xs) (y ∷ ys) hx hy same =
    let e = first_same x y xs ys hx hy same in
    let hy2 = subst (λ (k : ℕ). IsStrictlyIncreasing (k ∷ ys)) (sym e) hy in
    let same2 = subst (λ (k : ℕ). (z : ℕ) → is_pending z (x ∷ xs) ≡ is_pending z (k ∷ ys)) (sym e) same in
    let rest = same_set xs ys (rest_rises x xs hx) (rest_rises x ys hy2) (rest_same x xs ys hx hy2 same2) in
    λ i. e i ∷ rest i

-- ---- lists of one length whose elements are equal

same_each : {A B : Type 0} (bs : List A) (xs ys : List B) → length xs ≡ length bs → length ys ≡ length bs → ((v : ℕ) (b : A) (x y : B) → slice_get bs v ≡ Some b
    → slice_get xs v ≡ Some x → slice_get ys v ≡ Some y → x ≡ y) → xs ≡ ys
same_each [] [] [] lx ly same = refl
same_each [] [] (y ∷ ys) lx ly same = absurd (omega arith)
same_each [] (x ∷ xs) ys lx ly same = absurd (omega arith)
same_each (b ∷ bs) [] ys lx ly same = absurd (omega arith)
same_each (b ∷ bs) (x ∷ xs) [] lx ly same = absurd (omega arith)
same_each (b ∷ bs) (x ∷ xs) (y ∷ ys) lx ly same =
    let first : x ≡ y = same 0 b x y refl refl refl in
    let rest = same_each bs xs ys (omega arith) (omega arith) (λ v c p q. same (suc v) c p q) in
    λ i. first i ∷ rest i

-- ---- redistributors

redistributors_alike : (s : Shape) (memory : List Window) (b : Bases) (q r : Redistributor) → IsRedistributorIn s memory b q → IsRedistributorIn s memory b r
    → q ≡ r
redistributors_alike s memory b q r x y =
    let bases : q.bases ≡ r.bases = x.bases ∙ sym y.bases in
    let accepts : q.accepts ≡ r.accepts = x.accepts ∙ sym y.accepts in
    elim b.on as (λ t. b.on ≡ t → q ≡ r) [
      | true ↦ λ on.
          let config : q.config ≡ r.config = (let two : Some q.config ≡ Some r.config = sym (x.config on) ∙ y.config on in cc) in
          let pending : q.pending ≡ r.pending = same_set q.pending r.pending (x.pending on).rising (y.pending on).rising
          (λ z. (x.pending on).are z ∙ sym ((y.pending on).are z)) in
          λ i. record { bases = bases i; pending = pending i; accepts = accepts i; config = config i }
      | false ↦ λ off.
          let config : q.config ≡ r.config = x.off_config off ∙ sym (y.off_config off) in
          let pending : q.pending ≡ r.pending = x.off_pending off ∙ sym (y.off_pending off) in
          λ i. record { bases = bases i; pending = pending i; accepts = accepts i; config = config i }
    ] refl

-- ---- maps

alike : {X : Type 0} (x y : Option X) → ((d : X) → x ≡ Some d → y ≡ Some d) → ((d : X) → y ≡ Some d → x ≡ Some d) → x ≡ y
alike None None f g = refl
alike None (Some d) f g = g d refl
alike (Some d) y f g = sym (f d refl)

both_ways : {X : Type 0} {P : X → Type 0} (x y : Option X) → ((d : X) → (x ≡ Some d) ↔ P d) → ((d : X) → (y ≡ Some d) ↔ P d) → x ≡ y
both_ways x y f g = alike x y (λ d e. (g d).1 ((f d).0 e)) (λ d e. (f d).1 ((g d).0 e))

maps_alike : (s : Shape) (memory : List Window) (r : Registers) (m n : Maps) → AreMapsIn s memory r m → AreMapsIn s memory r n → m ≡ n
maps_alike s memory r m n a b =
    let devices : m.devices ≡ n.devices = same_map nat_cmp_total nat_cmp-IsAntisymmetric m.devices n.devices
    (λ q. both_ways (map.get m.devices q) (map.get n.devices q) (a.devices q) (b.devices q)) in
    let events : m.events ≡ n.events = same_map pair_total pair_same m.events n.events (λ q. both_ways (map.get m.events q) (map.get n.events q)
    (a.events q.0 q.1) (b.events q.0 q.1)) in
    let collections : m.collections ≡ n.collections = same_map nat_cmp_total nat_cmp-IsAntisymmetric m.collections n.collections
    (λ q. both_ways (map.get m.collections q) (map.get n.collections q) (a.collections q) (b.collections q)) in
    λ i. record { devices = devices i; events = events i; collections = collections i }

translators_alike : (s : Shape) (memory : List Window) (values : RegValues) (t w : Translator) → IsTranslatorIn s memory values t
    → IsTranslatorIn s memory values w → t ≡ w
translators_alike s memory values t w a b =
    let regs : t.regs ≡ w.regs = a.regs ∙ sym b.regs in
    let maps : t.maps ≡ w.maps = maps_alike s memory t.regs t.maps w.maps a.maps (subst (λ (r : Registers). AreMapsIn s memory r w.maps) (sym regs) b.maps) in
    λ i. record { regs = regs i; maps = maps i }

-- from values, or at reset
from_alike : (s : Shape) (memory : List Window) (values : Option RegValues) (t w : Translator) → IsTranslatorFrom s memory values t
    → IsTranslatorFrom s memory values w → t ≡ w
from_alike s memory None t w a b = a ∙ sym b
from_alike s memory (Some values) t w a b = translators_alike s memory values t w a b

-- ---- the machine

pub stands_once : (memory : List Window) (values : List (Option RegValues)) (layout : Layout) (bases : List Bases) (u v : Plain)
    → Stands memory values layout bases u → Stands memory values layout bases v → u ≡ v
stands_once memory values layout bases u v a b =
    let layouts : u.layout ≡ v.layout = a.layout_is ∙ sym b.layout_is in
    let memories : u.memory ≡ v.memory = a.memory_is ∙ sym b.memory_is in
    let tracks : u.track ≡ v.track = a.track_is ∙ sym b.track_is in
    let translators : u.translators ≡ v.translators = same_each values u.translators v.translators a.count b.count
    (λ i o t w at et ew. from_alike layout.shape memory o t w (a.translators i o t at et) (b.translators i o w at ew)) in
    let redistributors : u.redistributors ≡ v.redistributors = same_each bases u.redistributors v.redistributors a.vcpus b.vcpus
    (λ w c x y at ex ey. redistributors_alike layout.shape memory c x y (a.redistributors w c x at ex) (b.redistributors w c y at ey)) in
    λ i. record { layout = layouts i; translators = translators i; redistributors = redistributors i; memory = memories i; track = tracks i }
