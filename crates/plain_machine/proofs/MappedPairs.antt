-- The listed pairs are those that are mapped.
use Rattle.std.proofs.Common.{◌≡◌, ℕ, Bool, ◌&&◌, ◌||◌, ◌==◌, List, [], ◌∷◌, refl, sym, ap, subst, ◌∙◌, map, rules, tests}
use Rattle.std.specs.Prelude.{Result, Ok, Err, IfOk}
use Rattle.std.specs.List.{list_any}
use Rattle.std.specs.Ordering.{nat_cmp, eq_by_cmp, is_eq, ordering_then}
use Rattle.std.specs.Cmp.{unsigned_tied}
use Rattle.std.specs.declared.cmp.Ordering.{Ordering}
use Rattle.std.specs.declared.cmp.Ordering.TheVariants.{Less, Equal, Greater}
use Rattle.std.specs.FinMap.{entries, contains_key-keys}
use Rattle.its_types.specs.declared.ids.DeviceId.{DeviceId}
use Rattle.its_types.specs.declared.ids.EventId.{EventId}
use Rattle.its_types.specs.declared.translation.Event.{Event}
use Rattle.its_types.specs.Maps.{Maps, pair_cmp, is_pair}
use Rattle.plain_machine.specs.MappedPairs.{pair_of, mapped_pairs, is_among, AreMapped}

then_ties : (a b : Ordering) → is_eq (ordering_then a b) ≡ (is_eq a && is_eq b)
then_ties Less b = refl
then_ties Equal b = refl
then_ties Greater b = refl

swapped : (x y : ℕ) → (x == y) ≡ (y == x)
swapped x y = search (rules, tests)

one_tied : (x y : ℕ) → is_eq (nat_cmp x y) ≡ (y == x)
one_tied x y = unsigned_tied x y ∙ swapped x y

-- a key is the pair's exactly where the order does not tell them apart
tied : (dev ev : ℕ) (k : ℕ × ℕ) → eq_by_cmp pair_cmp (dev, ev) k ≡ is_pair dev ev k
tied dev ev k = then_ties (nat_cmp dev k.0) (nat_cmp ev k.1) ∙ ap (λ (t : Bool). t && is_eq (nat_cmp ev k.1)) (one_tied dev k.0)
    ∙ ap (λ (t : Bool). (k.0 == dev) && t) (one_tied ev k.1)

among_keys : (dev ev : ℕ) (es : List ((ℕ × ℕ) × Event)) → is_among (map pair_of es) dev ev ≡ list_any (eq_by_cmp pair_cmp (dev, ev)) (map (λ e. e.0) es)
among_keys dev ev [] = refl
among_keys dev ev (e ∷ es) =
    ap (λ (t : Bool). t || is_among (map pair_of es) dev ev) (sym (tied dev ev e.0)) ∙ ap (λ (t : Bool). eq_by_cmp pair_cmp (dev, ev) e.0 || t)
    (among_keys dev ev es)

pub all_mapped : (m : Maps) → AreMapped m (mapped_pairs m)
all_mapped m dev ev = among_keys dev ev (entries m.events) ∙ sym (contains_key-keys m.events (dev, ev))

-- where there is a list
pub if_mapped : {V E : Type 0} (m : Maps) (items : V → List (DeviceId × EventId)) (r : Result V E) → IfOk r (λ v. items v ≡ mapped_pairs m)
    → IfOk r (λ v. AreMapped m (items v))
if_mapped m items (Ok v) is = subst (AreMapped m) (sym is) (all_mapped m)
if_mapped m items (Err e) is = tt
