-- Lists of entries whose keys rise, and the finite maps that they stand for.
use Rattle.std.proofs.Common.{◌≡◌, ℕ, Bool, List, [], None, cond, sym, ap, ◌∙◌}
use Rattle.std.specs.declared.cmp.Ordering.{Ordering}
use Rattle.std.specs.declared.cmp.Ordering.TheVariants.{Equal}
use Rattle.std.specs.Ordering.{nat_cmp}
use Rattle.std.specs.Cmp.{IsTotalOrder, nat_cmp_total}
use Rattle.std.specs.FinMap.{find, put, is_sorted, get, empty, entries, insert, retain_keys, from_sorted, get-empty, get-from_sorted, entries-from_sorted}
use Rattle.std.specs.FinMap.{entries-insert, get-retain_keys, same_entries_map, same_map, IsAntisymmetric}
use Rattle.std.specs.FinMap.Entries.{where_key, find-where_key, is_sorted-put, is_sorted-where_key}
use Rattle.std.proofs.lemmas.Cmp.{on_total, then_total}
use Rattle.std.proofs.lemmas.Map.Lookups.{exact_pairs, exact_unsigned}
use lib.Dec.{T}
use Rattle.std.specs.Prelude.{map, filter, ◌==◌}
use Rattle.its_types.specs.Maps.{pair_cmp, no_maps, device_of, event_of, collection_of}
use Rattle.its_types.specs.declared.translation.Event.{Event}
use Rattle.its_plain.specs.Commands.{intids_of}
use Rattle.plain_machine.specs.MapLists.{Rise, maps_of_lists}
use Rattle.plain_machine.specs.declared.maps.MapLists.TheInside.{Inside}

pub pair_total : IsTotalOrder pair_cmp
pair_total = then_total (on_total (λ p. p.0) nat_cmp_total) (on_total (λ p. p.1) nat_cmp_total)

pub pair_exact : IsAntisymmetric pair_cmp
pair_exact a b e = exact_pairs nat_cmp nat_cmp exact_unsigned exact_unsigned a b e

module _ {K X : Type 0} (R : K → K → Ordering) (total : IsTotalOrder R) (exact : IsAntisymmetric R) where
  -- a key's value
  pub got : (es : List (K × X)) (q : K) → T (is_sorted R es) → find R q es ≡ get (from_sorted {R = R} es) q
  got es q h = sym (get-from_sorted R es q h)

  -- a key's value set
  pub put_is : (es : List (K × X)) (k : K) (v : X) → T (is_sorted R es) → from_sorted {R = R} (put R k v es) ≡ insert (from_sorted es) k v
  put_is es k v h =
      same_entries_map _ _
      (entries-from_sorted R (put R k v es) (is_sorted-put R total k v es h)
      ∙ sym (entries-insert total (from_sorted es) k v ∙ ap (put R k v) (entries-from_sorted R es h)))

  -- the keys that pass a test
  pub kept_is : (es : List (K × X)) (p : K → Bool) → T (is_sorted R es) → from_sorted {R = R} (where_key R p es) ≡ retain_keys (from_sorted es) p
  kept_is es p h =
      same_map total exact _ _ (λ q.
      let alike : (x : K) → R q x ≡ Equal → p x ≡ p q = λ x e. ap p (sym (exact q x e)) in
      get-from_sorted R (where_key R p es) q (is_sorted-where_key R p es h) ∙ find-where_key R p q alike es
      ∙ sym (get-retain_keys (from_sorted es) p q alike ∙ ap (λ o. cond (p q) o None) (get-from_sorted R es q h)))

  -- none
  pub none_is : from_sorted {K = K} {X = X} {R = R} [] ≡ empty
  none_is = same_map total exact _ _ (λ q. get-from_sorted R [] q tt ∙ sym (get-empty R q))

  pub put_rises : (es : List (K × X)) (k : K) (v : X) → T (is_sorted R es) → T (is_sorted R (put R k v es))
  put_rises es k v h = is_sorted-put R total k v es h

  pub kept_rise : (es : List (K × X)) (p : K → Bool) → T (is_sorted R es) → T (is_sorted R (where_key R p es))
  kept_rise es p h = is_sorted-where_key R p es h

-- ---- where nothing is mapped

pub no_device : (dev : ℕ) → device_of no_maps dev ≡ None
no_device dev = get-empty nat_cmp dev

pub no_event : (dev ev : ℕ) → event_of no_maps dev ev ≡ None
no_event dev ev = get-empty pair_cmp (dev, ev)

pub no_collection : (icid : ℕ) → collection_of no_maps icid ≡ None
no_collection icid = get-empty nat_cmp icid

-- the empty map has no entry
no_entries : {K X : Type 0} (R : K → K → Ordering) → IsTotalOrder R → IsAntisymmetric R → entries (empty {K = K} {X = X} {R = R}) ≡ []
no_entries {K} {X} R total exact = ap entries (sym (none_is {K = K} {X = X} R total exact)) ∙ entries-from_sorted R [] tt

pub no_intids : (icid : ℕ) → intids_of no_maps icid ≡ []
no_intids icid = ap (λ (es : List ((ℕ × ℕ) × Event)). map (λ e. e.1.intid.0) (filter (λ e. e.1.icid.0 == icid) es)) (no_entries pair_cmp pair_total pair_exact)

-- ---- the entries that lists of entries stand for

pub listed_devices : (m : Inside) → Rise m → entries (maps_of_lists m).devices ≡ m.devices.items
listed_devices m r = entries-from_sorted nat_cmp m.devices.items r.devices

pub listed_events : (m : Inside) → Rise m → entries (maps_of_lists m).events ≡ m.events.items
listed_events m r = entries-from_sorted pair_cmp m.events.items r.events

pub listed_collections : (m : Inside) → Rise m → entries (maps_of_lists m).collections ≡ m.collections.items
listed_collections m r = entries-from_sorted nat_cmp m.collections.items r.collections
