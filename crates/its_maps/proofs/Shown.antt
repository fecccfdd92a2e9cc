-- What edits of rising entries are to the map that they show.
use Rattle.std.proofs.Common.{◌≡◌, ℕ, ◌==◌, Bool, false, not, cond, List, [], get_or, set, Some, None, is_some, refl, sym, ap, ◌∙◌, subst}
use Rattle.std.specs.List.{insert, remove}
use Rattle.std.specs.Ordering.{nat_cmp}
use Rattle.std.specs.declared.cmp.Ordering.TheVariants.{Equal}
use Rattle.std.specs.Cmp.{nat_cmp_total}
use Rattle.std.specs.FinMap as map
use Rattle.std.specs.FinMap.{FinMap, put, from_sorted, entries-from_sorted, entries-insert, same_entries_map, get-from_sorted, get-retain_keys, get-empty}
use Rattle.std.specs.FinMap.{same_map, nat_cmp-IsAntisymmetric}
use Rattle.std.specs.FinMap.Entries.{where_key, is_sorted-put, is_sorted-where_key, find-where_key}
use Rattle.its_maps.specs.MapRoom.{MapRoom, without}
use Rattle.its_maps.specs.Lending.{with_value}
use Rattle.its_maps.specs.Search.{Rises, IsAt, IsGapFor}
use Rattle.its_maps.proofs.Places.{find_at, put_at, without_at, find_gap, put_gap, without_gap}

-- a test that reads the key alone answers alike at keys that tie
pub alike : (p : ℕ → Bool) (q x : ℕ) → nat_cmp q x ≡ Equal → p x ≡ p q
alike p q x tie = ap p (sym (nat_cmp-IsAntisymmetric q x tie))

module _ {V : Type 0} where
  pub same_room : (m n : FinMap nat_cmp V) (a b : ℕ) → m ≡ n → a ≡ b → ◌≡◌ {A = MapRoom V} (record { map = m; spare = a }) (record { map = n; spare = b })
  same_room m n a b p q = λ i. record { map = p i; spare = q i }

  pub none_shown : from_sorted {X = V} {R = nat_cmp} [] ≡ map.empty
  none_shown = same_map nat_cmp_total nat_cmp-IsAntisymmetric _ _ (λ q. get-from_sorted nat_cmp [] q tt ∙ sym (get-empty nat_cmp q))

  from_put : (es : List (ℕ × V)) (k : ℕ) (v : V) → Rises es → from_sorted {R = nat_cmp} (put nat_cmp k v es) ≡ map.insert (from_sorted es) k v
  from_put es k v h =
      same_entries_map _ _ (entries-from_sorted nat_cmp (put nat_cmp k v es) (is_sorted-put nat_cmp nat_cmp_total k v es h)
      ∙ sym (entries-insert nat_cmp_total (from_sorted es) k v ∙ ap (put nat_cmp k v) (entries-from_sorted nat_cmp es h)))

  pub from_where : (es : List (ℕ × V)) (p : ℕ → Bool) → Rises es → from_sorted {R = nat_cmp} (where_key nat_cmp p es) ≡ map.retain_keys (from_sorted es) p
  from_where es p h =
      same_map nat_cmp_total nat_cmp-IsAntisymmetric _ _ (λ q.
      get-from_sorted nat_cmp (where_key nat_cmp p es) q (is_sorted-where_key nat_cmp p es h)
      ∙ find-where_key nat_cmp p q (λ x. alike p q x) es
      ∙ sym (get-retain_keys (from_sorted es) p q (λ x. alike p q x) ∙ ap (λ o. cond (p q) o None) (get-from_sorted nat_cmp es q h)))

  module _ (es : List (ℕ × V)) (rises : Rises es) (k i : ℕ) where
    pub get_at : (x : ℕ × V) → x ≡ get_or es i x → IsAt es k i → Some x.1 ≡ map.get (from_sorted {R = nat_cmp} es) k
    get_at x is at = ap (λ (e : ℕ × V). Some e.1) is ∙ sym (get-from_sorted nat_cmp es k rises ∙ find_at k es i x rises at)

    pub get_gap : IsGapFor es k i → None ≡ map.get (from_sorted {R = nat_cmp} es) k
    get_gap gap = sym (get-from_sorted nat_cmp es k rises ∙ find_gap k es i gap)

    pub has_gap : IsGapFor es k i → map.contains_key (from_sorted {R = nat_cmp} es) k ≡ false
    has_gap gap = ap is_some (sym (get_gap gap))

    pub rises_set : (v : V) → IsAt es k i → Rises (set es i (k, v))
    rises_set v at = subst Rises (put_at k v es i rises at) (is_sorted-put nat_cmp nat_cmp_total k v es rises)

    pub rises_insert : (v : V) → IsGapFor es k i → Rises (insert es i (k, v))
    rises_insert v gap = subst Rises (put_gap k v es i gap) (is_sorted-put nat_cmp nat_cmp_total k v es rises)

    pub rises_remove : IsAt es k i → Rises (remove es i)
    rises_remove at = subst Rises (without_at k es i rises at) (is_sorted-where_key nat_cmp (λ q. not (q == k)) es rises)

    pub shown_set : (v : V) → IsAt es k i → from_sorted {R = nat_cmp} (set es i (k, v)) ≡ map.insert (from_sorted es) k v
    shown_set v at = ap (λ (l : List (ℕ × V)). from_sorted l) (sym (put_at k v es i rises at)) ∙ from_put es k v rises

    pub shown_insert : (v : V) (new : List (ℕ × V)) → IsGapFor es k i → new ≡ insert es i (k, v) → from_sorted {R = nat_cmp} new ≡ map.insert
        (from_sorted es) k v
    shown_insert v new gap is = ap (λ (l : List (ℕ × V)). from_sorted l) (is ∙ sym (put_gap k v es i gap)) ∙ from_put es k v rises

    pub shown_remove : (new : List (ℕ × V)) → IsAt es k i → new ≡ remove es i → from_sorted {R = nat_cmp} new ≡ without (from_sorted es) k
    shown_remove new at is = ap (λ (l : List (ℕ × V)). from_sorted l) (is ∙ sym (without_at k es i rises at)) ∙ from_where es (λ q. not (q == k)) rises

    pub shown_absent : IsGapFor es k i → from_sorted {R = nat_cmp} es ≡ without (from_sorted es) k
    shown_absent gap = ap (λ (l : List (ℕ × V)). from_sorted l) (sym (without_gap k es i gap)) ∙ from_where es (λ q. not (q == k)) rises

    -- a value that is lent comes back at its key
    same_key : (x : ℕ × V) → x ≡ get_or es i x → IsAt es k i → x.0 ≡ k
    same_key x is at = ap (λ (e : ℕ × V). e.0) is ∙ at.has_key x

    pub rises_lent : (x : ℕ × V) → x ≡ get_or es i x → IsAt es k i → (w : V) → Rises (set es i (x.0, w))
    rises_lent x is at w = subst (λ (q : ℕ). Rises (set es i (q, w))) (sym (same_key x is at)) (rises_set w at)

    pub shown_lent : (x : ℕ × V) → x ≡ get_or es i x → (spare : ℕ) → IsAt es k i → (w : V)
        → ◌≡◌ {A = MapRoom V} (record { map = from_sorted (set es i (x.0, w)); spare = spare })
        (with_value (record { map = from_sorted es; spare = spare }) k w)
    shown_lent x is spare at w = same_room _ _ spare spare (ap (λ (q : ℕ). from_sorted (set es i (q, w))) (same_key x is at) ∙ shown_set w at) refl

  pub shown_clear : (new : List (ℕ × V)) → new ≡ [] → from_sorted {R = nat_cmp} new ≡ map.empty
  shown_clear new is = ap (λ (l : List (ℕ × V)). from_sorted l) is ∙ none_shown
