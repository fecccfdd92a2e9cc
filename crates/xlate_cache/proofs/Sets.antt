-- The set of a pair in a shard whose entries stand in their sets.
use Rattle.std.proofs.Common.{◌≡◌, ℕ, suc, ◌+◌, ◌-◌, ◌/◌, ◌<◌, ◌≤◌, Bool, true, false, ◌&&◌, ◌||◌, eqb, List, [], ◌∷◌, ◌++◌, length, get_or, take, drop}
use Rattle.std.proofs.Common.{slice_range, Some, None, Option, refl, sym, ap, ◌∙◌, inl, inr, arith}
use mathlib.Core.Bool.{false≢true}
use Rattle.std.specs.Prelude.{replicate}
use Rattle.std.specs.List.{list_any}
use Rattle.std.proofs.Math.Bool.{or-false}
use Rattle.std.proofs.lemmas.List.Folds.{list_any-append}
use Rattle.std.proofs.lemmas.Bool.{eqb-true, cases_lt}
use Rattle.std.proofs.lemmas.List.{take-append-drop, drop-drop, get_or-take, get_or-drop, get_or-replicate, get_or_past, length-take, length-take-le}
use Rattle.std.proofs.lemmas.List.{length-drop, length-replicate, length-map}
use Rattle.xlate_cache.specs.declared.entry.Entry.{Entry}
use Rattle.xlate_cache.specs.Pairs.{set_number}
use Rattle.xlate_cache.specs.Ways.{is_of, has_stamp, holds, found, first_way, dropped, no_entries, IsShard}
use Rattle.xlate_cache.specs.Laws.{FindsNothing}
use Rattle.xlate_cache.proofs.Founds.{NoneHolds, found_append, found_front, found_none, dropped_kept}

pub set_below : (dev ev : ℕ) → set_number dev ev < 64
set_below dev ev = omega arith

-- the ways of the pair's set
abbrev pub set_of : List (Option Entry) → ℕ → ℕ → List (Option Entry)
set_of ways dev ev = slice_range ways (first_way dev ev) (first_way dev ev + 4)

same_pair : (dev ev : ℕ) (e : Entry) → is_of dev ev (Some e) ≡ true → set_number e.dev.0 e.ev.0 ≡ set_number dev ev
same_pair dev ev e is = both (eqb e.dev.0 dev) refl is
  where
    both : (a : Bool) → eqb e.dev.0 dev ≡ a → (a && eqb e.ev.0 ev) ≡ true → set_number e.dev.0 e.ev.0 ≡ set_number dev ev
    both true p q = λ i. set_number (eqb-true e.dev.0 dev p i) (eqb-true e.ev.0 ev q i)
    both false p q = absurd (false≢true q)

-- no way outside the set has the pair
pub outside : (ways : List (Option Entry)) → IsShard ways → (dev ev i : ℕ) → (i / 4 ≡ set_number dev ev → ⊥) → is_of dev ev (get_or ways i None) ≡ false
outside ways shard dev ev i apart = at (get_or ways i None) refl
  where
    at : (w : Option Entry) → get_or ways i None ≡ w → is_of dev ev w ≡ false
    at None is = refl
    at (Some e) is = other (is_of dev ev (Some e)) refl
      where
        other : (t : Bool) → is_of dev ev (Some e) ≡ t → t ≡ false
        other true same = absurd (apart (shard.placed i e is ∙ same_pair dev ev e same))
        other false same = refl

not_held : (dev ev stamp : ℕ) (w : Option Entry) → is_of dev ev w ≡ false → holds dev ev stamp w ≡ false
not_held dev ev stamp w is = ap (λ t. t && has_stamp stamp w) is

none_any : (dev ev : ℕ) (ws : List (Option Entry)) → ((i : ℕ) → i < length ws → is_of dev ev (get_or ws i None) ≡ false) → list_any (is_of dev ev) ws ≡ false
none_any dev ev [] none = refl
none_any dev ev (w ∷ ws) none = ap (λ (t : Bool). t || list_any (is_of dev ev) ws) (none 0 (omega arith)) ∙ none_any dev ev ws
    (λ i lt. none (suc i) (omega arith))

module _ (ways : List (Option Entry)) (shard : IsShard ways) (dev ev : ℕ) where
  front_range : (i : ℕ) → i < first_way dev ev → i / 4 ≡ set_number dev ev → ⊥
  front_range i lt is = omega arith

  rest_range : (i : ℕ) → first_way dev ev + 4 ≤ i → i / 4 ≡ set_number dev ev → ⊥
  rest_range i le is = omega arith

  pub in_range : first_way dev ev + 4 ≤ length ways
  in_range = omega (arith, shard.size, set_below dev ev)

  four : first_way dev ev + 4 - first_way dev ev ≡ 4
  four = omega arith

  pub set_length : length (set_of ways dev ev) ≡ 4
  set_length = rw four (length-take-le 4 (drop (first_way dev ev) ways) (omega (arith, length-drop (first_way dev ev) ways, in_range)))

  pub set_at : (n : ℕ) → n < 4 → get_or (set_of ways dev ev) n None ≡ get_or ways (first_way dev ev + n) None
  set_at n lt = get_or-take (first_way dev ev + 4 - first_way dev ev) (drop (first_way dev ev) ways) n None (omega arith)
      ∙ get_or-drop (first_way dev ev) ways n None

  parts : ways ≡ take (first_way dev ev) ways ++ (set_of ways dev ev ++ drop (first_way dev ev + 4) ways)
  parts =
      sym (take-append-drop (first_way dev ev) ways)
      ∙ ap (λ (r : List (Option Entry)). take (first_way dev ev) ways ++ r) (sym (take-append-drop 4 (drop (first_way dev ev) ways))
      ∙ ap (λ (r : List (Option Entry)). take 4 (drop (first_way dev ev) ways) ++ r) (drop-drop 4 (first_way dev ev) ways)
      ∙ ap (λ n. take n (drop (first_way dev ev) ways) ++ drop (first_way dev ev + 4) ways) (sym four))

  -- outside the set no way is of the pair
  front_none : (i : ℕ) → i < length (take (first_way dev ev) ways) → is_of dev ev (get_or (take (first_way dev ev) ways) i None) ≡ false
  front_none i lt =
      let below : i < first_way dev ev = omega (arith, length-take (first_way dev ev) ways) in
      ap (is_of dev ev) (get_or-take (first_way dev ev) ways i None below) ∙ outside ways shard dev ev i (front_range i below)

  rest_none : (i : ℕ) → i < length (drop (first_way dev ev + 4) ways) → is_of dev ev (get_or (drop (first_way dev ev + 4) ways) i None) ≡ false
  rest_none i lt =
      ap (is_of dev ev) (get_or-drop (first_way dev ev + 4) ways i None) ∙ outside ways shard dev ev (first_way dev ev + 4 + i)
      (rest_range (first_way dev ev + 4 + i) (omega arith))

  pub any_in_set : list_any (is_of dev ev) (set_of ways dev ev) ≡ list_any (is_of dev ev) ways
  any_in_set =
      let of_pair = is_of dev ev in
      let front = take (first_way dev ev) ways in
      let set = set_of ways dev ev in
      let rest = drop (first_way dev ev + 4) ways in
      sym (ap (list_any of_pair) parts
      ∙ list_any-append of_pair front (set ++ rest)
      ∙ ap (λ (t : Bool). t || list_any of_pair (set ++ rest)) (none_any dev ev front front_none)
      ∙ list_any-append of_pair set rest
      ∙ ap (λ (t : Bool). list_any of_pair set || t) (none_any dev ev rest rest_none)
      ∙ or-false (list_any of_pair set))

  -- so a search of the set is one of the shard
  pub found_in_set : (stamp : ℕ) → found (set_of ways dev ev) dev ev stamp ≡ found ways dev ev stamp
  found_in_set stamp =
      let before : NoneHolds dev ev stamp (take (first_way dev ev) ways) = λ i lt. not_held dev ev stamp _ (front_none i lt) in
      let after : NoneHolds dev ev stamp (drop (first_way dev ev + 4) ways) = λ i lt. not_held dev ev stamp _ (rest_none i lt) in
      sym (ap (λ (r : List (Option Entry)). found r dev ev stamp) parts
      ∙ found_append dev ev stamp (take (first_way dev ev) ways) (set_of ways dev ev ++ drop (first_way dev ev + 4) ways) before
      ∙ found_front dev ev stamp (set_of ways dev ev) (drop (first_way dev ev + 4) ways) after)

-- ---- shards

pub none_at : (i : ℕ) → get_or no_entries i None ≡ None
unfolding no_entries
none_at i = elim (cases_lt i 256) [
  | inl lt ↦ get_or-replicate 256 i None None lt
  | inr le ↦ get_or_past (replicate 256 None) i None
      (omega (arith, length-replicate {A = Option Entry} 256 None))
]

pub nothing_found : FindsNothing no_entries
nothing_found dev ev stamp = found_none dev ev stamp no_entries (λ i lt. ap (holds dev ev stamp) (none_at i))

pub empty_shard : IsShard no_entries
unfolding no_entries
empty_shard = record { size = length-replicate {A = Option Entry} 256 None; placed = λ i e is. absurd (none_there i e is) }
  where
    is_entry : Option Entry → Bool
    is_entry None = false
    is_entry (Some e) = true

    none_there : (i : ℕ) (e : Entry) → get_or no_entries i None ≡ Some e → ⊥
    none_there i e is = false≢true (ap is_entry (sym (none_at i) ∙ is))

pub dropped_shard : (ways : List (Option Entry)) (dev ev : ℕ) → IsShard ways → IsShard (dropped ways dev ev)
dropped_shard ways dev ev shard = record {
  size = length-map ways _ ∙ shard.size;
  placed = λ i e is. shard.placed i e (dropped_kept dev ev ways i e is).0;
}
