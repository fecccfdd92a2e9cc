-- The laws of fills, drops and emptying.
use Rattle.std.proofs.Common.{◌≡◌, ℕ, ◌+◌, ◌-◌, ◌/◌, ◌<◌, ◌≤◌, true, false, cond, ◌&&◌, List, length, get_or, set, Some, None, Option, unwrap_or, refl, sym}
use Rattle.std.proofs.Common.{ap, ◌∙◌, subst, inl, inr, arith}
use Rattle.std.proofs.lemmas.Bool.{eq-eqb, cases_eq, cases_lt}
use Rattle.std.proofs.lemmas.List.{get_or-set_same, get_or-set_other, length-set, length-map, get_or-map, get_or_default, same_lists}
use Rattle.xlate_cache.specs.declared.entry.Entry.{Entry}
use Rattle.xlate_cache.specs.Pairs.{set_number}
use Rattle.xlate_cache.specs.Ways.{is_of, has_stamp, holds, target_in, chosen, first_way, way_taken, filled, dropped, IsShard}
use Rattle.xlate_cache.specs.Laws.{FindsFill, LeavesOthers, TakesFromSet, TakesCurrentIfFull, AddsOne, Drops, IsLawfulFill}
use Rattle.xlate_cache.proofs.Founds.{found_at, found_set, dropped_none, dropped_others}
use Rattle.xlate_cache.proofs.Choices.{IsChoice, is_choice}
use Rattle.xlate_cache.proofs.Sets.{set_of, outside, in_range, set_length, set_at}

holds_itself : (e : Entry) → holds e.dev.0 e.ev.0 e.stamp (Some e) ≡ true
holds_itself e = (λ i. (eq-eqb e.dev.0 e.dev.0 refl i && eq-eqb e.ev.0 e.ev.0 refl i) && eq-eqb e.stamp e.stamp refl i)

module _ (ways : List (Option Entry)) (shard : IsShard ways) (e : Entry) where
  choice : IsChoice (set_of ways e.dev.0 e.ev.0) e.dev.0 e.ev.0 e.stamp (chosen (set_of ways e.dev.0 e.ev.0) e.dev.0 e.ev.0 e.stamp)
  choice = is_choice (set_of ways e.dev.0 e.ev.0) (omega (arith, set_length ways shard e.dev.0 e.ev.0)) e.dev.0 e.ev.0 e.stamp

  of_four : chosen (set_of ways e.dev.0 e.ev.0) e.dev.0 e.ev.0 e.stamp < 4
  of_four = omega (arith, choice.in_range, set_length ways shard e.dev.0 e.ev.0)

  taken_in_range : way_taken ways e.dev.0 e.ev.0 e.stamp < length ways
  taken_in_range = omega (arith, of_four, in_range ways shard e.dev.0 e.ev.0)

  pub takes_from_set : TakesFromSet ways e
  takes_from_set = let lt = of_four in omega arith

  -- no earlier way has the pair
  none_before : (j : ℕ) → j < way_taken ways e.dev.0 e.ev.0 e.stamp → is_of e.dev.0 e.ev.0 (get_or ways j None) ≡ false
  none_before j lt =
      elim (cases_lt j (first_way e.dev.0 e.ev.0)) [
        | inl front ↦ outside ways shard e.dev.0 e.ev.0 j (λ is. omega arith)
        | inr inside ↦
            let n : j ≡ first_way e.dev.0 e.ev.0 + (j - first_way e.dev.0 e.ev.0) = omega arith in
            let less : j - first_way e.dev.0 e.ev.0 < chosen (set_of ways e.dev.0 e.ev.0) e.dev.0 e.ev.0 e.stamp = omega arith in
            let four = of_four in
            ap (λ k. is_of e.dev.0 e.ev.0 (get_or ways k None)) n
            ∙ ap (is_of e.dev.0 e.ev.0) (sym (set_at ways shard e.dev.0 e.ev.0 (j - first_way e.dev.0 e.ev.0) (omega arith)))
            ∙ choice.first (j - first_way e.dev.0 e.ev.0) less
      ]

  pub finds_fill : FindsFill ways e
  finds_fill =
      let place = way_taken ways e.dev.0 e.ev.0 e.stamp in
      let here = get_or-set_same ways place (Some e) None taken_in_range in
      found_at e.dev.0 e.ev.0 e.stamp (filled ways e) place (subst (λ n. place < n) (sym (length-set ways place (Some e))) taken_in_range)
      (ap (holds e.dev.0 e.ev.0 e.stamp) here ∙ holds_itself e)
      (λ j lt. ap (holds e.dev.0 e.ev.0 e.stamp) (get_or-set_other ways place j (Some e) None (λ same. omega arith))
      ∙ ap (λ t. t && has_stamp e.stamp (get_or ways j None)) (none_before j lt))
      ∙ ap target_in here

  pub leaves_others : LeavesOthers ways e
  leaves_others dev ev stamp new old = found_set dev ev stamp ways (way_taken ways e.dev.0 e.ev.0 e.stamp) (Some e) new old

  pub takes_current_if_full : TakesCurrentIfFull ways e
  takes_current_if_full other current n lt =
      let here = set_at ways shard e.dev.0 e.ev.0 (chosen (set_of ways e.dev.0 e.ev.0) e.dev.0 e.ev.0 e.stamp) of_four in
      let there = set_at ways shard e.dev.0 e.ev.0 n lt in
      let all = choice.full (ap (is_of e.dev.0 e.ev.0) here ∙ other) (ap (has_stamp e.stamp) here ∙ current) n
      (omega (arith, set_length ways shard e.dev.0 e.ev.0)) in
      (ap (is_of e.dev.0 e.ev.0) (sym there) ∙ all.0, ap (has_stamp e.stamp) (sym there) ∙ all.1)

pub filled_lawful : (ways : List (Option Entry)) (e : Entry) → IsShard ways → IsLawfulFill ways e
filled_lawful ways e shard = record {
  found = finds_fill ways shard e;
  others = leaves_others ways shard e;
  set = takes_from_set ways shard e;
  current = takes_current_if_full ways shard e;
  entries = adds;
  shard = record { size = length-set ways (way_taken ways e.dev.0 e.ev.0 e.stamp) (Some e) ∙ shard.size; placed = stands };
}
  where
    same_entry : (f g : Entry) → Some f ≡ Some g → f ≡ g
    same_entry f g is = ap (λ o. unwrap_or o f) is

    here : get_or (filled ways e) (way_taken ways e.dev.0 e.ev.0 e.stamp) None ≡ Some e
    here = get_or-set_same ways (way_taken ways e.dev.0 e.ev.0 e.stamp) (Some e) None (taken_in_range ways shard e)

    adds : AddsOne ways e
    adds i f is = elim (cases_eq i (way_taken ways e.dev.0 e.ev.0 e.stamp)) [
      | inl at ↦ inl (same_entry f e (sym is ∙ ap (λ k. get_or (filled ways e) k None) at ∙ here))
      | inr other ↦ inr (sym (get_or-set_other ways (way_taken ways e.dev.0 e.ev.0 e.stamp) i (Some e) None other) ∙ is)
    ]

    stands : (i : ℕ) (f : Entry) → get_or (filled ways e) i None ≡ Some f → i / 4 ≡ set_number f.dev.0 f.ev.0
    stands i f is = elim (cases_eq i (way_taken ways e.dev.0 e.ev.0 e.stamp)) [
      | inl at ↦ ap (λ k. k / 4) at ∙ takes_from_set ways shard e ∙ ap (λ g. set_number g.dev.0 g.ev.0)
          (sym (same_entry f e (sym is ∙ ap (λ k. get_or (filled ways e) k None) at ∙ here)))
      | inr other ↦ shard.placed i f (sym (get_or-set_other ways (way_taken ways e.dev.0 e.ev.0 e.stamp) i (Some e) None other) ∙ is)
    ]

pub drops : (ways : List (Option Entry)) (dev ev : ℕ) → Drops ways dev ev
drops ways dev ev = record { pair = λ stamp. dropped_none dev ev stamp ways; others = λ d e stamp apart. dropped_others dev ev d e stamp ways apart }

-- ---- a loop over the ways of a set drops the pair from the shard

-- some ways are done, the others are as they were
pub record IsPartlyDropped (old new : List (Option Entry)) (dev ev way : ℕ) : Type 0 where
  pub size : length new ≡ 256
  pub done : (k : ℕ) → k < way → get_or new k None ≡ cond (is_of dev ev (get_or old k None)) None (get_or old k None)
  pub left : (k : ℕ) → way ≤ k → get_or new k None ≡ get_or old k None

pub drop_begins : (ways : List (Option Entry)) → IsShard ways → (dev ev : ℕ) → IsPartlyDropped ways ways dev ev (first_way dev ev)
drop_begins ways shard dev ev = record {
  size = shard.size;
  done = λ k lt. sym (ap (λ t. cond t None (get_or ways k None)) (outside ways shard dev ev k (λ is. omega arith)));
  left = λ k le. refl;
}

-- a way of the pair is emptied
pub drop_more : (old new : List (Option Entry)) (dev ev way : ℕ) → IsPartlyDropped old new dev ev way → way < 256 → is_of dev ev (get_or new way None) ≡ true
    → IsPartlyDropped old (set new way None) dev ev (way + 1)
drop_more old new dev ev way part lt is = record {
  size = length-set new way None ∙ part.size;
  done = done;
  left = λ k le. get_or-set_other new way k None None (λ same. omega arith) ∙ part.left k (omega arith);
}
  where
    here : get_or (set new way None) way None ≡ cond (is_of dev ev (get_or old way None)) None (get_or old way None)
    here = get_or-set_same new way None None (omega (arith, part.size))
        ∙ sym (ap (λ t. cond t None (get_or old way None)) (ap (is_of dev ev) (sym (part.left way (omega arith))) ∙ is))

    done : (k : ℕ) → k < way + 1 → get_or (set new way None) k None ≡ cond (is_of dev ev (get_or old k None)) None (get_or old k None)
    done k less = elim (cases_eq k way) [
      | inl same ↦ subst (λ n. get_or (set new way None) n None ≡ cond (is_of dev ev (get_or old n None)) None (get_or old n None)) (sym same) here
      | inr other ↦ get_or-set_other new way k None None other ∙ part.done k (omega arith)
    ]

-- another way stays
pub keep_more : (old new : List (Option Entry)) (dev ev way : ℕ) → IsPartlyDropped old new dev ev way → is_of dev ev (get_or new way None) ≡ false
    → IsPartlyDropped old new dev ev (way + 1)
keep_more old new dev ev way part is = record { size = part.size; done = done; left = λ k le. part.left k (omega arith) }
  where
    here : get_or new way None ≡ cond (is_of dev ev (get_or old way None)) None (get_or old way None)
    here = part.left way (omega arith) ∙ sym (ap (λ t. cond t None (get_or old way None)) (ap (is_of dev ev) (sym (part.left way (omega arith))) ∙ is))

    done : (k : ℕ) → k < way + 1 → get_or new k None ≡ cond (is_of dev ev (get_or old k None)) None (get_or old k None)
    done k less = elim (cases_eq k way) [
      | inl same ↦ subst (λ n. get_or new n None ≡ cond (is_of dev ev (get_or old n None)) None (get_or old n None)) (sym same) here
      | inr other ↦ part.done k (omega arith)
    ]

pub drop_ends : (old new : List (Option Entry)) → IsShard old → (dev ev : ℕ) → IsPartlyDropped old new dev ev (first_way dev ev + 4) → new ≡ dropped old dev ev
drop_ends old new shard dev ev part = same_lists new (dropped old dev ev) (part.size ∙ sym (length-map old _ ∙ shard.size)) at
  where
    clear : Option Entry → Option Entry
    clear w = cond (is_of dev ev w) None w

    kept : (k : ℕ) → first_way dev ev + 4 ≤ k → get_or new k None ≡ cond (is_of dev ev (get_or old k None)) None (get_or old k None)
    kept k le = part.left k le ∙ sym (ap (λ t. cond t None (get_or old k None)) (outside old shard dev ev k (λ is. omega arith)))

    each : (k : ℕ) → get_or new k None ≡ cond (is_of dev ev (get_or old k None)) None (get_or old k None)
    each k = elim (cases_lt k (first_way dev ev + 4)) [ inl lt ↦ part.done k lt | inr le ↦ kept k le ]

    at : (k : ℕ) (d : Option Entry) → k < length new → get_or new k d ≡ get_or (dropped old dev ev) k d
    at k d lt =
        get_or_default new k d None lt ∙ each k
        ∙ sym (get_or-map (λ w. cond (is_of dev ev w) None w) old k None d (omega (arith, part.size, shard.size)))
