-- What is found in some ways.
use Rattle.std.proofs.Common.{◌≡◌, ℕ, zero, suc, ◌<◌, Bool, true, false, cond, ◌&&◌, eqb, List, [], ◌∷◌, ◌++◌, length, get_or, set, Some, None, Option}
use Rattle.std.proofs.Common.{MatchOption, refl, sym, ap, ◌∙◌, arith}
use mathlib.Core.Bool.{false≢true}
use Rattle.std.proofs.lemmas.Bool.{eqb-true}
use Rattle.its_types.specs.declared.ids.Target.{Target}
use Rattle.xlate_cache.specs.declared.entry.Entry.{Entry}
use Rattle.xlate_cache.specs.Ways.{is_of, has_stamp, holds, target_in, found, dropped}
use Rattle.xlate_cache.specs.Laws.{FindsEntry}

module _ (dev ev stamp : ℕ) where
  -- none of them holds it
  abbrev pub NoneHolds : List (Option Entry) → Type 0
  NoneHolds ws = (i : ℕ) → i < length ws → holds dev ev stamp (get_or ws i None) ≡ false

  pub found_append : (xs ys : List (Option Entry)) → NoneHolds xs → found (xs ++ ys) dev ev stamp ≡ found ys dev ev stamp
  found_append [] ys unheld = refl
  found_append (x ∷ xs) ys unheld =
      ap (λ t. cond t (target_in x) (found (xs ++ ys) dev ev stamp)) (unheld 0 (omega arith))
      ∙ found_append xs ys (λ i lt. unheld (suc i) (omega arith))

  pub found_none : (ws : List (Option Entry)) → NoneHolds ws → found ws dev ev stamp ≡ None
  found_none [] unheld = refl
  found_none (w ∷ ws) unheld =
      ap (λ t. cond t (target_in w) (found ws dev ev stamp)) (unheld 0 (omega arith))
      ∙ found_none ws (λ i lt. unheld (suc i) (omega arith))

  pub found_front : (xs ys : List (Option Entry)) → NoneHolds ys → found (xs ++ ys) dev ev stamp ≡ found xs dev ev stamp
  found_front [] ys unheld = found_none ys unheld
  found_front (x ∷ xs) ys unheld = ap (λ r. cond (holds dev ev stamp x) (target_in x) r) (found_front xs ys unheld)

  -- the first that holds it
  pub found_at : (ws : List (Option Entry)) (i : ℕ) → i < length ws → holds dev ev stamp (get_or ws i None) ≡ true
      → ((j : ℕ) → j < i → holds dev ev stamp (get_or ws j None) ≡ false) → found ws dev ev stamp ≡ target_in (get_or ws i None)
  found_at [] i lt here before = absurd (omega arith)
  found_at (w ∷ ws) zero lt here before = ap (λ t. cond t (target_in w) (found ws dev ev stamp)) here
  found_at (w ∷ ws) (suc i) lt here before =
      ap (λ t. cond t (target_in w) (found ws dev ev stamp)) (before 0 (omega arith))
      ∙ found_at ws i (omega arith) here (λ j less. before (suc j) (omega arith))

  -- a way that doesn't hold it gets another that doesn't
  pub found_set : (ws : List (Option Entry)) (i : ℕ) (x : Option Entry) → holds dev ev stamp x ≡ false → holds dev ev stamp (get_or ws i None) ≡ false
      → found (set ws i x) dev ev stamp ≡ found ws dev ev stamp
  found_set [] i x new old = refl
  found_set (w ∷ ws) zero x new old =
      ap (λ t. cond t (target_in x) (found ws dev ev stamp)) new
      ∙ sym (ap (λ t. cond t (target_in w) (found ws dev ev stamp)) old)
  found_set (w ∷ ws) (suc i) x new old = ap (λ r. cond (holds dev ev stamp w) (target_in w) r) (found_set ws i x new old)

  -- what is found is an entry, and else there is none
  pub finds : (ws : List (Option Entry)) → FindsEntry ws dev ev stamp
  finds [] = λ i. refl
  finds (w ∷ ws) = first (holds dev ev stamp w) refl (finds ws)
    where
      here : (o : Option Entry) → holds dev ev stamp o ≡ true → MatchOption (target_in o) ((i : ℕ) → holds dev ev stamp (get_or (o ∷ ws) i None) ≡ false)
          (λ target. (i : ℕ) × (holds dev ev stamp (get_or (o ∷ ws) i None) ≡ true) × (target_in (get_or (o ∷ ws) i None) ≡ Some target))
      here None held = absurd (false≢true held)
      here (Some e) held = (0, held, refl)

      later : (o : Option Target) → holds dev ev stamp w ≡ false
          → MatchOption o ((i : ℕ) → holds dev ev stamp (get_or ws i None) ≡ false) (λ target. (i : ℕ) × (holds dev ev stamp (get_or ws i None) ≡ true)
          × (target_in (get_or ws i None) ≡ Some target))
          → MatchOption o ((i : ℕ) → holds dev ev stamp (get_or (w ∷ ws) i None) ≡ false)
          (λ target. (i : ℕ) × (holds dev ev stamp (get_or (w ∷ ws) i None) ≡ true) × (target_in (get_or (w ∷ ws) i None) ≡ Some target))
      later None unheld rest = after
        where
          after : (i : ℕ) → holds dev ev stamp (get_or (w ∷ ws) i None) ≡ false
          after zero = unheld
          after (suc i) = rest i
      later (Some target) unheld rest = (suc rest.0, rest.1, rest.2)

      first : (t : Bool) → holds dev ev stamp w ≡ t → FindsEntry ws dev ev stamp
          → MatchOption (cond t (target_in w) (found ws dev ev stamp)) ((i : ℕ) → holds dev ev stamp (get_or (w ∷ ws) i None) ≡ false)
          (λ target. (i : ℕ) × (holds dev ev stamp (get_or (w ∷ ws) i None) ≡ true) × (target_in (get_or (w ∷ ws) i None) ≡ Some target))
      first true held rest = here w held
      first false unheld rest = later (found ws dev ev stamp) unheld rest

-- ---- without a pair

no_pair : (dev ev stamp : ℕ) (w : Option Entry) → holds dev ev stamp (cond (is_of dev ev w) None w) ≡ false
no_pair dev ev stamp w = at (is_of dev ev w) refl
  where
    at : (t : Bool) → is_of dev ev w ≡ t → holds dev ev stamp (cond t None w) ≡ false
    at true is = refl
    at false is = ap (λ t. t && has_stamp stamp w) is

pub dropped_none : (dev ev stamp : ℕ) (ws : List (Option Entry)) → found (dropped ws dev ev) dev ev stamp ≡ None
dropped_none dev ev stamp [] = refl
dropped_none dev ev stamp (w ∷ ws) =
    ap (λ t. cond t (target_in (cond (is_of dev ev w) None w)) (found (dropped ws dev ev) dev ev stamp)) (no_pair dev ev stamp w)
    ∙ dropped_none dev ev stamp ws

-- the entry of one pair is of unheld other
other_pair : (dev ev d e stamp : ℕ) (w : Option Entry) → (d ≡ dev → e ≡ ev → ⊥) → is_of dev ev w ≡ true → holds d e stamp w ≡ false
other_pair dev ev d e stamp None apart is = refl
other_pair dev ev d e stamp (Some f) apart is = at (is_of d e (Some f)) refl
  where
    both : (a b : Bool) → (a && b) ≡ true → (a ≡ true) × (b ≡ true)
    both true b q = (refl, q)
    both false b q = absurd (false≢true q)

    at : (t : Bool) → is_of d e (Some f) ≡ t → (t && has_stamp stamp (Some f)) ≡ false
    at true same =
        let one = both (eqb f.dev.0 dev) (eqb f.ev.0 ev) is in
        let two = both (eqb f.dev.0 d) (eqb f.ev.0 e) same in
        absurd (apart (sym (eqb-true f.dev.0 d two.0) ∙ eqb-true f.dev.0 dev one.0) (sym (eqb-true f.ev.0 e two.1) ∙ eqb-true f.ev.0 ev one.1))
    at false same = refl

pub dropped_others : (dev ev d e stamp : ℕ) (ws : List (Option Entry)) → (d ≡ dev → e ≡ ev → ⊥) → found (dropped ws dev ev) d e stamp ≡ found ws d e stamp
dropped_others dev ev d e stamp [] apart = refl
dropped_others dev ev d e stamp (w ∷ ws) apart = at (is_of dev ev w) refl (dropped_others dev ev d e stamp ws apart)
  where
    at : (t : Bool) → is_of dev ev w ≡ t → found (dropped ws dev ev) d e stamp ≡ found ws d e stamp → cond (holds d e stamp (cond t None w))
        (target_in (cond t None w)) (found (dropped ws dev ev) d e stamp) ≡ cond (holds d e stamp w) (target_in w) (found ws d e stamp)
    at true is rest = rest ∙ sym (ap (λ t. cond t (target_in w) (found ws d e stamp)) (other_pair dev ev d e stamp w apart is))
    at false is rest = ap (λ r. cond (holds d e stamp w) (target_in w) r) rest

pub dropped_kept : (dev ev : ℕ) (ws : List (Option Entry)) (i : ℕ) (f : Entry) → get_or (dropped ws dev ev) i None ≡ Some f → (get_or ws i None ≡ Some f)
    × (is_of dev ev (Some f) ≡ false)
dropped_kept dev ev [] i f is = absurd (false≢true (ap is_some_entry is))
  where
    is_some_entry : Option Entry → Bool
    is_some_entry None = false
    is_some_entry (Some e) = true
dropped_kept dev ev (w ∷ ws) zero f is = at (is_of dev ev w) refl is
  where
    is_some_entry : Option Entry → Bool
    is_some_entry None = false
    is_some_entry (Some e) = true

    at : (t : Bool) → is_of dev ev w ≡ t → cond t None w ≡ Some f → (w ≡ Some f) × (is_of dev ev (Some f) ≡ false)
    at true same gone = absurd (false≢true (ap is_some_entry gone))
    at false same left = (left, ap (is_of dev ev) (sym left) ∙ same)
dropped_kept dev ev (w ∷ ws) (suc i) f is = dropped_kept dev ev ws i f is
