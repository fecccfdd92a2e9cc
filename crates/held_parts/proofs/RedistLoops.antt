-- Parts of redistributors, taken one by one, and put home one by one.
use Rattle.std.proofs.Common.{◌≡◌, ◌≢◌, ℕ, zero, suc, ◌+◌, ◌<◌, ◌≤◌, Bool, true, false, ◌&&◌, nat_lt, List, [], ◌∷◌, Option, Some, None, length}
use Rattle.std.proofs.Common.{set, refl, ap, sym, ◌∙◌, subst, inl, inr, arith, get_or-set_same, get_or-set_other}
use Rattle.std.proofs.lemmas.Bool.{cases_eq, cases_lt, le-ltb, lt-ltb, and_from}
use Rattle.std.specs.Prelude.{is_some}
use Rattle.its_types.specs.declared.machine.Part.{Part}
use Rattle.its_steps.specs.Contents.{Held}
use Rattle.its_steps.specs.Parts.{Setup, vcpu_count}
use Rattle.owned_parts.specs.RedistSets.{is_in, HasNone}
use Rattle.owned_parts.specs.declared.redist_set.RedistSet.{RedistSet}
use Rattle.held_parts.specs.Rows.{in_row}
use Rattle.held_parts.specs.Redists.{at_place, held_if_in, row_of, AreNone, AreWanted}
use Rattle.held_parts.proofs.InRows.{row_agrees, row_none, row_first, row_short}
use Rattle.its_turns.specs.Order.{IsInOrder}
use Rattle.held_parts.proofs.RedistRows.{IsKind, parts_before}

and_left : (a b : Bool) → a ≡ false → (a && b) ≡ false
and_left a b e = ap (λ (x : Bool). x && b) e

and_right : (a b : Bool) → b ≡ false → (a && b) ≡ false
and_right true b e = e
and_right false b e = refl

-- those below n are in hand still, and no other
pub record AreLeft (T : Type 0) (n : ℕ) (old places : List (Option T)) : Type 0 where
  pub below : (k : ℕ) → k < n → at_place places k ≡ at_place old k
  pub above : (k : ℕ) → n ≤ k → at_place places k ≡ None

module _ {T : Type 0} (as_held : ℕ → T → Held) (has_lpis : T → Type 0) (s : Setup) (wanted : RedistSet) where
  -- of the first n those wanted are in hand, taken since some parts were held
  pub record AreTaken (n : ℕ) (places : List (Option T)) (before now : List Held) : Type 0 where
    pub held : now ≡ in_row (row_of as_held places) n before
    pub hand : (k : ℕ) → k < n → is_some (at_place places k) ≡ (is_in wanted k && nat_lt k (vcpu_count s))
    pub above : (k : ℕ) → n ≤ k → at_place places k ≡ None
    pub lpis : (k : ℕ) (r : T) → at_place places k ≡ Some r → has_lpis r

  pub none_taken : (places : List (Option T)) (xs : List Held) → AreNone places → AreTaken 0 places xs xs
  none_taken places xs none = record {
    held = sym (row_none (row_of as_held places) xs 0 refl);
    hand = λ k lt. absurd (omega (arith, lt));
    above = λ k le. none k;
    lpis = λ k r there. absurd (no_some r (sym (none k) ∙ there));
  }
    where
      no_some : (r : T) → None ≡ Some r → ⊥
      no_some r e = cc

  module _ (n : ℕ) (places : List (Option T)) (before now : List Held) (h : AreTaken n places before now) where
    -- one of n on comes after them
    pub comes_next : (part_at : ℕ → Part) → IsKind T as_held part_at → (k : ℕ) → n ≤ k → IsInOrder (part_at k) before → IsInOrder (part_at k) now
    comes_next part_at kind k le order = subst (IsInOrder (part_at k)) (sym h.held)
        (parts_before as_held part_at kind places before n (part_at k) (λ j lt. kind.rises j k (omega (arith, lt, le))) order)

    -- none from n on and below another number is wanted
    pub not_taken : (end : ℕ) → n ≤ end → HasNone wanted n end → AreTaken end places before now
    not_taken end up none = record {
      held = h.held ∙ sym (row_short (row_of as_held places) before n end up (λ k le lt. ap (held_if_in as_held k) (h.above k le)));
      hand = λ k lt. elim (cases_lt k n) [
        | inl less ↦ h.hand k less
        | inr le ↦ ap (λ (o : Option T). is_some o) (h.above k le) ∙ sym (and_left (is_in wanted k) (nat_lt k (vcpu_count s)) (none k le lt))
      ];
      above = λ k le. h.above k (omega (arith, le, up));
      lpis = h.lpis;
    }

    module _ (m : ℕ) (next : m ≡ suc n) (r : T) (now' : List Held) (lt : n < length places) (inside : is_in wanted n ≡ true) (low : n < vcpu_count s)
        (lpis : has_lpis r) (more : now' ≡ as_held n r ∷ now) where
      wants : (is_in wanted n && nat_lt n (vcpu_count s)) ≡ true
      wants = and_from (is_in wanted n) (nat_lt n (vcpu_count s)) inside (lt-ltb n (vcpu_count s) low)

      abbrev then : List (Option T)
      then = set places n (Some r)

      here : at_place then n ≡ Some r
      here = get_or-set_same places n (Some r) None lt

      others : (k : ℕ) → k ≢ n → at_place then k ≡ at_place places k
      others k ne = get_or-set_other places n k (Some r) None ne

      pub one_taken : AreTaken m then before now'
      one_taken = record {
        held = more
            ∙ (ap (λ (l : List Held). (let y : List Held = as_held n r ∷ l in y)) (h.held ∙ row_agrees (row_of as_held places) (row_of as_held then) before n
            (λ k less. ap (held_if_in as_held k) (sym (others k (λ e. omega (arith, less, e))))))
            ∙ sym (row_first (row_of as_held then) before m n (as_held n r) next (ap (held_if_in as_held n) here)));
        hand = λ k less. elim (cases_lt k n) [
          | inl below ↦ ap (λ (o : Option T). is_some o) (others k (λ e. omega (arith, below, e))) ∙ h.hand k below
          | inr le ↦ let e : n ≡ k = omega (arith, less, le, next) in subst
              (λ (j : ℕ). is_some (at_place then j) ≡ (is_in wanted j && nat_lt j (vcpu_count s))) e (ap (λ (o : Option T). is_some o) here ∙ sym wants)
        ];
        above = λ k le. others k (λ e. omega (arith, le, e, next)) ∙ h.above k (omega (arith, le, next));
        lpis = λ k q is. elim (cases_eq k n) [
          | inl e ↦ subst has_lpis (some_same r q (sym here ∙ (sym (ap (at_place then) e) ∙ is))) lpis
          | inr ne ↦ h.lpis k q (sym (others k ne) ∙ is)
        ];
      }
        where
          some_same : (a b : T) → Some a ≡ Some b → a ≡ b
          some_same a b e = cc

  -- from n on none is wanted that the machine has
  pub all_taken : (n end : ℕ) (places : List (Option T)) (before now : List Held) → end ≡ vcpu_count s → n ≤ end → HasNone wanted n end
      → AreTaken n places before now → (now ≡ in_row (row_of as_held places) (vcpu_count s) before) × AreWanted T has_lpis s wanted places
  all_taken n end places before now is up none taken =
      let h : AreTaken end places before now = not_taken n places before now taken end up none in (
        h.held ∙ ap (λ (k : ℕ). in_row (row_of as_held places) k before) is,
        record {
          hand = λ k. elim (cases_lt k end) [
            | inl lt ↦ h.hand k lt
            | inr le ↦ ap (λ (o : Option T). is_some o) (h.above k le)
                ∙ sym (and_right (is_in wanted k) (nat_lt k (vcpu_count s)) (le-ltb k (vcpu_count s) (omega (arith, le, is))))
          ];
          lpis = h.lpis;
        },
      )

  -- ---- put home

  not_some : (o : Option T) → is_some o ≡ false → o ≡ None
  not_some None e = refl
  not_some (Some r) e = absurd cc

  -- the machine has no other
  beyond : (places : List (Option T)) → AreWanted T has_lpis s wanted places → (k : ℕ) → vcpu_count s ≤ k → at_place places k ≡ None
  beyond places are k le = not_some (at_place places k) (are.hand k ∙ and_right (is_in wanted k) (nat_lt k (vcpu_count s)) (le-ltb k (vcpu_count s) le))

  -- one that isn't wanted is not in hand
  not_in_hand : (places : List (Option T)) (k : ℕ) → AreWanted T has_lpis s wanted places → is_in wanted k ≡ false → at_place places k ≡ None
  not_in_hand places k are out_of = not_some (at_place places k) (are.hand k ∙ and_left (is_in wanted k) (nat_lt k (vcpu_count s)) out_of)

  -- one that is wanted is in hand
  pub is_in_hand : (places : List (Option T)) (k : ℕ) → AreWanted T has_lpis s wanted places → is_in wanted k ≡ true → k < vcpu_count s
      → is_some (at_place places k) ≡ true
  is_in_hand places k are inside low = are.hand k ∙ and_from (is_in wanted k) (nat_lt k (vcpu_count s)) inside (lt-ltb k (vcpu_count s) low)

  pub all_left : (n : ℕ) (places : List (Option T)) → n ≡ vcpu_count s → AreWanted T has_lpis s wanted places → AreLeft T n places places
  all_left n places is are = record { below = λ k lt. refl; above = λ k le. beyond places are k (omega (arith, le, is)) }

  -- those of the first `end` that are left, of which this one is the highest
  module _ (old : List (Option T)) (end k : ℕ) (are : AreWanted T has_lpis s wanted old) (below : k < end) (none : HasNone wanted (k + 1) end) where
    run_gone : (j : ℕ) → k + 1 ≤ j → j < end → at_place old j ≡ None
    run_gone j le lt = not_in_hand old j are (none j le lt)

    pub highest_first : (before : List Held) (r : T) → at_place old k ≡ Some r
        → in_row (row_of as_held old) end before ≡ as_held k r ∷ in_row (row_of as_held old) k before
    highest_first before r there =
        row_short (row_of as_held old) before (k + 1) end (omega (arith, below)) (λ j le lt. ap (held_if_in as_held j) (run_gone j le lt))
        ∙ row_first (row_of as_held old) before (k + 1) k (as_held k r) (omega arith) (ap (held_if_in as_held k) there)

    pub highest_left : (places : List (Option T)) → AreLeft T end old places → AreLeft T k old (set places k None)
    highest_left places h = record {
      below = λ j lt. get_or-set_other places k j None None (λ e. omega (arith, lt, e)) ∙ h.below j (omega (arith, lt, below));
      above = λ j le. elim (cases_eq j k) [
        | inl e ↦ ap (at_place (set places k None)) e ∙ gone places k
        | inr ne ↦ get_or-set_other places k j None None ne ∙ elim (cases_lt j end) [
          | inl lt ↦ h.below j lt ∙ run_gone j (omega (arith, le, ne)) lt
          | inr past ↦ h.above j past
        ]
      ];
    }
      where
        gone : (l : List (Option T)) (j : ℕ) → at_place (set l j None) j ≡ None
        gone [] j = refl
        gone (o ∷ l) zero = refl
        gone (o ∷ l) (suc j) = gone l j

  -- none is left where no other is wanted
  pub all_home : (old places : List (Option T)) (end : ℕ) → AreWanted T has_lpis s wanted old → HasNone wanted 0 end → AreLeft T end old places → AreNone places
  all_home old places end are none h k = elim (cases_lt k end) [
    | inl lt ↦ h.below k lt ∙ not_in_hand old k are (none k (omega arith) lt)
    | inr past ↦ h.above k past
  ]

  pub none_before : (old : List (Option T)) (before : List Held) (end : ℕ) → AreWanted T has_lpis s wanted old → HasNone wanted 0 end
      → in_row (row_of as_held old) end before ≡ before
  none_before old before end are none =
      row_short (row_of as_held old) before 0 end (omega arith) (λ k le lt. ap (held_if_in as_held k) (not_in_hand old k are (none k le lt)))
      ∙ row_none (row_of as_held old) before 0 refl
