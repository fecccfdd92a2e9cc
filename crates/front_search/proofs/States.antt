-- What the program's moves of a search leave true.
use Rattle.std.proofs.Common.{◌≡◌, ℕ, ◌+◌, ◌-◌, ◌*◌, ◌<◌, ◌≤◌, List, [], ◌∷◌, ◌++◌, length, take, Option, Some, None, refl, sym, ap, subst, ◌∙◌, inl, inr, arith, append-nil, length-append}
use Rattle.std.specs.Prelude.{MatchOption, option_to_list}
use Rattle.std.proofs.lemmas.List.{length-replicate, length-set}
use Rattle.std.specs.List.{AllByRecursion}
use Rattle.front_search.specs.Fits.{Answers, Leads, Fits}
use Rattle.front_search.specs.Fronts.{Threads, Front, MayGo, more, placed, start}
use Rattle.front_search.specs.Moves.{IsEmpty, IsKept, IsNew, IsPlaced, IsReturned, IsSkipped, IsTaken, threads_of}
use Rattle.front_search.specs.Sleeping.{Asleep, NoneFrom, NoneWith, SleepsOn}
use Rattle.front_search.specs.Trails.{NoneBelow, IsEnough, Steps, Trail, GoesOn, IsAt, IsReached, NoneFits}
use Rattle.front_search.specs.declared.trail.Placed.{Placed}
use Rattle.front_search.specs.declared.trail.Search.{Search}
use Rattle.front_search.proofs.Sleeping.{asleep_placed}
use Rattle.front_search.proofs.Trails.{BackAt, back_at, below_miss, leads_fit, none_fits, none_yet, placed_so, trail_leads, trail_more}

-- ---- the same by other names

trail_at : {S : Type 0} (went : Answers S) (IsEnd : S → Type 0) (threads : Threads) (first : S) {path path' : List (Placed S)} {front front' : Front} {u u' : S}
    → path ≡ path' → front ≡ front' → u ≡ u' → Trail went IsEnd threads (start threads) first path front u
    → Trail went IsEnd threads (start threads) first path' front' u'
trail_at {S = S} went IsEnd threads first {path = path} {path' = path'} {front = front} {front' = front'} {u = u} {u' = u'} p f e t =
    subst (λ (x : List (Placed S)). Trail went IsEnd threads (start threads) first x front' u') p
    (subst (λ (x : Front). Trail went IsEnd threads (start threads) first path x u') f
    (subst (λ (x : S). Trail went IsEnd threads (start threads) first path front x) e t))

none_at : {S : Type 0} (went : Answers S) (IsEnd : S → Type 0) (threads : Threads) {front front' : Front} {u u' : S} {n n' : ℕ} → front ≡ front' → u ≡ u' → n ≡ n'
    → NoneBelow went IsEnd threads front u n → NoneBelow went IsEnd threads front' u' n'
none_at {S = S} went IsEnd threads {front = front} {front' = front'} {u = u} {u' = u'} {n = n} {n' = n'} f e k none =
    subst (λ (x : Front). NoneBelow went IsEnd threads x u' n') f (subst (λ (x : S). NoneBelow went IsEnd threads front x n') e
    (subst (λ (x : ℕ). NoneBelow went IsEnd threads front u x) k none))

asleep_at : {S : Type 0} (went : Answers S) (IsEnd : S → Type 0) (threads : Threads) {front front' : Front} {u u' : S} {a a' : List ℕ} → front ≡ front' → u ≡ u'
    → a ≡ a' → Asleep went IsEnd threads front u a → Asleep went IsEnd threads front' u' a'
asleep_at {S = S} went IsEnd threads {front = front} {front' = front'} {u = u} {u' = u'} {a = a} {a' = a'} f e k asleep =
    subst (λ (x : Front). Asleep went IsEnd threads x u' a') f (subst (λ (x : S). Asleep went IsEnd threads front x a') e
    (subst (λ (x : List ℕ). Asleep went IsEnd threads front u x) k asleep))

-- ---- the start

pub at_start : {S : Type 0} (went : Answers S) (IsEnd : S → Type 0) (threads : Threads) (first : S) (s : Search S) → IsNew threads first s
    → IsAt went IsEnd threads first s
at_start {S = S} went IsEnd threads first s n = record {
  trail = subst (λ (path : List (Placed S)). Trail went IsEnd threads (start threads) first path s.front.items s.state) (sym n.path)
      (sym n.front, sym n.state);
  none_below = subst (λ (k : ℕ). NoneBelow went IsEnd threads s.front.items s.state k) (sym n.next) (none_yet went IsEnd threads s.front.items s.state);
  asleep = subst (AllByRecursion (NoneWith went IsEnd threads s.front.items s.state)) (sym n.asleep) tt;
  long = ap length n.front ∙ length-replicate (length threads) 0;
  reached = (
    start threads,
    first,
    subst (λ (order : List ℕ). Leads went threads (start threads) first order (start threads) first) (sym n.reached)
        (refl, refl),
  );
}

-- ---- one more call

pub at_placed : {S : Type 0} (went : Answers S) (IsEnd : S → Type 0) (threads : Threads) (first : S) (s t : Search S) (i n : ℕ) (w u : S) (k : ℕ)
    (asleep : List ℕ) → u ≡ s.state → k ≡ placed s.front.items i → MayGo threads s.front.items i → went u i k w → ((x : S) → went u i k x → x ≡ w)
    → IsEnough went IsEnd threads s.front.items s.state i n
    → AllByRecursion (SleepsOn went IsEnd threads s.front.items s.next s.asleep.items i) asleep → IsPlaced i n w asleep s t → IsAt went IsEnd threads first s
    → IsAt went IsEnd threads first t
at_placed {S = S} went IsEnd threads first s t i n w u k asleep ue ke may_go answered one enough on p here =
    let call : Placed S = record { thread = i; before = s.state; next = n; asleep = s.asleep } in
    let answered' : went s.state i (placed s.front.items i) w = subst (λ (n : ℕ). went s.state i n w) ke (subst (λ (x : S). went x i k w) ue answered) in
    let one' : (x : S) → went s.state i (placed s.front.items i) x → x ≡ w =
    λ x a. one x (subst (λ (y : S). went y i k x) (sym ue) (subst (λ (n : ℕ). went s.state i n x) (sym ke) a)) in
    let steps : Steps went IsEnd threads s.front.items s.state call w =
    placed_so went IsEnd threads s.front.items s.state i n s.asleep w may_go answered' one' enough here.asleep in
    record {
      trail = trail_at went IsEnd threads first (sym p.path) (sym p.front) (sym p.state_is)
          (trail_more went IsEnd threads (start threads) first s.path.items s.front.items s.state call w here.trail steps);
      none_below = subst (λ (m : ℕ). NoneBelow went IsEnd threads t.front.items t.state m) (sym p.starts) (none_yet went IsEnd threads t.front.items t.state);
      asleep = asleep_at went IsEnd threads (sym p.front) (sym p.state_is) (sym p.asleep_are)
          (asleep_placed went IsEnd threads s.front.items s.state i w s.next s.asleep.items here.long may_go answered' here.none_below here.asleep asleep on);
      long = ap length p.front ∙ length-set s.front.items i (placed s.front.items i + 1) ∙ here.long;
      reached = subst (λ (order : List ℕ). IsReached went threads first order) (sym p.reached) here.reached;
    }

pub path_placed : {S : Type 0} (i n : ℕ) (w : S) (asleep : List ℕ) (s t : Search S) → IsPlaced i n w asleep s t → length t.path.items ≤ length s.path.items + 1
path_placed {S = S} i n w asleep s t p =
    let call : Placed S = record { thread = i; before = s.state; next = n; asleep = s.asleep } in
    let e : length t.path.items ≡ length s.path.items + length (call ∷ []) = ap length p.path ∙ length-append s.path.items (call ∷ []) in
    omega (arith, e)

-- ---- a thread that is left out

pub at_skipped : {S : Type 0} (went : Answers S) (IsEnd : S → Type 0) (threads : Threads) (first : S) (s t : Search S) (i n : ℕ) (u : S) (k : ℕ) → u ≡ s.state
    → k ≡ placed s.front.items i → ((w : S) → ¬ went u i k w) → IsEnough went IsEnd threads s.front.items s.state i n → IsSkipped n s t
    → IsAt went IsEnd threads first s → IsAt went IsEnd threads first t
at_skipped {S = S} went IsEnd threads first s t i n u k ue ke miss enough p here =
    let miss' : (w : S) → ¬ went s.state i (placed s.front.items i) w =
    λ w a. miss w (subst (λ (y : S). went y i k w) (sym ue) (subst (λ (n : ℕ). went s.state i n w) (sym ke) a)) in
    record {
      trail = trail_at went IsEnd threads first (sym p.path) (sym p.front) (sym p.state) here.trail;
      none_below = none_at went IsEnd threads (sym p.front) (sym p.state) (sym p.goes_on)
          (below_miss went IsEnd threads s.front.items s.state i n enough miss');
      asleep = asleep_at went IsEnd threads (sym p.front) (sym p.state) (sym p.asleep) here.asleep;
      long = ap length p.front ∙ here.long;
      reached = subst (λ (order : List ℕ). IsReached went threads first order) (sym p.reached) here.reached;
    }

pub path_skipped : {S : Type 0} (n : ℕ) (s t : Search S) → IsSkipped n s t → length t.path.items ≤ length s.path.items + 1
path_skipped n s t p = omega (arith, ap length p.path)

-- ---- a call more where no order fits

pub at_run_on : {S : Type 0} (went : Answers S) (IsEnd : S → Type 0) (threads : Threads) (first : S) (s t v : Search S) (i n m : ℕ) (w : S) (asleep : List ℕ)
    → ((order : List ℕ) → ¬ Fits went IsEnd threads s.front.items s.state order) → GoesOn went threads s i w → asleep ≡ [] → IsPlaced i n w asleep s t → IsSkipped m t v
    → IsAt went IsEnd threads first s → IsAt went IsEnd threads first v
at_run_on {S = S} went IsEnd threads first s t v i n m w asleep none goes empty p k here =
    let placed_none : IsPlaced i n w [] s t = subst (λ (a : List ℕ). IsPlaced i n w a s t) empty p in
    let there : IsAt went IsEnd threads first t =
    at_placed went IsEnd threads first s t i n w s.state (placed s.front.items i) [] refl refl goes.may_go goes.answered goes.one_state
    (λ one j order lt f. none (j ∷ order) f) tt placed_none here in
    record {
      trail = trail_at went IsEnd threads first (sym k.path) (sym k.front) (sym k.state) there.trail;
      none_below = λ j order lt f.
          let moved : Fits went IsEnd threads (more s.front.items i) w (j ∷ order) =
          subst (λ (x : Front). Fits went IsEnd threads x w (j ∷ order)) (k.front ∙ p.front)
          (subst (λ (x : S). Fits went IsEnd threads v.front.items x (j ∷ order)) (k.state ∙ p.state_is) f) in
          none (i ∷ j ∷ order) (w, record { may_go = goes.may_go; answered = goes.answered }, moved);
      asleep = asleep_at went IsEnd threads (sym k.front) (sym k.state) (sym k.asleep) there.asleep;
      long = ap length k.front ∙ there.long;
      reached = subst (λ (order : List ℕ). IsReached went threads first order) (sym k.reached) there.reached;
    }

pub path_run_on : {S : Type 0} (s t v : Search S) (i n m : ℕ) (w : S) (asleep : List ℕ) (a b : ℕ) → a < b → IsPlaced i n w asleep s t → IsSkipped m t v
    → 2 * a + length v.path.items < 2 * b + length s.path.items
path_run_on s t v i n m w asleep a b lt p k = let le : length t.path.items ≤ length s.path.items + 1 = path_placed i n w asleep s t p in omega (arith, lt, le, ap length k.path)

-- ---- the last call taken back

pub at_kept : {S : Type 0} (went : Answers S) (IsEnd : S → Type 0) (threads : Threads) (first : S) (s t : Search S) → IsKept s t
    → IsAt went IsEnd threads first s → IsAt went IsEnd threads first t
at_kept {S = S} went IsEnd threads first s t k here = record {
  trail = trail_at went IsEnd threads first (sym k.path) (sym k.front) (sym k.state) here.trail;
  none_below = none_at went IsEnd threads (sym k.front) (sym k.state) (sym k.next) here.none_below;
  asleep = asleep_at went IsEnd threads (sym k.front) (sym k.state) (sym k.asleep) here.asleep;
  long = ap length k.front ∙ here.long;
  reached =
      elim k.reached [
        | inl e ↦ subst (λ (order : List ℕ). IsReached went threads first order) (sym e) here.reached
        | inr e ↦ subst (λ (order : List ℕ). IsReached went threads first order) (sym e)
            (s.front.items, s.state, trail_leads went IsEnd threads (start threads) first s.path.items s.front.items s.state here.trail)
      ];
}

-- where a search gives up
pub record IsDone {S : Type 0} (went : Answers S) (IsEnd : S → Type 0) (threads : Threads) (s : Search S) : Type 0 where
  pub no_more : NoneFrom went IsEnd threads s.front.items s.state s.next
  pub no_end : ¬ Fits went IsEnd threads s.front.items s.state []

done_at : {S : Type 0} (went : Answers S) (IsEnd : S → Type 0) (threads : Threads) (s t : Search S) → t.front.items ≡ s.front.items → t.state ≡ s.state
    → t.next ≡ s.next → IsDone went IsEnd threads s → IsDone went IsEnd threads t
done_at {S = S} went IsEnd threads s t f e n d = record {
  no_more = λ j le order fit. d.no_more j (subst (λ (k : ℕ). k ≤ j) n le) order
      (subst (λ (x : Front). Fits went IsEnd threads x s.state (j ∷ order)) f (subst (λ (x : S). Fits went IsEnd threads t.front.items x (j ∷ order)) e fit));
  no_end = λ fit. d.no_end (subst (λ (x : Front). Fits went IsEnd threads x s.state []) f (subst (λ (x : S). Fits went IsEnd threads t.front.items x []) e fit));
}

pub back_of : {S : Type 0} (went : Answers S) (IsEnd : S → Type 0) (threads : Threads) (first : S) (old kept taken : Search S) (p : Placed S)
    → IsDone went IsEnd threads old → IsKept old kept → IsTaken p kept taken → IsAt went IsEnd threads first old
    → BackAt went IsEnd threads first taken.front.items p taken.path.items
back_of went IsEnd threads first old kept taken p done k t here =
    let now : IsAt went IsEnd threads first kept = at_kept went IsEnd threads first old kept k here in
    let d : IsDone went IsEnd threads taken = done_at went IsEnd threads old taken (t.front ∙ k.front) (t.state ∙ k.state) (t.next ∙ k.next) done in
    back_at went IsEnd threads first taken.front.items taken.state taken.next taken.path.items p
    (trail_at went IsEnd threads first t.path (sym t.front) (sym t.state) now.trail) (ap length t.front ∙ now.long)
    (none_at went IsEnd threads (sym t.front) (sym t.state) (sym t.next) now.none_below) d.no_more d.no_end

pub at_returned : {S : Type 0} (went : Answers S) (IsEnd : S → Type 0) (threads : Threads) (first : S) (old kept taken back : Search S) (p : Placed S)
    → IsDone went IsEnd threads old → IsKept old kept → IsTaken p kept taken → IsReturned p taken back → IsAt went IsEnd threads first old
    → IsAt went IsEnd threads first back
at_returned went IsEnd threads first old kept taken back p done k t r here =
    let now : IsAt went IsEnd threads first kept = at_kept went IsEnd threads first old kept k here in
    let b : BackAt went IsEnd threads first taken.front.items p taken.path.items = back_of went IsEnd threads first old kept taken p done k t here in
    record {
      trail = trail_at went IsEnd threads first (sym r.path) (sym r.front) (sym r.state) b.trail;
      none_below = none_at went IsEnd threads (sym r.front) (sym r.state) (sym r.next) b.none_below;
      asleep = asleep_at went IsEnd threads (sym r.front) (sym r.state) (sym r.asleep) b.asleep;
      long = ap length r.front ∙ b.long;
      reached = subst (λ (order : List ℕ). IsReached went threads first order) (sym (r.reached ∙ t.reached)) now.reached;
    }

pub path_returned : {S : Type 0} (old kept taken back : Search S) (p : Placed S) → IsKept old kept → IsTaken p kept taken → IsReturned p taken back
    → length back.path.items + 1 ≡ length old.path.items
path_returned old kept taken back p k t r =
    let e : length kept.path.items ≡ length taken.path.items + length (p ∷ []) = ap length t.path ∙ length-append taken.path.items (p ∷ []) in
    omega (arith, e, ap length k.path, ap length r.path)

-- ---- the outcome

-- no call is left to take back
pub none_of : {S : Type 0} (went : Answers S) (IsEnd : S → Type 0) (threads : Threads) (first : S) (old kept : Search S) → IsDone went IsEnd threads old
    → IsKept old kept → kept.path.items ≡ [] → IsAt went IsEnd threads first old → NoneFits went IsEnd threads first
none_of {S = S} went IsEnd threads first old kept done k empty here order f =
    let t : Trail went IsEnd threads (start threads) first [] old.front.items old.state = trail_at went IsEnd threads first (sym k.path ∙ empty) refl refl here.trail in
    none_fits went IsEnd threads old.front.items old.state old.next here.none_below done.no_more done.no_end order
    (subst (λ (x : Front). Fits went IsEnd threads x old.state order) t.0 (subst (λ (x : S). Fits went IsEnd threads (start threads) x order) t.1 f))

pub reached_of : {S : Type 0} (went : Answers S) (IsEnd : S → Type 0) (threads : Threads) (first : S) (old kept last : Search S) → IsKept old kept
    → IsEmpty kept last → IsAt went IsEnd threads first old → IsReached went threads first last.reached.items
reached_of went IsEnd threads first old kept last k e here =
    subst (λ (order : List ℕ). IsReached went threads first order) (sym e.reached) (at_kept went IsEnd threads first old kept k here).reached

-- all calls are placed
pub fits_at : {S : Type 0} (went : Answers S) (IsEnd : S → Type 0) (threads : Threads) (first : S) (s : Search S) (order : List ℕ) → order ≡ threads_of s.path.items
    → Fits went IsEnd threads s.front.items s.state [] → IsAt went IsEnd threads first s → Fits went IsEnd threads (start threads) first order
fits_at went IsEnd threads first s order e end here =
    subst (λ (o : List ℕ). Fits went IsEnd threads (start threads) first o) (sym e)
    (leads_fit went IsEnd threads (start threads) first (threads_of s.path.items) s.front.items s.state
    (trail_leads went IsEnd threads (start threads) first s.path.items s.front.items s.state here.trail) end)

-- ---- the end of the path

empty_of : {A : Type 0} (n : ℕ) (xs ys : List A) → xs ≡ ys ++ [] → ys ≡ take (n - 1) xs → n ≡ 0 → xs ≡ []
empty_of n xs ys whole front none =
    let zero : n - 1 ≡ 0 = omega (arith, none) in whole ∙ append-nil ys ∙ front ∙ ap (λ (k : ℕ). take k xs) zero

pub popped : {S : Type 0} (n : ℕ) (s t : Search S) (r : Option (Placed S)) → s.path.items ≡ t.path.items ++ option_to_list r
    → t.path.items ≡ take (n - 1) s.path.items → (r ≡ None → n ≡ 0) → t.front.items ≡ s.front.items → t.state ≡ s.state → t.next ≡ s.next
    → t.reached.items ≡ s.reached.items → MatchOption r (IsEmpty s t) (λ p. IsTaken p s t)
popped n s t None whole front none fronts states nexts reached = record {
  path = empty_of n s.path.items t.path.items whole front (none refl);
  reached = reached;
}
popped n s t (Some p) whole front none fronts states nexts reached = record {
  path = whole;
  front = fronts;
  state = states;
  next = nexts;
  reached = reached;
}
