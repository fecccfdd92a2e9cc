-- Threads that sleep on when a call is placed.
use Rattle.std.proofs.Common.{◌≡◌, ◌≢◌, ◌⊎◌, ℕ, ◌+◌, ◌<◌, ◌≤◌, List, [], ◌∷◌, ◌++◌, true, length, Some, sym, ap, subst, ◌∙◌, inl, inr, arith}
use Rattle.std.proofs.lemmas.Bool.{cases_eq}
use Rattle.std.specs.List.{AllByRecursion}
use Rattle.front_search.specs.Commuting.{GoesAtOnce, GoesBefore}
use Rattle.front_search.specs.Fits.{Answers, Fits}
use Rattle.front_search.specs.Fronts.{Threads, Front, MayGo, call_of, next_of, more, placed}
use Rattle.front_search.specs.Sleeping.{NoneWith, NoneFrom, Asleep, MaySwap, SleepsOn, is_asleep}
use Rattle.front_search.specs.Trails.{NoneBelow}
use Rattle.front_search.specs.declared.span.Span.{Span}
use Rattle.front_search.proofs.Exchange.{enough_at_once, more_comm, one_begin, placed_other, placed_same}
use Rattle.front_search.proofs.Trails.{go_below}

-- ---- two neighbours swapped

module _ {S : Type 0} (went : Answers S) (IsEnd : S → Type 0) (threads : Threads) (front : Front) (i j : ℕ) (long : length front ≡ length threads) (go : MayGo threads front j)
    (next : MayGo threads (more front j) i) (swap : MaySwap went IsEnd threads front i j) where
  apart : i ≢ j
  apart e = swap.two (sym e)

  same_call : placed (more front j) i ≡ placed front i
  same_call = placed_other front i j apart

  -- i's call could go before j's
  goes_first : MayGo threads front i
  goes_first =
      let at : next_of threads (more front j) i ≡ Some swap.span = ap (λ (n : ℕ). call_of threads i n) same_call ∙ swap.is_next in
      let begin : swap.span.begin ≡ next.span.begin = one_begin swap.span next.span (next_of threads (more front j) i) at next.is_next in
      record {
        span = swap.span;
        is_next = swap.is_next;
        none_before = λ x o e.
            elim (cases_eq x j) [
              | inl same ↦
                  let end : o ≡ swap.other = cc (sym e ∙ ap (next_of threads front) same ∙ swap.is_other) in
                  subst (λ (s : Span). swap.span.begin ≤ s.end) (sym end) swap.begun
              | inr other ↦
                  let le : next.span.begin ≤ o.end = next.none_before x o (ap (λ (n : ℕ). call_of threads x n) (placed_other front x j other) ∙ e) in
                  omega (arith, begin, le)
            ];
      }

  -- and j's after it
  goes_second : MayGo threads (more front i) j
  goes_second =
      let below : i < length front = subst (λ (n : ℕ). i < n) (sym long) (go_below threads (more front j) i next) in
      let begin : go.span.begin ≡ swap.other.begin = one_begin go.span swap.other (next_of threads front j) go.is_next swap.is_other in
      record {
        span = go.span;
        is_next = ap (λ (n : ℕ). call_of threads j n) (placed_other front j i swap.two) ∙ go.is_next;
        none_before = λ x o e.
            elim (cases_eq x i) [
              | inl same ↦
                  let following : call_of threads i (placed front i + 1) ≡ Some o =
                  ap (λ (n : ℕ). call_of threads i n) (sym (placed_same front i below)) ∙ subst (λ (k : ℕ). next_of threads (more front i) k ≡ Some o) same e in
                  omega (arith, begin, swap.later o following)
              | inr other ↦ go.none_before x o (ap (λ (n : ℕ). call_of threads x n) (sym (placed_other front x i other)) ∙ e)
            ];
      }

-- Where an order fits that begins with j and then i, one fits that begins with i and then j.
pub swapped : {S : Type 0} (went : Answers S) (IsEnd : S → Type 0) (threads : Threads) (front : Front) (u : S) (i j : ℕ) (w : S) (order : List ℕ)
    → length front ≡ length threads → MayGo threads front j → went u j (placed front j) w → MaySwap went IsEnd threads front i j
    → Fits went IsEnd threads (more front j) w (i ∷ order) → Fits went IsEnd threads front u (i ∷ j ∷ order)
swapped {S = S} went IsEnd threads front u i j w order long go answered swap f =
    let next : MayGo threads (more front j) i = f.1.may_go in
    let same : placed (more front j) i ≡ placed front i = same_call went IsEnd threads front i j long go next swap in
    let other : placed (more front i) j ≡ placed front j = placed_other front j i swap.two in
    let b : GoesBefore went IsEnd i (placed front i) j (placed front j) u f.0 =
    swap.commutes u w f.0 answered (subst (λ (n : ℕ). went w i n f.0) same f.1.answered) in (
      b.between,
      record { may_go = goes_first went IsEnd threads front i j long go next swap; answered = b.first },
      (
        b.after,
        record {
          may_go = goes_second went IsEnd threads front i j long go next swap;
          answered = subst (λ (n : ℕ). went b.between j n b.after) (sym other) b.second;
        },
        subst (λ (x : Front). Fits went IsEnd threads x b.after order) (more_comm front i j swap.two)
            (b.fits_too threads (more (more front j) i) order f.2),
      ),
    )

-- ---- lists of threads

rest_of : (a i : ℕ) (asleep : List ℕ) → a ≢ i → is_asleep (a ∷ asleep) i ≡ true → is_asleep asleep i ≡ true
rest_of a i asleep ne e = grind (arith, ne, e)

pub sleeps : (P : ℕ → Type 0) (asleep : List ℕ) (i : ℕ) → AllByRecursion P asleep → is_asleep asleep i ≡ true → P i
sleeps P [] i all e = absurd (cc e)
sleeps P (a ∷ asleep) i all e =
    elim (cases_eq a i) [
      | inl same ↦ subst P same all.0
      | inr other ↦ sleeps P asleep i all.1 (rest_of a i asleep other e)
    ]

pub one_sleeps_more : (P : ℕ → Type 0) (asleep : List ℕ) (i : ℕ) → AllByRecursion P asleep → P i → AllByRecursion P (asleep ++ i ∷ [])
one_sleeps_more P [] i all p = (p, tt)
one_sleeps_more P (a ∷ asleep) i all p = (all.0, one_sleeps_more P asleep i all.1 p)

-- ---- a call placed

-- a thread that was tried, or slept
none_with : {S : Type 0} (went : Answers S) (IsEnd : S → Type 0) (threads : Threads) (front : Front) (u : S) (n : ℕ) (asleep : List ℕ) (i : ℕ)
    → NoneBelow went IsEnd threads front u n → Asleep went IsEnd threads front u asleep → (i < n) ⊎ (is_asleep asleep i ≡ true)
    → NoneWith went IsEnd threads front u i
none_with went IsEnd threads front u n asleep i below slept (inl lt) order f = below i order lt f
none_with went IsEnd threads front u n asleep i below slept (inr e) order f = sleeps (NoneWith went IsEnd threads front u) asleep i slept e order f

pub asleep_placed : {S : Type 0} (went : Answers S) (IsEnd : S → Type 0) (threads : Threads) (front : Front) (u : S) (j : ℕ) (w : S) (n : ℕ) (slept : List ℕ)
    → length front ≡ length threads → MayGo threads front j → went u j (placed front j) w → NoneBelow went IsEnd threads front u n
    → Asleep went IsEnd threads front u slept → (asleep : List ℕ) → AllByRecursion (SleepsOn went IsEnd threads front n slept j) asleep
    → Asleep went IsEnd threads (more front j) w asleep
asleep_placed went IsEnd threads front u j w n slept long go answered below all [] on = tt
asleep_placed went IsEnd threads front u j w n slept long go answered below all (i ∷ asleep) on = (
  λ order f. none_with went IsEnd threads front u n slept i below all on.0.slept (j ∷ order)
      (swapped went IsEnd threads front u i j w order long go answered on.0.may_swap f),
  asleep_placed went IsEnd threads front u j w n slept long go answered below all asleep on.1,
)

-- ---- what is tried next

-- a thread that sleeps if it may go
pub none_awake : {S : Type 0} (went : Answers S) (IsEnd : S → Type 0) (threads : Threads) (front : Front) (u : S) (asleep : List ℕ) (j : ℕ)
    → Asleep went IsEnd threads front u asleep → (MayGo threads front j → is_asleep asleep j ≡ true) → NoneWith went IsEnd threads front u j
none_awake went IsEnd threads front u asleep j slept is order f =
    sleeps (NoneWith went IsEnd threads front u) asleep j slept (is f.1.may_go) order f

-- where a call that goes at once sleeps, no order fits
pub none_once : {S : Type 0} (went : Answers S) (IsEnd : S → Type 0) (threads : Threads) (front : Front) (u : S) (i n : ℕ) → length front ≡ length threads
    → GoesAtOnce went IsEnd threads front i → (asleep : List ℕ) → Asleep went IsEnd threads front u asleep → is_asleep asleep i ≡ true
    → NoneFrom went IsEnd threads front u n
none_once went IsEnd threads front u i n long once asleep slept is j le order f =
    enough_at_once went IsEnd threads front u i (j + 1) long once (sleeps (NoneWith went IsEnd threads front u) asleep i slept is) j order (omega arith) f
