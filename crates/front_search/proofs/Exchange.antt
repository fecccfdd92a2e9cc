-- Where an order fits, one fits that begins with a call that goes at once.
use Rattle.std.proofs.Common.{◌≡◌, ◌≢◌, ℕ, ◌+◌, ◌<◌, ◌≤◌, List, [], ◌∷◌, length, Option, Some, sym, ap, subst, ◌∙◌, inl, inr, arith}
use Rattle.std.proofs.lemmas.Bool.{cases_eq}
use Rattle.std.proofs.lemmas.List.{get_or-set_same, get_or-set_other, length-set, set_comm}
use Rattle.std.specs.Prelude.{slice_set}
use Rattle.front_search.specs.Commuting.{GoesBefore, Commutes, CommutesWith, PassesAll, GoesAtOnce}
use Rattle.front_search.specs.Fits.{Answers, Fits}
use Rattle.front_search.specs.Fronts.{Threads, Front, MayGo, call_of, next_of, more, placed}
use Rattle.front_search.specs.Trails.{IsEnough}
use Rattle.front_search.specs.declared.span.Span.{Span}
use Rattle.front_search.proofs.Trails.{clash, go_below}

-- ---- fronts

pub placed_other : (front : Front) (i j : ℕ) → i ≢ j → placed (more front j) i ≡ placed front i
placed_other front i j ne = get_or-set_other front j i (placed front j + 1) 0 ne

pub placed_same : (front : Front) (i : ℕ) → i < length front → placed (more front i) i ≡ placed front i + 1
placed_same front i lt = get_or-set_same front i (placed front i + 1) 0 lt

pub more_comm : (front : Front) (i j : ℕ) → j ≢ i → more (more front j) i ≡ more (more front i) j
more_comm front i j ne =
    ap (λ (n : ℕ). slice_set (more front j) i (n + 1)) (placed_other front i j (λ e. ne (sym e)))
    ∙ set_comm front j i (placed front j + 1) (placed front i + 1) ne
    ∙ ap (λ (n : ℕ). slice_set (more front i) j (n + 1)) (sym (placed_other front j i ne))

-- one call has one begin and one end
pub one_begin : (a b : Span) (o : Option Span) → o ≡ Some a → o ≡ Some b → a.begin ≡ b.begin
one_begin a b o e f = let same : a ≡ b = cc (sym e ∙ f) in ap (λ (s : Span). s.begin) same

-- ---- what a call that passes all passes

module _ (threads : Threads) (front : Front) (i j : ℕ) (span : Span) (ne : j ≢ i) (go : MayGo threads front j) (lt : j < length front) where
  -- after j's next call, i's is the same
  next_still : (o : Option Span) → next_of threads front i ≡ o → next_of threads (more front j) i ≡ o
  next_still o e = ap (λ (n : ℕ). call_of threads i n) (placed_other front i j (λ e. ne (sym e))) ∙ e

  module _ {S : Type 0} (went : Answers S) (IsEnd : S → Type 0) (passes : PassesAll went IsEnd threads front i span) where
    begun : go.span.begin ≤ span.end
    begun = go.none_before i span passes.is_next

    -- j's next call began by the end of i's, so what began by then after it began by then with it
    commutes_still : (x : ℕ) → x ≢ i → CommutesWith went IsEnd threads (more front j) span.end i (placed front i) x
    commutes_still x other l s le is by =
        elim (cases_eq x j) [
          | inl e ↦
              let up : placed (more front j) x ≡ placed front x + 1 =
              ap (placed (more front j)) e ∙ placed_same front j lt ∙ ap (λ (k : ℕ). placed front k + 1) (sym e) in
              let first : call_of threads x (placed front x) ≡ Some go.span = subst (λ (k : ℕ). next_of threads front k ≡ Some go.span) (sym e) go.is_next in
              passes.commutes x other l s (omega (arith, up, le)) is
              (λ n o from to at. elim (cases_eq n (placed front x)) [
                | inl here ↦
                    let begin : o.begin ≡ go.span.begin =
                    one_begin o go.span (call_of threads x n) at (subst (λ (k : ℕ). call_of threads x k ≡ Some go.span) (sym here) first) in
                    omega (arith, begin, begun)
                | inr past ↦ by n o (omega (arith, up, from, past)) to at
              ])
          | inr apart ↦
              let same : placed (more front j) x ≡ placed front x = placed_other front x j apart in
              passes.commutes x other l s (omega (arith, same, le)) is (λ n o from to at. by n o (omega (arith, same, from)) to at)
        ]

    passes_still : PassesAll went IsEnd threads (more front j) i span
    passes_still =
        let same : placed (more front j) i ≡ placed front i = placed_other front i j (λ e. ne (sym e)) in
        record {
          is_next = next_still (Some span) passes.is_next;
          in_order = λ o e. passes.in_order o (subst (λ (n : ℕ). call_of threads i (n + 1) ≡ Some o) same e);
          commutes = λ x other. subst (λ (n : ℕ). CommutesWith went IsEnd threads (more front j) span.end i n x) (sym same) (commutes_still x other);
        }

    commutes_now : Commutes went IsEnd i (placed front i) j (placed front j)
    commutes_now =
        passes.commutes j ne (placed front j) go.span (omega arith) go.is_next
        (λ n o from to at. let here : n ≡ placed front j = omega (arith, from, to) in
        let begin : o.begin ≡ go.span.begin = one_begin o go.span (call_of threads j n) at
        (subst (λ (k : ℕ). call_of threads j k ≡ Some go.span) (sym here) go.is_next) in
        omega (arith, begin, begun))

    -- j's next call may go after i's
    go_after : i < length front → MayGo threads (more front i) j
    go_after below = record {
      span = go.span;
      is_next = ap (λ (n : ℕ). call_of threads j n) (placed_other front j i ne) ∙ go.is_next;
      none_before = λ x o e.
          elim (cases_eq x i) [
            | inl same ↦
                let later : call_of threads i (placed front i + 1) ≡ Some o =
                ap (λ (n : ℕ). call_of threads i n) (sym (placed_same front i below)) ∙ subst (λ (k : ℕ). next_of threads (more front i) k ≡ Some o) same e in
                omega (arith, begun, passes.in_order o later)
            | inr apart ↦ go.none_before x o (ap (λ (n : ℕ). call_of threads x n) (sym (placed_other front x i apart)) ∙ e)
          ];
    }

-- ---- orders

-- thread i's next call goes, and an order fits after it
record Moved {S : Type 0} (went : Answers S) (IsEnd : S → Type 0) (threads : Threads) (front : Front) (u : S) (i : ℕ) : Type 0 where
  state : S
  answered : went u i (placed front i) state
  rest : List ℕ
  fits : Fits went IsEnd threads (more front i) state rest

module _ {S : Type 0} (went : Answers S) (IsEnd : S → Type 0) (threads : Threads) (i : ℕ) (span : Span) (below : i < length threads) where
  -- it is moved before one call that it passes
  passed : (front : Front) (u : S) (j : ℕ) (w : S) → length front ≡ length threads → j ≢ i → MayGo threads front j → went u j (placed front j) w
      → PassesAll went IsEnd threads front i span → Moved went IsEnd threads (more front j) w i → Moved went IsEnd threads front u i
  passed front u j w long ne go answered passes m =
      let lt : j < length front = subst (λ (n : ℕ). j < n) (sym long) (go_below threads front j go) in
      let same : placed (more front j) i ≡ placed front i = placed_other front i j (λ e. ne (sym e)) in
      let back : placed front j ≡ placed (more front i) j = sym (placed_other front j i ne) in
      let b : GoesBefore went IsEnd i (placed front i) j (placed front j) u m.state =
      commutes_now threads front i j span ne go lt went IsEnd passes u w m.state answered (subst (λ (n : ℕ). went w i n m.state) same m.answered) in
      record {
        state = b.between;
        answered = b.first;
        rest = j ∷ m.rest;
        fits = (
          b.after,
          record {
            may_go = go_after threads front i j span ne go lt went IsEnd passes (subst (λ (n : ℕ). i < n) (sym long) below);
            answered = subst (λ (n : ℕ). went b.between j n b.after) back b.second;
          },
          subst (λ (f : Front). Fits went IsEnd threads f b.after m.rest) (more_comm front i j ne)
              (b.fits_too threads (more (more front j) i) m.rest m.fits),
        );
      }

  moved : (front : Front) (u : S) (order : List ℕ) → length front ≡ length threads → PassesAll went IsEnd threads front i span
      → Fits went IsEnd threads front u order → Moved went IsEnd threads front u i
  moved front u [] long passes f = absurd (clash span (next_of threads front i) passes.is_next (f.0 i))
  moved front u (j ∷ order) long passes f =
      elim (cases_eq j i) [
        | inl e ↦ record {
          state = f.0;
          answered = subst (λ (k : ℕ). went u k (placed front k) f.0) e f.1.answered;
          rest = order;
          fits = subst (λ (k : ℕ). Fits went IsEnd threads (more front k) f.0 order) e f.2;
        }
        | inr ne ↦
            let go : MayGo threads front j = f.1.may_go in
            let lt : j < length front = subst (λ (n : ℕ). j < n) (sym long) (go_below threads front j go) in
            passed front u j f.0 long ne go f.1.answered passes
            (moved (more front j) f.0 order (length-set front j (placed front j + 1) ∙ long) (passes_still threads front i j span ne go lt went IsEnd passes) f.2)
      ]

-- so it is enough to try that call
pub enough_at_once : {S : Type 0} (went : Answers S) (IsEnd : S → Type 0) (threads : Threads) (front : Front) (u : S) (i n : ℕ) → length front ≡ length threads
    → GoesAtOnce went IsEnd threads front i → IsEnough went IsEnd threads front u i n
enough_at_once went IsEnd threads front u i n long once none j order lt f =
    let go : MayGo threads front i = once.may_go in
    let m : Moved went IsEnd threads front u i = moved went IsEnd threads i go.span (go_below threads front i go) front u (j ∷ order) long once.passes f in
    none m.rest (m.state, record { may_go = go; answered = m.answered }, m.fits)
