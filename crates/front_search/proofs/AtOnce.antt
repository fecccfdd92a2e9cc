-- Tests of the program: whether a call goes at once.
use Rattle.std.proofs.Common.{◌≡◌, ◌≢◌, ℕ, ◌+◌, ◌<◌, ◌≤◌, List, [], length, Some, sym, ap, subst, ◌∙◌, inl, inr, arith}
use Rattle.std.proofs.lemmas.Bool.{cases_lt}
use Rattle.std.proofs.lemmas.List.{get_or_past}
use Rattle.std.specs.Prelude.{slice_get}
use Rattle.front_search.specs.Commuting.{CommutesWith, ReturnsFrom, GoesAtOnce}
use Rattle.front_search.specs.Fits.{Answers}
use Rattle.front_search.specs.Fronts.{Threads, Front, MayGo, call_of, next_of, placed}
use Rattle.front_search.specs.declared.span.Span.{Span}
use Rattle.front_search.proofs.Trails.{clash, some_begin}

-- one thread more
pub commutes_more : {S : Type 0} (went : Answers S) (IsEnd : S → Type 0) (threads : Threads) (front : Front) (time i k n : ℕ)
    → ((j : ℕ) → j < n → j ≢ i → CommutesWith went IsEnd threads front time i k j) → (n ≢ i → CommutesWith went IsEnd threads front time i k n)
    → (j : ℕ) → j < n + 1 → j ≢ i → CommutesWith went IsEnd threads front time i k j
commutes_more went IsEnd threads front time i k n all one j lt ne =
    elim (cases_lt j n) [
      | inl low ↦ all j low ne
      | inr up ↦
          let same : n ≡ j = omega (arith, lt, up) in
          subst (λ (m : ℕ). CommutesWith went IsEnd threads front time i k m) same (one (λ e. ne (sym same ∙ e)))
    ]

-- all threads
pub at_once_of : {S : Type 0} (went : Answers S) (IsEnd : S → Type 0) (threads : Threads) (front front' front'' : Front) (i k n : ℕ) (span : Span) → front' ≡ front
    → front'' ≡ front → MayGo threads front' i → next_of threads front'' i ≡ Some span → k ≡ placed front i → ReturnsFrom threads i (k + 1) span.end
    → length threads ≤ n → ((j : ℕ) → j < n → j ≢ i → CommutesWith went IsEnd threads front span.end i (placed front i) j)
    → GoesAtOnce went IsEnd threads front i
at_once_of went IsEnd threads front front' front'' i k n span f f' may is ke later long all =
    let go : MayGo threads front i = subst (λ (x : Front). MayGo threads x i) f may in
    let next : next_of threads front i ≡ Some span = subst (λ (x : Front). next_of threads x i ≡ Some span) f' is in
    let begin : go.span.begin ≡ span.begin = some_begin go.span span (sym go.is_next ∙ next) in
    record {
      may_go = record { span = span; is_next = next; none_before = λ j o e. subst (λ (t : ℕ). t ≤ o.end) begin (go.none_before j o e) };
      passes = record {
        is_next = next;
        in_order = subst (λ (m : ℕ). ReturnsFrom threads i (m + 1) span.end) ke later;
        commutes = λ j ne l s le at by.
            elim (cases_lt j n) [
              | inl lt ↦ all j lt ne l s le at by
              | inr up ↦ absurd (clash s (call_of threads j l) at
                  (ap (λ (calls : List Span). slice_get calls l) (get_or_past threads j [] (omega (arith, long, up)))))
            ];
      };
    }
