-- An order is put together call by call.
use Rattle.std.proofs.Common.{◌≡◌, ℕ, suc, ◌+◌, ◌<◌, ◌≤◌, List, [], ◌∷◌, ◌++◌, length, take, replicate, get_or, Some, refl, sym, ap, subst, ◌∙◌, inl, inr, arith}
use Rattle.std.proofs.lemmas.Bool.{cases_eq, cases_lt}
use Rattle.std.proofs.lemmas.List.{get_or_past, get_or_read, get_or-set_same, get_or-set_other, length-replicate, length-set}
use Rattle.std.specs.Prelude.{slice_set, slice_index}
use Rattle.its_fit.specs.Explained.{Line, told_by}
use Rattle.its_fit.specs.Replays.{told_at, made_at}
use Rattle.its_fit.specs.Ordered.{AreLinesOf, IsSoFar, IsAll, IsOrdered}
use Rattle.its_fit.specs.declared.replay.Made.{Made}
use Rattle.its_fit.specs.declared.told.Answered.{Answered}
use Rattle.its_fit.proofs.Lists.{taken_more, taken_all, taken_none, taken_of_none, zeros_at}
use Rattle.its_fit.proofs.Merged.{lines_more, lines_same, all_snoc, all_weaker, times_more}

pub none_so_far : (threads : List (List Answered)) (front : List ℕ) → front ≡ replicate (length threads) 0 → IsSoFar threads [] front 0
none_so_far threads front e = record {
  lines = [];
  are_lines = tt;
  known = tt;
  counted = λ i. sym (ap (λ k. take k (told_by threads i)) (ap (λ f. slice_index f i) e ∙ zeros_at (length threads) i) ∙ taken_none (told_by threads i));
  times = tt;
  begun = tt;
  long = ap length e ∙ length-replicate (length threads) 0;
}

names_more : (threads : List (List Answered)) (made : List Made) (lines : List Line) (m : Made) (l : Line) → AreLinesOf threads made lines → m.thread ≡ l.0
    → told_at threads m.thread m.call ≡ Some l.1 → AreLinesOf threads (made ++ m ∷ []) (lines ++ l ∷ [])
names_more threads [] [] m l names e told = (e, told, tt)
names_more threads [] (x ∷ lines) m l names e told = absurd names
names_more threads (x ∷ made) [] m l names e told = absurd names
names_more threads (x ∷ made) (y ∷ lines) m l names e told = (names.0, names.1, names_more threads made lines m l names.2 e told)

-- one more call is placed
pub more_so_far : (threads : List (List Answered)) (made : List Made) (front : List ℕ) (latest : ℕ) (i later : ℕ) (a : Answered)
    → IsSoFar threads made front latest → i < length front → told_at threads i (slice_index front i) ≡ Some a → latest ≤ later → a.span.begin ≤ later
    → later ≤ a.span.end
    → IsSoFar threads (made ++ made_at i (slice_index front i) ∷ []) (slice_set front i (slice_index front i + 1)) later
more_so_far threads made front latest i later a s lt told le begin end =
    let n = slice_index front i in
    let l : Line = (i, a) in
    record {
      lines = s.lines ++ l ∷ [];
      are_lines = names_more threads made s.lines (made_at i n) l s.are_lines refl told;
      known = all_snoc (λ (x : Line). x.0 < length threads) s.lines l s.known (omega (arith, lt, s.long));
      counted = λ j.
          elim (cases_eq j i) [
            | inl e ↦
                lines_more j s.lines l (sym e) ∙ ap (λ z. z ++ a ∷ []) (s.counted j) ∙ ap (λ k. take (slice_index front k) (told_by threads k) ++ a ∷ []) e
                ∙ sym (taken_more (told_by threads i) n a told)
                ∙ ap (λ k. take k (told_by threads i)) (sym (get_or-set_same front i (n + 1) 0 lt ∙ one_more n))
                ∙ ap (λ k. take (slice_index (slice_set front i (n + 1)) k) (told_by threads k)) (sym e)
            | inr ne ↦
                lines_same j s.lines l (λ e. ne (sym e)) ∙ s.counted j
                ∙ ap (λ k. take k (told_by threads j)) (sym (get_or-set_other front i j (n + 1) 0 ne))
          ];
      times = times_more s.lines l later s.times (all_weaker (λ (x : Line). x.1.span.begin ≤ latest) (λ (x : Line). x.1.span.begin ≤ later) s.lines
          (λ x p. omega (arith, p, le)) s.begun) end (omega (arith, begin, end));
      begun = all_snoc (λ (x : Line). x.1.span.begin ≤ later) s.lines l (all_weaker (λ (x : Line). x.1.span.begin ≤ latest) (λ (x : Line). x.1.span.begin ≤ later)
          s.lines (λ x p. omega (arith, p, le)) s.begun) begin;
      long = length-set front i (n + 1) ∙ s.long;
    }
  where
    one_more : (k : ℕ) → k + 1 ≡ suc k
    one_more k = omega arith

-- all are placed
pub all_ordered : (threads : List (List Answered)) (made : List Made) (front : List ℕ) (latest : ℕ) → IsSoFar threads made front latest → IsAll threads front
    → IsOrdered threads made
all_ordered threads made front latest s all = record {
  lines = s.lines;
  are_lines = s.are_lines;
  merge = record {
    known = s.known;
    same = λ i.
        elim (cases_lt i (length threads)) [
          | inl lt ↦ s.counted i ∙ taken_all (told_by threads i) (slice_index front i) (all i lt)
          | inr le ↦
              s.counted i ∙ ap (λ z. take (slice_index front i) z) (past i le) ∙ taken_of_none (slice_index front i) ∙ sym (past i le)
        ];
  };
  times = s.times;
}
  where
    past : (i : ℕ) → length threads ≤ i → told_by threads i ≡ []
    past i le = get_or_past threads i [] le

-- the same by other names
pub more_at : (threads : List (List Answered)) (made : List Made) (front : List ℕ) (latest : ℕ) (i later n : ℕ) (a : Answered) (made' : List Made)
    → IsSoFar threads made front latest → i < length front → n ≡ get_or front i n → told_at threads i n ≡ Some a → latest ≤ later → a.span.begin ≤ later
    → later ≤ a.span.end → made' ≡ made ++ made_at i n ∷ [] → IsSoFar threads made' (slice_set front i (n + 1)) later
more_at threads made front latest i later n a made' s lt is told le begin end e =
    let at : n ≡ slice_index front i = get_or_read front i n lt is 0 in
    let more : IsSoFar threads (made ++ made_at i (slice_index front i) ∷ []) (slice_set front i (slice_index front i + 1)) later =
    more_so_far threads made front latest i later a s lt (subst (λ (k : ℕ). told_at threads i k ≡ Some a) at told) le begin end in
    let here : IsSoFar threads (made ++ made_at i n ∷ []) (slice_set front i (n + 1)) later =
    subst (λ (k : ℕ). IsSoFar threads (made ++ made_at i k ∷ []) (slice_set front i (k + 1)) later) (sym at) more in
    subst (λ (m : List Made). IsSoFar threads m (slice_set front i (n + 1)) later) (sym e) here
