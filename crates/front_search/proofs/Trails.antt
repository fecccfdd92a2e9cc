-- Trails grow and shrink at their end.
use Rattle.std.proofs.Common.{◌≡◌, ℕ, ◌+◌, ◌-◌, ◌<◌, ◌≤◌, Bool, true, false, List, [], ◌∷◌, ◌++◌, length, map, Option, Some, None, refl, sym, ap, subst, ◌∙◌, inl, inr, arith}
use Rattle.std.proofs.lemmas.Bool.{cases_lt}
use Rattle.std.proofs.lemmas.List.{get_or_past, get_or-set_same, length-set, set-set, set-get_or}
use Rattle.std.specs.Global.{Global}
use Rattle.std.specs.Prelude.{Vec, slice_get, slice_set}
use Rattle.std.specs.Bool.{Decides}
use Rattle.front_search.specs.Fits.{Answers, Leads, Fits}
use Rattle.front_search.specs.Fronts.{Threads, Front, MayGo, IsWhole, ReturnedBefore, next_of, more, placed, start}
use Rattle.front_search.specs.Moves.{less}
use Rattle.front_search.specs.Sleeping.{Asleep, NoneFrom, NoneWith}
use Rattle.front_search.specs.Trails.{IsEnough, NoneBelow, Steps, Trail}
use Rattle.front_search.specs.declared.trail.Placed.{Placed}
use Rattle.front_search.specs.declared.span.Span.{Span}

-- ---- fronts

pub next_past : (threads : Threads) (front : Front) (i : ℕ) → length threads ≤ i → next_of threads front i ≡ None
next_past threads front i le = ap (λ (calls : List Span). slice_get calls (placed front i)) (get_or_past threads i [] le)

pub clash : (s : Span) (o : Option Span) → o ≡ Some s → o ≡ None → ⊥
clash s o a b = let e : Some s ≡ None = sym a ∙ b in cc e

pub go_below : (threads : Threads) (front : Front) (i : ℕ) → MayGo threads front i → i < length threads
go_below threads front i g =
    elim (cases_lt i (length threads)) [
      | inl lt ↦ lt
      | inr le ↦ absurd (clash g.span (next_of threads front i) g.is_next (next_past threads front i le))
    ]

one_less : (n m : ℕ) → m ≡ n + 1 → m - 1 ≡ n
one_less n m e = omega (arith, e)

-- a call taken back leaves the front before it
pub back_again : (front : Front) (i : ℕ) → i < length front → less (more front i) i ≡ front
back_again front i lt =
    set-set front i (placed front i + 1) (placed (more front i) i - 1)
    ∙ ap (λ (n : ℕ). slice_set front i n) (one_less (placed front i) (placed (more front i) i) (get_or-set_same front i (placed front i + 1) 0 lt))
    ∙ set-get_or front i 0

-- ---- trails

pub trail_more : {S : Type 0} (went : Answers S) (IsEnd : S → Type 0) (threads : Threads) (front : Front) (u : S) (path : List (Placed S)) (front' : Front) (u' : S)
    (p : Placed S) (w : S) → Trail went IsEnd threads front u path front' u' → Steps went IsEnd threads front' u' p w
    → Trail went IsEnd threads front u (path ++ p ∷ []) (more front' p.thread) w
trail_more {S = S} went IsEnd threads front u [] front' u' p w t s =
    let moved : Steps went IsEnd threads front u p w = subst (λ (f : Front). Steps went IsEnd threads f u p w) (sym t.0)
    (subst (λ (x : S). Steps went IsEnd threads front' x p w) (sym t.1) s) in
    (w, moved, (ap (λ (f : Front). more f p.thread) t.0, refl))
trail_more {S = S} went IsEnd threads front u (q ∷ path) front' u' p w t s =
    (t.0, t.1, trail_more went IsEnd threads (more front q.thread) t.0 path front' u' p w t.2 s)

-- the last call of a trail, and the trail before it
pub record Back {S : Type 0} (went : Answers S) (IsEnd : S → Type 0) (threads : Threads) (front : Front) (u : S) (path : List (Placed S)) (front' : Front) (u' : S)
    (p : Placed S) : Type 0 where
  pub old_front : Front
  pub trail : Trail went IsEnd threads front u path old_front p.before
  pub steps : Steps went IsEnd threads old_front p.before p u'
  pub moved : front' ≡ more old_front p.thread

pub trail_less : {S : Type 0} (went : Answers S) (IsEnd : S → Type 0) (threads : Threads) (front : Front) (u : S) (path : List (Placed S)) (front' : Front) (u' : S)
    (p : Placed S) → Trail went IsEnd threads front u (path ++ p ∷ []) front' u' → Back went IsEnd threads front u path front' u' p
trail_less {S = S} went IsEnd threads front u [] front' u' p t =
    let last : Steps went IsEnd threads front u p u' = subst (λ (x : S). Steps went IsEnd threads front u p x) t.2.1 t.1 in
    record {
      old_front = front;
      trail = (refl, sym t.1.before);
      steps = subst (λ (x : S). Steps went IsEnd threads front x p u') (sym t.1.before) last;
      moved = sym t.2.0;
    }
trail_less {S = S} went IsEnd threads front u (q ∷ path) front' u' p t =
    let b : Back went IsEnd threads (more front q.thread) t.0 path front' u' p = trail_less went IsEnd threads (more front q.thread) t.0 path front' u' p t.2 in
    record { old_front = b.old_front; trail = (t.0, t.1, b.trail); steps = b.steps; moved = b.moved }

pub trail_leads : {S : Type 0} (went : Answers S) (IsEnd : S → Type 0) (threads : Threads) (front : Front) (u : S) (path : List (Placed S)) (front' : Front) (u' : S)
    → Trail went IsEnd threads front u path front' u' → Leads went threads front u (map (λ (p : Placed S). p.thread) path) front' u'
trail_leads went IsEnd threads front u [] front' u' t = t
trail_leads went IsEnd threads front u (q ∷ path) front' u' t =
    (t.0, t.1.goes, trail_leads went IsEnd threads (more front q.thread) t.0 path front' u' t.2)

-- ---- orders that fit

-- what leads to an end fits
pub leads_fit : {S : Type 0} (went : Answers S) (IsEnd : S → Type 0) (threads : Threads) (front : Front) (u : S) (order : List ℕ) (front' : Front) (u' : S)
    → Leads went threads front u order front' u' → Fits went IsEnd threads front' u' [] → Fits went IsEnd threads front u order
leads_fit {S = S} went IsEnd threads front u [] front' u' l f =
    subst (λ (x : Front). Fits went IsEnd threads x u []) (sym l.0) (subst (λ (x : S). Fits went IsEnd threads front' x []) (sym l.1) f)
leads_fit went IsEnd threads front u (i ∷ order) front' u' l f = (l.0, l.1, leads_fit went IsEnd threads (more front i) l.0 order front' u' l.2 f)

-- where no thread is left to begin with, and the calls aren't at their end, no order fits
pub none_fits : {S : Type 0} (went : Answers S) (IsEnd : S → Type 0) (threads : Threads) (front : Front) (u : S) (n : ℕ) → NoneBelow went IsEnd threads front u n
    → NoneFrom went IsEnd threads front u n → (¬ Fits went IsEnd threads front u []) → (order : List ℕ) → ¬ Fits went IsEnd threads front u order
none_fits went IsEnd threads front u n below more_none no_end [] f = no_end f
none_fits went IsEnd threads front u n below more_none no_end (i ∷ order) f =
    elim (cases_lt i n) [ inl lt ↦ below i order lt f | inr le ↦ more_none i le order f ]

-- a call leads to one state alone
pub not_again : {S : Type 0} (went : Answers S) (IsEnd : S → Type 0) (threads : Threads) (front : Front) (u : S) (i j : ℕ) (w : S) → j ≡ i
    → ((x : S) → went u i (placed front i) x → x ≡ w) → ((order : List ℕ) → ¬ Fits went IsEnd threads (more front i) w order)
    → (order : List ℕ) → ¬ Fits went IsEnd threads front u (j ∷ order)
not_again {S = S} went IsEnd threads front u i j w e one none order f =
    let state : f.0 ≡ w = one f.0 (subst (λ (k : ℕ). went u k (placed front k) f.0) e f.1.answered) in
    none order (subst (λ (k : ℕ). Fits went IsEnd threads (more front k) w order) e
    (subst (λ (x : S). Fits went IsEnd threads (more front j) x order) state f.2))

-- the last call is taken back
pub below_more : {S : Type 0} (went : Answers S) (IsEnd : S → Type 0) (threads : Threads) (front : Front) (u : S) (p : Placed S) (w : S)
    → Steps went IsEnd threads front u p w → ((order : List ℕ) → ¬ Fits went IsEnd threads (more front p.thread) w order)
    → NoneBelow went IsEnd threads front u p.next
below_more went IsEnd threads front u p w s none =
    s.enough (λ order f. not_again went IsEnd threads front u p.thread p.thread w refl s.one_state none order f)

-- the least thread that may go is enough for those up to it
pub enough_least : {S : Type 0} (went : Answers S) (IsEnd : S → Type 0) (threads : Threads) (front : Front) (u : S) (n i : ℕ) → NoneBelow went IsEnd threads front u n
    → ((j : ℕ) → n ≤ j → j < i → NoneWith went IsEnd threads front u j) → IsEnough went IsEnd threads front u i (i + 1)
enough_least went IsEnd threads front u n i below between none j order lt f =
    elim (cases_lt j n) [
      | inl low ↦ below j order low f
      | inr le ↦ elim (cases_lt j i) [
        | inl lower ↦ between j le lower order f
        | inr up ↦ let same : j ≡ i = omega arith in none order (subst (λ (k : ℕ). Fits went IsEnd threads front u (k ∷ order)) same f)
      ]
    ]

-- a call is answered otherwise
pub below_miss : {S : Type 0} (went : Answers S) (IsEnd : S → Type 0) (threads : Threads) (front : Front) (u : S) (i n : ℕ)
    → IsEnough went IsEnd threads front u i n → ((w : S) → ¬ went u i (placed front i) w) → NoneBelow went IsEnd threads front u n
below_miss went IsEnd threads front u i n enough miss = enough (λ order f. miss f.0 f.1.answered)

-- ---- one step on, and one back

-- a thread is found whose next call goes
pub placed_so : {S : Type 0} (went : Answers S) (IsEnd : S → Type 0) (threads : Threads) (front : Front) (u : S) (i n : ℕ) (asleep : Vec ℕ Global) (w : S)
    → MayGo threads front i
    → went u i (placed front i) w → ((x : S) → went u i (placed front i) x → x ≡ w) → IsEnough went IsEnd threads front u i n
    → Asleep went IsEnd threads front u asleep.items
    → Steps went IsEnd threads front u (record { thread = i; before = u; next = n; asleep = asleep }) w
placed_so went IsEnd threads front u i n asleep w may_go answered one enough slept = record {
  goes = record { may_go = may_go; answered = answered };
  one_state = one;
  enough = enough;
  asleep = slept;
  before = refl;
}

pub none_yet : {S : Type 0} (went : Answers S) (IsEnd : S → Type 0) (threads : Threads) (front : Front) (u : S) → NoneBelow went IsEnd threads front u 0
none_yet went IsEnd threads front u i order lt f = absurd (omega arith)

-- where the search stands when it has taken a call back
pub record BackAt {S : Type 0} (went : Answers S) (IsEnd : S → Type 0) (threads : Threads) (first : S) (front : Front) (p : Placed S)
    (path : List (Placed S)) : Type 0 where
  pub below : p.thread < length front
  pub some : 1 ≤ placed front p.thread
  pub trail : Trail went IsEnd threads (start threads) first path (less front p.thread) p.before
  pub none_below : NoneBelow went IsEnd threads (less front p.thread) p.before p.next
  pub asleep : Asleep went IsEnd threads (less front p.thread) p.before p.asleep.items
  pub long : length (less front p.thread) ≡ length threads

pub back_at : {S : Type 0} (went : Answers S) (IsEnd : S → Type 0) (threads : Threads) (first : S) (front : Front) (u : S) (n : ℕ) (path : List (Placed S))
    (p : Placed S) → Trail went IsEnd threads (start threads) first (path ++ p ∷ []) front u → length front ≡ length threads
    → NoneBelow went IsEnd threads front u n → NoneFrom went IsEnd threads front u n → (¬ Fits went IsEnd threads front u [])
    → BackAt went IsEnd threads first front p path
back_at {S = S} went IsEnd threads first front u n path p t long below no_more no_end =
    let b : Back went IsEnd threads (start threads) first path front u p = trail_less went IsEnd threads (start threads) first path front u p t in
    let lt : p.thread < length threads = go_below threads b.old_front p.thread b.steps.goes.may_go in
    let long_at : length b.old_front ≡ length threads = sym (length-set b.old_front p.thread (placed b.old_front p.thread + 1)) ∙ sym (ap length b.moved) ∙ long in
    let lt_at : p.thread < length b.old_front = subst (λ (k : ℕ). p.thread < k) (sym long_at) lt in
    let one_more : placed front p.thread ≡ placed b.old_front p.thread + 1 = ap (λ (f : Front). placed f p.thread) b.moved
    ∙ get_or-set_same b.old_front p.thread (placed b.old_front p.thread + 1) 0 lt_at in
    let again : less front p.thread ≡ b.old_front = ap (λ (f : Front). less f p.thread) b.moved ∙ back_again b.old_front p.thread lt_at in
    let none : (order : List ℕ) → ¬ Fits went IsEnd threads (more b.old_front p.thread) u order = subst (λ (f : Front). (order : List ℕ)
    → ¬ Fits went IsEnd threads f u order) b.moved (none_fits went IsEnd threads front u n below no_more no_end) in
    record {
      below = subst (λ (k : ℕ). p.thread < k) (sym long) lt;
      some = omega (arith, one_more);
      trail = subst (λ (f : Front). Trail went IsEnd threads (start threads) first path f p.before) (sym again) b.trail;
      none_below = subst (λ (f : Front). NoneBelow went IsEnd threads f p.before p.next) (sym again)
          (below_more went IsEnd threads b.old_front p.before p u b.steps none);
      asleep = subst (λ (f : Front). Asleep went IsEnd threads f p.before p.asleep.items) (sym again) b.steps.asleep;
      long = ap length again ∙ long_at;
    }

-- ---- tests of the program

pub whole_all : (threads : Threads) (front : Front) (n : ℕ) → length threads ≤ n → ((j : ℕ) → j < n → next_of threads front j ≡ None) → IsWhole threads front
whole_all threads front n le none i = elim (cases_lt i n) [ inl lt ↦ none i lt | inr up ↦ next_past threads front i (omega arith) ]

pub go_all : (threads : Threads) (front : Front) (i n : ℕ) (span : Span) → next_of threads front i ≡ Some span → length threads ≤ n
    → ((j : ℕ) (o : Span) → j < n → next_of threads front j ≡ Some o → span.begin ≤ o.end) → MayGo threads front i
go_all threads front i n span is le all = record {
  span = span;
  is_next = is;
  none_before = λ j o e.
      elim (cases_lt j n) [
        | inl lt ↦ all j o lt e
        | inr up ↦ absurd (clash o (next_of threads front j) e (next_past threads front j (omega arith)))
      ];
}

true_not : false ≡ true → ⊥
true_not e = cc e

pub some_begin : (a b : Span) → Some a ≡ Some b → a.begin ≡ b.begin
some_begin a b e = let same : a ≡ b = cc e in ap (λ (s : Span). s.begin) same

later : (threads : Threads) (front : Front) (n j time : ℕ) (o : Span) → j ≡ n → next_of threads front j ≡ Some o → o.end < time
    → ReturnedBefore threads front n time
later threads front n j time o same e late = record {
  span = o;
  is_next = subst (λ (k : ℕ). next_of threads front k ≡ Some o) same e;
  before = late;
}

go_at : (threads : Threads) (front : Front) (j n : ℕ) → j ≡ n → MayGo threads front j → MayGo threads front n
go_at threads front j n same g = subst (λ (k : ℕ). MayGo threads front k) same g

-- a thread that has no next call may not go
pub not_none : (threads : Threads) (front : Front) (i : ℕ) → next_of threads front i ≡ None → ¬ MayGo threads front i
not_none threads front i none g = clash g.span (next_of threads front i) g.is_next none

-- nor one whose next call began after another's had returned
pub not_late : (threads : Threads) (front : Front) (i j : ℕ) (span : Span) → next_of threads front i ≡ Some span → ReturnedBefore threads front j span.begin
    → ¬ MayGo threads front i
not_late threads front i j span is late g =
    let same : Some g.span ≡ Some span = sym g.is_next ∙ is in
    let begin : g.span.begin ≡ span.begin = some_begin g.span span same in
    absurd (omega (arith, begin, late.before, g.none_before j late.span late.is_next))

pub all_more : (threads : Threads) (front : Front) (n time : ℕ) → ((j : ℕ) (o : Span) → j < n → next_of threads front j ≡ Some o → time ≤ o.end)
    → (¬ ReturnedBefore threads front n time) → (j : ℕ) (o : Span) → j < n + 1 → next_of threads front j ≡ Some o → time ≤ o.end
all_more threads front n time all none j o lt e =
    elim (cases_lt j n) [
      | inl low ↦ all j o low e
      | inr up ↦ elim (cases_lt o.end time) [
        | inl late ↦ absurd (none (later threads front n j time o (omega arith) e late))
        | inr le ↦ le
      ]
    ]

pub less_more : (threads : Threads) (front : Front) (m n : ℕ) → ((j : ℕ) → m ≤ j → j < n → ¬ MayGo threads front j) → (¬ MayGo threads front n)
    → (j : ℕ) → m ≤ j → j < n + 1 → ¬ MayGo threads front j
less_more threads front m n all none j le lt g =
    elim (cases_lt j n) [ inl low ↦ all j le low g | inr up ↦ none (go_at threads front j n (omega arith) g) ]

pub none_from : (threads : Threads) (front : Front) (m n : ℕ) → length threads ≤ n → ((j : ℕ) → m ≤ j → j < n → ¬ MayGo threads front j) → (j : ℕ) → m ≤ j
    → ¬ MayGo threads front j
none_from threads front m n long all j le g = let lt : j < length threads = go_below threads front j g in all j le (omega arith) g

-- the end

pub end_of : {S : Type 0} (went : Answers S) (IsEnd : S → Type 0) (threads : Threads) (front front' : Front) (u u' : S) (b d : Bool) → front' ≡ front → u' ≡ u
    → Decides b (IsWhole threads front') → b ≡ true → Decides d (IsEnd u') → Decides d (Fits went IsEnd threads front u [])
end_of went IsEnd threads front front' u u' b d fe ue whole is ends =
    (λ e. (subst (λ (x : Front). IsWhole threads x) fe (whole.0 is), subst IsEnd ue (ends.0 e)), λ f. ends.1 (subst IsEnd (sym ue) f.1))

pub end_not : {S : Type 0} (went : Answers S) (IsEnd : S → Type 0) (threads : Threads) (front front' : Front) (u : S) (b : Bool) → front' ≡ front
    → Decides b (IsWhole threads front') → b ≡ false → Decides false (Fits went IsEnd threads front u [])
end_not went IsEnd threads front front' u b fe whole is =
    (λ e. absurd (true_not e), λ f. absurd (true_not (sym is ∙ whole.1 (subst (λ (x : Front). IsWhole threads x) (sym fe) f.0))))
