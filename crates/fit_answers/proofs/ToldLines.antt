-- What threads were told is read line by line.
use Rattle.std.proofs.Common.{◌≡◌, ℕ, suc, ◌+◌, ◌-◌, ◌<◌, ◌≤◌, Bool, true, false, List, [], ◌∷◌, ◌++◌, Option, Some, None, Result, Ok, Err, refl, sym}
use Rattle.std.proofs.Common.{ap, subst, ◌∙◌, append_assoc, append-nil, arith}
use Rattle.std.specs.Prelude.{if◌then◌else◌}
use Rattle.its_history.specs.Reading.{◌>>=◌, ◌then◌, is_over, is_printed, LinesLeft, lines_left, only, pending_from, said}
use Rattle.its_history.proofs.ReadLegs.{in_front}
use Rattle.its_history.proofs.ReadTexts.{after_printed, bound, cut_printed}
use Rattle.its_fit.specs.declared.told.Answered.{Answered}
use Rattle.its_fit.specs.declared.told.Told.{Told}
use Rattle.fit_answers.specs.ToldText.{answered_with, Calls, call_in, call_then, calls_from, is_in_order, threads_from, time, told_from, told_in}

-- ---- texts

with_text : (b e : Option ℕ) (text : List ℕ) (a : Answered) → answered_with b e text ≡ Some a → text ≡ a.text
with_text (Some b) (Some e) text a is = ap (λ (o : Option Answered). elim o [ None ↦ text | Some x ↦ x.text ]) is
with_text (Some b) None text a is = absurd cc
with_text None (Some e) text a is = absurd cc
with_text None None text a is = absurd cc

told_printed : (told : List ℕ) (a : Answered) → told_in told ≡ Some a → is_printed told ≡ true → is_printed a.text ≡ true
unfolding told_in
told_printed told a is p =
    let b = bound _ _ a is in
    let e = bound _ _ a b.second in
    subst (λ (t : List ℕ). is_printed t ≡ true) (with_text (time b.x.0) (time e.x.0) e.x.1 a e.second)
    (cut_printed 32 b.x.1 e.x e.first (cut_printed 32 told b.x b.first p))

pub call_printed : (thread : ℕ) (line : List ℕ) (a : Answered) → call_in thread line ≡ Some a → is_printed line ≡ true → is_printed a.text ≡ true
unfolding call_in
call_printed thread line a is p =
    let f = bound _ _ a is in
    let n = bound _ _ a f.second in
    let t = bound _ _ a n.second in
    told_printed t.x a t.second (after_printed _ n.x t.x t.first (after_printed _ f.x n.x n.first (after_printed _ line f.x f.first p)))

-- ---- calls

abbrev after_call : ℕ → ℕ → LinesLeft → Option (Answered × LinesLeft) → Calls
after_call thread last here None = Ok ([], here)
after_call thread last here (Some p) =
    if is_in_order last p.0.span then (calls_from thread p.0.span.end p.1.number p.1.parts then λ q. Ok (p.0 ∷ q.0, q.1)) else Err here.number

found : (thread last : ℕ) (here later : LinesLeft) (o : Option Answered)
    → call_then last here o (λ end. calls_from thread end later.number later.parts) ≡ after_call thread last here (o >>= λ x. Some (x, later))
found thread last here later None = refl
found thread last here later (Some a) = refl

printed : (thread last : ℕ) (text : List ℕ) (here later : LinesLeft) (b : Bool)
    → call_then last here (only b text >>= call_in thread) (λ end. calls_from thread end later.number later.parts)
    ≡ after_call thread last here (let line : Option (List ℕ × LinesLeft) = only b (text, later) in line >>= λ p. call_in thread p.0 >>= λ x. Some (x, p.1))
printed thread last text here later true = found thread last here later (call_in thread text)
printed thread last text here later false = refl

step : (thread last n : ℕ) (ps : List (List ℕ))
    → calls_from thread last n ps ≡ after_call thread last (lines_left n ps) (said (call_in thread) (lines_left n ps))
step thread last n [] = refl
step thread last n (cut ∷ []) = refl
step thread last n (text ∷ (next ∷ rest)) = printed thread last text (lines_left n (text ∷ (next ∷ rest))) (lines_left (n + 1) (next ∷ rest)) (is_printed text)

one_more : {A : Type 0} (xs : List A) (x : A) (r : Result (List A × LinesLeft) ℕ) → in_front xs (r then λ q. Ok (x ∷ q.0, q.1)) ≡ in_front (xs ++ x ∷ []) r
one_more {A = A} xs x (Ok p) = ap (λ (ys : List A). let whole : Result (List A × LinesLeft) ℕ = Ok (ys, p.1) in whole) (sym (append_assoc xs (x ∷ []) p.0))
one_more xs x (Err n) = refl

module _ (before : List Answered) (thread last : ℕ) (here : LinesLeft) where
  -- those that are left
  abbrev rest : Calls
  rest = calls_from thread last here.number here.parts

  is_next : (o : Option (Answered × LinesLeft)) → said (call_in thread) here ≡ o → in_front before rest ≡ in_front before (after_call thread last here o)
  is_next o is = ap (in_front before) (step thread last here.number here.parts ∙ ap (after_call thread last here) is)

  -- one more
  pub calls_on : (a : Answered) (now : LinesLeft) → said (call_in thread) here ≡ Some (a, now) → is_in_order last a.span ≡ true
      → in_front before rest ≡ in_front (before ++ a ∷ []) (calls_from thread a.span.end now.number now.parts)
  calls_on a now is good =
      let more = calls_from thread a.span.end now.number now.parts in
      is_next (Some (a, now)) is
      ∙ ap (λ (b : Bool). in_front before (let r : Calls = if b then (more then λ q. Ok (a ∷ q.0, q.1)) else Err here.number in r)) good
      ∙ one_more before a more

  -- one that isn't in order
  pub calls_stop : (a : Answered) (now : LinesLeft) → said (call_in thread) here ≡ Some (a, now) → is_in_order last a.span ≡ false
      → in_front before rest ≡ Err here.number
  calls_stop a now is bad =
      let more = calls_from thread a.span.end now.number now.parts in
      is_next (Some (a, now)) is
      ∙ ap (λ (b : Bool). in_front before (let r : Calls = if b then (more then λ q. Ok (a ∷ q.0, q.1)) else Err here.number in r)) bad

  -- no more
  pub calls_end : said (call_in thread) here ≡ None → in_front before rest ≡ Ok (before, here)
  calls_end is = is_next None is ∙ ap (λ (xs : List Answered). let r : Calls = Ok (xs, here) in r) (append-nil before)

-- ---- threads

abbrev Threads : Type 0
Threads = Result (List (List Answered) × LinesLeft) ℕ

module _ (ts : List (List Answered)) (earlier count : ℕ) (here : LinesLeft) where
  abbrev later : LinesLeft → Threads
  later now = threads_from (earlier + 1) (count - (earlier + 1)) now

  next_is : (r : Calls) → earlier < count → calls_from (earlier + 1) 0 here.number here.parts ≡ r
      → in_front ts (threads_from earlier (count - earlier) here) ≡ in_front ts (r then λ x. later x.1 then λ q. Ok (x.0 ∷ q.0, q.1))
  next_is r lt is =
      let left : count - earlier ≡ suc (count - (earlier + 1)) = omega arith in
      ap (λ n. in_front ts (threads_from earlier n here)) left ∙ ap (λ (x : Calls). in_front ts (x then λ y. later y.1 then λ q. Ok (y.0 ∷ q.0, q.1))) is

  pub threads_on : (t : List Answered) (now : LinesLeft) → earlier < count → calls_from (earlier + 1) 0 here.number here.parts ≡ Ok (t, now)
      → in_front ts (threads_from earlier (count - earlier) here) ≡ in_front (ts ++ t ∷ []) (threads_from (earlier + 1) (count - (earlier + 1)) now)
  threads_on t now lt is = next_is (Ok (t, now)) lt is ∙ one_more ts t (later now)

  pub threads_stop : (n : ℕ) → earlier < count → calls_from (earlier + 1) 0 here.number here.parts ≡ Err n
      → in_front ts (threads_from earlier (count - earlier) here) ≡ Err n
  threads_stop n lt is = next_is (Err n) lt is

  pub threads_end : count ≤ earlier → in_front ts (threads_from earlier (count - earlier) here) ≡ Ok (ts, here)
  threads_end le =
      let left : count - earlier ≡ 0 = omega arith in
      ap (λ k. in_front ts (threads_from earlier k here)) left ∙ ap (λ (xs : List (List Answered)). let r : Threads = Ok (xs, here) in r) (append-nil ts)

-- ---- the whole of it

pub told_at : (threads vcpus : ℕ) (lines : List (List ℕ)) (ts : List (List Answered)) (ps : List (List ℕ)) (between now : LinesLeft)
    → threads_from 0 threads (lines_left 1 lines) ≡ Ok (ts, between) → pending_from 0 vcpus between ≡ Ok (ps, now)
    → told_from threads vcpus lines
    ≡ (let r : Result Told ℕ = if is_over now.parts then Ok (record { threads = ts; pending = ps }) else Err now.number in r)
unfolding told_from
told_at threads vcpus lines ts ps between now first second =
    ap (λ (r : Threads). r then λ x. pending_from 0 vcpus x.1 then λ y.
    let w : Result Told ℕ = if is_over y.1.parts then Ok (record { threads = x.0; pending = y.0 }) else Err y.1.number in w) first
    ∙ ap (λ (r : Result (List (List ℕ) × LinesLeft) ℕ). r then λ y.
    let w : Result Told ℕ = if is_over y.1.parts then Ok (record { threads = ts; pending = y.0 }) else Err y.1.number in w) second
