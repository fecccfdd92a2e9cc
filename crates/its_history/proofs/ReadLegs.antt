-- Lines that are read one after another.
use Rattle.std.proofs.Common.{◌≡◌, ℕ, suc, ◌+◌, ◌-◌, ◌<◌, ◌≤◌, Bool, List, [], ◌∷◌, ◌++◌, drop, Result, Ok, Err, refl, sym, ap, ◌∙◌, append_assoc, append-nil}
use Rattle.std.proofs.Common.{subst, arith}
use Rattle.std.proofs.lemmas.List.{drop-drop}
use Rattle.std.specs.Prelude.{if◌then◌else◌}
use Rattle.std.specs.Result.{IsErrAnd}
use Rattle.its_history.specs.Reading.{LinesLeft, lines_left, parts, read, ◌then◌, pending_in, pending_from, leg_from, move_after, legs_from, is_over, trace_of}
use Rattle.its_history.specs.Reading.{Reads, IsReadAs}
use Rattle.its_history.specs.declared.reading.TraceError.{TraceError}
use Rattle.its_history.specs.declared.reading.TraceError.TheVariants.{BadLine, NoMemory}
use Rattle.its_history.specs.declared.trace.Leg.{Leg}
use Rattle.its_history.specs.declared.trace.Trace.{Trace}

-- some that were read, in front of those to come
abbrev pub in_front : {A : Type 0} → List A → Result (List A × LinesLeft) ℕ → Result (List A × LinesLeft) ℕ
in_front xs (Ok p) = Ok (xs ++ p.0, p.1)
in_front xs (Err n) = Err n

one_more : {A : Type 0} (xs : List A) (x : A) (r : Result (List A × LinesLeft) ℕ) → in_front xs (r then λ q. Ok (x ∷ q.0, q.1)) ≡ in_front (xs ++ x ∷ []) r
one_more {A = A} xs x (Ok p) = ap (λ (ys : List A). let whole : Result (List A × LinesLeft) ℕ = Ok (ys, p.1) in whole) (sym (append_assoc xs (x ∷ []) p.0))
one_more xs x (Err n) = refl

pub none_yet : {A : Type 0} (r : Result (List A × LinesLeft) ℕ) → r ≡ in_front [] r
none_yet (Ok p) = refl
none_yet (Err n) = refl

-- ---- virtual processors

pub pending_on : (ps : List (List ℕ)) (p : List ℕ) (vcpu count : ℕ) (here now : LinesLeft) → vcpu < count → read (pending_in vcpu) here ≡ Ok (p, now)
    → in_front ps (pending_from vcpu (count - vcpu) here) ≡ in_front (ps ++ p ∷ []) (pending_from (vcpu + 1) (count - (vcpu + 1)) now)
pending_on ps p vcpu count here now lt is =
    let left : count - vcpu ≡ suc (count - (vcpu + 1)) = omega arith in
    let rest = pending_from (vcpu + 1) (count - (vcpu + 1)) now in
    ap (λ n. in_front ps (pending_from vcpu n here)) left
    ∙ ap (λ (r : Result (List ℕ × LinesLeft) ℕ). in_front ps (r then λ x. pending_from (vcpu + 1) (count - (vcpu + 1)) x.1 then λ q. Ok (x.0 ∷ q.0, q.1))) is
    ∙ one_more ps p rest

pub pending_stops : (ps : List (List ℕ)) (vcpu count n : ℕ) (here : LinesLeft) → vcpu < count → read (pending_in vcpu) here ≡ Err n
    → in_front ps (pending_from vcpu (count - vcpu) here) ≡ Err n
pending_stops ps vcpu count n here lt is =
    let left : count - vcpu ≡ suc (count - (vcpu + 1)) = omega arith in
    ap (λ k. in_front ps (pending_from vcpu k here)) left
    ∙ ap (λ (r : Result (List ℕ × LinesLeft) ℕ). in_front ps (r then λ x. pending_from (vcpu + 1) (count - (vcpu + 1)) x.1 then λ q. Ok (x.0 ∷ q.0, q.1))) is

pub pending_end : (ps : List (List ℕ)) (vcpu count : ℕ) (here : LinesLeft) → count ≤ vcpu → in_front ps (pending_from vcpu (count - vcpu) here) ≡ Ok (ps, here)
pending_end ps vcpu count here le =
    let left : count - vcpu ≡ 0 = omega arith in
    ap (λ k. in_front ps (pending_from vcpu k here)) left ∙ ap (λ (xs : List (List ℕ)). let whole : Result (List (List ℕ) × LinesLeft) ℕ =
    Ok (xs, here) in whole) (append-nil ps)

-- ---- legs

module _ (copies : List Bool) (ls : List Leg) (vcpus earlier count : ℕ) (here : LinesLeft) where
  -- the legs that are left
  abbrev rest : ℕ → Result (List Leg × LinesLeft) ℕ
  rest n = legs_from vcpus (earlier + 1) n (drop earlier copies) here

  -- those after the next one
  abbrev later : LinesLeft → Result (List Leg × LinesLeft) ℕ
  later now = legs_from vcpus (earlier + 1 + 1) (count - (earlier + 1)) (drop 1 (drop earlier copies)) now

  next_is : (r : Result (Leg × LinesLeft) ℕ) → earlier < count
      → leg_from vcpus (earlier + 1) (move_after (count - (earlier + 1)) (drop earlier copies)) here ≡ r
      → in_front ls (rest (count - earlier)) ≡ in_front ls (r then λ x. later x.1 then λ q. Ok (x.0 ∷ q.0, q.1))
  next_is r lt is =
      let left : count - earlier ≡ suc (count - (earlier + 1)) = omega arith in
      ap (λ n. in_front ls (rest n)) left
      ∙ ap (λ (x : Result (Leg × LinesLeft) ℕ). in_front ls (x then λ y. later y.1 then λ q. Ok (y.0 ∷ q.0, q.1))) is

  pub legs_on : (l : Leg) (now : LinesLeft) → earlier < count
      → leg_from vcpus (earlier + 1) (move_after (count - (earlier + 1)) (drop earlier copies)) here ≡ Ok (l, now)
      → in_front ls (rest (count - earlier)) ≡ in_front (ls ++ l ∷ [])
      (legs_from vcpus (earlier + 1 + 1) (count - (earlier + 1)) (drop (earlier + 1) copies) now)
  legs_on l now lt is =
      next_is (Ok (l, now)) lt is ∙ one_more ls l (later now)
      ∙ ap (λ (cs : List Bool). in_front (ls ++ l ∷ []) (legs_from vcpus (earlier + 1 + 1) (count - (earlier + 1)) cs now)) (drop-drop 1 earlier copies)

  pub legs_stop : (n : ℕ) → earlier < count → leg_from vcpus (earlier + 1) (move_after (count - (earlier + 1)) (drop earlier copies)) here ≡ Err n
      → in_front ls (rest (count - earlier)) ≡ Err n
  legs_stop n lt is = next_is (Err n) lt is

  pub legs_end : count ≤ earlier → in_front ls (rest (count - earlier)) ≡ Ok (ls, here)
  legs_end le =
      let left : count - earlier ≡ 0 = omega arith in
      ap (λ k. in_front ls (rest k)) left ∙ ap (λ (xs : List Leg). let whole : Result (List Leg × LinesLeft) ℕ =
      Ok (xs, here) in whole) (append-nil ls)

-- ---- the whole report

-- what is said of it, by its legs
abbrev whole : Result (List Leg × LinesLeft) ℕ → Result (List Leg) ℕ
whole read = read then λ p. let r : Result (List Leg) ℕ = if is_over p.1.parts then Ok p.0 else Err p.1.number in r

pub trace_by : (legs : ℕ) (copies : List Bool) (vcpus : ℕ) (text : List ℕ) (read : Result (List Leg × LinesLeft) ℕ)
    → legs_from vcpus 1 legs copies (lines_left 1 (parts text)) ≡ read → trace_of legs copies vcpus text ≡ whole read
unfolding trace_of
trace_by legs copies vcpus text read is = ap whole is

-- a leg isn't as it must be, or memory ran out
pub stopped : (r : Result Trace TraceError) (e : TraceError) (read : Result (List Leg) ℕ) (leg : Result (Leg × LinesLeft) ℕ) (now : LinesLeft)
    → IsErrAnd r (λ x. x ≡ e) → Reads (λ (l : Leg). l) (Err e) now leg → ((n : ℕ) → leg ≡ Err n → read ≡ Err n) → IsReadAs r read
stopped (Ok t) e read leg now is reads then_read = absurd is
stopped (Err (BadLine n)) e read leg now is reads then_read =
    then_read n (subst (λ (x : TraceError). Reads (λ (l : Leg). l) (Err x) now leg) (sym is) reads)
stopped (Err NoMemory) e read leg now is reads then_read = tt
