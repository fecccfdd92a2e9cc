-- What a line says, and the line that says it.
use Rattle.std.proofs.Common.{◌≡◌, ℕ, zero, suc, ◌+◌, ◌<◌, Bool, true, false, cond, List, [], ◌∷◌, ◌++◌, length, drop, take, Option, Some, None, refl, sym, ap}
use Rattle.std.proofs.Common.{subst, ◌∙◌, get_or, drop-cons, add-one}
use Rattle.std.specs.Prelude.{◌==◌, ◌&&◌, nat_le, nat_lt, position, codes}
use Rattle.std.specs.List.{position_or_len}
use Rattle.std.specs.Str.{bytes_eq}
use Rattle.std.specs.Fmt.{decimal}
use Rattle.std.proofs.lemmas.Bool.{ltb-true, eqb-true}
use Rattle.std.proofs.lemmas.List.Folds.{list_all-append}
use Rattle.std.proofs.lemmas.List.Sums.{passes_at_first}
use Rattle.its_history.specs.Reading.{◌>>=◌, only, is_printed, after, cut, cut_at, small_number, is_answered, pending_in, pages_in, entry_with, told_in}
use Rattle.its_history.specs.Reading.{entry_in}
use Rattle.its_history.specs.declared.trace.EntryLine.{EntryLine}
use Rattle.its_history.proofs.ReadNumbers.{right_true, same_text}

-- ---- steps

pub record IsBound {A B : Type 0} (o : Option A) (f : A → Option B) (y : B) : Type 0 where
  pub x : A
  pub first : o ≡ Some x
  pub second : f x ≡ Some y

pub bound : {A B : Type 0} (o : Option A) (f : A → Option B) (y : B) → (o >>= f) ≡ Some y → IsBound o f y
bound (Some x) f y e = record { x = x; first = refl; second = e }
bound None f y e = absurd cc

pub only_some : {A : Type 0} (b : Bool) (x y : A) → only b x ≡ Some y → (b ≡ true) × (x ≡ y)
only_some true x y e = (refl, cc)
only_some false x y e = absurd cc

-- ---- what stands after

pub take_drop : (n : ℕ) (xs : List ℕ) → take n xs ++ drop n xs ≡ xs
take_drop zero xs = refl
take_drop (suc n) [] = refl
take_drop (suc n) (x ∷ xs) = ap (λ (ys : List ℕ). x ∷ ys) (take_drop n xs)

pub after_is : (beginning text rest : List ℕ) → after beginning text ≡ Some rest → text ≡ beginning ++ rest
unfolding after
after_is beginning text rest e =
    let p = only_some (bytes_eq (take (length beginning) text) beginning) (drop (length beginning) text) rest e in
    sym (take_drop (length beginning) text) ∙ ap (λ (ys : List ℕ). ys ++ drop (length beginning) text) (same_text (take (length beginning) text) beginning p.0)
    ∙ ap (λ (ys : List ℕ). beginning ++ ys) p.1

printed_behind : (xs ys : List ℕ) → is_printed (xs ++ ys) ≡ true → is_printed ys ≡ true
printed_behind xs ys e = right_true (is_printed xs) (is_printed ys) (sym (list_all-append (λ b. nat_le 32 b && nat_le b 126) xs ys) ∙ e)

pub after_printed : (beginning text rest : List ℕ) → after beginning text ≡ Some rest → is_printed text ≡ true → is_printed rest ≡ true
after_printed beginning text rest e p = printed_behind beginning rest (sym (ap is_printed (after_is beginning text rest e)) ∙ p)

-- ---- what stands before a byte and after it

cut_some : (text : List ℕ) (o : Option ℕ) (p : List ℕ × List ℕ) → cut text o ≡ Some p → (i : ℕ) × (p ≡ (take i text, drop (i + 1) text))
cut_some text (Some i) p e = (i, cc)
cut_some text None p e = absurd cc

dropped : (text : List ℕ) (i : ℕ) → i < length text → drop i text ≡ get_or text i 0 ∷ drop (i + 1) text
dropped text i lt = rw (add-one, drop-cons text i 0) refl

cut_found : (byte : ℕ) (text : List ℕ) (p : List ℕ × List ℕ) (b : Bool) → nat_lt (position_or_len (λ x. x == byte) text) (length text) ≡ b
    → cut text (cond b (Some (position_or_len (λ x. x == byte) text)) None) ≡ Some p → text ≡ p.0 ++ byte ∷ p.1
cut_found byte text p false at e = absurd cc
cut_found byte text p true at e =
    let i = position_or_len (λ x. x == byte) text in
    let lt : i < length text = ltb-true i (length text) at in
    let here : get_or text i 0 ≡ byte = eqb-true (get_or text i 0) byte (passes_at_first (λ x. x == byte) text 0 lt) in
    let parts : (take i text, drop (i + 1) text) ≡ p = cc in
    sym (take_drop i text) ∙ ap (λ (ys : List ℕ). take i text ++ ys) (dropped text i lt ∙ ap (λ x. x ∷ drop (i + 1) text) here)
    ∙ ap (λ (q : List ℕ × List ℕ). q.0 ++ byte ∷ q.1) parts

pub cut_is : (byte : ℕ) (text : List ℕ) (p : List ℕ × List ℕ) → cut_at byte text ≡ Some p → text ≡ p.0 ++ byte ∷ p.1
unfolding cut_at
cut_is byte text p e = cut_found byte text p (nat_lt (position_or_len (λ x. x == byte) text) (length text)) refl e

drop_printed : (n : ℕ) (text : List ℕ) → is_printed text ≡ true → is_printed (drop n text) ≡ true
drop_printed n text p = printed_behind (take n text) (drop n text) (ap is_printed (take_drop n text) ∙ p)

pub cut_printed : (byte : ℕ) (text : List ℕ) (p : List ℕ × List ℕ) → cut_at byte text ≡ Some p → is_printed text ≡ true → is_printed p.1 ≡ true
unfolding cut_at
cut_printed byte text p e h =
    let q = cut_some text (position (λ b. b == byte) text) p e in
    subst (λ (x : List ℕ × List ℕ). is_printed x.1 ≡ true) (sym q.1) (drop_printed (q.0 + 1) text h)

pub pending_printed : (vcpu : ℕ) (line pending : List ℕ) → pending_in vcpu line ≡ Some pending → is_printed line ≡ true → is_printed pending ≡ true
unfolding pending_in
pending_printed vcpu line pending e h =
    let a = bound _ _ pending e in
    let b = bound _ _ pending a.second in
    let c = bound _ _ pending b.second in
    let d = only_some (nat_lt 0 (length c.x)) c.x pending c.second in
    subst (λ (t : List ℕ). is_printed t ≡ true) d.1 (after_printed _ b.x c.x c.first (after_printed _ a.x b.x b.first (after_printed _ line a.x a.first h)))

pub pages_printed : (line pages : List ℕ) → pages_in line ≡ Some pages → is_printed line ≡ true → is_printed pages ≡ true
unfolding pages_in
pages_printed line pages e h =
    let a = bound _ _ pages e in
    let d = only_some (nat_lt 0 (length a.x)) a.x pages a.second in
    subst (λ (t : List ℕ). is_printed t ≡ true) d.1 (after_printed _ line a.x a.first h)

-- the parts of an entry's line
pub record IsEntryWith (place : ℕ) (phase thread : Option ℕ) (text : List ℕ) (entry : EntryLine) : Type 0 where
  pub place_is : place ≡ entry.place
  pub phase_is : phase ≡ Some entry.phase
  pub thread_is : thread ≡ Some entry.thread
  pub text_is : text ≡ entry.text
  pub answered : is_answered text ≡ true

pub with_is : (place : ℕ) (phase thread : Option ℕ) (text : List ℕ) (entry : EntryLine) → entry_with place phase thread text ≡ Some entry
    → IsEntryWith place phase thread text entry
with_is place (Some p) (Some t) text entry e =
    let made : EntryLine = record { place = place; phase = p; thread = t; text = text } in
    let d = only_some (is_answered text) made entry e in record {
      place_is = ap (λ (x : EntryLine). x.place) d.1;
      phase_is = ap (λ (x : EntryLine). Some x.phase) d.1;
      thread_is = ap (λ (x : EntryLine). Some x.thread) d.1;
      text_is = ap (λ (x : EntryLine). x.text) d.1;
      answered = d.0;
    }
with_is place (Some p) None text entry e = absurd cc
with_is place None (Some t) text entry e = absurd cc
with_is place None None text entry e = absurd cc

pub record IsTold (place : ℕ) (told : List ℕ) (entry : EntryLine) : Type 0 where
  pub seat : List ℕ × List ℕ
  pub rest : List ℕ × List ℕ
  pub seat_is : cut_at 46 told ≡ Some seat
  pub rest_is : cut_at 32 seat.1 ≡ Some rest
  pub made : IsEntryWith place (small_number seat.0) (small_number rest.0) rest.1 entry

pub told_is : (place : ℕ) (told : List ℕ) (entry : EntryLine) → told_in place told ≡ Some entry → IsTold place told entry
unfolding told_in
told_is place told entry e =
    let p = bound (cut_at 46 told) (λ p. cut_at 32 p.1 >>= λ q. entry_with place (small_number p.0) (small_number q.0) q.1) entry e in
    let q = bound (cut_at 32 p.x.1) (λ q. entry_with place (small_number p.x.0) (small_number q.0) q.1) entry p.second in
    record { seat = p.x; rest = q.x; seat_is = p.first; rest_is = q.first; made = with_is place (small_number p.x.0) (small_number q.x.0) q.x.1 entry q.second }

pub record IsEntryLine (place : ℕ) (line : List ℕ) (entry : EntryLine) : Type 0 where
  pub numbered : List ℕ
  pub told : List ℕ
  pub numbered_is : after (decimal place) line ≡ Some numbered
  pub told_is : after (codes " ") numbered ≡ Some told
  pub entry_is : told_in place told ≡ Some entry

pub entry_parts : (place : ℕ) (line : List ℕ) (entry : EntryLine) → entry_in place line ≡ Some entry → IsEntryLine place line entry
unfolding entry_in
entry_parts place line entry e =
    let a = bound (after (decimal place) line) (λ x. after (codes " ") x >>= λ told. told_in place told) entry e in
    let b = bound (after (codes " ") a.x) (λ told. told_in place told) entry a.second in
    record { numbered = a.x; told = b.x; numbered_is = a.first; told_is = b.first; entry_is = b.second }

pub entry_printed : (place : ℕ) (line : List ℕ) (entry : EntryLine) → entry_in place line ≡ Some entry → is_printed line ≡ true → is_printed entry.text ≡ true
entry_printed place line entry e h =
    let l = entry_parts place line entry e in
    let t = told_is place l.told entry l.entry_is in
    let told = after_printed (codes " ") l.numbered l.told l.told_is (after_printed (decimal place) line l.numbered l.numbered_is h) in
    subst (λ (x : List ℕ). is_printed x ≡ true) t.made.text_is (cut_printed 32 t.seat.1 t.rest t.rest_is (cut_printed 46 l.told t.seat t.seat_is told))
