-- What is printed is read as it is.
use Rattle.std.proofs.Common.{◌≡◌, ◌≢◌, ℕ, zero, suc, ◌+◌, ◌^◌, ◌<◌, ◌≤◌, Bool, true, false, List, [], ◌∷◌, ◌++◌, length, take, drop, Option, Some, None}
use Rattle.std.proofs.Common.{Result, Ok, Err, refl, sym, ap, subst, ◌∙◌, append_assoc, append-nil, eq-eqb, ne_eqb, arith}
use Rattle.std.specs.Prelude.{codes, if◌then◌else◌, ◌==◌, ◌&&◌, nat_lt, nat_le}
use Rattle.std.specs.List.{position_or_len, All, AllByRecursion}
use Rattle.std.specs.Str.{bytes_eq}
use Rattle.std.specs.Str.Parse.{AllDigits}
use Rattle.std.specs.Fmt.{decimal}
use Rattle.std.proofs.Math.Seq.{take-append_seam, drop-append_seam}
use Rattle.std.proofs.lemmas.Bool.{lt-ltb, le-leb, leb-true}
use Rattle.std.proofs.lemmas.Fmt.{decimal_is_IsNumeral}
use Rattle.std.proofs.lemmas.Str.Parse.{digit_from_value}
use Rattle.std.proofs.lemmas.List.{length-append}
use Rattle.std.proofs.lemmas.List.Elements.{All-nil, All-cons}
use Rattle.std.proofs.lemmas.List.Folds.{list_all-append}
use Rattle.std.proofs.lemmas.List.Splits.{slice_split_at}
use Rattle.its_history.specs.Report.{told_text, line_text, entry_lines, vcpu_text, vcpu_lines_from, end_text, end_line, leg_text, legs_from, report_text}
use Rattle.its_history.specs.Reading.{◌>>=◌, only, is_printed, is_answered, after, cut, cut_at, small_number, pending_in, head_in, word_in}
use Rattle.its_history.specs.Reading.{entry_with, told_in, entry_in, LinesLeft, lines_left, next_of, next_line, said, read, ◌then◌, entries_from, pending_from}
use Rattle.its_history.specs.Reading.{pages_in, Move, end_from, leg_from, move_after, is_over, parts, trace_of}
use Rattle.its_history.specs.Reading as reading
use Rattle.its_history.specs.ReadBack.{ArePlaced, EndsBefore, HasLegShape, HasShape, IsReadable, IsSome, IsEndReadable, IsLegReadable}
use Rattle.its_history.specs.ReadBack.{PrintedReportsAreRead}
use Rattle.its_history.specs.declared.trace.End.{End}
use Rattle.its_history.specs.declared.trace.End.TheVariants.{Migrated, Copied, Done}
use Rattle.its_history.specs.declared.trace.EntryLine.{EntryLine}
use Rattle.its_history.specs.declared.trace.Leg.{Leg}
use Rattle.its_history.proofs.Flat.{told_flat, line_flat, vcpu_flat, leg_flat, line_on}
use Rattle.its_history.proofs.ReadLines.{next_cons, some_part, after_entry, entries_step}
use Rattle.its_history.proofs.ReadNumbers.{left_true, right_true, both_true, texts_equal, number_is}

-- ---- bytes of numbers and of texts

abbrev Lacks : ℕ → List ℕ → Type 0
Lacks byte [] = Unit {0}
Lacks byte (x ∷ xs) = (x ≢ byte) × Lacks byte xs

digits_lack : (byte : ℕ) (ds : List ℕ) → byte < 48 → AllDigits 10 ds → Lacks byte ds
digits_lack byte [] lt all = tt
digits_lack byte (d ∷ ds) lt all = (let r = digit_from_value d all.0 in ((λ e. absurd (omega (arith, r.0, e, lt))), digits_lack byte ds lt all.1))

decimal_lacks : (byte n : ℕ) → byte < 48 → n < 2 ^ 64 → Lacks byte (decimal n)
decimal_lacks byte n lt small = digits_lack byte (decimal n) lt (decimal_is_IsNumeral n small).0.1

digits_printed : (ds : List ℕ) → AllDigits 10 ds → is_printed ds ≡ true
digits_printed [] all = refl
digits_printed (d ∷ ds) all =
    let r = digit_from_value d all.0 in
    both_true (nat_le 32 d && nat_le d 126) (is_printed ds) (both_true (nat_le 32 d) (nat_le d 126) (le-leb 32 d (omega (arith, r.0)))
    (le-leb d 126 (omega (arith, r.1)))) (digits_printed ds all.1)

pub decimal_printed : (n : ℕ) → n < 2 ^ 64 → is_printed (decimal n) ≡ true
decimal_printed n small = digits_printed (decimal n) (decimal_is_IsNumeral n small).0.1

pub append_printed : (xs ys : List ℕ) → is_printed xs ≡ true → is_printed ys ≡ true → is_printed (xs ++ ys) ≡ true
append_printed xs ys x y = list_all-append (λ b. nat_le 32 b && nat_le b 126) xs ys ∙ both_true (is_printed xs) (is_printed ys) x y

-- a number begins with a digit
abbrev IsLow : List ℕ → Type 0
IsLow [] = ⊥
IsLow (b ∷ bs) = b ≤ 57

low_digits : (ds : List ℕ) → 0 < length ds → AllDigits 10 ds → IsLow ds
low_digits [] some all = absurd (omega arith)
low_digits (d ∷ ds) some all = (digit_from_value d all.0).1

decimal_low : (n : ℕ) → n < 2 ^ 64 → IsLow (decimal n)
decimal_low n small = (let d = (decimal_is_IsNumeral n small).0 in low_digits (decimal n) d.0 d.1)

-- ---- pieces of a line

after_on : (beginning rest : List ℕ) → after beginning (beginning ++ rest) ≡ Some rest
unfolding after
after_on beginning rest =
    let front : bytes_eq (take (length beginning) (beginning ++ rest)) beginning ≡ true = texts_equal _ beginning (take-append_seam beginning rest) in
    rw front (ap (λ (xs : List ℕ). Some xs) (drop-append_seam beginning rest))

first_at : (byte : ℕ) (xs ys : List ℕ) → Lacks byte xs → position_or_len (λ x. x == byte) (xs ++ byte ∷ ys) ≡ length xs
first_at byte [] ys h = (let same : (byte == byte) ≡ true = eq-eqb byte byte refl in rw same refl)
first_at byte (x ∷ xs) ys h = (let other : (x == byte) ≡ false = ne_eqb x byte h.0 in let later = first_at byte xs ys h.1 in rw other (omega (arith, later)))

cut_on : (byte : ℕ) (xs ys : List ℕ) → Lacks byte xs → cut_at byte (xs ++ byte ∷ ys) ≡ Some (xs, ys)
unfolding cut_at
cut_on byte xs ys h =
    let text = xs ++ byte ∷ ys in
    let at : position_or_len (λ x. x == byte) text ≡ length xs = first_at byte xs ys h in
    let inside : nat_lt (length xs) (length text) ≡ true = lt-ltb (length xs) (length text) (omega (arith, length-append xs (byte ∷ ys))) in
    let rest : drop (length xs + 1) text ≡ ys = ap (λ (zs : List ℕ). drop (length xs + 1) zs) (sym (append_assoc xs (byte ∷ []) ys))
    ∙ ap (λ n. drop n ((xs ++ byte ∷ []) ++ ys)) (sym (length-append xs (byte ∷ []))) ∙ drop-append_seam (xs ++ byte ∷ []) ys in
    rw at (rw inside (ap (λ (p : List ℕ × List ℕ). Some p) (let pair : (take (length xs) text, drop (length xs + 1) text) ≡ (xs, ys) =
    cc (take-append_seam xs (byte ∷ ys), rest) in pair)))

told_on : (l : EntryLine) → IsReadable l → told_in l.place (told_text l.phase l.thread l.text) ≡ Some l
unfolding told_in
told_on l h =
    let rest = decimal l.thread ++ 32 ∷ l.text in
    let seat = ap (cut_at 46) (told_flat l.phase l.thread l.text) ∙ cut_on 46 (decimal l.phase) rest
    (decimal_lacks 46 l.phase (omega arith) (omega (arith, h.phase))) in
    let own = cut_on 32 (decimal l.thread) l.text (decimal_lacks 32 l.thread (omega arith) (omega (arith, h.thread))) in
    let phase = number_is l.phase (decimal l.phase) h.phase refl in
    let thread = number_is l.thread (decimal l.thread) h.thread refl in
    rw seat (rw own (rw (phase, thread, h.answered) refl))

entry_on : (l : EntryLine) → IsReadable l → entry_in l.place (line_text l) ≡ Some l
unfolding entry_in
entry_on l h =
    let told = told_text l.phase l.thread l.text in
    let place = ap (after (decimal l.place)) (line_flat l) ∙ after_on (decimal l.place) (32 ∷ told) in
    rw place (rw (after_on (codes " ") told) (told_on l h))

entry_line_printed : (l : EntryLine) → IsReadable l → is_printed (line_text l) ≡ true
entry_line_printed l h =
    let told : is_printed (told_text l.phase l.thread l.text) ≡ true =
    ap is_printed (told_flat l.phase l.thread l.text)
    ∙ append_printed (decimal l.phase) (46 ∷ (decimal l.thread ++ (32 ∷ l.text))) (decimal_printed l.phase (omega (arith, h.phase)))
    (append_printed (decimal l.thread) (32 ∷ l.text) (decimal_printed l.thread (omega (arith, h.thread))) h.printed) in
    ap is_printed (line_flat l) ∙ append_printed (decimal l.place) (32 ∷ told_text l.phase l.thread l.text) (decimal_printed l.place h.place) told

-- ---- lines

all_others : (text : List ℕ) → is_printed text ≡ true → All (λ x. (x == 10) ≡ false) text
all_others [] p = All-nil (λ x. (x == 10) ≡ false)
all_others (b ∷ bs) p =
    let here = left_true (nat_le 32 b && nat_le b 126) (is_printed bs) p in
    let low : 32 ≤ b = leb-true 32 b (left_true (nat_le 32 b) (nat_le b 126) here) in
    All-cons (λ x. (x == 10) ≡ false) b bs (ne_eqb b 10 (λ e. absurd (omega (arith, low, e))))
    (all_others bs (right_true (nat_le 32 b && nat_le b 126) (is_printed bs) p))

abbrev lines_of : ℕ → List ℕ → LinesLeft
lines_of n text = lines_left n (parts text)

next_on : (n : ℕ) (line rest : List ℕ) → is_printed line ≡ true → next_line (lines_of n (line ++ 10 ∷ rest)) ≡ Some (line, lines_of (n + 1) rest)
next_on n line rest p =
    ap (next_of n) (slice_split_at (λ b. b == 10) line 10 rest (all_others line p) refl) ∙ next_cons n line (parts rest) (some_part rest) ∙ rw p refl

said_on : {A : Type 0} (f : List ℕ → Option A) (x : A) (n : ℕ) (line rest : List ℕ) → is_printed line ≡ true → f line ≡ Some x
    → said f (lines_of n (line ++ 10 ∷ rest)) ≡ Some (x, lines_of (n + 1) rest)
said_on f x n line rest p e = rw (next_on n line rest p) (rw e refl)

read_on : {A : Type 0} (f : List ℕ → Option A) (x : A) (n : ℕ) (line rest : List ℕ) → is_printed line ≡ true → f line ≡ Some x
    → read f (lines_of n (line ++ 10 ∷ rest)) ≡ Ok (x, lines_of (n + 1) rest)
read_on f x n line rest p e = rw (said_on f x n line rest p e) refl

-- a line that doesn't begin with a digit is no entry
abbrev IsHigh : List ℕ → Type 0
IsHigh [] = ⊥
IsHigh (b ∷ bs) = 58 ≤ b

not_after : (d : ℕ) (ds : List ℕ) (b : ℕ) (bs : List ℕ) → d ≤ 57 → 58 ≤ b → after (d ∷ ds) (b ∷ bs) ≡ None
unfolding after
not_after d ds b bs low high = (let other : (b == d) ≡ false = ne_eqb b d (λ e. absurd (omega (arith, low, high, e))) in rw other refl)

no_number : (number line : List ℕ) → IsLow number → IsHigh line → after number line ≡ None
no_number [] line low high = absurd low
no_number (d ∷ ds) [] low high = absurd high
no_number (d ∷ ds) (b ∷ bs) low high = not_after d ds b bs low high

no_entry : (place : ℕ) (line : List ℕ) → place < 2 ^ 64 → IsHigh line → entry_in place line ≡ None
unfolding entry_in
no_entry place line small high = rw (no_number (decimal place) line (decimal_low place small) high) refl

stops : (place n : ℕ) (line rest : List ℕ) → place < 2 ^ 64 → is_printed line ≡ true → IsHigh line → said (entry_in place) (lines_of n (line ++ 10 ∷ rest))
    ≡ None
stops place n line rest small p high = rw (next_on n line rest p) (rw (no_entry place line small high) refl)

-- ---- the lines of a leg

pub record AreEntries (place n : ℕ) (es : List EntryLine) (tail : List ℕ) : Type 0 where
  pub number : ℕ
  pub entries : entries_from place n (parts (entry_lines es ++ tail)) ≡ (es, lines_of number tail)

entries_again : (place n : ℕ) (es : List EntryLine) (tail : List ℕ) → ArePlaced place es → AllByRecursion IsReadable es
    → ((m : ℕ) → said (entry_in (place + length es)) (lines_of m tail) ≡ None) → AreEntries place n es tail
entries_again place n [] tail placed all stop =
    let count : place + 0 ≡ place = omega arith in
    record {
      number = n;
      entries = entries_step place n (parts tail) ∙ ap (after_entry place (lines_of n tail)) (ap (λ k. said (entry_in k) (lines_of n tail)) (sym count)
          ∙ stop n);
    }
entries_again place n (e ∷ es) tail placed all stop =
    let rest = entry_lines es ++ tail in
    let count : place + 1 + length es ≡ place + suc (length es) = omega arith in
    let more = entries_again (place + 1) (n + 1) es tail placed.1 all.1 (λ m. ap (λ k. said (entry_in k) (lines_of m tail)) count ∙ stop m) in
    let text : entry_lines (e ∷ es) ++ tail ≡ line_text e ++ 10 ∷ rest = append_assoc (line_text e ++ codes "\n") (entry_lines es) tail
    ∙ line_on (line_text e) rest in
    let line : entry_in place (line_text e) ≡ Some e = ap (λ k. entry_in k (line_text e)) (sym placed.0) ∙ entry_on e all.0 in
    record {
      number = more.number;
      entries = ap (λ t. entries_from place n (parts t)) text ∙ entries_step place n (parts (line_text e ++ 10 ∷ rest))
          ∙ ap (after_entry place (lines_of n (line_text e ++ 10 ∷ rest))) (said_on (entry_in place) e n (line_text e) rest (entry_line_printed e all.0) line)
          ∙ ap (λ (p : List EntryLine × LinesLeft). (e ∷ p.0, p.1)) more.entries;
    }

vcpu_printed : (vcpu : ℕ) (p : List ℕ) → vcpu < 2 ^ 64 → is_printed p ≡ true → is_printed (vcpu_text vcpu p) ≡ true
vcpu_printed vcpu p small h =
    ap is_printed (vcpu_flat vcpu p) ∙ append_printed (codes "vcpu ") (decimal vcpu ++ (codes " pending " ++ p)) refl
    (append_printed (decimal vcpu) (codes " pending " ++ p) (decimal_printed vcpu small) (append_printed (codes " pending ") p refl h))

pending_on : (vcpu : ℕ) (p : List ℕ) → 0 < length p → pending_in vcpu (vcpu_text vcpu p) ≡ Some p
unfolding pending_in
pending_on vcpu p some =
    let there : nat_lt 0 (length p) ≡ true = lt-ltb 0 (length p) some in
    rw (vcpu_flat vcpu p) (rw (after_on (codes "vcpu ") (decimal vcpu ++ (codes " pending " ++ p))) (rw (after_on (decimal vcpu) (codes " pending " ++ p))
    (rw (after_on (codes " pending ") p) (rw there refl))))

pub record ArePending (vcpu n : ℕ) (ps : List (List ℕ)) (tail : List ℕ) : Type 0 where
  pub number : ℕ
  pub pending : pending_from vcpu (length ps) (lines_of n (vcpu_lines_from vcpu ps ++ tail)) ≡ Ok (ps, lines_of number tail)

pending_again : (vcpu n : ℕ) (ps : List (List ℕ)) (tail : List ℕ) → vcpu + length ps < 2 ^ 64 → AllByRecursion IsSome ps → ArePending vcpu n ps tail
pending_again vcpu n [] tail small all = record { number = n; pending = refl }
pending_again vcpu n (p ∷ ps) tail small all =
    let rest = vcpu_lines_from (vcpu + 1) ps ++ tail in
    let more = pending_again (vcpu + 1) (n + 1) ps tail (omega arith) all.1 in
    let text : vcpu_lines_from vcpu (p ∷ ps) ++ tail ≡ vcpu_text vcpu p ++ 10 ∷ rest = append_assoc (vcpu_text vcpu p ++ codes "\n")
    (vcpu_lines_from (vcpu + 1) ps) tail ∙ line_on (vcpu_text vcpu p) rest in
    let line = read_on (pending_in vcpu) p n (vcpu_text vcpu p) rest (vcpu_printed vcpu p (omega arith) all.0.printed) (pending_on vcpu p all.0.some) in
    record {
      number = more.number;
      pending = ap (λ t. pending_from vcpu (suc (length ps)) (lines_of n t)) text
          ∙ ap (λ (r : Result (List ℕ × LinesLeft) ℕ). r then λ a. pending_from (vcpu + 1) (length ps) a.1 then λ q.
          (let made : Result (List (List ℕ) × LinesLeft) ℕ = Ok (a.0 ∷ q.0, q.1) in made)) line
          ∙ ap (λ (r : Result (List (List ℕ) × LinesLeft) ℕ). r then λ q. (let made : Result (List (List ℕ) × LinesLeft) ℕ = Ok (p ∷ q.0, q.1) in made))
          more.pending;
    }

-- ---- legs

abbrev head_text : ℕ → List ℕ
head_text number = codes "leg " ++ decimal number

head_on : (number : ℕ) → head_in number (head_text number) ≡ Some tt
unfolding head_in
head_on number =
    let same : bytes_eq (decimal number) (decimal number) ≡ true = texts_equal (decimal number) (decimal number) refl in
    rw (after_on (codes "leg ") (decimal number)) (rw same refl)

head_printed : (number : ℕ) → number < 2 ^ 64 → is_printed (head_text number) ≡ true
head_printed number small = append_printed (codes "leg ") (decimal number) refl (decimal_printed number small)

pages_on : (pages : List ℕ) → 0 < length pages → pages_in (codes "migrated copied " ++ pages) ≡ Some pages
unfolding pages_in
pages_on pages some =
    let there : nat_lt 0 (length pages) ≡ true = lt-ltb 0 (length pages) some in
    rw (after_on (codes "migrated copied ") pages) (rw there refl)

end_printed : (end : End) → IsEndReadable (Some end) → is_printed (end_text end) ≡ true
unfolding end_text
end_printed Migrated can = refl
end_printed (Copied pages) can = append_printed (codes "migrated copied ") pages refl can.printed
end_printed Done can = refl

-- how a leg ended that this follows, and that it is read so
pub record IsEndAgain (move : Move) (end : Option End) (rest : List ℕ) : Type 0 where
  pub told : End
  pub is : end ≡ Some told
  pub read_is : (n : ℕ) → end_from move (lines_of n (end_line (Some told) ++ rest)) ≡ Ok (told, lines_of (n + 1) rest)

end_read : {A : Type 0} (f : List ℕ → Option A) (x : A) (told : A → End) (n : ℕ) (rest : List ℕ) → IsEndReadable (Some (told x))
    → f (end_text (told x)) ≡ Some x
    → (read f (lines_of n (end_line (Some (told x)) ++ rest)) then λ p. (let made : Result (End × LinesLeft) ℕ = Ok (told p.0, p.1) in made))
    ≡ Ok (told x, lines_of (n + 1) rest)
end_read {A = A} f x told n rest can says =
    let one : read f (lines_of n (end_line (Some (told x)) ++ rest)) ≡ Ok (x, lines_of (n + 1) rest) =
    ap (λ t. read f (lines_of n t)) (line_on (end_text (told x)) rest) ∙ read_on f x n (end_text (told x)) rest (end_printed (told x) can) says in
    ap (λ (r : Result (A × LinesLeft) ℕ). r then λ p. (let made : Result (End × LinesLeft) ℕ = Ok (told p.0, p.1) in made)) one

end_again : (move : Move) (end : Option End) (rest : List ℕ) → EndsBefore move end → IsEndReadable end → IsEndAgain move end rest
unfolding end_text
end_again None end rest is can = record { told = Done; is = is; read_is = λ n. end_read (word_in (codes "done")) tt (λ _. Done) n rest tt refl }
end_again (Some false) end rest is can = record {
  told = Migrated;
  is = is;
  read_is = λ n. end_read (word_in (codes "migrated")) tt (λ _. Migrated) n rest tt refl;
}
end_again (Some true) end rest is can =
    let some : IsSome is.0 = subst IsEndReadable is.1 can in record {
      told = Copied is.0;
      is = is.1;
      read_is = λ n. end_read pages_in is.0 (λ pages. Copied pages) n rest some (pages_on is.0 some.some);
    }

-- where the lines of virtual processors and of the end begin there is no entry
abbrev ends_with : List (List ℕ) → End → List ℕ → List ℕ
ends_with ps end rest = vcpu_lines_from 0 ps ++ (end_line (Some end) ++ rest)

end_high : (end : End) → IsHigh (end_text end)
unfolding end_text
end_high Migrated = omega arith
end_high (Copied pages) = omega arith
end_high Done = omega arith

end_stops : (place m : ℕ) (end : End) (rest : List ℕ) → place < 2 ^ 64 → IsEndReadable (Some end)
    → said (entry_in place) (lines_of m (end_line (Some end) ++ rest)) ≡ None
end_stops place m end rest small can =
    ap (λ t. said (entry_in place) (lines_of m t)) (line_on (end_text end) rest)
    ∙ stops place m (end_text end) rest small (end_printed end can) (end_high end)

tail_stops : (place m : ℕ) (ps : List (List ℕ)) (end : End) (rest : List ℕ) → place < 2 ^ 64 → AllByRecursion IsSome ps → IsEndReadable (Some end)
    → said (entry_in place) (lines_of m (ends_with ps end rest)) ≡ None
tail_stops place m [] end rest small all can = end_stops place m end rest small can
tail_stops place m (p ∷ ps) end rest small all can =
    let later = vcpu_lines_from 1 ps ++ (end_line (Some end) ++ rest) in
    let text : ends_with (p ∷ ps) end rest ≡ vcpu_text 0 p ++ 10 ∷ later = append_assoc (vcpu_text 0 p ++ codes "\n") (vcpu_lines_from 1 ps)
    (end_line (Some end) ++ rest) ∙ line_on (vcpu_text 0 p) later in
    let high : IsHigh (vcpu_text 0 p) = subst IsHigh (sym (vcpu_flat 0 p)) (omega arith) in
    ap (λ t. said (entry_in place) (lines_of m t)) text ∙ stops place m (vcpu_text 0 p) later small (vcpu_printed 0 p (omega arith) all.0.printed) high

abbrev made_leg : List EntryLine → List (List ℕ) → End → Leg
made_leg entries pending end = record { entries = entries; pending = pending; end = Some end }

pub record IsLegAgain (vcpus number n : ℕ) (move : Move) (leg : Leg) (rest : List ℕ) : Type 0 where
  pub last : ℕ
  pub leg_is : leg_from vcpus number move (lines_of n (leg_text number leg ++ rest)) ≡ Ok (leg, lines_of last rest)

made_again : (vcpus number n : ℕ) (move : Move) (end : End) (es : List EntryLine) (ps : List (List ℕ)) (rest : List ℕ) → number < 2 ^ 64 → vcpus < 2 ^ 32
    → length ps ≡ vcpus → ArePlaced 0 es → ((m : ℕ) → end_from move (lines_of m (end_line (Some end) ++ rest)) ≡ Ok (end, lines_of (m + 1) rest))
    → IsLegReadable (made_leg es ps end) → IsLegAgain vcpus number n move (made_leg es ps end) rest
unfolding leg_from
made_again vcpus number n move end es ps rest few small count placed ends can =
    let tail = ends_with ps end rest in
    let head = read_on (head_in number) tt n (head_text number) (entry_lines es ++ tail) (head_printed number few) (head_on number) in
    let entries = entries_again 0 (n + 1) es tail placed can.entries
    (λ m. tail_stops (0 + length es) m ps end rest (let c : length es < 2 ^ 64 = can.count in omega (arith, c)) can.pending can.end) in
    let pending : ArePending 0 entries.number ps (end_line (Some end) ++ rest) = pending_again 0 entries.number ps (end_line (Some end) ++ rest)
    (omega (arith, count, small)) can.pending in
    let lists : pending_from 0 vcpus (lines_of entries.number tail) ≡ Ok (ps, lines_of pending.number (end_line (Some end) ++ rest)) =
    ap (λ k. pending_from 0 k (lines_of entries.number tail)) (sym count) ∙ pending.pending in
    let last = ends pending.number in
    record {
      last = pending.number + 1;
      leg_is = rw (leg_flat number (made_leg es ps end) rest) (rw head (rw entries.entries (rw lists (rw last refl))));
    }

leg_again : (vcpus number n : ℕ) (move : Move) (leg : Leg) (rest : List ℕ) → number < 2 ^ 64 → vcpus < 2 ^ 32 → HasLegShape vcpus move leg
    → IsLegReadable leg → IsLegAgain vcpus number n move leg rest
leg_again vcpus number n move leg rest few small shape can =
    let one = end_again move leg.end rest shape.ends can.end in
    let same : made_leg leg.entries leg.pending one.told ≡ leg = ap (λ e. (let l : Leg = record { entries = leg.entries; pending = leg.pending; end = e } in l))
    (sym one.is) in
    subst (λ (l : Leg). IsLegAgain vcpus number n move l rest) same
    (made_again vcpus number n move one.told leg.entries leg.pending rest few small shape.pending shape.placed one.read_is (subst IsLegReadable (sym same) can))

pub record AreLegsAgain (vcpus number n count : ℕ) (copies : List Bool) (told : List Leg) (rest : List ℕ) : Type 0 where
  pub last : ℕ
  pub legs_are : reading.legs_from vcpus number count copies (lines_of n (legs_from number told ++ rest)) ≡ Ok (told, lines_of last rest)

legs_again : (vcpus number n count : ℕ) (copies : List Bool) (told : List Leg) (rest : List ℕ) → number + count < 2 ^ 64 → vcpus < 2 ^ 32
    → HasShape vcpus count copies told → AllByRecursion IsLegReadable told → AreLegsAgain vcpus number n count copies told rest
legs_again vcpus number n zero copies [] rest few small shape can = record { last = n; legs_are = refl }
legs_again vcpus number n zero copies (leg ∷ told) rest few small shape can = absurd shape
legs_again vcpus number n (suc later) copies [] rest few small shape can = absurd shape
legs_again vcpus number n (suc later) copies (leg ∷ told) rest few small shape can =
    let others = legs_from (number + 1) told ++ rest in
    let one = leg_again vcpus number n (move_after later copies) leg others (omega arith) small shape.0 can.0 in
    let more = legs_again vcpus (number + 1) one.last later (drop 1 copies) told rest (omega arith) small shape.1 can.1 in
    record {
      last = more.last;
      legs_are = ap (λ t. reading.legs_from vcpus number (suc later) copies (lines_of n t))
          (append_assoc (leg_text number leg) (legs_from (number + 1) told) rest)
          ∙ ap (λ (r : Result (Leg × LinesLeft) ℕ). r then λ p. reading.legs_from vcpus (number + 1) later (drop 1 copies) p.1 then λ q.
          (let made : Result (List Leg × LinesLeft) ℕ = Ok (p.0 ∷ q.0, q.1) in made)) one.leg_is
          ∙ ap (λ (r : Result (List Leg × LinesLeft) ℕ). r then λ q. (let made : Result (List Leg × LinesLeft) ℕ = Ok (leg ∷ q.0, q.1) in made)) more.legs_are;
    }

pub reports_again : PrintedReportsAreRead
unfolding trace_of
reports_again legs copies vcpus told few small shape can =
    let all = legs_again vcpus 1 1 legs copies told [] (omega (arith, few)) small shape can in
    let text : report_text told ++ [] ≡ report_text told = append-nil (report_text told) in
    ap (λ t. reading.legs_from vcpus 1 legs copies (lines_of 1 t) then λ p.
    (let r : Result (List Leg) ℕ = if is_over p.1.parts then Ok p.0 else Err p.1.number in r))
    (sym text)
    ∙ ap (λ (r : Result (List Leg × LinesLeft) ℕ). r then λ p. (let r : Result (List Leg) ℕ = if is_over p.1.parts then Ok p.0 else Err p.1.number in r))
    all.legs_are
