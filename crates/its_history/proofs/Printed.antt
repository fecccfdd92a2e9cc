-- What is read prints as it was.
use Rattle.std.proofs.Common.{◌≡◌, ℕ, zero, suc, ◌+◌, Bool, true, false, List, [], ◌∷◌, ◌++◌, length, drop, Option, Some, None, Result, Ok, Err, refl, sym, ap}
use Rattle.std.proofs.Common.{subst, ◌∙◌, append_assoc, append-nil, arith}
use Rattle.std.specs.Prelude.{codes, if◌then◌else◌, nat_lt}
use Rattle.std.specs.Option.{ok_or}
use Rattle.std.specs.Str.{bytes_eq}
use Rattle.std.specs.List.{join_with_byte}
use Rattle.std.specs.Fmt.{decimal}
use Rattle.std.proofs.lemmas.Bool.{eqb-true}
use Rattle.std.proofs.lemmas.List.Splits.{join_with_byte-slice_split}
use Rattle.its_history.specs.Report.{told_text, line_text, entry_lines, vcpu_text, vcpu_lines_from, end_text, end_line, leg_text, legs_from, report_text}
use Rattle.its_history.specs.Reading.{◌>>=◌, only, is_printed, after, cut_at, pending_in, head_in, word_in, pages_in, told_in, entry_in, LinesLeft, lines_left}
use Rattle.its_history.specs.Reading.{next_of, next_line, said, read, ◌then◌, entry_then, entries_from, pending_from, Move, end_from, leg_from, move_after}
use Rattle.its_history.specs.Reading.{is_over, parts, trace_of}
use Rattle.its_history.specs.Reading as reading
use Rattle.its_history.specs.ReadBack.{ArePlaced, EndsBefore, HasLegShape, HasShape, ReadReportsPrint}
use Rattle.its_history.specs.declared.trace.End.{End}
use Rattle.its_history.specs.declared.trace.End.TheVariants.{Migrated, Copied, Done}
use Rattle.its_history.specs.declared.trace.EntryLine.{EntryLine}
use Rattle.its_history.specs.declared.trace.Leg.{Leg}
use Rattle.its_history.proofs.Flat.{told_flat, line_flat, vcpu_flat, leg_flat, line_on}
use Rattle.its_history.proofs.ReadNumbers.{same_text, number_printed}
use Rattle.its_history.proofs.ReadTexts.{bound, only_some, after_is, cut_is, told_is, entry_parts}

abbrev text_of : LinesLeft → List ℕ
text_of l = join_with_byte 10 l.parts

-- ---- lines

next_is : (n : ℕ) (ps : List (List ℕ)) (line : List ℕ) (later : LinesLeft) → next_of n ps ≡ Some (line, later) → join_with_byte 10 ps ≡ line
    ++ 10 ∷ text_of later
next_is n [] line later e = absurd cc
next_is n (last ∷ []) line later e = absurd cc
next_is n (text ∷ (next ∷ rest)) line later e =
    let d = only_some (is_printed text) (text, lines_left (n + 1) (next ∷ rest)) (line, later) e in
    ap (λ (p : List ℕ × LinesLeft). p.0 ++ 10 ∷ text_of p.1) d.1

pub record IsSaid {A : Type 0} (f : List ℕ → Option A) (here : LinesLeft) (x : A) (later : LinesLeft) : Type 0 where
  pub line : List ℕ
  pub says : f line ≡ Some x
  pub text : text_of here ≡ line ++ 10 ∷ text_of later

said_is : {A : Type 0} (f : List ℕ → Option A) (here : LinesLeft) (x : A) (later : LinesLeft) → said f here ≡ Some (x, later) → IsSaid f here x later
said_is {A = A} f here x later e =
    let a = bound (next_line here) (λ p. f p.0 >>= λ y. (let made : Option (A × LinesLeft) = Some (y, p.1) in made)) (x, later) e in
    let b = bound (f a.x.0) (λ y. (let made : Option (A × LinesLeft) = Some (y, a.x.1) in made)) (x, later) a.second in
    let same : (b.x, a.x.1) ≡ (x, later) = cc in
    record {
      line = a.x.0;
      says = b.first ∙ ap (λ (p : A × LinesLeft). Some p.0) same;
      text = next_is here.number here.parts a.x.0 a.x.1 a.first ∙ ap (λ (p : A × LinesLeft). a.x.0 ++ 10 ∷ text_of p.1) same;
    }

ok_or_ok : {A : Type 0} (o : Option A) (n : ℕ) (y : A) → ok_or o n ≡ Ok y → o ≡ Some y
ok_or_ok (Some x) n y e = cc
ok_or_ok None n y e = absurd cc

read_is : {A : Type 0} (f : List ℕ → Option A) (here : LinesLeft) (x : A) (later : LinesLeft) → read f here ≡ Ok (x, later) → IsSaid f here x later
read_is f here x later e = said_is f here x later (ok_or_ok (said f here) here.number (x, later) e)

pub record IsThen {A B : Type 0} (r : Result A ℕ) (f : A → Result B ℕ) (y : B) : Type 0 where
  pub x : A
  pub first : r ≡ Ok x
  pub second : f x ≡ Ok y

then_ok : {A B : Type 0} (r : Result A ℕ) (f : A → Result B ℕ) (y : B) → (r then f) ≡ Ok y → IsThen r f y
then_ok (Ok x) f y e = record { x = x; first = refl; second = e }
then_ok (Err n) f y e = absurd cc

-- ---- what each line is

abbrev line_end : List ℕ
line_end = codes "\n"

entry_line_is : (place : ℕ) (line : List ℕ) (e : EntryLine) → entry_in place line ≡ Some e → (line ≡ line_text e) × (e.place ≡ place)
entry_line_is place line e is =
    let l = entry_parts place line e is in
    let t = told_is place l.told e l.entry_is in
    let phase = (number_printed t.seat.0 e.phase t.made.phase_is).1 in
    let thread = (number_printed t.rest.0 e.thread t.made.thread_is).1 in
    let told : l.told ≡ told_text e.phase e.thread e.text =
    cut_is 46 l.told t.seat t.seat_is ∙ ap (λ (p : List ℕ). p ++ 46 ∷ t.seat.1) (sym phase)
    ∙ ap (λ (r : List ℕ). decimal e.phase ++ 46 ∷ r) (cut_is 32 t.seat.1 t.rest t.rest_is ∙ ap (λ (p : List ℕ). p ++ 32 ∷ t.rest.1) (sym thread)
    ∙ ap (λ (x : List ℕ). decimal e.thread ++ 32 ∷ x) t.made.text_is)
    ∙ sym (told_flat e.phase e.thread e.text) in (
      after_is (decimal place) line l.numbered l.numbered_is
          ∙ ap (λ (x : List ℕ). decimal place ++ x) (after_is (codes " ") l.numbered l.told l.told_is ∙ ap (λ (x : List ℕ). 32 ∷ x) told)
          ∙ ap (λ n. decimal n ++ 32 ∷ told_text e.phase e.thread e.text) t.made.place_is ∙ sym (line_flat e),
      sym t.made.place_is,
    )

pending_line_is : (vcpu : ℕ) (line p : List ℕ) → pending_in vcpu line ≡ Some p → line ≡ vcpu_text vcpu p
unfolding pending_in
pending_line_is vcpu line p is =
    let a = bound (after (codes "vcpu ") line) (λ x. after (decimal vcpu) x >>= λ y. after (codes " pending ") y >>= λ z. only (nat_lt 0 (length z)) z) p is in
    let b = bound (after (decimal vcpu) a.x) (λ y. after (codes " pending ") y >>= λ z. only (nat_lt 0 (length z)) z) p a.second in
    let c = bound (after (codes " pending ") b.x) (λ z. only (nat_lt 0 (length z)) z) p b.second in
    let d = only_some (nat_lt 0 (length c.x)) c.x p c.second in
    after_is (codes "vcpu ") line a.x a.first
    ∙ ap (λ (x : List ℕ). codes "vcpu " ++ x) (after_is (decimal vcpu) a.x b.x b.first
    ∙ ap (λ (x : List ℕ). decimal vcpu ++ x) (after_is (codes " pending ") b.x c.x c.first ∙ ap (λ (x : List ℕ). codes " pending " ++ x) d.1))
    ∙ sym (vcpu_flat vcpu p)

head_line_is : (number : ℕ) (line : List ℕ) (x : Unit {0}) → head_in number line ≡ Some x → line ≡ codes "leg " ++ decimal number
unfolding head_in
head_line_is number line x is =
    let a = bound (after (codes "leg ") line) (λ y. (let made : Option (Unit {0}) = only (bytes_eq y (decimal number)) tt in made)) x is in
    after_is (codes "leg ") line a.x a.first ∙ ap (λ (y : List ℕ). codes "leg " ++ y)
    (same_text a.x (decimal number) (only_some (bytes_eq a.x (decimal number)) tt x a.second).0)

pages_line_is : (line pages : List ℕ) → pages_in line ≡ Some pages → line ≡ codes "migrated copied " ++ pages
unfolding pages_in
pages_line_is line pages is =
    let a = bound (after (codes "migrated copied ") line) (λ x. only (nat_lt 0 (length x)) x) pages is in
    let d = only_some (nat_lt 0 (length a.x)) a.x pages a.second in
    after_is (codes "migrated copied ") line a.x a.first ∙ ap (λ (x : List ℕ). codes "migrated copied " ++ x) d.1

-- ---- the lines of a leg

abbrev EntriesPrint : ℕ → List (List ℕ) → List EntryLine × LinesLeft → Type 0
EntriesPrint place ps r = (join_with_byte 10 ps ≡ entry_lines r.0 ++ text_of r.1) × ArePlaced place r.0

entry_prints : (place n : ℕ) (text next : List ℕ) (rest : List (List ℕ)) (o : Option EntryLine) (more : List EntryLine × LinesLeft)
    → ((e : EntryLine) → o ≡ Some e → (text ≡ line_text e) × (e.place ≡ place))
    → EntriesPrint (place + 1) (next ∷ rest) more → EntriesPrint place (text ∷ (next ∷ rest)) (entry_then o more (lines_left n (text ∷ (next ∷ rest))))
entry_prints place n text next rest None more is h = (refl, tt)
entry_prints place n text next rest (Some e) more is h =
    let line = is e refl in (
      ap (λ (t : List ℕ). t ++ 10 ∷ join_with_byte 10 (next ∷ rest)) line.0 ∙ ap (λ (t : List ℕ). line_text e ++ 10 ∷ t) h.0
          ∙ sym (line_on (line_text e) (entry_lines more.0 ++ text_of more.1))
          ∙ sym (append_assoc (line_text e ++ line_end) (entry_lines more.0) (text_of more.1)),
      (line.1, h.1),
    )

entries_print : (place n : ℕ) (ps : List (List ℕ)) → EntriesPrint place ps (entries_from place n ps)
entries_print place n [] = (refl, tt)
entries_print place n (last ∷ []) = (refl, tt)
entries_print place n (text ∷ (next ∷ rest)) =
    entry_prints place n text next rest (only (is_printed text) text >>= entry_in place) (entries_from (place + 1) (n + 1) (next ∷ rest))
    (λ e is.
    let a = bound (only (is_printed text) text) (entry_in place) e is in
    let d = only_some (is_printed text) text a.x a.first in
    entry_line_is place text e (ap (entry_in place) d.1 ∙ a.second))
    (entries_print (place + 1) (n + 1) (next ∷ rest))

abbrev PendingPrints : ℕ → ℕ → LinesLeft → List (List ℕ) × LinesLeft → Type 0
PendingPrints vcpu count here r = (text_of here ≡ vcpu_lines_from vcpu r.0 ++ text_of r.1) × (length r.0 ≡ count)

pending_print : (vcpu count : ℕ) (here : LinesLeft) (r : List (List ℕ) × LinesLeft) → pending_from vcpu count here ≡ Ok r → PendingPrints vcpu count here r
pending_print vcpu zero here r e = (let same : ([], here) ≡ r = cc in subst (PendingPrints vcpu 0 here) same (refl, refl))
pending_print vcpu (suc count) here r e =
    let a = then_ok (read (pending_in vcpu) here) (λ p. pending_from (vcpu + 1) count p.1 then λ q.
    (let made : Result (List (List ℕ) × LinesLeft) ℕ = Ok (p.0 ∷ q.0, q.1) in made)) r e in
    let b = then_ok (pending_from (vcpu + 1) count a.x.1) (λ q. (let made : Result (List (List ℕ) × LinesLeft) ℕ = Ok (a.x.0 ∷ q.0, q.1) in made)) r a.second in
    let same : (a.x.0 ∷ b.x.0, b.x.1) ≡ r = cc in
    let line = read_is (pending_in vcpu) here a.x.0 a.x.1 a.first in
    let more = pending_print (vcpu + 1) count a.x.1 b.x b.first in
    subst (PendingPrints vcpu (suc count) here) same (
      line.text ∙ ap (λ (t : List ℕ). t ++ 10 ∷ text_of a.x.1) (pending_line_is vcpu line.line a.x.0 line.says)
          ∙ ap (λ (t : List ℕ). vcpu_text vcpu a.x.0 ++ 10 ∷ t) more.0
          ∙ sym (line_on (vcpu_text vcpu a.x.0) (vcpu_lines_from (vcpu + 1) b.x.0 ++ text_of b.x.1))
          ∙ sym (append_assoc (vcpu_text vcpu a.x.0 ++ line_end) (vcpu_lines_from (vcpu + 1) b.x.0) (text_of b.x.1)),
      ap suc more.1,
    )

-- ---- legs

-- the last line of a leg that this follows
abbrev EndPrints : Move → LinesLeft → End × LinesLeft → Type 0
EndPrints move here r = (text_of here ≡ end_line (Some r.0) ++ text_of r.1) × EndsBefore move (Some r.0)

-- how it is read, what it tells, and the line that says so
end_told : {A : Type 0} (move : Move) (f : List ℕ → Option A) (here : LinesLeft) (told : A → End) (r : End × LinesLeft)
    → (read f here then λ p. (let made : Result (End × LinesLeft) ℕ = Ok (told p.0, p.1) in made)) ≡ Ok r
    → ((line : List ℕ) (x : A) → f line ≡ Some x → line ≡ end_text (told x)) → ((x : A) → EndsBefore move (Some (told x))) → EndPrints move here r
end_told move f here told r e prints ends =
    let a = then_ok (read f here) (λ p. (let made : Result (End × LinesLeft) ℕ = Ok (told p.0, p.1) in made)) r e in
    let same : (told a.x.0, a.x.1) ≡ r = cc in
    let said = read_is f here a.x.0 a.x.1 a.first in
    subst (EndPrints move here) same (
      said.text ∙ ap (λ (t : List ℕ). t ++ 10 ∷ text_of a.x.1) (prints said.line a.x.0 said.says) ∙ sym (line_on (end_text (told a.x.0)) (text_of a.x.1)),
      ends a.x.0,
    )

end_prints : (move : Move) (here : LinesLeft) (r : End × LinesLeft) → end_from move here ≡ Ok r → EndPrints move here r
unfolding end_text
end_prints None here r e =
    end_told None (word_in (codes "done")) here (λ _. Done) r e
    (λ line x is. same_text line (codes "done") (only_some (bytes_eq line (codes "done")) tt x is).0) (λ _. refl)
end_prints (Some false) here r e =
    end_told (Some false) (word_in (codes "migrated")) here (λ _. Migrated) r e
    (λ line x is. same_text line (codes "migrated") (only_some (bytes_eq line (codes "migrated")) tt x is).0) (λ _. refl)
end_prints (Some true) here r e = end_told (Some true) pages_in here (λ pages. Copied pages) r e pages_line_is (λ pages. (pages, refl))

abbrev made_leg : List EntryLine → List (List ℕ) → End → Leg
made_leg entries pending end = record { entries = entries; pending = pending; end = Some end }

pub record LegPrints (vcpus number : ℕ) (move : Move) (here : LinesLeft) (r : Leg × LinesLeft) : Type 0 where
  pub text : text_of here ≡ leg_text number r.0 ++ text_of r.1
  pub shape : HasLegShape vcpus move r.0

leg_prints : (vcpus number : ℕ) (move : Move) (here : LinesLeft) (r : Leg × LinesLeft) → leg_from vcpus number move here ≡ Ok r
    → LegPrints vcpus number move here r
unfolding leg_from
leg_prints vcpus number move here r e =
    let a = then_ok (read (head_in number) here) (λ h. let es = entries_from 0 h.1.number h.1.parts in pending_from 0 vcpus es.1 then λ ps.
    end_from move ps.1 then λ e.
    (let made : Result (Leg × LinesLeft) ℕ = Ok (made_leg es.0 ps.0 e.0, e.1) in made)) r e in
    let es = entries_from 0 a.x.1.number a.x.1.parts in
    let b = then_ok (pending_from 0 vcpus es.1) (λ ps. end_from move ps.1 then λ e.
    (let made : Result (Leg × LinesLeft) ℕ = Ok (made_leg es.0 ps.0 e.0, e.1) in made)) r a.second in
    let d = then_ok (end_from move b.x.1) (λ e. (let made : Result (Leg × LinesLeft) ℕ = Ok (made_leg es.0 b.x.0 e.0, e.1) in made)) r b.second in
    let same : (made_leg es.0 b.x.0 d.x.0, d.x.1) ≡ r = cc in
    let head = read_is (head_in number) here a.x.0 a.x.1 a.first in
    let entries = entries_print 0 a.x.1.number a.x.1.parts in
    let pending = pending_print 0 vcpus es.1 b.x b.first in
    let last = end_prints move b.x.1 d.x d.first in
    subst (λ (p : Leg × LinesLeft). LegPrints vcpus number move here p) same (record {
      text = head.text ∙ ap (λ (t : List ℕ). t ++ 10 ∷ text_of a.x.1) (head_line_is number head.line a.x.0 head.says)
          ∙ ap (λ (t : List ℕ). (codes "leg " ++ decimal number) ++ 10 ∷ t) (entries.0 ∙ ap (λ (t : List ℕ). entry_lines es.0 ++ t)
          (pending.0 ∙ ap (λ (t : List ℕ). vcpu_lines_from 0 b.x.0 ++ t) last.0))
          ∙ sym (leg_flat number (made_leg es.0 b.x.0 d.x.0) (text_of d.x.1));
      shape = record { placed = entries.1; pending = pending.1; ends = last.1 };
    })

abbrev LegsPrint : ℕ → ℕ → ℕ → List Bool → LinesLeft → List Leg × LinesLeft → Type 0
LegsPrint vcpus number count copies here r = (text_of here ≡ legs_from number r.0 ++ text_of r.1) × HasShape vcpus count copies r.0

legs_print : (vcpus number count : ℕ) (copies : List Bool) (here : LinesLeft) (r : List Leg × LinesLeft)
    → reading.legs_from vcpus number count copies here ≡ Ok r → LegsPrint vcpus number count copies here r
legs_print vcpus number zero copies here r e = (let same : ([], here) ≡ r = cc in subst (LegsPrint vcpus number 0 copies here) same (refl, tt))
legs_print vcpus number (suc later) copies here r e =
    let move = move_after later copies in
    let a = then_ok (leg_from vcpus number move here) (λ p. reading.legs_from vcpus (number + 1) later (drop 1 copies) p.1 then λ q.
    (let made : Result (List Leg × LinesLeft) ℕ = Ok (p.0 ∷ q.0, q.1) in made)) r e in
    let b = then_ok (reading.legs_from vcpus (number + 1) later (drop 1 copies) a.x.1) (λ q.
    (let made : Result (List Leg × LinesLeft) ℕ = Ok (a.x.0 ∷ q.0, q.1) in made)) r
    a.second in
    let same : (a.x.0 ∷ b.x.0, b.x.1) ≡ r = cc in
    let leg = leg_prints vcpus number move here a.x a.first in
    let more = legs_print vcpus (number + 1) later (drop 1 copies) a.x.1 b.x b.first in
    subst (LegsPrint vcpus number (suc later) copies here) same (
      leg.text ∙ ap (λ (t : List ℕ). leg_text number a.x.0 ++ t) more.0 ∙ sym (append_assoc (leg_text number a.x.0) (legs_from (number + 1) b.x.0)
          (text_of b.x.1)),
      (leg.shape, more.1),
    )

-- ---- the whole of it

nothing_left : (ps : List (List ℕ)) → is_over ps ≡ true → join_with_byte 10 ps ≡ []
nothing_left [] e = refl
nothing_left ([] ∷ []) e = refl
nothing_left ((b ∷ bs) ∷ []) e = (let none : suc (length bs) ≡ 0 = eqb-true (suc (length bs)) 0 e in absurd (omega arith))
nothing_left (text ∷ (next ∷ rest)) e = absurd cc

over_by : (told ls : List Leg) (l : LinesLeft) (b : Bool) → is_over l.parts ≡ b → (let r : Result (List Leg) ℕ = if b then Ok ls else Err l.number in r)
    ≡ Ok told → (is_over l.parts ≡ true) × (ls ≡ told)
over_by told ls l true o e = (o, cc)
over_by told ls l false o e = absurd cc

pub reports_print : ReadReportsPrint
unfolding trace_of
reports_print legs copies vcpus text told e =
    let here = lines_left 1 (parts text) in
    let a = then_ok (reading.legs_from vcpus 1 legs copies here) (λ p.
    (let r : Result (List Leg) ℕ = if is_over p.1.parts then Ok p.0 else Err p.1.number in r)) told e in
    let over = over_by told a.x.0 a.x.1 (is_over a.x.1.parts) refl a.second in
    let p = legs_print vcpus 1 legs copies here a.x a.first in
    record {
      shape = subst (λ (ls : List Leg). HasShape vcpus legs copies ls) over.1 p.1;
      same = ap report_text (sym over.1) ∙ sym (append-nil (report_text a.x.0)) ∙ ap (λ (t : List ℕ). report_text a.x.0 ++ t)
          (sym (nothing_left a.x.1.parts over.0)) ∙ sym p.0 ∙ join_with_byte-slice_split 10 text;
    }
