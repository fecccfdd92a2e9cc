-- The lines of a text are its parts up to each line end, read one after another.
use Rattle.std.proofs.Common.{◌≡◌, ℕ, zero, suc, ◌+◌, ◌<◌, ◌≤◌, Bool, true, false, cond, List, [], ◌∷◌, ◌++◌, length, drop, take, Option, Some, None, refl}
use Rattle.std.proofs.Common.{sym, ap, ◌∙◌, append_assoc, append-nil, length-append, ne_eqb, arith}
use Rattle.std.specs.Prelude.{◌==◌, nat_lt}
use Rattle.std.specs.List.{position_or_len}
use Rattle.std.proofs.lemmas.Bool.{ltb-true, ltb-false, eqb-true}
use Rattle.std.proofs.lemmas.List.Sums.{fails_before_first}
use Rattle.std.proofs.lemmas.List.Splits.{slice_split_first, slice_split_none, length-slice_split}
use Rattle.its_history.specs.Reading.{◌>>=◌, only, is_printed, cut, cut_at, entry_in, LinesLeft, lines_left, next_of, said, parts, entry_then, entries_from}
use Rattle.its_history.specs.Reading.{is_over}
use Rattle.its_history.specs.declared.trace.EntryLine.{EntryLine}

abbrev ends : ℕ → Bool
ends b = b == 10

pub next_cons : (n : ℕ) (line : List ℕ) (ps : List (List ℕ)) → 0 < length ps → next_of n (line ∷ ps) ≡ only (is_printed line) (line, lines_left (n + 1) ps)
next_cons n line [] lt = absurd (omega arith)
next_cons n line (p ∷ ps) lt = refl

pub some_part : (text : List ℕ) → 0 < length (parts text)
some_part text = omega (arith, length-slice_split (λ b. b == 10) text)

abbrev Next : Type 0
Next = Option (List ℕ × LinesLeft)

next_found : (n : ℕ) (text : List ℕ) (b : Bool) → nat_lt (position_or_len ends text) (length text) ≡ b
    → next_of n (parts text) ≡ (cut text (cond b (Some (position_or_len ends text)) None) >>= λ p. only (is_printed p.0) (p.0, lines_left (n + 1) (parts p.1)))
next_found n text true e =
    let i = position_or_len ends text in
    ap (next_of n) (slice_split_first ends text 0 (ltb-true i (length text) e)) ∙ next_cons n (take i text) (parts (drop (i + 1) text))
    (some_part (drop (i + 1) text))
next_found n text false e =
    let late : length text ≤ position_or_len ends text = ltb-false (position_or_len ends text) (length text) e in
    ap (next_of n) (slice_split_none ends text (λ k d lt. fails_before_first ends text k d (omega (arith, late, lt))))

-- the next line ends at the first line end
pub next_as_cut : (n : ℕ) (text : List ℕ) → next_of n (parts text) ≡ (cut_at 10 text >>= λ p. only (is_printed p.0) (p.0, lines_left (n + 1) (parts p.1)))
unfolding cut_at
next_as_cut n text = next_found n text (nat_lt (position_or_len ends text) (length text)) refl

pub next_at : (n : ℕ) (text : List ℕ) (o : Option (List ℕ × List ℕ)) → o ≡ cut_at 10 text
    → next_of n (parts text) ≡ (o >>= λ p. only (is_printed p.0) (p.0, lines_left (n + 1) (parts p.1)))
next_at n text o e = next_as_cut n text ∙ ap (λ (x : Option (List ℕ × List ℕ)). x >>= λ p. only (is_printed p.0) (p.0, lines_left (n + 1) (parts p.1))) (sym e)

-- ---- entries

abbrev pub after_entry : ℕ → LinesLeft → Option (EntryLine × LinesLeft) → List EntryLine × LinesLeft
after_entry place here None = ([], here)
after_entry place here (Some p) = (let more = entries_from (place + 1) p.1.number p.1.parts in (p.0 ∷ more.0, more.1))

entry_found : (place : ℕ) (text : List ℕ) (here later : LinesLeft) (o : Option EntryLine)
    → entry_then o (entries_from (place + 1) later.number later.parts) here ≡ after_entry place here (o >>= λ x. Some (x, later))
entry_found place text here later None = refl
entry_found place text here later (Some e) = refl

entry_printed : (place : ℕ) (text : List ℕ) (here later : LinesLeft) (b : Bool)
    → entry_then (only b text >>= entry_in place) (entries_from (place + 1) later.number later.parts) here
    ≡ after_entry place here (let printed : Option (List ℕ × LinesLeft) = only b (text, later) in printed >>= λ p. entry_in place p.0 >>= λ x. Some (x, p.1))
entry_printed place text here later true = entry_found place text here later (entry_in place text)
entry_printed place text here later false = refl

pub entries_step : (place n : ℕ) (ps : List (List ℕ)) → entries_from place n ps ≡ after_entry place (lines_left n ps) (said (entry_in place) (lines_left n ps))
entries_step place n [] = refl
entries_step place n (last ∷ []) = refl
entries_step place n (text ∷ (next ∷ rest)) = entry_printed place text (lines_left n (text ∷ (next ∷ rest))) (lines_left (n + 1) (next ∷ rest))
    (is_printed text)

-- entries that were read, and what is read after them
abbrev pub behind : List EntryLine → List EntryLine × LinesLeft → List EntryLine × LinesLeft
behind es more = (es ++ more.0, more.1)

-- one more
pub entries_on : (es : List EntryLine) (e : EntryLine) (here now : LinesLeft) → said (entry_in (length es)) here ≡ Some (e, now)
    → behind es (entries_from (length es) here.number here.parts) ≡ behind (es ++ e ∷ []) (entries_from (length (es ++ e ∷ [])) now.number now.parts)
entries_on es e here now is =
    let count : length es + 1 ≡ length (es ++ e ∷ []) = sym (length-append es (e ∷ [])) in
    ap (behind es) (entries_step (length es) here.number here.parts ∙ ap (after_entry (length es) here) is)
    ∙ ap (λ (xs : List EntryLine). (xs, (entries_from (length es + 1) now.number now.parts).1))
    (sym (append_assoc es (e ∷ []) (entries_from (length es + 1) now.number now.parts).0))
    ∙ ap (λ n. behind (es ++ e ∷ []) (entries_from n now.number now.parts)) count

-- no more
pub entries_end : (es : List EntryLine) (here : LinesLeft) → said (entry_in (length es)) here ≡ None
    → behind es (entries_from (length es) here.number here.parts) ≡ (es, here)
entries_end es here is =
    ap (behind es) (entries_step (length es) here.number here.parts ∙ ap (after_entry (length es) here) is) ∙ ap (λ (xs : List EntryLine). (xs, here))
    (append-nil es)

-- ---- the end

over_cons : (line : List ℕ) (ps : List (List ℕ)) → 0 < length ps → is_over (line ∷ ps) ≡ false
over_cons line [] lt = absurd (omega arith)
over_cons line (p ∷ ps) lt = refl

over_found : (text : List ℕ) (b : Bool) → nat_lt (position_or_len ends text) (length text) ≡ b → 0 < length text → is_over (parts text) ≡ false
over_found text true e some =
    let i = position_or_len ends text in
    ap is_over (slice_split_first ends text 0 (ltb-true i (length text) e)) ∙ over_cons (take i text) (parts (drop (i + 1) text))
    (some_part (drop (i + 1) text))
over_found text false e some =
    let late : length text ≤ position_or_len ends text = ltb-false (position_or_len ends text) (length text) e in
    let none : (length text == 0) ≡ false = ne_eqb (length text) 0 (λ z. omega (arith, z, some)) in
    ap is_over (slice_split_none ends text (λ k d lt. fails_before_first ends text k d (omega (arith, late, lt)))) ∙ none

-- a text that isn't empty isn't over
pub not_over : (text : List ℕ) → 0 < length text → is_over (parts text) ≡ false
not_over text some = over_found text (nat_lt (position_or_len ends text) (length text)) refl some

pub is_over_at_end : (text : List ℕ) → (length text == 0) ≡ true → is_over (parts text) ≡ true
is_over_at_end [] e = refl
is_over_at_end (b ∷ bs) e = (let none : suc (length bs) ≡ 0 = eqb-true (suc (length bs)) 0 e in absurd (omega arith))

pub above_zero : (n : ℕ) → (n == 0) ≡ false → 0 < n
above_zero zero e = absurd cc
above_zero (suc n) e = omega arith
