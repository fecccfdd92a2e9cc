-- A text is read line by line: its parts up to a line end, and those behind it.
use Rattle.std.proofs.Common.{◌≡◌, ℕ, ◌+◌, ◌<◌, ◌==◌, ◌≤◌, Bool, true, false, cond, nat_lt, List, [], ◌∷◌, length, take, drop, position, Option, Some, None}
use Rattle.std.proofs.Common.{ok_or, Result, Ok, Err, sym, ap, subst, ◌∙◌, refl, arith}
use Rattle.std.specs.Prelude.{IsErrAnd}
use Rattle.std.specs.List.{position_or_len}
use Rattle.std.specs.Option.{unwrap_or}
use Rattle.std.proofs.lemmas.Bool.{ltb-true, ltb-false}
use Rattle.std.proofs.lemmas.List.Sums.{fails_before_first}
use Rattle.std.proofs.lemmas.List.Splits.{slice_split_first, slice_split_none, length-slice_split}
use Rattle.its_plain.specs.declared.desc.LpiTables.{LpiTables}
use Rattle.event_script.specs.Text.{parts}
use Rattle.event_script.specs.Outcome.{Fails, Gives, error_at}
use Rattle.event_script.specs.declared.fault.Kind.TheVariants as kind
use Rattle.event_script.specs.declared.fault.LineError.{LineError}
use Rattle.event_script.specs.declared.fault.LineError.TheVariants as errors
use Rattle.event_script.specs.Described.{desc_with, described_tables, tables_of, desc_of}
use Rattle.event_script.specs.Script.{line, at_line, ◌then◌, parts_from, said, finished, FailsAs}
use Rattle.event_script.specs.declared.draft.Draft.{Draft}
use Rattle.event_script.specs.declared.script.Script.{Script}

abbrev ends : ℕ → Bool
ends b = b == 10

in_some : (b : Bool) (m end : ℕ) → cond b (Some m) None ≡ Some end → (b ≡ true) × (m ≡ end)
in_some true m end e = (refl, ap (λ o. unwrap_or o 0) e)
in_some false m end e = absurd (cc)

in_none : (b : Bool) (m : ℕ) → (let o : Option ℕ = cond b (Some m) None in o) ≡ None → b ≡ false
in_none true m e = absurd (cc)
in_none false m e = refl

-- the parts before and behind the first line end
pub parts_on : (text : List ℕ) (end : ℕ) → position (λ b. b == 10) text ≡ Some end → parts text ≡ take end text ∷ parts (drop (end + 1) text)
parts_on text end e =
    let first : ℕ = position_or_len ends text in
    let found = in_some (nat_lt first (length text)) first end e in
    slice_split_first ends text 0 (ltb-true first (length text) found.0) ∙ ap (λ n. take n text ∷ parts (drop (n + 1) text)) found.1

pub parts_last : (text : List ℕ) → position (λ b. b == 10) text ≡ None → parts text ≡ text ∷ []
parts_last text e =
    let first : ℕ = position_or_len ends text in
    let late : length text ≤ first = ltb-false first (length text) (in_none (nat_lt first (length text)) first e) in
    slice_split_none ends text (λ k d lt. fails_before_first ends text k d (omega (arith, late, lt)))

-- what follows a line is read after it
pub line_first : (n : ℕ) (d : Draft) (text : List ℕ) (ps : List (List ℕ)) → 0 < length ps
    → parts_from n d (text ∷ ps) ≡ (at_line n (line d n text) then λ e. parts_from (n + 1) e ps)
line_first n d text [] lt = absurd (omega arith)
line_first n d text (p ∷ ps) lt = refl

pub some_part : (text : List ℕ) → 0 < length (parts text)
some_part text = omega (arith, length-slice_split (λ b. b == 10) text)

-- one line is read, and the rest follows
pub read_on : (n : ℕ) (d e : Draft) (text first more : List ℕ) → parts text ≡ first ∷ parts more → line d n first ≡ Ok e
    → parts_from n d (parts text) ≡ parts_from (n + 1) e (parts more)
read_on n d e text first more at ok =
    ap (parts_from n d) at ∙ line_first n d first (parts more) (some_part more) ∙ ap (λ r. at_line n r then λ e. parts_from (n + 1) e (parts more)) ok

-- one line is not read
pub read_fails : (n : ℕ) (d : Draft) (text first more : List ℕ) (e : LineError) → parts text ≡ first ∷ parts more → Fails e (line d n first)
    → FailsAs (error_at n e) (parts_from n d (parts text))
read_fails n d text first more errors.Memory at h = tt
read_fails n d text first more (errors.Fault k) at h =
    ap (parts_from n d) at ∙ line_first n d first (parts more) (some_part more) ∙ ap (λ r. at_line n r then λ e. parts_from (n + 1) e (parts more)) h

-- what is left is no line
pub read_last : (n : ℕ) (d : Draft) (text : List ℕ) → parts text ≡ text ∷ [] → parts_from n d (parts text) ≡ at_line n (finished d text)
read_last n d text at = ap (parts_from n d) at

-- what was said, where shards and tables were given
pub said_with : (d : Draft) (shards : ℕ) (tables : LpiTables) → ok_or d.shards kind.Missing ≡ Ok shards → tables_of d ≡ Ok tables
    → said d ≡ Ok (record {
      desc = desc_with d shards tables;
      fill_lines = d.fill_lines;
      requester_lines = d.requester_lines;
      legs = d.legs;
      moves = d.moves;
    })
unfolding said desc_of
said_with d shards tables some given = rw (some, given) refl

-- the tables of the redistributors are not read
tables_fail : (d : Draft) (shards : ℕ) (e : LineError) → ok_or d.shards kind.Missing ≡ Ok shards → Fails e (tables_of d) → Fails e (said d)
unfolding said desc_of described_tables
tables_fail d shards errors.Memory some h = tt
tables_fail d shards (errors.Fault k) some h = rw (some, h) refl

pub tables_failed : (d : Draft) (shards : ℕ) (e : LineError) (r : Result Script LineError) → ok_or d.shards kind.Missing ≡ Ok shards → Fails e (tables_of d)
    → IsErrAnd r (λ f. f ≡ e)
    → Gives (λ script. script) r (said d)
tables_failed d shards e (Ok x) some h is = absurd is
tables_failed d shards e (Err f) some h is = subst (λ (g : LineError). Fails g (said d)) (sym is) (tables_fail d shards e some h)
