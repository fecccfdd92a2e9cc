-- A script with a line `gicr` and no line `rrestore` restores no redistributor with LPIs on.
use Rattle.std.proofs.Common.{◌≡◌, ◌⊎◌, ℕ, ◌+◌, Bool, true, false, ◌||◌, nat_eq, List, [], ◌∷◌, length, codes, Option, Some, None, if◌then◌else◌, Result, Ok}
use Rattle.std.proofs.Common.{Err, IfOk, inl, inr, refl, sym, ap, subst, ◌∙◌, arith}
use Rattle.std.specs.Prelude.{slice_index}
use Rattle.std.specs.List.{AllByRecursion, list_any}
use Rattle.std.specs.Option.{ok_or}
use Rattle.std.specs.Str.{bytes_eq}
use Rattle.std.proofs.lemmas.Bool.{both_ways, cases_Bool, eqb-true, or_cases}
use Rattle.std.proofs.lemmas.Slice.Eq.{bytes_eq-Decides}
use Rattle.gicr_regs.specs.declared.values.GicrRegisters.{GicrRegisters}
use Rattle.its_types.specs.Bits.{bit_of}
use Rattle.its_plain.specs.declared.desc.Desc.{Desc}
use Rattle.its_plain.specs.declared.desc.LpiTables.{LpiTables}
use Rattle.its_plain.specs.declared.desc.LpiTables.TheVariants.{Registers}
use Rattle.event_script.specs.Text.{parts, fields, is_text}
use Rattle.event_script.specs.Fields.{arg}
use Rattle.event_script.specs.Words.{keyword_text, keyword_of, call_text, call_word_of}
use Rattle.event_script.specs.Outcome.{ensure}
use Rattle.event_script.specs.Description.{empty, is_ended}
use Rattle.event_script.specs.Body.{call_word_line, keyword_line}
use Rattle.event_script.specs.Described.{described_tables, registers_of, tables_of, desc_of}
use Rattle.event_script.specs.Script.{is_skipped, other_line, words_line, line, said, script_from, finished, at_line, ◌then◌, parts_from, script_of}
use Rattle.event_script.specs.declared.fault.Kind.{Kind}
use Rattle.event_script.specs.declared.fault.Kind.TheVariants as kind
use Rattle.event_script.specs.declared.fault.ScriptFault.{ScriptFault}
use Rattle.event_script.specs.declared.draft.Draft.{Draft}
use Rattle.event_script.specs.declared.script.Script.{Script}
use Rattle.event_script.specs.declared.words.CallWord.{CallWord}
use Rattle.event_script.specs.declared.words.Keyword.{Keyword}
use Rattle.event_script.specs.declared.words.Keyword.TheVariants as on
use Rattle.event_script.proofs.Tables.{keyword_has_word}
use Rattle.event_script.proofs.Steps.{bound, bound_by, ensured, chosen}
use Rattle.lpi_enabling.specs.Enabling.{RestoresOff}
use Rattle.its_answers.specs.Lines.{begins_with, StartsOff}
use Rattle.its_answers.proofs.Drafts.{AreNone, Follows, same, IsOther, call_follows, line_follows, gicr_follows}

-- ---- words

-- another word is another keyword
other_by : (word : List ℕ) (k : Keyword) → bytes_eq word (codes "rrestore") ≡ false → bytes_eq (keyword_text k) word ≡ true → IsOther k
unfolding keyword_text
other_by word on.Rrestore none e =
    let is : codes "rrestore" ≡ word = (bytes_eq-Decides (codes "rrestore") word).0 e in
    absurd (both_ways (bytes_eq word (codes "rrestore")) none ((bytes_eq-Decides word (codes "rrestore")).1 (sym is)))
other_by word on.Vcpus none e = tt
other_by word on.Processors none e = tt
other_by word on.Shards none e = tt
other_by word on.Limits none e = tt
other_by word on.Ids none e = tt
other_by word on.Profile none e = tt
other_by word on.Window none e = tt
other_by word on.Config none e = tt
other_by word on.Pending none e = tt
other_by word on.Bytes none e = tt
other_by word on.Restore none e = tt
other_by word on.Gicr none e = tt
other_by word on.FromKvm none e = tt
other_by word on.Linux none e = tt
other_by word on.Track none e = tt
other_by word on.Pair none e = tt
other_by word on.Brestore none e = tt
other_by word on.ItsBase none e = tt
other_by word on.BBase none e = tt
other_by word on.Requester none e = tt
other_by word on.Phase none e = tt
other_by word on.Thread none e = tt
other_by word on.Migrate none e = tt
other_by word on.Precopy none e = tt
other_by word on.End none e = tt
other_by word on.Trace none e = tt
other_by word on.Second none e = tt

other : (word : List ℕ) → bytes_eq word (codes "rrestore") ≡ false → IfOk (keyword_of word) IsOther
other word none = weaker (keyword_of word) (keyword_has_word word) (λ k e. other_by word k none e)
  where
    weaker : (r : Result Keyword Kind) → IfOk r (λ k. bytes_eq (keyword_text k) word ≡ true)
        → ((k : Keyword) → bytes_eq (keyword_text k) word ≡ true → IsOther k) → IfOk r IsOther
    weaker (Ok k) h f = f k h
    weaker (Err e) h f = tt

gicr_keyword : keyword_of (codes "gicr") ≡ Ok on.Gicr
unfolding keyword_of keyword_text
gicr_keyword = refl

gicr_no_call : call_word_of (codes "gicr") ≡ None
unfolding call_word_of call_text
gicr_no_call = refl

-- ---- one line

abbrev Programs : Draft → Draft → Type 0
Programs d e = Follows d e × (e.gicr ≡ true)

both_false : (a b : Bool) → a ≡ false → b ≡ false → (a || b) ≡ false
both_false true b p q = absurd cc
both_false false b p q = q

some_fields : {X : Type 0} (x : X) (xs : List X) → nat_eq (length (x ∷ xs)) 0 ≡ false
some_fields x xs = elim (cases_Bool (nat_eq (length (x ∷ xs)) 0)) [ inl e ↦ absurd (omega (arith, eqb-true (length (x ∷ xs)) 0 e)) | inr e ↦ e ]

-- a line `gicr` is neither blank nor a remark
not_skipped : (fs : List (List ℕ)) → arg fs 0 ≡ codes "gicr" → is_skipped fs ≡ false
not_skipped [] e = absurd cc
not_skipped (f ∷ fs) e = both_false (nat_eq (length (f ∷ fs)) 0) (nat_eq (slice_index f 0) 35) (some_fields f fs)
    (ap (λ (word : List ℕ). nat_eq (slice_index word 0) 35) e)

by_word : (P : Draft → Type 0) (d : Draft) (n : ℕ) (fs : List (List ℕ)) (o : Option CallWord)
    → ((w : CallWord) → o ≡ Some w → IfOk (call_word_line d n w fs) P) → (o ≡ None → IfOk (other_line d n fs) P)
    → IfOk (let r : Result Draft Kind = elim o [ None ↦ other_line d n fs | Some w ↦ call_word_line d n w fs ] in r) P
by_word P d n fs None call rest = rest refl
by_word P d n fs (Some w) call rest = call w refl

no_call : {X : Type 0} (o : Option CallWord) (w : CallWord) → o ≡ None → o ≡ Some w → X
no_call o w none some = let clash : (let r : Option CallWord = None in r) ≡ Some w = sym none ∙ some in absurd cc

other_programs : (d : Draft) (n : ℕ) (fs : List (List ℕ)) → arg fs 0 ≡ codes "gicr" → IfOk (other_line d n fs) (Programs d)
unfolding other_line
other_programs d n fs e =
    let is : keyword_of (arg fs 0) ≡ Ok on.Gicr = ap keyword_of e ∙ gicr_keyword in
    bound_by (Programs d) (keyword_of (arg fs 0)) (λ k. k ≡ on.Gicr) _ (subst (λ (r : Result Keyword Kind). IfOk r (λ k. k ≡ on.Gicr)) (sym is) refl)
    (λ k same. subst (λ (x : Keyword). IfOk (keyword_line d n x fs) (Programs d)) (sym same) (gicr_follows d n fs))

words_programs : (d : Draft) (n : ℕ) (fs : List (List ℕ)) → arg fs 0 ≡ codes "gicr" → IfOk (words_line d n fs) (Programs d)
unfolding words_line
words_programs d n fs e =
    let none : call_word_of (arg fs 0) ≡ None = ap call_word_of e ∙ gicr_no_call in
    by_word (Programs d) d n fs (call_word_of (arg fs 0)) (λ w some. no_call (call_word_of (arg fs 0)) w none some) (λ _. other_programs d n fs e)

line_programs : (d : Draft) (n : ℕ) (text : List ℕ) → begins_with (codes "gicr") text ≡ true → IfOk (line d n text) (Programs d)
unfolding line
line_programs d n text e =
    let word : arg (fields text) 0 ≡ codes "gicr" = (bytes_eq-Decides (arg (fields text) 0) (codes "gicr")).0 e in
    bound (Programs d) (ensure (is_text text) kind.Text) _ (λ _.
    chosen {A = Result Draft Kind} (λ r. IfOk r (Programs d)) (is_skipped (fields text)) _ _
    (λ skipped. absurd (both_ways (is_skipped (fields text)) (not_skipped (fields text) word) skipped))
    (λ _. words_programs d n (fields text) word))

other_follows : (d : Draft) (n : ℕ) (fs : List (List ℕ)) → bytes_eq (arg fs 0) (codes "rrestore") ≡ false → IfOk (other_line d n fs) (Follows d)
unfolding other_line
other_follows d n fs none = bound_by (Follows d) (keyword_of (arg fs 0)) IsOther _ (other (arg fs 0) none) (λ k is. line_follows d n k fs is)

words_follow : (d : Draft) (n : ℕ) (fs : List (List ℕ)) → bytes_eq (arg fs 0) (codes "rrestore") ≡ false → IfOk (words_line d n fs) (Follows d)
unfolding words_line
words_follow d n fs none =
    by_word (Follows d) d n fs (call_word_of (arg fs 0)) (λ w _. call_follows d n w fs) (λ _. other_follows d n fs none)

line_keeps : (d : Draft) (n : ℕ) (text : List ℕ) → begins_with (codes "rrestore") text ≡ false → IfOk (line d n text) (Follows d)
unfolding line
line_keeps d n text none =
    bound (Follows d) (ensure (is_text text) kind.Text) _ (λ _.
    chosen {A = Result Draft Kind} (λ r. IfOk r (Follows d)) (is_skipped (fields text)) _ _ (λ _. same d) (λ _. words_follow d n (fields text) none))

-- ---- the script

abbrev IsOffScript : Script → Type 0
IsOffScript s = RestoresOff s.desc.tables

off_where_none : (places : List (Option GicrRegisters)) → AreNone places
    → AllByRecursion (λ (r : GicrRegisters). bit_of r.ctlr 0 ≡ false) (registers_of places).registers
off_where_none [] none = tt
off_where_none (None ∷ places) none = (refl, off_where_none places none.1)
off_where_none (Some r ∷ places) none = (let some : Some r ≡ None = none.0 in absurd cc)

tables_off : (d : Draft) (gicr : Bool) → gicr ≡ true → AreNone d.registers
    → IfOk (let r : Result LpiTables Kind = if gicr then Ok (Registers (registers_of d.registers)) else described_tables d in r) RestoresOff
tables_off d true e off = off_where_none d.registers off
tables_off d false e off = absurd cc

desc_off : (d : Draft) → d.gicr ≡ true → AreNone d.registers → IfOk (desc_of d) (λ desc. RestoresOff desc.tables)
unfolding desc_of
desc_off d g off =
    let P : Desc → Type 0 = λ desc. RestoresOff desc.tables in
    bound P (ok_or d.shards kind.Missing) _ (λ shards. bound_by P (tables_of d) RestoresOff _ (tables_off d d.gicr g off) (λ tables is. is))

said_off : (d : Draft) → d.gicr ≡ true → AreNone d.registers → IfOk (said d) IsOffScript
unfolding said
said_off d g off = bound_by IsOffScript (desc_of d) (λ desc. RestoresOff desc.tables) _ (desc_off d g off) (λ desc is. is)

ended_off : (d : Draft) → d.gicr ≡ true → AreNone d.registers → IfOk (script_from d) IsOffScript
unfolding script_from
ended_off d g off = bound IsOffScript (ensure (is_ended d.stage) kind.Missing) _ (λ _. said_off d g off)

numbered : {A : Type 0} (P : A → Type 0) (n : ℕ) (r : Result A Kind) → IfOk r P → IfOk (at_line n r) P
numbered P n (Ok x) h = h
numbered P n (Err k) h = tt

followed : {A B : Type 0} (P : A → Type 0) (Q : B → Type 0) (n : ℕ) (r : Result A Kind) (f : A → Result B ScriptFault) → IfOk r P
    → ((x : A) → P x → IfOk (f x) Q) → IfOk (at_line n r then f) Q
followed P Q n (Ok x) f p q = q x p
followed P Q n (Err k) f p q = tt

neither : (a b : Bool) → (a || b) ≡ false → (a ≡ false) × (b ≡ false)
neither true b e = absurd cc
neither false b e = (refl, e)

-- a line `gicr` was read, or comes
abbrev WillProgram : Draft → List (List ℕ) → Type 0
WillProgram d ps = (d.gicr ≡ true) ⊎ (list_any (begins_with (codes "gicr")) ps ≡ true)

-- the part after the last line end is no line
last_part : (d : Draft) (last : List ℕ) → WillProgram d (last ∷ []) → (d.gicr ≡ true) ⊎ (begins_with (codes "gicr") last ≡ true)
last_part d last w =
    elim w [ inl g ↦ inl g | inr here ↦ elim (or_cases (begins_with (codes "gicr") last) false here) [ inl e ↦ inr e | inr none ↦ absurd cc ] ]

no_bytes : (last : List ℕ) → nat_eq (length last) 0 ≡ true → begins_with (codes "gicr") last ≡ false
no_bytes [] e = refl
no_bytes (b ∷ bs) e = absurd (both_ways (nat_eq (length (b ∷ bs)) 0) (some_fields b bs) e)

finished_off : (d : Draft) (last : List ℕ) → WillProgram d (last ∷ []) → AreNone d.registers → IfOk (finished d last) IsOffScript
unfolding finished
finished_off d last w off =
    ensured IsOffScript (nat_eq (length last) 0) kind.Cut _ (λ none.
    elim (last_part d last w) [ inl g ↦ ended_off d g off | inr here ↦ absurd (both_ways (begins_with (codes "gicr") last) (no_bytes last none) here) ])

parts_off : (n : ℕ) (d : Draft) (ps : List (List ℕ)) → WillProgram d ps → list_any (begins_with (codes "rrestore")) ps ≡ false → AreNone d.registers
    → IfOk (parts_from n d ps) IsOffScript
parts_off n d [] w none off = elim w [ inl g ↦ numbered IsOffScript n (script_from d) (ended_off d g off) | inr never ↦ absurd cc ]
parts_off n d (last ∷ []) w none off = numbered IsOffScript n (finished d last) (finished_off d last w off)
parts_off n d (text ∷ (next ∷ rest)) w none off =
    let later = neither (begins_with (codes "rrestore") text) (list_any (begins_with (codes "rrestore")) (next ∷ rest)) none in
    let goes_on : (e : Draft) → Follows d e → WillProgram e (next ∷ rest) → IfOk (parts_from (n + 1) e (next ∷ rest)) IsOffScript =
    λ e f will. parts_off (n + 1) e (next ∷ rest) will later.1 (f.registers off) in
    let by_line : IfOk (line d n text) (Follows d) = line_keeps d n text later.0 in
    elim w [
      | inl g ↦ followed (Follows d) IsOffScript n (line d n text) (λ e. parts_from (n + 1) e (next ∷ rest)) by_line (λ e f. goes_on e f (inl (f.gicr g)))
      | inr some ↦
          elim (or_cases (begins_with (codes "gicr") text) (list_any (begins_with (codes "gicr")) (next ∷ rest)) some) [
            | inl here ↦ followed (Programs d) IsOffScript n (line d n text) (λ e. parts_from (n + 1) e (next ∷ rest)) (line_programs d n text here)
                (λ e f. goes_on e f.0 (inl f.1))
            | inr there ↦ followed (Follows d) IsOffScript n (line d n text) (λ e. parts_from (n + 1) e (next ∷ rest)) by_line (λ e f. goes_on e f (inr there))
          ]
    ]

read_off : (bytes : List ℕ) → StartsOff bytes → IfOk (script_of bytes) IsOffScript
unfolding script_of
read_off bytes h = parts_off 1 empty (parts bytes) (inr h.programmed) h.none_restored tt

pub scripts_off : (bytes : List ℕ) (s : Script) → script_of bytes ≡ Ok s → StartsOff bytes → RestoresOff s.desc.tables
scripts_off bytes s read h = subst (λ (r : Result Script ScriptFault). IfOk r IsOffScript) read (read_off bytes h)
