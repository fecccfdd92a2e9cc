-- The script that good drafts end in is within its limits.
use Rattle.std.proofs.Common.{◌≡◌, ◌<◌, ◌≤◌, ◌⊎◌, ℕ, ◌+◌, Bool, true, false, ◌&&◌, ◌||◌, nat_lt, nat_le, nat_eq, if◌then◌else◌, List, [], ◌∷◌, length}
use Rattle.std.proofs.Common.{filter_map, Option, Some, None, is_some, ok_or, Result, Ok, Err, IfOk, inl, inr, refl, sym, ap, ◌∙◌, arith}
use Rattle.std.specs.List.{list_all}
use Rattle.std.specs.Option.{unwrap_or}
use Rattle.std.proofs.lemmas.Bool.{ltb-true}
use Rattle.std.proofs.lemmas.List.{length-map}
use Rattle.its_types.specs.declared.ids.Addr.{Addr}
use Rattle.its_types.specs.declared.machine.Limits.{Limits}
use Rattle.its_plain.specs.Doorbells.{route_of}
use Rattle.its_plain.specs.Machine.{HasTablesFor}
use Rattle.its_plain.specs.declared.call.Call.{Call}
use Rattle.its_plain.specs.declared.call.Call.TheVariants as call
use Rattle.its_plain.specs.declared.desc.Desc.{Desc}
use Rattle.its_plain.specs.declared.desc.Its.{Its}
use Rattle.its_plain.specs.declared.desc.LpiTables.{LpiTables}
use Rattle.its_plain.specs.declared.desc.LpiTables.TheVariants.{Registers}
use Rattle.event_script.specs.Text.{parts, fields, is_text}
use Rattle.event_script.specs.Fields.{arg}
use Rattle.event_script.specs.Words.{keyword_of, call_word_of}
use Rattle.event_script.specs.Described.{most_stamp, default_limits, default_ids, described_tables, no_registers, registers_of, tables_of, desc_with, desc_of, desc_so_far}
use Rattle.event_script.specs.Description.{empty, at_start, is_ended, is_shard_count}
use Rattle.event_script.specs.Body.{has_tables, is_described, call_word_line}
use Rattle.event_script.specs.Limits.{is_call, is_thread, is_phase, is_leg, has_frames, IsWithinLimits, HasRegisters, are_limits}
use Rattle.event_script.specs.Script.{is_skipped, other_line, words_line, line, said, script_from}
use Rattle.event_script.specs.Script.{finished, at_line, ◌then◌, parts_from, script_of, begins_report, trace_with, without_report, check_from}
use Rattle.event_script.specs.Script.{check_of}
use Rattle.event_script.specs.declared.fault.Kind.{Kind}
use Rattle.event_script.specs.declared.fault.Kind.TheVariants as kind
use Rattle.event_script.specs.declared.fault.ScriptFault.{ScriptFault}
use Rattle.event_script.specs.declared.draft.Draft.{Draft}
use Rattle.event_script.specs.declared.script.Script.{Script}
use Rattle.event_script.specs.declared.draft.IdBits.{IdBits}
use Rattle.event_script.specs.declared.draft.Stage.{Stage}
use Rattle.event_script.specs.declared.draft.Stage.TheVariants as stage
use Rattle.event_script.specs.declared.draft.TheConstants.{MOST_PHASES, MOST_THREADS, MOST_CALLS}
use Rattle.event_script.specs.declared.words.CallWord.{CallWord}
use Rattle.event_script.proofs.Steps.{left_true, right_true, both_true, not_below, bound, bound_by, ensured, chosen, IsBetween}
use Rattle.event_script.proofs.Good.{IsFair, IsGood, given_shards, given_limits, given_ids, in_body, open_legs, empty_is_good}
use Rattle.event_script.proofs.GoodBody.{keyword_good, call_word_good}

other_good : (d : Draft) (n : ℕ) (fs : List (List ℕ)) → IsGood d → IfOk (other_line d n fs) IsGood
unfolding other_line
other_good d n fs h = bound IsGood (keyword_of (arg fs 0)) _ (λ k. keyword_good d n k fs h)

by_word : (d : Draft) (n : ℕ) (fs : List (List ℕ)) → IsGood d → (o : Option CallWord)
    → IfOk (let r : Result Draft Kind = elim o [ None ↦ other_line d n fs | Some w ↦ call_word_line d n w fs ] in r) IsGood
by_word d n fs h None = other_good d n fs h
by_word d n fs h (Some w) = call_word_good d n w fs h

words_good : (d : Draft) (n : ℕ) (fs : List (List ℕ)) → IsGood d → IfOk (words_line d n fs) IsGood
unfolding words_line
words_good d n fs h = by_word d n fs h (call_word_of (arg fs 0))

line_good : (d : Draft) (n : ℕ) (text : List ℕ) → IsGood d → IfOk (line d n text) IsGood
unfolding line
line_good d n text h =
    ensured IsGood (is_text text) kind.Text _ (λ _.
    chosen {A = Result Draft Kind} (λ r. IfOk r IsGood) (is_skipped (fields text)) _ _ (λ _. h) (λ _. words_good d n (fields text) h))

-- ---- the end

shards_known : (o : Option ℕ) → given_shards o ≡ true → IfOk (ok_or o kind.Missing) (λ n. is_shard_count n ≡ true)
shards_known None e = tt
shards_known (Some n) e = e

limits_known : (pair : Bool) (o : Option Limits) → given_limits pair o ≡ true
    → given_limits pair (Some (unwrap_or o (default_limits pair))) ≡ true
limits_known true None e = refl
limits_known false None e = refl
limits_known pair (Some l) e = e

-- the stamps of two translators are below 4096
stamps_known : (d : Draft) (pair : Bool) (l : Limits) → given_limits pair (Some l) ≡ true
    → let ts : List Its = if pair then d.first ∷ d.second ∷ [] else d.first ∷ [] in
    (length ts ≡ 1) ⊎ ((length ts ≡ 2) × (l.stamp_last < 4096))
stamps_known d false l e = inl refl
stamps_known d true l e = (let most = not_below l.stamp_last 4095 (right_true (are_limits l) (nat_le l.stamp_last 4095) e) in inr (refl, omega (arith, most)))

frames_known : (first second : Its) (pair : Bool) → has_frames first ≡ true → has_frames second ≡ true
    → list_all has_frames (let ts : List Its = if pair then first ∷ second ∷ [] else first ∷ [] in ts) ≡ true
frames_known first second true e f = both_true (has_frames first) (has_frames second && true) e (both_true (has_frames second) true f refl)
frames_known first second false e f = both_true (has_frames first) true e refl

counted : (d : Draft) (pair : Bool)
    → let ts : List Its = if pair then d.first ∷ d.second ∷ [] else d.first ∷ [] in (1 ≤ length ts) × (length ts ≤ 2)
counted d true = (omega arith, omega arith)
counted d false = (omega arith, omega arith)

abbrev FitIds : IdBits → Type 0
FitIds b = IsBetween 16 20 b.dev × IsBetween 14 20 b.lpi

ids_known : (o : Option IdBits) → given_ids o → FitIds (unwrap_or o default_ids)
ids_known None e = ((omega arith, omega arith), (omega arith, omega arith))
ids_known (Some b) e = e

all_there : (tables : List (Option Addr)) → list_all is_some tables ≡ true → length (filter_map (λ table. table) tables) ≡ length tables
all_there [] e = refl
all_there (None ∷ tables) e = absurd (cc)
all_there (Some table ∷ tables) e = omega (arith, all_there tables e)

abbrev AreThere : Draft → LpiTables → Type 0
AreThere d t = HasTablesFor (length d.pending) t × HasRegisters (length d.pending) t

described_there : (d : Draft) → (is_some d.config && list_all is_some d.pending) ≡ true → IfOk (described_tables d) (AreThere d)
unfolding described_tables
described_there d e =
    bound (AreThere d) (ok_or d.config kind.Missing) _ (λ config.
    (all_there d.pending (right_true (is_some d.config) (list_all is_some d.pending) e), tt))

-- the guest programs the tables, or there is one for each processor
by_choice : (d : Draft) (gicr : Bool) → IsFair d → (gicr || (is_some d.config && list_all is_some d.pending)) ≡ true
    → IfOk (let r : Result LpiTables Kind = if gicr then Ok (Registers (registers_of d.registers)) else described_tables d in r) (AreThere d)
by_choice d true fair e =
    let count : length (registers_of d.registers).registers ≡ length d.pending =
    length-map d.registers (λ place. unwrap_or place no_registers) ∙ fair.registers in
    (count, count)
by_choice d false fair e = described_there d e

tables_there : (d : Draft) → IsFair d → has_tables d ≡ true → IfOk (tables_of d) (AreThere d)
tables_there d fair e = by_choice d d.gicr fair e

ended : (s : Stage) → is_ended s ≡ true → (in_body s ≡ true) × (at_start s ≡ false)
ended stage.Start e = absurd (cc)
ended stage.Description e = absurd (cc)
ended stage.Leg e = absurd (cc)
ended stage.Phase e = absurd (cc)
ended stage.Thread e = absurd (cc)
ended stage.Ended e = (refl, refl)

none_open : (s : Stage) → is_ended s ≡ true → open_legs s ≡ 0
none_open stage.Start e = absurd (cc)
none_open stage.Description e = absurd (cc)
none_open stage.Leg e = absurd (cc)
none_open stage.Phase e = absurd (cc)
none_open stage.Thread e = absurd (cc)
none_open stage.Ended e = refl

-- calls are the same whatever the shards and the tables
same_call : (d : Draft) (n : ℕ) (t : LpiTables) (c : Call) → is_call (desc_so_far d) c ≡ is_call (desc_with d n t) c
unfolding route_of
same_call d n t (call.Signal its dev ev) = refl
same_call d n t (call.Take vcpu) = refl
same_call d n t (call.Show vcpu) = refl
same_call d n t (call.Best vcpu mask) = refl
same_call d n t (call.Claim vcpu intid) = refl
same_call d n t (call.Poke addr bytes) = refl
same_call d n t (call.Peek addr count) = refl
same_call d n t (call.ReadReg its off size) = refl
same_call d n t (call.WriteReg its off size value) = refl
same_call d n t (call.ReadGicr vcpu off size) = refl
same_call d n t (call.WriteGicr vcpu off size value) = refl
same_call d n t (call.Step its) = refl
same_call d n t call.Save = refl
same_call d n t call.Copy = refl
same_call d n t (call.Dma req addr bytes route) = refl

all_same : {X : Type 0} (p q : X → Bool) → ((x : X) → p x ≡ q x) → (xs : List X) → list_all p xs ≡ list_all q xs
all_same p q same [] = refl
all_same p q same (x ∷ xs) = ap (λ b. b && list_all p xs) (same x) ∙ ap (λ b. q x && b) (all_same p q same xs)

same_thread : (d : Draft) (n : ℕ) (t : LpiTables) (calls : List Call) → is_thread (desc_so_far d) calls ≡ is_thread (desc_with d n t) calls
same_thread d n t calls =
    ap (λ b. nat_le (length calls) MOST_CALLS && b) (all_same (is_call (desc_so_far d)) (is_call (desc_with d n t)) (same_call d n t) calls)

same_phase : (d : Draft) (n : ℕ) (t : LpiTables) (threads : List (List Call)) → is_phase (desc_so_far d) threads ≡ is_phase (desc_with d n t) threads
same_phase d n t threads =
    ap (λ b. nat_lt 0 (length threads) && nat_le (length threads) MOST_THREADS && b)
    (all_same (is_thread (desc_so_far d)) (is_thread (desc_with d n t)) (same_thread d n t) threads)

same_leg : (d : Draft) (n : ℕ) (t : LpiTables) (phases : List (List (List Call))) → is_leg (desc_so_far d) phases ≡ is_leg (desc_with d n t) phases
same_leg d n t phases =
    ap (λ b. nat_le (length phases) MOST_PHASES && b) (all_same (is_phase (desc_so_far d)) (is_phase (desc_with d n t)) (same_phase d n t) phases)

abbrev IsFit : Draft → Desc → Type 0
IsFit d desc = IsWithinLimits (record { desc = desc; fill_lines = d.fill_lines; requester_lines = d.requester_lines; legs = d.legs; moves = d.moves })

desc_fits : (d : Draft) → IsGood d → is_ended d.stage ≡ true → IfOk (desc_of d) (IsFit d)
unfolding desc_of
desc_fits d h over =
    let is : is_described d ≡ true = h.described (ended d.stage over).0 in
    let bits : FitIds (unwrap_or d.ids default_ids) = ids_known d.ids h.fair.ids in
    let limits : Limits = unwrap_or d.limits (default_limits d.pair) in
    let given : given_limits d.pair (Some limits) ≡ true = limits_known d.pair d.limits h.fair.limits in
    let windows : Bool = nat_lt 0 (length d.windows) in
    let some_windows : windows ≡ true = right_true (is_some d.shards) windows (left_true (is_some d.shards && windows) (has_tables d) is) in
    let there : has_tables d ≡ true = right_true (is_some d.shards && windows) (has_tables d) is in
    bound_by (IsFit d) (ok_or d.shards kind.Missing) (λ n. is_shard_count n ≡ true) _ (shards_known d.shards h.fair.shards) (λ shards known.
    bound_by (IsFit d) (tables_of d) (AreThere d) _ (tables_there d h.fair there) (λ tables enough.
    record {
      description = record {
        shape = record {
          some_vcpus = h.fair.some (ended d.stage over).1;
          most_vcpus = h.fair.few;
          least_dev_bits = bits.0.0;
          most_dev_bits = bits.0.1;
          least_lpi_bits = bits.1.0;
          most_lpi_bits = bits.1.1;
        };
        tables = enough.0;
        some_translator = (counted d d.pair).0;
        most_translators = (counted d d.pair).1;
      };
      shards = known;
      limits = left_true (are_limits limits) (nat_le limits.stamp_last (most_stamp d.pair)) given;
      stamps = stamps_known d d.pair limits given;
      some_windows = ltb-true 0 (length d.windows) some_windows;
      most_windows = h.fair.windows;
      fills = h.fair.fills;
      fill_lines = h.fair.fill_lines;
      registers = enough.1;
      frames = frames_known d.first d.second d.pair h.fair.doors.first_frames h.fair.doors.second_frames;
      requesters = h.fair.doors.few;
      requester_lines = h.fair.doors.numbered;
      some_legs = omega (arith, h.body.some_legs over);
      most_legs = omega (arith, h.body.leg_room);
      legs = sym (all_same (is_leg (desc_so_far d)) (is_leg (desc_with d shards tables)) (same_leg d shards tables) d.legs) ∙ h.body.legs;
      moves = omega (arith, h.body.moves, none_open d.stage over);
      ways = h.body.ways;
    }))

said_fits : (d : Draft) → IsGood d → is_ended d.stage ≡ true → IfOk (said d) IsWithinLimits
unfolding said
said_fits d h over = bound_by IsWithinLimits (desc_of d) (IsFit d) _ (desc_fits d h over) (λ desc fit. fit)

script_fits : (d : Draft) → IsGood d → IfOk (script_from d) IsWithinLimits
unfolding script_from
script_fits d h = ensured IsWithinLimits (is_ended d.stage) kind.Missing _ (λ over. said_fits d h over)

finished_fits : (d : Draft) (last : List ℕ) → IsGood d → IfOk (finished d last) IsWithinLimits
unfolding finished
finished_fits d last h = ensured IsWithinLimits (nat_eq (length last) 0) kind.Cut _ (λ _. script_fits d h)

-- ---- all lines

numbered : {A : Type 0} (P : A → Type 0) (n : ℕ) (r : Result A Kind) → IfOk r P → IfOk (at_line n r) P
numbered P n (Ok x) h = h
numbered P n (Err k) h = tt

followed : {A B : Type 0} (P : A → Type 0) (Q : B → Type 0) (n : ℕ) (r : Result A Kind) (f : A → Result B ScriptFault) → IfOk r P
    → ((x : A) → P x → IfOk (f x) Q) → IfOk (at_line n r then f) Q
followed P Q n (Ok x) f p q = q x p
followed P Q n (Err k) f p q = tt

parts_fit : (n : ℕ) (d : Draft) (ps : List (List ℕ)) → IsGood d → IfOk (parts_from n d ps) IsWithinLimits
parts_fit n d [] h = numbered IsWithinLimits n (script_from d) (script_fits d h)
parts_fit n d (last ∷ []) h = numbered IsWithinLimits n (finished d last) (finished_fits d last h)
parts_fit n d (text ∷ (next ∷ rest)) h =
    followed IsGood IsWithinLimits n (line d n text) (λ e. parts_from (n + 1) e (next ∷ rest)) (line_good d n text h)
    (λ e good. parts_fit (n + 1) e (next ∷ rest) good)

pub scripts_fit : (bytes : List ℕ) → IfOk (script_of bytes) IsWithinLimits
unfolding script_of
scripts_fit bytes = parts_fit 1 empty (parts bytes) empty_is_good

-- ---- a script that a report follows

trace_fits : (d : Draft) (fs : List (List ℕ)) → IsGood d → IfOk (trace_with d fs) IsWithinLimits
unfolding trace_with
trace_fits d fs h = ensured IsWithinLimits (nat_eq (length fs) 1) kind.Fields _ (λ _. script_fits d h)

abbrev HasScript : Script × List (List ℕ) → Type 0
HasScript p = IsWithinLimits p.0

none_fits : (n : ℕ) (last : List ℕ) → IfOk (at_line n (without_report last)) HasScript
none_fits n last = chosen {A = Result (Script × List (List ℕ)) Kind} (λ r. IfOk (at_line n r) HasScript) (nat_eq (length last) 0) _ _ (λ _. tt) (λ _. tt)

check_fits : (n : ℕ) (d : Draft) (ps : List (List ℕ)) → IsGood d → IfOk (check_from n d ps) HasScript
check_fits n d [] h = none_fits n []
check_fits n d (last ∷ []) h = none_fits n last
check_fits n d (text ∷ (next ∷ rest)) h =
    chosen {A = Result (Script × List (List ℕ)) ScriptFault} (λ r. IfOk r HasScript) (begins_report d text) _ _
    (λ _. followed IsWithinLimits HasScript n (trace_with d (fields text)) (λ s. Ok (s, next ∷ rest)) (trace_fits d (fields text) h) (λ s fit. fit))
    (λ _. followed IsGood HasScript n (line d n text) (λ e. check_from (n + 1) e (next ∷ rest)) (line_good d n text h)
    (λ e good. check_fits (n + 1) e (next ∷ rest) good))

pub checked_scripts_fit : (bytes : List ℕ) → IfOk (check_of bytes) HasScript
unfolding check_of
checked_scripts_fit bytes = check_fits 1 empty (parts bytes) empty_is_good
