-- Each byte of what is printed of calls, replies and pending LPIs prints.
use Rattle.std.proofs.Common.{◌≡◌, ℕ, zero, suc, ◌+◌, ◌/◌, ◌%◌, ◌<◌, ◌≤◌, Bool, true, false, ◌&&◌, ◌||◌, ◌==◌, nat_lt, nat_le, List, [], ◌∷◌, ◌++◌}
use Rattle.std.proofs.Common.{length}
use Rattle.std.proofs.Common.{slice_index, refl, arith}
use Rattle.std.specs.Prelude.{codes}
use Rattle.std.specs.List.{flat_map}
use Rattle.std.specs.Fmt.{digit_glyph, digits_onto, decimal}
unfoldable use Rattle.std.specs.Fmt.{digits}
use Rattle.std.proofs.lemmas.Bool.{and_from, and_parts, cond_both, lt-ltb, ltb-true, le-leb}
use Rattle.std.proofs.lemmas.List.{length-append}
use Rattle.hex.specs.Hex.{encode_with, encode_lower, lower_digits}
use Rattle.its_command.specs.declared.command.Op.{Op}
use Rattle.its_command.specs.declared.command.Op.TheVariants as op
use Rattle.its_plain.specs.declared.call.Ack.{Ack}
use Rattle.its_plain.specs.declared.call.Ack.TheVariants as ack
use Rattle.its_plain.specs.declared.call.Call.{Call}
use Rattle.its_plain.specs.declared.call.Call.TheVariants as call
use Rattle.its_plain.specs.declared.call.Cause.{Cause}
use Rattle.its_plain.specs.declared.call.Cause.TheVariants as cause
use Rattle.its_plain.specs.declared.call.Reason.{Reason}
use Rattle.its_plain.specs.declared.call.Reason.TheVariants as reason
use Rattle.its_plain.specs.declared.call.Reply.{Reply}
use Rattle.its_plain.specs.declared.call.Reply.TheVariants as reply
use Rattle.its_plain.specs.declared.call.Signal.{Signal}
use Rattle.its_plain.specs.declared.call.Signal.TheVariants as signal
use Rattle.its_plain.specs.declared.call.StepReply.{StepReply}
use Rattle.its_plain.specs.declared.call.StepReply.TheVariants as step
use Rattle.its_plain.specs.declared.fault.Region.{Region}
use Rattle.its_plain.specs.declared.fault.Region.TheVariants as region
use Rattle.its_plain.specs.declared.fault.SaveFault.{SaveFault}
use Rattle.its_plain.specs.declared.fault.SaveFault.TheVariants as save
use Rattle.event_script.specs.Limits.{are_bytes}
use Rattle.its_history.specs.Reading.{is_printed, is_answered}
use Rattle.its_history.specs.ReadBack.{IsSome}
use Rattle.its_history.specs.Report.{pending_text}
use Rattle.its_history.specs.Texts.{hexadecimal, its_mark, table_mark, call_text, op_text, cause_text, reason_text, signal_text, ack_text, step_text}
use Rattle.its_history.specs.Texts.{region_text, save_fault_text}
use Rattle.its_history.specs.Texts.{reply_text, answered_text}
use Rattle.its_history.proofs.ReadAgain.{append_printed}
use Rattle.report_reading.specs.Bytes.{GivesBytes, TellsBytes}

abbrev Prints : List ℕ → Type 0
Prints text = is_printed text ≡ true

-- ---- numbers

abbrev prints : ℕ → Bool
prints b = nat_le 32 b && nat_le b 126

within : (b : ℕ) → 32 ≤ b → b ≤ 126 → prints b ≡ true
within b low high = and_from (nat_le 32 b) (nat_le b 126) (le-leb 32 b low) (le-leb b 126 high)

glyph_prints : (d : ℕ) → d < 16 → prints (digit_glyph false d) ≡ true
glyph_prints d lt =
    cond_both (nat_lt d 10) (48 + d) (87 + d) (λ b. prints b ≡ true)
    (λ e. (let low = ltb-true d 10 e in within (48 + d) (omega arith) (omega (arith, low)))) (λ _. within (87 + d) (omega arith) (omega (arith, lt)))

onto_prints : (k base n : ℕ) (acc : List ℕ) → ((m : ℕ) → m % base < 16) → Prints acc → Prints (digits_onto k base false n acc)
onto_prints zero base n acc small h = h
onto_prints (suc k) base n acc small h =
    let g : ℕ = digit_glyph false (n % base) in
    let here : Prints (g ∷ acc) = and_from (prints g) (is_printed acc) (glyph_prints (n % base) (small n)) h in
    cond_both (n / base == 0) (g ∷ acc) (digits_onto k base false (n / base) (g ∷ acc)) Prints (λ _. here)
    (λ _. onto_prints k base (n / base) (g ∷ acc) small here)

-- the first digit stands in any case
onto_some : (k base n : ℕ) (acc : List ℕ) → 0 < length acc → 0 < length (digits_onto k base false n acc)
onto_some zero base n acc h = h
onto_some (suc k) base n acc h =
    let g : ℕ = digit_glyph false (n % base) in
    cond_both (n / base == 0) (g ∷ acc) (digits_onto k base false (n / base) (g ∷ acc)) (λ (ds : List ℕ). 0 < length ds) (λ _. omega arith)
    (λ _. onto_some k base (n / base) (g ∷ acc) (omega arith))

one_at_least : (k base n : ℕ) → 0 < length (digits_onto (suc k) base false n [])
one_at_least k base n =
    let g : ℕ = digit_glyph false (n % base) in
    cond_both (n / base == 0) (g ∷ []) (digits_onto k base false (n / base) (g ∷ [])) (λ (ds : List ℕ). 0 < length ds) (λ _. omega arith)
    (λ _. onto_some k base (n / base) (g ∷ []) (omega arith))

dec : (n : ℕ) → Prints (decimal n)
unfolding digits
dec n = onto_prints 64 10 n [] (λ m. omega arith) refl

hex : (n : ℕ) → Prints (hexadecimal n)
unfolding digits
hex n = onto_prints 64 16 n [] (λ m. omega arith) refl

dec_some : (n : ℕ) → 0 < length (decimal n)
unfolding digits
dec_some n = one_at_least 63 10 n

-- what follows something that prints
space : (text : List ℕ) → Prints text → Prints (text ++ codes " ")
space text h = append_printed text (codes " ") h refl

then_dec : (text : List ℕ) (n : ℕ) → Prints text → Prints (text ++ decimal n)
then_dec text n h = append_printed text (decimal n) h (dec n)

then_hex : (text : List ℕ) (n : ℕ) → Prints text → Prints (text ++ hexadecimal n)
then_hex text n h = append_printed text (hexadecimal n) h (hex n)

-- ---- bytes

digit_prints : (ds : List ℕ) (d : ℕ) → Prints ds → d < length ds → prints (slice_index ds d) ≡ true
digit_prints [] d h lt = absurd (omega arith)
digit_prints (x ∷ ds) zero h lt = (and_parts (prints x) (is_printed ds) h).0
digit_prints (x ∷ ds) (suc d) h lt = digit_prints ds d (and_parts (prints x) (is_printed ds) h).1 (omega arith)

abbrev digit_of : ℕ → ℕ
digit_of d = slice_index lower_digits d

bytes_print : (bytes : List ℕ) → are_bytes bytes ≡ true → Prints (encode_lower bytes)
unfolding encode_with
bytes_print [] h = refl
bytes_print (b ∷ bytes) h =
    let parts = and_parts (nat_lt b 256) (are_bytes bytes) h in
    let low : b < 256 = ltb-true b 256 parts.0 in
    and_from (prints (digit_of (b / 16))) (is_printed (digit_of (b % 16) ∷ encode_lower bytes)) (digit_prints lower_digits (b / 16) refl (omega arith))
    (and_from (prints (digit_of (b % 16))) (is_printed (encode_lower bytes)) (digit_prints lower_digits (b % 16) refl (omega arith))
    (bytes_print bytes parts.1))

-- ---- calls

mark_prints : (its : ℕ) → Prints (its_mark its)
unfolding its_mark
mark_prints its = cond_both (its == 0) [] (codes "b ") Prints (λ _. refl) (λ _. refl)

table_prints : (its : ℕ) (name : List ℕ) → Prints name → Prints (table_mark its ++ name)
unfolding table_mark
table_prints its name h =
    append_printed (table_mark its) name (cond_both (its == 0) [] (codes "b-") Prints (λ _. refl) (λ _. refl)) h

-- the word of a translator's call
its_word : (its : ℕ) (word : List ℕ) → Prints word → Prints (its_mark its ++ word)
its_word its word h = append_printed (its_mark its) word (mark_prints its) h

some_first : (xs ys : List ℕ) → 0 < length xs → 0 < length (xs ++ ys)
some_first [] ys h = absurd (omega arith)
some_first (x ∷ xs) ys h = omega arith

some_later : (xs ys : List ℕ) → 0 < length ys → 0 < length (xs ++ ys)
some_later xs ys h = omega (arith, length-append xs ys, h)

pub call_prints : (c : Call) → GivesBytes c → Prints (call_text c)
unfolding call_text
call_prints (call.Signal its dev ev) g =
    let at : List ℕ = its_mark its ++ codes "signal " in
    let of : List ℕ = at ++ decimal dev.0 in
    then_dec (of ++ codes " ") ev.0 (space of (then_dec at dev.0 (its_word its (codes "signal ") refl)))
call_prints (call.Take vcpu) g = dec vcpu.0
call_prints (call.Show vcpu) g = dec vcpu.0
call_prints (call.Best vcpu mask) g = (let of : List ℕ = codes "best " ++ decimal vcpu.0 in then_hex (of ++ codes " ") mask (space of (dec vcpu.0)))
call_prints (call.Claim vcpu intid) g = (let of : List ℕ = codes "claim " ++ decimal vcpu.0 in then_dec (of ++ codes " ") intid.0 (space of (dec vcpu.0)))
call_prints (call.Poke addr bytes) g =
    let at : List ℕ = codes "poke " ++ hexadecimal addr.0 in
    append_printed (at ++ codes " ") (encode_lower bytes) (space at (hex addr.0)) (bytes_print bytes g)
call_prints (call.Peek addr count) g = (let at : List ℕ = codes "peek " ++ hexadecimal addr.0 in then_dec (at ++ codes " ") count (space at (hex addr.0)))
call_prints (call.ReadReg its off size) g =
    let word : List ℕ = its_mark its ++ codes "read " in
    let at : List ℕ = word ++ hexadecimal off in
    then_dec (at ++ codes " ") size (space at (then_hex word off (its_word its (codes "read ") refl)))
call_prints (call.WriteReg its off size value) g =
    let word : List ℕ = its_mark its ++ codes "write " in
    let at : List ℕ = word ++ hexadecimal off in
    let sized : List ℕ = at ++ codes " " ++ decimal size in
    then_hex (sized ++ codes " ") value (space sized (then_dec (at ++ codes " ") size (space at (then_hex word off (its_word its (codes "write ") refl)))))
call_prints (call.ReadGicr vcpu off size) g =
    let of : List ℕ = codes "rread " ++ decimal vcpu.0 in
    let at : List ℕ = of ++ codes " " ++ hexadecimal off in
    then_dec (at ++ codes " ") size (space at (then_hex (of ++ codes " ") off (space of (dec vcpu.0))))
call_prints (call.WriteGicr vcpu off size value) g =
    let of : List ℕ = codes "rwrite " ++ decimal vcpu.0 in
    let at : List ℕ = of ++ codes " " ++ hexadecimal off in
    let sized : List ℕ = at ++ codes " " ++ decimal size in
    then_hex (sized ++ codes " ") value
    (space sized (then_dec (at ++ codes " ") size (space at (then_hex (of ++ codes " ") off (space of (dec vcpu.0))))))
call_prints (call.Step its) g = its_word its (codes "step") refl
call_prints call.Save g = refl
call_prints call.Copy g = refl
call_prints (call.Dma req addr bytes route) g =
    let of : List ℕ = codes "dma " ++ decimal req in
    let at : List ℕ = of ++ codes " " ++ hexadecimal addr.0 in
    append_printed (at ++ codes " ") (encode_lower bytes) (space at (then_hex (of ++ codes " ") addr.0 (space of (dec req)))) (bytes_print bytes g)

-- the word of a register's access, its offset and its size
word_some : (its : ℕ) (word : List ℕ) (off size : ℕ) → 0 < length word
    → 0 < length (its_mark its ++ word ++ hexadecimal off ++ codes " " ++ decimal size)
word_some its word off size h =
    let at : List ℕ = its_mark its ++ word in
    some_first (at ++ hexadecimal off ++ codes " ") (decimal size) (some_first (at ++ hexadecimal off) (codes " ")
    (some_first at (hexadecimal off) (some_later (its_mark its) word h)))

call_some : (c : Call) → 0 < length (call_text c)
unfolding call_text
call_some (call.Signal its dev ev) =
    let at : List ℕ = its_mark its ++ codes "signal " in
    some_first (at ++ decimal dev.0 ++ codes " ") (decimal ev.0) (some_first (at ++ decimal dev.0) (codes " ")
    (some_first at (decimal dev.0) (some_later (its_mark its) (codes "signal ") (omega arith))))
call_some (call.Take vcpu) = omega arith
call_some (call.Show vcpu) = omega arith
call_some (call.Best vcpu mask) = omega arith
call_some (call.Claim vcpu intid) = omega arith
call_some (call.Poke addr bytes) = omega arith
call_some (call.Peek addr count) = omega arith
call_some (call.ReadReg its off size) = word_some its (codes "read ") off size (omega arith)
call_some (call.WriteReg its off size value) =
    let at : List ℕ = its_mark its ++ codes "write " ++ hexadecimal off ++ codes " " ++ decimal size in
    some_first (at ++ codes " ") (hexadecimal value) (some_first at (codes " ") (word_some its (codes "write ") off size (omega arith)))
call_some (call.ReadGicr vcpu off size) = omega arith
call_some (call.WriteGicr vcpu off size value) = omega arith
call_some (call.Step its) = some_later (its_mark its) (codes "step") (omega arith)
call_some call.Save = omega arith
call_some call.Copy = omega arith
call_some (call.Dma req addr bytes route) = omega arith

-- ---- replies

op_prints : (o : Op) → Prints (op_text o)
unfolding op_text
op_prints op.Movi = refl
op_prints op.Int = refl
op_prints op.Clear = refl
op_prints op.Sync = refl
op_prints op.Mapd = refl
op_prints op.Mapc = refl
op_prints op.Mapti = refl
op_prints op.Mapi = refl
op_prints op.Inv = refl
op_prints op.Invall = refl
op_prints op.Movall = refl
op_prints op.Discard = refl
op_prints (op.Unknown opcode) = hex opcode

cause_prints : (c : Cause) → Prints (cause_text c)
unfolding cause_text
cause_prints cause.Disabled = refl
cause_prints cause.NoDevice = refl
cause_prints cause.NoEvent = refl
cause_prints cause.NoCollection = refl
cause_prints cause.LpisOff = refl

reason_prints : (r : Reason) → Prints (reason_text r)
unfolding reason_text
reason_prints reason.UnknownCommand = refl
reason_prints reason.DeviceRange = refl
reason_prints reason.SizeRange = refl
reason_prints reason.TargetRange = refl
reason_prints reason.CollectionRange = refl
reason_prints reason.NoDevice = refl
reason_prints reason.EventRange = refl
reason_prints reason.IntidRange = refl
reason_prints reason.NoEvent = refl
reason_prints reason.NoCollection = refl
reason_prints reason.LpisOff = refl

abbrev IsText : List ℕ → Type 0
IsText text = (0 < length text) × Prints text

signal_is_text : (s : Signal) → IsText (signal_text s)
unfolding signal_text
signal_is_text (signal.Delivered vcpu intid) =
    let at : List ℕ = codes "delivered " ++ decimal vcpu.0 in (omega arith, then_dec (at ++ codes " ") intid.0 (space at (dec vcpu.0)))
signal_is_text (signal.Dropped why) = (omega arith, cause_prints why)

ack_is_text : (a : Ack) → IsText (ack_text a)
unfolding ack_text
ack_is_text (ack.Some intid priority) =
    let of : List ℕ = codes "lpi " ++ decimal intid.0 in (omega arith, then_hex (of ++ codes " ") priority (space of (dec intid.0)))
ack_is_text ack.None = (omega arith, refl)

step_is_text : (s : StepReply) → IsText (step_text s)
unfolding step_text
step_is_text step.Idle = (omega arith, refl)
step_is_text (step.Ran name) = (omega arith, op_prints name)
step_is_text (step.Refused name why) =
    let what : List ℕ = codes "refused " ++ op_text name in
    (omega arith, append_printed (what ++ codes " ") (reason_text why) (space what (op_prints name)) (reason_prints why))
step_is_text (step.QueueFault addr) = (omega arith, hex addr.0)

region_prints : (r : Region) → Prints (region_text r)
unfolding region_text
region_prints (region.Devices its) = table_prints its (codes "devices") refl
region_prints (region.Level1 its) = table_prints its (codes "level1") refl
region_prints (region.Page its k) = then_dec (table_mark its ++ codes "page ") k (table_prints its (codes "page ") refl)
region_prints (region.Collections its) = table_prints its (codes "collections") refl
region_prints (region.Itt its dev) = then_dec (table_mark its ++ codes "itt ") dev.0 (table_prints its (codes "itt ") refl)
region_prints (region.Pending vcpu) = dec vcpu.0
region_prints region.Config = refl
region_prints (region.ConfigOf vcpu) = dec vcpu.0
region_prints (region.Queue its) = table_prints its (codes "queue") refl

fault_prints : (f : SaveFault) → Prints (save_fault_text f)
unfolding save_fault_text
fault_prints (save.NoPlace its dev) =
    then_dec (codes "no-place " ++ its_mark its) dev.0 (append_printed (codes "no-place ") (its_mark its) refl (mark_prints its))
fault_prints (save.Outside r) = region_prints r
fault_prints (save.Overlap r s) =
    let one : List ℕ = codes "overlap " ++ region_text r in
    append_printed (one ++ codes " ") (region_text s) (space one (region_prints r)) (region_prints s)

reply_is_text : (r : Reply) → TellsBytes r → IsText (reply_text r)
unfolding reply_text
reply_is_text (reply.Signal s) t = signal_is_text s
reply_is_text (reply.Ack a) t = ack_is_text a
reply_is_text reply.Ok t = (omega arith, refl)
reply_is_text reply.Outside t = (omega arith, refl)
reply_is_text (reply.Bytes bytes) t = (omega arith, bytes_print bytes t)
reply_is_text (reply.Value value) t = (omega arith, hex value)
reply_is_text (reply.Step s) t = step_is_text s
reply_is_text reply.Saved t = (omega arith, refl)
reply_is_text (reply.SaveFault fault) t = (omega arith, fault_prints fault)
reply_is_text (reply.Copied pages) t = (omega arith, dec pages)
reply_is_text reply.NoRequester t = (omega arith, refl)

-- ---- a call and its reply

or_later : (a b : Bool) → b ≡ true → (a || b) ≡ true
or_later true b e = refl
or_later false b e = e

or_now : (a b : Bool) → a ≡ true → (a || b) ≡ true
or_now true b e = refl
or_now false b e = absurd cc

arrow_found : (b : ℕ) (bs : List ℕ) (y : ℕ) (ys : List ℕ) → is_answered (b ∷ bs ++ codes " -> " ++ y ∷ ys) ≡ true
arrow_found b [] y ys = or_now _ (is_answered (codes " -> " ++ y ∷ ys)) (lt-ltb 4 (length (codes " -> " ++ y ∷ ys)) (omega arith))
arrow_found b (c ∷ bs) y ys = or_later _ (is_answered (c ∷ bs ++ codes " -> " ++ y ∷ ys)) (arrow_found c bs y ys)

answered_by : (xs ys : List ℕ) → 0 < length xs → 0 < length ys → is_answered (xs ++ codes " -> " ++ ys) ≡ true
answered_by [] ys x y = absurd (omega arith)
answered_by (b ∷ bs) [] x y = absurd (omega arith)
answered_by (b ∷ bs) (y ∷ ys) some more = arrow_found b bs y ys

pub answered_prints : (c : Call) (r : Reply) → GivesBytes c → TellsBytes r → Prints (answered_text c r)
unfolding answered_text
answered_prints c r g t =
    append_printed (call_text c ++ codes " -> ") (reply_text r) (append_printed (call_text c) (codes " -> ") (call_prints c g) refl) (reply_is_text r t).1

pub answered_answers : (c : Call) (r : Reply) → TellsBytes r → is_answered (answered_text c r) ≡ true
unfolding answered_text
answered_answers c r t = answered_by (call_text c) (reply_text r) (call_some c) (reply_is_text r t).0

-- ---- pending LPIs

others_print : (ns : List ℕ) → Prints (flat_map (λ m. codes " " ++ decimal m) ns)
others_print [] = refl
others_print (n ∷ ns) = append_printed (codes " " ++ decimal n) (flat_map (λ m. codes " " ++ decimal m) ns) (dec n) (others_print ns)

-- a number by itself
pub number_is_text : (n : ℕ) → IsSome (decimal n)
number_is_text n = record { some = dec_some n; printed = dec n }

pub pending_is_text : (ns : List ℕ) → IsSome (pending_text ns)
pending_is_text [] = record { some = omega arith; printed = refl }
pending_is_text (n ∷ ns) =
    let others : List ℕ = flat_map (λ m. codes " " ++ decimal m) ns in record {
      some = some_first (decimal n) others (dec_some n);
      printed = append_printed (decimal n) others (dec n) (others_print ns);
    }
