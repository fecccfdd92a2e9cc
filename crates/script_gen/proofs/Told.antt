-- The text of a call and its reply tells how they count.
use Rattle.std.proofs.Common.{◌≡◌, ℕ, zero, suc, ◌+◌, ◌/◌, ◌%◌, ◌<◌, Bool, true, false, ◌&&◌, cond, eqb, List, [], ◌∷◌, ◌++◌, drop, refl, ap, ◌∙◌, append_assoc}
use Rattle.std.proofs.Common.{arith}
use Rattle.std.specs.Prelude.{codes, slice_index, nat_lt}
use Rattle.std.specs.List.{AllByRecursion}
use Rattle.std.specs.Fmt.{decimal, digits, digits_onto, digit_glyph}
use Rattle.std.proofs.lemmas.Bool.{cond_both, ltb-true, ne_eqb}
use Rattle.its_plain.specs.declared.call.Ack.TheVariants as ack
use Rattle.its_plain.specs.declared.call.Call.{Call}
use Rattle.its_plain.specs.declared.call.Call.TheVariants as call
use Rattle.its_plain.specs.declared.call.Reply.{Reply}
use Rattle.its_plain.specs.declared.call.Reply.TheVariants as reply
use Rattle.its_plain.specs.declared.call.Signal.TheVariants as signal
use Rattle.its_plain.specs.declared.call.StepReply.TheVariants as step
use Rattle.its_history.specs.Texts.{answered_text, call_text, its_mark, hexadecimal, reply_text, signal_text, ack_text, step_text}
use Rattle.script_gen.specs.Summary.{is_signal, is_step, is_delivered, has_run}

-- ---- what is read of a text

-- what stands after the first `>`
abbrev pub behind : List ℕ → List ℕ
behind [] = []
behind (b ∷ bs) = cond (eqb b 62) bs (behind bs)

-- without the `b` of a second translator, which has a space after it as no other first letter
abbrev pub unmarked : List ℕ → List ℕ
unmarked text = cond (eqb (slice_index text 1) 32) (drop 2 text) text

-- `signal` has an `i` in the second place, and `step` a `t`, as no other call
abbrev pub tells_signal : List ℕ → Bool
tells_signal text = eqb (slice_index (unmarked text) 1) 105

abbrev pub tells_step : List ℕ → Bool
tells_step text = eqb (slice_index (unmarked text) 1) 116

-- a space, and then `delivered` or `ran`, whose first two letters no other reply has
abbrev pub begins : ℕ → ℕ → List ℕ → Bool
begins a b text = eqb (slice_index text 1) a && eqb (slice_index text 2) b

abbrev pub tells_delivered : List ℕ → Bool
tells_delivered text = tells_signal text && begins 100 101 (behind text)

abbrev pub tells_ran : List ℕ → Bool
tells_ran text = tells_step text && begins 114 97 (behind text)

-- ---- decimal digits have no `>`

abbrev Lacks : List ℕ → Type 0
Lacks bs = AllByRecursion (λ b. eqb b 62 ≡ false) bs

behind_after : (xs ys : List ℕ) → Lacks xs → behind (xs ++ ys) ≡ behind ys
behind_after [] ys h = refl
behind_after (x ∷ xs) ys h = ap (λ b. cond b (xs ++ ys) (behind (xs ++ ys))) h.0 ∙ behind_after xs ys h.1

glyph_lacks : (d : ℕ) → eqb (digit_glyph false d) 62 ≡ false
glyph_lacks d =
    cond_both (nat_lt d 10) (48 + d) (87 + d) (λ b. eqb b 62 ≡ false)
    (λ low. let lt : d < 10 = ltb-true d 10 low in ne_eqb (48 + d) 62 (λ e. omega arith))
    (λ _. ne_eqb (87 + d) 62 (λ e. omega arith))

onto_lacks : (k n : ℕ) (acc : List ℕ) → Lacks acc → Lacks (digits_onto k 10 false n acc)
onto_lacks zero n acc h = h
onto_lacks (suc k) n acc h =
    let more : List ℕ = digit_glyph false (n % 10) ∷ acc in
    let here : Lacks more = (glyph_lacks (n % 10), h) in
    cond_both (eqb (n / 10) 0) more (digits_onto k 10 false (n / 10) more) Lacks (λ _. here) (λ _. onto_lacks k (n / 10) more here)

decimal_lacks : (n : ℕ) → Lacks (decimal n)
unfolding digits
decimal_lacks n = onto_lacks 64 n [] tt

-- ---- replies

delivered_told : (r : Reply) → begins 100 101 (32 ∷ reply_text r) ≡ is_delivered r
unfolding reply_text signal_text ack_text step_text
delivered_told (reply.Signal (signal.Delivered vcpu intid)) = refl
delivered_told (reply.Signal (signal.Dropped why)) = refl
delivered_told (reply.Ack (ack.Some intid priority)) = refl
delivered_told (reply.Ack ack.None) = refl
delivered_told reply.Ok = refl
delivered_told reply.Outside = refl
delivered_told (reply.Bytes bytes) = refl
delivered_told (reply.Value value) = refl
delivered_told (reply.Step step.Idle) = refl
delivered_told (reply.Step (step.Ran name)) = refl
delivered_told (reply.Step (step.Refused name why)) = refl
delivered_told (reply.Step (step.QueueFault addr)) = refl
delivered_told reply.Saved = refl
delivered_told (reply.SaveFault fault) = refl
delivered_told (reply.Copied pages) = refl
delivered_told reply.NoRequester = refl

ran_told : (r : Reply) → begins 114 97 (32 ∷ reply_text r) ≡ has_run r
unfolding reply_text signal_text ack_text step_text
ran_told (reply.Signal (signal.Delivered vcpu intid)) = refl
ran_told (reply.Signal (signal.Dropped why)) = refl
ran_told (reply.Ack (ack.Some intid priority)) = refl
ran_told (reply.Ack ack.None) = refl
ran_told reply.Ok = refl
ran_told reply.Outside = refl
ran_told (reply.Bytes bytes) = refl
ran_told (reply.Value value) = refl
ran_told (reply.Step step.Idle) = refl
ran_told (reply.Step (step.Ran name)) = refl
ran_told (reply.Step (step.Refused name why)) = refl
ran_told (reply.Step (step.QueueFault addr)) = refl
ran_told reply.Saved = refl
ran_told (reply.SaveFault fault) = refl
ran_told (reply.Copied pages) = refl
ran_told reply.NoRequester = refl

-- ---- calls

-- with the mark of the first translator, and with that of the second
by_mark : (its : ℕ) (P : List ℕ → Type 0) → P [] → P (codes "b ") → P (its_mark its)
unfolding its_mark
by_mark its P first second = cond_both (eqb its 0) [] (codes "b ") P (λ _. first) (λ _. second)

abbrev signal_with : ℕ → ℕ → Reply → List ℕ → List ℕ
signal_with dev ev r mark = mark ++ codes "signal " ++ decimal dev ++ codes " " ++ decimal ev ++ codes " -> " ++ reply_text r

abbrev read_with : ℕ → ℕ → Reply → List ℕ → List ℕ
read_with off size r mark = mark ++ codes "read " ++ hexadecimal off ++ codes " " ++ decimal size ++ codes " -> " ++ reply_text r

abbrev write_with : ℕ → ℕ → ℕ → Reply → List ℕ → List ℕ
write_with off size value r mark =
    mark ++ codes "write " ++ hexadecimal off ++ codes " " ++ decimal size ++ codes " " ++ hexadecimal value ++ codes " -> " ++ reply_text r

abbrev step_with : Reply → List ℕ → List ℕ
step_with r mark = mark ++ codes "step" ++ codes " -> " ++ reply_text r

signal_told : (c : Call) (r : Reply) → tells_signal (answered_text c r) ≡ is_signal c
unfolding answered_text call_text
signal_told (call.Signal its dev ev) r = by_mark its (λ m. tells_signal (signal_with dev.0 ev.0 r m) ≡ true) refl refl
signal_told (call.Take vcpu) r = refl
signal_told (call.Show vcpu) r = refl
signal_told (call.Best vcpu mask) r = refl
signal_told (call.Claim vcpu intid) r = refl
signal_told (call.Poke addr bytes) r = refl
signal_told (call.Peek addr count) r = refl
signal_told (call.ReadReg its off size) r = by_mark its (λ m. tells_signal (read_with off size r m) ≡ false) refl refl
signal_told (call.WriteReg its off size value) r = by_mark its (λ m. tells_signal (write_with off size value r m) ≡ false) refl refl
signal_told (call.ReadGicr vcpu off size) r = refl
signal_told (call.WriteGicr vcpu off size value) r = refl
signal_told (call.Step its) r = by_mark its (λ m. tells_signal (step_with r m) ≡ false) refl refl
signal_told call.Save r = refl
signal_told call.Copy r = refl
signal_told (call.Dma req addr bytes route) r = refl

step_told : (c : Call) (r : Reply) → tells_step (answered_text c r) ≡ is_step c
unfolding answered_text call_text
step_told (call.Signal its dev ev) r = by_mark its (λ m. tells_step (signal_with dev.0 ev.0 r m) ≡ false) refl refl
step_told (call.Take vcpu) r = refl
step_told (call.Show vcpu) r = refl
step_told (call.Best vcpu mask) r = refl
step_told (call.Claim vcpu intid) r = refl
step_told (call.Poke addr bytes) r = refl
step_told (call.Peek addr count) r = refl
step_told (call.ReadReg its off size) r = by_mark its (λ m. tells_step (read_with off size r m) ≡ false) refl refl
step_told (call.WriteReg its off size value) r = by_mark its (λ m. tells_step (write_with off size value r m) ≡ false) refl refl
step_told (call.ReadGicr vcpu off size) r = refl
step_told (call.WriteGicr vcpu off size value) r = refl
step_told (call.Step its) r = by_mark its (λ m. tells_step (step_with r m) ≡ true) refl refl
step_told call.Save r = refl
step_told call.Copy r = refl
step_told (call.Dma req addr bytes route) r = refl

behind_signal : (dev ev : ℕ) (rest : List ℕ) → behind (codes "signal " ++ decimal dev ++ codes " " ++ decimal ev ++ codes " -> " ++ rest) ≡ 32 ∷ rest
behind_signal dev ev rest =
    let end : List ℕ = 32 ∷ 45 ∷ 62 ∷ 32 ∷ rest in
    let flat : decimal dev ++ codes " " ++ decimal ev ++ codes " -> " ++ rest ≡ decimal dev ++ (32 ∷ (decimal ev ++ end)) = simp append_assoc in
    ap behind flat ∙ behind_after (decimal dev) (32 ∷ (decimal ev ++ end)) (decimal_lacks dev) ∙ behind_after (decimal ev) end (decimal_lacks ev)

delivery_told : (c : Call) (r : Reply) → tells_delivered (answered_text c r) ≡ (is_signal c && is_delivered r)
unfolding answered_text call_text
delivery_told (call.Signal its dev ev) r =
    let told : begins 100 101 (32 ∷ reply_text r) ≡ is_delivered r = delivered_told r in
    let one = ap (begins 100 101) (behind_signal dev.0 ev.0 (reply_text r)) ∙ told in
    by_mark its (λ m. tells_delivered (signal_with dev.0 ev.0 r m) ≡ is_delivered r) one one
delivery_told (call.Take vcpu) r = refl
delivery_told (call.Show vcpu) r = refl
delivery_told (call.Best vcpu mask) r = refl
delivery_told (call.Claim vcpu intid) r = refl
delivery_told (call.Poke addr bytes) r = refl
delivery_told (call.Peek addr count) r = refl
delivery_told (call.ReadReg its off size) r = by_mark its (λ m. tells_delivered (read_with off size r m) ≡ false) refl refl
delivery_told (call.WriteReg its off size value) r = by_mark its (λ m. tells_delivered (write_with off size value r m) ≡ false) refl refl
delivery_told (call.ReadGicr vcpu off size) r = refl
delivery_told (call.WriteGicr vcpu off size value) r = refl
delivery_told (call.Step its) r = by_mark its (λ m. tells_delivered (step_with r m) ≡ false) refl refl
delivery_told call.Save r = refl
delivery_told call.Copy r = refl
delivery_told (call.Dma req addr bytes route) r = refl

run_told : (c : Call) (r : Reply) → tells_ran (answered_text c r) ≡ (is_step c && has_run r)
unfolding answered_text call_text
run_told (call.Signal its dev ev) r = by_mark its (λ m. tells_ran (signal_with dev.0 ev.0 r m) ≡ false) refl refl
run_told (call.Take vcpu) r = refl
run_told (call.Show vcpu) r = refl
run_told (call.Best vcpu mask) r = refl
run_told (call.Claim vcpu intid) r = refl
run_told (call.Poke addr bytes) r = refl
run_told (call.Peek addr count) r = refl
run_told (call.ReadReg its off size) r = by_mark its (λ m. tells_ran (read_with off size r m) ≡ false) refl refl
run_told (call.WriteReg its off size value) r = by_mark its (λ m. tells_ran (write_with off size value r m) ≡ false) refl refl
run_told (call.ReadGicr vcpu off size) r = refl
run_told (call.WriteGicr vcpu off size value) r = refl
run_told (call.Step its) r = by_mark its (λ m. tells_ran (step_with r m) ≡ has_run r) (ran_told r) (ran_told r)
run_told call.Save r = refl
run_told call.Copy r = refl
run_told (call.Dma req addr bytes route) r = refl

-- ---- all four

-- a test of calls and replies, and the test of texts that tells it
pub record IsTold (p : Call → Reply → Bool) (q : List ℕ → Bool) : Type 0 where
  pub same : (c : Call) (r : Reply) → q (answered_text c r) ≡ p c r

pub signals_told : IsTold (λ c r. is_signal c) tells_signal
signals_told = record { same = signal_told }

pub deliveries_told : IsTold (λ c r. is_signal c && is_delivered r) tells_delivered
deliveries_told = record { same = delivery_told }

pub steps_told : IsTold (λ c r. is_step c) tells_step
steps_told = record { same = step_told }

pub runs_told : IsTold (λ c r. is_step c && has_run r) tells_ran
runs_told = record { same = run_told }

pub any_told : IsTold (λ c r. true) (λ text. true)
any_told = record { same = λ c r. refl }
