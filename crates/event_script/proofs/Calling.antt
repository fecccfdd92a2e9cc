-- The fields of each call that a line gives are in their ranges.
use Rattle.std.proofs.Common.{◌≡◌, ℕ, ◌-◌, ◌*◌, ◌^◌, ◌≤◌, true, ◌&&◌, nat_lt, nat_le, nat_eq, List, length, IfOk, refl, arith, lit<}
use Rattle.std.proofs.lemmas.Bool.{lt-ltb}
use Rattle.std.proofs.Math.Pow.{pow-sub-lt}
use Rattle.its_command.specs.Commands.{encoded}
use Rattle.its_types.specs.declared.ids.Vcpu.{Vcpu}
use Rattle.its_plain.specs.declared.call.Call.{Call}
use Rattle.its_plain.specs.declared.call.Route.{Route}
use Rattle.its_plain.specs.declared.desc.Desc.{Desc}
use Rattle.event_script.specs.Fields.{arg, number_within, any_number, address, device, event, interrupt, processor, bytes_within}
use Rattle.event_script.specs.Words.{command_word_of}
use Rattle.event_script.specs.Commands.{command_fields, command_of}
use Rattle.event_script.specs.Routes.{said_route, same_route}
use Rattle.event_script.specs.Calls.{signal_of, take_of, show_of, poke_of, word_of, command_call_of, peek_of, read_of, write_of, rread_of, rwrite_of, step_of}
use Rattle.event_script.specs.Calls.{save_of, best_of, claim_of, access_size, copy_of, dma_of, call_of}
use Rattle.event_script.specs.Limits.{are_bytes, has_bytes, is_call, is_access_size}
use Rattle.event_script.specs.declared.fault.Kind.TheVariants as kind
use Rattle.event_script.specs.declared.words.CallWord.{CallWord}
use Rattle.event_script.specs.declared.words.CallWord.TheVariants as on
use Rattle.event_script.proofs.Messages.{same_self}
use Rattle.event_script.proofs.Steps.{both_true, below, bound, bound_by, ensured, number_in_range, processor_below, bytes_in_range, length-encoded}
use Rattle.event_script.proofs.Bytes.{little_bytes_small, encoded_bytes}

abbrev pub IsCall : Desc → Call → Type 0
IsCall d c = is_call d c ≡ true

-- there is such a virtual processor
abbrev IsBelow : Desc → Vcpu → Type 0
IsBelow d v = nat_lt v.0 d.shape.vcpus ≡ true

-- there is a translator with this number
abbrev pub HasIts : Desc → ℕ → Type 0
HasIts d its = nat_lt its (length d.translators) ≡ true

signal_is_call : (d : Desc) (its : ℕ) (fs : List (List ℕ)) → HasIts d its → IfOk (signal_of its fs) (IsCall d)
unfolding signal_of
signal_is_call d its fs has =
    ensured (IsCall d) (nat_eq (length fs) 3) kind.Fields _
    (λ _. bound (IsCall d) (device (arg fs 1)) _ (λ dev. bound (IsCall d) (event (arg fs 2)) _ (λ ev. has)))

take_is_call : (d : Desc) (fs : List (List ℕ)) → IfOk (take_of d.shape.vcpus fs) (IsCall d)
unfolding take_of
take_is_call d fs =
    ensured (IsCall d) (nat_eq (length fs) 2) kind.Fields _ (λ _. bound_by (IsCall d) (processor d.shape.vcpus (arg fs 1)) (IsBelow d) _
    (processor_below d.shape.vcpus (arg fs 1)) (λ v e. e))

show_is_call : (d : Desc) (fs : List (List ℕ)) → IfOk (show_of d.shape.vcpus fs) (IsCall d)
unfolding show_of
show_is_call d fs =
    ensured (IsCall d) (nat_eq (length fs) 2) kind.Fields _ (λ _. bound_by (IsCall d) (processor d.shape.vcpus (arg fs 1)) (IsBelow d) _
    (processor_below d.shape.vcpus (arg fs 1)) (λ v e. e))

best_is_call : (d : Desc) (fs : List (List ℕ)) → IfOk (best_of d.shape.vcpus fs) (IsCall d)
unfolding best_of
best_is_call d fs =
    ensured (IsCall d) (nat_eq (length fs) 3) kind.Fields _ (λ _. bound_by (IsCall d) (processor d.shape.vcpus (arg fs 1)) (IsBelow d) _
    (processor_below d.shape.vcpus (arg fs 1)) (λ v e. bound (IsCall d) (number_within 0 (2 ^ 8 - 1) (arg fs 2)) _ (λ mask. e)))

claim_is_call : (d : Desc) (fs : List (List ℕ)) → IfOk (claim_of d.shape.vcpus fs) (IsCall d)
unfolding claim_of
claim_is_call d fs =
    ensured (IsCall d) (nat_eq (length fs) 3) kind.Fields _ (λ _. bound_by (IsCall d) (processor d.shape.vcpus (arg fs 1)) (IsBelow d) _
    (processor_below d.shape.vcpus (arg fs 1)) (λ v e. bound (IsCall d) (interrupt (arg fs 2)) _ (λ intid. e)))

poke_is_call : (d : Desc) (fs : List (List ℕ)) → IfOk (poke_of fs) (IsCall d)
unfolding poke_of
poke_is_call d fs =
    ensured (IsCall d) (nat_eq (length fs) 3) kind.Fields _ (λ _. bound (IsCall d) (address (arg fs 1)) _ (λ addr.
    bound_by (IsCall d) (bytes_within 64 (arg fs 2)) (λ b. has_bytes 64 b ≡ true) _ (bytes_in_range 64 (arg fs 2)) (λ b e. e)))

word_is_call : (d : Desc) (fs : List (List ℕ)) → IfOk (word_of fs) (IsCall d)
unfolding word_of
word_is_call d fs =
    ensured (IsCall d) (nat_eq (length fs) 3) kind.Fields _
    (λ _. bound (IsCall d) (address (arg fs 1)) _ (λ addr. bound (IsCall d) (any_number (arg fs 2)) _ (λ value. little_bytes_small 8 value)))

few : (bytes : List ℕ) → length bytes ≡ 32 → are_bytes bytes ≡ true → has_bytes 64 bytes ≡ true
few bytes e small = rw e small

command_is_call : (d : Desc) (fs : List (List ℕ)) → IfOk (command_call_of fs) (IsCall d)
unfolding command_call_of
command_is_call d fs =
    bound (IsCall d) (command_word_of (arg fs 2)) _ (λ word.
    ensured (IsCall d) (nat_eq (length fs) (command_fields word)) kind.Fields _ (λ _.
    bound (IsCall d) (address (arg fs 1)) _ (λ addr.
    bound (IsCall d) (command_of word fs) _ (λ c. few (encoded c) (length-encoded c) (encoded_bytes c)))))

peek_is_call : (d : Desc) (fs : List (List ℕ)) → IfOk (peek_of fs) (IsCall d)
unfolding peek_of
peek_is_call d fs =
    ensured (IsCall d) (nat_eq (length fs) 3) kind.Fields _ (λ _. bound (IsCall d) (address (arg fs 1)) _ (λ addr.
    bound_by (IsCall d) (number_within 1 64 (arg fs 2)) (λ n. (1 ≤ n) × (n ≤ 64)) _ (number_in_range 1 64 (arg fs 2))
    (λ n e. both_true (nat_le 1 n) (nat_le n 64) (below 1 n e.0) (below n 64 e.1))))

size_is_known : (f : List ℕ) → IfOk (access_size f) (λ n. is_access_size n ≡ true)
unfolding access_size
size_is_known f =
    bound (λ n. is_access_size n ≡ true) (number_within 4 8 f) _ (λ n. ensured (λ n. is_access_size n ≡ true) (is_access_size n) kind.Number _ (λ e. e))

read_is_call : (d : Desc) (its : ℕ) (fs : List (List ℕ)) → HasIts d its → IfOk (read_of its fs) (IsCall d)
unfolding read_of
read_is_call d its fs has =
    ensured (IsCall d) (nat_eq (length fs) 3) kind.Fields _ (λ _. bound (IsCall d) (number_within 0 (2 ^ 32 - 1) (arg fs 1)) _ (λ off.
    bound_by (IsCall d) (access_size (arg fs 2)) (λ n. is_access_size n ≡ true) _ (size_is_known (arg fs 2)) (λ size e.
    both_true (nat_lt its (length d.translators)) (is_access_size size) has e)))

-- no number of so many bytes is larger than the largest
fits : (bits n : ℕ) → n ≤ 2 ^ bits - 1 → nat_lt n (2 ^ bits) ≡ true
fits bits n h = lt-ltb n (2 ^ bits) (omega (arith, pow-sub-lt bits {a = 1} (lit< tt), h))

write_is_call : (d : Desc) (its : ℕ) (fs : List (List ℕ)) → HasIts d its → IfOk (write_of its fs) (IsCall d)
unfolding write_of
write_is_call d its fs has =
    ensured (IsCall d) (nat_eq (length fs) 4) kind.Fields _ (λ _. bound (IsCall d) (number_within 0 (2 ^ 32 - 1) (arg fs 1)) _ (λ off.
    bound_by (IsCall d) (access_size (arg fs 2)) (λ n. is_access_size n ≡ true) _ (size_is_known (arg fs 2)) (λ size e.
    bound_by (IsCall d) (number_within 0 (2 ^ (8 * size) - 1) (arg fs 3)) (λ n. (0 ≤ n) × (n ≤ 2 ^ (8 * size) - 1)) _
    (number_in_range 0 (2 ^ (8 * size) - 1) (arg fs 3)) (λ value r.
    both_true (nat_lt its (length d.translators) && is_access_size size) (nat_lt value (2 ^ (8 * size)))
    (both_true (nat_lt its (length d.translators)) (is_access_size size) has e) (fits (8 * size) value r.1)))))

rread_is_call : (d : Desc) (fs : List (List ℕ)) → IfOk (rread_of d.shape.vcpus fs) (IsCall d)
unfolding rread_of
rread_is_call d fs =
    ensured (IsCall d) (nat_eq (length fs) 4) kind.Fields _ (λ _.
    bound_by (IsCall d) (processor d.shape.vcpus (arg fs 1)) (IsBelow d) _ (processor_below d.shape.vcpus (arg fs 1)) (λ v below.
    bound (IsCall d) (number_within 0 (2 ^ 32 - 1) (arg fs 2)) _ (λ off.
    bound_by (IsCall d) (access_size (arg fs 3)) (λ n. is_access_size n ≡ true) _ (size_is_known (arg fs 3)) (λ size e.
    both_true (nat_lt v.0 d.shape.vcpus) (is_access_size size) below e))))

rwrite_is_call : (d : Desc) (fs : List (List ℕ)) → IfOk (rwrite_of d.shape.vcpus fs) (IsCall d)
unfolding rwrite_of
rwrite_is_call d fs =
    ensured (IsCall d) (nat_eq (length fs) 5) kind.Fields _ (λ _.
    bound_by (IsCall d) (processor d.shape.vcpus (arg fs 1)) (IsBelow d) _ (processor_below d.shape.vcpus (arg fs 1)) (λ v below.
    bound (IsCall d) (number_within 0 (2 ^ 32 - 1) (arg fs 2)) _ (λ off.
    bound_by (IsCall d) (access_size (arg fs 3)) (λ n. is_access_size n ≡ true) _ (size_is_known (arg fs 3)) (λ size e.
    bound_by (IsCall d) (number_within 0 (2 ^ (8 * size) - 1) (arg fs 4)) (λ n. (0 ≤ n) × (n ≤ 2 ^ (8 * size) - 1)) _
    (number_in_range 0 (2 ^ (8 * size) - 1) (arg fs 4)) (λ value r.
    both_true (nat_lt v.0 d.shape.vcpus && is_access_size size) (nat_lt value (2 ^ (8 * size)))
    (both_true (nat_lt v.0 d.shape.vcpus) (is_access_size size) below e) (fits (8 * size) value r.1))))))

save_is_call : (d : Desc) (fs : List (List ℕ)) → IfOk (save_of fs) (IsCall d)
unfolding save_of
save_is_call d fs = ensured (IsCall d) (nat_eq (length fs) 1) kind.Fields _ (λ _. refl)

step_is_call : (d : Desc) (its : ℕ) (fs : List (List ℕ)) → HasIts d its → IfOk (step_of its fs) (IsCall d)
unfolding step_of
step_is_call d its fs has = ensured (IsCall d) (nat_eq (length fs) 1) kind.Fields _ (λ _. has)

copy_is_call : (d : Desc) (fs : List (List ℕ)) → d.track ≡ true → IfOk (copy_of fs) (IsCall d)
unfolding copy_of
copy_is_call d fs tracked = ensured (IsCall d) (nat_eq (length fs) 1) kind.Fields _ (λ _. tracked)

dma_is_call : (d : Desc) (fs : List (List ℕ)) → IfOk (dma_of d fs) (IsCall d)
unfolding dma_of
dma_is_call d fs =
    ensured (IsCall d) (nat_eq (length fs) 4) kind.Fields _ (λ _. bound (IsCall d) (number_within 0 (2 ^ 32 - 1) (arg fs 1)) _ (λ req.
    bound (IsCall d) (address (arg fs 2)) _ (λ addr.
    bound_by (IsCall d) (bytes_within 64 (arg fs 3)) (λ b. has_bytes 64 b ≡ true) _ (bytes_in_range 64 (arg fs 3)) (λ bytes e.
    let r : Route = said_route d req addr.0 bytes in
    both_true (has_bytes 64 bytes) (same_route r r) e (same_self r)))))

-- a call that is read for a translator of the machine, where it may stand
pub call_is : (d : Desc) (its : ℕ) (w : CallWord) (fs : List (List ℕ)) → HasIts d its → (w ≡ on.Copy → d.track ≡ true) → IfOk (call_of d its w fs) (IsCall d)
unfolding call_of
call_is d its on.Signal fs has tracked = signal_is_call d its fs has
call_is d its on.Take fs has tracked = take_is_call d fs
call_is d its on.Show fs has tracked = show_is_call d fs
call_is d its on.Best fs has tracked = best_is_call d fs
call_is d its on.Claim fs has tracked = claim_is_call d fs
call_is d its on.Poke fs has tracked = poke_is_call d fs
call_is d its on.Word fs has tracked = word_is_call d fs
call_is d its on.Command fs has tracked = command_is_call d fs
call_is d its on.Peek fs has tracked = peek_is_call d fs
call_is d its on.Read fs has tracked = read_is_call d its fs has
call_is d its on.Write fs has tracked = write_is_call d its fs has
call_is d its on.Rread fs has tracked = rread_is_call d fs
call_is d its on.Rwrite fs has tracked = rwrite_is_call d fs
call_is d its on.Step fs has tracked = step_is_call d its fs has
call_is d its on.Save fs has tracked = save_is_call d fs
call_is d its on.Copy fs has tracked = copy_is_call d fs (tracked refl)
call_is d its on.Dma fs has tracked = dma_is_call d fs
