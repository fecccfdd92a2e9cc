-- Steps and writes of registers that aren't counted leave the maps.
use Rattle.std.proofs.Common.{◌≡◌, ℕ, zero, suc, ◌+◌, ◌-◌, Bool, true, false, cond, not, ◌&&◌, ◌==◌, nat_lt, nat_le, List, [], ◌∷◌, Option, Some, None}
use Rattle.std.proofs.Common.{Result, Ok, Err, IfOk, inl, inr, refl, ap, ◌∙◌, arith}
use Rattle.std.specs.Prelude.{◌⊎◌, ◌<◌, ◌≤◌, ◌%◌, slice_set, slice_index_or}
use Rattle.std.proofs.lemmas.Bool.{cond_both, or_cases, ltb-true, leb-true, eqb-true}
use Rattle.gits_regs.specs.Registers.{Registers, Written, write_reg, write_64, write_word, write_ctlr, write_cbaser, write_cwriter, write_baser0}
use Rattle.gits_regs.specs.Registers.{write_baser1, unchanged, advanced, has_bases, is_same_queue, kept_cbaser, kept_offset, queue_size, is_32, read_64}
use Rattle.its_types.specs.Halves.{low_half, with_low_half, with_high_half}
use Rattle.gits_regs.specs.declared.change.RegChange.TheVariants as change
use Rattle.its_types.specs.Bits.{bit_of}
use Rattle.its_command.specs.Commands.{decoded, op_of}
use Rattle.its_command.specs.declared.command.Command.{Command}
use Rattle.its_command.specs.declared.command.Command.TheVariants as command
use Rattle.its_types.specs.Lpis.{with_lpis}
use Rattle.its_types.specs.Maps.{Maps}
use Rattle.its_plain.specs.Answer.{step_reply, step_left, is_idle, next_bytes, met_reply, met_left, command_reply, command_left, went_on, emptied, written}
use Rattle.its_plain.specs.Answer.{translator_written, has_same_tables}
use Rattle.its_plain.specs.Commands.{◌>>=◌, ensure, ran, int, clear, inv, invall, movall, all_moved, lpi_at, event_at, target_at}
use Rattle.its_plain.specs.Plain.{Plain, Translator, no_translator, translator, regs_of, maps_of, pending_of, is_on, with_pending}
use Rattle.its_plain.specs.declared.call.Reason.{Reason}
use Rattle.its_plain.specs.declared.call.Reason.TheVariants.{TargetRange, LpisOff}
use Rattle.its_plain.specs.declared.call.StepReply.TheVariants.{Idle}
use Rattle.its_numbers.specs.Limits.{no_limit}
use Rattle.its_numbers.specs.Routes.{leaves_maps, step_leaves_maps, is_no_table, next_count, counted}

-- ---- the count

next_apart : (n : ℕ) → next_count n ≡ n → ⊥
next_apart n =
    elim (n == no_limit) as (λ b. n == no_limit ≡ b → cond b 0 (n + 1) ≡ n → ⊥) [
      | true ↦ λ e same. (let none : (0 == no_limit) ≡ true = ap (λ (k : ℕ). k == no_limit) same ∙ e in cc)
      | false ↦ λ e same. (omega (arith, same))
    ] refl

pub same_count : (leaves : Bool) (n : ℕ) → counted leaves n ≡ n → leaves ≡ true
same_count true n same = refl
same_count false n same = absurd (next_apart n same)

-- ---- a translator that is replaced

-- where its maps are the same, so are those of each
at_set : (ts : List Translator) (i j : ℕ) (t : Translator) → t.maps ≡ (slice_index_or ts i no_translator).maps
    → (slice_index_or (slice_set ts i t) j no_translator).maps ≡ (slice_index_or ts j no_translator).maps
at_set [] zero j t same = refl
at_set [] (suc i) j t same = refl
at_set (y ∷ ys) zero zero t same = same
at_set (y ∷ ys) zero (suc j) t same = refl
at_set (y ∷ ys) (suc i) zero t same = refl
at_set (y ∷ ys) (suc i) (suc j) t same = at_set ys i j t same

gone_on : (u : Plain) (i j : ℕ) → maps_of (went_on i u) j ≡ maps_of u j
gone_on u i j = at_set u.translators i j (record (translator u i) { regs = advanced (regs_of u i) }) refl

-- ---- commands

abbrev Stay : Plain → Plain → Type 0
Stay u w = w.translators ≡ u.translators

after : {A : Type 0} (P : Plain → Type 0) (r : Result A Reason) (f : A → Result Plain Reason) → ((x : A) → IfOk (f x) P) → IfOk (r >>= f) P
after P (Ok x) f h = h x
after P (Err e) f h = tt

moved_stay : (u : Plain) (from to : ℕ) → Stay u (all_moved from to u)
unfolding all_moved
moved_stay u from to =
    cond_both (from == to) u (with_pending (with_pending u from []) to (with_lpis (pending_of u from) (pending_of u to))) (Stay u) (λ _. refl) (λ _. refl)

module _ (u : Plain) (i : ℕ) where
  int_stays : (dev ev : ℕ) → IfOk (int u i dev ev) (Stay u)
  unfolding int
  int_stays dev ev = after (Stay u) (lpi_at u i dev ev) _ (λ _. refl)

  clear_stays : (dev ev : ℕ) → IfOk (clear u i dev ev) (Stay u)
  unfolding clear
  clear_stays dev ev = after (Stay u) (lpi_at u i dev ev) _ (λ _. refl)

  inv_stays : (dev ev : ℕ) → IfOk (inv u i dev ev) (Stay u)
  unfolding inv
  inv_stays dev ev = after (Stay u) (event_at (maps_of u i) dev ev) _ (λ _. refl)

  invall_stays : (icid : ℕ) → IfOk (invall u i icid) (Stay u)
  unfolding invall
  invall_stays icid = after (Stay u) (target_at (maps_of u i) icid) _ (λ _. refl)

  movall_stays : (from to : ℕ) → IfOk (movall u from to) (Stay u)
  unfolding movall
  movall_stays from to =
      after (Stay u) (ensure (nat_lt from u.layout.shape.vcpus && nat_lt to u.layout.shape.vcpus) TargetRange) _ (λ _.
      after (Stay u) (ensure (is_on u from && is_on u to) LpisOff) _ (λ _. moved_stay u from to))

  ran_stays : (c : Command) → leaves_maps (op_of c) ≡ true → IfOk (ran u i c) (Stay u)
  unfolding ran
  ran_stays (command.Int dev ev) e = int_stays dev.0 ev.0
  ran_stays (command.Clear dev ev) e = clear_stays dev.0 ev.0
  ran_stays (command.Sync target) e = refl
  ran_stays (command.Inv dev ev) e = inv_stays dev.0 ev.0
  ran_stays (command.Invall icid) e = invall_stays icid.0
  ran_stays (command.Movall from to) e = movall_stays from to
  ran_stays (command.Unknown opcode) e = tt
  ran_stays (command.Movi dev ev icid) e = absurd cc
  ran_stays (command.Mapd dev bits itt valid) e = absurd cc
  ran_stays (command.Mapc icid target valid) e = absurd cc
  ran_stays (command.Mapti dev ev intid icid) e = absurd cc
  ran_stays (command.Mapi dev ev icid) e = absurd cc
  ran_stays (command.Discard dev ev) e = absurd cc

  -- ---- steps

  module _ (j : ℕ) where
    left_stays : (c : Command) (r : Result Plain Reason) → (leaves_maps (op_of c) ≡ true → IfOk r (Stay u))
        → step_leaves_maps (command_reply (op_of c) r) ≡ true → maps_of (went_on i (command_left u r)) j ≡ maps_of u j
    left_stays c (Ok w) h e = gone_on w i j ∙ ap (λ (ts : List Translator). (slice_index_or ts j no_translator).maps) (h e)
    left_stays c (Err reason) h e = gone_on u i j

    met_stays : (o : Option (List ℕ)) → step_leaves_maps (met_reply u i o) ≡ true → maps_of (met_left u i o) j ≡ maps_of u j
    met_stays None e = refl
    met_stays (Some bytes) e = left_stays (decoded bytes) (ran u i (decoded bytes)) (ran_stays (decoded bytes)) e

    -- of translator i, and what it leaves of the maps of translator j
    pub step_stays : step_leaves_maps (step_reply u i) ≡ true → maps_of (step_left u i) j ≡ maps_of u j
    unfolding step_reply step_left
    step_stays =
        elim (is_idle u i) as (λ b. step_leaves_maps (cond b Idle (met_reply u i (next_bytes u i))) ≡ true
        → maps_of (cond b u (met_left u i (next_bytes u i))) j ≡ maps_of u j) [ true ↦ λ e. refl | false ↦ met_stays (next_bytes u i) ]

-- ---- writes of registers

abbrev Empties : Maps → Written → Type 0
Empties m w = emptied w.change m ≡ m

-- whichever a test takes
either : (m : Maps) (b : Bool) (x y : Written) → Empties m x → Empties m y → Empties m (cond b x y)
either m true x y p q = p
either m false x y p q = q

module _ (m : Maps) (r : Registers) where
  ctlr_stays : (value : ℕ) → Empties m (write_ctlr r value)
  unfolding write_ctlr
  ctlr_stays value =
      let on : Written = record { regs = record r { enabled = true }; change = change.Enabled } in
      let off : Written = record { regs = record r { enabled = false }; change = change.Disabled } in
      either m (bit_of value 0) (cond (not r.enabled && has_bases r) on (unchanged r)) (cond r.enabled off (unchanged r))
      (either m (not r.enabled && has_bases r) on (unchanged r) refl refl) (either m r.enabled off (unchanged r) refl refl)

  cbaser_stays : (value : ℕ) → Empties m (write_cbaser r value)
  unfolding write_cbaser
  cbaser_stays value =
      let new : Written = record { regs = record r { cbaser = kept_cbaser value; creadr = 0; cwriter = 0 }; change = change.Other } in
      either m r.enabled (unchanged r) (cond (is_same_queue r (kept_cbaser value)) (unchanged r) new) refl
      (either m (is_same_queue r (kept_cbaser value)) (unchanged r) new refl refl)

  cwriter_stays : (value : ℕ) → Empties m (write_cwriter r value)
  unfolding write_cwriter
  cwriter_stays value =
      let new : Written = record { regs = record r { cwriter = kept_offset value }; change = change.Other } in
      either m (nat_lt (kept_offset value) (queue_size r) && not (r.cwriter == kept_offset value)) new (unchanged r) refl refl

  all_stay : (off value : ℕ) → (off ≡ 256 → ⊥) → (off ≡ 264 → ⊥) → Empties m (write_64 r off value)
  unfolding write_64
  all_stay off value first second =
      let last : Written = cond (off == 264) (write_baser1 r value) (unchanged r) in
      let third : Written = cond (off == 256) (write_baser0 r value) last in
      let rest : Written = cond (off == 136) (write_cwriter r value) third in
      cond_both (off == 128) (write_cbaser r value) rest (Empties m) (λ _. cbaser_stays value) (λ _.
      cond_both (off == 136) (write_cwriter r value) third (Empties m) (λ _. cwriter_stays value) (λ _.
      cond_both (off == 256) (write_baser0 r value) last (Empties m) (λ e. absurd (first (eqb-true off 256 e))) (λ _.
      cond_both (off == 264) (write_baser1 r value) (unchanged r) (Empties m) (λ e. absurd (second (eqb-true off 264 e))) (λ _. refl))))

  word_stays : (off value : ℕ) → (off < 256) ⊎ (272 ≤ off) → Empties m (write_word r off value)
  unfolding write_word
  word_stays off value apart =
      let whole : Written = write_64 r off (with_low_half (read_64 r off) value) in
      let half : Written = write_64 r (off - 4) (with_high_half (read_64 r (off - 4)) value) in
      let last : Written = cond (off % 8 == 4) half (unchanged r) in
      let small : Written = cond (off == 0) (write_ctlr r value) (unchanged r) in
      let no : (n : ℕ) → 256 ≤ n → n < 272 → off ≡ n → ⊥ =
      λ n low high same. elim apart [ inl lt ↦ (omega (arith, lt, low, same)) | inr le ↦ (omega (arith, le, high, same)) ] in
      either m (is_32 off) small (cond (off % 8 == 0) whole last)
      (either m (off == 0) (write_ctlr r value) (unchanged r) (ctlr_stays value) refl)
      (either m (off % 8 == 0) whole last
      (all_stay off (with_low_half (read_64 r off) value) (no 256 (omega arith) (omega arith)) (no 264 (omega arith) (omega arith)))
      (either m (off % 8 == 4) half (unchanged r)
      (all_stay (off - 4) (with_high_half (read_64 r (off - 4)) value) (λ e. no 260 (omega arith) (omega arith) (omega (arith, e)))
      (λ e. no 268 (omega arith) (omega arith) (omega (arith, e)))) refl))

  reg_stays : (off size value : ℕ) → (off < 256) ⊎ (272 ≤ off) → Empties m (write_reg r off size value)
  unfolding write_reg
  reg_stays off size value apart =
      let no : (n : ℕ) → 256 ≤ n → n < 272 → off ≡ n → ⊥ =
      λ n low high same. elim apart [ inl lt ↦ (omega (arith, lt, low, same)) | inr le ↦ (omega (arith, le, high, same)) ] in
      either m (size == 8) (write_64 r off value) (cond (size == 4) (write_word r off (low_half value)) (unchanged r))
      (all_stay off value (no 256 (omega arith) (omega arith)) (no 264 (omega arith) (omega arith)))
      (either m (size == 4) (write_word r off (low_half value)) (unchanged r) (word_stays off (low_half value) apart) refl)

apart_from : (off : ℕ) → is_no_table off ≡ true → (off < 256) ⊎ (272 ≤ off)
apart_from off e =
    elim (or_cases (nat_lt off 256) (nat_le 272 off) e) [ inl below ↦ inl (ltb-true off 256 below) | inr above ↦ inr (leb-true 272 off above) ]

-- of translator i, and what it leaves of the maps of translator j
pub write_stays : (u : Plain) (i j off size value : ℕ) → is_no_table off ≡ true → maps_of (written u i off size value) j ≡ maps_of u j
unfolding written
write_stays u i j off size value e =
    let t : Translator = translator u i in
    let w : Written = write_reg (regs_of u i) off size value in
    at_set u.translators i j (translator_written u.layout.shape t w)
    (cond_both (u.layout.shape.linux && has_same_tables t.regs w.regs) t.maps (emptied w.change t.maps) (λ (x : Maps). x ≡ maps_of u i) (λ _. refl)
    (λ _. reg_stays (maps_of u i) (regs_of u i) off size value (apart_from off e)))
