-- A line but `rrestore` gives no redistributor registers to restore, and the guest programs the LPI registers after a line `gicr`.
use Rattle.std.proofs.Common.{◌≡◌, ℕ, zero, suc, ◌+◌, ◌-◌, ◌^◌, true, not, ◌&&◌, ◌||◌, nat_lt, nat_eq, List, length, drop, replicate, Option, None, Result, Ok}
use Rattle.std.proofs.Common.{Err, IfOk, refl}
use Rattle.std.specs.Prelude.{is_none, is_some}
use Rattle.std.specs.List.{AllByRecursion, list_all}
use Rattle.std.specs.Option.{ok_or}
use Rattle.gicr_regs.specs.declared.values.GicrRegisters.{GicrRegisters}
use Rattle.its_types.specs.Ranges.{most_vcpus}
use Rattle.its_plain.specs.declared.call.Call.{Call}
use Rattle.event_script.specs.Text.{number}
use Rattle.event_script.specs.Fields.{arg, number_within, any_number, address, device, processor, bytes_within}
use Rattle.event_script.specs.Outcome.{ensure}
use Rattle.event_script.specs.Words.{call_word_of}
use Rattle.event_script.specs.Described.{desc_so_far, most_stamp}
use Rattle.event_script.specs.Description.{at_start, in_description, in_phase, in_thread, is_shard_count, describes_tables, is_given, register_values}
use Rattle.event_script.specs.Description.{count_line, shards_line, limits_line, ids_line, profile_line, window_line, config_line, pending_line, gicr_line}
use Rattle.event_script.specs.Description.{from_kvm_line, linux_line, track_line, allow_pair, pair_line, frames_base, its_base_line, b_base_line}
use Rattle.event_script.specs.Description.{requester_line, restore_line, brestore_line, bytes_line, word_fill_line}
use Rattle.event_script.specs.Calls.{call_of}
use Rattle.event_script.specs.Body.{is_whole, may_go_on, threads_so_far, phases_so_far, legs_so_far, phase_line, thread_line, may_move, move_line, end_line}
use Rattle.event_script.specs.Body.{may_call, with_call, call_line, is_translators, second_line, is_fill_word, call_word_line, keyword_line}
use Rattle.event_script.specs.declared.fault.Kind.{Kind}
use Rattle.event_script.specs.declared.fault.Kind.TheVariants as kind
use Rattle.event_script.specs.declared.script.Move.{Move}
use Rattle.event_script.specs.declared.script.Move.TheVariants.{Migrate, Precopy}
use Rattle.event_script.specs.declared.words.CallWord.{CallWord}
use Rattle.event_script.specs.declared.words.Keyword.{Keyword}
use Rattle.event_script.specs.declared.words.Keyword.TheVariants as on
use Rattle.event_script.specs.declared.draft.Draft.{Draft}
use Rattle.event_script.specs.declared.draft.TheConstants.{FEW_VCPUS, MOST_LEGS, MOST_PHASES, MOST_THREADS, MOST_CALLS, MOST_REQUESTERS}
use Rattle.event_script.proofs.Steps.{bound, chosen}

-- no line gave registers of a processor
abbrev pub AreNone : List (Option GicrRegisters) → Type 0
AreNone places = AllByRecursion (λ (place : Option GicrRegisters). place ≡ None) places

none_given : (n : ℕ) → AreNone (replicate n None)
none_given zero = tt
none_given (suc n) = (refl, none_given n)

pub record Follows (d e : Draft) : Type 0 where
  pub registers : AreNone d.registers → AreNone e.registers
  pub gicr : d.gicr ≡ true → e.gicr ≡ true

pub same : (d : Draft) → Follows d d
same d = record { registers = λ n. n; gicr = λ g. g }

-- any line but one
abbrev pub IsOther : Keyword → Type 0
IsOther on.Rrestore = ⊥
IsOther _ = Unit {0}

module _ (d : Draft) where
  abbrev F : Draft → Type 0
  F = Follows d

  -- ---- lines of the description

  count : (least most : ℕ) (fs : List (List ℕ)) → IfOk (count_line least most d fs) F
  unfolding count_line
  count least most fs =
      bound F (ensure (at_start d.stage) kind.Order) _ (λ _. bound F (ensure (nat_eq (length fs) 2) kind.Fields) _ (λ _.
      bound F (number_within least most (arg fs 1)) _ (λ n. record { registers = λ _. none_given n; gicr = λ g. g })))

  shards : (fs : List (List ℕ)) → IfOk (shards_line d fs) F
  unfolding shards_line
  shards fs =
      bound F (ensure (in_description d.stage && is_none d.shards) kind.Order) _ (λ _. bound F (ensure (nat_eq (length fs) 2) kind.Fields) _ (λ _.
      bound F (number_within 1 64 (arg fs 1)) _ (λ n. bound F (ensure (is_shard_count n) kind.Number) _ (λ _. record { registers = λ n. n; gicr = λ g. g }))))

  limits : (fs : List (List ℕ)) → IfOk (limits_line d fs) F
  unfolding limits_line
  limits fs =
      bound F (ensure (in_description d.stage && is_none d.limits) kind.Order) _ (λ _. bound F (ensure (nat_eq (length fs) 3) kind.Fields) _ (λ _.
      bound F (number_within 1 (most_stamp d.pair) (arg fs 1)) _ (λ stamp. bound F (number_within 1 (2 ^ 40 - 1) (arg fs 2)) _
      (λ place. record { registers = λ n. n; gicr = λ g. g }))))

  ids : (fs : List (List ℕ)) → IfOk (ids_line d fs) F
  unfolding ids_line
  ids fs =
      bound F (ensure (in_description d.stage && is_none d.ids) kind.Order) _ (λ _. bound F (ensure (nat_eq (length fs) 3) kind.Fields) _ (λ _.
      bound F (number_within 16 20 (arg fs 1)) _ (λ dev. bound F (number_within 14 20 (arg fs 2)) _ (λ lpi. record { registers = λ n. n; gicr = λ g. g }))))

  profile : (fs : List (List ℕ)) → IfOk (profile_line d fs) F
  unfolding profile_line
  profile fs =
      bound F (ensure (in_description d.stage && is_none d.profile) kind.Order) _ (λ _. bound F (ensure (nat_eq (length fs) 2) kind.Fields) _ (λ _.
      bound F (number_within 1 2 (arg fs 1)) _ (λ n. record { registers = λ n. n; gicr = λ g. g })))

  window : (fs : List (List ℕ)) → IfOk (window_line d fs) F
  unfolding window_line
  window fs =
      bound F (ensure (in_description d.stage) kind.Order) _ (λ _. bound F (ensure (nat_eq (length fs) 3) kind.Fields) _ (λ _.
      bound F (address (arg fs 1)) _ (λ base. bound F (any_number (arg fs 2)) _ (λ len.
      bound F (ensure (nat_lt (length d.windows) 16) kind.Many) _ (λ _. record { registers = λ n. n; gicr = λ g. g })))))

  config : (fs : List (List ℕ)) → IfOk (config_line d fs) F
  unfolding config_line
  config fs =
      bound F (ensure (describes_tables d && is_none d.config) kind.Order) _ (λ _. bound F (ensure (nat_eq (length fs) 2) kind.Fields) _ (λ _.
      bound F (address (arg fs 1)) _ (λ base. record { registers = λ n. n; gicr = λ g. g })))

  pending : (fs : List (List ℕ)) → IfOk (pending_line d fs) F
  unfolding pending_line
  pending fs =
      bound F (ensure (describes_tables d && not (is_given d.pending (number (arg fs 1)))) kind.Order) _
      (λ _. bound F (ensure (nat_eq (length fs) 3) kind.Fields) _ (λ _.
      bound F (processor (length d.pending) (arg fs 1)) _ (λ vcpu. bound F (address (arg fs 2)) _ (λ base. record { registers = λ n. n; gicr = λ g. g }))))

  gicr : (fs : List (List ℕ)) → IfOk (gicr_line d fs) (λ e. F e × (e.gicr ≡ true))
  unfolding gicr_line
  gicr fs =
      let P : Draft → Type 0 = λ e. F e × (e.gicr ≡ true) in
      bound P (ensure (describes_tables d && is_none d.config && list_all is_none d.pending) kind.Order) _ (λ _.
      bound P (ensure (nat_eq (length fs) 1) kind.Fields) _ (λ _. (record { registers = λ n. n; gicr = λ _. refl }, refl)))

  linux : (fs : List (List ℕ)) → IfOk (linux_line d fs) F
  unfolding linux_line
  linux fs =
      bound F (ensure (in_description d.stage && not d.linux) kind.Order) _ (λ _.
      bound F (ensure (nat_eq (length fs) 1) kind.Fields) _ (λ _. record { registers = λ n. n; gicr = λ g. g }))

  track : (fs : List (List ℕ)) → IfOk (track_line d fs) F
  unfolding track_line
  track fs =
      bound F (ensure (in_description d.stage && not d.track) kind.Order) _ (λ _.
      bound F (ensure (nat_eq (length fs) 1) kind.Fields) _ (λ _. record { registers = λ n. n; gicr = λ g. g }))

  from_kvm : (fs : List (List ℕ)) → IfOk (from_kvm_line d fs) F
  unfolding from_kvm_line
  from_kvm fs =
      bound F (ensure (in_description d.stage && is_some d.first.restore && not d.from_kvm) kind.Order) _ (λ _.
      bound F (ensure (nat_eq (length fs) 1) kind.Fields) _ (λ _. record { registers = λ n. n; gicr = λ g. g }))

  pair : (fs : List (List ℕ)) → IfOk (pair_line d fs) F
  unfolding pair_line
  pair fs =
      bound F (ensure (in_description d.stage && not d.pair) kind.Order) _ (λ _. bound F (ensure (nat_eq (length fs) 1) kind.Fields) _ (λ _.
      bound F (ensure (allow_pair d.limits) kind.Number) _ (λ _. record { registers = λ n. n; gicr = λ g. g })))

  its_base : (fs : List (List ℕ)) → IfOk (its_base_line d fs) F
  unfolding its_base_line
  its_base fs =
      bound F (ensure (in_description d.stage && is_none d.first.frames) kind.Order) _ (λ _. bound F (ensure (nat_eq (length fs) 2) kind.Fields) _ (λ _.
      bound F (frames_base (arg fs 1)) _ (λ base. record { registers = λ n. n; gicr = λ g. g })))

  b_base : (fs : List (List ℕ)) → IfOk (b_base_line d fs) F
  unfolding b_base_line
  b_base fs =
      bound F (ensure (in_description d.stage && d.pair && is_none d.second.frames) kind.Order) _ (λ _.
      bound F (ensure (nat_eq (length fs) 2) kind.Fields) _ (λ _.
      bound F (frames_base (arg fs 1)) _ (λ base. record { registers = λ n. n; gicr = λ g. g })))

  requester : (n : ℕ) (fs : List (List ℕ)) → IfOk (requester_line d n fs) F
  unfolding requester_line
  requester n fs =
      bound F (ensure (in_description d.stage) kind.Order) _ (λ _. bound F (ensure (nat_eq (length fs) 4) kind.Fields) _ (λ _.
      bound F (number_within 0 (2 ^ 32 - 1) (arg fs 1)) _ (λ first. bound F (number_within 0 (2 ^ 32 - 1) (arg fs 2)) _ (λ last.
      bound F (device (arg fs 3)) _ (λ dev. bound F (ensure (nat_lt (length d.requesters) MOST_REQUESTERS) kind.Many) _ (λ _.
      record { registers = λ n. n; gicr = λ g. g }))))))

  brestore : (fs : List (List ℕ)) → IfOk (brestore_line d fs) F
  unfolding brestore_line
  brestore fs =
      bound F (ensure (in_description d.stage && d.pair && is_none d.second.restore) kind.Order) _ (λ _.
      bound F (ensure (nat_eq (length fs) 7) kind.Fields) _ (λ _.
      bound F (register_values fs) _ (λ values. record { registers = λ n. n; gicr = λ g. g })))

  restore : (fs : List (List ℕ)) → IfOk (restore_line d fs) F
  unfolding restore_line
  restore fs =
      bound F (ensure (in_description d.stage && is_none d.first.restore) kind.Order) _ (λ _. bound F (ensure (nat_eq (length fs) 7) kind.Fields) _ (λ _.
      bound F (register_values fs) _ (λ values. record { registers = λ n. n; gicr = λ g. g })))

  bytes : (n : ℕ) (fs : List (List ℕ)) → IfOk (bytes_line d n fs) F
  unfolding bytes_line
  bytes n fs =
      bound F (ensure (in_description d.stage) kind.Order) _ (λ _. bound F (ensure (nat_eq (length fs) 3) kind.Fields) _ (λ _.
      bound F (address (arg fs 1)) _ (λ addr. bound F (bytes_within 4096 (arg fs 2)) _ (λ bs. record { registers = λ n. n; gicr = λ g. g }))))

  word_fill : (n : ℕ) (fs : List (List ℕ)) → IfOk (word_fill_line d n fs) F
  unfolding word_fill_line
  word_fill n fs =
      bound F (ensure (nat_eq (length fs) 3) kind.Fields) _ (λ _.
      bound F (address (arg fs 1)) _ (λ addr. bound F (any_number (arg fs 2)) _ (λ value. record { registers = λ n. n; gicr = λ g. g })))

  -- ---- lines of the body

  phase : (fs : List (List ℕ)) → IfOk (phase_line d fs) F
  unfolding phase_line
  phase fs =
      bound F (ensure (may_go_on d) kind.Order) _ (λ _. bound F (ensure (is_whole d) kind.Missing) _ (λ _. bound F (ensure (nat_eq (length fs) 1) kind.Fields) _
      (λ _.
      bound F (ensure (nat_lt (length (phases_so_far d)) MOST_PHASES) kind.Many) _ (λ _. record { registers = λ n. n; gicr = λ g. g }))))

  thread : (fs : List (List ℕ)) → IfOk (thread_line d fs) F
  unfolding thread_line
  thread fs =
      bound F (ensure (in_phase d.stage || in_thread d.stage) kind.Order) _ (λ _. bound F (ensure (nat_eq (length fs) 1) kind.Fields) _ (λ _.
      bound F (ensure (nat_lt (length (threads_so_far d)) MOST_THREADS) kind.Many) _ (λ _. record { registers = λ n. n; gicr = λ g. g })))

  move : (m : Move) (fs : List (List ℕ)) → IfOk (move_line d m fs) F
  unfolding move_line
  move m fs =
      bound F (ensure (may_go_on d && may_move d.track m) kind.Order) _ (λ _. bound F (ensure (is_whole d) kind.Missing) _ (λ _.
      bound F (ensure (nat_eq (length fs) 1) kind.Fields) _ (λ _.
      bound F (ensure (nat_lt (length (legs_so_far d)) MOST_LEGS) kind.Many) _ (λ _. record { registers = λ n. n; gicr = λ g. g }))))

  end : (fs : List (List ℕ)) → IfOk (end_line d fs) F
  unfolding end_line
  end fs =
      bound F (ensure (may_go_on d) kind.Order) _ (λ _. bound F (ensure (is_whole d) kind.Missing) _ (λ _. bound F (ensure (nat_eq (length fs) 1) kind.Fields) _
      (λ _.
      record { registers = λ n. n; gicr = λ g. g })))

  one_more : (c : Call) → IfOk (with_call d c) F
  unfolding with_call
  one_more c = bound F (ensure (nat_lt (length d.calls) MOST_CALLS) kind.Many) _ (λ _. record { registers = λ n. n; gicr = λ g. g })

  call : (w : CallWord) (fs : List (List ℕ)) → IfOk (call_line d w fs) F
  unfolding call_line
  call w fs = bound F (ensure (in_thread d.stage && may_call d w) kind.Order) _ (λ _. bound F (call_of (desc_so_far d) 0 w fs) _ one_more)

  second : (fs : List (List ℕ)) → IfOk (second_line d fs) F
  unfolding second_line
  second fs =
      bound F (ensure (in_thread d.stage && d.pair) kind.Order) _ (λ _. bound F (ensure (nat_lt 1 (length fs)) kind.Fields) _ (λ _.
      bound F (ok_or (call_word_of (arg fs 1)) kind.Order) _ (λ w. bound F (ensure (is_translators w) kind.Order) _ (λ _.
      bound F (call_of (desc_so_far d) 1 w (drop 1 fs)) _ one_more))))

  pub call_follows : (n : ℕ) (w : CallWord) (fs : List (List ℕ)) → IfOk (call_word_line d n w fs) F
  unfolding call_word_line
  call_follows n w fs =
      chosen {A = Result Draft Kind} (λ r. IfOk r F) (in_description d.stage && is_fill_word w) _ _ (λ _. word_fill n fs) (λ _. call w fs)

  if_ok_both : (Q : Draft → Type 0) (r : Result Draft Kind) → IfOk r (λ e. F e × Q e) → IfOk r F
  if_ok_both Q (Ok e) h = h.0
  if_ok_both Q (Err k) h = tt

  pub line_follows : (n : ℕ) (k : Keyword) (fs : List (List ℕ)) → IsOther k → IfOk (keyword_line d n k fs) F
  unfolding keyword_line
  line_follows n on.Vcpus fs other = count 1 FEW_VCPUS fs
  line_follows n on.Processors fs other = count (FEW_VCPUS + 1) most_vcpus fs
  line_follows n on.Shards fs other = shards fs
  line_follows n on.Limits fs other = limits fs
  line_follows n on.Ids fs other = ids fs
  line_follows n on.Profile fs other = profile fs
  line_follows n on.Window fs other = window fs
  line_follows n on.Config fs other = config fs
  line_follows n on.Pending fs other = pending fs
  line_follows n on.Bytes fs other = bytes n fs
  line_follows n on.Restore fs other = restore fs
  line_follows n on.Gicr fs other = if_ok_both (λ e. e.gicr ≡ true) (gicr_line d fs) (gicr fs)
  line_follows n on.Rrestore fs other = absurd other
  line_follows n on.FromKvm fs other = from_kvm fs
  line_follows n on.Linux fs other = linux fs
  line_follows n on.Track fs other = track fs
  line_follows n on.Pair fs other = pair fs
  line_follows n on.Brestore fs other = brestore fs
  line_follows n on.ItsBase fs other = its_base fs
  line_follows n on.BBase fs other = b_base fs
  line_follows n on.Requester fs other = requester n fs
  line_follows n on.Phase fs other = phase fs
  line_follows n on.Thread fs other = thread fs
  line_follows n on.Migrate fs other = move Migrate fs
  line_follows n on.Precopy fs other = move Precopy fs
  line_follows n on.End fs other = end fs
  line_follows n on.Trace fs other = tt
  line_follows n on.Second fs other = second fs

  pub gicr_follows : (n : ℕ) (fs : List (List ℕ)) → IfOk (keyword_line d n on.Gicr fs) (λ e. F e × (e.gicr ≡ true))
  unfolding keyword_line
  gicr_follows n fs = gicr fs
