-- The lines of a script's body: legs, phases, threads and their calls.
use Rattle.std.specs.Prelude.{ℕ, Bool, true, false, not, ◌&&◌, ◌||◌, ◌==◌, nat_lt, if◌then◌else◌, List, [], ◌∷◌, ◌++◌, length, drop, is_some, Result, Ok, Err}
use Rattle.std.specs.List.{list_all}
use Rattle.std.specs.Option.{ok_or}
use Rattle.its_plain.specs.declared.call.Call.{Call}
use Rattle.event_script.specs.Outcome.{◌>>=◌, ensure}
use Rattle.event_script.specs.Fields.{arg}
use Rattle.event_script.specs.Words.{call_word_of}
use Rattle.event_script.specs.Described.{desc_so_far}
use Rattle.event_script.specs.Description.{at_start, in_description, in_phase, in_thread, is_ended, vcpus_line, processors_line, shards_line, limits_line, ids_line}
use Rattle.event_script.specs.Description.{profile_line, window_line, config_line, pending_line, gicr_line, restore_line, rrestore_line, bytes_line}
use Rattle.event_script.specs.Description.{from_kvm_line, word_fill_line, linux_line, track_line, pair_line, brestore_line, its_base_line, b_base_line, requester_line}
use Rattle.event_script.specs.Calls.{call_of}
use Rattle.event_script.specs.declared.fault.Kind.{Kind}
use Rattle.event_script.specs.declared.fault.Kind.TheVariants as kind
use Rattle.event_script.specs.declared.words.Keyword.{Keyword}
use Rattle.event_script.specs.declared.words.Keyword.TheVariants as on
use Rattle.event_script.specs.declared.words.CallWord.{CallWord}
use Rattle.event_script.specs.declared.words.CallWord.TheVariants as call_on
use Rattle.event_script.specs.declared.draft.Draft.{Draft}
use Rattle.event_script.specs.declared.draft.Stage.TheVariants as stage
use Rattle.event_script.specs.declared.draft.TheConstants.{MOST_LEGS, MOST_PHASES, MOST_THREADS, MOST_CALLS}
use Rattle.event_script.specs.declared.script.Move.{Move}
use Rattle.event_script.specs.declared.script.Move.TheVariants.{Migrate, Precopy}

-- the tables of the redistributors are described, or the guest programs them
abbrev pub has_tables : Draft → Bool
has_tables d = d.gicr || (is_some d.config && list_all is_some d.pending)

-- each line that a description must have was there
abbrev pub is_described : Draft → Bool
is_described d = is_some d.shards && nat_lt 0 (length d.windows) && has_tables d

-- nothing is missing where a phase begins, or a leg or the script ends: an open phase has a thread
abbrev pub is_whole : Draft → Bool
is_whole d = is_described d && not (in_phase d.stage)

-- the threads of the open phase, with the one that is open
abbrev pub threads_so_far : Draft → List (List Call)
threads_so_far d = if in_thread d.stage then d.threads ++ d.calls ∷ [] else d.threads

-- the phases of the open leg, with the one that is open
abbrev pub phases_so_far : Draft → List (List (List Call))
phases_so_far d = if in_thread d.stage then d.phases ++ (d.threads ++ d.calls ∷ []) ∷ [] else d.phases

-- the legs, with the one that is open
abbrev pub legs_so_far : Draft → List (List (List (List Call)))
legs_so_far d = d.legs ++ phases_so_far d ∷ []

-- the body goes on, or begins
abbrev pub may_go_on : Draft → Bool
may_go_on d = not (at_start d.stage) && not (is_ended d.stage)

unfoldable pub phase_line : Draft → List (List ℕ) → Result Draft Kind
phase_line d fs = do
  _ ← ensure (may_go_on d) kind.Order
  _ ← ensure (is_whole d) kind.Missing
  _ ← ensure (length fs == 1) kind.Fields
  _ ← ensure (nat_lt (length (phases_so_far d)) MOST_PHASES) kind.Many
  Ok (record d { stage = stage.Phase; phases = phases_so_far d; threads = []; calls = [] })

unfoldable pub thread_line : Draft → List (List ℕ) → Result Draft Kind
thread_line d fs = do
  _ ← ensure (in_phase d.stage || in_thread d.stage) kind.Order
  _ ← ensure (length fs == 1) kind.Fields
  _ ← ensure (nat_lt (length (threads_so_far d)) MOST_THREADS) kind.Many
  Ok (record d { stage = stage.Thread; threads = threads_so_far d; calls = [] })

-- a machine without a second memory is moved in one way alone
abbrev pub may_move : Bool → Move → Bool
may_move track Migrate = true
may_move track Precopy = track

-- a leg ends, and the next one begins
unfoldable pub move_line : Draft → Move → List (List ℕ) → Result Draft Kind
move_line d m fs = do
  _ ← ensure (may_go_on d && may_move d.track m) kind.Order
  _ ← ensure (is_whole d) kind.Missing
  _ ← ensure (length fs == 1) kind.Fields
  _ ← ensure (nat_lt (length (legs_so_far d)) MOST_LEGS) kind.Many
  Ok (record d { stage = stage.Leg; legs = legs_so_far d; moves = d.moves ++ m ∷ []; phases = []; threads = []; calls = [] })

unfoldable pub end_line : Draft → List (List ℕ) → Result Draft Kind
end_line d fs = do
  _ ← ensure (may_go_on d) kind.Order
  _ ← ensure (is_whole d) kind.Missing
  _ ← ensure (length fs == 1) kind.Fields
  Ok (record d { stage = stage.Ended; legs = legs_so_far d; phases = []; threads = []; calls = [] })

-- ---- calls

-- the registers of redistributors are the guest's, and there is a second memory, where a call is for them
abbrev pub may_call : Draft → CallWord → Bool
may_call d call_on.Rread = d.gicr
may_call d call_on.Rwrite = d.gicr
may_call d call_on.Copy = d.track
may_call d w = true

-- a call may stand here
abbrev pub takes_call : Draft → CallWord → Bool
takes_call d w = in_thread d.stage && may_call d w

-- and one of the second translator
abbrev pub takes_second : Draft → Bool
takes_second d = in_thread d.stage && d.pair

-- with one more call of the open thread
unfoldable pub with_call : Draft → Call → Result Draft Kind
with_call d c = do
  _ ← ensure (nat_lt (length d.calls) MOST_CALLS) kind.Many
  Ok (record d { calls = d.calls ++ c ∷ [] })

unfoldable pub call_line : Draft → CallWord → List (List ℕ) → Result Draft Kind
call_line d w fs = do
  _ ← ensure (takes_call d w) kind.Order
  c ← call_of (desc_so_far d) 0 w fs
  with_call d c

-- calls of which each translator has its own
abbrev pub is_translators : CallWord → Bool
is_translators call_on.Signal = true
is_translators call_on.Read = true
is_translators call_on.Write = true
is_translators call_on.Step = true
is_translators w = false

-- a call of the second translator: the fields from the second on are those of its line
unfoldable pub second_line : Draft → List (List ℕ) → Result Draft Kind
second_line d fs = do
  _ ← ensure (takes_second d) kind.Order
  _ ← ensure (nat_lt 1 (length fs)) kind.Fields
  w ← ok_or (call_word_of (arg fs 1)) kind.Order
  _ ← ensure (is_translators w) kind.Order
  c ← call_of (desc_so_far d) 1 w (drop 1 fs)
  with_call d c

-- it stands in the description too
abbrev pub is_fill_word : CallWord → Bool
is_fill_word call_on.Word = true
is_fill_word w = false

-- ---- lines by their first words

-- the n-th line, with the word of a call
unfoldable pub call_word_line : Draft → ℕ → CallWord → List (List ℕ) → Result Draft Kind
call_word_line d n w fs = if in_description d.stage && is_fill_word w then word_fill_line d n fs else call_line d w fs

-- the n-th line, with another first word
unfoldable pub keyword_line : Draft → ℕ → Keyword → List (List ℕ) → Result Draft Kind
keyword_line d n on.Vcpus fs = vcpus_line d fs
keyword_line d n on.Processors fs = processors_line d fs
keyword_line d n on.Shards fs = shards_line d fs
keyword_line d n on.Limits fs = limits_line d fs
keyword_line d n on.Ids fs = ids_line d fs
keyword_line d n on.Profile fs = profile_line d fs
keyword_line d n on.Window fs = window_line d fs
keyword_line d n on.Config fs = config_line d fs
keyword_line d n on.Pending fs = pending_line d fs
keyword_line d n on.Bytes fs = bytes_line d n fs
keyword_line d n on.Restore fs = restore_line d fs
keyword_line d n on.Gicr fs = gicr_line d fs
keyword_line d n on.Rrestore fs = rrestore_line d fs
keyword_line d n on.FromKvm fs = from_kvm_line d fs
keyword_line d n on.Linux fs = linux_line d fs
keyword_line d n on.Track fs = track_line d fs
keyword_line d n on.Pair fs = pair_line d fs
keyword_line d n on.Brestore fs = brestore_line d fs
keyword_line d n on.ItsBase fs = its_base_line d fs
keyword_line d n on.BBase fs = b_base_line d fs
keyword_line d n on.Requester fs = requester_line d n fs
keyword_line d n on.Phase fs = phase_line d fs
keyword_line d n on.Thread fs = thread_line d fs
keyword_line d n on.Migrate fs = move_line d Migrate fs
keyword_line d n on.Precopy fs = move_line d Precopy fs
keyword_line d n on.End fs = end_line d fs
-- it stands only where a report follows the script, which isn't read line by line
keyword_line d n on.Trace fs = Err kind.Order
keyword_line d n on.Second fs = second_line d fs
