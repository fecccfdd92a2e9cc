-- What is printed of a run of a generated script.
use Rattle.std.specs.Prelude.{◌≡◌, ◌<◌, ℕ, ◌+◌, ◌^◌, Bool, true, false, ◌&&◌, List, [], ◌∷◌, ◌++◌, codes, count_by, length}
use Rattle.std.specs.List.{AllByRecursion}
use Rattle.std.specs.Fmt.{decimal}
use Rattle.its_types.specs.Bits.{bit}
use Rattle.its_types.specs.declared.machine.Placed.{Placed}
use Rattle.its_plain.specs.Runs.{IsOfPasses}
use Rattle.its_plain.specs.declared.call.Call.{Call}
use Rattle.its_plain.specs.declared.call.Call.TheVariants as call
use Rattle.its_plain.specs.declared.call.Entry.{Entry}
use Rattle.its_plain.specs.declared.call.Reply.{Reply}
use Rattle.its_plain.specs.declared.call.Reply.TheVariants as reply
use Rattle.its_plain.specs.declared.call.Signal.TheVariants.{Delivered}
use Rattle.its_plain.specs.declared.call.StepReply.TheVariants.{Ran}
use Rattle.its_history.specs.Histories.{Seat, passes_lines}
use Rattle.its_history.specs.Merged.{all_lines}
use Rattle.its_history.specs.declared.threads.ThreadList.{ThreadList}
use Rattle.script_gen.specs.declared.counts.Counts.{Counts}

-- ---- counts

abbrev pub is_signal : Call → Bool
is_signal (call.Signal its dev ev) = true
is_signal _ = false

abbrev pub is_step : Call → Bool
is_step (call.Step its) = true
is_step _ = false

abbrev pub is_delivered : Reply → Bool
is_delivered (reply.Signal (Delivered vcpu intid)) = true
is_delivered _ = false

abbrev pub has_run : Reply → Bool
has_run (reply.Step (Ran op)) = true
has_run _ = false

-- those of a history
abbrev pub counts_of : List Entry → Counts
counts_of h = record {
  signals = count_by (λ (e : Entry). is_signal e.call) h;
  delivered = count_by (λ (e : Entry). is_signal e.call && is_delivered e.reply) h;
  commands = count_by (λ (e : Entry). is_step e.call) h;
  ran = count_by (λ (e : Entry). is_step e.call && has_run e.reply) h;
}

-- ---- counting

abbrev pub none : Counts
none = record { signals = 0; delivered = 0; commands = 0; ran = 0 }

-- one more call, with its reply
abbrev pub with_call : Call → Reply → Counts → Counts
with_call c r n = record {
  signals = n.signals + bit (is_signal c);
  delivered = n.delivered + bit (is_signal c && is_delivered r);
  commands = n.commands + bit (is_step c);
  ran = n.ran + bit (is_step c && has_run r);
}

-- a thread's calls that have a reply
abbrev pub with_replies : List Call → List (Placed Reply) → Counts → Counts
with_replies (c ∷ cs) (r ∷ rs) n = with_replies cs rs (with_call c r.reply n)
with_replies _ _ n = n

abbrev pub with_lists : List ThreadList → Counts → Counts
with_lists [] n = n
with_lists (l ∷ lists) n = with_lists lists (with_replies l.calls.now l.replies n)

-- so many more can be counted
pub record HasRoomFor (more : ℕ) (n : Counts) : Type 0 where
  pub signals : n.signals + more < 2 ^ 64
  pub delivered : n.delivered + more < 2 ^ 64
  pub commands : n.commands + more < 2 ^ 64
  pub ran : n.ran + more < 2 ^ 64

-- lists that have just the lines of a history's passes have the history's counts
abbrev pub ListsTellCounts : Type 0
ListsTellCounts = (seat : ℕ → Seat) (pass count place : ℕ) (h : List Entry) (lists : List ThreadList)
    → AllByRecursion (IsOfPasses pass count) h → all_lines lists ≡ passes_lines seat pass count place h → with_lists lists none ≡ counts_of h

-- and as many lines as the history has entries
abbrev pub ListsTellLength : Type 0
ListsTellLength = (seat : ℕ → Seat) (pass count place : ℕ) (h : List Entry) (lists : List ThreadList)
    → AllByRecursion (IsOfPasses pass count) h → all_lines lists ≡ passes_lines seat pass count place h → length (all_lines lists) ≡ length h

-- ---- text

abbrev pub vcpu_line : ℕ → ℕ → List ℕ
vcpu_line vcpu count = codes "vcpu " ++ decimal vcpu ++ codes " pending " ++ decimal count ++ codes "\n"

-- how many LPIs are pending at each virtual processor from one on
abbrev pub vcpu_lines : ℕ → List ℕ → List ℕ
vcpu_lines vcpu [] = []
vcpu_lines vcpu (count ∷ counts) = vcpu_line vcpu count ++ vcpu_lines (vcpu + 1) counts

unfoldable pub signals_line : Counts → List ℕ
signals_line n = codes "signals " ++ decimal n.signals ++ codes " delivered " ++ decimal n.delivered ++ codes "\n"

unfoldable pub commands_line : Counts → List ℕ
commands_line n = codes "commands " ++ decimal n.commands ++ codes " ran " ++ decimal n.ran ++ codes "\n"

-- of a run with one migration
unfoldable pub summary : Counts → List ℕ → List ℕ
summary n pending = signals_line n ++ commands_line n ++ codes "migrated 1\n" ++ vcpu_lines 0 pending
