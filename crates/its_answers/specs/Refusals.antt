-- The lines of refusals.
use Rattle.std.specs.Prelude.{ℕ, ◌==◌, if◌then◌else◌, List, ◌++◌, codes, slice_index}
use Rattle.std.specs.Fmt.{decimal}
use Rattle.its_plain.specs.declared.desc.DescFault.{DescFault}
use Rattle.its_plain.specs.declared.desc.DescFault.TheVariants as desc_fault
use Rattle.its_plain.specs.declared.fault.SaveFault.{SaveFault}
use Rattle.event_script.specs.declared.fault.Kind.{Kind}
use Rattle.event_script.specs.declared.fault.Kind.TheVariants as kind
use Rattle.event_script.specs.declared.fault.ScriptFault.{ScriptFault}
use Rattle.its_history.specs.Texts.{its_mark, save_fault_text, restore_fault_text}
use Rattle.trace_check.specs.declared.verdict.Difference.{Difference}

unfoldable pub kind_text : Kind → List ℕ
kind_text kind.Cut = codes "cut"
kind_text kind.Text = codes "text"
kind_text kind.Word = codes "word"
kind_text kind.Order = codes "order"
kind_text kind.Missing = codes "missing"
kind_text kind.Fields = codes "fields"
kind_text kind.Number = codes "number"
kind_text kind.Hex = codes "hex"
kind_text kind.Many = codes "many"

unfoldable pub script_refusal : ScriptFault → List ℕ
script_refusal fault = codes "refused script " ++ decimal fault.line ++ codes " " ++ kind_text fault.kind ++ codes "\n"

-- where a translator's frames are described
unfoldable pub frames_text : ℕ → List ℕ
frames_text its = if its == 0 then codes "its-base" else codes "b-base"

-- of a script, whose fills stand in the first lines, and its requesters in the second
unfoldable pub cause_text : List ℕ → List ℕ → DescFault → List ℕ
cause_text fills requesters desc_fault.Windows = codes "windows"
cause_text fills requesters desc_fault.Config = codes "config"
cause_text fills requesters (desc_fault.Pending vcpu) = codes "pending " ++ decimal vcpu.0
cause_text fills requesters (desc_fault.Bytes fill) = codes "bytes " ++ decimal (slice_index fills fill)
cause_text fills requesters (desc_fault.Frames its) = frames_text its
cause_text fills requesters (desc_fault.Requesters n) = codes "requester " ++ decimal (slice_index requesters n)
cause_text fills requesters (desc_fault.Restore its fault) = codes "restore " ++ its_mark its ++ restore_fault_text fault

unfoldable pub machine_refusal : List ℕ → List ℕ → DescFault → List ℕ
machine_refusal fills requesters fault = codes "refused machine " ++ cause_text fills requesters fault ++ codes "\n"

-- of a leg, by its number from 1

unfoldable pub spent_refusal : ℕ → List ℕ
spent_refusal leg = codes "refused spent " ++ decimal leg ++ codes "\n"

unfoldable pub migration_refusal : ℕ → SaveFault → List ℕ
migration_refusal leg fault = codes "refused migration " ++ decimal leg ++ codes " " ++ save_fault_text fault ++ codes "\n"

-- ---- of a report

-- its first line that hasn't the shape of a report's, counted from 1
unfoldable pub trace_refusal : ℕ → List ℕ
trace_refusal line = codes "refused trace " ++ decimal line ++ codes "\n"

-- its first line that isn't right
unfoldable pub difference_text : Difference → List ℕ
difference_text d =
    codes "differs " ++ decimal d.leg ++ codes " " ++ decimal d.place ++ codes " said " ++ d.said ++ codes " is " ++ d.is ++ codes "\n"
