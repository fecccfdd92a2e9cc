-- The report of a run: legs from 1; in each the entries by place, a line for each virtual processor, and how it ended.
use Rattle.std.specs.Prelude.{ℕ, ◌+◌, List, [], ◌∷◌, ◌++◌, codes, Option, Some, None}
use Rattle.std.specs.List.{flat_map}
use Rattle.std.specs.Fmt.{decimal}
use Rattle.its_plain.specs.declared.call.Call.{Call}
use Rattle.its_plain.specs.declared.call.Reply.{Reply}
use Rattle.its_history.specs.Texts.{answered_text}
use Rattle.its_history.specs.declared.trace.End.{End}
use Rattle.its_history.specs.declared.trace.End.TheVariants.{Migrated, Copied, Done}
use Rattle.its_history.specs.declared.trace.EntryLine.{EntryLine}
use Rattle.its_history.specs.declared.trace.Leg.{Leg}

-- what an entry's line says after its place: its phase and thread, and its text
unfoldable pub told_text : ℕ → ℕ → List ℕ → List ℕ
told_text phase thread text = decimal phase ++ codes "." ++ decimal thread ++ codes " " ++ text

-- the line of an entry, without its end
unfoldable pub line_text : EntryLine → List ℕ
line_text l = decimal l.place ++ codes " " ++ told_text l.phase l.thread l.text

abbrev pub line_of : ℕ → ℕ → ℕ → Call → Reply → EntryLine
line_of place phase thread c r = record { place = place; phase = phase; thread = thread; text = answered_text c r }

abbrev pub entry_text : ℕ → ℕ → ℕ → Call → Reply → List ℕ
entry_text place phase thread c r = line_text (line_of place phase thread c r)

-- the interrupts that are pending, with a space between each two, or none
abbrev pub pending_text : List ℕ → List ℕ
pending_text [] = codes "none"
pending_text (n ∷ ns) = decimal n ++ flat_map (λ m. codes " " ++ decimal m) ns

-- the line of a virtual processor, without its end
unfoldable pub vcpu_text : ℕ → List ℕ → List ℕ
vcpu_text vcpu pending = codes "vcpu " ++ decimal vcpu ++ codes " pending " ++ pending

abbrev pub vcpu_line : ℕ → List ℕ → List ℕ
vcpu_line vcpu pending = vcpu_text vcpu pending ++ codes "\n"

abbrev pub vcpu_lines_from : ℕ → List (List ℕ) → List ℕ
vcpu_lines_from vcpu [] = []
vcpu_lines_from vcpu (pending ∷ others) = vcpu_line vcpu pending ++ vcpu_lines_from (vcpu + 1) others

abbrev pub entry_lines : List EntryLine → List ℕ
entry_lines lines = flat_map (λ l. line_text l ++ codes "\n") lines

-- the line that tells how a leg ended, without its end
unfoldable pub end_text : End → List ℕ
end_text Migrated = codes "migrated"
end_text (Copied pages) = codes "migrated copied " ++ pages
end_text Done = codes "done"

abbrev pub end_line : Option End → List ℕ
end_line None = []
end_line (Some end) = end_text end ++ codes "\n"

unfoldable pub leg_text : ℕ → Leg → List ℕ
leg_text number leg = codes "leg " ++ decimal number ++ codes "\n" ++ entry_lines leg.entries ++ vcpu_lines_from 0 leg.pending ++ end_line leg.end

abbrev pub legs_from : ℕ → List Leg → List ℕ
legs_from number [] = []
legs_from number (leg ∷ legs) = leg_text number leg ++ legs_from (number + 1) legs

abbrev pub report_text : List Leg → List ℕ
report_text legs = legs_from 1 legs
