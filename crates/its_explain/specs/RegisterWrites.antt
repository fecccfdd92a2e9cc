-- What writes of a translator's registers came to, in words (IHI 0069, section 12.19).
use Rattle.std.specs.Prelude.{ℕ, Bool, true, ◌&&◌, ◌==◌, nat_lt, if◌then◌else◌, List, [], ◌++◌, codes, Option, Some, None}
use Rattle.call_facts.specs.declared.writes.WriteRule.{WriteRule}
use Rattle.call_facts.specs.declared.writes.WriteRule.TheVariants as write
use Rattle.gits_regs.specs.Registers.{is_valid, size_of}
use Rattle.its_plain.specs.Plain.{Plain}
use Rattle.its_explain.specs.Accesses.{part, kept_text, ignored_text}
use Rattle.its_explain.specs.Looks.{register_at}
use Rattle.its_explain.specs.Numbers.{in_hexadecimal, counted}
use Rattle.its_explain.specs.RegisterValues.{translator_register, translator_text}
use Rattle.its_explain.specs.declared.access.Access.{Access}
use Rattle.its_explain.specs.declared.facts.Counts.{Counts}
use Rattle.its_explain.specs.declared.facts.RegisterFact.{RegisterFact}

abbrev pub is_same : Counts → Counts → Bool
is_same had has = had.devices == has.devices && had.events == has.events && had.collections == has.collections

unfoldable pub devices_text : Counts → List ℕ
devices_text had = counted had.devices (codes "device") ++ codes " with " ++ counted had.events (codes "event")

-- devices where fewer are mapped, or collections
abbrev pub lost_text : Counts → Counts → List ℕ
lost_text had has = if nat_lt has.devices had.devices then devices_text had else counted had.collections (codes "collection")

unfoldable pub gone_text : Counts → Counts → List ℕ
gone_text had has = codes "; unmapped: " ++ lost_text had has

abbrev pub unmapped_text : Counts → Counts → List ℕ
unmapped_text had has = if is_same had has then [] else gone_text had has

abbrev pub kept_if : Access → ℕ → List ℕ
kept_if a after = if a.off == 0 then [] else kept_text a after

unfoldable pub taken_text : Access → RegisterFact → List ℕ
taken_text a f = translator_text a.off f.after ++ kept_if a f.after ++ unmapped_text f.had f.has

unfoldable pub same_text : ℕ → ℕ → List ℕ
same_text off value = translator_text off value ++ codes ", as before"

unfoldable pub while_enabled_text : Access → RegisterFact → List ℕ
while_enabled_text a f =
    ignored_text (translator_register a.off)
    ++ in_hexadecimal (codes " can't be written while the translator is enabled; kept ") (part a f.after)

abbrev pub separator : Bool → List ℕ
separator first = if first then codes " " else codes ", "

unfoldable pub separated : Bool → List ℕ → List ℕ
separated first name = separator first ++ name

-- a register whose bit 63 is 0, as the first of them or not
abbrev pub if_not_valid : Bool → List ℕ → ℕ → List ℕ
if_not_valid first name base = if is_valid base then [] else separated first name

abbrev pub are_valid : ℕ → ℕ → Bool
are_valid queue devices = is_valid queue && is_valid devices

-- those of GITS_CBASER, GITS_BASER0 and GITS_BASER1
unfoldable pub not_valid_text : ℕ → ℕ → ℕ → List ℕ
not_valid_text queue devices collections =
    if_not_valid true (codes "GITS_CBASER") queue ++ if_not_valid (is_valid queue) (codes "GITS_BASER0") devices
    ++ if_not_valid (are_valid queue devices) (codes "GITS_BASER1") collections

abbrev pub not_valid_of : Plain → ℕ → List ℕ
not_valid_of u its = not_valid_text (register_at u its 0x80) (register_at u its 0x100) (register_at u its 0x108)

unfoldable pub no_bases_text : Plain → ℕ → List ℕ
no_bases_text u its =
    codes "ignored: the translator can be enabled with valid bases alone; bit 63 is 0 in"
    ++ not_valid_of u its ++ codes " (section 12.19)"

-- how many bytes the queue has
abbrev pub queue_at : Plain → ℕ → ℕ
queue_at u its = size_of (register_at u its 0x80)

unfoldable pub past_queue_text : Plain → ℕ → Access → RegisterFact → List ℕ
past_queue_text u its a f =
    in_hexadecimal (codes "ignored: CWRITER ") a.value ++ in_hexadecimal (codes " is past the queue of ") (queue_at u its)
    ++ in_hexadecimal (codes ": kept ") f.after

unfoldable pub read_only_text : ℕ → List ℕ
read_only_text off = ignored_text (translator_register off) ++ codes " can only be read"

-- by the rule, on the machine after the write
abbrev pub by_rule : Plain → ℕ → Access → RegisterFact → Option WriteRule → List ℕ
by_rule u its a f (Some write.Taken) = taken_text a f
by_rule u its a f (Some write.Same) = same_text a.off f.after
by_rule u its a f (Some write.WhileEnabled) = while_enabled_text a f
by_rule u its a f (Some write.NoBases) = no_bases_text u its
by_rule u its a f (Some write.PastQueue) = past_queue_text u its a f
by_rule u its a f (Some write.ReadOnly) = read_only_text a.off
by_rule u its a f (Some write.NoRegister) = codes "ignored: no register here"
by_rule u its a f None = codes "ignored: there is no such translator"

abbrev pub write_text : Plain → ℕ → Access → RegisterFact → List ℕ
write_text u its a f = by_rule u its a f f.rule
