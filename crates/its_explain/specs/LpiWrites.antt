-- What writes of the LPI registers of a redistributor came to, in words (IHI 0069, section 12.11).
use Rattle.std.specs.Prelude.{ℕ, Bool, ◌==◌, nat_lt, if◌then◌else◌, List, [], ◌++◌, codes, Option, Some, None}
use Rattle.call_facts.specs.LpiWrites.{rule}
use Rattle.call_facts.specs.declared.lpi_writes.LpiRule.{LpiRule}
use Rattle.call_facts.specs.declared.lpi_writes.LpiRule.TheVariants as lpi
use Rattle.its_plain.specs.Plain.{Plain}
use Rattle.its_types.specs.Halves.{low_half}
use Rattle.its_types.specs.Ranges.{is_lpi}
use Rattle.its_types.specs.declared.translation.Bases.{Bases}
use Rattle.its_explain.specs.Accesses.{part, kept_text, ignored_text}
use Rattle.its_explain.specs.Numbers.{enclosed, in_hexadecimal, counted}
use Rattle.its_explain.specs.RegisterValues.{lpi_register, lpi_text}
use Rattle.its_explain.specs.declared.access.Access.{Access}
use Rattle.its_explain.specs.declared.facts.LpiRegisterFact.{LpiRegisterFact}

unfoldable pub while_on_text : Access → LpiRegisterFact → List ℕ
while_on_text a f =
    ignored_text (lpi_register a.off) ++ in_hexadecimal (codes " can't be written while LPIs are on; it reads ") (part a f.value)

unfoldable pub same_text : ℕ → ℕ → List ℕ
same_text off value = lpi_text off value ++ codes ", as before"

unfoldable pub on_text : ℕ → List ℕ
on_text pending = codes "GICR_CTLR: LPIs are on, with " ++ counted pending (codes "pending LPI")

unfoldable pub stay_off_text : Bases → List ℕ
stay_off_text after =
    in_hexadecimal (codes "ignored: LPIs stay off, since their tables at ") after.prop.table.0
    ++ in_hexadecimal (codes " and ") after.pend.table.0 ++ codes " don't both lie in one window each (section 12.11)"

abbrev pub turned_on_text : Bases → LpiRegisterFact → List ℕ
turned_on_text after f = if after.on then on_text f.has else stay_off_text after

abbrev pub pending_text : ℕ → List ℕ
pending_text count = if count == 1 then codes " that was pending" else codes " that were pending"

unfoldable pub without_text : ℕ → List ℕ
without_text count = codes ", without " ++ counted count (codes "LPI") ++ pending_text count

abbrev pub without_if : ℕ → List ℕ
without_if count = if nat_lt 0 count then without_text count else []

unfoldable pub off_text : ℕ → List ℕ
off_text had = codes "GICR_CTLR: LPIs are off" ++ without_if had

abbrev pub turned_off_text : Bases → LpiRegisterFact → List ℕ
turned_off_text after f =
    if after.on then codes "ignored: LPIs stay on; they can be turned off with `linux` alone" else off_text f.had

unfoldable pub base_text : Access → LpiRegisterFact → List ℕ
base_text a f = lpi_text a.off f.value ++ kept_text a f.value

-- of one LPI, if the number is one's
abbrev pub one_reread_text : ℕ → ℕ → List ℕ
one_reread_text bits intid =
    if is_lpi bits intid then enclosed (codes "the configuration of LPI ") intid (codes " is read again")
    else enclosed (codes "ignored: ") intid (codes " is no LPI's number (section 2.2)")

-- GICR_INVLPIR of one, GICR_INVALLR of all
abbrev pub reread_text : ℕ → Access → List ℕ
reread_text bits a =
    if a.off == 0xA0 then one_reread_text bits (low_half a.value) else codes "the configurations of all LPIs are read again"

abbrev pub reread_if : Bool → ℕ → Access → List ℕ
reread_if on bits a = if on then reread_text bits a else codes "ignored: LPIs are off, so no configuration is read"

-- by the rule, which is asked of the registers before the write
abbrev pub by_lpi_rule : Plain → Access → LpiRegisterFact → Bases → Bases → LpiRule → List ℕ
by_lpi_rule u a f before after lpi.NoRegister = codes "ignored: no LPI register here that can be written"
by_lpi_rule u a f before after lpi.WhileOn = while_on_text a f
by_lpi_rule u a f before after lpi.Same = same_text a.off f.value
by_lpi_rule u a f before after lpi.TurnsOn = turned_on_text after f
by_lpi_rule u a f before after lpi.TurnsOff = turned_off_text after f
by_lpi_rule u a f before after lpi.SetsBase = base_text a f
by_lpi_rule u a f before after lpi.Rereads = reread_if before.on u.layout.shape.lpi_bits a

abbrev pub between : Plain → Access → LpiRegisterFact → Bases → Bases → List ℕ
between u a f before after = by_lpi_rule u a f before after (rule before a.off a.size a.value)

abbrev pub of_bases : Plain → Access → LpiRegisterFact → Option Bases → Option Bases → List ℕ
of_bases u a f (Some before) (Some after) = between u a f before after
of_bases u a f (Some before) None = codes "ignored: there is no such processor"
of_bases u a f None after = codes "ignored: there is no such processor"

abbrev pub lpi_write_text : Plain → Access → LpiRegisterFact → List ℕ
lpi_write_text u a f = of_bases u a f f.before f.after
