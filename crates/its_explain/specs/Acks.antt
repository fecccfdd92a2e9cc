-- What acknowledgements came to, in words.
use Rattle.std.specs.Prelude.{ℕ, Bool, true, if◌then◌else◌, List, [], ◌++◌, codes, Option, Some, None}
use Rattle.call_facts.specs.declared.lpis.LpiState.{LpiState}
use Rattle.call_facts.specs.declared.lpis.Waiting.{Waiting}
use Rattle.call_facts.specs.declared.lpis.Waiting.TheVariants as waiting
use Rattle.its_plain.specs.declared.call.Ack.{Ack}
use Rattle.its_plain.specs.declared.call.Ack.TheVariants as ack
use Rattle.its_types.specs.declared.translation.Bases.{Bases}
use Rattle.its_explain.specs.Facts.{waiting_fact, claimed_fact}
use Rattle.its_explain.specs.Numbers.{numbered, enclosed, in_hexadecimal}
use Rattle.its_explain.specs.declared.facts.Fact.{Fact}

abbrev pub lowest_text : ℕ → List ℕ → List ℕ
lowest_text vcpu = enclosed (codes "the lowest that is pending and enabled at processor ") vcpu

unfoldable pub not_enabled_text : ℕ → ℕ → List ℕ
not_enabled_text vcpu intid =
    numbered (codes "LPI ") intid ++ numbered (codes " is pending at processor ") vcpu ++ codes ", and not enabled: "
    ++ codes "bit 0 of its configuration byte was 0 when that was last read (section 5.1.1)"

-- ---- no LPI to acknowledge

abbrev pub switch_text : Bool → List ℕ
switch_text on = if on then codes " (section 5.1)" else codes ": LPIs are off there (EnableLPIs of GICR_CTLR, section 12.11)"

-- by the LPI registers of the processor, if there is one
abbrev pub off_text : Option Bases → List ℕ
off_text None = switch_text true
off_text (Some b) = switch_text b.on

unfoldable pub nothing_text : Option Bases → ℕ → List ℕ
nothing_text bases vcpu = numbered (codes "no LPI is pending at processor ") vcpu ++ off_text bases

-- where only those below a mask were asked for
abbrev pub below_text : Option ℕ → List ℕ
below_text None = []
below_text (Some mask) = in_hexadecimal (codes ", which isn't below ") mask

unfoldable pub first_text : ℕ → ℕ → ℕ → Option ℕ → List ℕ
first_text vcpu intid priority mask =
    numbered (codes "the first at processor ") vcpu ++ numbered (codes " is LPI ") intid ++ in_hexadecimal (codes " of priority ") priority ++ below_text mask

-- by what waited there
abbrev pub none_text : Option Bases → ℕ → Option ℕ → Waiting → List ℕ
none_text bases vcpu mask waiting.Nothing = nothing_text bases vcpu
none_text bases vcpu mask (waiting.NotEnabled intid) = not_enabled_text vcpu intid.0
none_text bases vcpu mask (waiting.Enabled intid priority) = first_text vcpu intid.0 priority mask

abbrev pub none_of : Option Bases → ℕ → Option ℕ → Option Waiting → List ℕ
none_of bases vcpu mask None = []
none_of bases vcpu mask (Some w) = none_text bases vcpu mask w

-- ---- each call

unfoldable pub best_text : ℕ → ℕ → List ℕ
best_text vcpu mask = numbered (codes "the first by priority at processor ") vcpu ++ in_hexadecimal (codes ", of those below ") mask

abbrev pub take_text : Option Bases → Fact → ℕ → Ack → List ℕ
take_text bases f vcpu (ack.Some intid priority) = lowest_text vcpu (codes ", and not pending any more")
take_text bases f vcpu ack.None = none_of bases vcpu None (waiting_fact f)

abbrev pub show_text : Option Bases → Fact → ℕ → Ack → List ℕ
show_text bases f vcpu (ack.Some intid priority) = lowest_text vcpu []
show_text bases f vcpu ack.None = none_of bases vcpu None (waiting_fact f)

abbrev pub first_below_text : Option Bases → Fact → ℕ → ℕ → Ack → List ℕ
first_below_text bases f vcpu mask (ack.Some intid priority) = best_text vcpu mask
first_below_text bases f vcpu mask ack.None = none_of bases vcpu (Some mask) (waiting_fact f)

abbrev pub claimed_text : ℕ → List ℕ
claimed_text vcpu = enclosed (codes "it was pending and enabled at processor ") vcpu (codes ", and isn't pending any more")

unfoldable pub not_pending_text : ℕ → ℕ → List ℕ
not_pending_text vcpu intid = numbered (codes "LPI ") intid ++ numbered (codes " isn't pending at processor ") vcpu

abbrev pub no_lpi_text : ℕ → List ℕ
no_lpi_text intid = enclosed [] intid (codes " is no LPI's number (section 2.2)")

-- by how the LPI stood
abbrev pub not_claimed_text : ℕ → ℕ → Option LpiState → List ℕ
not_claimed_text vcpu intid None = no_lpi_text intid
not_claimed_text vcpu intid (Some s) = if s.pending then not_enabled_text vcpu intid else not_pending_text vcpu intid

abbrev pub claim_text : Fact → ℕ → ℕ → Ack → List ℕ
claim_text f vcpu intid (ack.Some i p) = claimed_text vcpu
claim_text f vcpu intid ack.None = not_claimed_text vcpu intid (claimed_fact f)
