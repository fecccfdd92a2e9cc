-- The facts of calls by their kinds.
use Rattle.std.specs.Prelude.{Option, Some, None}
use Rattle.call_facts.specs.declared.lpis.LpiState.{LpiState}
use Rattle.call_facts.specs.declared.lpis.Waiting.{Waiting}
use Rattle.its_explain.specs.declared.facts.EventFact.{EventFact}
use Rattle.its_explain.specs.declared.facts.Fact.{Fact}
use Rattle.its_explain.specs.declared.facts.Fact.TheVariants as fact

-- that of a message, or of a command that names an event
abbrev pub event_fact : Fact → Option EventFact
event_fact (fact.Event f) = Some f
event_fact _ = None

-- what waited where an LPI was to be acknowledged
abbrev pub waiting_fact : Fact → Option Waiting
waiting_fact (fact.Waiting w) = Some w
waiting_fact _ = None

-- how an LPI stood that was claimed, if its number was an LPI's
abbrev pub claimed_fact : Fact → Option LpiState
claimed_fact (fact.Claimed s) = s
claimed_fact _ = None
