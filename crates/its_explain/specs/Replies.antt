-- What calls that concern no event, device or collection came to, in words.
use Rattle.std.specs.Prelude.{ℕ, List, [], ◌++◌, codes, Option, Some, None}
use Rattle.call_facts.specs.declared.idle.IdleCause.{IdleCause}
use Rattle.call_facts.specs.declared.idle.IdleCause.TheVariants as idle
use Rattle.its_plain.specs.declared.call.Call.{Call}
use Rattle.its_plain.specs.declared.call.Call.TheVariants as call
use Rattle.its_plain.specs.declared.call.Route.{Route}
use Rattle.its_plain.specs.declared.call.Route.TheVariants as route
use Rattle.its_explain.specs.Numbers.{in_hexadecimal, counted}
use Rattle.its_explain.specs.declared.facts.Fact.{Fact}
use Rattle.its_explain.specs.declared.facts.Fact.TheVariants as fact

-- ---- a step without a command

abbrev pub idle_text : Option IdleCause → ℕ → List ℕ
idle_text (Some idle.NotEnabled) place = codes "the translator isn't enabled: bit 0 of GITS_CTLR is 0 (section 12.19.6)"
idle_text (Some idle.Empty) place = in_hexadecimal (codes "the queue is empty: CREADR and CWRITER are both ") place
idle_text None place = in_hexadecimal (codes "the queue is empty: CREADR and CWRITER are both ") place

abbrev pub idle_of : Fact → List ℕ
idle_of (fact.Idle cause place) = idle_text cause place
idle_of _ = []

unfoldable pub queue_fault_text : ℕ → List ℕ
queue_fault_text addr = in_hexadecimal (codes "the 32 bytes of the next command, at ") addr ++ codes ", don't lie in one window"

-- ---- guest memory

unfoldable pub written_text : ℕ → ℕ → List ℕ
written_text count addr = counted count (codes "byte") ++ in_hexadecimal (codes " of guest memory, written from ") addr ++ codes " on"

unfoldable pub read_text : ℕ → ℕ → List ℕ
read_text count addr = counted count (codes "byte") ++ in_hexadecimal (codes " of guest memory, from ") addr ++ codes " on"

abbrev pub route_text : Route → List ℕ
route_text (route.Signal its dev ev) = codes "the bytes don't all lie in one window"
route_text route.Poke = codes "the bytes don't all lie in one window"
route_text route.NoRequester = codes "the bytes don't all lie in one window"
route_text route.Frame = codes "the bytes meet a translator's frame, and are no message (section 12.19)"

abbrev pub outside_text : Call → List ℕ
outside_text (call.Dma req addr bytes to) = route_text to
outside_text _ = codes "the bytes don't all lie in one window"

unfoldable pub copied_text : ℕ → List ℕ
copied_text pages = counted pages (codes "page") ++ codes " written since the last copy, copied to the second memory"
