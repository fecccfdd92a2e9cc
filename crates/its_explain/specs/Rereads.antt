-- Which configurations commands read again, in words.
use Rattle.std.specs.Prelude.{ℕ, Bool, not, ◌&&◌, ◌==◌, if◌then◌else◌, List, [], ◌++◌, codes, Option, Some, None}
use Rattle.call_facts.specs.declared.lpis.LpiState.{LpiState}
use Rattle.its_explain.specs.Events.{lpi_text, place_text}
use Rattle.its_explain.specs.Numbers.{enclosed, in_hexadecimal}
use Rattle.its_explain.specs.declared.facts.EventFact.{EventFact}

-- ---- INV

abbrev pub enabled_text : Bool → List ℕ
enabled_text enabled = if enabled then codes "enabled" else codes "not enabled"

unfoldable pub configuration_text : LpiState → List ℕ
configuration_text s = enabled_text s.enabled ++ in_hexadecimal (codes " of priority ") s.priority

abbrev pub is_enabled_alike : LpiState → LpiState → Bool
is_enabled_alike was now = if was.enabled then now.enabled else not now.enabled

abbrev pub is_configured_alike : LpiState → LpiState → Bool
is_configured_alike was now = is_enabled_alike was now && was.priority == now.priority

unfoldable pub other_text : LpiState → List ℕ
other_text was = codes ", before " ++ configuration_text was

abbrev pub before_text : LpiState → LpiState → List ℕ
before_text was now = if is_configured_alike was now then codes ", as before" else other_text was

-- what the LPI's configuration was, and what it is
unfoldable pub between_text : EventFact → LpiState → LpiState → List ℕ
between_text f was now = place_text f.before.target ++ codes ": " ++ configuration_text now ++ before_text was now

abbrev pub between_if : EventFact → Option LpiState → Option LpiState → List ℕ
between_if f None None = []
between_if f None (Some now) = []
between_if f (Some was) None = []
between_if f (Some was) (Some now) = between_text f was now

unfoldable pub reread_text : EventFact → List ℕ
reread_text f = codes "the configuration of " ++ lpi_text f ++ codes " is read again" ++ between_if f f.was f.is

-- ---- INVALL

abbrev pub all_reread_text : ℕ → List ℕ
all_reread_text icid = enclosed (codes "the configurations of the LPIs of collection ") icid (codes " are read again")
